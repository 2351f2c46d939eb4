-- What a file holds that is written from its front to its end.
use Rattle.std.proofs.Common.{◌≡◌, ℕ, ◌+◌, ◌-◌, ◌<◌, ◌≤◌, List, [], ◌∷◌, ◌++◌, length, take, drop, replicate, arith, ap, ◌∙◌, sym}
use Rattle.std.proofs.lemmas.List.{append_assoc, append-nil, drop-drop, take_all, drop_all, take-replicate, take_more, length-append, length-drop, length-replicate, length-take, length-take-le, replicate-append-replicate, replicate_more}
use Rattle.std.proofs.lemmas.Nat.{le_or_l, le_or_r}
use Rattle.std.proofs.Math.ListN.{get_or}
use Rattle.std.specs.Int.Bits.{bit_or}
use Rattle.std.proofs.Math.Seq.{take-add, take-append-add}
use Rattle.file_calls.specs.Kept.{with_len, with_bytes}

-- zeros, and zeros behind them
zeros_join : (b : List ℕ) (from place end : ℕ) → from ≤ place → place ≤ end → take (place - from) (drop from b) ≡ replicate (place - from) 0 → take (end - place) (drop place b) ≡ replicate (end - place) 0 → take (end - from) (drop from b) ≡ replicate (end - from) 0
zeros_join b from place end low high front rest =
    let e : end - from ≡ (place - from) + (end - place) = omega arith in
    let f : from + (place - from) ≡ place = omega arith in
    let back : take (end - place) (drop (place - from) (drop from b)) ≡ replicate (end - place) 0 = ap (take (end - place)) (drop-drop (place - from) from b ∙ ap (λ (n : ℕ). drop n b) f) ∙ rest in
    ap (λ (n : ℕ). take n (drop from b)) e
    ∙ take-add (place - from) (end - place) (drop from b)
    ∙ ap (λ (l : List ℕ). l ++ take (end - place) (drop (place - from) (drop from b))) front
    ∙ ap (λ (l : List ℕ). replicate (place - from) 0 ++ l) back
    ∙ replicate-append-replicate (place - from) (end - place) 0
    ∙ ap (λ (n : ℕ). replicate n 0) (sym e)

-- how long a part is
pub slice_length : (b : List ℕ) (from to : ℕ) → to ≤ length b → length (take (to - from) (drop from b)) ≡ to - from
slice_length b from to inside = let all = length-drop from b in length-take-le (to - from) (drop from b) (omega (arith, all, inside))

-- zeros that are found behind zeros
pub zeros_next : (b : List ℕ) (from place end : ℕ) → from ≤ place → place ≤ end → end ≤ length b → take (place - from) (drop from b) ≡ replicate (place - from) 0 → take (end - place) (drop place b) ≡ replicate (length (take (end - place) (drop place b))) 0 → take (end - from) (drop from b) ≡ replicate (end - from) 0
zeros_next b from place end low high inside front rest =
    zeros_join b from place end low high front (rest ∙ ap (λ (n : ℕ). replicate n 0) (slice_length b place end inside))

-- a byte more
pub zeros_more : (b : List ℕ) (i seen : ℕ) → i < length b → bit_or seen (get_or b i 0) ≡ 0 → (seen ≡ 0 → take i b ≡ replicate i 0) → take (i + 1) b ≡ replicate (i + 1) 0
zeros_more b i seen inside none front =
    let left = le_or_l seen (get_or b i 0) in
    let right = le_or_r seen (get_or b i 0) in
    let no : seen ≡ 0 = omega (arith, left, none) in
    let here : get_or b i 0 ≡ 0 = omega (arith, right, none) in
    take_more b i 0 inside
    ∙ ap (λ (l : List ℕ). l ++ get_or b i 0 ∷ []) (front no)
    ∙ ap (λ (n : ℕ). replicate i 0 ++ n ∷ []) here
    ∙ replicate_more i 0

-- a list that is filled with zeros
len_of : (x : List ℕ) (n : ℕ) → length x ≤ n → with_len x n ≡ x ++ replicate (n - length x) 0
len_of x n short =
    let e : n ≡ length x + (n - length x) = omega arith in
    let low : n - length x ≤ n = omega arith in
    ap (λ (m : ℕ). take m (x ++ replicate n 0)) e
    ∙ take-append-add x (replicate n 0) (n - length x)
    ∙ ap (λ (l : List ℕ). x ++ l) (take-replicate (n - length x) n 0 low)

-- zeros that are left out
pub len_more : (x : List ℕ) (n k : ℕ) → length x ≤ n → with_len x (n + k) ≡ with_len x n ++ replicate k 0
len_more x n k short =
    let more : length x ≤ n + k = omega arith in
    let e : n + k - length x ≡ (n - length x) + k = omega arith in
    len_of x (n + k) more
    ∙ ap (λ (m : ℕ). x ++ replicate m 0) e
    ∙ ap (λ (l : List ℕ). x ++ l) (sym (replicate-append-replicate (n - length x) k 0))
    ∙ sym (append_assoc x (replicate (n - length x) 0) (replicate k 0))
    ∙ ap (λ (l : List ℕ). l ++ replicate k 0) (sym (len_of x n short))

filled_length : (x : List ℕ) (n : ℕ) → length x ≤ n → length (x ++ replicate (n - length x) 0) ≡ n
filled_length x n short = length-append x (replicate (n - length x) 0) ∙ ap (λ (m : ℕ). length x + m) (length-replicate (n - length x) 0) ∙ omega arith

-- bytes that are written behind what is there
behind : (x : List ℕ) (n : ℕ) (byte : ℕ) (part : List ℕ) → length x ≤ n → with_bytes x n (byte ∷ part) ≡ with_len x n ++ (byte ∷ part)
behind x n byte part short =
    let y : List ℕ = x ++ replicate (n - length x) 0 in
    let len : length y ≡ n = filled_length x n short in
    let low : length y ≤ n = omega (arith, len) in
    let past : length y ≤ n + length (byte ∷ part) = omega (arith, len) in
    ap (λ (l : List ℕ). l ++ ((byte ∷ part) ++ drop (n + length (byte ∷ part)) y)) (take_all n y low)
    ∙ ap (λ (l : List ℕ). y ++ ((byte ∷ part) ++ l)) (drop_all (n + length (byte ∷ part)) y past)
    ∙ ap (λ (l : List ℕ). y ++ l) (append-nil (byte ∷ part))
    ∙ ap (λ (l : List ℕ). l ++ (byte ∷ part)) (sym (len_of x n short))

len_len : (x : List ℕ) (n : ℕ) → length x ≤ n → length (with_len x n) ≡ n
len_len x n short = ap length (len_of x n short) ∙ filled_length x n short

-- a list of just so many
pub whole : (x : List ℕ) (n : ℕ) → length x ≡ n → with_len x n ≡ x
whole x n is =
    let short : length x ≤ n = omega (arith, is) in
    let e : n - length x ≡ 0 = omega (arith, is) in
    len_of x n short ∙ ap (λ (m : ℕ). x ++ replicate m 0) e ∙ append-nil x

pub written : (x : List ℕ) (n : ℕ) (part : List ℕ) → length x ≤ n → with_len (with_bytes x n part) (n + length part) ≡ with_len x n ++ part
written x n [] short = len_more x n 0 short
written x n (byte ∷ part) short =
    let is : length (with_len x n ++ (byte ∷ part)) ≡ n + length (byte ∷ part) = length-append (with_len x n) (byte ∷ part) ∙ ap (λ (m : ℕ). m + length (byte ∷ part)) (len_len x n short) in
    ap (λ (l : List ℕ). with_len l (n + length (byte ∷ part))) (behind x n byte part short)
    ∙ whole (with_len x n ++ (byte ∷ part)) (n + length (byte ∷ part)) is

-- no more is there than what is written
pub written_short : (x : List ℕ) (n : ℕ) (part : List ℕ) → length x ≤ n → length (with_bytes x n part) ≤ n + length part
written_short x n [] short = omega arith
written_short x n (byte ∷ part) short =
    let is : length (with_bytes x n (byte ∷ part)) ≡ n + length (byte ∷ part) = ap length (behind x n byte part short) ∙ length-append (with_len x n) (byte ∷ part) ∙ ap (λ (m : ℕ). m + length (byte ∷ part)) (len_len x n short) in
    omega (arith, is)

-- no more is there than the length that is set
pub cut_short : (x : List ℕ) (n : ℕ) → length (with_len x n) ≤ n
cut_short x n = let e = length-take n (x ++ replicate n 0) in omega (arith, e)

-- a front, the zeros behind it, and a piece behind these
pub piece : (h b : List ℕ) (done from to : ℕ) → done ≤ from → from ≤ to → take (from - done) (drop done b) ≡ replicate (from - done) 0 → h ++ take done b ++ replicate (from - done) 0 ++ take (to - from) (drop from b) ≡ h ++ take to b
piece h b done from to low high zeros =
    let e : from ≡ done + (from - done) = omega arith in
    let f : to ≡ from + (to - from) = omega arith in
    let front : take from b ≡ take done b ++ replicate (from - done) 0 = ap (λ (n : ℕ). take n b) e ∙ take-add done (from - done) b ∙ ap (λ (l : List ℕ). take done b ++ l) zeros in
    let all : take to b ≡ take from b ++ take (to - from) (drop from b) = ap (λ (n : ℕ). take n b) f ∙ take-add from (to - from) b in
    ap (λ (l : List ℕ). l ++ take (to - from) (drop from b)) (append_assoc h (take done b) (replicate (from - done) 0))
    ∙ ap (λ (l : List ℕ). h ++ l ++ take (to - from) (drop from b)) (sym front)
    ∙ append_assoc h (take from b) (take (to - from) (drop from b))
    ∙ ap (λ (l : List ℕ). h ++ l) (sym all)
