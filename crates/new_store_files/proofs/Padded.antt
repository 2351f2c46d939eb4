-- Bytes with zeros behind them, as they are read.
use Rattle.std.proofs.Common.{◌≡◌, ℕ, ◌+◌, ◌-◌, ◌<◌, ◌≤◌, List, ◌++◌, length, take, drop, get_or, replicate, Bool, true, false, arith, rules, refl, ap, ◌∙◌, sym, Option, Some, None, if◌then◌else◌, length-append}
use Rattle.std.specs.Prelude.{◌==◌}
use Rattle.std.specs.Option.{IfSome}
use Rattle.std.proofs.lemmas.Bool.{eqb-true, eq-eqb, cond-true}
use Rattle.std.proofs.lemmas.List.{places, same_lists, get_or_append_left, length-replicate}
use Rattle.new_store_files.specs.Padding.{padded, known_padded}

-- a fact of bytes with zeros behind them, where they are known
pub if_padded : (end : ℕ) (known : Option (List ℕ)) (P : List ℕ → Type 0) → ((b : List ℕ) → known ≡ Some b → length b ≡ end → P (padded b)) → IfSome (known_padded end known) P
if_padded end None P f = tt
if_padded end (Some b) P f = by_test (length b == end) refl
  where
    by_test : (t : Bool) → (length b == end) ≡ t → IfSome (if t then Some (padded b) else None) P
    by_test true is = f b refl (eqb-true _ _ is)
    by_test false is = tt

pub known_is : (end : ℕ) (known : Option (List ℕ)) (b : List ℕ) → known ≡ Some b → length b ≡ end → known_padded end known ≡ Some (padded b)
known_is end known b is len = ap (known_padded end) is ∙ cond-true _ _ _ (eq-eqb _ _ len)

-- so many zeros
zeros_front : (z at n : ℕ) (b : List ℕ) → at + n ≤ length b → take n (drop at (b ++ replicate z 0)) ≡ take n (drop at b)
zeros_front z at n b fits = same_lists _ _ (search (rules, places)) (λ k d h. grind (arith, places))

zeros_across : (z at n m : ℕ) (b : List ℕ) → at + n ≡ length b → m ≤ z → take (n + m) (drop at (b ++ replicate z 0)) ≡ take n (drop at b) ++ replicate m 0
zeros_across z at n m b ends few = same_lists _ _ (search (rules, places)) (λ k d h. grind (arith, places))

zeros_past : (z i : ℕ) (b : List ℕ) → length b ≤ i → get_or (b ++ replicate z 0) i 0 ≡ 0
zeros_past z i b past = grind (arith, places)

length-zeros : (z : ℕ) (b : List ℕ) → length (b ++ replicate z 0) ≡ length b + z
length-zeros z b = length-append b (replicate z 0) ∙ ap (λ n. length b + n) (length-replicate z 0)

-- what is read before them, and across the end
pub read_front : (at n : ℕ) (b : List ℕ) → at + n ≤ length b → take n (drop at (padded b)) ≡ take n (drop at b)
unfolding padded
read_front at n b fits = zeros_front 524_288 at n b fits

pub read_across : (at n m : ℕ) (b : List ℕ) → at + n ≡ length b → m ≤ 524_288 → take (n + m) (drop at (padded b)) ≡ take n (drop at b) ++ replicate m 0
unfolding padded
read_across at n m b ends few = zeros_across 524_288 at n m b ends few

pub length-padded : (b : List ℕ) → length (padded b) ≡ length b + 524_288
unfolding padded
length-padded b = length-zeros 524_288 b

pub padded_at : (b : List ℕ) (i : ℕ) → i < length b → get_or (padded b) i 0 ≡ get_or b i 0
unfolding padded
padded_at b i lt = get_or_append_left b (replicate 524_288 0) 0 i lt

pub padded_past : (b : List ℕ) (i : ℕ) → length b ≤ i → get_or (padded b) i 0 ≡ 0
unfolding padded
padded_past b i past = zeros_past 524_288 i b past

-- bytes that were read over zeros
pub over_zeros : (n left m : ℕ) (r f s : List ℕ) → left ≤ n → r ≡ s → length r ≡ left → f ≡ replicate n 0 → m ≡ n - left → r ++ drop left f ≡ s ++ replicate m 0
over_zeros n left m r f s few is len zeros rest =
    let tail : drop left (replicate {A = ℕ} n 0) ≡ replicate (n - left) 0 = same_lists _ _ (search (rules, places)) (λ k d h. grind (arith, places)) in
    ap (λ y. y ++ drop left f) is ∙ ap (λ y. s ++ y) (ap (drop left) zeros ∙ tail ∙ ap (λ y. replicate y 0) (sym rest))
