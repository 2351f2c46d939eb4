-- Lines that begin with a verb and a space.
use Rattle.std.proofs.Common.{◌≡◌, ℕ, suc, ◌+◌, ◌≤◌, List, [], ◌∷◌, ◌++◌, length, get_or, drop, drop-cons, ap, ◌∙◌, arith}
use Rattle.std.specs.Prelude.{codes}
use Rattle.std.proofs.lemmas.Slice.Eq.{HasBytesAt}
use Rattle.words.proofs.Cut.{words_some}
use Rattle.words.specs.Words.{words_of}

-- what stands from a place on, where these bytes are the first of it
front_on : (s p : List ℕ) (i : ℕ) → i + length p ≤ length s → HasBytesAt s i p → drop i s ≡ p ++ drop (i + length p) s
front_on s [] i long h = let here : i ≡ i + 0 = omega arith in ap (λ k. drop k s) here
front_on s (c ∷ p) i long h =
    let next : suc i + length p ≡ i + length (c ∷ p) = omega arith in
    drop-cons s i 0 (omega (arith, long)) ∙ ap (λ b. b ∷ drop (suc i) s) h.0
    ∙ ap (λ t. c ∷ t) (front_on s p (suc i) (omega (arith, long)) h.1) ∙ ap (λ k. c ∷ (p ++ drop k s)) next

-- so a line that begins with these bytes is they and what stands after them
front_reads : (line text : List ℕ) → length text ≤ length line → HasBytesAt line 0 text → line ≡ text ++ drop (length text) line
front_reads line text long reads =
    let here : 0 + length text ≡ length text = omega arith in
    front_on line text 0 (omega (arith, long)) reads ∙ ap (λ k. text ++ drop k line) here

pub write_front : (line : List ℕ) → 6 ≤ length line → get_or line 0 0 ≡ 119 → get_or line 1 0 ≡ 114 → get_or line 2 0 ≡ 105 → get_or line 3 0 ≡ 116 → get_or line 4 0 ≡ 101 → get_or line 5 0 ≡ 32 → line ≡ codes "write " ++ drop 6 line
write_front line long a b c d e f = front_reads line (codes "write ") long (a, (b, (c, (d, (e, (f, tt))))))

pub read_front : (line : List ℕ) → 5 ≤ length line → get_or line 0 0 ≡ 114 → get_or line 1 0 ≡ 101 → get_or line 2 0 ≡ 97 → get_or line 3 0 ≡ 100 → get_or line 4 0 ≡ 32 → line ≡ codes "read " ++ drop 5 line
read_front line long a b c d e = front_reads line (codes "read ") long (a, (b, (c, (d, (e, tt)))))

pub status_front : (line : List ℕ) → 7 ≤ length line → get_or line 0 0 ≡ 115 → get_or line 1 0 ≡ 116 → get_or line 2 0 ≡ 97 → get_or line 3 0 ≡ 116 → get_or line 4 0 ≡ 117 → get_or line 5 0 ≡ 115 → get_or line 6 0 ≡ 32 → line ≡ codes "status " ++ drop 7 line
status_front line long a b c d e f g = front_reads line (codes "status ") long (a, (b, (c, (d, (e, (f, (g, tt)))))))

-- the words of a line that begins with a verb and a space are it and the words of what stands after them
pub write_cut : (rest : List ℕ) → words_of (codes "write " ++ rest) ≡ codes "write" ∷ words_of rest
write_cut rest = words_some (codes "write " ++ rest) (omega arith)

pub read_cut : (rest : List ℕ) → words_of (codes "read " ++ rest) ≡ codes "read" ∷ words_of rest
read_cut rest = words_some (codes "read " ++ rest) (omega arith)

pub status_cut : (rest : List ℕ) → words_of (codes "status " ++ rest) ≡ codes "status" ∷ words_of rest
status_cut rest = words_some (codes "status " ++ rest) (omega arith)
