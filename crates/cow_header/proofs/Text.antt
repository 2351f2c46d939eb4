-- The text of a header, from its parts.
use Rattle.std.proofs.Common.{◌≡◌, ℕ, ◌+◌, ◌-◌, ◌≤◌, List, [], ◌++◌, length, replicate, arith, rules, refl, ap, ◌∙◌, append_assoc, length-append}
use Rattle.std.proofs.lemmas.List.{places, same_lists}
use Rattle.sector.specs.Bytes.{with_part}

-- the next part of a text, over the zeros that follow what is written already
next_part : (done x : List ℕ) (n at : ℕ) → length done ≡ at → at + length x ≤ n → with_part (done ++ replicate (n - at) 0) at x ≡ (done ++ x) ++ replicate (n - (at + length x)) 0
next_part done x n at len fits = same_lists _ _ (search (rules, places)) (λ k d h. grind (arith, places))

-- four parts of four bytes
pub four_parts : (n : ℕ) (a b c d : List ℕ) → length a ≡ 4 → length b ≡ 4 → length c ≡ 4 → length d ≡ 4 → 16 ≤ n
    → with_part (with_part (with_part (with_part (replicate n 0) 0 a) 4 b) 8 c) 12 d ≡ a ++ (b ++ (c ++ (d ++ replicate (n - 16) 0)))
four_parts n a b c d la lb lc ld fits =
    let one : with_part (replicate n 0) 0 a ≡ a ++ replicate (n - 4) 0 =
    ap (λ m. with_part (replicate m 0) 0 a) (omega arith) ∙ next_part [] a n 0 refl (omega arith) ∙ ap (λ m. a ++ replicate m 0) (omega arith) in
    let two : with_part (a ++ replicate (n - 4) 0) 4 b ≡ (a ++ b) ++ replicate (n - 8) 0 =
    next_part a b n 4 la (omega arith) ∙ ap (λ m. (a ++ b) ++ replicate m 0) (omega arith) in
    let three : with_part ((a ++ b) ++ replicate (n - 8) 0) 8 c ≡ ((a ++ b) ++ c) ++ replicate (n - 12) 0 =
    next_part (a ++ b) c n 8 (omega (arith, length-append a b)) (omega arith) ∙ ap (λ m. ((a ++ b) ++ c) ++ replicate m 0) (omega arith) in
    let four : with_part (((a ++ b) ++ c) ++ replicate (n - 12) 0) 12 d ≡ (((a ++ b) ++ c) ++ d) ++ replicate (n - 16) 0 =
    next_part ((a ++ b) ++ c) d n 12 (omega (arith, length-append a b, length-append (a ++ b) c)) (omega arith) ∙ ap (λ m. (((a ++ b) ++ c) ++ d) ++ replicate m 0) (omega arith) in
    ap (λ y. with_part (with_part (with_part y 4 b) 8 c) 12 d) one
    ∙ ap (λ y. with_part (with_part y 8 c) 12 d) two
    ∙ ap (λ y. with_part y 12 d) three
    ∙ four
    ∙ simp append_assoc
