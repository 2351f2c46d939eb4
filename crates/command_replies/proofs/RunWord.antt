-- The word of a run, put into a room from its end to its beginning.
use Rattle.std.proofs.Common.{◌≡◌, ℕ, ◌+◌, ◌/◌, ◌%◌, ◌^◌, ◌<◌, ◌≤◌, List, [], ◌∷◌, ◌++◌, length, length-append, drop, sym, ap, ◌∙◌, append_assoc, arith, lit<}
use Rattle.std.specs.Prelude.{decimal}
use Rattle.std.proofs.lemmas.Fmt.{length-decimal-le}
use Rattle.std.proofs.Math.ListN.{drop_of_length-le}
use Rattle.std.proofs.lemmas.List.{append-nil}
use Rattle.command_replies.specs.Runs.{hex_char, run_word}

-- how many bytes it has
pub run_length : (n b : ℕ) → length (run_word (n, b)) ≡ length (decimal n) + 4
run_length n b =
    let digits = length-append (decimal n) (42 ∷ []) in
    let all = length-append ((32 ∷ decimal n) ++ 42 ∷ []) (hex_char (b / 16) ∷ hex_char (b % 16) ∷ []) in
    omega (arith, digits, all)

-- a run's word has at most 24 bytes
pub run_short : (n b : ℕ) → n < 2 ^ 64 → length (run_word (n, b)) ≤ 24
run_short n b small =
    let few = length-decimal-le 20 n (lit< tt) (omega arith) small in
    let word = run_length n b in
    omega (arith, few, word)

-- a run's word, by its parts
pub run_put : (digits tail : List ℕ) (high low : ℕ) → 32 ∷ (digits ++ (42 ∷ high ∷ low ∷ tail)) ≡ (32 ∷ ((digits ++ 42 ∷ []) ++ (high ∷ low ∷ []))) ++ tail
run_put digits tail high low = ap (λ t. 32 ∷ t) (sym (append_assoc (digits ++ 42 ∷ []) (high ∷ low ∷ []) tail ∙ append_assoc digits (42 ∷ []) (high ∷ low ∷ tail)))

-- what is put at the end of a room is all there is from its place on
pub end_put : (room now text : List ℕ) (n : ℕ) → length room ≡ n → now ≡ text ++ drop n room → now ≡ text
end_put room now text n long is = is ∙ ap (λ t. text ++ t) (drop_of_length-le room (omega (arith, long))) ∙ append-nil text
