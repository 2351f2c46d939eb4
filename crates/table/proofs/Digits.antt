-- What is put into a room of a status line, from its end to its beginning.
use Rattle.std.proofs.Common.{◌≡◌, ℕ, ◌^◌, ◌<◌, ◌≤◌, List, [], ◌∷◌, ◌++◌, length, drop, sym, ap, ◌∙◌, append_assoc, arith, lit<}
use Rattle.std.specs.Prelude.{decimal}
use Rattle.std.proofs.lemmas.Fmt.{length-decimal-le}
use Rattle.std.proofs.Math.ListN.{drop_of_length-le}
use Rattle.std.proofs.lemmas.List.{append-nil}

-- a number has at most 20 digits
pub short_digits : (n : ℕ) → n < 2 ^ 64 → length (decimal n) ≤ 20
short_digits n h = length-decimal-le 20 n (lit< tt) (omega arith) h

-- nothing stands past the end
past_end : (n : ℕ) (room : List ℕ) → length room ≤ n → drop n room ≡ []
past_end n room long = drop_of_length-le room long

-- what is put at the end of a room is all there is from its place on
pub end_put : (room now text : List ℕ) → length room ≡ 100 → now ≡ text ++ drop 100 room → now ≡ text
end_put room now text long is =
    is ∙ ap (λ t. text ++ t) (past_end 100 room (omega (arith, long))) ∙ append-nil text

-- numbers in use, of all, and of those without copies, one before the other
pub used_put : (used all other : List ℕ) → used ++ 47 ∷ (all ++ 32 ∷ other) ≡ used ++ 47 ∷ [] ++ all ++ 32 ∷ [] ++ other
used_put used all other = sym (append_assoc (used ++ 47 ∷ [] ++ all) (32 ∷ []) other ∙ append_assoc (used ++ 47 ∷ []) all (32 ∷ other) ∙ append_assoc used (47 ∷ []) (all ++ 32 ∷ other))
