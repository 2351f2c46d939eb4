-- Numbers from one on.
use Rattle.std.proofs.Common.{arith, ◌≡◌, ◌∷◌, ◌++◌, ◌+◌, ◌<◌, ℕ, List, [], length, slice_index_or}
use Rattle.std.proofs.lemmas.Grind.{common_steps}

-- one more has the next
pub number_more : {A : Type 0} (number : A → ℕ) (xs : List A) (x : A) → ((k : ℕ) (d : A) → k < length xs → number (slice_index_or xs k d) ≡ 1 + k) → number x ≡ 1 + length xs → (k : ℕ) (d : A) → k < length (xs ++ x ∷ []) → number (slice_index_or (xs ++ x ∷ []) k d) ≡ 1 + k
number_more number xs x so_far next k d within = grind (arith, common_steps, so_far k d)
