-- A line that is too long says the same as what is kept of it.
use Rattle.std.proofs.Common.{◌≡◌, ℕ, ◌<◌, ◌≤◌, List, length, false, ap, sym, ◌∙◌, inl, inr, arith}
use Rattle.std.specs.Prelude.{◌&&◌, nat_le}
use Rattle.std.proofs.lemmas.Bool.{cases_lt}
use borrow.Author.Tests.{tests}
use Rattle.command.specs.Opening.{has_par, is_par}

no_more : (n m : ℕ) → m < n → nat_le n m ≡ false
no_more n m less = grind (arith, tests, less)

-- it begins no block
long_par : (max : ℕ) (line : List ℕ) → max < length line → is_par max line ≡ false
long_par max line long = ap (λ b. b && has_par line) (no_more (length line) max long)

-- so what is kept of a line decides whether it begins one
pub par_kept : (max : ℕ) (line kept : List ℕ) → (length line ≤ max → kept ≡ line) → (max < length line → max < length kept) → is_par max kept ≡ is_par max line
par_kept max line kept short long = elim (cases_lt max (length line)) [
  | inl more ↦ long_par max kept (long more) ∙ sym (long_par max line more)
  | inr less ↦ ap (is_par max) (short less)
]
