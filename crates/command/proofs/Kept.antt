-- A line that is too long says the same as what is kept of it.
use Rattle.std.proofs.Common.{◌≡◌, ℕ, ◌<◌, ◌≤◌, List, length, ltb, true, refl, ap, sym, ◌∙◌, rules, inl, inr}
use Rattle.std.specs.Prelude.{Err}
use Rattle.std.proofs.lemmas.Bool.{cases_lt}
use Rattle.command.specs.Line.{said_of}
use Rattle.sector.specs.declared.refusal.Refusal.TheVariants.{BadTable}

-- a line that is too long is refused
pub said_long : (max : ℕ) (line : List ℕ) → max < length line → said_of max line ≡ Err BadTable
unfolding said_of
said_long max line long = let e : ltb max (length line) ≡ true = search rules in rw e refl

-- so what is kept of a line decides what it says
pub said_kept : (max : ℕ) (line kept : List ℕ) → (length line ≤ max → kept ≡ line) → (max < length line → max < length kept) → said_of max kept ≡ said_of max line
said_kept max line kept short long = elim (cases_lt max (length line)) [
  | inl more ↦ said_long max kept (long more) ∙ sym (said_long max line more)
  | inr less ↦ ap (said_of max) (short less)
]
