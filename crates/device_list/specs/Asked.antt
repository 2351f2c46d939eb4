-- How much a volume was asked for whose journal is full. This project's own.
use Rattle.std.specs.Prelude.{◌≡◌, ◌+◌, ◌*◌, Bool, true, nat_le, Result, IfErr}
use Rattle.sector.specs.declared.refusal.Refusal.{Refusal}
use Rattle.sector.specs.declared.refusal.Refusal.TheVariants.{JournalFull}
use Rattle.command_semantics.specs.State.{Volume}

-- JournalFull comes to a volume only once it was asked for so many sectors, or so many snapshots were taken of it: each request takes
-- a place of the journal, and each snapshot five at most.
abbrev pub has_asked_much : Volume → Bool
has_asked_much v = nat_le 65_000 (v.asked + 5 * v.given)

-- a call of a volume, which is as it left it, answers JournalFull only where it was asked for so much
abbrev pub IsFullIn : {A : Type 0} → Result A Refusal → Volume → Type 0
IsFullIn result volume = IfErr result (λ e. e ≡ JournalFull → has_asked_much volume ≡ true)
