-- The entries of a seat, and what the journal says of a receipt. This project's own.
use Rattle.std.specs.Prelude.{◌≡◌, ◌==◌, ℕ, ◌-◌, ◌<◌, ◌≤◌, List, [], ◌∷◌, Some, if◌then◌else◌, slice_get}
use Rattle.audited_volume.specs.declared.entry.Answered.{Answered as AnsweredEntry}
use Rattle.audited_volume.specs.declared.entry.Entry.{Entry}
use Rattle.audited_volume.specs.declared.entry.Entry.TheVariants.{Answered, Spoiled, Overflowed, Attached, Detached, Begun, Finished}
use Rattle.audited_volume.specs.declared.entry.Receipt.{Receipt}
use Rattle.audited_volume.specs.declared.entry.Verdict.{Verdict}
use Rattle.audited_volume.specs.declared.entry.Verdict.TheVariants.{Folded, Agrees, Differs}

-- a seat's request entries, in their order
abbrev pub entries_by : ℕ → List Entry → List AnsweredEntry
entries_by seat [] = []
entries_by seat (Answered a ∷ es) = if a.seat == seat then a ∷ entries_by seat es else entries_by seat es
entries_by seat (Spoiled number ∷ es) = entries_by seat es
entries_by seat (Overflowed number ∷ es) = entries_by seat es
entries_by seat (Attached number array overflow fresh ∷ es) = entries_by seat es
entries_by seat (Detached number ∷ es) = entries_by seat es
entries_by seat (Begun number ∷ es) = entries_by seat es
entries_by seat (Finished ∷ es) = entries_by seat es

abbrev pub answered_of : Receipt → AnsweredEntry
answered_of r = record { seat = r.seat; request = r.request; reply = r.reply }

-- A receipt's entry is folded where its count, from 1, is among those of its seat that were.
abbrev pub IsFolded : ℕ → Receipt → Type 0
IsFolded folded r = (0 < r.count) × (r.count ≤ folded)

-- It agrees where the seat's request entry with its count, after those that were folded, is its request and its reply.
abbrev pub Agreeing : ℕ → List Entry → Receipt → Type 0
Agreeing folded entries r = (folded < r.count) × (slice_get (entries_by r.seat entries) (r.count - folded - 1) ≡ Some (answered_of r))

abbrev pub HasVerdict : ℕ → List Entry → Receipt → Verdict → Type 0
HasVerdict folded entries r Folded = IsFolded folded r
HasVerdict folded entries r Agrees = Agreeing folded entries r
HasVerdict folded entries r Differs = (IsFolded folded r → ⊥) × (Agreeing folded entries r → ⊥)
