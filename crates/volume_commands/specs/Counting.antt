-- What a command leaves of the volume of events that it is done on, and how many requests it asks of it. This project's own.
use Rattle.std.specs.Prelude.{◌≡◌, ◌+◌, ◌≤◌, ℕ, true, List, Result, IfErr}
use Rattle.sector.specs.declared.refusal.Refusal.{Refusal}
use Rattle.sector.specs.declared.refusal.Refusal.TheVariants.{JournalFull}
use Rattle.device.specs.Layers.{Layer}
use Rattle.counted_volume.specs.Places.{Counted, is_full_for}
use Rattle.volume.specs.Volumed.{is_loud_in_all, piece_with}
use Rattle.volume_commands.specs.Draining.{is_idle_of}
use Rattle.volume_commands.specs.Kept.{KeepsDevices}
use Rattle.volume_commands.specs.Rested.{rested_of, IsSettled}

-- its devices
abbrev pub Keeps : {B : Type 0} → (B → List Layer) → (B → ℕ) → Counted B → Counted B → Type 0
Keeps layers size old new = KeepsDevices layers size (rested_of old.volume) (rested_of new.volume)

-- whether writes that are answered are done
abbrev pub KeepsLoud : {B : Type 0} → (B → List Layer) → Counted B → Counted B → Type 0
KeepsLoud layers old new = is_loud_in_all layers new.volume ≡ is_loud_in_all layers old.volume

-- how long a piece may be
abbrev pub KeepsPiece : {B : Type 0} → Counted B → Counted B → Type 0
KeepsPiece old new = piece_with new.volume.merge new.volume.snaps ≡ piece_with old.volume.merge old.volume.snaps

-- a volume that was at rest is so again
abbrev pub KeepsRest : {B : Type 0} → (B → List Layer) → Counted B → Counted B → Type 0
KeepsRest layers old new = IsSettled layers (rested_of old.volume) → IsSettled layers (rested_of new.volume)

-- it asks for so many requests at most
abbrev pub Asks : {B : Type 0} → ℕ → Counted B → Counted B → Type 0
Asks most old new = new.volume.requests ≤ old.volume.requests + most

-- and for none
abbrev pub AsksNothing : {B : Type 0} → Counted B → Counted B → Type 0
AsksNothing old new = new.volume.requests ≡ old.volume.requests

-- Where it tells that the journal is full, there is no place for one more among so many.
abbrev pub IsFullIfTold : {A : Type 0} → Result A Refusal → ℕ → Type 0
IsFullIfTold result taken = IfErr result (λ refusal. refusal ≡ JournalFull → is_full_for 1 taken ≡ true)

-- nothing is due but an event of a merge
abbrev pub IsIdle : {B : Type 0} → (B → List ℕ) → (B → List Layer) → Counted B → Type 0
IsIdle contents layers v = is_idle_of contents layers v.volume ≡ true
