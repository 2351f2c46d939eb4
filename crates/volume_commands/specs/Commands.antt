-- When a command on a device is refused, and what it leaves: this project's own. What it does where it is not refused, or
-- answers Invalid or Io, is the settled machine's (`whole_commands`).
use Rattle.std.specs.Prelude.{◌≡◌, ◌⊎◌, ℕ, ◌<◌, true, false, List}
use Rattle.sector.specs.declared.refusal.Refusal.{Refusal}
use Rattle.sector.specs.declared.refusal.Refusal.TheVariants.{NoSuchDevice}
use Rattle.device.specs.Layers.{Layer}
use Rattle.chunk.specs.Pieces.{Span}
use Rattle.plain_machine.specs.declared.request.Dev.{Dev}
use Rattle.plain_machine.specs.declared.request.Reply.{Reply}
use Rattle.plain_machine.specs.declared.request.Reply.TheVariants.{Data, Written, Refused}
use Rattle.plain_machine.specs.declared.request.Failure.{Failure}
use Rattle.whole_commands.specs.Merges.{Merged}
use Rattle.whole_commands.specs.Beside.{written_beside, read_beside, flushed_beside, written_first_beside, read_first_beside, count_beside}
use Rattle.whole_commands.specs.Refusals.{is_starved}
use Rattle.volume_commands.specs.Rested.{Rested, merged_of, IsSettled, has_dev}
use Rattle.plain_machine.specs.Failures.{refusal_of}
use Rattle.whole_commands.specs.Pieces.{Answered}

-- where the volume is settled, this was done, with this reply
abbrev pub IsDoneBy : {B : Type 0} → (B → List ℕ) → (B → List Layer) → (Merged → Answered Merged) → Reply → Rested B → Rested B → Type 0
IsDoneBy contents layers command reply old new =
    IsSettled layers old → command (merged_of contents layers old) ≡ record { state = merged_of contents layers new; reply = reply }

-- Why a write is refused: its device is not there, and nothing changed; or a piece failed; or there was no room for the
-- rest, and some first pieces stand, but not all.
abbrev pub IsWriteRefused : {B : Type 0} → (B → List ℕ) → (B → List Layer) → Dev → Span → List ℕ → Refusal → Rested B → Rested B → Type 0
IsWriteRefused contents layers dev span bytes refusal old new =
    ((refusal ≡ NoSuchDevice) × (has_dev dev old ≡ false) × (new ≡ old))
    ⊎ ((has_dev dev old ≡ true) × ((failure : Failure) × (refusal ≡ refusal_of failure) × IsDoneBy contents layers (written_beside dev span bytes) (Refused failure) old new))
    ⊎ ((has_dev dev old ≡ true) × (is_starved refusal ≡ true) × ((count : ℕ) × (count < count_beside span (merged_of contents layers old)) × IsDoneBy contents layers (written_first_beside count dev span bytes) Written old new))

-- and a read
abbrev pub IsReadRefused : {B : Type 0} → (B → List ℕ) → (B → List Layer) → Dev → Span → Refusal → Rested B → Rested B → Type 0
IsReadRefused contents layers dev span refusal old new =
    ((refusal ≡ NoSuchDevice) × (has_dev dev old ≡ false) × (new ≡ old))
    ⊎ ((has_dev dev old ≡ true) × ((failure : Failure) × (refusal ≡ refusal_of failure) × IsDoneBy contents layers (read_beside dev span) (Refused failure) old new))
    ⊎ ((has_dev dev old ≡ true) × (is_starved refusal ≡ true) × ((count : ℕ) × (bytes : List ℕ) × (count < count_beside span (merged_of contents layers old)) × IsDoneBy contents layers (read_first_beside count dev span) (Data bytes) old new))

-- And a flush: its device is not there, and nothing changed; or it failed; or there was no room for it.
abbrev pub IsFlushRefused : {B : Type 0} → (B → List ℕ) → (B → List Layer) → Dev → Refusal → Rested B → Rested B → Type 0
IsFlushRefused contents layers dev refusal old new =
    ((refusal ≡ NoSuchDevice) × (has_dev dev old ≡ false) × (new ≡ old))
    ⊎ ((has_dev dev old ≡ true) × ((failure : Failure) × (refusal ≡ refusal_of failure) × IsDoneBy contents layers (flushed_beside dev) (Refused failure) old new))
    ⊎ ((has_dev dev old ≡ true) × (is_starved refusal ≡ true) × (merged_of contents layers new ≡ merged_of contents layers old))
