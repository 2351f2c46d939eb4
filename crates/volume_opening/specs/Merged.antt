-- What it means that a snapshot is merged from now on. This project's own; what is shown is as the target snapshot-merge has it.
use Rattle.std.specs.Prelude.{◌≡◌, ℕ, Bool, true, false, List}
use Rattle.std.specs.List.{All}
use Rattle.device.specs.Layers.{Layer}
use Rattle.plain_machine.specs.Legal.{IsBegun}
use Rattle.volume.specs.Beginning.{IsMergeBegun}
use Rattle.volume.specs.Handing.{HandsOver}
use Rattle.volume.specs.Stopping.{StopsAround}
use Rattle.volume.specs.Volumed.{Volumed, is_loud_in_all, plain_of}

-- The snapshot with a number is merged, over its own device, and no device was touched. Where the devices do all that they answer, that is
-- the one assignment origin := snapshot, and every other array is as it was. A stop leaves what it might have left before, and no value
-- of the origin but those that it might have left of the snapshot. No device had left a write or a sync unanswered.
pub record IsMerged {B : Type 0} (holds : B → ℕ → List ℕ → Type 0) (contents : B → List ℕ) (layers : B → List Layer) (size : B → ℕ) (failed : B → Bool) (number : ℕ) (old new : Volumed B) : Type 0 where
  pub begun : IsMergeBegun number old new
  pub assigned : is_loud_in_all layers old ≡ true → IsBegun (plain_of contents layers old) number (plain_of contents layers new)
  pub stops : StopsAround holds layers size old new
  pub hands : HandsOver holds size number old new
  pub origin : failed old.origin ≡ false
  pub stores : All (λ s. failed s.device ≡ false) old.snaps
