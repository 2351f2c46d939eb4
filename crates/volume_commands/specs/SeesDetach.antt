-- What callers of a volume by commands see of a call of `detach`, beside what it does to the volume of events that it is (`DoesDetach`).
use Rattle.std.specs.Prelude.{◌≡◌, ◌⊎◌, ℕ, true, false, List, IfErr, IfOk, OnOk, Result}
use Rattle.sector.specs.declared.refusal.Refusal.{Refusal}
use Rattle.sector.specs.declared.refusal.Refusal.TheVariants.{JournalFull, MergeInProgress, NoSuchDevice, NotQuiet}
use Rattle.device.specs.Layers.{Layer}
use Rattle.plain_machine.specs.declared.request.Dev.TheVariants.{Snap as ToSnap}
use Rattle.snapshot.specs.declared.opening.StoreDev.{StoreDev}
use Rattle.volume.specs.Leaving.{is_quiet_of}
use Rattle.volume.specs.Submitting.{is_merging}
use Rattle.volume_commands.specs.Leaving.{IsDetachedAs}
use Rattle.volume_commands.specs.Rested.{Rested, has_dev, IsSettled}

-- A snapshot left a quiet volume, as it leaves the settled machine's. Or there is none, it is being merged, the volume is not quiet
-- or its journal is full, and nothing changed. A settled volume stays settled.
pub record SeesDetach {B : Type 0} (contents : B → List ℕ) (layers : B → List Layer) (number : ℕ) (result : Result (StoreDev B) Refusal) (old new : Rested B) : Type 0 where
  pub quiet : OnOk result ((is_quiet_of old.events ≡ true) × (is_quiet_of new.events ≡ true))
  pub settled : IsSettled layers old → IsSettled layers new
  pub left : IfOk result (λ store. IsDetachedAs contents layers number store old new)
  pub err : IfErr result (λ refusal. (((refusal ≡ NoSuchDevice) × (has_dev (ToSnap number) old ≡ false)) ⊎ ((refusal ≡ MergeInProgress) × (is_merging number old.events.merge ≡ true)) ⊎ ((refusal ≡ NotQuiet) × (is_quiet_of old.events ≡ false)) ⊎ (refusal ≡ JournalFull)) × (new ≡ old))
  pub there : IfErr result (λ refusal. refusal ≡ NotQuiet → has_dev (ToSnap number) old ≡ true)
