-- An event of a volume, and a request that it accepts, are the event machine's: every device's bytes and layers, and all that
-- is in memory.
use Rattle.std.specs.Prelude.{◌≡◌, ℕ, true, List, Option}
use Rattle.device.specs.Layers.{Layer}
use Rattle.plain_machine.specs.declared.event.Event.{Event}
use Rattle.plain_machine.specs.declared.event.Outcome.{Outcome}
use Rattle.plain_machine.specs.declared.request.Reply.{Reply}
use Rattle.plain_machine.specs.declared.request.Request.{Request}
use Rattle.event_machine.specs.Seen.{replied_by}
use Rattle.event_machine.specs.MergeStepping.{stepped_all}
use Rattle.event_machine.specs.Submitting.{submitted}
use Rattle.volume.specs.Volumed.{Volumed, is_loud_in_all}
use Rattle.volume.specs.Moved.{moving_of}

-- Where no device drops writes, the volume is what the machine steps to, with the reply of the outcome as the last one.
pub record IsExact {B : Type 0} (contents : B → List ℕ) (layers : B → List Layer) (event : Event) (outcome : Outcome) (old new : Volumed B) : Type 0 where
  pub step : is_loud_in_all layers old ≡ true → (replied : Option Reply) → stepped_all event (moving_of contents layers replied old) ≡ moving_of contents layers (replied_by outcome replied) new

-- the volume is what the machine takes a request to, under this number
abbrev pub IsSubmittedAs : {B : Type 0} → (B → List ℕ) → (B → List Layer) → Request → ℕ → Volumed B → Volumed B → Type 0
IsSubmittedAs contents layers request number old new =
    (replied : Option Reply) → submitted number request (moving_of contents layers replied old) ≡ moving_of contents layers replied new
