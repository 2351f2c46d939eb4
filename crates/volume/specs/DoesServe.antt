-- To be believed: a volume's steps are said in these words.
-- What a call of `serve` does to a volume, as one type: a layer that passes a request on says the same of the volume below it.
use Rattle.std.specs.Prelude.{◌≡◌, ℕ, true, List, Err, Ok, Option, Result, Some}
use Rattle.device.specs.Layers.{Layer}
use Rattle.sector.specs.declared.refusal.Refusal.{Refusal}
use Rattle.plain_machine.specs.declared.event.Event.TheVariants.{Issue}
use Rattle.plain_machine.specs.declared.event.Outcome.TheVariants.{Reply as Replied}
use Rattle.plain_machine.specs.declared.request.Reply.{Reply}
use Rattle.plain_machine.specs.declared.request.Request.{Request}
use Rattle.event_machine.specs.MergeDue.{due_all}
use Rattle.volume.specs.DoesStep.{DoesStep}
use Rattle.volume.specs.DoesSubmit.{DoesSubmit}
use Rattle.volume.specs.Leaving.{is_quiet_of}
use Rattle.volume.specs.Moved.{moving_of}
use Rattle.volume.specs.Volumed.{Volumed, next_of}
use Rattle.volume.specs.declared.at_once.Served.{Served}
use Rattle.volume.specs.declared.at_once.Served.TheVariants.{Answered, InFlight}

-- A request was answered at once: as if it had been submitted, and its Issue, which is what is due first then, had been done. Nothing
-- is left to do.
pub record IsServedAtOnce {B : Type 0} (holds : B → ℕ → List ℕ → Type 0) (contents : B → List ℕ) (layers : B → List Layer) (size faults done : B → ℕ) (request : Request) (number : ℕ) (reply : Reply) (old new : Volumed B) : Type 0 where
  pub mid : Volumed B
  pub submits : DoesSubmit contents layers size request (Ok number) old mid
  pub first : next_of contents layers mid ≡ Some (Issue number)
  pub machine : (replied : Option Reply) → due_all (moving_of contents layers replied mid) ≡ Some (Issue number)
  pub steps : DoesStep holds contents layers size faults done true (Issue number) (Ok (Replied number reply)) mid new
  pub quiet : is_quiet_of new ≡ true

-- Any other that was accepted is in flight.
abbrev pub DoesServe : {B : Type 0} → (B → ℕ → List ℕ → Type 0) → (B → List ℕ) → (B → List Layer) → (B → ℕ) → (B → ℕ) → (B → ℕ) → Request → Result Served Refusal → Volumed B → Volumed B → Type 0
DoesServe holds contents layers size faults done request (Err refusal) old new = DoesSubmit contents layers size request (Err refusal) old new
DoesServe holds contents layers size faults done request (Ok (InFlight number)) old new = DoesSubmit contents layers size request (Ok number) old new
DoesServe holds contents layers size faults done request (Ok (Answered number reply)) old new = IsServedAtOnce holds contents layers size faults done request number reply old new
