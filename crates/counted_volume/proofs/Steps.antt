-- The event that was due first was done, and that was the machine's too.
use Rattle.std.proofs.Common.{◌≡◌, ℕ, true, List, map, Option, Some, sym, subst}
use Rattle.device.specs.Layers.{Layer}
use Rattle.plain_machine.specs.declared.event.Event.{Event}
use Rattle.plain_machine.specs.declared.event.Outcome.{Outcome}
use Rattle.plain_machine.specs.declared.request.Reply.{Reply}
use Rattle.in_flight.specs.Kinds.{in_flight}
use Rattle.plain_machine.specs.Legal.{IsLegalStep}
use Rattle.event_machine.specs.MergeDue.{due_all}
use Rattle.volume.specs.Volumed.{Volumed, is_loud_in_all, next_of, plain_of}
use Rattle.volume.specs.Causes.{HasCause}
use Rattle.volume.specs.Closing.{ClosesBy}
use Rattle.volume.specs.Exact.{IsExact}
use Rattle.volume.specs.Flying.{IsFlown}
use Rattle.volume.specs.Moved.{moving_of}
use Rattle.volume.specs.Stepping.{KeepsAll}
use Rattle.volume.specs.Stopping.{StopsVolume, given_by}
use Rattle.counted_volume.specs.Following.{IsStep}

module _ {B : Type 0} (holds : B → ℕ → List ℕ → Type 0) (contents : B → List ℕ) (layers : B → List Layer) (faults size : B → ℕ) where
  pub step_is : (event : Event) (outcome told : Outcome) (v w : Volumed B) → Some event ≡ next_of contents layers v → ((replied : Option Reply) → due_all (moving_of contents layers replied v) ≡ Some event) → outcome ≡ told
      → IsExact contents layers event outcome v w → (is_loud_in_all layers v ≡ true → IsLegalStep (plain_of contents layers v) event outcome (plain_of contents layers w))
      → KeepsAll size v w → is_loud_in_all layers w ≡ is_loud_in_all layers v → w.requests ≡ v.requests → IsFlown event outcome (map in_flight v.flights) (map in_flight w.flights) → HasCause faults event outcome v w
      → ClosesBy holds contents layers size event outcome (map in_flight v.flights) w → (is_loud_in_all layers v ≡ true → StopsVolume holds size (given_by event (map in_flight v.flights)) v w) → IsStep holds contents layers faults size event told v w
  step_is event outcome told v w first due is exact legal kept loud requests flown cause closes stops =
      subst (λ (o : Outcome). IsStep holds contents layers faults size event o v w) is (record { done = record { first = sym first; exact = exact; legal = legal; flown = flown; cause = cause; closes = closes; stops = stops }; due = due; kept = kept; loud = loud; requests = requests; flown = flown })
