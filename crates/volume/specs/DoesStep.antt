-- To be believed: a volume's steps are said in these words.
-- What a call of `step` does to a volume, as one record: a layer that passes an event on says the same record of the volume below it.
use Rattle.std.specs.Prelude.{◌≡◌, ◌&&◌, ℕ, ◌+◌, ◌<◌, ◌≤◌, Bool, true, List, IfOk, OnErr, OnOk, Result, Some, is_ok, map}
use Rattle.device.specs.Layers.{Layer}
use Rattle.plain_machine.specs.declared.event.Event.{Event}
use Rattle.plain_machine.specs.declared.event.NotDue.{NotDue}
use Rattle.plain_machine.specs.declared.event.Outcome.{Outcome}
use Rattle.plain_machine.specs.Legal.{IsLegalStep}
use Rattle.in_flight.specs.Kinds.{in_flight}
use Rattle.volume.specs.Asking.{is_finished_in}
use Rattle.volume.specs.Causes.{HasCause, IsOneAtMost}
use Rattle.volume.specs.Closing.{ClosesBy}
use Rattle.volume.specs.Exact.{IsExact}
use Rattle.volume.specs.Flying.{IsFlown}
use Rattle.volume.specs.Lasting.{StopsEach}
use Rattle.volume.specs.Stepping.{KeepsAll, failed_by, has_failed, starts_by}
use Rattle.volume.specs.Stopping.{StopsVolume, given_by}
use Rattle.volume.specs.Stored.{RemovesPairs, is_finished_on}
use Rattle.volume.specs.Volumed.{Volumed, is_due_of, is_loud_in_all, left_in_all, next_of, plain_of}

-- An event is done where it is due and who asks for it `may` do it; the one that is due first is due. Of one that is done, whatever
-- the devices do: a whole number falls, the cause is counted, a request leaves only where it is answered, at most one operation of
-- a device is done, and no snapshot is marked for a full store. Where no device drops writes, it is a legal step of the plain
-- machine, and the event machine's own; and so are what a stop within it may leave, and what an answered flush closes. What a stop
-- may leave is said of each array by itself too, whose own devices drop no writes. One that is not done changes nothing.
pub record DoesStep {B : Type 0} (holds : B → ℕ → List ℕ → Type 0) (contents : B → List ℕ) (layers : B → List Layer) (size faults done : B → ℕ) (may : Bool) (event : Event) (result : Result Outcome NotDue) (old new : Volumed B) : Type 0 where
  pub due : is_ok result ≡ (may && is_due_of contents layers old event)
  pub first : next_of contents layers old ≡ Some event → is_ok result ≡ may
  pub legal : IfOk result (λ outcome. is_loud_in_all layers old ≡ true → IsLegalStep (plain_of contents layers old) event outcome (plain_of contents layers new))
  pub exact : IfOk result (λ outcome. IsExact contents layers event outcome old new)
  pub lower : OnOk result (left_in_all contents layers new < left_in_all contents layers old)
  pub loud : is_loud_in_all layers new ≡ is_loud_in_all layers old
  pub cause : IfOk result (λ outcome. HasCause faults event outcome old new)
  pub flown : IfOk result (λ outcome. IsFlown event outcome (map in_flight old.flights) (map in_flight new.flights))
  pub one : OnOk result (IsOneAtMost done old new)
  pub kept : OnOk result (KeepsAll size old new)
  pub failed : IfOk result (λ outcome. has_failed new.merge ≡ failed_by event outcome (has_failed old.merge))
  pub counts : OnOk result ((new.requests ≡ old.requests) × (new.copies ≤ old.copies + starts_by event) × (old.copies ≤ new.copies))
  pub overflows : OnOk result (map (λ s. s.overflow) new.snaps ≡ map (λ s. s.overflow) old.snaps)
  pub removes : IfOk result (λ outcome. RemovesPairs contents layers event outcome old new)
  pub finished : OnOk result (is_loud_in_all layers new ≡ true → is_finished_in new.merge ≡ is_finished_on contents new.merge)
  pub closes : IfOk result (λ outcome. ClosesBy holds contents layers size event outcome (map in_flight old.flights) new)
  pub stops : IfOk result (λ outcome. is_loud_in_all layers old ≡ true → StopsVolume holds size (given_by event (map in_flight old.flights)) old new)
  pub each : OnOk result (StopsEach holds layers size (given_by event (map in_flight old.flights)) old new)
  pub same : OnErr result (new ≡ old)
