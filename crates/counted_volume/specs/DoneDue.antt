-- Events that were due, and were done, one after another: the last reply of them. What one event does is said where events are
-- (`volume`). This project's own.
use Rattle.std.specs.Prelude.{◌≡◌, ℕ, true, List, [], ◌∷◌, Some, map}
use Rattle.device.specs.Layers.{Layer}
use Rattle.plain_machine.specs.declared.event.Event.{Event}
use Rattle.plain_machine.specs.declared.event.Outcome.{Outcome}
use Rattle.plain_machine.specs.declared.event.Outcome.TheVariants.{Reply as Replies, Done, Fault}
use Rattle.plain_machine.specs.declared.request.Reply.{Reply}
use Rattle.plain_machine.specs.Legal.{IsLegalStep}
use Rattle.in_flight.specs.Kinds.{in_flight}
use Rattle.volume.specs.Causes.{HasCause}
use Rattle.volume.specs.Closing.{ClosesBy}
use Rattle.volume.specs.Exact.{IsExact}
use Rattle.volume.specs.Flying.{IsFlown}
use Rattle.volume.specs.Stepping.{KeepsAll}
use Rattle.volume.specs.Stopping.{StopsVolume, given_by}
use Rattle.volume.specs.Volumed.{Volumed, is_due_of, is_loud_in_all, plain_of, next_of}

-- An event that was due was done, with this outcome: it replies to a request in flight or to none, each reply and each fault has its
-- cause, and no request is numbered. What a flush closes that it answers, and what a stop before, within or after it may leave, is said
-- of it as where events are.
pub record IsDoneDue {B : Type 0} (holds : B → ℕ → List ℕ → Type 0) (contents : B → List ℕ) (layers : B → List Layer) (faults size : B → ℕ) (event : Event) (outcome : Outcome) (old new : Volumed B) : Type 0 where
  pub due : is_due_of contents layers old event ≡ true
  pub exact : IsExact contents layers event outcome old new
  pub legal : is_loud_in_all layers old ≡ true → IsLegalStep (plain_of contents layers old) event outcome (plain_of contents layers new)
  pub flown : IsFlown event outcome (map in_flight old.flights) (map in_flight new.flights)
  pub cause : HasCause faults event outcome old new
  pub requests : new.requests ≡ old.requests
  pub kept : KeepsAll size old new
  pub loud : is_loud_in_all layers new ≡ is_loud_in_all layers old
  pub closes : ClosesBy holds contents layers size event outcome (map in_flight old.flights) new
  pub stops : is_loud_in_all layers old ≡ true → StopsVolume holds size (given_by event (map in_flight old.flights)) old new

-- these events were done, in this order
abbrev pub AreDoneDue : {B : Type 0} → (B → ℕ → List ℕ → Type 0) → (B → List ℕ) → (B → List Layer) → (B → ℕ) → (B → ℕ) → List (Event × Outcome) → Volumed B → Volumed B → Type 0
AreDoneDue holds contents layers faults size [] old new = new ≡ old
AreDoneDue holds contents layers faults size (x ∷ xs) old new = (mid : Volumed _) × IsDoneDue holds contents layers faults size x.0 x.1 old mid × AreDoneDue holds contents layers faults size xs mid new

-- the reply that an outcome is, or else the one that was given before; and the last of some
abbrev pub told_by : Outcome → Reply → Reply
told_by (Replies number reply) before = reply
told_by Done before = before
told_by Fault before = before

abbrev pub last_told : Reply → List (Event × Outcome) → Reply
last_told before [] = before
last_told before (x ∷ done) = last_told (told_by x.1 before) done

-- Events were done, and this is the last reply of them, or the one that was given before.
pub record AreDone {B : Type 0} (holds : B → ℕ → List ℕ → Type 0) (contents : B → List ℕ) (layers : B → List Layer) (faults size : B → ℕ) (before after : Reply) (old new : Volumed B) : Type 0 where
  pub done : List (Event × Outcome)
  pub chain : AreDoneDue holds contents layers faults size done old new
  pub reply_is : after ≡ last_told before done

-- The event that was due first was done, with this outcome: whichever device drops writes, it replies to a request in flight or to
-- none, and each reply and each fault has its cause; and so is said of it what it closes, and what a stop may leave.
pub record IsDoneFirst {B : Type 0} (holds : B → ℕ → List ℕ → Type 0) (contents : B → List ℕ) (layers : B → List Layer) (faults size : B → ℕ) (event : Event) (outcome : Outcome) (old new : Volumed B) : Type 0 where
  pub first : next_of contents layers old ≡ Some event
  pub exact : IsExact contents layers event outcome old new
  pub legal : is_loud_in_all layers old ≡ true → IsLegalStep (plain_of contents layers old) event outcome (plain_of contents layers new)
  pub flown : IsFlown event outcome (map in_flight old.flights) (map in_flight new.flights)
  pub cause : HasCause faults event outcome old new
  pub closes : ClosesBy holds contents layers size event outcome (map in_flight old.flights) new
  pub stops : is_loud_in_all layers old ≡ true → StopsVolume holds size (given_by event (map in_flight old.flights)) old new
