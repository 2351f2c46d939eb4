-- To be believed, as soon as a volume stands over files: that an event raises no fault is said in these words. This project's own.
use Rattle.std.specs.Prelude.{◌≡◌, ℕ, ◌<◌, Bool, true, false, List, None, Some, Ok, length, slice_index_or}
use Rattle.device.specs.declared.block.Block as Block
use Rattle.device.specs.Layers.{Layer}
use Rattle.plain_machine.specs.declared.event.Event.{Event}
use Rattle.plain_machine.specs.declared.event.Outcome.{Outcome}
use Rattle.plain_machine.specs.declared.event.Outcome.TheVariants.{Done, Fault, Reply as Replied}
use Rattle.plain_machine.specs.declared.request.Reply.{Reply}
use Rattle.plain_machine.specs.declared.request.Reply.TheVariants.{Refused}
use Rattle.plain_machine.specs.declared.request.Failure.TheVariants.{Io}
use Rattle.snapshot.specs.Kept.{Kept}
use Rattle.merge.specs.Merging.{Merging}
use Rattle.volume.specs.Answered.{is_told, reads_too_many}
use Rattle.volume.specs.Causes.{counts_of}
use Rattle.volume.specs.DoesAhead.{DoesAhead}
use Rattle.volume.specs.DoesStep.{DoesStep}
use Rattle.volume.specs.Moved.{moving_of}
use Rattle.volume.specs.Volumed.{Volumed, is_due_of, is_loud_in_all}

-- whether a reply, and an outcome, tells that a device failed
abbrev pub is_io : Reply → Bool
is_io (Refused Io) = true
is_io reply = false

abbrev pub is_fault : Outcome → Bool
is_fault Done = false
is_fault Fault = true
is_fault (Replied number reply) = is_io reply

-- A step of the event from here tells no fault, and no device counts one: so a snapshot that it spoils is one whose store is full.
abbrev pub StepsCalmly : {B : Type 0} → (B → ℕ → List ℕ → Type 0) → (B → List ℕ) → (B → List Layer) → (B → ℕ) → (B → ℕ) → (B → ℕ) → Event → Volumed B → Type 0
StepsCalmly {B} holds contents layers size faults done event v =
    (outcome : Outcome) (w : Volumed B) → DoesStep holds contents layers size faults done true event (Ok outcome) v w → (is_fault outcome ≡ false) × (counts_of faults w ≡ counts_of faults v)

-- What was done ahead of an event: what a call of `ahead` does, and that it tells whether the event is answered, if it is due.
abbrev pub DoesAheadOf : {B : Type 0} → Block.Ghosts B → Volumed B → Volumed B → Type 0
DoesAheadOf b old new = DoesAhead b.may_hold b.contents b.layers b.size b.fault_count b.done_count old new

abbrev pub TellsIfDue : {B : Type 0} → Block.Ghosts B → Event → Bool → Volumed B → Volumed B → Type 0
TellsIfDue b event told old new = is_due_of b.contents b.layers old event ≡ true → told ≡ is_told event (moving_of b.contents b.layers None new)

-- No file left a call unanswered, a read too.
pub record AllAnswer {B : Type 0} (unanswered : B → Bool) (v : Volumed B) : Type 0 where
  pub origin : unanswered v.origin ≡ false
  pub snaps : (k : ℕ) (d : Kept B) → k < length v.snaps → unanswered (slice_index_or v.snaps k d).device ≡ false
  pub merging : (m : Merging B) → v.merge ≡ Some m → unanswered m.device ≡ false

-- While that is so, an event that is due is told to be answered, but one that issues a read of more sectors than a device reads ahead.
abbrev pub IsSure : {B : Type 0} → (B → List ℕ) → (B → List Layer) → (B → Bool) → Event → Bool → Volumed B → Type 0
IsSure contents layers unanswered event told new = reads_too_many event (moving_of contents layers None new) ≡ false → AllAnswer unanswered new → told ≡ true

abbrev pub IsSureIfDue : {B : Type 0} → Block.Ghosts B → (B → Bool) → Event → Bool → Volumed B → Volumed B → Type 0
IsSureIfDue b unanswered event told old new = is_due_of b.contents b.layers old event ≡ true → IsSure b.contents b.layers unanswered event told new

-- what it promises of the event's step: where it told that the event is answered, and all that is answered is done, no fault
abbrev pub PromisesCalm : {B : Type 0} → Block.Ghosts B → Event → Bool → Volumed B → Type 0
PromisesCalm b event told v = told ≡ true → is_loud_in_all b.layers v ≡ true → StepsCalmly b.may_hold b.contents b.layers b.size b.fault_count b.done_count event v
