-- A step: an event of the volume that is due, or nothing. This project's own.
use Rattle.std.specs.Prelude.{◌≡◌, ◌⊎◌, ◌==◌, ◌&&◌, ℕ, Bool, true, false, List, length, None, Ok}
use Rattle.device.specs.Layers.{Layer}
use Rattle.plain_machine.specs.declared.event.Event.{Event}
use Rattle.plain_machine.specs.declared.event.Outcome.{Outcome}
use Rattle.plain_machine.specs.declared.request.Dev.{Dev}
use Rattle.plain_machine.specs.Legal.{IsLegalStep}
use Rattle.nbd_backend.specs.declared.array.Stepped.{Stepped}
use Rattle.nbd_backend.specs.declared.array.Stepped.TheVariants.{Still, Idle, Done, Slow, Back, Ended}
use Rattle.volume.specs.Answered.{is_told}
use Rattle.volume.specs.Calm.{IsSure, is_fault}
use Rattle.volume.specs.Causes.{counts_of}
use Rattle.volume.specs.DoesAhead.{DoesAhead}
use Rattle.volume.specs.DoesStep.{DoesStep}
use Rattle.volume.specs.EventKinds.{is_of_merge}
use Rattle.volume.specs.Moved.{moving_of}
use Rattle.volume.specs.Volumed.{Volumed, is_due_of, is_loud_in_all, plain_of}
use Rattle.copy_before_write_laws.specs.Saves.{SavesFirst}
use Rattle.volume_nbd.specs.Answers.{stepped_as}
use Rattle.volume_nbd.specs.Faults.{is_failed_at}
use Rattle.volume_nbd.specs.Looked.{IsLookedAt}

-- whether something comes back of a step
abbrev pub is_back : Stepped → Bool
is_back Still = false
is_back Idle = false
is_back Done = false
is_back Slow = false
is_back (Back number bytes error) = true
is_back Ended = false

-- whether no request waits for an event: it is a merge's, and none is in flight
abbrev pub is_idle : {B : Type 0} → Volumed B → Event → Bool
is_idle v event = is_of_merge event && (length v.flights == 0)

-- An event that was due was done ahead and then done, and its outcome is told. Where no file lost what was written to it, that is
-- a legal step of the plain machine: a read's bytes are what its one array holds. And each snapshot is saved first: what is written over
-- has its copy by then, and a lost snapshot its mark. What a volume keeps true it keeps, and so what a stop
-- then leaves is known. While no file left a call unanswered, the devices answer what the event asks, once that was done ahead; and where
-- they do, it tells no fault, and no device counts one: so it fails no request and no merge, and a snapshot that it loses is one whose
-- store is full.
pub record DoesEvent {B : Type 0} (holds : B → ℕ → List ℕ → Type 0) (contents : B → List ℕ) (layers : B → List Layer) (size faults done : B → ℕ) (failed unanswered : B → Bool) (chosen : Dev) (stepped : Stepped) (old new : Volumed B) : Type 0 where
  pub event : Event
  pub outcome : Outcome
  pub between : Volumed B
  pub due : is_due_of contents layers old event ≡ true
  pub ahead : DoesAhead holds contents layers size faults done old between
  pub step : DoesStep holds contents layers size faults done true event (Ok outcome) between new
  pub legal : is_loud_in_all layers new ≡ true → IsLegalStep (plain_of contents layers old) event outcome (plain_of contents layers new)
  pub saves : SavesFirst contents layers size event old new
  pub looked : IsLookedAt holds contents layers size new
  pub ready : IsSure contents layers unanswered event (is_told event (moving_of contents layers None between)) between
  pub calm : is_told event (moving_of contents layers None between) ≡ true → is_loud_in_all layers new ≡ true → (is_fault outcome ≡ false) × (counts_of faults new ≡ counts_of faults between)
  pub told : stepped ≡ stepped_as (is_idle old event) (is_failed_at failed chosen new) outcome

-- One event, or none: then nothing comes back.
abbrev pub DoesServedStep : {B : Type 0} → (B → ℕ → List ℕ → Type 0) → (B → List ℕ) → (B → List Layer) → (B → ℕ) → (B → ℕ) → (B → ℕ) → (B → Bool) → (B → Bool) → Dev → Stepped → Volumed B → Volumed B → Type 0
DoesServedStep holds contents layers size faults done failed unanswered chosen stepped old new =
    DoesEvent holds contents layers size faults done failed unanswered chosen stepped old new ⊎ ((new ≡ old) × (is_back stepped ≡ false))
