-- What is known of an event that was done ahead and then done.
use Rattle.std.proofs.Common.{◌≡◌, ℕ, ◌*◌, ◌<◌, Bool, true, List, None, Ok, length, sym, ◌∙◌}
use Rattle.sector.specs.Bytes.{sector_at}
use Rattle.device.specs.Layers.{Layer}
use Rattle.plain_machine.specs.declared.event.Event.{Event}
use Rattle.plain_machine.specs.declared.event.Outcome.{Outcome}
use Rattle.nbd_backend.specs.declared.array.Stepped.{Stepped}
use Rattle.plain_machine.specs.declared.request.Dev.{Dev}
use Rattle.volume.specs.Answered.{is_told}
use Rattle.volume.specs.Calm.{IsSure, StepsCalmly}
use Rattle.volume.specs.DoesAhead.{DoesAhead}
use Rattle.volume.specs.DoesStep.{DoesStep}
use Rattle.volume.specs.Lasting.{IsKept}
use Rattle.volume.specs.Moved.{moving_of}
use Rattle.volume.specs.Volumed.{Volumed, is_due_of, is_loud_in_all, plain_of}
use Rattle.volume.proofs.Aheads.{kept_ahead}
use Rattle.copy_before_write_laws.proofs.Aheads.{ahead_saves}
use Rattle.copy_before_write_laws.proofs.Events.{event_saves}
use Rattle.volume_nbd.specs.Answers.{stepped_as}
use Rattle.volume_nbd.specs.Faults.{is_failed_at}
use Rattle.volume_nbd.specs.Looked.{IsLookedAt}
use Rattle.volume_nbd.specs.Steps.{DoesEvent, is_idle}

module _ {B : Type 0} (holds : B → ℕ → List ℕ → Type 0) (contents : B → List ℕ) (layers : B → List Layer) (size faults done : B → ℕ) (failed unanswered : B → Bool) (chosen : Dev)
    (whole : (d : B) → length (contents d) ≡ 512 * size d) (here : (d : B) (s : ℕ) → s < size d → holds d s (sector_at (contents d) s)) where
  pub event_done : (event : Event) (outcome : Outcome) (stepped : Stepped) (old between new : Volumed B) → is_due_of contents layers old event ≡ true → DoesAhead holds contents layers size faults done old between
      → DoesStep holds contents layers size faults done true event (Ok outcome) between new
      → IsSure contents layers unanswered event (is_told event (moving_of contents layers None between)) between
      → (is_told event (moving_of contents layers None between) ≡ true → is_loud_in_all layers between ≡ true → StepsCalmly holds contents layers size faults done event between)
      → IsKept holds contents layers size old → IsLookedAt holds contents layers size new
      → stepped ≡ stepped_as (is_idle old event) (is_failed_at failed chosen new) outcome → DoesEvent holds contents layers size faults done failed unanswered chosen stepped old new
  event_done event outcome stepped old between new due ahead step ready calm kept looked told = record {
    event = event;
    outcome = outcome;
    between = between;
    due = due;
    ahead = ahead;
    step = step;
    legal = λ loud. let was : is_loud_in_all layers between ≡ true = sym step.loud ∙ loud in
        let e : plain_of contents layers between ≡ plain_of contents layers old = ahead.plain was in
        rw e at step.legal was;
    saves = record {
      each = λ k s t within is at loud.
          (ahead_saves holds contents layers size faults done whole here event old between new ahead step.loud
          (event_saves holds contents layers size whole here event outcome between new (kept_ahead holds contents layers size faults done whole old between ahead.devices kept) looked.kept (sym step.loud ∙ loud) loud step.kept step.exact)).each k s t within is at loud;
    };
    looked = looked;
    ready = ready;
    calm = λ answered loud. calm answered (sym step.loud ∙ loud) outcome new step;
    told = told;
  }
