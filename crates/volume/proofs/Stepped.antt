-- What `step` does as one record: a call that was refused and changed nothing does it; and of a call it says what a list of calls asks.
use Rattle.std.proofs.Common.{◌≡◌, ◌∙◌, ℕ, Bool, List, ap, false, map, refl, subst, sym, true}
use Rattle.std.specs.Prelude.{◌&&◌, Err, IfOk, Ok, OnErr, OnOk, Result, Some, is_ok}
use Rattle.device.specs.Layers.{Layer}
use Rattle.plain_machine.specs.declared.event.Event.{Event}
use Rattle.plain_machine.specs.declared.event.NotDue.{NotDue}
use Rattle.plain_machine.specs.declared.event.Outcome.{Outcome}
use Rattle.in_flight.specs.Kinds.{in_flight}
use Rattle.volume.specs.Asking.{is_finished_in}
use Rattle.volume.specs.Closing.{ClosesBy}
use Rattle.volume.specs.DoesStep.{DoesStep}
use Rattle.volume.specs.Exact.{IsExact}
use Rattle.volume.specs.Lasting.{StopsEach}
use Rattle.volume.specs.Layering.{Measures}
use Rattle.volume.specs.Running.{IsStepReturned}
use Rattle.volume.specs.Stepping.{IsStepped}
use Rattle.volume.specs.Stopping.{StopsVolume, given_by}
use Rattle.volume.specs.Stored.{RemovesPairs, is_finished_on}
use Rattle.volume.specs.Volumed.{Volumed, is_due_of, is_loud_in_all, next_of}

pub not_stepped : {B : Type 0} (holds : B → ℕ → List ℕ → Type 0) (contents : B → List ℕ) (layers : B → List Layer) (size faults done : B → ℕ) (may : Bool) (event : Event) (early : NotDue) (old new : Volumed B) → new ≡ old
    → false ≡ (may && is_due_of contents layers old event) → (next_of contents layers old ≡ Some event → false ≡ may) → DoesStep holds contents layers size faults done may event (Err early) old new
not_stepped holds contents layers size faults done may event early old new same due first = record {
  due = due;
  first = first;
  legal = tt;
  exact = tt;
  lower = tt;
  loud = ap (is_loud_in_all layers) same;
  cause = tt;
  flown = tt;
  one = tt;
  kept = tt;
  failed = tt;
  counts = tt;
  overflows = tt;
  removes = tt;
  finished = tt;
  closes = tt;
  stops = tt;
  each = tt;
  same = same;
}

-- so it is where who asks for it may not do it
pub not_allowed : {B : Type 0} (holds : B → ℕ → List ℕ → Type 0) (contents : B → List ℕ) (layers : B → List Layer) (size faults done : B → ℕ) (may : Bool) (event : Event) (early : NotDue) (old new : Volumed B) → new ≡ old → may ≡ false
    → DoesStep holds contents layers size faults done may event (Err early) old new
not_allowed holds contents layers size faults done may event early old new same barred =
    not_stepped holds contents layers size faults done may event early old new same (sym (ap (λ b. b && is_due_of contents layers old event) barred)) (λ next. sym barred)

-- and where who asks for it may do it
pub allowed : {B : Type 0} (holds : B → ℕ → List ℕ → Type 0) (contents : B → List ℕ) (layers : B → List Layer) (size faults done : B → ℕ) (may : Bool) (event : Event) (result : Result Outcome NotDue) (old new : Volumed B) → may ≡ true
    → DoesStep holds contents layers size faults done true event result old new → DoesStep holds contents layers size faults done may event result old new
allowed holds contents layers size faults done may event result old new free does = subst (λ b. DoesStep holds contents layers size faults done b event result old new) (sym free) does

-- what an event does by its kind, and what is so of every volume after it
pub stepped_by : {B : Type 0} (holds : B → ℕ → List ℕ → Type 0) (contents : B → List ℕ) (layers : B → List Layer) (size faults done : B → ℕ) (event : Event) (result : Result Outcome NotDue) (old new : Volumed B)
    → is_ok result ≡ is_due_of contents layers old event → (next_of contents layers old ≡ Some event → is_due_of contents layers old event ≡ true)
    → IfOk result (λ outcome. IsStepped contents layers size faults done event outcome old new) → IfOk result (λ outcome. IsExact contents layers event outcome old new) → IfOk result (λ outcome. RemovesPairs contents layers event outcome old new)
    → IfOk result (λ outcome. ClosesBy holds contents layers size event outcome (map in_flight old.flights) new) → OnOk result (is_loud_in_all layers old ≡ true → StopsVolume holds size (given_by event (map in_flight old.flights)) old new)
    → OnOk result (StopsEach holds layers size (given_by event (map in_flight old.flights)) old new)
    → (is_loud_in_all layers new ≡ true → is_finished_in new.merge ≡ is_finished_on contents new.merge) → OnErr result (new ≡ old) → DoesStep holds contents layers size faults done true event result old new
stepped_by holds contents layers size faults done event (Ok outcome) old new due first step exact removes closes stops each finished same = record {
  due = due;
  first = λ next. refl;
  legal = step.legal;
  exact = exact;
  lower = step.lower;
  loud = step.loud;
  cause = step.cause;
  flown = step.flown;
  one = step.one;
  kept = step.kept;
  failed = step.failed;
  counts = (step.requests, step.copies, step.given);
  overflows = step.overflows;
  removes = removes;
  finished = finished;
  closes = closes;
  stops = stops;
  each = each;
  same = tt;
}
stepped_by holds contents layers size faults done event (Err early) old new due first step exact removes closes stops each finished same =
    not_stepped holds contents layers size faults done true event early old new same due (λ next. due ∙ first next)

-- what follows where it was due from two facts that are so then
pub both_of : {P Q R : Type 0} (result : Result Outcome NotDue) → OnOk result P → OnOk result Q → (P → Q → R) → OnOk result R
both_of (Ok outcome) p q f = f p q
both_of (Err early) p q f = tt

pub step_returned : {B : Type 0} (holds : B → ℕ → List ℕ → Type 0) (m : Measures B) (layers : B → List Layer) (event : Event) (result : Result Outcome NotDue) (old new : Volumed B)
    → DoesStep holds m.contents layers m.size m.faults m.done true event result old new → IsStepReturned m layers event result old new
step_returned holds m layers event (Ok outcome) old new does = (
  (
    record {
      legal = does.legal;
      lower = does.lower;
      loud = does.loud;
      cause = does.cause;
      failed = does.failed;
      flown = does.flown;
      one = does.one;
      kept = does.kept;
      requests = does.counts.0;
      copies = does.counts.1;
      given = does.counts.2;
      overflows = does.overflows;
    },
    does.exact,
  ),
  does.due,
)
step_returned holds m layers event (Err early) old new does = (does.same, does.due)
