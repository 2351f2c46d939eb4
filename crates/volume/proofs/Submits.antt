-- What `submit` does as one record: a call that was refused for want of room and changed nothing does it; and of a call it says, with
-- why it is refused, what a list of calls asks.
use Rattle.std.proofs.Common.{◌≡◌, ◌≢◌, ℕ, List, None, refl}
use Rattle.std.specs.Prelude.{Err, IfErr, IfOk, Ok, Result}
use Rattle.device.specs.Layers.{Layer}
use Rattle.sector.specs.declared.refusal.Refusal.{Refusal}
use Rattle.sector.specs.declared.refusal.Refusal.TheVariants.{JournalFull, NoMemory}
use Rattle.plain_machine.specs.Failures.{refusal_of}
use Rattle.plain_machine.specs.declared.request.Failure.{Failure}
use Rattle.plain_machine.specs.declared.request.Failure.TheVariants.{Invalid, Io, Overflow}
use Rattle.plain_machine.specs.declared.request.Request.{Request}
use Rattle.volume.specs.DoesSubmit.{DoesSubmit}
use Rattle.volume.specs.Layering.{Measures}
use Rattle.volume.specs.Running.{IsSubmitReturned}
use Rattle.volume.specs.Submitting.{IsAcceptedAs, IsRefusedAs, submit_refusal}
use Rattle.volume.specs.Volumed.{Volumed}
use Rattle.volume.specs.Whole.{IsWhole}
use Rattle.volume.proofs.Declines.{refused_loud}
use Rattle.volume.proofs.Keeping.{keeps_all, keeps_refused}
use Rattle.volume.proofs.Refusals.{failure_declined, others_unseen}

-- a full journal and want of memory are no replies
pub not_full : (failure : Failure) → JournalFull ≢ refusal_of failure
not_full Invalid = λ e. cc
not_full Io = λ e. cc
not_full Overflow = λ e. cc

pub not_starved : (failure : Failure) → NoMemory ≢ refusal_of failure
not_starved Invalid = λ e. cc
not_starved Io = λ e. cc
not_starved Overflow = λ e. cc

pub not_submitted : {B : Type 0} (contents : B → List ℕ) (layers : B → List Layer) (size : B → ℕ) (request : Request) (refusal : Refusal) (v : Volumed B) → ((failure : Failure) → refusal ≢ refusal_of failure) → DoesSubmit contents layers size request (Err refusal) v v
not_submitted contents layers size request refusal v none = record {
  ok = tt;
  kept = record { attached = refl; numbers = refl; chunks = refl; merged = refl; sizes = refl };
  untouched = record { origin = refl; devices = refl; attached = refl; numbers = refl; chunks = refl; merge = refl };
  loud = refl;
  admitted = tt;
  exact = tt;
  declined = λ failure is other number replied. absurd (none failure is);
  starved = λ valid room replied. refl;
}

-- one that was accepted, or refused for its reason, does it
pub submitted_by : {B : Type 0} (contents : B → List ℕ) (layers : B → List Layer) (size : B → ℕ) (v w : Volumed B) → IsWhole contents layers size v → (request : Request) (result : Result ℕ Refusal)
    → IfOk result (λ number. IsAcceptedAs contents layers request number v w) → IfOk result (λ _. submit_refusal size request v ≡ None) → IfErr result (λ refusal. IsRefusedAs contents layers size request refusal v w)
    → DoesSubmit contents layers size request result v w
submitted_by contents layers size v w whole request (Ok number) accepted free refused = record {
  ok = accepted;
  kept = keeps_all size v w accepted.kept;
  untouched = accepted.kept;
  loud = accepted.loud;
  admitted = free;
  exact = accepted.exact;
  declined = tt;
  starved = tt;
}
submitted_by contents layers size v w whole request (Err refusal) accepted free refused =
    let same = keeps_refused contents layers size request refusal v w refused in record {
      ok = tt;
      kept = keeps_all size v w same;
      untouched = same;
      loud = refused_loud contents layers size v w request refusal refused;
      admitted = tt;
      exact = tt;
      declined = failure_declined contents layers size v w whole request refusal refused;
      starved = others_unseen contents layers size v w whole request refusal refused;
    }

pub submit_returned : {B : Type 0} (m : Measures B) (layers : B → List Layer) (request : Request) (result : Result ℕ Refusal) (v w : Volumed B)
    → DoesSubmit m.contents layers m.size request result v w → IfErr result (λ refusal. IsRefusedAs m.contents layers m.size request refusal v w) → IsSubmitReturned m layers request result v w
submit_returned m layers request (Ok number) v w does refused = (does.ok, does.admitted)
submit_returned m layers request (Err refusal) v w does refused = refused
