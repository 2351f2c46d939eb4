-- What was begun with a request that its volume served.
use Rattle.std.proofs.Common.{◌≡◌, inl, inr, ℕ, ◌+◌, true, List, [], ◌∷◌, length, map, Some, refl, ◌∙◌, ap, arith, length-append, subst}
use Rattle.std.specs.Prelude.{Ok}
use Rattle.device.specs.Layers.{Layer}
use Rattle.plain_machine.specs.Kept.{kept}
use Rattle.plain_machine.specs.Plain.{InFlight}
use Rattle.plain_machine.specs.declared.event.Event.TheVariants.{Issue}
use Rattle.plain_machine.specs.declared.event.Outcome.TheVariants.{Reply as Replied}
use Rattle.plain_machine.specs.declared.request.Failure.{Failure}
use Rattle.plain_machine.specs.declared.request.Failure.TheVariants.{Invalid}
use Rattle.plain_machine.specs.declared.request.Reply.{Reply}
use Rattle.plain_machine.specs.declared.request.Reply.TheVariants.{Refused}
use Rattle.plain_machine.specs.declared.request.Request.{Request}
use Rattle.in_flight.specs.Kinds.{in_flight}
use Rattle.in_flight.specs.declared.flights.Flight.{Flight}
use Rattle.event_machine.specs.Due.{due}
use Rattle.event_machine.specs.Held.{Moving}
use Rattle.event_machine.specs.Settles.{settle_by}
use Rattle.event_machine.specs.Stepping.{stepped}
use Rattle.event_machine.specs.Submitting.{submitted}
use Rattle.volume.specs.DoesServe.{DoesServe, IsServedAtOnce}
use Rattle.volume.specs.DoesSubmit.{DoesSubmit}
use Rattle.volume.specs.Leaving.{is_quiet_of}
use Rattle.volume.specs.Moved.{moving_of}
use Rattle.volume.specs.Reaching.{Reaches}
use Rattle.volume.specs.Submitting.{IsAcceptedAs}
use Rattle.volume.specs.Volumed.{Volumed, is_loud_in_all}
use Rattle.volume.specs.declared.at_once.Served.{Served}
use Rattle.volume.specs.declared.at_once.Served.TheVariants.{Answered, InFlight as IsInFlight}
use Rattle.volume.proofs.Quieted.{quiet_flights}
use Rattle.volume.proofs.Reaches.{reaches_more, reaches_none}
use Rattle.volume_commands.specs.AtRest.{IsBegun, IsEntered}
use Rattle.counted_volume.proofs.DoneDue.{done_none, done_one, due_is}
use Rattle.counted_volume.proofs.Freed.{beside_due}

-- one run after another
pub reaches_then : (m w u : Moving) → Reaches m w → Reaches w u → Reaches m u
reaches_then m w u first second = record {
  steps = first.steps + second.steps;
  settles = λ more.
      let count : first.steps + second.steps + more ≡ first.steps + (second.steps + more) = omega arith in
      ap (λ n. settle_by due stepped n m) count ∙ first.settles (second.steps + more) ∙ second.settles more;
}

-- a volume that an accepted request is in is not quiet
accepted_busy : {B : Type 0} (contents : B → List ℕ) (layers : B → List Layer) (request : Request) (number : ℕ) (v w : Volumed B) → IsAcceptedAs contents layers request number v w → is_quiet_of w ≡ true → ⊥
accepted_busy contents layers request number v w is quiet =
    let own : InFlight = record { number = number; request = kept request } in
    let none = ap (λ (fs : List Flight). length (map in_flight fs)) (quiet_flights w quiet) in
    let some = ap (λ (xs : List InFlight). length xs) is.flown in
    let long = length-append (map in_flight v.flights) (own ∷ []) in
    omega (arith, none, some, long)

module _ {B : Type 0} (holds : B → ℕ → List ℕ → Type 0) (contents : B → List ℕ) (layers : B → List Layer) (size faults done : B → ℕ) (request : Request) (v w : Volumed B) where
  -- what it does by what became of the request
  pub flying_is : (number : ℕ) (served : Served) → served ≡ IsInFlight number → DoesServe holds contents layers size faults done request (Ok served) v w → DoesSubmit contents layers size request (Ok number) v w
  flying_is number served is does = subst (λ (s : Served). DoesServe holds contents layers size faults done request (Ok s) v w) is does

  pub answered_is : (number : ℕ) (reply : Reply) (served : Served) → served ≡ Answered number reply → DoesServe holds contents layers size faults done request (Ok served) v w → IsServedAtOnce holds contents layers size faults done request number reply v w
  answered_is number reply served is does = subst (λ (s : Served). DoesServe holds contents layers size faults done request (Ok s) v w) is does

  -- nothing was replied yet
  pub begun_waits : (failure : Failure) (number : ℕ) → IsEntered contents layers size request failure v w → submitted number request (moving_of contents layers (Some (Refused failure)) v) ≡ moving_of contents layers (Some (Refused failure)) w → is_loud_in_all layers w ≡ is_loud_in_all layers v
      → IsBegun holds contents layers faults size request (Refused failure) v w
  begun_waits failure number entered exact loud = record {
    failure = failure;
    number = number;
    mid = w;
    entered = entered;
    exact = exact;
    did = done_none holds contents layers faults size (Refused failure) w;
    led = inl (refl, refl);
    run = record { reaches = λ all. reaches_none (moving_of contents layers (Some (Refused failure)) w); loud = refl };
    still = λ quiet. refl;
    loud = loud;
  }

  -- it was answered
  pub begun_answered : (number : ℕ) (reply : Reply) → IsServedAtOnce holds contents layers size faults done request number reply v w → IsBegun holds contents layers faults size request reply v w
  begun_answered number reply does =
      let mid : Volumed B = does.mid in
      let step = due_is holds contents layers faults size (Issue number) (Replied number reply) (Replied number reply) mid w does.steps.due refl does.steps.exact does.steps.legal does.steps.flown does.steps.cause does.steps.counts.0 does.steps.kept does.steps.loud does.steps.closes does.steps.stops in
      record {
        failure = Invalid;
        number = number;
        mid = mid;
        entered = inl (number, refl, does.submits.ok);
        exact = does.submits.exact (Some (Refused Invalid));
        did = done_one holds contents layers faults size (Refused Invalid) (Issue number) (Replied number reply) mid w step;
        led = inr (Issue number, Replied number reply, w, does.machine, step, done_none holds contents layers faults size reply w);
        run = record {
          reaches = λ all.
              reaches_more (moving_of contents layers (Some (Refused Invalid)) mid) (moving_of contents layers (Some (Refused Invalid)) mid) (moving_of contents layers (Some reply) w) (Issue number) (reaches_none (moving_of contents layers (Some (Refused Invalid)) mid))
              (beside_due (Issue number) (moving_of contents layers (Some (Refused Invalid)) mid) (does.machine (Some (Refused Invalid))) refl) (does.steps.exact.step all (Some (Refused Invalid)));
          loud = does.steps.loud;
        };
        still = λ quiet. absurd (accepted_busy contents layers request number v mid does.submits.ok quiet);
        loud = does.submits.loud;
      }
