-- The volume's other calls are lists of deeds: each event of them is a step, by the volume's own contract.
use Rattle.std.proofs.Common.{◌≡◌, ℕ, zero, suc, Bool, true, false, List, [], ◌∷◌, map, Option, None, Some, inl, refl, sym, ◌∙◌, ap, subst}
use Rattle.std.specs.Prelude.{◌&&◌, IfErr, IfOk, Result, Ok, Err}
use Rattle.std.specs.List.{All}
use Rattle.std.proofs.lemmas.Bool.{false≢true}
use Rattle.std.proofs.lemmas.List.Elements.{All-cons, All-nil}
use Rattle.sector.specs.declared.refusal.Refusal.{Refusal}
use Rattle.device.specs.Layers.{Layer}
use Rattle.plain_machine.specs.declared.event.Event.{Event}
use Rattle.plain_machine.specs.declared.event.Event.TheVariants.{Issue, MergeRead, MergeWrite}
use Rattle.plain_machine.specs.declared.event.NotDue.{NotDue}
use Rattle.plain_machine.specs.declared.event.Outcome.{Outcome}
use Rattle.plain_machine.specs.declared.event.Outcome.TheVariants.{Done, Reply as Replied}
use Rattle.plain_machine.specs.declared.request.Reply.{Reply}
use Rattle.plain_machine.specs.declared.request.Request.{Request}
use Rattle.volume_laws.specs.MergeDue.{is_none}
use Rattle.merge.specs.declared.group.Group.{Group}
use Rattle.merge.specs.Due.{can_copy_of}
use Rattle.merge.specs.Merging.{Merging}
use Rattle.device.specs.Bare.{can_copy_run}
use Rattle.volume.specs.declared.at_once.Served.{Served}
use Rattle.volume.specs.declared.at_once.Served.TheVariants.{Answered, InFlight}
use Rattle.volume.specs.declared.calls.Call.{Call}
use Rattle.volume.specs.declared.calls.Call.TheVariants.{Submit as Submits, Step as Steps, Tick as Ticks, Message, BeginMerge as Begins, ResumeMerge as Resumes}
use Rattle.volume.specs.declared.calls.Returned.{Returned}
use Rattle.volume.specs.declared.calls.Returned.TheVariants.{Submitted as WasSubmitted, Stepped as WasStepped, Ticked as HasTicked, Told as WasTold, Begun as WasBegun, Resumed as WasResumed}
use Rattle.volume.specs.Copied.{AreCopied, can_copy_group, can_copy_to}
use Rattle.volume.specs.DoesServe.{DoesServe, IsServedAtOnce}
use Rattle.volume.specs.Layering.{Measures}
use Rattle.volume.specs.Running.{AreReturned, IsBeginReturned, IsReturned, IsStepReturned, IsSubmitReturned}
use Rattle.volume.specs.Submitting.{IsRefusedAs, submit_refusal}
use Rattle.volume.specs.Volumed.{Volumed, is_loud_in_all, plain_of}
use Rattle.volume.proofs.Declines.{refused_declined, refused_loud}
use Rattle.volume.proofs.Ran.{are_loud, returned_legal, unbegun_same}
use Rattle.volume_lifetime.specs.Answered.{AreAnswered, IsDone}
use Rattle.volume_lifetime.specs.AtOnce.{copied_chunks, copy_answers, copy_deeds, deed_of, done_of, lent_as, served_answers, served_deeds, waiting_in}
use Rattle.volume_lifetime.specs.Lived.{IsLived, IsLoudDeed, Taken}
use Rattle.volume_lifetime.specs.declared.deed.Deed.TheVariants.{Step, Submit}
use Rattle.volume_lifetime.specs.declared.deed.Done.TheVariants.{Stepped, Submitted}
use Rattle.volume_lifetime.proofs.Lives.{all_lived, step_done, submit_done}

-- nothing is copied where there is no merge
and_false : (a b : Bool) → (a && (b && false)) ≡ false
and_false true true = refl
and_false true false = refl
and_false false b = refl

module _ {B : Type 0} (holds : B → ℕ → List ℕ → Type 0) (m : Measures B) (layers : B → List Layer) where
  pub served_answered : (request : Request) (result : Result Served Refusal) (v w : Volumed B) → DoesServe holds m.contents layers m.size m.faults m.done request result v w → IfErr result (λ refusal. IsRefusedAs m.contents layers m.size request refusal v w)
      → AreAnswered holds m layers (served_deeds request result) (served_answers result) v w
  served_answered request (Ok (Answered number reply)) v w s why =
      (s.mid, submit_done holds m layers request (Ok number) v s.mid s.submits tt, (w, step_done holds m layers (Issue number) (Ok (Replied number reply)) s.mid w s.steps, refl))
  served_answered request (Ok (InFlight number)) v w does why = (w, submit_done holds m layers request (Ok number) v w does tt, refl)
  served_answered request (Err refusal) v w does why = (w, submit_done holds m layers request (Err refusal) v w does why, refl)

  pub served_lived : (taken : List Taken) (request : Request) (result : Result Served Refusal) (v w : Volumed B) → AreAnswered holds m layers (served_deeds request result) (served_answers result) v w → is_loud_in_all layers v ≡ true
      → IsLived m layers taken (served_deeds request result) (served_answers result) v w
  served_lived taken request (Ok (Answered number reply)) v w (mid, first, (last, second, same)) loud =
      (mid, first.seen loud tt, tt, (last, second.seen (first.loud loud tt) tt, tt, same))
  served_lived taken request (Ok (InFlight number)) v w (mid, first, same) loud = (mid, first.seen loud tt, tt, same)
  served_lived taken request (Err refusal) v w (mid, first, same) loud = (mid, first.seen loud tt, tt, same)

  refused_done : (request : Request) (refusal : Refusal) (v w : Volumed B) → IsRefusedAs m.contents layers m.size request refusal v w → IsDone holds m layers (Submit request) (Submitted (Err refusal)) v w
  refused_done request refusal v w is = record {
    loud = λ l brought. refused_loud m.contents layers m.size v w request refusal is ∙ l;
    seen = λ l brought. record { sees = refused_declined m.contents layers m.size v w request refusal is l; reason = tt; disk = tt };
    answered = is;
  }

  pub lent_answered : (request : Request) (number : ℕ) (result : Result Reply Refusal) (v w : Volumed B) → IfOk result (λ reply. IsServedAtOnce holds m.contents layers m.size m.faults m.done request number reply v w)
      → IfErr result (λ refusal. (submit_refusal m.size request v ≡ Some refusal) × (w ≡ v)) → AreAnswered holds m layers (served_deeds request (lent_as number result)) (served_answers (lent_as number result)) v w
  lent_answered request number (Ok reply) v w s why = served_answered request (Ok (Answered number reply)) v w s tt
  lent_answered request number (Err refusal) v w s why = (w, refused_done request refusal v w (inl why), refl)

  copied_answered : (n : ℕ) (v w : Volumed B) → AreCopied holds m.contents layers m.size m.faults m.done n v w → AreAnswered holds m layers (copy_deeds n) (copy_answers n) v w
  copied_answered zero v w same = same
  copied_answered (suc n) v w (read, written, r, t, rest) =
      (read, step_done holds m layers MergeRead (Ok Done) v read r.does, (written, step_done holds m layers MergeWrite (Ok Done) read written t.does, copied_answered n written w rest))

  pub copied_lived : (taken : List Taken) (n : ℕ) (v w : Volumed B) → AreAnswered holds m layers (copy_deeds n) (copy_answers n) v w → is_loud_in_all layers v ≡ true → IsLived m layers taken (copy_deeds n) (copy_answers n) v w
  copied_lived taken zero v w same loud = same
  copied_lived taken (suc n) v w (read, first, (written, second, rest)) loud =
      let there = first.loud loud tt in
      (read, first.seen loud tt, tt, (written, second.seen there tt, tt, copied_lived taken n written w rest (second.loud there tt)))

  -- the group's own chunks
  pub group_answered : (copies_runs : Bool) (result : Bool) (v w : Volumed B) → result ≡ can_copy_group copies_runs layers v
      → (result ≡ true → (g : Merging B) → v.merge ≡ Some g → (group : Group) → g.group ≡ Some group → AreCopied holds m.contents layers m.size m.faults m.done group.waiting v w) → (result ≡ false → w ≡ v)
      → AreAnswered holds m layers (copy_deeds (copied_chunks result v.merge)) (copy_answers (copied_chunks result v.merge)) v w
  group_answered copies_runs false v w can copied same = same refl
  group_answered copies_runs true v w can copied same = by v.merge refl
    where
      none : can_copy_to copies_runs layers v.origin v.merge ≡ false → ⊥
      none never = false≢true (sym (can ∙ ap (λ b. is_none v.snaps && (is_none v.flights && b)) never ∙ and_false (is_none v.snaps) (is_none v.flights)))

      grouped : (g : Merging B) → v.merge ≡ Some g → (group : Option Group) → g.group ≡ group → AreAnswered holds m layers (copy_deeds (copied_chunks true (Some g))) (copy_answers (copied_chunks true (Some g))) v w
      grouped g is None at = absurd (none (ap (can_copy_to copies_runs layers v.origin) is ∙ ap (λ o. can_copy_of o g.state.chunk g.state.origin && can_copy_run copies_runs (layers v.origin) (layers g.device)) at))
      grouped g is (Some group) at = subst (λ o. AreAnswered holds m layers (copy_deeds (waiting_in o)) (copy_answers (waiting_in o)) v w) (sym at) (copied_answered group.waiting v w (copied refl g is group at))

      by : (merge : Option (Merging B)) → v.merge ≡ merge → AreAnswered holds m layers (copy_deeds (copied_chunks true merge)) (copy_answers (copied_chunks true merge)) v w
      by None is = absurd (none (ap (can_copy_to copies_runs layers v.origin) is))
      by (Some g) is = grouped g is g.group refl

  -- a list of calls
  call_loud : (call : Call) (returned : Returned) (v w : Volumed B) → IsReturned m layers call returned v w → is_loud_in_all layers w ≡ is_loud_in_all layers v
  call_loud call returned v w e = are_loud m layers (call ∷ []) (returned ∷ []) v w (w, e, refl)

  submit_returned_done : (request : Request) (result : Result ℕ Refusal) (v w : Volumed B) → IsSubmitReturned m layers request result v w → IsDone holds m layers (Submit request) (Submitted result) v w
  submit_returned_done request (Ok number) v w e = record {
    loud = λ l brought. e.0.loud ∙ l;
    seen = λ l brought. record { sees = (_, e.0.legal l); reason = (e.0.lives, e.0.kept); disk = tt };
    answered = e;
  }
  submit_returned_done request (Err refusal) v w e = refused_done request refusal v w e

  step_returned_done : (event : Event) (result : Result Outcome NotDue) (v w : Volumed B) → IsStepReturned m layers event result v w → IsDone holds m layers (Step event) (Stepped result) v w
  step_returned_done event (Ok outcome) v w e = record {
    loud = λ l brought. e.0.0.loud ∙ l;
    seen = λ l brought. record { sees = e.0.0.legal l; reason = (e.0.0.cause, e.0.0.one); disk = tt };
    answered = e;
  }
  step_returned_done event (Err early) v w e = record {
    loud = λ l brought. ap (is_loud_in_all layers) e.0 ∙ l;
    seen = λ l brought. record { sees = ap (plain_of m.contents layers) e.0; reason = tt; disk = tt };
    answered = e;
  }

  begin_returned_done : (number : ℕ) (result : Result (Unit {0}) Refusal) (v w : Volumed B) → IsBeginReturned m layers number result v w → IsDone holds m layers (deed_of (Begins number)) (done_of (WasBegun result)) v w
  begin_returned_done number (Ok done) v w e = record {
    loud = λ l brought. e.1 ∙ l;
    seen = λ l brought. record { sees = e.0.legal l; reason = tt; disk = tt };
    answered = e;
  }
  begin_returned_done number (Err refusal) v w e = record {
    loud = λ l brought. e.1 ∙ l;
    seen = λ l brought. record { sees = unbegun_same m.contents layers number refusal v w e.0.why; reason = tt; disk = tt };
    answered = e;
  }

  returned_done : (call : Call) (returned : Returned) (v w : Volumed B) → IsReturned m layers call returned v w → IsDone holds m layers (deed_of call) (done_of returned) v w
  returned_done (Submits request) (WasSubmitted result) v w e = submit_returned_done request result v w e
  returned_done (Steps event) (WasStepped result) v w e = step_returned_done event result v w e
  returned_done (Begins number) (WasBegun result) v w e = begin_returned_done number result v w e
  returned_done (Ticks seconds) HasTicked v w e = record {
    loud = λ l brought. call_loud (Ticks seconds) HasTicked v w e ∙ l;
    seen = λ l brought. record { sees = returned_legal m layers (Ticks seconds) HasTicked v w l e; reason = tt; disk = tt };
    answered = e;
  }
  returned_done (Message dev depth message) (WasTold result) v w e = record {
    loud = λ l brought. call_loud (Message dev depth message) (WasTold result) v w e ∙ l;
    seen = λ l brought. record { sees = returned_legal m layers (Message dev depth message) (WasTold result) v w l e; reason = tt; disk = tt };
    answered = e;
  }
  returned_done Resumes (WasResumed result) v w e = record {
    loud = λ l brought. call_loud Resumes (WasResumed result) v w e ∙ l;
    seen = λ l brought. record { sees = returned_legal m layers Resumes (WasResumed result) v w l e; reason = tt; disk = tt };
    answered = e;
  }
  returned_done (Submits request) (WasStepped result) v w e = absurd e
  returned_done (Submits request) HasTicked v w e = absurd e
  returned_done (Submits request) (WasTold result) v w e = absurd e
  returned_done (Submits request) (WasBegun result) v w e = absurd e
  returned_done (Submits request) (WasResumed result) v w e = absurd e
  returned_done (Steps event) (WasSubmitted result) v w e = absurd e
  returned_done (Steps event) HasTicked v w e = absurd e
  returned_done (Steps event) (WasTold result) v w e = absurd e
  returned_done (Steps event) (WasBegun result) v w e = absurd e
  returned_done (Steps event) (WasResumed result) v w e = absurd e
  returned_done (Ticks seconds) (WasSubmitted result) v w e = absurd e
  returned_done (Ticks seconds) (WasStepped result) v w e = absurd e
  returned_done (Ticks seconds) (WasTold result) v w e = absurd e
  returned_done (Ticks seconds) (WasBegun result) v w e = absurd e
  returned_done (Ticks seconds) (WasResumed result) v w e = absurd e
  returned_done (Message dev depth message) (WasSubmitted result) v w e = absurd e
  returned_done (Message dev depth message) (WasStepped result) v w e = absurd e
  returned_done (Message dev depth message) HasTicked v w e = absurd e
  returned_done (Message dev depth message) (WasBegun result) v w e = absurd e
  returned_done (Message dev depth message) (WasResumed result) v w e = absurd e
  returned_done (Begins number) (WasSubmitted result) v w e = absurd e
  returned_done (Begins number) (WasStepped result) v w e = absurd e
  returned_done (Begins number) HasTicked v w e = absurd e
  returned_done (Begins number) (WasTold result) v w e = absurd e
  returned_done (Begins number) (WasResumed result) v w e = absurd e
  returned_done Resumes (WasSubmitted result) v w e = absurd e
  returned_done Resumes (WasStepped result) v w e = absurd e
  returned_done Resumes HasTicked v w e = absurd e
  returned_done Resumes (WasTold result) v w e = absurd e
  returned_done Resumes (WasBegun result) v w e = absurd e

  pub all_answered : (calls : List Call) (returned : List Returned) (v w : Volumed B) → AreReturned m layers calls returned v w → AreAnswered holds m layers (map deed_of calls) (map done_of returned) v w
  all_answered [] [] v w e = e
  all_answered [] (r ∷ rs) v w e = absurd e
  all_answered (c ∷ cs) [] v w e = absurd e
  all_answered (c ∷ cs) (r ∷ rs) v w (mid, one, rest) = (mid, returned_done c r v mid one, all_answered cs rs mid w rest)

  -- none of them brings a device
  no_device : (c : Call) → IsLoudDeed layers (deed_of c)
  no_device (Submits request) = tt
  no_device (Steps event) = tt
  no_device (Ticks seconds) = tt
  no_device (Message dev depth message) = tt
  no_device (Begins number) = tt
  no_device Resumes = tt

  brings_none : (calls : List Call) → All (IsLoudDeed layers) (map deed_of calls)
  brings_none [] = All-nil (IsLoudDeed layers)
  brings_none (c ∷ cs) = All-cons (IsLoudDeed layers) (deed_of c) (map deed_of cs) (no_device c) (brings_none cs)

  pub calls_lived : (calls : List Call) (returned : List Returned) (v w : Volumed B) → AreReturned m layers calls returned v w → is_loud_in_all layers v ≡ true → IsLived m layers [] (map deed_of calls) (map done_of returned) v w
  calls_lived calls returned v w e loud = all_lived holds m layers (map deed_of calls) (map done_of returned) v w (all_answered calls returned v w e) loud (brings_none calls)
