-- Each deed does what it promises, by the volume's own contracts; and deeds one after another.
use Rattle.std.proofs.Common.{◌≡◌, ◌≢◌, inl, inr, ℕ, Bool, true, false, List, [], ◌∷◌, map, length, None, Some, refl, sym, ◌∙◌, ap, subst, if◌then◌else◌}
use Rattle.std.specs.Prelude.{◌==◌, ◌&&◌, IfErr, Result, Ok, Err}
use Rattle.std.specs.List.{All}
use Rattle.std.specs.Option.{is_some}
use Rattle.std.proofs.lemmas.Bool.{cases_Bool, ne_eqb}
use Rattle.std.proofs.lemmas.List.Elements.{All-head, All-tail}
use Rattle.sector.specs.declared.refusal.Refusal.{Refusal}
use Rattle.device.specs.Layers.{Layer, is_loud}
use Rattle.plain_machine.specs.Plain.{Plain, overflow_of, saved_under}
use Rattle.plain_machine.specs.Legal.{IsTaken}
use Rattle.layers.specs.declared.message.Answer.{Answer}
use Rattle.layers.specs.declared.message.Message.{Message}
use Rattle.plain_machine.specs.declared.event.Event.{Event}
use Rattle.plain_machine.specs.declared.event.NotDue.{NotDue}
use Rattle.plain_machine.specs.declared.event.Outcome.{Outcome}
use Rattle.plain_machine.specs.declared.request.Dev.{Dev}
use Rattle.plain_machine.specs.declared.request.Request.{Request}
use Rattle.snapshot.specs.declared.opening.StoreDev.{StoreDev}
use Rattle.snapshot.specs.Kept.{Kept}
use Rattle.snapshot.specs.Opening.{shown_array}
use Rattle.volume.specs.Shown.{shown_entry, shown_origin}
use Rattle.volume.specs.Attached.{IsGained}
use Rattle.volume.specs.Fresh.{is_fresh}
use Rattle.volume.specs.Beginning.{IsNotBegun}
use Rattle.volume.specs.DoesAttach.{DoesAttach}
use Rattle.volume.specs.DoesBeginMerge.{DoesBeginMerge}
use Rattle.volume.specs.DoesDetach.{DoesDetach}
use Rattle.volume.specs.DoesFinishMerge.{DoesFinishMerge}
use Rattle.volume.specs.DoesMessage.{DoesMessage}
use Rattle.volume.specs.DoesResumeMerge.{DoesResumeMerge}
use Rattle.volume.specs.DoesStep.{DoesStep}
use Rattle.volume.specs.DoesSubmit.{DoesSubmit}
use Rattle.volume.specs.DoesTick.{DoesTick}
use Rattle.volume.specs.Layering.{Measures}
use Rattle.volume.specs.Finishing.{finish_refusal}
use Rattle.volume.specs.Leaving.{detach_refusal, is_quiet_of}
use Rattle.volume.specs.Submitting.{IsRefusedAs}
use Rattle.volume.specs.Taking.{IsNotTaken, attach_refusal}
use Rattle.volume.specs.Volumed.{Volumed, is_loud_in_all, plain_of}
use Rattle.volume.proofs.Attaches.{none_begun, taking_none}
use Rattle.volume.proofs.Between.{begin_returned, resume_returned}
use Rattle.volume.proofs.Fresh.{fresh_shown}
use Rattle.volume.proofs.Declines.{refused_declined}
use Rattle.volume.proofs.Quieted.{quiet_flights}
use Rattle.volume.proofs.Ran.{message_returned, unbegun_same}
use Rattle.volume.proofs.Shown.{and_left}
use Rattle.volume.proofs.Stepped.{step_returned}
use Rattle.volume.proofs.Submits.{submit_returned}
use Rattle.volume_lifetime.specs.declared.deed.Deed.{Deed}
use Rattle.volume_lifetime.specs.declared.deed.Deed.TheVariants.{Submit, Step, Tick, Tell, Attach, Detach, BeginMerge, ResumeMerge, FinishMerge}
use Rattle.volume_lifetime.specs.declared.deed.Done.{Done}
use Rattle.volume_lifetime.specs.declared.deed.Done.TheVariants.{Submitted, Stepped, Ticked, Told, Attached, Detached, Begun, Resumed, Finished}
use Rattle.volume_lifetime.specs.Answered.{AreAnswered, IsDone}
use Rattle.volume_lifetime.specs.Lived.{IsLived, IsLoudDeed, IsSeen, Sees, Taken, Undoes, remembered}
use Rattle.volume_lifetime.proofs.Plains.{AreKept, begun_shows, finished_keeps, less_keeps, refused_keeps, same_all, stepped_keeps, submitted_keeps, taken_kept, taken_keeps}

both : (a b : Bool) → a ≡ true → b ≡ true → (a && b) ≡ true
both true b e f = f
both false b e f = e

-- no snapshot has the number
none_under : {B : Type 0} (contents : B → List ℕ) (origin : List ℕ) (number : ℕ) (snaps : List (Kept B)) → All (λ s. s.number ≢ number) snaps → saved_under number (map (shown_entry contents origin) snaps) ≡ None
none_under contents origin number [] fresh = refl
none_under contents origin number (s ∷ snaps) fresh =
    let other : (s.number == number) ≡ false = ne_eqb s.number number (All-head (λ (x : Kept _). x.number ≢ number) s snaps fresh) in
    rw other (none_under contents origin number snaps (All-tail (λ (x : Kept _). x.number ≢ number) s snaps fresh))

module _ {B : Type 0} (holds : B → ℕ → List ℕ → Type 0) (m : Measures B) (layers : B → List Layer) where
  abbrev plain : Volumed B → Plain
  plain v = plain_of m.contents layers v

  pub submit_done : (request : Request) (result : Result ℕ Refusal) (v w : Volumed B) → DoesSubmit m.contents layers m.size request result v w → IfErr result (λ refusal. IsRefusedAs m.contents layers m.size request refusal v w) → IsDone holds m layers (Submit request) (Submitted result) v w
  submit_done request (Ok number) v w does refused = record {
    loud = λ l brought. does.loud ∙ l;
    seen = λ l brought. record { sees = (_, does.ok.legal l); reason = (does.ok.lives, does.ok.kept); disk = tt };
    answered = submit_returned m layers request (Ok number) v w does refused;
  }
  submit_done request (Err refusal) v w does refused = record {
    loud = λ l brought. does.loud ∙ l;
    seen = λ l brought. record { sees = refused_declined m.contents layers m.size v w request refusal refused l; reason = tt; disk = tt };
    answered = submit_returned m layers request (Err refusal) v w does refused;
  }

  pub step_done : (event : Event) (result : Result Outcome NotDue) (v w : Volumed B) → DoesStep holds m.contents layers m.size m.faults m.done true event result v w → IsDone holds m layers (Step event) (Stepped result) v w
  step_done event (Ok outcome) v w does = record {
    loud = λ l brought. does.loud ∙ l;
    seen = λ l brought. record { sees = does.legal l; reason = (does.cause, does.one); disk = tt };
    answered = step_returned holds m layers event (Ok outcome) v w does;
  }
  step_done event (Err early) v w does = record {
    loud = λ l brought. does.loud ∙ l;
    seen = λ l brought. record { sees = ap plain does.same; reason = tt; disk = tt };
    answered = step_returned holds m layers event (Err early) v w does;
  }

  pub tick_done : (seconds : ℕ) (v w : Volumed B) → DoesTick holds m layers seconds v w → IsDone holds m layers (Tick seconds) Ticked v w
  tick_done seconds v w does = record {
    loud = λ l brought. does.loud ∙ l;
    seen = λ l brought. record { sees = does.plain; reason = tt; disk = tt };
    answered = does.ticked;
  }

  pub tell_done : (dev : Dev) (depth : ℕ) (message : Message) (result : Result Answer Refusal) (v w : Volumed B) → DoesMessage holds m layers dev depth message result v w → IsDone holds m layers (Tell dev depth message) (Told result) v w
  tell_done dev depth message result v w does = record {
    loud = λ l brought. does.loud ∙ l;
    seen = λ l brought. record { sees = does.plain; reason = tt; disk = tt };
    answered = message_returned m layers dev depth message result v w does.ok does.err;
  }

  pub detach_done : (number : ℕ) (result : Result (StoreDev B) Refusal) (v w : Volumed B) → DoesDetach holds m.contents layers m.size number result v w → IfErr result (λ refusal. (detach_refusal number v ≡ Some refusal) × (w ≡ v))
      → IsDone holds m layers (Detach number) (Detached result) v w
  detach_done number (Ok store) v w does refused = record {
    loud = λ l brought. and_left (is_loud_in_all layers w) (is_loud (layers store.device)) (sym does.loud ∙ l);
    seen = λ l brought. record { sees = does.plain l; reason = tt; disk = tt };
    answered = (does.taken, refused);
  }
  detach_done number (Err refusal) v w does refused = record {
    loud = λ l brought. ap (is_loud_in_all layers) refused.1 ∙ l;
    seen = λ l brought. record { sees = ap plain refused.1; reason = tt; disk = tt };
    answered = (tt, refused);
  }

  pub begin_done : (number : ℕ) (result : Result (Unit {0}) Refusal) (v w : Volumed B) → DoesBeginMerge holds m.contents layers m.size number result v w → IfErr result (λ refusal. IsNotBegun number refusal v w)
      → IsDone holds m layers (BeginMerge number) (Begun result) v w
  begin_done number (Ok done) v w does refused = record {
    loud = λ l brought. does.loud ∙ l;
    seen = λ l brought. record { sees = does.legal l; reason = tt; disk = tt };
    answered = begin_returned holds m layers number (Ok done) v w does refused;
  }
  begin_done number (Err refusal) v w does refused = record {
    loud = λ l brought. does.loud ∙ l;
    seen = λ l brought. record { sees = unbegun_same m.contents layers number refusal v w refused; reason = tt; disk = tt };
    answered = begin_returned holds m layers number (Err refusal) v w does refused;
  }

  pub resume_done : (result : Result (Unit {0}) Refusal) (v w : Volumed B) → DoesResumeMerge m.contents layers result v w → IsDone holds m layers ResumeMerge (Resumed result) v w
  resume_done result v w does = record {
    loud = λ l brought. does.loud ∙ l;
    seen = λ l brought. record { sees = does.plain; reason = tt; disk = tt };
    answered = resume_returned m layers result v w does;
  }

  pub finish_done : (result : Result (StoreDev B) Refusal) (v w : Volumed B) → DoesFinishMerge holds m.contents layers m.size result v w → IfErr result (λ refusal. (finish_refusal v ≡ Some refusal) × (w ≡ v))
      → IsDone holds m layers FinishMerge (Finished result) v w
  finish_done (Ok store) v w does refused = record {
    loud = λ l brought. and_left (is_loud_in_all layers w) (is_loud (layers store.device)) (sym does.loud ∙ l);
    seen = λ l brought. record { sees = does.legal l; reason = tt; disk = sym (ap (λ (p : Plain). p.origin) (does.legal l).becomes ∙ does.disk l) };
    answered = (does.taken, refused);
  }
  finish_done (Err refusal) v w does refused = record {
    loud = λ l brought. ap (is_loud_in_all layers) refused.1 ∙ l;
    seen = λ l brought. record { sees = ap plain refused.1; reason = tt; disk = tt };
    answered = (tt, refused);
  }

  -- a snapshot is taken of a volume that is quiet and has no merge
  module _ (store : StoreDev B) (chunk : ℕ) (overflow : Bool) (v w : Volumed B) where
    quiet_taken : (number : ℕ) → attach_refusal store.stale chunk v ≡ None → IsGained m.contents layers m.size number overflow store v w → IsTaken (plain v) number (shown_array (m.contents v.origin) (m.contents store.device)) (overflow_of overflow) (plain w)
        → Sees m.contents (Attach store chunk overflow) (Attached (Ok number)) (plain v) (plain w)
    quiet_taken number admitted gained taken =
        let (quiet, few, alone) = taking_none store.stale (is_some v.merge) (is_quiet_of v) (length v.snaps) v.attached chunk admitted in
        let origin : m.contents v.origin ≡ (plain v).origin = sym (ap (shown_origin m.contents v.origin) (none_begun v.merge alone)) in (
          none_under m.contents (m.contents v.origin) number v.snaps gained.fresh,
          ap (map _) (quiet_flights v quiet),
          subst (λ o. IsTaken (plain v) number (shown_array o (m.contents store.device)) (overflow_of overflow) (plain w)) origin taken,
        )

    pub attach_done : (result : Result ℕ (Refusal × StoreDev B)) → DoesAttach holds m layers store chunk overflow result v w
        → IfErr result (λ e. IsNotTaken store.stale chunk (m.size v.origin) (m.size store.device) (m.contents store.device) v e.0)
        → IsDone holds m layers (Attach store chunk overflow) (Attached result) v w
    attach_done (Ok number) does why = record {
      loud = λ l brought. does.loud ∙ both (is_loud_in_all layers v) (is_loud (layers store.device)) l brought;
      seen = λ l brought. record { sees = quiet_taken number does.admitted does.gained (does.taken l brought); reason = tt; disk = tt };
      answered = (does, why);
    }
    attach_done (Err refused) does why = record {
      loud = λ l brought. does.same.loud ∙ l;
      seen = λ l brought. record { sees = does.same.shown; reason = tt; disk = tt };
      answered = (does, why);
    }

attached_keeps : (number : ℕ) (bytes : List ℕ) (overflow : Bool) (p q : Plain) (taken : List Taken) → saved_under number p.saved ≡ None → p.requests ≡ [] → IsTaken p number (shown_array p.origin bytes) (overflow_of overflow) q → AreKept p taken
    → AreKept q (if is_fresh bytes then record { number = number; array = p.origin } ∷ taken else taken)
attached_keeps number bytes overflow p q taken none quiet h all =
    let rest : AreKept q taken = taken_keeps number (shown_array p.origin bytes) (overflow_of overflow) p q taken none h all in
    elim (cases_Bool (is_fresh bytes)) [
      | inr written ↦ rw written rest
      | inl fresh ↦ rw fresh (
        taken_kept number p.origin (overflow_of overflow) p q none quiet (subst (λ a. IsTaken p number a (overflow_of overflow) q) (fresh_shown p.origin bytes fresh) h),
        rest,
      )
    ]

-- what is remembered is kept by each deed
module _ {B : Type 0} (contents : B → List ℕ) where
  pub seen_keeps : (deed : Deed B) (done : Done B) (p q : Plain) (taken : List Taken) → Sees contents deed done p q → AreKept p taken → AreKept q (remembered contents deed done p taken)
  seen_keeps (Submit request) (Submitted (Ok number)) p q taken e all = submitted_keeps number e.0 request p q taken e.1 all
  seen_keeps (Submit request) (Submitted (Err refusal)) p q taken e all = refused_keeps request refusal p q taken e all
  seen_keeps (Step event) (Stepped (Ok outcome)) p q taken e all = stepped_keeps event outcome p q taken e all
  seen_keeps (Step event) (Stepped (Err early)) p q taken e all = same_all p q taken e all
  seen_keeps (Tick seconds) Ticked p q taken e all = same_all p q taken e all
  seen_keeps (Tell dev depth message) (Told result) p q taken e all = same_all p q taken e all
  seen_keeps (Attach store chunk overflow) (Attached (Ok number)) p q taken e all = attached_keeps number (contents store.device) overflow p q taken e.0 e.1 e.2 all
  seen_keeps (Attach store chunk overflow) (Attached (Err refused)) p q taken e all = same_all p q taken e all
  seen_keeps (Detach number) (Detached (Ok store)) p q taken e all = less_keeps number p q taken (ap (λ (x : Plain). x.saved) e.becomes) (ap (λ (x : Plain). x.requests) e.becomes) all
  seen_keeps (Detach number) (Detached (Err refusal)) p q taken e all = same_all p q taken e all
  seen_keeps (BeginMerge number) (Begun (Ok done)) p q taken e all = less_keeps number p q taken (ap (λ (x : Plain). x.saved) e.becomes) (ap (λ (x : Plain). x.requests) e.becomes) all
  seen_keeps (BeginMerge number) (Begun (Err refusal)) p q taken e all = same_all p q taken e all
  seen_keeps ResumeMerge (Resumed result) p q taken e all = same_all p q taken e all
  seen_keeps FinishMerge (Finished (Ok store)) p q taken e all = finished_keeps p q taken e all
  seen_keeps FinishMerge (Finished (Err refusal)) p q taken e all = same_all p q taken e all
  seen_keeps (Submit request) (Stepped result) p q taken e all = absurd e
  seen_keeps (Submit request) Ticked p q taken e all = absurd e
  seen_keeps (Submit request) (Told result) p q taken e all = absurd e
  seen_keeps (Submit request) (Attached result) p q taken e all = absurd e
  seen_keeps (Submit request) (Detached result) p q taken e all = absurd e
  seen_keeps (Submit request) (Begun result) p q taken e all = absurd e
  seen_keeps (Submit request) (Resumed result) p q taken e all = absurd e
  seen_keeps (Submit request) (Finished result) p q taken e all = absurd e
  seen_keeps (Step event) (Submitted result) p q taken e all = absurd e
  seen_keeps (Step event) Ticked p q taken e all = absurd e
  seen_keeps (Step event) (Told result) p q taken e all = absurd e
  seen_keeps (Step event) (Attached result) p q taken e all = absurd e
  seen_keeps (Step event) (Detached result) p q taken e all = absurd e
  seen_keeps (Step event) (Begun result) p q taken e all = absurd e
  seen_keeps (Step event) (Resumed result) p q taken e all = absurd e
  seen_keeps (Step event) (Finished result) p q taken e all = absurd e
  seen_keeps (Tick seconds) (Submitted result) p q taken e all = absurd e
  seen_keeps (Tick seconds) (Stepped result) p q taken e all = absurd e
  seen_keeps (Tick seconds) (Told result) p q taken e all = absurd e
  seen_keeps (Tick seconds) (Attached result) p q taken e all = absurd e
  seen_keeps (Tick seconds) (Detached result) p q taken e all = absurd e
  seen_keeps (Tick seconds) (Begun result) p q taken e all = absurd e
  seen_keeps (Tick seconds) (Resumed result) p q taken e all = absurd e
  seen_keeps (Tick seconds) (Finished result) p q taken e all = absurd e
  seen_keeps (Tell dev depth message) (Submitted result) p q taken e all = absurd e
  seen_keeps (Tell dev depth message) (Stepped result) p q taken e all = absurd e
  seen_keeps (Tell dev depth message) Ticked p q taken e all = absurd e
  seen_keeps (Tell dev depth message) (Attached result) p q taken e all = absurd e
  seen_keeps (Tell dev depth message) (Detached result) p q taken e all = absurd e
  seen_keeps (Tell dev depth message) (Begun result) p q taken e all = absurd e
  seen_keeps (Tell dev depth message) (Resumed result) p q taken e all = absurd e
  seen_keeps (Tell dev depth message) (Finished result) p q taken e all = absurd e
  seen_keeps (Attach store chunk overflow) (Submitted result) p q taken e all = absurd e
  seen_keeps (Attach store chunk overflow) (Stepped result) p q taken e all = absurd e
  seen_keeps (Attach store chunk overflow) Ticked p q taken e all = absurd e
  seen_keeps (Attach store chunk overflow) (Told result) p q taken e all = absurd e
  seen_keeps (Attach store chunk overflow) (Detached result) p q taken e all = absurd e
  seen_keeps (Attach store chunk overflow) (Begun result) p q taken e all = absurd e
  seen_keeps (Attach store chunk overflow) (Resumed result) p q taken e all = absurd e
  seen_keeps (Attach store chunk overflow) (Finished result) p q taken e all = absurd e
  seen_keeps (Detach number) (Submitted result) p q taken e all = absurd e
  seen_keeps (Detach number) (Stepped result) p q taken e all = absurd e
  seen_keeps (Detach number) Ticked p q taken e all = absurd e
  seen_keeps (Detach number) (Told result) p q taken e all = absurd e
  seen_keeps (Detach number) (Attached result) p q taken e all = absurd e
  seen_keeps (Detach number) (Begun result) p q taken e all = absurd e
  seen_keeps (Detach number) (Resumed result) p q taken e all = absurd e
  seen_keeps (Detach number) (Finished result) p q taken e all = absurd e
  seen_keeps (BeginMerge number) (Submitted result) p q taken e all = absurd e
  seen_keeps (BeginMerge number) (Stepped result) p q taken e all = absurd e
  seen_keeps (BeginMerge number) Ticked p q taken e all = absurd e
  seen_keeps (BeginMerge number) (Told result) p q taken e all = absurd e
  seen_keeps (BeginMerge number) (Attached result) p q taken e all = absurd e
  seen_keeps (BeginMerge number) (Detached result) p q taken e all = absurd e
  seen_keeps (BeginMerge number) (Resumed result) p q taken e all = absurd e
  seen_keeps (BeginMerge number) (Finished result) p q taken e all = absurd e
  seen_keeps ResumeMerge (Submitted result) p q taken e all = absurd e
  seen_keeps ResumeMerge (Stepped result) p q taken e all = absurd e
  seen_keeps ResumeMerge Ticked p q taken e all = absurd e
  seen_keeps ResumeMerge (Told result) p q taken e all = absurd e
  seen_keeps ResumeMerge (Attached result) p q taken e all = absurd e
  seen_keeps ResumeMerge (Detached result) p q taken e all = absurd e
  seen_keeps ResumeMerge (Begun result) p q taken e all = absurd e
  seen_keeps ResumeMerge (Finished result) p q taken e all = absurd e
  seen_keeps FinishMerge (Submitted result) p q taken e all = absurd e
  seen_keeps FinishMerge (Stepped result) p q taken e all = absurd e
  seen_keeps FinishMerge Ticked p q taken e all = absurd e
  seen_keeps FinishMerge (Told result) p q taken e all = absurd e
  seen_keeps FinishMerge (Attached result) p q taken e all = absurd e
  seen_keeps FinishMerge (Detached result) p q taken e all = absurd e
  seen_keeps FinishMerge (Begun result) p q taken e all = absurd e
  seen_keeps FinishMerge (Resumed result) p q taken e all = absurd e

-- and given back where its merge begins
module _ {B : Type 0} (m : Measures B) (layers : B → List Layer) where
  seen_undoes : (deed : Deed B) (done : Done B) (v w : Volumed B) (taken : List Taken) → Sees m.contents deed done (plain_of m.contents layers v) (plain_of m.contents layers w) → AreKept (plain_of m.contents layers v) taken → Undoes m layers taken deed done w
  seen_undoes (Submit request) (Submitted (Ok number)) v w taken e all = tt
  seen_undoes (Submit request) (Submitted (Err refusal)) v w taken e all = tt
  seen_undoes (Step event) (Stepped (Ok outcome)) v w taken e all = tt
  seen_undoes (Step event) (Stepped (Err early)) v w taken e all = tt
  seen_undoes (Tick seconds) Ticked v w taken e all = tt
  seen_undoes (Tell dev depth message) (Told result) v w taken e all = tt
  seen_undoes (Attach store chunk overflow) (Attached (Ok number)) v w taken e all = tt
  seen_undoes (Attach store chunk overflow) (Attached (Err refused)) v w taken e all = tt
  seen_undoes (Detach number) (Detached (Ok store)) v w taken e all = tt
  seen_undoes (Detach number) (Detached (Err refusal)) v w taken e all = tt
  seen_undoes (BeginMerge number) (Begun (Ok done)) v w taken e all = begun_shows number (plain_of m.contents layers v) (plain_of m.contents layers w) taken e all
  seen_undoes (BeginMerge number) (Begun (Err refusal)) v w taken e all = tt
  seen_undoes ResumeMerge (Resumed result) v w taken e all = tt
  seen_undoes FinishMerge (Finished (Ok store)) v w taken e all = tt
  seen_undoes FinishMerge (Finished (Err refusal)) v w taken e all = tt
  seen_undoes (Submit request) (Stepped result) v w taken e all = absurd e
  seen_undoes (Submit request) Ticked v w taken e all = absurd e
  seen_undoes (Submit request) (Told result) v w taken e all = absurd e
  seen_undoes (Submit request) (Attached result) v w taken e all = absurd e
  seen_undoes (Submit request) (Detached result) v w taken e all = absurd e
  seen_undoes (Submit request) (Begun result) v w taken e all = absurd e
  seen_undoes (Submit request) (Resumed result) v w taken e all = absurd e
  seen_undoes (Submit request) (Finished result) v w taken e all = absurd e
  seen_undoes (Step event) (Submitted result) v w taken e all = absurd e
  seen_undoes (Step event) Ticked v w taken e all = absurd e
  seen_undoes (Step event) (Told result) v w taken e all = absurd e
  seen_undoes (Step event) (Attached result) v w taken e all = absurd e
  seen_undoes (Step event) (Detached result) v w taken e all = absurd e
  seen_undoes (Step event) (Begun result) v w taken e all = absurd e
  seen_undoes (Step event) (Resumed result) v w taken e all = absurd e
  seen_undoes (Step event) (Finished result) v w taken e all = absurd e
  seen_undoes (Tick seconds) (Submitted result) v w taken e all = absurd e
  seen_undoes (Tick seconds) (Stepped result) v w taken e all = absurd e
  seen_undoes (Tick seconds) (Told result) v w taken e all = absurd e
  seen_undoes (Tick seconds) (Attached result) v w taken e all = absurd e
  seen_undoes (Tick seconds) (Detached result) v w taken e all = absurd e
  seen_undoes (Tick seconds) (Begun result) v w taken e all = absurd e
  seen_undoes (Tick seconds) (Resumed result) v w taken e all = absurd e
  seen_undoes (Tick seconds) (Finished result) v w taken e all = absurd e
  seen_undoes (Tell dev depth message) (Submitted result) v w taken e all = absurd e
  seen_undoes (Tell dev depth message) (Stepped result) v w taken e all = absurd e
  seen_undoes (Tell dev depth message) Ticked v w taken e all = absurd e
  seen_undoes (Tell dev depth message) (Attached result) v w taken e all = absurd e
  seen_undoes (Tell dev depth message) (Detached result) v w taken e all = absurd e
  seen_undoes (Tell dev depth message) (Begun result) v w taken e all = absurd e
  seen_undoes (Tell dev depth message) (Resumed result) v w taken e all = absurd e
  seen_undoes (Tell dev depth message) (Finished result) v w taken e all = absurd e
  seen_undoes (Attach store chunk overflow) (Submitted result) v w taken e all = absurd e
  seen_undoes (Attach store chunk overflow) (Stepped result) v w taken e all = absurd e
  seen_undoes (Attach store chunk overflow) Ticked v w taken e all = absurd e
  seen_undoes (Attach store chunk overflow) (Told result) v w taken e all = absurd e
  seen_undoes (Attach store chunk overflow) (Detached result) v w taken e all = absurd e
  seen_undoes (Attach store chunk overflow) (Begun result) v w taken e all = absurd e
  seen_undoes (Attach store chunk overflow) (Resumed result) v w taken e all = absurd e
  seen_undoes (Attach store chunk overflow) (Finished result) v w taken e all = absurd e
  seen_undoes (Detach number) (Submitted result) v w taken e all = absurd e
  seen_undoes (Detach number) (Stepped result) v w taken e all = absurd e
  seen_undoes (Detach number) Ticked v w taken e all = absurd e
  seen_undoes (Detach number) (Told result) v w taken e all = absurd e
  seen_undoes (Detach number) (Attached result) v w taken e all = absurd e
  seen_undoes (Detach number) (Begun result) v w taken e all = absurd e
  seen_undoes (Detach number) (Resumed result) v w taken e all = absurd e
  seen_undoes (Detach number) (Finished result) v w taken e all = absurd e
  seen_undoes (BeginMerge number) (Submitted result) v w taken e all = absurd e
  seen_undoes (BeginMerge number) (Stepped result) v w taken e all = absurd e
  seen_undoes (BeginMerge number) Ticked v w taken e all = absurd e
  seen_undoes (BeginMerge number) (Told result) v w taken e all = absurd e
  seen_undoes (BeginMerge number) (Attached result) v w taken e all = absurd e
  seen_undoes (BeginMerge number) (Detached result) v w taken e all = absurd e
  seen_undoes (BeginMerge number) (Resumed result) v w taken e all = absurd e
  seen_undoes (BeginMerge number) (Finished result) v w taken e all = absurd e
  seen_undoes ResumeMerge (Submitted result) v w taken e all = absurd e
  seen_undoes ResumeMerge (Stepped result) v w taken e all = absurd e
  seen_undoes ResumeMerge Ticked v w taken e all = absurd e
  seen_undoes ResumeMerge (Told result) v w taken e all = absurd e
  seen_undoes ResumeMerge (Attached result) v w taken e all = absurd e
  seen_undoes ResumeMerge (Detached result) v w taken e all = absurd e
  seen_undoes ResumeMerge (Begun result) v w taken e all = absurd e
  seen_undoes ResumeMerge (Finished result) v w taken e all = absurd e
  seen_undoes FinishMerge (Submitted result) v w taken e all = absurd e
  seen_undoes FinishMerge (Stepped result) v w taken e all = absurd e
  seen_undoes FinishMerge Ticked v w taken e all = absurd e
  seen_undoes FinishMerge (Told result) v w taken e all = absurd e
  seen_undoes FinishMerge (Attached result) v w taken e all = absurd e
  seen_undoes FinishMerge (Detached result) v w taken e all = absurd e
  seen_undoes FinishMerge (Begun result) v w taken e all = absurd e
  seen_undoes FinishMerge (Resumed result) v w taken e all = absurd e

module _ {B : Type 0} (holds : B → ℕ → List ℕ → Type 0) (m : Measures B) (layers : B → List Layer) where
  lived_from : (ds : List (Deed B)) (answers : List (Done B)) (v w : Volumed B) (taken : List Taken) → is_loud_in_all layers v ≡ true → All (IsLoudDeed layers) ds → AreKept (plain_of m.contents layers v) taken → AreAnswered holds m layers ds answers v w → IsLived m layers taken ds answers v w
  lived_from [] [] v w taken loud brings kept e = e
  lived_from [] (a ∷ answers) v w taken loud brings kept e = absurd e
  lived_from (d ∷ ds) [] v w taken loud brings kept e = absurd e
  lived_from (d ∷ ds) (a ∷ answers) v w taken loud brings kept (mid, one, rest) =
      let brought = All-head (IsLoudDeed layers) d ds brings in
      let seen : IsSeen m layers d a v mid = one.seen loud brought in (
        mid,
        seen,
        seen_undoes m layers d a v mid taken seen.sees kept,
        lived_from ds answers mid w (remembered m.contents d a (plain_of m.contents layers v) taken) (one.loud loud brought) (All-tail (IsLoudDeed layers) d ds brings) (seen_keeps m.contents d a (plain_of m.contents layers v) (plain_of m.contents layers mid) taken seen.sees kept) rest,
      )

  -- what callers see of deeds that are answered
  pub all_lived : (ds : List (Deed B)) (answers : List (Done B)) (v w : Volumed B) → AreAnswered holds m layers ds answers v w → is_loud_in_all layers v ≡ true → All (IsLoudDeed layers) ds → IsLived m layers [] ds answers v w
  all_lived ds answers v w e loud brings = lived_from ds answers v w [] loud brings tt e
