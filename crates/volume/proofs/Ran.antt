-- Calls one after another: what callers see of them, and that no call changes which devices drop writes.
use Rattle.std.proofs.Common.{◌≡◌, ◌⊎◌, inl, inr, ℕ, true, List, [], ◌∷◌, ◌++◌, map, refl, sym, ◌∙◌, ap, subst}
use Rattle.std.proofs.lemmas.List.{map-id}
use Rattle.std.specs.Prelude.{None, Result, IfErr, IfOk, Ok, Err, MatchResult}
use Rattle.device.specs.Layers.{Layer}
use Rattle.layers.specs.declared.message.Answer.{Answer}
use Rattle.layers.specs.declared.message.Message.{Message}
use Rattle.plain_machine.specs.Plain.{Entry, Plain}
use Rattle.plain_machine.specs.Runs.{IsRun, MayStep, MaySubmit}
use Rattle.plain_machine.specs.declared.event.Event.{Event}
use Rattle.plain_machine.specs.declared.event.NotDue.{NotDue}
use Rattle.plain_machine.specs.declared.event.Outcome.{Outcome}
use Rattle.plain_machine.specs.declared.request.Dev.{Dev}
use Rattle.plain_machine.specs.declared.request.Request.{Request}
use Rattle.sector.specs.declared.refusal.Refusal.{Refusal}
use Rattle.sector.specs.declared.refusal.Refusal.TheVariants.{NotMerging}
use Rattle.volume.specs.Shown.{shown_entry}
use Rattle.snapshot.specs.Kept.{Kept}
use Rattle.snapshot_list.specs.Keeping.{unkept}
use Rattle.volume.specs.declared.calls.Call.{Call}
use Rattle.volume.specs.declared.calls.Call.TheVariants.{Submit, Step, Tick, Message as Tell, BeginMerge, ResumeMerge}
use Rattle.volume.specs.declared.calls.Returned.{Returned}
use Rattle.volume.specs.declared.calls.Returned.TheVariants.{Submitted, Stepped, Ticked, Told, Begun, Resumed}
use Rattle.volume.specs.Volumed.{Volumed, plain_of, is_loud_in_all}
use Rattle.volume.specs.Beginning.{IsNotBegun, SameButKept}
use Rattle.volume.specs.Layering.{Measures}
use Rattle.volume.specs.Running.{IsSubmitReturned, IsStepReturned, IsMessageReturned, IsBegunAs, IsBeginRefused, IsResumedAs, IsReturned, AreReturned, MayBegin, MayCall}
use Rattle.volume.specs.Telling.{IsNotTold, IsTold}
use Rattle.volume.proofs.Beginnings.{twice_unkept}
use Rattle.volume.proofs.Declines.{refused_declined, refused_loud}
use Rattle.volume.proofs.Relayered.{IsVolumeAlike, map_twice, ticked_alike}
use Rattle.volume.proofs.Told.{plain_alike, loud_alike, told_alike, untold_alike}

-- what is kept back aside, nothing changed
still_but_kept : {B : Type 0} (xs ys : List (Kept B)) → (ys ≡ xs) ⊎ (ys ≡ map unkept xs) → map unkept ys ≡ map unkept xs
still_but_kept xs ys (inl e) = ap (map unkept) e
still_but_kept xs ys (inr e) = ap (map unkept) e ∙ twice_unkept xs

-- a merge that did not begin changed nothing that is seen
module _ {B : Type 0} (contents : B → List ℕ) (layers : B → List Layer) where
  entries_kept : (origin : List ℕ) (xs ys : List (Kept B)) → map unkept ys ≡ map unkept xs → map (shown_entry contents origin) ys ≡ map (shown_entry contents origin) xs
  entries_kept origin xs ys same =
      sym (map_twice unkept (shown_entry contents origin) ys) ∙ ap (map (shown_entry contents origin)) same ∙ map_twice unkept (shown_entry contents origin) xs

  plain_kept : (v w : Volumed B) → SameButKept v w → plain_of contents layers w ≡ plain_of contents layers v
  plain_kept v w same =
      let mk : List Entry → Plain = λ es. record (plain_of contents layers v) { saved = es } in
      ap (plain_of contents layers) same.becomes ∙ ap mk (entries_kept (contents v.origin) v.snaps w.snaps (still_but_kept v.snaps w.snaps same.kept))

  pub unbegun_same : (number : ℕ) (refusal : Refusal) (v w : Volumed B) → IsNotBegun number refusal v w → plain_of contents layers w ≡ plain_of contents layers v
  unbegun_same number refusal v w (inl first) = ap (plain_of contents layers) first.1
  unbegun_same number refusal v w (inr lacks) = plain_kept v w lacks.2

module _ {B : Type 0} (m : Measures B) (layers : B → List Layer) where
  abbrev plain : Volumed B → Plain
  plain v = plain_of m.contents layers v

  -- one call
  submit_loud : (request : Request) (result : Result ℕ Refusal) (v w : Volumed B) → IsSubmitReturned m layers request result v w → is_loud_in_all layers w ≡ is_loud_in_all layers v
  submit_loud request (Ok number) v w e = e.0.loud
  submit_loud request (Err refusal) v w e = refused_loud m.contents layers m.size v w request refusal e

  submit_legal : (request : Request) (result : Result ℕ Refusal) (v w : Volumed B) → is_loud_in_all layers v ≡ true → IsSubmitReturned m layers request result v w → MaySubmit request (plain v) (plain w)
  submit_legal request (Ok number) v w loud e = inl (number, _, e.0.legal loud)
  submit_legal request (Err refusal) v w loud e = inr (refusal, refused_declined m.contents layers m.size v w request refusal e loud)

  step_loud : (event : Event) (result : Result Outcome NotDue) (v w : Volumed B) → IsStepReturned m layers event result v w → is_loud_in_all layers w ≡ is_loud_in_all layers v
  step_loud event (Ok outcome) v w e = e.0.0.loud
  step_loud event (Err early) v w e = ap (is_loud_in_all layers) e.0

  step_legal : (event : Event) (result : Result Outcome NotDue) (v w : Volumed B) → is_loud_in_all layers v ≡ true → IsStepReturned m layers event result v w → MayStep event (plain v) (plain w)
  step_legal event (Ok outcome) v w loud e = inl (outcome, e.0.0.legal loud)
  step_legal event (Err early) v w loud e = inr (ap plain e.0)

  pub message_returned : (dev : Dev) (depth : ℕ) (message : Message) (result : Result Answer Refusal) (v w : Volumed B) → IfOk result (λ answer. IsTold m layers dev depth message answer v w) → IfErr result (λ refusal. IsNotTold m layers dev depth message refusal v w) → IsMessageReturned m layers dev depth message result v w
  message_returned dev depth message (Ok answer) v w told untold = told
  message_returned dev depth message (Err refusal) v w told untold = untold

  message_alike : (dev : Dev) (depth : ℕ) (message : Message) (result : Result Answer Refusal) (v w : Volumed B) → IsMessageReturned m layers dev depth message result v w → IsVolumeAlike m.contents layers m.size v w
  message_alike dev depth message (Ok answer) v w e = told_alike m layers dev depth message v w answer e
  message_alike dev depth message (Err refusal) v w e = untold_alike m layers dev depth message v w refusal e

  begin_legal : {A : Type 0} (number : ℕ) (result : Result A Refusal) (v w : Volumed B) → is_loud_in_all layers v ≡ true
      → MatchResult result (λ done. IsBegunAs m layers number v w) (λ refusal. IsBeginRefused m layers number refusal v w) → MayBegin number (plain v) (plain w)
  begin_legal number (Ok done) v w loud e = inl (e.legal loud)
  begin_legal number (Err refusal) v w loud e = inr (unbegun_same m.contents layers number refusal v w e.why)

  resume_same : {A : Type 0} (result : Result A Refusal) (v w : Volumed B)
      → MatchResult result (λ done. IsResumedAs m layers v w) (λ refusal. (refusal ≡ NotMerging) × (v.merge ≡ None) × (w ≡ v)) → plain w ≡ plain v
  resume_same (Ok done) v w e = e.plain
  resume_same (Err refusal) v w e = ap plain e.2

  returned_loud : (call : Call) (returned : Returned) (v w : Volumed B) → IsReturned m layers call returned v w → is_loud_in_all layers w ≡ is_loud_in_all layers v
  returned_loud (Submit request) (Submitted result) v w e = submit_loud request result v w e
  returned_loud (Step event) (Stepped result) v w e = step_loud event result v w e
  returned_loud (Tick seconds) Ticked v w e = loud_alike m.contents layers m.size v w (ticked_alike m layers seconds v w e)
  returned_loud (Tell dev depth message) (Told result) v w e = loud_alike m.contents layers m.size v w (message_alike dev depth message result v w e)
  returned_loud (BeginMerge number) (Begun result) v w e = e.1
  returned_loud ResumeMerge (Resumed result) v w e = e.1
  returned_loud (Submit request) (Stepped result) v w e = absurd e
  returned_loud (Submit request) Ticked v w e = absurd e
  returned_loud (Submit request) (Told result) v w e = absurd e
  returned_loud (Submit request) (Begun result) v w e = absurd e
  returned_loud (Submit request) (Resumed result) v w e = absurd e
  returned_loud (Step event) (Submitted result) v w e = absurd e
  returned_loud (Step event) Ticked v w e = absurd e
  returned_loud (Step event) (Told result) v w e = absurd e
  returned_loud (Step event) (Begun result) v w e = absurd e
  returned_loud (Step event) (Resumed result) v w e = absurd e
  returned_loud (Tick seconds) (Submitted result) v w e = absurd e
  returned_loud (Tick seconds) (Stepped result) v w e = absurd e
  returned_loud (Tick seconds) (Told result) v w e = absurd e
  returned_loud (Tick seconds) (Begun result) v w e = absurd e
  returned_loud (Tick seconds) (Resumed result) v w e = absurd e
  returned_loud (Tell dev depth message) (Submitted result) v w e = absurd e
  returned_loud (Tell dev depth message) (Stepped result) v w e = absurd e
  returned_loud (Tell dev depth message) Ticked v w e = absurd e
  returned_loud (Tell dev depth message) (Begun result) v w e = absurd e
  returned_loud (Tell dev depth message) (Resumed result) v w e = absurd e
  returned_loud (BeginMerge number) (Submitted result) v w e = absurd e
  returned_loud (BeginMerge number) (Stepped result) v w e = absurd e
  returned_loud (BeginMerge number) Ticked v w e = absurd e
  returned_loud (BeginMerge number) (Told result) v w e = absurd e
  returned_loud (BeginMerge number) (Resumed result) v w e = absurd e
  returned_loud ResumeMerge (Submitted result) v w e = absurd e
  returned_loud ResumeMerge (Stepped result) v w e = absurd e
  returned_loud ResumeMerge Ticked v w e = absurd e
  returned_loud ResumeMerge (Told result) v w e = absurd e
  returned_loud ResumeMerge (Begun result) v w e = absurd e

  pub returned_legal : (call : Call) (returned : Returned) (v w : Volumed B) → is_loud_in_all layers v ≡ true → IsReturned m layers call returned v w → MayCall call (plain v) (plain w)
  returned_legal (Submit request) (Submitted result) v w loud e = submit_legal request result v w loud e
  returned_legal (Step event) (Stepped result) v w loud e = step_legal event result v w loud e
  returned_legal (Tick seconds) Ticked v w loud e = plain_alike m.contents layers m.size v w (ticked_alike m layers seconds v w e)
  returned_legal (Tell dev depth message) (Told result) v w loud e = plain_alike m.contents layers m.size v w (message_alike dev depth message result v w e)
  returned_legal (BeginMerge number) (Begun result) v w loud e = begin_legal number result v w loud e.0
  returned_legal ResumeMerge (Resumed result) v w loud e = resume_same result v w e.0
  returned_legal (Submit request) (Stepped result) v w loud e = absurd e
  returned_legal (Submit request) Ticked v w loud e = absurd e
  returned_legal (Submit request) (Told result) v w loud e = absurd e
  returned_legal (Submit request) (Begun result) v w loud e = absurd e
  returned_legal (Submit request) (Resumed result) v w loud e = absurd e
  returned_legal (Step event) (Submitted result) v w loud e = absurd e
  returned_legal (Step event) Ticked v w loud e = absurd e
  returned_legal (Step event) (Told result) v w loud e = absurd e
  returned_legal (Step event) (Begun result) v w loud e = absurd e
  returned_legal (Step event) (Resumed result) v w loud e = absurd e
  returned_legal (Tick seconds) (Submitted result) v w loud e = absurd e
  returned_legal (Tick seconds) (Stepped result) v w loud e = absurd e
  returned_legal (Tick seconds) (Told result) v w loud e = absurd e
  returned_legal (Tick seconds) (Begun result) v w loud e = absurd e
  returned_legal (Tick seconds) (Resumed result) v w loud e = absurd e
  returned_legal (Tell dev depth message) (Submitted result) v w loud e = absurd e
  returned_legal (Tell dev depth message) (Stepped result) v w loud e = absurd e
  returned_legal (Tell dev depth message) Ticked v w loud e = absurd e
  returned_legal (Tell dev depth message) (Begun result) v w loud e = absurd e
  returned_legal (Tell dev depth message) (Resumed result) v w loud e = absurd e
  returned_legal (BeginMerge number) (Submitted result) v w loud e = absurd e
  returned_legal (BeginMerge number) (Stepped result) v w loud e = absurd e
  returned_legal (BeginMerge number) Ticked v w loud e = absurd e
  returned_legal (BeginMerge number) (Told result) v w loud e = absurd e
  returned_legal (BeginMerge number) (Resumed result) v w loud e = absurd e
  returned_legal ResumeMerge (Submitted result) v w loud e = absurd e
  returned_legal ResumeMerge (Stepped result) v w loud e = absurd e
  returned_legal ResumeMerge Ticked v w loud e = absurd e
  returned_legal ResumeMerge (Told result) v w loud e = absurd e
  returned_legal ResumeMerge (Begun result) v w loud e = absurd e

  -- all of them
  pub are_loud : (calls : List Call) (returned : List Returned) (v w : Volumed B) → AreReturned m layers calls returned v w → is_loud_in_all layers w ≡ is_loud_in_all layers v
  are_loud [] [] v w e = ap (is_loud_in_all layers) e
  are_loud [] (r ∷ rs) v w e = absurd e
  are_loud (c ∷ cs) [] v w e = absurd e
  are_loud (c ∷ cs) (r ∷ rs) v w (mid, one, rest) = are_loud cs rs mid w rest ∙ returned_loud c r v mid one

  pub are_legal : (calls : List Call) (returned : List Returned) (v w : Volumed B) → is_loud_in_all layers v ≡ true → AreReturned m layers calls returned v w → IsRun MayCall calls (plain v) (plain w)
  are_legal [] [] v w loud e = ap plain e
  are_legal [] (r ∷ rs) v w loud e = absurd e
  are_legal (c ∷ cs) [] v w loud e = absurd e
  are_legal (c ∷ cs) (r ∷ rs) v w loud (mid, one, rest) =
      (plain mid, returned_legal c r v mid loud one, are_legal cs rs mid w (returned_loud c r v mid one ∙ loud) rest)

  -- one call more
  pub are_more : (calls : List Call) (returned : List Returned) (call : Call) (answer : Returned) (v w x : Volumed B) → AreReturned m layers calls returned v w → IsReturned m layers call answer w x
      → AreReturned m layers (calls ++ call ∷ []) (returned ++ answer ∷ []) v x
  are_more [] [] call answer v w x e one = (x, subst (λ (y : Volumed B). IsReturned m layers call answer y x) e one, refl)
  are_more [] (r ∷ rs) call answer v w x e one = absurd e
  are_more (c ∷ cs) [] call answer v w x e one = absurd e
  are_more (c ∷ cs) (r ∷ rs) call answer v w x (mid, first, rest) one = (mid, first, are_more cs rs call answer mid w x rest one)

  -- those that a loop went over are all of them
  pub all_returned : (seen calls : List Call) (returned : List Returned) (v w : Volumed B) → map (λ c. c) seen ≡ calls → AreReturned m layers seen returned v w → AreReturned m layers calls returned v w
  all_returned seen calls returned v w all e = subst (λ (cs : List Call). AreReturned m layers cs returned v w) (sym (map-id seen) ∙ all) e
