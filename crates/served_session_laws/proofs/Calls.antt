-- What is known of arrays that were made last stays known through each call, and so a stop loses only what no flush acknowledged.
use Rattle.std.proofs.Common.{◌≡◌, ◌⊎◌, inl, inr, ℕ, ◌*◌, ◌<◌, Bool, true, List, [], ◌∷◌, length, map, Some, None, refl, sym, ◌∙◌, ap, subst}
use Rattle.std.specs.Prelude.{Err, IfErr, Ok, Result}
use Rattle.sector.specs.Bytes.{sector_at}
use Rattle.sector.specs.declared.refusal.Refusal.{Refusal}
use Rattle.device.specs.Layers.{Layer}
use Rattle.crash_laws.specs.Stop.{MayLeave, Within}
use Rattle.plain_machine.specs.declared.event.Event.{Event}
use Rattle.plain_machine.specs.declared.event.Outcome.{Outcome}
use Rattle.plain_machine.specs.declared.request.Request.{Request}
use Rattle.in_flight.specs.Kinds.{in_flight}
use Rattle.merge.specs.Merging.{Merging}
use Rattle.volume.specs.DoesSubmit.{DoesSubmit}
use Rattle.volume.specs.Layering.{Measures}
use Rattle.volume.specs.Stopping.{given_by}
use Rattle.volume.specs.Submitting.{IsRefusedAs}
use Rattle.volume.specs.Volumed.{Volumed, is_loud_in_all, plain_of}
use Rattle.volume.proofs.MergeLasts.{kept_merge}
use Rattle.volume_lifetime.specs.declared.deed.Deed.TheVariants.{Submit as Submits, Step as Steps}
use Rattle.volume_lifetime.specs.declared.deed.Done.TheVariants.{Submitted, Stepped}
use Rattle.volume_lifetime.specs.Flushed.{History, LosesNothing, noted}
use Rattle.volume_lifetime.proofs.Histories.{Known, given_some}
use Rattle.volume_lifetime.proofs.Loses.{loses, now_loses}
use Rattle.volume_lifetime.proofs.Noted.{accepted_known, declined_known}
use Rattle.volume_lifetime.proofs.Stepped.{step_known}
use Rattle.nbd_backend.specs.Calls.{Call, Called, Choose, Submit, Step}
use Rattle.nbd_backend.specs.declared.array.Refused.{Refused}
use Rattle.nbd_backend.specs.declared.array.Stepped.{Stepped as Told}
use Rattle.nbd_jobs.specs.declared.work.Work.{Work}
use Rattle.volume_nbd.specs.Calls.{does_by}
use Rattle.volume_nbd.specs.Looked.{IsLookedAt}
use Rattle.volume_nbd.specs.Served.{Served}
use Rattle.volume_nbd.specs.Steps.{DoesEvent}
use Rattle.volume_nbd.specs.Submits.{IsHandedOn}
use Rattle.served_session_laws.specs.Sessions.{LosesNow, LosesThrough, Notes, RefusesLost}
use Rattle.served_session_laws.proofs.Ahead.{ahead_known}
use Rattle.served_session_laws.proofs.Carrying.{carries, carries_now}
use Rattle.served_session_laws.proofs.Keeping.{IsKeptBy, either, keeps_now, kept_call}

module _ {B : Type 0} (holds : B → ℕ → List ℕ → Type 0) (m : Measures B) (layers : B → List Layer) (failed : B → Bool) (whole : (d : B) → length (m.contents d) ≡ 512 * m.size d) (here : (d : B) (s : ℕ) → s < m.size d → holds d s (sector_at (m.contents d) s)) where
  -- what is known of a volume while all its files kept what they answered
  pub record IsKnown (v : Volumed B) (h : History) : Type 0 where
    pub looked : IsLookedAt holds m.contents layers m.size v
    pub known : is_loud_in_all layers v ≡ true → Known holds m layers v h

  pub loses_now : (v : Served B) (h : History) → IsKnown v.volume h → LosesNow holds m layers h v
  loses_now v h is loud = now_loses holds m layers whole here v.volume (is.looked.stops loud) h.made (is.known loud).made

  refuses : (v : Served B) (h : History) → IsKnown v.volume h → RefusesLost holds m layers v
  refuses v h is loud place s at lost tried fresh c left =
      let stops = (is.looked.stops loud).snaps place s s at.within at.is at.is in
      let o : List ℕ = m.contents v.volume.origin in
      let there : MayLeave (Within (holds v.volume.origin) (holds v.volume.origin)) (m.size v.volume.origin) o = record { whole = whole v.volume.origin; each = λ n lt. inl (here v.volume.origin n lt) } in
      (stops o c there (either holds m layers s.device c left)).2 lost tried fresh

  -- a chunk of the merging store has a sector at least
  some_chunk : (v : Volumed B) → IsLookedAt holds m.contents layers m.size v → (g : Merging B) → v.merge ≡ Some g → 0 < g.state.chunk
  some_chunk v looked g is = (kept_merge m.contents layers m.size v g looked.kept.whole is).holds.text.some

  -- One call.
  pub record Passes (unanswered : B → Bool) (call : Call) (old new : Served B) (before : History) : Type 0 where
    pub after : History
    pub notes : Notes holds m layers failed unanswered call before old new after
    pub is : IsKnown new.volume after

  same_known : (v w : Volumed B) (h : History) → w ≡ v → IsKnown v h → IsKnown w h
  same_known v w h same is = subst (λ (x : Volumed B). IsKnown x h) (sym same) is

  module _ (unanswered : B → Bool) (work : Work) (part : List ℕ) (told : Result ℕ Refused) (old new : Served B) (before : History) (is : IsKnown old.volume before) where
    submit_known : (request : Request) (answer : Result ℕ Refusal) → DoesSubmit m.contents layers m.size request answer old.volume new.volume → IfErr answer (λ refusal. IsRefusedAs m.contents layers m.size request refusal old.volume new.volume)
        → Known holds m layers old.volume before → Known holds m layers new.volume (noted {B = B} (Submits request) (Submitted answer) (plain_of m.contents layers new.volume) before)
    submit_known request (Ok number) does why known = accepted_known holds m layers request number old.volume new.volume does why before known
    submit_known request (Err refusal) does why known = declined_known holds m layers request refusal old.volume new.volume does why before known

    handed_on : IsHandedOn holds m.contents layers m.size old.chosen work part told old.volume new.volume → Passes unanswered (Submit work part told) old new before
    handed_on h = record {
      after = noted {B = B} (Submits h.request) (Submitted h.answer) (plain_of m.contents layers new.volume) before;
      notes = inl (h, refl);
      is = record { looked = h.looked; known = λ loud. submit_known h.request h.answer h.does h.reasons (is.known (sym h.does.loud ∙ loud)) };
    }

  module _ (told : Told) (old new : Served B) (before : History) (is : IsKnown old.volume before) where
    event_done : (unanswered : B → Bool) → DoesEvent holds m.contents layers m.size m.faults m.done failed unanswered old.chosen told old.volume new.volume → Passes unanswered (Step told) old new before
    event_done unanswered e = record {
      after = noted {B = B} (Steps e.event) (Stepped (Ok e.outcome)) (plain_of m.contents layers new.volume) before;
      notes = inl (record { does = e; loses = lost_within; carries = λ loud. carries holds m.size holds m layers failed e.between new.volume before.made (lost_within loud); noted_as = refl });
      is = record {
        looked = e.looked;
        known = λ loud. (let was = sym e.step.loud ∙ loud in step_known holds m layers whole here e.event e.outcome e.between new.volume was e.step e.looked.kept.whole.numbers.ascending (some_chunk new.volume e.looked) before (known_between was));
      };
    }
      where
        known_between : is_loud_in_all layers e.between ≡ true → Known holds m layers e.between before
        known_between loud = ahead_known holds m layers old.volume e.between e.ahead loud before (is.known (e.ahead.loud loud))

        lost_within : is_loud_in_all layers new.volume ≡ true → LosesNothing holds m.size before.made e.between new.volume
        lost_within loud = let was = sym e.step.loud ∙ loud in loses holds m layers whole here (given_by e.event (map in_flight e.between.flights)) e.between new.volume (e.step.stops was) (given_some e.event (map in_flight e.between.flights)) before.made (known_between was).made

  pub passes : (unanswered : B → Bool) (call : Call) (old new : Served B) (before : History) → does_by holds m.contents layers m.size m.faults m.done failed unanswered call old new → IsKnown old.volume before → Passes unanswered call old new before
  passes unanswered (Choose place told) old new before does is = record { after = before; notes = refl; is = same_known old.volume new.volume before (ap (λ (x : Served B). x.volume) does.3) is }
  passes unanswered (Submit work part told) old new before (inl handed, rest) is = handed_on unanswered work part told old new before is handed
  passes unanswered (Submit work part told) old new before (inr away, rest) is = record { after = before; notes = inr (away.0, refl); is = same_known old.volume new.volume before away.0 is }
  passes unanswered (Step told) old new before (inl event, still, ended, stopped, kept) is = event_done told old new before is unanswered event
  passes unanswered (Step told) old new before (inr none, still, ended, stopped, kept) is = record { after = before; notes = inr (none.0, none.1, refl); is = same_known old.volume new.volume before none.0 is }

  -- Calls one after another.
  pub record Through (unanswered : B → Bool) (first : History) (start : Served B) (calls : List Call) (new : Served B) : Type 0 where
    pub after : History
    pub loses : LosesThrough holds m layers failed unanswered first start calls new after
    pub is : IsKnown new.volume after
    pub kept : IsKeptBy holds m layers failed start calls new after

  pub through : (unanswered : B → Bool) (first : History) (start : Served B) (calls : List Call) (new : Served B) → IsKnown start.volume first → IsKeptBy holds m layers failed start [] start first → Called (does_by holds m.contents layers m.size m.faults m.done failed unanswered) start calls new → Through unanswered first start calls new
  through unanswered first start [] new is kept same =
      let now : IsKnown new.volume first = same_known start.volume new.volume first (ap (λ (x : Served B). x.volume) same) is in
      let still : IsKeptBy holds m layers failed start [] new first = subst (λ (x : Served B). IsKeptBy holds m layers failed start [] x first) (sym same) kept in
      let loses = loses_now new first now in
      record { after = first; loses = (same, refl, loses, carries_now holds m layers failed first new loses, keeps_now holds m layers failed start [] new first still loses, refuses new first now); is = now; kept = still }
  through unanswered first start (call ∷ calls) new is kept (old, so_far, does) =
      let t = through unanswered first start calls old is kept so_far in
      let p = passes unanswered call old new t.after does t.is in
      let still = kept_call holds m layers failed start unanswered call calls old new t.after p.after does p.notes t.kept in
      let loses = loses_now new p.after p.is in
      record { after = p.after; loses = (old, t.after, t.loses, does, p.notes, loses, carries_now holds m layers failed p.after new loses, keeps_now holds m layers failed start (call ∷ calls) new p.after still loses, refuses new p.after p.is); is = p.is; kept = still }
