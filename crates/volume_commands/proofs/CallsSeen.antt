-- What callers see of a call of a volume by commands, by what it does to the volume of events.
use Rattle.std.proofs.Common.{◌≡◌, ◌+◌, ◌≤◌, ◌⊎◌, inl, inr, ℕ, Bool, true, List, Some, None, sym, ◌∙◌, ap, arith}
use Rattle.std.specs.Prelude.{Err, IfErr, Ok, Result}
use Rattle.sector.specs.declared.refusal.Refusal.{Refusal}
use Rattle.sector.specs.declared.refusal.Refusal.TheVariants.{JournalFull}
use Rattle.device.specs.Layers.{Layer}
use Rattle.plain_machine.specs.declared.event.Event.{Event}
use Rattle.plain_machine.specs.declared.event.NotDue.{NotDue}
use Rattle.plain_machine.specs.declared.event.Outcome.{Outcome}
use Rattle.plain_machine.specs.declared.request.Request.{Request}
use Rattle.whole_commands.specs.Refusals.{IsStarved, is_starved}
use Rattle.whole_commands.proofs.Starved.{other_full}
use Rattle.event_machine.specs.MergeRest.{IsBetween}
use Rattle.snapshot.specs.declared.opening.StoreDev.{StoreDev}
use Rattle.volume.specs.Beginning.{IsNotBegun}
use Rattle.volume.specs.DoesAttach.{DoesAttach}
use Rattle.volume.specs.DoesBeginMerge.{DoesBeginMerge}
use Rattle.volume.specs.DoesDetach.{DoesDetach}
use Rattle.volume.specs.DoesFinishMerge.{DoesFinishMerge}
use Rattle.volume.specs.DoesResumeMerge.{DoesResumeMerge}
use Rattle.volume.specs.DoesStep.{DoesStep}
use Rattle.volume.specs.DoesSubmit.{DoesSubmit}
use Rattle.volume.specs.Finishing.{finish_refusal}
use Rattle.volume.specs.Layering.{Measures}
use Rattle.volume.specs.Leaving.{detach_refusal, is_quiet_of}
use Rattle.volume.specs.Moved.{moving_of}
use Rattle.volume.specs.Submitting.{IsRefusedAs}
use Rattle.volume.specs.Taking.{IsNotTaken}
use Rattle.volume.specs.Volumed.{Volumed, is_loud_in_all}
use Rattle.volume_commands.specs.Rested.{rested_of, IsSettled}
use Rattle.volume_commands.specs.SeesAttach.{SeesAttach}
use Rattle.volume_commands.specs.SeesBeginMerge.{SeesBeginMerge}
use Rattle.volume_commands.specs.SeesDetach.{SeesDetach}
use Rattle.volume_commands.specs.SeesFinishMerge.{SeesFinishMerge}
use Rattle.volume_commands.specs.SeesRequests.{SeesStart, SeesStep}
use Rattle.volume_commands.specs.SeesResumeMerge.{SeesResumeMerge}
use Rattle.volume_commands.proofs.Leaves.{left_as_detached, left_quiet, left_settles, not_left}
use Rattle.volume_commands.proofs.MergeArrays.{begun_shows, finished_shows, resumed_shows}
use Rattle.volume_commands.proofs.MergeBegun.{begun_as, begun_merged, begun_quiet, not_begun_as, not_begun_quiet}
use Rattle.volume_commands.proofs.MergeFinished.{taken_out_as, taken_out_disk, taken_out_merged, taken_out_quiet, taken_out_settles, unfinished_as}
use Rattle.volume_commands.proofs.MergeResumed.{resumed_flying, resumed_kept, resumed_merged, resumed_quiet, resumed_requests}
use Rattle.counted_volume.proofs.Refusing.{refused_quiet, refused_requests}
use Rattle.volume_commands.proofs.Seen.{devices_kept, devices_none, loud_same, merged_still}
use Rattle.volume_commands.proofs.Takes.{attached_seen, back_seen, refused_at, taken_alone, taken_as, taken_quiet, taken_settles, untaken}

-- a snapshot is taken, or its store is given back
pub attach_seen : {B : Type 0} (holds : B → ℕ → List ℕ → Type 0) (m : Measures B) (layers : B → List Layer) (store : StoreDev B) (chunk : ℕ) (overflow : Bool) (result : Result ℕ (Refusal × StoreDev B)) (old new : Volumed B)
    → DoesAttach holds m layers store chunk overflow result old new
    → IfErr result (λ e. ((is_starved e.0 ≡ true) × (e.1 ≡ store)) ⊎ IsNotTaken store.stale chunk (m.size old.origin) (m.size store.device) (m.contents store.device) old e.0)
    → SeesAttach m.contents layers m.size store chunk overflow result (rested_of old) (rested_of new)
attach_seen holds m layers store chunk overflow (Ok number) old new does refused = record {
  alone = taken_alone m.contents layers m.size number chunk overflow store old new does.gained does.admitted;
  quiet = taken_quiet m.contents layers m.size number chunk overflow store old new does.gained does.admitted;
  taken = taken_as m.contents layers m.size number chunk overflow store old new does.gained;
  settled = taken_settles m.contents layers m.size number chunk overflow store old new does.gained does.admitted does.loud;
  exact = λ settled given. attached_seen m.contents layers number chunk overflow store old new (does.exact (sym (loud_same m.contents layers old) ∙ settled.loud) given);
  back = tt;
  same = tt;
}
attach_seen holds m layers store chunk overflow (Err e) old new does refused = record {
  alone = tt;
  quiet = tt;
  taken = tt;
  settled = tt;
  exact = tt;
  back = λ fed other settled given.
      back_seen m.contents layers (old.attached + 1) chunk overflow store e.1 old new e.0 does.same.kept (m.size old.origin) (m.size store.device) (m.contents store.device) (untaken e.0 fed refused) does.unread
      (λ alone. does.back fed alone settled.quiet (sym (loud_same m.contents layers old) ∙ settled.loud) given) other;
  same = refused_at m.contents layers m.size e.0 old new does.same;
}

module _ {B : Type 0} (holds : B → ℕ → List ℕ → Type 0) (contents : B → List ℕ) (layers : B → List Layer) (size : B → ℕ) where
  -- a snapshot left, or nothing changed
  pub detach_seen : (number : ℕ) (result : Result (StoreDev B) Refusal) (old new : Volumed B) → DoesDetach holds contents layers size number result old new
      → IfErr result (λ refusal. ((detach_refusal number old ≡ Some refusal) ⊎ (refusal ≡ JournalFull)) × (new ≡ old)) → SeesDetach contents layers number result (rested_of old) (rested_of new)
  detach_seen number (Ok store) old new does err = record {
    quiet = left_quiet number old new store does.taken does.ok;
    settled = left_settles number old new store does.taken layers does.ok;
    left = left_as_detached contents layers number old new store does.taken;
    err = tt;
    there = tt;
  }
  detach_seen number (Err refusal) old new does err = record {
    quiet = tt;
    settled = λ settled. rw err.1 settled;
    left = tt;
    err = ((not_left number old refusal err.0).0, ap (λ (v : Volumed B). rested_of v) err.1);
    there = (not_left number old refusal err.0).1;
  }

  -- what a look at a quiet volume says of a settled one
  at_rest : (old : Volumed B) → (is_quiet_of old ≡ true → is_loud_in_all layers old ≡ true → IsBetween (size old.origin) (moving_of contents layers None old)) → IsSettled layers (rested_of old) → IsBetween (size old.origin) (moving_of contents layers None old)
  at_rest old between settled = between settled.quiet (sym (loud_same contents layers old) ∙ settled.loud)

  -- no device drops writes in the one where none does in the other
  as_loud : (old new : Volumed B) → is_loud_in_all layers new ≡ is_loud_in_all layers old → is_quiet_of new ≡ true → IsSettled layers (rested_of old) → IsSettled layers (rested_of new)
  as_loud old new loud quiet settled = record { loud = loud_same contents layers new ∙ loud ∙ sym (loud_same contents layers old) ∙ settled.loud; quiet = quiet }

  -- a merge is begun, or nothing that is seen changed
  pub begin_seen : {A : Type 0} (number : ℕ) (result : Result A Refusal) (old new : Volumed B) → (is_quiet_of old ≡ true → is_loud_in_all layers old ≡ true → IsBetween (size old.origin) (moving_of contents layers None old))
      → DoesBeginMerge holds contents layers size number result old new → IfErr result (λ refusal. ((refusal ≡ JournalFull) × (new ≡ old)) ⊎ IsNotBegun number refusal old new) → SeesBeginMerge contents layers number result (rested_of old) (rested_of new)
  begin_seen number (Ok done) old new between does refused =
      let is = begun_as number old new does.begun does.admitted in
      let quiet = begun_quiet number old new does.begun does.admitted in
      record {
        begun = is;
        shows = begun_shows contents layers number (rested_of old) (rested_of new) is;
        merged = λ settled. begun_merged contents layers number old new (size old.origin) (at_rest old between settled) (does.exact None);
        settled = as_loud old new does.loud quiet.1;
        quiet = quiet;
        refused = tt;
      }
  begin_seen number (Err refusal) old new between does refused = record {
    begun = tt;
    shows = tt;
    merged = tt;
    settled = λ settled. as_loud old new does.loud (not_begun_quiet contents layers number old new refusal refused ∙ settled.quiet) settled;
    quiet = tt;
    refused = not_begun_as contents layers number old new refusal refused (does.starved None);
  }

  -- a merge is taken out, or nothing changed
  pub finish_seen : (result : Result (StoreDev B) Refusal) (old new : Volumed B) → (is_quiet_of old ≡ true → is_loud_in_all layers old ≡ true → IsBetween (size old.origin) (moving_of contents layers None old))
      → DoesFinishMerge holds contents layers size result old new → IfErr result (λ refusal. ((finish_refusal old ≡ Some refusal) ⊎ (refusal ≡ JournalFull)) × (new ≡ old)) → SeesFinishMerge contents layers result (rested_of old) (rested_of new)
  finish_seen (Ok store) old new between does err =
      let is = taken_out_as old new store does.taken does.ok in
      let disk = λ (settled : IsSettled layers (rested_of old)). taken_out_disk old new store does.taken does.ok contents layers (size old.origin) (at_rest old between settled) in
      record {
        taken = is;
        merged = λ settled. taken_out_merged old new store does.taken does.ok contents layers (size old.origin) (at_rest old between settled);
        disk = disk;
        shows = λ settled. finished_shows contents layers store (rested_of old) (rested_of new) is (disk settled);
        settled = taken_out_settles old new store does.taken does.ok layers does.loud;
        quiet = taken_out_quiet old new store does.taken does.ok;
        unfinished = tt;
        same = tt;
      }
  finish_seen (Err refusal) old new between does err = record {
    taken = tt;
    merged = tt;
    disk = tt;
    shows = tt;
    settled = λ settled. rw err.1 settled;
    quiet = tt;
    unfinished = λ fed settled. elim err.0 [
      | inl why ↦ unfinished_as contents layers old (size old.origin) (at_rest old between settled) settled.quiet refusal why
      | inr full ↦ absurd (other_full refusal fed full)
    ];
    same = ap (λ (v : Volumed B). rested_of v) err.1;
  }

  -- an event was done, or nothing changed
  pub step_seen : (faults done : B → ℕ) (event : Event) (result : Result Outcome NotDue) (old new : Volumed B) → DoesStep holds contents layers size faults done true event result old new → SeesStep layers size result (rested_of old) (rested_of new)
  step_seen faults done event (Ok outcome) old new does = record {
    same = tt;
    kept = devices_kept size layers old new does.kept does.loud;
    requests = does.counts.0;
  }
  step_seen faults done event (Err early) old new does = record {
    same = ap (λ (v : Volumed B). rested_of v) does.same;
    kept = rw does.same (devices_none size layers (rested_of old));
    requests = ap (λ (v : Volumed B). v.requests) does.same;
  }

module _ {B : Type 0} (contents : B → List ℕ) (layers : B → List Layer) (size : B → ℕ) where
  -- a merge goes on, or none is begun
  pub resume_seen : {A : Type 0} (result : Result A Refusal) (old new : Volumed B) → DoesResumeMerge contents layers result old new → SeesResumeMerge contents layers size result (rested_of old) (rested_of new)
  resume_seen (Ok done) old new does =
      let merged = resumed_merged contents layers old new (does.exact None) in
      let quiet = resumed_quiet layers size old new does.resumed in
      record {
        merged = merged;
        shows = resumed_shows contents layers (rested_of old) (rested_of new) merged;
        flying = resumed_flying contents layers old new (does.exact None);
        begun = (does.resumed.merge, does.resumed.was);
        settled = λ settled. record { loud = loud_same contents layers new ∙ does.loud ∙ sym (loud_same contents layers old) ∙ settled.loud; quiet = quiet ∙ settled.quiet };
        quiet = quiet;
        kept = resumed_kept layers size old new does.resumed does.loud;
        requests = resumed_requests layers size old new does.resumed;
        same = tt;
      }
  resume_seen (Err refusal) old new does = record {
    merged = tt;
    shows = tt;
    flying = tt;
    begun = tt;
    settled = λ settled. rw does.err.2 settled;
    quiet = ap (λ (v : Volumed B). is_quiet_of v) does.err.2;
    kept = rw does.err.2 (devices_none size layers (rested_of old));
    requests = ap (λ (v : Volumed B). v.requests) does.err.2;
    same = ap (λ (v : Volumed B). rested_of v) does.err.2;
  }

  -- a request is started, or refused
  pub start_seen : (request : Request) (result : Result ℕ Refusal) (old new : Volumed B) → DoesSubmit contents layers size request result old new
      → IfErr result (λ refusal. IsStarved refusal old new ⊎ IsRefusedAs contents layers size request refusal old new) → SeesStart contents layers size result (rested_of old) (rested_of new)
  start_seen request (Ok number) old new does refused = record {
    same = tt;
    still = tt;
    kept = devices_kept size layers old new does.kept does.loud;
    requests = (let given = does.ok.given in let next = does.ok.next in let one : new.requests ≤ old.requests + 1 = omega (arith, given, next) in one);
  }
  start_seen request (Err refusal) old new does refused = record {
    same = λ alive free. merged_still contents layers old new (does.starved alive free None);
    still = λ alive. refused_quiet contents layers size request refusal old new refused alive;
    kept = devices_kept size layers old new does.kept does.loud;
    requests = refused_requests contents layers size request refusal old new refused;
  }
