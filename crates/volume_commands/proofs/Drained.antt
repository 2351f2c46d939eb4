-- A volume that was quiet, all of whose events are done.
use Rattle.std.proofs.Common.{◌≡◌, ℕ, ◌++◌, Bool, true, false, List, [], ◌∷◌, length, Option, Some, None, refl, sym, ◌∙◌, ap, subst, arith}
use Rattle.std.specs.Prelude.{◌==◌, ◌&&◌, not}
use Rattle.std.specs.List.{list_all}
use Rattle.std.proofs.lemmas.Bool.{ne_eqb}
use Rattle.std.proofs.lemmas.List.{append-nil}
use Rattle.device.specs.Layers.{Layer}
use Rattle.plain_machine.specs.Replies.{reply_in}
use Rattle.plain_machine.specs.declared.event.Event.{Event}
use Rattle.plain_machine.specs.declared.event.Outcome.{Outcome}
use Rattle.plain_machine.specs.declared.request.Replied.{Replied}
use Rattle.plain_machine.specs.declared.request.Reply.{Reply}
use Rattle.in_flight.specs.declared.flights.Flight.{Flight}
use Rattle.whole_commands.specs.Merges.{Merged, merged}
use Rattle.whole_commands.specs.MergeShown.{IsMerging}
use Rattle.event_machine.specs.Due.{due}
use Rattle.event_machine.specs.Held.{MergeHeld}
use Rattle.event_machine.specs.MergeDue.{due_all}
use Rattle.event_machine.specs.MergeRest.{merged_of as merged_in_events, in_big_steps, IsBetween}
use Rattle.event_machine.specs.MergeSeen.{held_in}
use Rattle.event_machine.specs.Seen.{replied_by}
use Rattle.merge.specs.Merging.{Merging}
use Rattle.event_machine.proofs.Alone.{due_alone}
use Rattle.whole_command_laws.proofs.MergesSettle.{merge_settles}
use Rattle.volume.specs.Leaving.{has_group_in, is_done_of, is_quiet_of}
use Rattle.volume.specs.Moved.{merge_seen, moving_of}
use Rattle.volume.specs.Reaching.{IsRunAll}
use Rattle.volume.specs.Volumed.{Volumed, is_loud_in_all}
use Rattle.volume.proofs.Reaches.{run_none_all, run_more_all, run_merges}
use Rattle.counted_volume.specs.Following.{IsStep}
use Rattle.volume_commands.specs.Rested.{rested_of, merged_of, IsSettled}
use Rattle.volume_commands.proofs.Rooms.{none_fly, none_told}
use Rattle.volume_commands.proofs.Seen.{loud_same, merged_same}

no_flights : (flights : List Flight) (others : Bool) → (length flights == 0) && others ≡ true → flights ≡ []
no_flights [] others e = refl
no_flights (f ∷ flights) others e =
    let some : (length (f ∷ flights) == 0) ≡ false = ne_eqb _ _ (λ same. absurd (omega (arith, same))) in
    absurd (let two : false ≡ true = sym (ap (λ b. b && others) some) ∙ e in cc)

module _ {B : Type 0} (contents : B → List ℕ) (layers : B → List Layer) (size : B → ℕ) where
  -- What a look at the volume told before the first event.
  pub record IsLookedAt (v : Volumed B) : Type 0 where
    pub between : is_quiet_of v ≡ true → is_loud_in_all layers v ≡ true → (replied : Option Reply) → IsBetween (size v.origin) (moving_of contents layers replied v)
    pub calm : is_quiet_of v ≡ true → (replied : Option Reply) → due (moving_of contents layers replied v) ≡ None
    pub under : is_quiet_of v ≡ true → is_loud_in_all layers v ≡ true → (replied : Option Reply) → (h : MergeHeld) → (moving_of contents layers replied v).merge ≡ Some h → IsMerging (size v.origin) (in_big_steps h (moving_of contents layers replied v))

  -- Between two events: how far it got, and what did not change where it was quiet.
  pub record RunsQuiet (old v : Volumed B) (before now : List Replied) : Type 0 where
    pub looked : IsLookedAt old
    pub replied : Option Reply
    pub run : IsRunAll contents layers None replied old v
    pub silent : is_quiet_of old ≡ true → (v.flights ≡ []) × (now ≡ before)
    pub same : is_quiet_of old ≡ true → old.merge ≡ None → v ≡ old

  pub quiet_start : (v : Volumed B) (before now : List Replied) → IsLookedAt v → now ≡ before → RunsQuiet v v before now
  quiet_start v before now looked same = record {
    looked = looked;
    replied = None;
    run = run_none_all contents layers None v;
    silent = λ quiet. (no_flights v.flights (not (has_group_in v.merge) && list_all is_done_of v.snaps) quiet, same);
    same = λ quiet alone. refl;
  }

  -- without a merge nothing is due
  none_due : (v : Volumed B) → IsLookedAt v → is_quiet_of v ≡ true → v.merge ≡ None → due_all (moving_of contents layers None v) ≡ None
  none_due v looked quiet alone = due_alone (moving_of contents layers None v) (ap (λ (m : Option (Merging B)). held_in (merge_seen contents layers m)) alone) ∙ looked.calm quiet None

  pub quiet_more : (holds : B → ℕ → List ℕ → Type 0) (faults : B → ℕ) (u v w : Volumed B) (event : Event) (outcome : Outcome) (before now after : List Replied) → RunsQuiet u v before now → IsStep holds contents layers faults size event outcome v w → after ≡ now ++ reply_in outcome → RunsQuiet u w before after
  quiet_more holds faults u v w event outcome before now after so step more = record {
    looked = so.looked;
    replied = replied_by outcome so.replied;
    run = run_more_all contents layers None so.replied u v w event outcome so.run (step.due so.replied) step.done.exact step.loud;
    silent = λ quiet. (let was = so.silent quiet in (
      none_fly event outcome v.flights w.flights step.flown was.0,
      more ∙ ap (λ (rs : List Replied). now ++ rs) (none_told event outcome v.flights w.flights step.flown was.0) ∙ append-nil now ∙ was.1,
    ));
    same = λ quiet alone. absurd (
        let here : due_all (moving_of contents layers None u) ≡ Some event = subst (λ (x : Volumed B). due_all (moving_of contents layers None x) ≡ Some event) (so.same quiet alone) (step.due None) in
        let two : None ≡ Some event = sym (none_due u so.looked quiet alone) ∙ here in cc);
  }

  -- the whole merge
  pub drained_merged : (old new : Volumed B) (before now : List Replied) → RunsQuiet old new before now → ((replied : Option Reply) → due_all (moving_of contents layers replied new) ≡ None) → IsSettled layers (rested_of old)
      → merged (merged_of contents layers (rested_of old)) ≡ merged_of contents layers (rested_of new)
  drained_merged old new before now so none settled =
      let loud : is_loud_in_all layers old ≡ true = sym (loud_same contents layers old) ∙ settled.loud in
      let t = merge_settles (size old.origin) (moving_of contents layers None old) (so.looked.between settled.quiet loud None) (so.looked.under settled.quiet loud None) in
      let to = run_merges contents layers (size old.origin) (merged (merged_in_events (moving_of contents layers None old))) None so.replied old new loud t so.run (none so.replied) in
      ap (λ (m : Merged). merged m) (merged_same contents layers None old) ∙ sym to.is ∙ sym (merged_same contents layers None new)
