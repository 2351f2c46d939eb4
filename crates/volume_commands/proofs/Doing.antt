-- An event that was due first was done in the caller's own code.
use Rattle.std.proofs.Common.{◌≡◌, inr, ℕ, Bool, true, false, List, [], Option, Some, refl, sym, ◌∙◌, ap, subst}
use Rattle.std.proofs.lemmas.Bool.{true≢false}
use Rattle.device.specs.Layers.{Layer}
use Rattle.plain_machine.specs.declared.event.Event.{Event}
use Rattle.plain_machine.specs.declared.event.Event.TheVariants.{CopyRead}
use Rattle.plain_machine.specs.declared.event.Outcome.{Outcome}
use Rattle.plain_machine.specs.declared.event.Outcome.TheVariants.{Done, Fault, Reply as Answered}
use Rattle.plain_machine.specs.declared.request.Reply.{Reply}
use Rattle.volume_laws.specs.MergeDue.{has_group}
use Rattle.event_machine.specs.Held.{Moving}
use Rattle.event_machine.specs.MergeDue.{due_all}
use Rattle.event_machine.specs.Seen.{replied_by}
use Rattle.merge.specs.Due.{has_group_of}
use Rattle.merge.specs.Merging.{Merging, books_of as merging_books}
use Rattle.volume.specs.EventKinds.{is_of_merge}
use Rattle.volume.specs.Exact.{IsExact}
use Rattle.volume.specs.Leaving.{has_group_in, is_quiet_of}
use Rattle.volume.specs.Moved.{moving_of}
use Rattle.volume.specs.Stepping.{KeepsAll}
use Rattle.volume.specs.Volumed.{Volumed, is_loud_in_all}
use Rattle.counted_volume.specs.DoneDue.{AreDone, told_by}
use Rattle.counted_volume.specs.Following.{GoesOn, IsDoneHere, IsReadFirst, grouped, is_done}
use Rattle.counted_volume.specs.Places.{Counted}
use Rattle.counted_volume.specs.TakesPlaces.{TakesByRequests}
use Rattle.counted_volume.proofs.DoneDue.{done_none, done_one, done_then}
use Rattle.volume_commands.specs.AtRest.{IsLed}
use Rattle.volume_commands.proofs.AtRest.{led_then, still_never}
use Rattle.counted_volume.proofs.Freed.{beside_due, beside_steps}
use Rattle.counted_volume.proofs.Runs.{RunsBeside, beside_more}
use Rattle.counted_volume.proofs.Settled.{keeps_more}
use Rattle.counted_volume.proofs.Takings.{takes_then}

-- the last reply is told in two ways
told_replied : (outcome : Outcome) (before : Reply) → replied_by outcome (Some before) ≡ Some (told_by outcome before)
told_replied (Answered number reply) before = refl
told_replied Done before = refl
told_replied Fault before = refl

-- they go on where it was done
done_by : (outcome : Outcome) → is_done outcome ≡ true → outcome ≡ Done
done_by (Answered number reply) e = absurd (true≢false (sym e))
done_by Done e = refl
done_by Fault e = absurd (true≢false (sym e))

-- what is left of events so far, each done where it was due first
pub record IsSettling {B : Type 0} (holds : B → ℕ → List ℕ → Type 0) (contents : B → List ℕ) (layers : B → List Layer) (faults size : B → ℕ) (reply last : Reply) (start now : Counted B) : Type 0 where
  pub so : RunsBeside contents layers size (Some reply) (Some last) start.volume now.volume
  pub did : AreDone holds contents layers faults size reply last start.volume now.volume
  pub led : IsLed holds contents layers faults size reply last start.volume now.volume
  pub taken : TakesByRequests start now
  pub still : is_quiet_of start.volume ≡ true → now.volume ≡ start.volume

module _ {B : Type 0} (holds : B → ℕ → List ℕ → Type 0) (contents : B → List ℕ) (layers : B → List Layer) (faults size : B → ℕ) (before after : Reply) (w u : Counted B) (event : Event) (go : Bool) (d : IsDoneHere holds contents layers faults size event go before after w u) where
  pub here_done : AreDone holds contents layers faults size before after w.volume u.volume
  here_done = subst (λ (r : Reply). AreDone holds contents layers faults size before r w.volume u.volume) (sym d.told) (done_one holds contents layers faults size before event d.outcome w.volume u.volume d.done)

  -- with what was done so far, and what is done after it
  pub here_led : (reply again : Reply) (v x : Volumed B) → IsLed holds contents layers faults size reply before v w.volume → ((replied : Option Reply) → due_all (moving_of contents layers replied w.volume) ≡ Some event) → AreDone holds contents layers faults size after again u.volume x
      → IsLed holds contents layers faults size reply again v x
  here_led reply again v x led first more =
      led_then holds contents layers faults size reply before again v w.volume x led
      (inr (event, d.outcome, u.volume, first, d.done, subst (λ (r : Reply). AreDone holds contents layers faults size r again u.volume x) d.told more))
      (done_then holds contents layers faults size before after again w.volume u.volume x here_done more)

  module _ (reply : Reply) (v : Volumed B) (so : RunsBeside contents layers size (Some reply) (Some before) v w.volume) (busy : is_quiet_of w.volume ≡ false)
      (first : (replied : Option Reply) → due_all (moving_of contents layers replied w.volume) ≡ Some event)
      (calm : is_of_merge event ≡ true → has_group_in w.volume.merge ≡ false → is_quiet_of w.volume ≡ true)
      (seen : is_of_merge event ≡ true → (m : Merging B) → w.volume.merge ≡ Some m → has_group_of m.group ≡ has_group (merging_books contents true m)) where
    pub here_beside : RunsBeside contents layers size (Some reply) (Some after) v u.volume
    here_beside =
        subst (λ (r : Option Reply). RunsBeside contents layers size (Some reply) r v u.volume) (told_replied d.outcome before ∙ ap Some (sym d.told))
        (beside_more contents layers size (Some reply) (Some before) v w.volume u.volume event d.outcome so busy first calm seen d.done.exact d.loud d.kept d.done.requests)

    -- it was the read of a copy
    pub here_read : (n : ℕ) → event ≡ CopyRead n → go ≡ true → IsReadFirst contents layers n u.volume
    here_read n is on =
        let done : IsExact contents layers event Done w.volume u.volume = subst (λ (o : Outcome). IsExact contents layers event o w.volume u.volume) (done_by d.outcome (sym d.goes_on ∙ on)) d.done.exact in
        let exact : IsExact contents layers (CopyRead n) Done w.volume u.volume = subst (λ (e : Event). IsExact contents layers e Done w.volume u.volume) is done in
        record {
          first = λ all replied.
              let loud : is_loud_in_all layers w.volume ≡ true = sym d.loud ∙ all in
              let m : Moving = moving_of contents layers replied w.volume in
              (m, beside_due (CopyRead n) m (first replied ∙ ap Some is) refl, sym (beside_steps (CopyRead n) m (step_free loud replied) refl) ∙ exact.step loud replied);
          free = λ all. here_beside.free (sym so.run.loud ∙ sym d.loud ∙ all);
        }
      where
        step_free : is_loud_in_all layers w.volume ≡ true → (replied : Option Reply) → grouped (moving_of contents layers replied w.volume).merge ≡ []
        step_free loud replied = so.free (sym so.run.loud ∙ loud)

    -- and what was done after it goes on from there
    pub here_goes : (again : Reply) (x : Volumed B) → KeepsAll size u.volume x → x.requests ≡ u.volume.requests → GoesOn contents layers after again u.volume x → RunsBeside contents layers size (Some reply) (Some again) v x
    here_goes again x kept requests goes =
        let on = goes reply v (record { run = here_beside.run; free = here_beside.free }) in
        record { run = on.run; kept = keeps_more size v u.volume x here_beside.kept kept; requests = requests ∙ here_beside.requests; free = on.free }

  -- with this one
  pub here_settling : (reply : Reply) (start : Counted B) → IsSettling holds contents layers faults size reply before start w → is_quiet_of w.volume ≡ false → ((replied : Option Reply) → due_all (moving_of contents layers replied w.volume) ≡ Some event)
      → (is_of_merge event ≡ true → has_group_in w.volume.merge ≡ false → is_quiet_of w.volume ≡ true) → (is_of_merge event ≡ true → (m : Merging B) → w.volume.merge ≡ Some m → has_group_of m.group ≡ has_group (merging_books contents true m))
      → IsSettling holds contents layers faults size reply after start u
  here_settling reply start was busy first calm seen = record {
    so = here_beside reply start.volume was.so busy first calm seen;
    did = done_then holds contents layers faults size reply before after start.volume w.volume u.volume was.did here_done;
    led = here_led reply after start.volume u.volume was.led first (done_none holds contents layers faults size after u.volume);
    taken = takes_then start w u was.taken d.taken;
    still = still_never start.volume w.volume u.volume was.still busy;
  }
