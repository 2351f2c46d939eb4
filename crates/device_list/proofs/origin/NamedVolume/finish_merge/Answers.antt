use Rattle.std.proofs.Common.{◌≡◌, Some, refl, sym, ap, ◌∙◌, arith, inl, inr}
use Rattle.std.specs.Prelude.{Option}
use Rattle.volume.specs.Leaving.{is_quiet_of}
use Rattle.command_semantics.specs.State.{Names, Stacked, names_in}
use Rattle.device_list.specs.Held.{merging_with}
use Rattle.device_list.proofs.Events.{behind}
use Rattle.device_list.proofs.Finishes.{finished_is, same_state, unfinished_is, unfinished_served}
use Rattle.device_list.proofs.Merges.{merge_is, names_are}
use Rattle.layers.specs.declared.stack.Stack.{Stack}
use Rattle.volume_commands.specs.Rested.{Rested}
use Rattle.device_list.proofs.Filled.{asked_err}
use Rattle.device_list.proofs.origin.NamedVolume.finish_merge.Goals as goal

pub returns-in-Err-clause-refused : goal.returns-in-Err-clause-refused
returns-in-Err-clause-refused c =
    rw (← c.self.view_is) (λ sound quiet other.
    elim c.in-Err.ensures.refused [
      | inl first ↦ unfinished_is _ c.self.inside.volume.rested c.self.inside.merging c.in-Err.refusal refl
          (c.in-Err.ensures.seen.unfinished (unfinished_served c.self.inside.volume.rested.events.merge (is_quiet_of c.self.inside.volume.rested.events) c.in-Err.refusal first) (c.look.ensures quiet (c.self.invariant.loud sound)))
      | inr full ↦ absurd (other full)
    ])

pub returns-in-Err-clause-unfinished : goal.returns-in-Err-clause-unfinished
returns-in-Err-clause-unfinished c =
    rw (← c.self.view_is) (λ other.
    elim c.in-Err.ensures.refused [
      | inl first ↦ (c.self.inside.volume.rested.events, behind c.self.inside.volume.rested _ c.finish_merge.ensures.whole.0 refl (merge_is _ c.self.inside.volume.rested c.self.invariant.begun) refl refl c.self.invariant.requests, first)
      | inr full ↦ absurd (other full)
    ])

pub returns-clause-parted : goal.returns-clause-parted
returns-clause-parted c =
    let out = c.in-Ok.ensures.seen.taken in
    let quiet = c.in-Ok.ensures.seen.quiet in
    let names : Names = record { snapshot = c.in-Some.field-0.snapshot; store = c.in-Some.field-0.store.items; overflow = c.in-Some.field-0.overflow } in
    let was : c.self.inside.merging ≡ Some names = sym c.take.ensures.value ∙ (rw (← c.take-2.view_is) (rw c.in-Some.is refl)) in
    let merging = ap (λ (o : Option Names). merging_with o c.self.inside.volume.rested) was in
    rw (← c.self.view_is) (λ sound.
    finished_is _ c.self.inside.volume.rested c.finish_merge.new.self.rested names c.in-Ok.given refl merging out quiet.0 (c.in-Ok.ensures.seen.merged (c.look.ensures quiet.0 (c.self.invariant.loud sound)))
    c.of_parts.result _ c.of_parts.ensures
    (rw c.take.ensures.after (rw (same_state c.in-Ok.given c.self.inside.volume.rested c.finish_merge.new.self.rested out) (rw out.attached (rw quiet.1 (rw quiet.0 refl))))))

pub returns-clause-named : goal.returns-clause-named
returns-clause-named c =
    let out = c.in-Ok.ensures.seen.taken in
    let names : Names = record { snapshot = c.in-Some.field-0.snapshot; store = c.in-Some.field-0.store.items; overflow = c.in-Some.field-0.overflow } in
    let was : c.self.inside.merging ≡ Some names = sym c.take.ensures.value ∙ (rw (← c.take-2.view_is) (rw c.in-Some.is refl)) in
    rw (← c.self.view_is) (record {
      origin = refl;
      under = refl;
      stale = refl;
      snaps = refl;
      names = names;
      was = names_are c.self.inside.merging c.self.inside.volume.rested c.self.invariant.begun ∙ was;
      store = ap (λ (s : Stacked). s.names) c.of_parts.ensures;
      merging = ap (λ (o : Option Names). names_in (merging_with o c.finish_merge.new.self.rested)) c.take.ensures.after;
      given = out.attached;
    })

pub returns-in-Err-clause-full : goal.returns-in-Err-clause-full
returns-in-Err-clause-full c =
    let was = c.self.inside.volume in
    asked_err 1 c.in-Err.refusal was.taken was.rested.requests was.rested.attached c.self.inside.asked c.finish_merge.new.self.rested.attached c.in-Err.ensures.places.full (omega arith) c.look_at_places.ensures c.self.invariant.requests (ap (λ (x : Rested Stack). x.attached) c.in-Err.ensures.seen.same)
