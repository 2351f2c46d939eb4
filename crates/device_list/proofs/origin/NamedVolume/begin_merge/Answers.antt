use Rattle.std.proofs.Common.{◌≡◌, length, true, false, Some, refl, sym, ap, ◌∙◌, subst, arith, inl, inr}
use Rattle.std.specs.Prelude.{Option, is_some}
use Rattle.std.specs.List.{remove}
use Rattle.std.proofs.lemmas.List.Edits.{length-remove}
use Rattle.std.proofs.lemmas.Option.{slice_get_read}
use Rattle.layers.specs.declared.stack.Stack.{Stack}
use Rattle.whole_commands.specs.Refusals.{is_starved}
use Rattle.merge.specs.Merging.{Merging}
use Rattle.device_list.specs.Held.{merging_with}
use Rattle.device_list.proofs.Begins.{begun_once, begun_is, none_of, not_begun, alike_state, alike_merging, alike_flying}
use Rattle.device_list.proofs.Merges.{begun_too, names_are}
use Rattle.device_list.proofs.Parts.{no_both}
use Rattle.device_list.proofs.Places.{here}
use Rattle.command_semantics.specs.State.{Volume}
use Rattle.device_list.specs.Asked.{has_asked_much}
use Rattle.device_list.proofs.Filled.{asked_err}
use Rattle.device_list.proofs.origin.NamedVolume.begin_merge.Goals as goal

pub returns-then-is_some-clause-err : goal.returns-then-is_some-clause-err
returns-then-is_some-clause-err c =
    rw (← c.self.view_is) (refl, λ other. begun_once c.args.k _ (begun_too c.self.inside.merging c.self.inside.volume.rested c.self.invariant.begun ∙ sym c.is_some.ensures ∙ c.if-is_some.true))

pub returns-then-is_some-clause-done : goal.returns-then-is_some-clause-done
returns-then-is_some-clause-done c = λ sound. returns-then-is_some-clause-err c

pub invariant_of-self : goal.invariant_of-self
invariant_of-self c =
    let out = c.in-Ok.ensures.seen.begun in
    let old = c.self.invariant in
    let lt = rw (← c.self.view_is) at c.requires in
    let many = old.many in
    let names = length-remove c.self.inside.snaps.items c.args.k lt in
    let snaps = length-remove c.self.inside.volume.rested.snaps c.args.k (omega (arith, lt, many)) in
    let left : length c.remove.new.self.items ≡ length (remove c.self.inside.snaps.items c.args.k) = ap length c.remove.ensures.items in
    let gone : length c.begin_merge.new.self.rested.snaps ≡ length (remove c.self.inside.volume.rested.snaps c.args.k) = ap length (out.snaps ∙ c.number-number.ensures.rest) in
    record {
      many = omega (arith, many, names, snaps, left, gone);
      begun = sym (ap (λ (o : Option (Merging Stack)). is_some o) out.begun);
      requests = rw out.requests old.requests;
      loud = λ sound. (c.begin_merge.ensures.seen.settled (c.look.ensures c.in-Ok.ensures.seen.quiet.0 (old.loud sound))).loud;
    }

pub returns-in-Ok-clause-done : goal.returns-in-Ok-clause-done
returns-in-Ok-clause-done c =
    let lt = rw (← c.self.view_is) at c.requires in
    let many = c.self.invariant.many in
    let out = c.in-Ok.ensures.seen.begun in
    let quiet = c.in-Ok.ensures.seen.quiet in
    let unmerged : is_some (merging_with c.self.inside.merging c.self.inside.volume.rested) ≡ false = begun_too c.self.inside.merging c.self.inside.volume.rested c.self.invariant.begun ∙ sym c.is_some.ensures ∙ c.if-is_some.false in
    rw (← c.self.view_is) (λ sound.
    begun_is c.args.k _ c.self.inside.volume.rested c.number-number.result c.remove.result refl unmerged lt c.remove.ensures.value (omega (arith, lt, many)) c.number-number.ensures.value c.number-number.ensures.first
    c.begin_merge.new.self.rested out (c.in-Ok.ensures.seen.merged (c.look.ensures quiet.0 (c.self.invariant.loud sound))) quiet.0 _
    (rw c.remove.ensures.items (rw out.attached (rw quiet.1 (rw quiet.0 refl)))))

pub returns-in-Ok-clause-named : goal.returns-in-Ok-clause-named
returns-in-Ok-clause-named c =
    let lt = rw (← c.self.view_is) at c.requires in
    let out = c.in-Ok.ensures.seen.begun in
    let none : is_some c.self.inside.merging ≡ false = sym c.is_some.ensures ∙ c.if-is_some.false in
    rw (← c.self.view_is) (record {
      origin = refl;
      under = refl;
      stale = refl;
      names = c.remove.result;
      named = rw (slice_get_read c.self.inside.snaps.items (length c.self.inside.snaps.items) c.args.k c.remove.result refl lt c.remove.ensures.value) refl;
      snaps = c.remove.ensures.items;
      before = names_are c.self.inside.merging c.self.inside.volume.rested c.self.invariant.begun ∙ none_of c.self.inside.merging none;
      merging = names_are (Some c.remove.result) c.begin_merge.new.self.rested (sym (ap (λ (o : Option (Merging Stack)). is_some o) out.begun));
      given = out.attached;
    })

pub returns-in-Err-clause-err : goal.returns-in-Err-clause-err
returns-in-Err-clause-err c =
    let lt = rw (← c.self.view_is) at c.requires in
    let many = c.self.invariant.many in
    let old = c.self.inside.volume.rested in
    let one = here c.self.inside.snaps.items c.args.k lt in
    let none : is_some c.self.inside.merging ≡ false = sym c.is_some.ensures ∙ c.if-is_some.false in
    let unmerged : is_some (merging_with c.self.inside.merging old) ≡ false = begun_too c.self.inside.merging old c.self.invariant.begun ∙ none in
    rw (← c.self.view_is) (elim c.in-Err.ensures.seen.refused [
      | inl first ↦ (
        rw first.1 refl,
        λ other.
            not_begun c.args.k _ old c.number-number.result one.0 refl unmerged lt (sym (one.1 one.0)) (omega (arith, lt, many)) c.number-number.ensures.value c.number-number.ensures.first
            c.in-Err.ensures.whole.0 refl (none_of old.events.merge (sym c.self.invariant.begun ∙ none)) c.in-Err.refusal first.0,
      )
      | inr more ↦ elim more [
        | inl starved ↦ (
          (let same = starved.2 in rw (alike_state old c.begin_merge.new.self.rested same) (rw (alike_merging old c.begin_merge.new.self.rested same c.self.inside.merging) (rw (alike_flying old c.begin_merge.new.self.rested same) (rw same.attached (rw same.quiet refl))))),
          λ other. absurd (no_both (is_starved c.in-Err.refusal) (ap is_starved starved.1) other),
        )
        | inr full ↦ (rw full.1 refl, λ other. absurd (no_both (is_starved c.in-Err.refusal) (ap is_starved full.0) other))
      ]
    ])

pub returns-in-Err-clause-done : goal.returns-in-Err-clause-done
returns-in-Err-clause-done c = λ sound. returns-in-Err-clause-err c

pub returns-in-Err-clause-full : goal.returns-in-Err-clause-full
returns-in-Err-clause-full c = λ is.
    let was = c.self.inside.volume in
    let P : Volume → Type 0 = λ v. has_asked_much v ≡ true in
    subst P (sym (returns-in-Err-clause-err c).0)
    (rw (← c.self.view_is) (asked_err 1 c.in-Err.refusal was.taken was.rested.requests was.rested.attached c.self.inside.asked was.rested.attached c.in-Err.ensures.places.full (omega arith) c.look_at_places.ensures c.self.invariant.requests refl is))
