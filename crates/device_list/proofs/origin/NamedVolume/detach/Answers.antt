use Rattle.std.proofs.Common.{◌≡◌, length, get_or, refl, ap, ◌∙◌, arith, inl, inr}
use Rattle.std.specs.List.{remove}
use Rattle.std.proofs.lemmas.List.Edits.{length-remove}
use Rattle.command_semantics.specs.State.{Names, Stacked}
use Rattle.command_semantics.specs.Stacks.{device_of}
use Rattle.device_list.proofs.Merges.{begun_as_before, merging_as_before}
use Rattle.device_list.proofs.Places.{at_place, dev_there}
use Rattle.device_list.proofs.Parts.{no_both, parted_is, parted_not, given_loud}
use Rattle.layers.specs.declared.stack.Stack.{Stack}
use Rattle.volume_commands.specs.Rested.{Rested}
use Rattle.device_list.proofs.Filled.{asked_err}
use Rattle.device_list.proofs.origin.NamedVolume.detach.Goals as goal

pub returns-in-Err-clause-busy : goal.returns-in-Err-clause-busy
returns-in-Err-clause-busy c =
    let lt = rw (← c.self.view_is) at c.requires in
    let many = c.self.invariant.many in
    let at = at_place c.self.inside.volume.rested c.args.k (omega (arith, lt, many)) in
    let there = dev_there c.number-number.result c.self.inside.volume.rested.snaps (get_or c.self.inside.volume.rested.snaps c.args.k at.0) (c.number-number.ensures.first at.0) in
    rw (← c.self.view_is) (λ other. elim c.in-Err.ensures.seen.err.0 [
      | inl none ↦ absurd (no_both _ there none.1)
      | inr more ↦ elim more [
        | inl mine ↦ absurd (no_both _ mine.1 (rw c.number-number.ensures.apart refl))
        | inr last ↦ elim last [
          | inl busy ↦ rw busy.0 (parted_not c.args.k _ c.self.inside.volume.rested refl lt (omega (arith, lt, many)) busy.1)
          | inr full ↦ absurd (other full)
        ]
      ]
    ])

pub invariant_of-self-2 : goal.invariant_of-self-2
invariant_of-self-2 c =
    let out = c.in-Ok.ensures.seen.left in
    let old = c.self.invariant in
    let lt = rw (← c.self.view_is) at c.requires in
    let many = old.many in
    let names = length-remove c.self.inside.snaps.items c.args.k lt in
    let snaps = length-remove c.self.inside.volume.rested.snaps c.args.k (omega (arith, lt, many)) in
    let left : length c.remove.new.self.items ≡ length (remove c.self.inside.snaps.items c.args.k) = ap length c.remove.ensures.items in
    let gone : length c.detach.new.self.rested.snaps ≡ length (remove c.self.inside.volume.rested.snaps c.args.k) = ap length (out.snaps ∙ c.number-number.ensures.rest) in
    record {
      many = omega (arith, many, names, snaps, left, gone);
      begun = old.begun ∙ begun_as_before c.self.inside.volume.rested c.detach.new.self.rested out.merge;
      requests = rw out.requests old.requests;
      loud = λ sound. (c.detach.ensures.seen.settled (c.look.ensures c.in-Ok.ensures.seen.quiet.0 (old.loud sound))).loud;
    }

pub returns-clause-parted : goal.returns-clause-parted
returns-clause-parted c =
    let lt = rw (← c.self.view_is) at c.requires in
    let many = c.self.invariant.many in
    rw (← c.self.view_is)
    (parted_is c.args.k _ c.self.inside.volume.rested c.detach.new.self.rested c.number-number.result c.remove.result c.in-Ok.given refl lt c.in-Ok.ensures.seen.quiet.0 c.remove.ensures.value (omega (arith, lt, many)) c.number-number.ensures.value c.in-Ok.ensures.seen.left
    c.of_parts.result _ (c.of_parts.ensures ∙ ap (λ (n : Names). let s : Stacked = record { names = n.store; device = device_of c.in-Ok.given.device; stale = c.in-Ok.given.stale } in s) c.store.view_is) (rw (merging_as_before _ c.self.inside.volume.rested c.detach.new.self.rested c.in-Ok.ensures.seen.left.merge) (rw c.remove.ensures.items (rw c.in-Ok.ensures.seen.left.attached (rw c.in-Ok.ensures.seen.quiet.1 (rw c.in-Ok.ensures.seen.quiet.0 refl))))))

pub returns-clause-loud : goal.returns-clause-loud
returns-clause-loud c =
    rw (← c.self.view_is) (λ sound.
    rw c.of_parts.ensures (given_loud c.number-number.result c.in-Ok.given c.self.inside.volume.rested c.detach.new.self.rested c.in-Ok.ensures.seen.left (c.look.ensures c.in-Ok.ensures.seen.quiet.0 (c.self.invariant.loud sound))))

pub returns-in-Err-clause-full : goal.returns-in-Err-clause-full
returns-in-Err-clause-full c =
    let was = c.self.inside.volume in
    asked_err 1 c.in-Err.refusal was.taken was.rested.requests was.rested.attached c.self.inside.asked c.detach.new.self.rested.attached c.in-Err.ensures.places.full (omega arith) c.look_at_places.ensures c.self.invariant.requests (ap (λ (x : Rested Stack). x.attached) c.in-Err.ensures.seen.err.1)
