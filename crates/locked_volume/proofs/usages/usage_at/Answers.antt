-- The place is before that of the merge, or after it.
use Rattle.std.proofs.Common.{sym, ◌∙◌, arith}
use Rattle.locked_volume.proofs.Shown.{after_merge, before_merge}
use Rattle.locked_volume.proofs.usages.usage_at.Goals as goal

pub returns-then-place-front-clause-is : goal.returns-then-place-front-clause-is
returns-then-place-front-clause-is g c =
    let v = c.args.volume.now in
    c.snap_usage-then-place-front.ensures.is
    ∙ before_merge v.merge v.snaps c.in-Some.number c.args.place c.attached_before-front.result (sym c.merging.ensures.value ∙ c.in-Some.is) c.attached_before-front.ensures c.if-place-front.true

pub returns-else-place-front-2-clause-is : goal.returns-else-place-front-2-clause-is
returns-else-place-front-2-clause-is g c =
    let v = c.args.volume.now in
    c.snap_usage-else-place-front-2.ensures.is
    ∙ after_merge v.merge v.snaps c.in-Some.number c.args.place c.attached_before-front.result (sym c.merging.ensures.value ∙ c.in-Some.is) c.attached_before-front.ensures
    (omega (arith, c.if-place-front.false, c.if-place-front-2.false))
