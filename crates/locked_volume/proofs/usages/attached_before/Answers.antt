-- One snapshot more is looked at.
use Rattle.std.proofs.Common.{◌<◌, ◌≤◌, subst, arith, length}
use Rattle.locked_volume.proofs.Shown.{counts, skips}
use Rattle.locked_volume.proofs.usages.attached_before.Goals as goal
use Rattle.locked_volume.proofs.usages.attached_before.Goals.{then-number, else-number}

pub loop-k-preserved : goal.loop-k-preserved
loop-k-preserved g c =
    let s = c.snap.result.now in
    let within : c.loop-k.k < length c.args.volume.now.snaps = omega (arith, c.loop-k-test.true, c.len-k-end.ensures.len) in
    elim c.if-number.branch [
      | then-number w ↦ counts c.args.number c.args.volume.now.snaps c.loop-k.k s c.loop-k.count c.if-number.count within (c.snap.ensures.value s) c.loop-k.invariant (subst (λ n. n < c.args.number) c.number.ensures w.if-number.true) w.count-is
      | else-number w ↦ skips c.args.number c.args.volume.now.snaps c.loop-k.k s c.loop-k.count c.if-number.count within (c.snap.ensures.value s) c.loop-k.invariant (subst (λ n. c.args.number ≤ n) c.number.ensures w.if-number.false) w.count-is
    ]
