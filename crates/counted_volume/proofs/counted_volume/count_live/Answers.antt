-- One place more is looked at.
use Rattle.std.proofs.Common.{◌∙◌, ◌<◌, arith, length, sym}
use Rattle.counted_volume.proofs.Fewer.{live_here, spoilt_here}
use Rattle.counted_volume.proofs.counted_volume.count_live.Goals as goal
use Rattle.counted_volume.proofs.counted_volume.count_live.Goals.{then-is_live, else-is_live}

pub loop-k-preserved : goal.loop-k-preserved
loop-k-preserved g c =
    let snaps = c.args.volume.now.snaps in
    let s = c.snap.result.now in
    let within : c.loop-k.k < length snaps = omega (arith, c.loop-k-test.true, c.len-k-end.ensures.len) in
    elim c.if-is_live.branch [
      | then-is_live w ↦ live_here snaps c.loop-k.k s c.loop-k.count c.if-is_live.count within (c.snap.ensures.value s) c.loop-k.invariant.0 c.loop-k.invariant.1 (sym c.is_live.ensures ∙ w.if-is_live.true) w.count-is
      | else-is_live w ↦ spoilt_here snaps c.loop-k.k s c.loop-k.count c.if-is_live.count within (c.snap.ensures.value s) c.loop-k.invariant.0 c.loop-k.invariant.1 (sym c.is_live.ensures ∙ w.if-is_live.false) w.count-is
    ]
