-- One place more is looked at.
use Rattle.std.proofs.Common.{◌∙◌, ◌<◌, arith, false, length, sym, true}
use Rattle.counted_volume.proofs.Fewer.{may_here}
use Rattle.counted_volume.proofs.counted_volume.count_may.Goals as goal
use Rattle.counted_volume.proofs.counted_volume.count_may.Goals.{then-may_be_marked, else-may_be_marked}

pub loop-k-preserved : goal.loop-k-preserved
loop-k-preserved g c =
    let snaps = c.args.volume.now.snaps in
    let s = c.snap.result.now in
    let within : c.loop-k.k < length snaps = omega (arith, c.loop-k-test.true, c.len-k-end.ensures.len) in
    let inv = c.loop-k.invariant in
    elim c.if-may_be_marked.branch [
      | then-may_be_marked w ↦ may_here snaps c.loop-k.k s true c.loop-k.count c.if-may_be_marked.count within (c.snap.ensures.value s) inv.0 inv.1 (sym w.if-may_be_marked.true ∙ c.may_be_marked.ensures) w.count-is
      | else-may_be_marked w ↦ may_here snaps c.loop-k.k s false c.loop-k.count c.if-may_be_marked.count within (c.snap.ensures.value s) inv.0 inv.1 (sym w.if-may_be_marked.false ∙ c.may_be_marked.ensures) (omega (arith, w.count-is))
    ]
