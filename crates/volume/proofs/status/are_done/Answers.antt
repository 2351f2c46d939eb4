-- One snapshot more is done.
use Rattle.std.proofs.Common.{◌≡◌, ◌∙◌, true, sym}
use Rattle.volume.specs.Leaving.{is_done_of}
use Rattle.volume.proofs.AtRest.{all_passes, still_more}
use Rattle.volume.proofs.status.are_done.Goals as goal

pub loop-s-preserved : goal.loop-s-preserved
loop-s-preserved g c =
    let snaps = c.args.snaps.now in
    let i = c.loop-s.s-index in
    let s = c.s-item.result in
    let yes : c.is_done.result ≡ true = c.if-not-is_done.false in
    record {
      done = c.loop-s.invariant.done ∙ all_passes is_done_of snaps i s c.loop-s-test.true c.s-item.is (sym c.is_done.ensures.value ∙ yes);
      still = still_more g.B.Block.contents g.B.Block.layers snaps i s c.loop-s-test.true c.s-item.is c.loop-s.invariant.still (c.is_done.ensures.still yes);
    }
