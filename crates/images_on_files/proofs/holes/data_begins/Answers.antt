use Rattle.std.proofs.Common.{◌≤◌, arith}
use Rattle.images_on_files.proofs.Holds.{zeros_next}
use Rattle.images_on_files.proofs.holes.data_begins.Goals as goal

pub loop-place-preserved : goal.loop-place-preserved
loop-place-preserved c =
    let more = c.block_end-end.ensures.more in
    let low = c.loop-place.invariant.after in
    let high : c.loop-place.place ≤ c.block_end-end.result = omega (arith, more) in
    record {
      after = omega (arith, more, low);
      inside = c.block_end-end.ensures.inside;
      zeros = zeros_next c.args.bytes.now c.args.from c.loop-place.place c.block_end-end.result low high c.block_end-end.ensures.inside c.loop-place.invariant.zeros (c.are_zeros.ensures c.if-not-are_zeros.false);
    }
