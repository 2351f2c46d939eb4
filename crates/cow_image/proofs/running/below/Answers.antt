use Rattle.std.proofs.Common.{arith, ◌+◌, ◌-◌, ◌/◌, ◌<◌, length}
use Rattle.cow_image.proofs.Places.{below_middle, above_middle}
use Rattle.cow_image.proofs.running.below.Goals as goal

pub loop-low-preserved-then-pairs-middle : goal.loop-low-preserved-then-pairs-middle
loop-low-preserved-then-pairs-middle c =
    let i = c.loop-low.invariant in
    let inside : c.loop-low.low + (c.loop-low.high - c.loop-low.low) / 2 < length c.args.pairs.now = let h = c.loop-low-test.true in let h' = i.inside in omega arith in
    record {
      order = (let h = c.loop-low-test.true in omega arith);
      inside = i.inside;
      below = below_middle c.args.pairs.now (c.loop-low.low + (c.loop-low.high - c.loop-low.low) / 2) c.args.number _ c.requires inside c.if-pairs-middle.true;
      above = i.above;
    }

pub loop-low-preserved : goal.loop-low-preserved
loop-low-preserved c =
    let i = c.loop-low.invariant in
    let inside : c.loop-low.low + (c.loop-low.high - c.loop-low.low) / 2 < length c.args.pairs.now = let h = c.loop-low-test.true in let h' = i.inside in omega arith in
    record {
      order = (let h = c.loop-low-test.true in omega arith);
      inside = omega arith;
      below = i.below;
      above = above_middle c.args.pairs.now (c.loop-low.low + (c.loop-low.high - c.loop-low.low) / 2) c.args.number _ c.requires inside c.if-pairs-middle.false;
    }
