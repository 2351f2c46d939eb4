use Rattle.std.proofs.Common.{◌+◌, arith}
use Rattle.cow_merge.proofs.Copies.{chunks_inside}
use Rattle.cow_merge.proofs.copying.place_of.Goals as goal

pub returns-then-chunks-count : goal.returns-then-chunks-count
returns-then-chunks-count c = record {
  found = λ first fits. (let inside = chunks_inside c.args.sizes.chunk c.args.sizes.store (c.args.pair.new + c.args.count) c.args.sizes.some fits in let test = c.if-chunks-count.true in omega arith);
}
