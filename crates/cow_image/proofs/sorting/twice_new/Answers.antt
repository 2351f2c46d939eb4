use Rattle.cow_image.specs.Sorted.{new_of}
use Rattle.cow_image.proofs.Sorts.{twice_at}
use Rattle.cow_image.proofs.sorting.twice_new.Goals as goal

pub returns-then-pairs-index : goal.returns-then-pairs-index
returns-then-pairs-index c = twice_at new_of c.args.pairs.now c.loop-index.index _ c.loop-index.auto.index c.loop-index-test.true c.if-pairs-index.true
