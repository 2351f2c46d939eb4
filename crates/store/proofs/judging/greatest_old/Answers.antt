use Rattle.store.specs.Stored.{old_of}
use Rattle.store.proofs.Areas.{no_chunks}
use Rattle.store.proofs.Judged.{greatest_more}
use Rattle.store.proofs.judging.greatest_old.Goals as goal

pub loop-pair-preserved : goal.loop-pair-preserved
unfolding no_chunks
loop-pair-preserved c = greatest_more old_of c.args.pairs.now c.loop-pair.pair-index c.loop-pair.greatest c.max-greatest.result no_chunks c.loop-pair-test.true c.loop-pair.invariant c.max-greatest.ensures
