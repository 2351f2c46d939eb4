-- A merge is one that its job asks for.
use Rattle.parallel_threads.proofs.Merging.{merges_own}
use Rattle.parallel_threads.proofs.serving.answer.Goals as goal

pub merge-requires-clause-asked : goal.merge-requires-clause-asked
merge-requires-clause-asked g c = c.requires.asked c.in-Merge.volume c.in-Merge.snap (merges_own c.in-Merge.volume c.in-Merge.snap c.args.job c.in-Merge.is)
