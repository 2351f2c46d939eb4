use Rattle.store.specs.Held.{committed}
use Rattle.store.specs.Grouping.{EndsWithRun}
use Rattle.store.proofs.store.Store.merge_group.Given as goal

abbrev pub invariant-loop-count : goal.invariant-loop-count
invariant-loop-count g l = EndsWithRun (committed l.self.exceptions) l.first l.count
