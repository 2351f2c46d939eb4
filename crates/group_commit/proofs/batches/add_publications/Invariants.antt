-- The events of the marks so far are added.
use Rattle.std.proofs.Common.{◌≡◌, ◌++◌, take}
use Rattle.group_commit.specs.Rounds.{publications_of}
use Rattle.group_commit.proofs.batches.add_publications.Given as goal

abbrev pub invariant-loop-mark : goal.invariant-loop-mark
invariant-loop-mark l = l.events.items ≡ l.initial.events.items ++ publications_of (take l.mark-index l.marks)
