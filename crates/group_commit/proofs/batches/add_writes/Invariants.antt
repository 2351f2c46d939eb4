-- The events of the copies so far are added.
use Rattle.std.proofs.Common.{◌≡◌, ◌++◌, take}
use Rattle.group_commit.specs.Rounds.{writes_of}
use Rattle.group_commit.proofs.batches.add_writes.Given as goal

abbrev pub invariant-loop-copy : goal.invariant-loop-copy
invariant-loop-copy l = l.events.items ≡ l.initial.events.items ++ writes_of (take l.copy-index l.copies)
