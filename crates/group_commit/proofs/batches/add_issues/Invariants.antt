-- The events of the flights so far are added.
use Rattle.std.proofs.Common.{◌≡◌, ◌++◌, take}
use Rattle.group_commit.specs.Rounds.{issues_of}
use Rattle.group_commit.proofs.batches.add_issues.Given as goal

abbrev pub invariant-loop-flight : goal.invariant-loop-flight
invariant-loop-flight l = l.events.items ≡ l.initial.events.items ++ issues_of (take l.flight-index l.flights)
