-- The least of those so far.
use Rattle.std.proofs.Common.{map, take}
use Rattle.snapshot_list.specs.MergeStarting.{IsLeastFrom}
use Rattle.snapshot_list.proofs.seeking.least_marked.Given as goal

abbrev pub invariant-loop-mark : goal.invariant-loop-mark
invariant-loop-mark l = IsLeastFrom l.low l.most (map (λ m. m.chunk) (take l.mark-index l.marks)) l.least
