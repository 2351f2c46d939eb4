-- The least of those so far.
use Rattle.std.proofs.Common.{map, take}
use Rattle.snapshot_list.specs.MergeStarting.{IsLeastFrom}
use Rattle.snapshot_list.proofs.seeking.least_copied.Given as goal

abbrev pub invariant-loop-copy : goal.invariant-loop-copy
invariant-loop-copy l = IsLeastFrom l.low l.most (map (λ p. p.pair.old) (take l.copy-index l.copies)) l.least
