-- The snapshots so far have none.
use Rattle.std.proofs.Common.{◌≡◌, drop}
use Rattle.std.specs.List.{list_any}
use Rattle.snapshot_list.specs.Finding.{has_copy_at}
use Rattle.snapshot_list.proofs.finding.find_copy.Given as goal

abbrev pub invariant-loop-place : goal.invariant-loop-place
invariant-loop-place g l = list_any (has_copy_at l.stage l.number) l.snaps ≡ list_any (has_copy_at l.stage l.number) (drop l.place l.snaps)
