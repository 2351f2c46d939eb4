-- The snapshots so far do not pass.
use Rattle.std.proofs.Common.{◌≡◌, drop}
use Rattle.std.specs.List.{list_any}
use Rattle.snapshot_list.specs.Finding.{is_flushing}
use Rattle.snapshot_list.proofs.finding.flushing_at.Given as goal

abbrev pub invariant-loop-place : goal.invariant-loop-place
invariant-loop-place g l = list_any (is_flushing l.number) l.snaps ≡ list_any (is_flushing l.number) (drop l.place l.snaps)
