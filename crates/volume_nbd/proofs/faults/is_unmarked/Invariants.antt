-- The marks of the stores so far did not fail.
use Rattle.std.proofs.Common.{◌≡◌, drop}
use Rattle.std.specs.List.{list_any}
use Rattle.snapshot.specs.Kept.{Kept}
use Rattle.volume_nbd.proofs.faults.is_unmarked.Given as goal

abbrev pub invariant-loop-snap : goal.invariant-loop-snap
invariant-loop-snap g l = list_any (λ (s : Kept g.row.B.Denot). s.stale) l.snaps ≡ list_any (λ (s : Kept g.row.B.Denot). s.stale) (drop l.snap-index l.snaps)
