-- The snapshots so far do not pass.
use Rattle.std.proofs.Common.{◌≡◌, map, drop}
use Rattle.in_flight.specs.Due.{first_by}
use Rattle.volume_laws.specs.Due.{snap_number, can_zero}
use Rattle.snapshot.specs.Kept.{due_of_kept}
use Rattle.snapshot_list.proofs.due.first_zeroing.Given as goal

abbrev pub invariant-loop-s : goal.invariant-loop-s
invariant-loop-s g l = first_by can_zero snap_number (map (due_of_kept g.B.Block.contents g.B.Block.layers) l.snaps) ≡ first_by can_zero snap_number (map (due_of_kept g.B.Block.contents g.B.Block.layers) (drop l.s-index l.snaps))
