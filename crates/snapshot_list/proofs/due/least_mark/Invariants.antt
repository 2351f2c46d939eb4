-- The least of the snapshots so far.
use Rattle.std.proofs.Common.{◌≡◌, map, drop}
use Rattle.in_flight.specs.Due.{least}
use Rattle.volume_laws.specs.Due.{least_of, publishable_of}
use Rattle.snapshot.specs.Kept.{due_of_kept}
use Rattle.snapshot_list.proofs.due.least_mark.Given as goal

abbrev pub invariant-loop-s : goal.invariant-loop-s
invariant-loop-s g l = least_of (publishable_of l.flights) (map (due_of_kept g.B.Block.contents g.B.Block.layers) l.snaps) ≡ least l.found (least_of (publishable_of l.flights) (map (due_of_kept g.B.Block.contents g.B.Block.layers) (drop l.s-index l.snaps)))
