-- As many snapshots are saved as rooms were taken.
use Rattle.std.proofs.Common.{◌≡◌, length}
use Rattle.snapshot_list.specs.Starting.{own_of}
use Rattle.snapshot_list.proofs.Starts.{IsSavedBelow}
use Rattle.snapshot_list.proofs.starting.save_in_all.Given as goal

abbrev pub invariant-loop-room : goal.invariant-loop-room
invariant-loop-room g l = (l.place ≡ length l.yielded) × IsSavedBelow g.B.Block.contents g.B.Block.layers (own_of l.first) l.place l.fn.snaps l.snaps l.copies l.given l.fn.flights l.flights
