-- The snapshots before the present one have room, nothing but room has changed, and there is a place for each buffer.
use Rattle.std.proofs.Common.{◌≡◌, ◌≤◌, length, map, vec_capacity}
use Rattle.snapshot_list.specs.Starting.{unroomed}
use Rattle.snapshot_list.proofs.Starts.{HaveRoomBelow}
use Rattle.snapshot_list.proofs.starting.take_rooms.Given as goal

abbrev pub invariant-loop-k : goal.invariant-loop-k
invariant-loop-k g l = (map unroomed l.snaps ≡ map unroomed l.fn.snaps) × HaveRoomBelow l.first l.k l.snaps l.rooms.items × (length l.fn.snaps ≤ vec_capacity l.rooms)
