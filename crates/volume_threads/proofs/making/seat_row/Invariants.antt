-- The seat sits at the first volumes.
use Rattle.std.proofs.Common.{◌≡◌, length}
use Rattle.volume_threads.specs.Rigs.{AreDealt, AreIdle, HasNoReceipts}
use Rattle.volume_threads.proofs.making.seat_row.Given as goal

abbrev pub invariant-loop-k : goal.invariant-loop-k
invariant-loop-k g l =
    (length l.row.items ≡ l.k) × AreIdle l.number l.row.items × HasNoReceipts l.row.items
    × AreDealt g.J.Room.history g.J.Room.boards g.J.Room.volumes l.number l.k l.volumes.items
