-- So many seats are there.
use Rattle.std.proofs.Common.{◌≡◌, ◌+◌}
use Rattle.volume_threads.specs.Rigs.{AreDealt, AreNewSeats}
use Rattle.volume_threads.proofs.making.seats_of.Given as goal

abbrev pub invariant-loop-i : goal.invariant-loop-i
invariant-loop-i g l =
    (l.opened.queue ≡ g.J.Room.queue) × (l.opened.parts + l.i ≡ 1024)
    × AreDealt g.J.Room.history g.J.Room.boards g.J.Room.volumes (l.i + 1) 0 l.opened.volumes × AreNewSeats l.i l.all.items
