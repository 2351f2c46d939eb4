-- So many passes were dealt.
use Rattle.std.proofs.Common.{◌≡◌, ◌+◌, length}
use Rattle.volume_threads.proofs.making.workers_of.Given as goal

abbrev pub invariant-loop : goal.invariant-loop
invariant-loop g l =
    (l.opened.queue ≡ g.J.Room.queue) × (l.opened.volumes ≡ l.fn.opened.volumes) × (l.opened.parts + l.counter ≡ l.fn.opened.parts)
    × (length l.all.items ≡ l.counter)
