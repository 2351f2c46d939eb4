-- The seats so far fit the journal, and nothing changed.
use Rattle.std.proofs.Common.{◌≡◌, ◌<◌, ℕ, slice_index_or}
use Rattle.volume_threads.specs.Rigs.{IsSettledAt, SeatShape}
use Rattle.volume_threads.proofs.closing.settle_all.Given as goal

abbrev pub invariant-loop-i : goal.invariant-loop-i
invariant-loop-i g l =
    (l.seats ≡ l.fn.seats) × (l.post ≡ l.fn.post)
    × ((j : ℕ) (s : SeatShape) → j < l.i → IsSettledAt (g.J.Room.start l.volume) l.fn.post.audit l.volume (slice_index_or l.fn.seats j s))
