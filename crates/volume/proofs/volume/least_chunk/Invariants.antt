-- With the others the least one so far is the least of all, and those that were looked at have allowed sizes.
use Rattle.std.proofs.Common.{◌≡◌, ◌<◌, ℕ, drop, get_or, true}
use Rattle.std.specs.Prelude.{min}
use Rattle.chunk.specs.Sizes.{is_chunk}
use Rattle.snapshot.specs.Kept.{Kept}
use Rattle.volume.specs.Volumed.{piece_of}
use Rattle.volume.proofs.volume.least_chunk.Given as goal

abbrev pub invariant-loop-snap : goal.invariant-loop-snap
invariant-loop-snap g l =
    (min l.least (piece_of (drop l.snap-index l.snaps)) ≡ piece_of l.snaps) × (is_chunk l.least ≡ true) × ((i : ℕ) (d : Kept g.row.B.Denot) → i < l.snap-index → is_chunk (get_or l.snaps i d).state.chunk ≡ true)
