-- The bytes so far are those of the picture by the pairs in memory.
use Rattle.std.proofs.Common.{◌≡◌, ◌+◌, ◌*◌, ◌<◌, get_or, ℕ}
use Rattle.chunk.proofs.Runs.{StandsAt}
use Rattle.volume.specs.Peeking.{picture_by}
use Rattle.volume.proofs.peeking.peek_merged.Given as goal

abbrev pub invariant-loop-piece : goal.invariant-loop-piece
invariant-loop-piece g l = record {
  stands : StandsAt l.fn.geometry.chunk l.fn.range.first (l.fn.range.first + l.fn.range.count) l.from l.piece-iterator;
  bytes : (k : ℕ) → k < l.from
      → get_or l.out k 0 ≡ get_or (picture_by l.fn.merge.state.chunk (g.B.Block.contents l.fn.origin) (g.B.Block.contents l.fn.merge.device) l.fn.merge.pairs) (512 * l.fn.range.first + k) 0;
}
