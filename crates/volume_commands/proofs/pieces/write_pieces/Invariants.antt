-- The pieces so far were written.
use Rattle.std.proofs.Common.{◌≡◌, ◌+◌, drop}
use Rattle.chunk.specs.Pieces.{span_of, pieces_of}
use Rattle.chunk.proofs.Runs.{StandsAt}
use Rattle.volume.specs.Volumed.{piece_with}
use Rattle.volume_commands.specs.Rested.{rested_of, merged_of, IsSettled}
use Rattle.volume_commands.proofs.Going.{GoesSo}
use Rattle.volume_commands.proofs.WriteRuns.{WritesTo}
use Rattle.volume_commands.proofs.RestRuns.{WritesAtRest}
use Rattle.counted_volume.specs.TakesPlaces.{TakesByRequests}
use Rattle.volume_commands.proofs.pieces.write_pieces.Given as goal

abbrev pub invariant-loop-piece : goal.invariant-loop-piece
invariant-loop-piece g l = record {
  can : (goal.iterator-loop-piece g).can_next l.piece-iterator;
  finite : (goal.iterator-loop-piece g).is_finite l.piece-iterator;
  stands : StandsAt (piece_with l.fn.volume.volume.merge l.fn.volume.volume.snaps) l.fn.range.first (l.fn.range.first + l.fn.range.count) l.from l.piece-iterator;
  same : drop l.from l.bytes ≡ drop l.from l.fn.bytes;
  so : GoesSo g.B.Block.contents g.B.Block.layers g.B.Block.size l.from l.fn.volume.volume l.volume.volume;
  did : WritesTo l.fn.dev (IsSettled g.B.Block.layers (rested_of l.fn.volume.volume)) (pieces_of (piece_with l.fn.volume.volume.merge l.fn.volume.volume.snaps) (span_of l.fn.range)) l.fn.bytes l.from l.piece-iterator
      (merged_of g.B.Block.contents g.B.Block.layers (rested_of l.fn.volume.volume)) (merged_of g.B.Block.contents g.B.Block.layers (rested_of l.volume.volume));
  met : WritesAtRest g.B.Block.may_hold g.B.Block.contents g.B.Block.layers g.B.Block.fault_count g.B.Block.size l.fn.dev (pieces_of (piece_with l.fn.volume.volume.merge l.fn.volume.volume.snaps) (span_of l.fn.range)) l.piece-iterator l.from l.fn.bytes l.fn.volume.volume l.volume.volume;
  taken : TakesByRequests l.fn.volume l.volume;
}
