-- The pieces so far were read.
use Rattle.std.proofs.Common.{vec_len, vec_capacity}
use Rattle.chunk.specs.Pieces.{span_of, pieces_of}
use Rattle.volume.specs.Volumed.{piece_with}
use Rattle.volume_commands.specs.Rested.{rested_of, merged_of, IsSettled}
use Rattle.volume_commands.proofs.ReadRuns.{ReadsTo}
use Rattle.volume_commands.proofs.Reading.{IsUnderWay}
use Rattle.volume_commands.proofs.RestRuns.{ReadsAtRest}
use Rattle.counted_volume.specs.TakesPlaces.{TakesByRequests}
use Rattle.volume_commands.proofs.pieces.read_pieces.Given as goal

abbrev pub invariant-loop-piece : goal.invariant-loop-piece
invariant-loop-piece g l = record {
  can : (goal.iterator-loop-piece g).can_next l.piece-iterator;
  finite : (goal.iterator-loop-piece g).is_finite l.piece-iterator;
  place : IsUnderWay g.B.Block.contents g.B.Block.layers g.B.Block.size (piece_with l.fn.volume.volume.merge l.fn.volume.volume.snaps) l.fn.range l.piece-iterator (vec_len l.out) (vec_capacity l.out) l.fn.volume.volume l.volume.volume;
  did : ReadsTo l.fn.dev (IsSettled g.B.Block.layers (rested_of l.fn.volume.volume)) (pieces_of (piece_with l.fn.volume.volume.merge l.fn.volume.volume.snaps) (span_of l.fn.range)) l.piece-iterator l.out.items
      (merged_of g.B.Block.contents g.B.Block.layers (rested_of l.fn.volume.volume)) (merged_of g.B.Block.contents g.B.Block.layers (rested_of l.volume.volume));
  met : ReadsAtRest g.B.Block.may_hold g.B.Block.contents g.B.Block.layers g.B.Block.fault_count g.B.Block.size l.fn.dev (pieces_of (piece_with l.fn.volume.volume.merge l.fn.volume.volume.snaps) (span_of l.fn.range)) l.piece-iterator l.out.items l.fn.volume.volume l.volume.volume;
  taken : TakesByRequests l.fn.volume l.volume;
}
