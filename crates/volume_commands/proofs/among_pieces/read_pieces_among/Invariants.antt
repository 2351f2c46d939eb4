-- The pieces so far were read.
use Rattle.std.proofs.Common.{vec_len, vec_capacity}
use Rattle.chunk.specs.Pieces.{span_of, pieces_of}
use Rattle.volume.specs.Volumed.{piece_with}
use Rattle.volume_commands.proofs.AmongRuns.{IsUnderWayAmong, ReadsAmong}
use Rattle.counted_volume.specs.TakesPlaces.{TakesByRequests}
use Rattle.volume_commands.proofs.among_pieces.read_pieces_among.Given as goal

abbrev pub invariant-loop-piece : goal.invariant-loop-piece
invariant-loop-piece g l = record {
  can : (goal.iterator-loop-piece g).can_next l.piece-iterator;
  finite : (goal.iterator-loop-piece g).is_finite l.piece-iterator;
  place : IsUnderWayAmong g.B.Block.layers g.B.Block.size (piece_with l.fn.volume.volume.merge l.fn.volume.volume.snaps) l.fn.range l.piece-iterator (vec_len l.out) (vec_capacity l.out) l.fn.volume.volume l.volume.volume;
  did : ReadsAmong g.B.Block.may_hold g.B.Block.contents g.B.Block.layers g.B.Block.fault_count g.B.Block.size l.fn.dev (pieces_of (piece_with l.fn.volume.volume.merge l.fn.volume.volume.snaps) (span_of l.fn.range)) l.piece-iterator l.out.items l.fn.volume.volume l.volume.volume l.fn.ended.items l.ended.items;
  taken : TakesByRequests l.fn.volume l.volume;
}
