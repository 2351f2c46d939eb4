-- The pieces so far were written.
use Rattle.std.proofs.Common.{◌≡◌, ◌+◌, drop}
use Rattle.chunk.specs.Pieces.{span_of, pieces_of}
use Rattle.chunk.proofs.Runs.{StandsAt}
use Rattle.volume.specs.Volumed.{piece_with}
use Rattle.volume_commands.proofs.AmongRuns.{GoesAmong, WritesAmong}
use Rattle.counted_volume.specs.TakesPlaces.{TakesByRequests}
use Rattle.volume_commands.proofs.among_pieces.write_pieces_among.Given as goal

abbrev pub invariant-loop-piece : goal.invariant-loop-piece
invariant-loop-piece g l = record {
  can : (goal.iterator-loop-piece g).can_next l.piece-iterator;
  finite : (goal.iterator-loop-piece g).is_finite l.piece-iterator;
  stands : StandsAt (piece_with l.fn.volume.volume.merge l.fn.volume.volume.snaps) l.fn.range.first (l.fn.range.first + l.fn.range.count) l.from l.piece-iterator;
  same : drop l.from l.bytes ≡ drop l.from l.fn.bytes;
  so : GoesAmong g.B.Block.layers g.B.Block.size l.from l.fn.volume.volume l.volume.volume;
  did : WritesAmong g.B.Block.may_hold g.B.Block.contents g.B.Block.layers g.B.Block.fault_count g.B.Block.size l.fn.dev (pieces_of (piece_with l.fn.volume.volume.merge l.fn.volume.volume.snaps) (span_of l.fn.range)) l.piece-iterator l.from l.fn.bytes l.fn.volume.volume l.volume.volume l.fn.ended.items l.ended.items;
  taken : TakesByRequests l.fn.volume l.volume;
}
