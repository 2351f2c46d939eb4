-- The pieces so far were written.
use Rattle.std.proofs.Common.{◌+◌, take}
use Rattle.chunk.specs.Pieces.{pieces_of, span_of}
use Rattle.chunk.proofs.Runs.{StandsAt}
use Rattle.plain_machine.specs.declared.request.Op.TheVariants.{Write}
use Rattle.locked_volume.specs.Fixed.{piece_at}
use Rattle.volume_threads.specs.Served.{written_reply}
use Rattle.volume_threads.proofs.UnderWay.{IsUnderWay}
use Rattle.volume_threads.proofs.seat.Seat.write_all.Given as goal

abbrev pub invariant-loop-part : goal.invariant-loop-part
invariant-loop-part g l = record {
  can : (goal.iterator-loop-part g).can_next l.part-iterator;
  finite : (goal.iterator-loop-part g).is_finite l.part-iterator;
  under : StandsAt (piece_at (g.J.Room.fixed l.fn.volume)) l.fn.range.first (l.fn.range.first + l.fn.range.count) l.from l.part-iterator
      × IsUnderWay Write written_reply l.fn.dev l.fn.volume (pieces_of (piece_at (g.J.Room.fixed l.fn.volume)) (span_of l.fn.range)) l.part-iterator l.fn.self l.self (take l.from l.fn.bytes);
}
