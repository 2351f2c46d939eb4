-- The pieces so far were read.
use Rattle.chunk.specs.Pieces.{pieces_of, span_of}
use Rattle.plain_machine.specs.declared.request.Reply.TheVariants.{Data}
use Rattle.locked_volume.specs.Fixed.{piece_at}
use Rattle.volume_threads.specs.Served.{read_op}
use Rattle.volume_threads.proofs.UnderWay.{IsUnderWay}
use Rattle.volume_threads.proofs.seat.Seat.read.Given as goal

abbrev pub invariant-loop-part : goal.invariant-loop-part
invariant-loop-part g l = record {
  can : (goal.iterator-loop-part g).can_next l.part-iterator;
  finite : (goal.iterator-loop-part g).is_finite l.part-iterator;
  under : IsUnderWay read_op Data l.fn.dev l.fn.volume (pieces_of (piece_at (g.J.Room.fixed l.fn.volume)) (span_of l.fn.range)) l.part-iterator l.fn.self l.self l.out.items;
}
