use Rattle.nbd_backend.specs.Calls.{CallsTo}
use Rattle.nbd_write_session.specs.Moved.{MovesCalling}
use Rattle.nbd_write_session.proofs.line.Line.give_all.Given as goal

abbrev pub invariant-loop : goal.invariant-loop
invariant-loop g l = CallsTo g.A.Array.does l.fn.array l.array (MovesCalling l.fn.self l.self)
