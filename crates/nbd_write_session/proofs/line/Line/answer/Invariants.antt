use Rattle.nbd_write_session.specs.Moved.{MovesUnsaid}
use Rattle.nbd_write_session.proofs.line.Line.answer.Given as goal

abbrev pub invariant-loop : goal.invariant-loop
invariant-loop l = MovesUnsaid l.fn.self l.self
