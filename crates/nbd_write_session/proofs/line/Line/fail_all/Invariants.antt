use Rattle.nbd_write_session.specs.Moved.{MovesEnded}
use Rattle.nbd_write_session.proofs.line.Line.fail_all.Given as goal

abbrev pub invariant-loop : goal.invariant-loop
invariant-loop l = MovesEnded l.fn.self l.self
