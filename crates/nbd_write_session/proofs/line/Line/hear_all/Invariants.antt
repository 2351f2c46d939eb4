use Rattle.nbd_write_session.specs.Moved.{MovesHearing}
use Rattle.nbd_write_session.proofs.line.Line.hear_all.Given as goal

abbrev pub invariant-loop : goal.invariant-loop
invariant-loop g l = MovesHearing l.fn.self l.self (g.R.Read.remaining l.fn.reader) (g.R.Read.remaining l.reader)
