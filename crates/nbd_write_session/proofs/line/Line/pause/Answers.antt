use Rattle.nbd_write_session.proofs.Calling.{said_before}
use Rattle.nbd_write_session.proofs.line.Line.pause.Goals as goal

pub returns-clause-moves : goal.returns-clause-moves
returns-clause-moves g c = said_before g.A.Array.does _ _ _ _ _ _ _ c.in_ok-tell.ensures.moves c.in_ok-give_all.ensures.moves
