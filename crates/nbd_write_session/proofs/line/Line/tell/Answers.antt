use Rattle.nbd_write_session.proofs.Moved.{moves_then}
use Rattle.nbd_write_session.proofs.line.Line.tell.Goals as goal

pub returns-clause-moves : goal.returns-clause-moves
returns-clause-moves g c = λ calls known. moves_then _ _ _ _ _ _ _ _ _ _ _ _ (c.in_ok-answer.ensures known (g.W.Write.contents c.args.writer.now) calls) (c.in_ok-say.ensures.moves calls known)
