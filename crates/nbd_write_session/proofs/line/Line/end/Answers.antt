use Rattle.std.proofs.Common.{◌∷◌}
use Rattle.nbd_backend.specs.Calls.{Step}
use Rattle.nbd_backend.specs.declared.array.Stepped.TheVariants.{Ended}
use Rattle.nbd_write_session.proofs.Moved.{moves_then}
use Rattle.nbd_write_session.proofs.line.Line.end.Goals as goal

pub returns-clause-moves : goal.returns-clause-moves
returns-clause-moves g c = λ calls known.
    moves_then _ _ _ _ _ _ _ _ _ _ _ _ (moves_then _ _ _ _ _ _ _ _ _ _ _ _ (c.in_ok-answer.ensures known (g.W.Write.contents c.args.writer.now) (Step Ended ∷ calls)) (c.in_ok-fail_all.ensures.moves known (g.W.Write.contents c.args.writer.now) calls)) (c.in_ok-say.ensures.moves (Step Ended ∷ calls) known)
