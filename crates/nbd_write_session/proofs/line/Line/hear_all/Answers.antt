use Rattle.std.proofs.Common.{refl}
use Rattle.nbd_write_session.proofs.Moved.{hearing_then, hearing_unsaid, moves_heard, unsaid_none}
use Rattle.nbd_write_session.proofs.line.Line.hear_all.Goals as goal

pub loop-init : goal.loop-init
loop-init g c = λ contents calls. unsaid_none _ _ contents calls

pub returns-in-Ok-false-clause-moves : goal.returns-in-Ok-false-clause-moves
returns-in-Ok-false-clause-moves g c = hearing_then _ _ _ _ _ _ c.loop.invariant (moves_heard _ _ _ _ refl refl refl refl refl c.in-Ok-false.ensures.0)

pub returns-then-is_enough-clause-moves : goal.returns-then-is_enough-clause-moves
returns-then-is_enough-clause-moves g c =
    hearing_unsaid _ _ _ _ _ (hearing_then _ _ _ _ _ _ c.loop.invariant (moves_heard _ _ _ _ refl refl refl refl refl c.in-Ok-true.ensures.0)) c.in_ok-took.ensures.moves

pub loop-preserved : goal.loop-preserved
loop-preserved g c =
    hearing_unsaid _ _ _ _ _ (hearing_then _ _ _ _ _ _ c.loop.invariant (moves_heard _ _ _ _ refl refl refl refl refl c.in-Ok-true.ensures.0)) c.in_ok-took.ensures.moves
