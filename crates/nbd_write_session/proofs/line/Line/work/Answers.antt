use Rattle.nbd_write_session.proofs.Called.{reaches_at, reaches_by, reaches_then}
use Rattle.nbd_write_session.proofs.Calling.{said_at_first, saying}
use Rattle.nbd_write_session.proofs.line.Line.work.Goals as goal

pub loop-init : goal.loop-init
loop-init g c = record { moves = said_at_first g.A.Array.does _ _ _ _ _ c.in_ok-say.ensures.moves; out = c.in_ok-say.ensures.out }

pub loop-preserved : goal.loop-preserved
loop-preserved g c = record { moves = saying g.A.Array.does _ _ _ _ _ _ _ _ _ c.loop.invariant.moves c.in_ok-settle.ensures.moves; out = c.in_ok-settle.ensures.out }

pub returns-in-Stopped-clause-moves : goal.returns-in-Stopped-clause-moves
returns-in-Stopped-clause-moves g c = saying g.A.Array.does _ _ _ _ _ _ _ _ _ c.loop.invariant.moves c.in_ok-settle.ensures.moves

pub returns-in_err-settle-clause-called : goal.returns-in_err-settle-clause-called
returns-in_err-settle-clause-called g c = reaches_at g.A.Array.does _ _ _ (reaches_then g.A.Array.does _ _ _ (reaches_by g.A.Array.does _ _ _ c.loop.invariant.moves) c.in_err-settle.ensures.called)

pub returns-then-len-left-clause-called : goal.returns-then-len-left-clause-called
returns-then-len-left-clause-called g c = reaches_then g.A.Array.does _ _ _ (reaches_by g.A.Array.does _ _ _ c.loop.invariant.moves) (reaches_by g.A.Array.does _ _ _ c.in_ok-settle.ensures.moves)
