use Rattle.std.proofs.Common.{rules}
use Rattle.nbd_write_session.proofs.Called.{reaches_at, reaches_by, reaches_then}
use Rattle.nbd_write_session.proofs.Calling.{saying, still_saying}
use Rattle.nbd_write_session.proofs.line.Line.go.Goals as goal

pub loop-init : goal.loop-init
loop-init g c = record { moves = still_saying g.A.Array.does _ _ _; goes = search rules }

pub loop-preserved : goal.loop-preserved
loop-preserved g c = record { moves = saying g.A.Array.does _ _ _ _ _ _ _ _ _ c.loop.invariant.moves c.in_ok-step.ensures.moves; goes = search rules }

pub returns-in-Still-clause-moves : goal.returns-in-Still-clause-moves
returns-in-Still-clause-moves g c = saying g.A.Array.does _ _ _ _ _ _ _ _ _ c.loop.invariant.moves c.in_ok-step.ensures.moves

pub returns-in-Idle-clause-moves : goal.returns-in-Idle-clause-moves
returns-in-Idle-clause-moves g c = saying g.A.Array.does _ _ _ _ _ _ _ _ _ c.loop.invariant.moves c.in_ok-step.ensures.moves

pub returns-in-Stopped-clause-moves : goal.returns-in-Stopped-clause-moves
returns-in-Stopped-clause-moves g c = saying g.A.Array.does _ _ _ _ _ _ _ _ _ c.loop.invariant.moves c.in_ok-step.ensures.moves

pub returns-in_err-step-clause-called : goal.returns-in_err-step-clause-called
returns-in_err-step-clause-called g c = reaches_at g.A.Array.does _ _ _ (reaches_then g.A.Array.does _ _ _ (reaches_by g.A.Array.does _ _ _ c.loop.invariant.moves) c.in_err-step.ensures.called)
