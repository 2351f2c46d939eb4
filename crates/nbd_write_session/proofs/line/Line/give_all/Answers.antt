use Rattle.nbd_write_session.proofs.Called.{reaches_at, reaches_by, reaches_then}
use Rattle.nbd_write_session.proofs.Calling.{calling, still}
use Rattle.nbd_write_session.proofs.line.Line.give_all.Goals as goal

pub loop-init : goal.loop-init
loop-init g c = still g.A.Array.does _ _

pub returns-then-not-branch-clause-moves : goal.returns-then-not-branch-clause-moves
returns-then-not-branch-clause-moves g c = calling g.A.Array.does _ _ _ _ _ _ c.loop.invariant c.in_ok-give_next.ensures.moves

pub loop-preserved : goal.loop-preserved
loop-preserved g c = calling g.A.Array.does _ _ _ _ _ _ c.loop.invariant c.in_ok-give_next.ensures.moves

pub returns-in_err-give_next-clause-called : goal.returns-in_err-give_next-clause-called
returns-in_err-give_next-clause-called g c = reaches_at g.A.Array.does _ _ _ (reaches_then g.A.Array.does _ _ _ (reaches_by g.A.Array.does _ _ _ c.loop.invariant) c.in_err-give_next.ensures.called)
