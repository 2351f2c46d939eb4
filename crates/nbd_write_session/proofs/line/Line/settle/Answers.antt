use Rattle.nbd_write_session.proofs.Called.{reaches_at, reaches_by, reaches_then}
use Rattle.nbd_write_session.proofs.Calling.{calling_saying, said_behind, saying}
use Rattle.nbd_write_session.proofs.line.Line.settle.Goals as goal

pub returns-in-Stopped-clause-moves : goal.returns-in-Stopped-clause-moves
returns-in-Stopped-clause-moves g c = saying g.A.Array.does _ _ _ _ _ _ _ _ _ (calling_saying g.A.Array.does _ _ _ _ _ c.in_ok-give_all.ensures.moves) c.in_ok-go.ensures.moves

pub returns-in_ok-tell-in-Still-clause-moves : goal.returns-in_ok-tell-in-Still-clause-moves
returns-in_ok-tell-in-Still-clause-moves g c =
    said_behind g.A.Array.does _ _ _ _ _ _ _ _ (saying g.A.Array.does _ _ _ _ _ _ _ _ _ (calling_saying g.A.Array.does _ _ _ _ _ c.in_ok-give_all.ensures.moves) c.in_ok-go.ensures.moves) c.in_ok-tell-in-Still.ensures.moves

pub returns-in_ok-tell-in-Idle-clause-moves : goal.returns-in_ok-tell-in-Idle-clause-moves
returns-in_ok-tell-in-Idle-clause-moves g c =
    said_behind g.A.Array.does _ _ _ _ _ _ _ _ (saying g.A.Array.does _ _ _ _ _ _ _ _ _ (calling_saying g.A.Array.does _ _ _ _ _ c.in_ok-give_all.ensures.moves) c.in_ok-go.ensures.moves) c.in_ok-tell-in-Idle.ensures.moves

pub returns-in_ok-tell-in-On-clause-moves : goal.returns-in_ok-tell-in-On-clause-moves
returns-in_ok-tell-in-On-clause-moves g c =
    said_behind g.A.Array.does _ _ _ _ _ _ _ _ (saying g.A.Array.does _ _ _ _ _ _ _ _ _ (calling_saying g.A.Array.does _ _ _ _ _ c.in_ok-give_all.ensures.moves) c.in_ok-go.ensures.moves) c.in_ok-tell-in-On.ensures.moves

pub returns-in_err-go-clause-called : goal.returns-in_err-go-clause-called
returns-in_err-go-clause-called g c = reaches_at g.A.Array.does _ _ _ (reaches_then g.A.Array.does _ _ _ (reaches_by g.A.Array.does _ _ _ c.in_ok-give_all.ensures.moves) c.in_err-go.ensures.called)

pub returns-in_err-tell-in-Still-clause-called : goal.returns-in_err-tell-in-Still-clause-called
returns-in_err-tell-in-Still-clause-called g c = reaches_at g.A.Array.does _ _ _ (reaches_then g.A.Array.does _ _ _ (reaches_by g.A.Array.does _ _ _ c.in_ok-give_all.ensures.moves) (reaches_by g.A.Array.does _ _ _ c.in_ok-go.ensures.moves))

pub returns-in_err-tell-in-Idle-clause-called : goal.returns-in_err-tell-in-Idle-clause-called
returns-in_err-tell-in-Idle-clause-called g c = reaches_at g.A.Array.does _ _ _ (reaches_then g.A.Array.does _ _ _ (reaches_by g.A.Array.does _ _ _ c.in_ok-give_all.ensures.moves) (reaches_by g.A.Array.does _ _ _ c.in_ok-go.ensures.moves))

pub returns-in_err-tell-in-On-clause-called : goal.returns-in_err-tell-in-On-clause-called
returns-in_err-tell-in-On-clause-called g c = reaches_at g.A.Array.does _ _ _ (reaches_then g.A.Array.does _ _ _ (reaches_by g.A.Array.does _ _ _ c.in_ok-give_all.ensures.moves) (reaches_by g.A.Array.does _ _ _ c.in_ok-go.ensures.moves))
