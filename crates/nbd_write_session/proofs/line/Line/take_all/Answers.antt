use Rattle.nbd_write_session.proofs.Moved.{unsaid_none, unsaid_then}
use Rattle.nbd_write_session.proofs.line.Line.take_all.Goals as goal

pub loop-init : goal.loop-init
loop-init c = unsaid_none _

pub loop-preserved : goal.loop-preserved
loop-preserved c = unsaid_then _ _ _ c.loop.invariant c.in_ok-take.ensures.moves

pub returns-in-None-clause-moves : goal.returns-in-None-clause-moves
returns-in-None-clause-moves c = unsaid_then _ _ _ c.loop.invariant c.in_ok-take.ensures.moves

pub returns-in-Full-clause-moves : goal.returns-in-Full-clause-moves
returns-in-Full-clause-moves c = unsaid_then _ _ _ c.loop.invariant c.in_ok-take.ensures.moves

pub returns-in-Over-clause-moves : goal.returns-in-Over-clause-moves
returns-in-Over-clause-moves c = unsaid_then _ _ _ c.loop.invariant c.in_ok-take.ensures.moves
