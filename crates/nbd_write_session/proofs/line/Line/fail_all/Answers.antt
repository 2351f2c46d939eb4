use Rattle.nbd_write_session.proofs.Moved.{ended_none, ended_then}
use Rattle.nbd_write_session.proofs.line.Line.fail_all.Goals as goal

pub loop-init : goal.loop-init
loop-init c = ended_none _

pub loop-preserved : goal.loop-preserved
loop-preserved c = ended_then _ _ _ c.loop.invariant c.in_ok-fail_one.ensures
