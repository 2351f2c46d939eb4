use Rattle.thread_channels.proofs.Worked.{worked_more, worked_none}
use Rattle.thread_channels.proofs.worker.work.Goals as goal

pub loop-init : goal.loop-init
loop-init g c = worked_none g.C.Copies.does _ _

pub loop-preserved : goal.loop-preserved
loop-preserved g c = worked_more g.C.Copies.does _ _ _ _ _ _ c.loop.invariant c.in_default.ensures
