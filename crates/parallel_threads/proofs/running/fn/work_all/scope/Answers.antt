-- What the thread takes may cross.
use denote.Exit.{no}
use denote.Param.{param}
use denote.Param.Send.{IsSend, IsSync, arg_send, param_send, shr_send}
use Rattle.volume_threads.specs.contracts.rig.Rig as Rig
use Rattle.volume_threads.specs.contracts.worker.Worker as Worker
use Rattle.volume_threads.proofs.Crossing.{rig_sync, worker_send}
use Rattle.parallel_threads.proofs.Crossing.{three_send}
use Rattle.parallel_threads.proofs.running.fn.work_all.scope.Lts as lts
use Rattle.parallel_threads.proofs.running.fn.work_all.scope.Goals as goal

pub spawn-requires-send-F : goal.spawn-requires-send-F
spawn-requires-send-F g c κs within =
    let B = param 0 g.row.B in let G = param 1 g.row.G in let J = param 2 g.row.J in
    let bounds = c.requires.crosses in
    let sync_r : IsSync (param 3 g.row.R) = bounds.5 in
    let rig : IsSync (Rig.the_row B G J g.B.Block g.J.Room) = rig_sync B G J g.B.Block g.J.Room bounds.0 bounds.1 bounds.2 bounds.3 bounds.4 in
    let worker : IsSend (Worker.the_row J g.J.Room) = worker_send J g.J.Room bounds.3 in
    let closure : IsSend (lts.arg-2-1 g.row.B g.row.G g.row.J g.row.R g.B.laws g.G.laws g.J.laws g.R.laws g.B.Layered g.B.Layered-dict g.B.Block g.B.Block-dict g.G.Gate g.G.Gate-dict g.J.Plan g.J.Plan-dict g.J.Room g.J.Room-dict g.R.Threads g.R.Threads-dict g.R.Wait g.R.Wait-dict g.G.Destruct-dict κs) =
    arg_send _ no _ (three_send _ _ _ _ (shr_send _ _ _ sync_r) (shr_send _ _ _ rig) worker) in
    param_send 1 _ closure
