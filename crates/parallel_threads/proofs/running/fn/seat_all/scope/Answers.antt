-- What the thread takes may cross.
use mir.Syntax.{named}
use denote.Exit.{no}
use denote.Param.{param}
use denote.Param.Send.{IsSend, IsSync, arg_send, mut_send, param_send, plain_send, shr_send}
use denote.Struct.Field.{u64-field}
use Rattle.volume_threads.specs.contracts.rig.Rig as Rig
use Rattle.parallel_threads.specs.contracts.seat_run.SeatRun as SeatRun
use Rattle.volume_threads.proofs.Crossing.{rig_sync}
use Rattle.parallel_threads.proofs.Crossing.{five_send, hold_sync, run_send}
use Rattle.parallel_threads.proofs.running.fn.seat_all.scope.Lts as lts
use Rattle.parallel_threads.proofs.running.fn.seat_all.scope.Goals as goal

pub spawn-requires-send-F : goal.spawn-requires-send-F
spawn-requires-send-F g c κs within =
    let B = param 0 g.row.B in let G = param 1 g.row.G in let J = param 2 g.row.J in
    let bounds = c.requires.crosses in
    let sync_r : IsSync (param 3 g.row.R) = bounds.5 in
    let rig : IsSync (Rig.the_row B G J g.B.Block g.J.Room) = rig_sync B G J g.B.Block g.J.Room bounds.0 bounds.1 bounds.2 bounds.3 bounds.4 in
    let run : IsSend (SeatRun.the_row J g.J.Plan g.J.Room) = run_send J g.J.Plan g.J.Room bounds.3 in
    let count : IsSend (u64-field).row = search plain_send in
    let closure : IsSend (lts.arg-1-1 g.row.B g.row.G g.row.J g.row.R g.B.laws g.G.laws g.J.laws g.R.laws g.B.Layered g.B.Layered-dict g.B.Block g.B.Block-dict g.G.Gate g.G.Gate-dict g.J.Plan g.J.Plan-dict g.J.Room g.J.Room-dict g.R.Threads g.R.Threads-dict g.R.Wait g.R.Wait-dict g.G.Destruct-dict κs) =
    arg_send _ no _ (five_send _ _ _ _ _ _ (mut_send (named 5) _ _ run) (shr_send (named 6) _ _ sync_r) (shr_send (named 7) _ _ rig) count (shr_send (named 8) _ _ hold_sync)) in
    param_send 1 _ closure
