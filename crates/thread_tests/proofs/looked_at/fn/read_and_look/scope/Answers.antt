-- What the thread takes may cross.
use mir.Syntax.{named}
use denote.Exit.{no}
use denote.Param.{param}
use denote.Param.Send.{IsSend, IsSync, arg_send, mut_send, param_send, sendable, shr_send}
use Rattle.volume_threads.specs.contracts.rig.Rig as Rig
use Rattle.volume_threads.specs.contracts.seat.Seat as Seat
use Rattle.thread_tests.specs.contracts.open_gate.OpenGate as OpenGate
use Rattle.thread_tests.proofs.Crossing.{rig_sync, seat_send, three_send}
use Rattle.thread_tests.proofs.looked_at.fn.read_and_look.scope.Lts as lts
use Rattle.thread_tests.proofs.looked_at.fn.read_and_look.scope.Goals as goal

pub spawn-requires-send-F : goal.spawn-requires-send-F
spawn-requires-send-F g c κs within =
    let B = param 0 g.row.B in let J = param 1 g.row.J in
    let bounds = c.requires.crosses in
    let sync_r : IsSync (param 2 g.row.R) = bounds.4 in
    let gate_sync : IsSync OpenGate.the_row = search sendable in
    let rig : IsSync (Rig.the_row B OpenGate.the_row J g.B.Block g.J.Room) = rig_sync B OpenGate.the_row J g.B.Block g.J.Room bounds.0 bounds.1 gate_sync bounds.2 bounds.3 in
    let seat : IsSend (Seat.the_row J g.J.Room) = seat_send J g.J.Room bounds.2 in
    let closure : IsSend (lts.arg-3-1 g.row.B g.row.J g.row.R g.B.laws g.J.laws g.R.laws g.B.Layered g.B.Layered-dict g.B.Block g.B.Block-dict g.J.Room g.J.Room-dict g.R.Threads g.R.Threads-dict g.R.Wait g.R.Wait-dict κs) =
    arg_send _ no _ (three_send _ _ _ _ (shr_send (named 5) _ _ sync_r) (shr_send (named 6) _ _ rig) (mut_send (named 7) _ _ seat)) in
    param_send 1 _ closure
