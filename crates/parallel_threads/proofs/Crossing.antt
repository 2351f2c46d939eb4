-- A seat with its tasks may go to another thread, and the hold of a block's gate may be shared.
use mathlib.Core.List.{[], ◌∷◌}
use mir.Syntax.{Sym}
use denote.RattleType.{RattleType}
use denote.Param.Send.{IsSend, IsSync, sendable, recorded_send, struct_send}
use denote.Struct.Declared.{shape}
use denote.Struct.Tuple.{TupleAt, field_at, type_at}
use Rattle.std.proofs.Crossing.{crosses, Vec-send}
use Rattle.std.proofs.alloc.Global.TheSendSync as Heap
use Rattle.command_replies.specs.contracts.seated.SeatAnswer as Answered
use Rattle.locked_volume.specs.declared.room.Room as Room
use Rattle.volume_threads.proofs.Crossing.{seat_send}
use Rattle.parallel_threads.specs.declared.plan.Plan as Plan
use Rattle.parallel_threads.specs.contracts.hold.Hold as Hold
use Rattle.parallel_threads.specs.contracts.seat_run.SeatRun as SeatRun
use Rattle.parallel_threads.specs.contracts.task.Job as Job
use Rattle.parallel_threads.specs.contracts.task.Task as Task

answered_send : IsSend Answered.the_row
answered_send = search (sendable, crosses) fits 50000 depth 40

job_send : IsSend Job.the_row
job_send = search (sendable, crosses) fits 50000 depth 40

task_send : IsSend Task.the_row
task_send = search (sendable, crosses, job_send, answered_send) fits 50000 depth 40

pub run_send : (Q : RattleType) (p : Plan.Ghosts Q.Denot) (j : Room.Ghosts Q.Denot) → IsSend Q → IsSend (SeatRun.the_row Q p j)
run_send Q p j s =
    recorded_send (SeatRun.the_field Q p j).row _ _ (SeatRun.the_type Q p j).to_one
    (struct_send (shape (SeatRun.the_type Q p j)) (search (sendable, Heap.the_send), (seat_send Q j s, (Vec-send _ task_send, (search sendable, tt)))))

pub hold_sync : IsSync Hold.the_row
hold_sync = search (sendable, crosses) fits 50000 depth 40

-- What a closure captures.
pub five_send : (name : Sym) (S T U V W : RattleType) → IsSend S → IsSend T → IsSend U → IsSend V → IsSend W → IsSend (TupleAt name (S ∷ T ∷ U ∷ V ∷ W ∷ []))
five_send name S T U V W s t u v w =
    let all = S ∷ T ∷ U ∷ V ∷ W ∷ [] in
    recorded_send (field_at name all).row _ _ (type_at name all).to_one (struct_send (shape (type_at name all)) (s, (t, (u, (v, (w, tt))))))

pub three_send : (name : Sym) (S T U : RattleType) → IsSend S → IsSend T → IsSend U → IsSend (TupleAt name (S ∷ T ∷ U ∷ []))
three_send name S T U s t u =
    let all = S ∷ T ∷ U ∷ [] in
    recorded_send (field_at name all).row _ _ (type_at name all).to_one (struct_send (shape (type_at name all)) (s, (t, (u, tt))))
