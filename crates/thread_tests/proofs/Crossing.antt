-- A rig may be shared by threads, wherever its devices, its gate and its room may be.
use mathlib.Core.List.{[], ◌∷◌}
use mir.Syntax.{Sym}
use denote.RattleType.{RattleType}
use denote.Param.Send.{IsSend, IsSync, sendable, recorded_send, recorded_sync, struct_send, struct_sync, view_sync}
use denote.Struct.Declared.{shape}
use denote.Struct.Tuple.{TupleAt, field_at, type_at}
use Rattle.std.proofs.Crossing.{crosses, Vec-sync}
use Rattle.std.proofs.MapsCrossing as Maps
use Rattle.std.proofs.MapsCrossingOver as Sets
use Rattle.std.proofs.alloc.Global.TheSendSync as Heap
use Rattle.atomic_table.proofs.shared.Shared.TheSendSync as Shared
use Rattle.atomic_table.proofs.shared.Seat.TheSendSync as Seat
use Rattle.atomic_table.proofs.ruled.RuledPerch.TheSendSync as RuledPerch
use Rattle.atomic_table.proofs.ruled.Mark.TheSendSync as Mark
use Rattle.atomic_table.proofs.perch.Perch.TheSendSync as Perch
use Rattle.atomic_table.proofs.badge.Badge.TheSendSync as Badge
use Rattle.atomic_table.proofs.send_lease.SendLease.TheSendSync as Lease
use Rattle.thread_channels.specs.contracts.queue.Tickets as Tickets
use Rattle.device.specs.declared.block.Block as Block
use Rattle.audited_volume.specs.contracts.audit.Audit as Audit
use Rattle.locked_volume.specs.declared.room.Room as Room
use Rattle.volume_threads.specs.contracts.rig.Rig as Rig
use Rattle.volume_threads.specs.contracts.seat.Seat as Sat
use Rattle.volume_threads.specs.contracts.worker.Worker as Worker
use Rattle.volume_threads.specs.contracts.rig.Rig.TheInside as Inside

-- which types of std and of the kit's tables may cross
pub ruleset crossing = (sendable, crosses, Maps.crosses, Sets.crosses, Shared.the_send, Shared.the_sync, Seat.the_send, Badge.the_send, Lease.the_send, Lease.the_sync, RuledPerch.the_send, RuledPerch.the_sync, Perch.the_send, Perch.the_sync, Mark.the_send, Heap.the_send, Heap.the_sync)

-- its parts
tickets_sync : IsSync Tickets.the_row
tickets_sync = search crossing fits 50000 depth 40

audit_send : (B : RattleType) (b : Block.Ghosts B.Denot) → IsSend B → IsSend (Audit.the_row B b)
audit_send B b s = search (sendable, crosses) fits 50000 depth 60

audit_sync : (B : RattleType) (b : Block.Ghosts B.Denot) → IsSync B → IsSync (Audit.the_row B b)
audit_sync B b y = search (sendable, crosses) fits 50000 depth 60

pub rig_sync : (B G Q : RattleType) (b : Block.Ghosts B.Denot) (j : Room.Ghosts Q.Denot) → IsSend B → IsSync B → IsSync G → IsSend Q → IsSync Q → IsSync (Rig.the_row B G Q b j)
rig_sync B G Q b j send_b sync_b sync_g send_j sync_j =
    let fields : IsSync (Inside.the_row B G Q b j) =
    recorded_sync (Inside.the_field B G Q b j).row _ _ (Inside.the_type B G Q b j).to_one
    (struct_sync (shape (Inside.the_type B G Q b j)) (
      search (crossing, audit_send) fits 50000 depth 60,
      (Vec-sync _ (audit_sync B b sync_b), (search (crossing, tickets_sync) fits 50000 depth 60, (search sendable, (sync_g, tt)))),
    )) in
    view_sync (Inside.the_row B G Q b j) _ _ _ _ fields

pub worker_send : (Q : RattleType) (j : Room.Ghosts Q.Denot) → IsSend Q → IsSend (Worker.the_row Q j)
worker_send Q j s = search crossing fits 50000 depth 40

pub seat_send : (Q : RattleType) (j : Room.Ghosts Q.Denot) → IsSend Q → IsSend (Sat.the_row Q j)
seat_send Q j s = search (sendable, crosses, Seat.the_send, Badge.the_send) fits 50000 depth 40

-- What a closure captures.
pub three_send : (name : Sym) (S T U : RattleType) → IsSend S → IsSend T → IsSend U → IsSend (TupleAt name (S ∷ T ∷ U ∷ []))
three_send name S T U s t u =
    let all = S ∷ T ∷ U ∷ [] in
    recorded_send (field_at name all).row _ _ (type_at name all).to_one (struct_send (shape (type_at name all)) (s, (t, (u, tt))))
