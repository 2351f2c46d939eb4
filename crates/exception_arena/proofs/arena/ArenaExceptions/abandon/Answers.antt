use Rattle.std.proofs.Common.{arith}
use Rattle.exception_arena.proofs.Numbers.{pending_less}
use Rattle.exception_arena.proofs.arena.ArenaExceptions.abandon.Goals as goal

pub invariant_of-self : goal.invariant_of-self
invariant_of-self c =
    let before = c.self.invariant in
    let some = rw (← c.self.view_is) at c.requires in
    let (begun, less) = pending_less c.self.inside.pending.items _ c.args.id c.self.inside.next c.self.inside.reserved _ _ some c.take_out.ensures.rest c.take_out.ensures.capacity before.begun in
    let room = before.room in
    record { hung = before.hung; room = record { room = omega (arith, room.room); buckets = omega (arith, room.buckets); places = omega (arith, room.places) }; begun = begun }
