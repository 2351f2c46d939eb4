use Rattle.std.proofs.Common.{refl, arith}
use Rattle.exception_arena.specs.Links.{pairs_on, IsSmall}
use Rattle.exception_arena.specs.Pending.{begun_under}
use Rattle.exception_arena.proofs.Numbers.{pending_less, under_all}
use Rattle.exception_arena.proofs.Steps.{committed_under}
use Rattle.exception_arena.proofs.arena.ArenaExceptions.finish.Goals as goal

pub push-requires-clause-old : goal.push-requires-clause-old
push-requires-clause-old c =
    let some = rw (← c.self.view_is) at c.requires in
    (under_all IsSmall c.args.id c.self.inside.pending.items c.take_out-begun.result.pair c.self.invariant.begun.small some c.take_out-begun.ensures.taken).old

pub push-requires-clause-new : goal.push-requires-clause-new
push-requires-clause-new c =
    let some = rw (← c.self.view_is) at c.requires in
    (under_all IsSmall c.args.id c.self.inside.pending.items c.take_out-begun.result.pair c.self.invariant.begun.small some c.take_out-begun.ensures.taken).new

pub push-requires-clause-room : goal.push-requires-clause-room
push-requires-clause-room c =
    let some = rw (← c.self.view_is) at c.requires in
    let (begun, less) = pending_less c.self.inside.pending.items _ c.args.id c.self.inside.next c.self.inside.reserved _ _ some c.take_out-begun.ensures.rest c.take_out-begun.ensures.capacity c.self.invariant.begun in
    let room = c.self.invariant.room in
    record { room = omega (arith, room.room); buckets = omega (arith, room.buckets); places = omega (arith, room.places) }

pub invariant_of-self : goal.invariant_of-self
invariant_of-self c =
    let some = rw (← c.self.view_is) at c.requires in
    let (begun, less) = pending_less c.self.inside.pending.items _ c.args.id c.self.inside.next c.self.inside.reserved _ _ some c.take_out-begun.ensures.rest c.take_out-begun.ensures.capacity c.self.invariant.begun in
    let room = c.self.invariant.room in
    record {
      hung = c.push.ensures.hung;
      room = record {
        room = omega (arith, room.room, c.push.ensures.len, c.push.ensures.capacity);
        buckets = omega (arith, room.buckets, c.push.ensures.len, c.push.ensures.buckets);
        places = omega (arith, room.places, c.push.ensures.len);
      };
      begun = begun;
    }

pub returns-clause-committed : goal.returns-clause-committed
returns-clause-committed c = rw (← c.self.view_is) (committed_under (begun_under c.args.id c.self.inside.pending.items) (pairs_on c.self.inside.nodes.items) _ c.take_out-begun.result c.take_out-begun.result refl c.take_out-begun.ensures.taken c.push.ensures.pairs)
