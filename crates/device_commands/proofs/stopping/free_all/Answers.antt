use Rattle.std.proofs.Common.{refl, arith}
use Rattle.device_commands.proofs.Stops.{none_left, none_uncounted, one_freed, one_less}
use Rattle.device_commands.proofs.stopping.free_all.Goals as goal

pub loop-init : goal.loop-init
loop-init c = let few = c.requires.count in let room = c.requires.room in (refl, omega (arith, few), omega (arith, few, room))

pub push_reserved-requires : goal.push_reserved-requires
push_reserved-requires c =
    let less = one_less c.loop.stopped.shown c.take.new.self.shown c.in-Some.stack c.in-Some.ensures.some in
    let room = c.loop.invariant.2 in
    omega (arith, less, room)

pub loop-preserved : goal.loop-preserved
loop-preserved c =
    let less = one_less c.loop.stopped.shown c.take.new.self.shown c.in-Some.stack c.in-Some.ensures.some in
    let few = c.loop.invariant.1 in
    let room = c.loop.invariant.2 in
    let len = c.push_reserved.ensures.len in
    let capacity = c.push_reserved.ensures.capacity in (
      one_freed c.loop.stacks.items c.push_reserved.new.self.items c.loop.stopped.shown c.take.new.self.shown _ c.in-Some.stack c.loop.invariant.0 c.in-Some.ensures.some c.push_reserved.ensures.items,
      omega (arith, less, few),
      omega (arith, less, room, len, capacity),
    )

pub returns-in_default : goal.returns-in_default
returns-in_default c = none_left c.loop.stacks.items c.loop.stopped.shown _ c.loop.invariant.0 c.in_default.ensures.none.0

pub returns-after-loop : goal.returns-after-loop
returns-after-loop c =
    none_left c.loop.stacks.items c.loop.stopped.shown _ c.loop.invariant.0 (none_uncounted c.loop.stopped.shown c.loop.counter c.args.count c.loop.invariant.1 c.loop-test.false)
