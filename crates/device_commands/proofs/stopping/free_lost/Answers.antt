use Rattle.std.proofs.Common.{arith}
use Rattle.device_commands.proofs.Loses.{all_gone, going, next_gone, none_left, none_uncounted}
use Rattle.device_commands.proofs.Stops.{one_less}
use Rattle.device_commands.proofs.stopping.free_lost.Goals as goal

pub loop-init : goal.loop-init
loop-init c = let few = c.requires.count in let room = c.requires.room in (going c.args.stopped.now c.args.stacks.now.items c.requires.many, omega (arith, few), omega (arith, few, room))

pub push_reserved-requires : goal.push_reserved-requires
push_reserved-requires c =
    let taken = c.in-Some.ensures.some in
    let less = one_less c.loop.stopped.shown c.take_lost.new.self.shown taken.was taken.shown in
    let room = c.loop.invariant.2 in
    omega (arith, less, room)

pub loop-preserved : goal.loop-preserved
loop-preserved c =
    let taken = c.in-Some.ensures.some in
    let less = one_less c.loop.stopped.shown c.take_lost.new.self.shown taken.was taken.shown in
    let few = c.loop.invariant.1 in
    let room = c.loop.invariant.2 in
    let len = c.push_reserved.ensures.len in
    let capacity = c.push_reserved.ensures.capacity in (
      next_gone _ c.loop.stopped c.take_lost.new.self _ c.loop.stacks.items c.push_reserved.new.self.items c.in-Some.lost c.loop.invariant.0 taken c.push_reserved.ensures.items,
      omega (arith, less, few),
      omega (arith, less, room, len, capacity),
    )

pub returns-in_default : goal.returns-in_default
returns-in_default c = all_gone _ c.loop.stopped _ c.loop.stacks.items c.loop.invariant.0 (none_left c.loop.stopped c.in_default.ensures.none.0)

pub returns-after-loop : goal.returns-after-loop
returns-after-loop c =
    all_gone _ c.loop.stopped _ c.loop.stacks.items c.loop.invariant.0 (none_uncounted c.loop.stopped.shown c.loop.counter c.args.count c.loop.invariant.1 c.loop-test.false)
