use Rattle.command_semantics.proofs.AtPlace.{map_step}
use Rattle.command_semantics.specs.Messages.{stack_ticked}
use Rattle.device_commands.proofs.messages.tick_stacks.Goals as goal

pub loop-stack-preserved : goal.loop-stack-preserved
loop-stack-preserved c = map_step (stack_ticked c.args.seconds) c.args.stacks.now c.loop-stack.stacks c.loop-stack.stack-index c.stack-item.result c.tick.new.self c.loop-stack-test.true c.loop-stack.invariant c.tick.ensures
