use Rattle.std.proofs.Common.{◌≡◌, ◌++◌, map, take, drop}
use Rattle.command_semantics.specs.Messages.{stack_ticked}
use Rattle.device_commands.proofs.messages.tick_stacks.Given as goal

abbrev pub invariant-loop-stack : goal.invariant-loop-stack
invariant-loop-stack l = l.stacks ≡ map (stack_ticked l.seconds) (take l.stack-index l.fn.stacks) ++ drop l.stack-index l.fn.stacks
