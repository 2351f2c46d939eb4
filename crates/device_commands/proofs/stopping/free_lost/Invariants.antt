use Rattle.std.proofs.Common.{◌≡◌, ◌≤◌, ◌+◌, ◌++◌, length, map, take}
use Rattle.std.specs.Prelude.{vec_len, vec_capacity}
use Rattle.layers.specs.Stack.{stack_durable}
use Rattle.command_semantics.specs.Losing.{lasting}
use Rattle.device_commands.proofs.Loses.{IsGoing}
use Rattle.device_commands.proofs.stopping.free_lost.Given as goal

abbrev pub invariant-loop : goal.invariant-loop
invariant-loop l =
    IsGoing l.fn.stopped l.stopped l.fn.stacks.items l.stacks.items
    × (length l.stopped.shown + l.counter ≤ l.count)
    × (vec_len l.stacks + length l.stopped.shown ≤ vec_capacity l.stacks)
