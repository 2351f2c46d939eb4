use Rattle.std.proofs.Common.{◌≡◌, ◌≤◌, ◌+◌, ◌++◌, length}
use Rattle.std.specs.Prelude.{vec_len, vec_capacity}
use Rattle.device_commands.proofs.stopping.free_all.Given as goal

abbrev pub invariant-loop : goal.invariant-loop
invariant-loop l =
    (l.stacks.items ++ l.stopped.shown ≡ l.fn.stacks.items ++ l.fn.stopped.shown)
    × (length l.stopped.shown + l.counter ≤ l.count)
    × (vec_len l.stacks + length l.stopped.shown ≤ vec_capacity l.stacks)
