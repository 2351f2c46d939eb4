use Rattle.std.proofs.Common.{length, ◌-◌}
use Rattle.exception_arena.proofs.Hung.{IsOn}
use Rattle.exception_arena.proofs.chains.find.Given as goal

abbrev pub invariant-loop-step : goal.invariant-loop-step
invariant-loop-step l = IsOn l.nodes (length l.heads) l.old_chunk l.link l.found (length l.nodes - l._step)
