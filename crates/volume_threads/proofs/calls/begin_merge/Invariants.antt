-- The merge did not begin yet.
use Rattle.volume_threads.specs.Sittings.{IsSameSitting}
use Rattle.volume_threads.proofs.calls.begin_merge.Given as goal

abbrev pub invariant-loop : goal.invariant-loop
invariant-loop g l = IsSameSitting l.fn.sitting l.sitting
