-- No tasks for each seat so far.
use Rattle.std.proofs.Common.{◌≡◌, ℕ, [], length}
use Rattle.parallel_threads.specs.Tasks.{tasks_at}
use Rattle.parallel_lines.proofs.planning.no_tasks.Given as goal

abbrev pub invariant-loop : goal.invariant-loop
invariant-loop l = record {
  many : length l.tasks.items ≡ l.counter;
  none : (i : ℕ) → tasks_at l.tasks.items i ≡ [];
}
