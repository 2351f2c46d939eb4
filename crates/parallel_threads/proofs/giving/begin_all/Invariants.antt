-- The first seats have their tasks, and the others are left.
use Rattle.std.proofs.Common.{◌≡◌, ◌+◌, ◌≤◌, ℕ, length, vec_capacity}
use Rattle.std.specs.List.{All}
use Rattle.parallel_threads.specs.Tasks.{tasks_at}
use Rattle.parallel_threads.proofs.Places.{AreNewFrom}
use Rattle.parallel_threads.proofs.giving.begin_all.Given as goal

abbrev pub invariant-loop-i : goal.invariant-loop-i
invariant-loop-i g l = record {
  left : length l.seats.items + l.i ≡ 8;
  seats : AreNewFrom (l.i + 1) l.seats.items;
  many : length l.tasks.items ≡ length l.fn.tasks.items;
  others : (k : ℕ) → l.i ≤ k → tasks_at l.tasks.items k ≡ tasks_at l.fn.tasks.items k;
  count : length l.runs.items ≡ l.i;
  room : vec_capacity l.runs ≡ vec_capacity l.fn.runs;
  unbegun : All (λ run. run.done ≡ 0) l.runs.items;
}
