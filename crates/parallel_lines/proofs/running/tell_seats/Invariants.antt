-- All replies of the first seats are told, and the others have their tasks.
use Rattle.std.proofs.Common.{◌≡◌, ◌+◌, ◌-◌, ◌≤◌, ℕ, length, vec_capacity}
use Rattle.parallel_threads.specs.Tasks.{tasks_at}
use Rattle.parallel_lines.proofs.Tells.{first_replies}
use Rattle.parallel_lines.proofs.running.tell_seats.Given as goal

abbrev pub invariant-loop-seat : goal.invariant-loop-seat
invariant-loop-seat l = record {
  many : length l.tasks.items ≡ 8;
  left : (i : ℕ) → l.seat ≤ i + 1 → tasks_at l.tasks.items i ≡ tasks_at l.fn.tasks.items i;
  told : l.replies.items ≡ first_replies (l.seat - 1) (tasks_at l.fn.tasks.items);
  room : vec_capacity l.replies ≡ vec_capacity l.fn.replies;
}
