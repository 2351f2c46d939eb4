-- The first seats gave their tasks back.
use Rattle.std.proofs.Common.{◌≡◌, ◌+◌, ◌<◌, ◌≤◌, ℕ, length, slice_index_or, vec_capacity}
use Rattle.std.specs.List.{All}
use Rattle.volume_threads.specs.Rigs.{SeatShape}
use Rattle.parallel_threads.specs.Tasks.{IsEnded, IsNew, denied_of, pieces_at, tasks_at}
use Rattle.parallel_threads.proofs.Places.{HaveGiven}
use Rattle.parallel_threads.proofs.giving.end_all.Given as goal

abbrev pub invariant-loop-i : goal.invariant-loop-i
invariant-loop-i g l = record {
  many : length l.tasks.items ≡ length l.fn.tasks.items;
  count : length l.seats.items ≡ l.i;
  rest : length l.runs.items + l.i ≡ 8;
  room : vec_capacity l.seats ≡ vec_capacity l.fn.seats;
  ended : HaveGiven (λ i list seat. IsEnded (denied_of g.J.Room.start g.J.Room.fixed) (pieces_at g.J.Room.fixed) (g.J.Plan.tasks (i + 1)) list (i + 1) seat) (length l.fn.tasks.items) l.i l.tasks.items l.seats.items;
  left : All (λ run. run.done ≡ 0) l.fn.runs.items → All (λ run. run.done ≡ 0) l.runs.items;
  numbers : (j : ℕ) (d : SeatShape) → j < l.i → (slice_index_or l.seats.items j d).number ≡ j + 1;
  unbegun : All (λ run. run.done ≡ 0) l.fn.runs.items → (j : ℕ) (d : SeatShape) → j < l.i → IsNew (slice_index_or l.seats.items j d);
  kept : All (λ run. run.done ≡ 0) l.fn.runs.items → HaveGiven (λ i list seat. list ≡ g.J.Plan.tasks (i + 1)) (length l.fn.tasks.items) l.i l.tasks.items l.seats.items;
  others : (k : ℕ) → l.i ≤ k → tasks_at l.tasks.items k ≡ tasks_at l.fn.tasks.items k;
}
