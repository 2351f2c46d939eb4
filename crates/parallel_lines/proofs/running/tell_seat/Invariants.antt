-- The replies of the first tasks are told.
use Rattle.std.proofs.Common.{◌≡◌, ◌+◌, ◌≤◌, ◌++◌, length, map, vec_capacity, vec_len}
use Rattle.std.specs.Vec.Iter.{into_iter_items, into_iter_len}
use Rattle.parallel_lines.specs.Answering.{reply_of}
use Rattle.parallel_lines.proofs.running.tell_seat.Given as goal

abbrev pub invariant-loop-task : goal.invariant-loop-task
invariant-loop-task l = record {
  told : l.replies.items ++ map (reply_of l.seat) (into_iter_items l.task-iterator) ≡ l.fn.replies.items ++ map (reply_of l.seat) l.fn.tasks.items;
  room : vec_len l.replies + into_iter_len l.task-iterator ≤ vec_capacity l.replies;
  len : into_iter_len l.task-iterator ≡ length (into_iter_items l.task-iterator);
  same : vec_capacity l.replies ≡ vec_capacity l.fn.replies;
}
