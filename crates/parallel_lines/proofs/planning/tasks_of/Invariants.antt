-- The tasks of the first lines are there.
use Rattle.std.proofs.Common.{◌≡◌, length}
use Rattle.std.specs.Vec.Iter.{into_iter_items, into_iter_len}
use Rattle.command.specs.Blocks.{AreSeats}
use Rattle.device_list.specs.Tables.{table_of}
use Rattle.parallel_threads.specs.Tasks.{tasks_at}
use Rattle.parallel_lines.specs.Asking.{IsTask}
use Rattle.parallel_lines.proofs.Asked.{AreSoFar}
use Rattle.parallel_lines.proofs.planning.tasks_of.Given as goal

abbrev pub invariant-loop-line : goal.invariant-loop-line
invariant-loop-line l = record {
  len : into_iter_len l.line-iterator ≡ length (into_iter_items l.line-iterator);
  many : length l.tasks.items ≡ 8;
  seats : AreSeats (into_iter_items l.line-iterator);
  asked : AreSoFar (λ line task. IsTask l.used (table_of l.held) line.work task) l.fn.lines.items (into_iter_items l.line-iterator) (tasks_at l.tasks.items);
}
