-- The volumes of the first lines are marked.
use Rattle.std.proofs.Common.{◌≡◌, ℕ, ◌<◌, false, get_or, length, take, vec_len}
use Rattle.device_list.specs.Tables.{table_of}
use Rattle.parallel_lines.specs.Running.{is_used}
use Rattle.parallel_lines.proofs.planning.used_in.Given as goal

abbrev pub invariant-loop-line : goal.invariant-loop-line
invariant-loop-line l = record {
  many : vec_len l.used ≡ length (table_of l.held).volumes;
  marked : (w : ℕ) → w < length (table_of l.held).volumes → get_or l.used.items w false ≡ is_used w (take l.line-index l.lines) (table_of l.held);
}
