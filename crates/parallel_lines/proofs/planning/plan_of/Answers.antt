-- There is a mark for each volume.
use Rattle.std.proofs.Common.{length, ap, ◌∙◌}
use Rattle.device_list.specs.Tables.{table_of}
use Rattle.parallel_lines.proofs.Runs.{marks_many}
use Rattle.parallel_lines.proofs.planning.plan_of.Goals as goal

pub tasks_of-requires-clause-used : goal.tasks_of-requires-clause-used
tasks_of-requires-clause-used c = ap length c.deref-2.ensures.value ∙ marks_many c.deref.result.now (table_of c.args.held.now) c.in_ok-used.used.items c.in_ok-used.ensures
