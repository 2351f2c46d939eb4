-- What is planned for the lines of a block. This project's own.
use Rattle.std.specs.Global.{Vec}
use Rattle.std.specs.Prelude.{◌≡◌, ◌<◌, [], length, vec_capacity, vec_len}
use Rattle.command.specs.declared.seat_line.SeatLine.{SeatLine}
use Rattle.parallel_threads.specs.Tasks.{tasks_at}
use Rattle.device_list.specs.Tables.{table_of}
use Rattle.device_list.specs.declared.held.Devices.{Devices}
use Rattle.parallel_lines.specs.Answering.{AreAsked}
use Rattle.parallel_lines.specs.Running.{used_in}
use Rattle.parallel_lines.specs.declared.planning.BlockPlan.{BlockPlan}

-- The volumes that they use are marked, each of eight seats has the tasks that its lines ask for, and there is room for a reply to
-- each line and one more.
pub record IsPlanned (lines : Vec SeatLine) (held : Devices) (plan : BlockPlan) : Type 0 where
  pub used : plan.used.items ≡ used_in lines.items (table_of held)
  pub eight : length plan.tasks.items ≡ 8
  pub asked : AreAsked plan.used.items (table_of held) lines.items (tasks_at plan.tasks.items)
  pub none : plan.replies.items ≡ []
  pub room : vec_len lines < vec_capacity plan.replies
