-- The rig is named by its audits and by what was opened for them, and the tasks are those that each seat was given.
use Rattle.std.proofs.Common.{◌-◌, length}
use Rattle.volume_threads.specs.Rigs.{boards_in, fixed_in, histories_in, start_in}
use Rattle.parallel_threads.specs.Tasks.{merges_among, tasks_at}
use Rattle.parallel_threads.proofs.running.run_seats.Given as goal

abbrev pub ghosts-run_in-J-Room : goal.ghosts-run_in-J-Room
ghosts-run_in-J-Room g a = record {
  volumes = length a.audits.items;
  history = histories_in a.opened;
  boards = boards_in a.opened;
  start = start_in a.audits.items;
  queue = a.opened.queue;
  fixed = fixed_in g.B.Block.size g.B.Block.layers a.audits.items;
  merges = merges_among (tasks_at a.tasks.now.items);
}

abbrev pub ghosts-run_in-J-Plan : goal.ghosts-run_in-J-Plan
ghosts-run_in-J-Plan g a = record { tasks = λ number. tasks_at a.tasks.now.items (number - 1) }
