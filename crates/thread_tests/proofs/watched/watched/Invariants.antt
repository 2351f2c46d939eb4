-- The names are those of what was opened and of the audit.
use Rattle.std.proofs.Common.{length, true}
use Rattle.volume_threads.specs.Rigs.{boards_in, histories_in, start_in, fixed_in}
use Rattle.thread_tests.proofs.watched.watched.Given as goal

abbrev pub ghosts-watched_in : goal.ghosts-watched_in
ghosts-watched_in g a = record {
  volumes = length a.audits.items;
  history = histories_in a.opened;
  boards = boards_in a.opened;
  start = start_in a.audits.items;
  queue = a.opened.queue;
  fixed = fixed_in g.B.Block.size g.B.Block.layers a.audits.items;
  merges = λ k number. true;
}
