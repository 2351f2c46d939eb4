-- The names are those of what was opened and of the audit.
use Rattle.std.proofs.Common.{length, false}
use Rattle.volume_threads.specs.Rigs.{boards_in, histories_in, start_in, fixed_in}
use Rattle.thread_tests.proofs.looked_at.looked_at.Given as goal

abbrev pub ghosts-looked_at_in : goal.ghosts-looked_at_in
ghosts-looked_at_in g a = record {
  volumes = length a.audits.items;
  history = histories_in a.opened;
  boards = boards_in a.opened;
  start = start_in a.audits.items;
  queue = a.opened.queue;
  fixed = fixed_in g.B.Block.size g.B.Block.layers a.audits.items;
  merges = λ k number. false;
}
