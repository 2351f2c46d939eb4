use Rattle.thread_channels.proofs.Moves.{merges}
use Rattle.thread_channels.proofs.queue.Tickets.absorb.Goals as goal

pub absorb-requires-clause-rule : goal.absorb-requires-clause-rule
absorb-requires-clause-rule c = merges _ _ _ _
