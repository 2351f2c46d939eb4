use Rattle.thread_channels.proofs.Moves.{learns}
use Rattle.thread_channels.proofs.queue.Tickets.settle.Goals as goal

pub learn_as-requires-clause-rule : goal.learn_as-requires-clause-rule
learn_as-requires-clause-rule c = learns _ _
