use Rattle.thread_channels.proofs.Moves.{learns, takes}
use Rattle.thread_channels.proofs.queue.Tickets.take.Goals as goal

pub recv_as-requires-clause-rule : goal.recv_as-requires-clause-rule
recv_as-requires-clause-rule g c = (takes _ _ c.pass.invariant.1, learns _ _)
