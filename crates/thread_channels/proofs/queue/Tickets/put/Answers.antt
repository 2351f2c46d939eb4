use Rattle.std.proofs.Common.{arith}
use Rattle.thread_channels.proofs.Moves.{puts}
use Rattle.thread_channels.proofs.queue.Tickets.put.Goals as goal

pub send_as-requires-clause-rule : goal.send_as-requires-clause-rule
send_as-requires-clause-rule g c = (
  (λ items views room. puts _ _ _ c.pass.invariant.1 items views (omega (arith, room, c.self.invariant.2))),
  (λ items views h at. tt),
)
