-- The pass is of the queue, with its parts.
use Rattle.std.proofs.Common.{◌≡◌}
use Rattle.unit_tests.proofs.tickets.put_all.Given as goal

abbrev pub invariant-loop-copy : goal.invariant-loop-copy
invariant-loop-copy g l = (l.pass.queue ≡ l.fn.tickets) × (l.pass.parts ≡ l.fn.pass.parts)

abbrev pub invariant-loop : goal.invariant-loop
invariant-loop g l = (l.pass.queue ≡ l.fn.tickets) × (l.pass.parts ≡ l.fn.pass.parts)
