use Rattle.std.proofs.Common.{ap, arith}
use Rattle.thread_channels.specs.Passes.{Passed}
use Rattle.thread_channels.proofs.Moves.{forks}
use Rattle.thread_channels.proofs.queue.Tickets.another.Goals as goal

pub another-requires-clause-rule : goal.another-requires-clause-rule
another-requires-clause-rule c = forks _ _ (let e = ap (λ (p : Passed). p.parts) c.pass.view_is in omega (arith, e, c.requires.parts))
