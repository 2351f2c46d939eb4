use Rattle.std.proofs.Common.{refl}
use Rattle.layers.specs.Beneath.{stack_over}
use Rattle.layers.proofs.stack.Stack.into_below.Goals as goal

pub returns-in-Flakey-clause-over : goal.returns-in-Flakey-clause-over
returns-in-Flakey-clause-over c = stack_over c.args.self (rw (c.in-Flakey.is, c.into_inner.ensures) refl)

pub returns-clause-over : goal.returns-clause-over
returns-clause-over c = stack_over c.args.self (rw (c.in-Dust.is, c.into_inner-in-Dust.ensures) refl)
