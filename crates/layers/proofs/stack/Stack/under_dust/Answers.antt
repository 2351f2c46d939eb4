use Rattle.std.proofs.Common.{rules}
use Rattle.layers.specs.Beneath.{stack_over}
use Rattle.layers.proofs.stack.Stack.under_dust.Goals as goal

pub returns-in-Ok-clause-over : goal.returns-in-Ok-clause-over
returns-in-Ok-clause-over c = stack_over _ (search rules)
