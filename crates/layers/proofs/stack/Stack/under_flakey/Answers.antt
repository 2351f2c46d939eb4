use Rattle.std.proofs.Common.{ap}
use Rattle.std.specs.Prelude.{Some}
use Rattle.layers.specs.Beneath.{stack_over}
use Rattle.layers.proofs.stack.Stack.under_flakey.Goals as goal

pub returns-in-Ok-clause-over : goal.returns-in-Ok-clause-over
returns-in-Ok-clause-over c = stack_over _ (ap Some c.in-Ok.ensures.ok)
