use Rattle.device_stacks.proofs.Below.{lowered_over_same}
use Rattle.device_stacks.proofs.stack.lower.Goals as goal

pub returns-in-Some : goal.returns-in-Some
returns-in-Some c = lowered_over_same c.in-Some.below c.replace-whole.result c.args.stack.now c.replace-whole.ensures.value c.in-Some.ensures.over
