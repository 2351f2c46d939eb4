use Rattle.command_semantics.specs.Stacks.{device_of}
use Rattle.device_stacks.proofs.Below.{uncovered_is}
use Rattle.device_stacks.proofs.stack.NamedStack.uncover.Goals as goal

pub returns : goal.returns
returns c =
    uncovered_is c.self.inside.names.items c.remove.new.self.items (device_of c.self.inside.stack) (device_of c.lower.new.stack) c.self.inside.stale c.args.self.now
    c.self.view_is c.remove.ensures.items c.lower.ensures
