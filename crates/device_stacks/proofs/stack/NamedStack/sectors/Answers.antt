use Rattle.std.proofs.Common.{ap}
use Rattle.command_semantics.specs.State.{Stacked}
use Rattle.device_stacks.proofs.StackSizes.{has_sectors, is_whole, is_small}
use Rattle.device_stacks.proofs.stack.NamedStack.sectors.Goals as goal

pub returns-clause-value : goal.returns-clause-value
returns-clause-value c = has_sectors c.self.inside.stack c.args.self.now.device c.sectors.result (ap (λ (s : Stacked). s.device) c.self.view_is) c.sectors.ensures

pub returns-clause-whole : goal.returns-clause-whole
returns-clause-whole c = is_whole c.self.inside.stack c.args.self.now.device c.sectors.result (ap (λ (s : Stacked). s.device) c.self.view_is) c.sectors.ensures

pub returns-clause-small : goal.returns-clause-small
returns-clause-small c = is_small c.self.inside.stack c.sectors.result c.sectors.ensures
