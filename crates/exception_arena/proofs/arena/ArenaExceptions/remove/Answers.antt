use Rattle.std.proofs.Common.{ap, ◌∙◌}
use Rattle.exception_arena.specs.Links.{pairs_on}
use Rattle.exception_arena.proofs.Hung.{pairs_less}
use Rattle.exception_arena.proofs.arena.ArenaExceptions.remove.Goals as goal

pub returns-clause-committed : goal.returns-clause-committed
returns-clause-committed c = rw (← c.self.view_is) (ap pairs_on c.pop.ensures.nodes ∙ pairs_less c.self.inside.nodes.items)
