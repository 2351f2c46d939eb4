use Rattle.exception_arena.proofs.Numbers.{begun_none}
use Rattle.exception_arena.proofs.arena.ArenaExceptions.begin.Goals as goal

pub returns-clause-own : goal.returns-clause-own
returns-clause-own c = rw (← c.self.view_is) (begun_none c.self.inside.next c.self.inside.pending.items c.self.invariant.begun.given)
