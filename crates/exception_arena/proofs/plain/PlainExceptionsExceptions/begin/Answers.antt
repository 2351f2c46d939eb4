use Rattle.exception_arena.proofs.Numbers.{begun_none}
use Rattle.exception_arena.proofs.plain.PlainExceptionsExceptions.begin.Goals as goal

pub returns-clause-own : goal.returns-clause-own
returns-clause-own c = begun_none c.args.self.now.next c.args.self.now.pending.items c.args.self.now.given
