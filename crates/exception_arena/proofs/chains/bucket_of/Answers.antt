-- A mask gives the rest, since the number of buckets is a power of two.
use Rattle.std.proofs.Common.{sym, ◌∙◌}
use Rattle.exception_arena.proofs.Masks.{rest-masked}
use Rattle.exception_arena.proofs.chains.bucket_of.Goals as goal

pub returns-then-is_power_of_two-clause-is : goal.returns-then-is_power_of_two-clause-is
returns-then-is_power_of_two-clause-is c = rest-masked c.args.old_chunk c.args.buckets (sym c.is_power_of_two.ensures ∙ c.if-is_power_of_two.true)
