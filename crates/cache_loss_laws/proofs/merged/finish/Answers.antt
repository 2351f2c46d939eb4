-- By the law.
use Rattle.crash_laws.specs.Clauses.{Gives}
use Rattle.std.specs.Prelude.{None}
use Rattle.cache_loss_laws.proofs.MergeKept.{finish_opens}
use Rattle.cache_loss_laws.proofs.merged.finish.Goals as goal

pub returns : goal.returns
returns g c = record { opens = λ m given h none stops. finish_opens (g.B.Block.may_hold c.args.origin.now) (g.B.Block.may_hold c.args.store.now) (g.B.Block.may_hold c.args.origin_after.now) (g.B.Block.may_hold c.args.store_after.now) (Gives given None) (g.B.Block.contents c.args.origin.now) (g.B.Block.contents c.args.store.now) m h.there none stops }
