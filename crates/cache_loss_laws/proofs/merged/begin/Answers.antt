-- By the law.
use Rattle.cache_loss_laws.specs.Lost.{IsOneOf}
use Rattle.cache_loss_laws.proofs.MergeKept.{begin_lasts}
use Rattle.cache_loss_laws.proofs.merged.begin.Goals as goal

pub returns : goal.returns
returns g c = record { lasts = λ v copies h unmarked all. begin_lasts (g.B.Block.may_hold c.args.origin.now) (g.B.Block.may_hold c.args.store.now) (g.B.Block.contents c.args.origin.now) (g.B.Block.contents c.args.store.now) (IsOneOf copies) v h.there h.lasts unmarked all }
