-- By the law.
use Rattle.cache_loss_laws.specs.Lost.{IsOneOf}
use Rattle.cache_loss_laws.proofs.Closing.{snap_closes_all}
use Rattle.cache_loss_laws.proofs.closed.flush_of_snapshot.Goals as goal

pub returns : goal.returns
returns g c = record { closes = λ v copies on sure firm s x lt shown. snap_closes_all (g.B.Block.may_hold c.args.origin.now) (g.B.Block.may_hold c.args.store.now) (g.B.Block.contents c.args.origin.now) (g.B.Block.contents c.args.store.now) (IsOneOf copies) v on.there on.lasts sure firm s x lt shown }
