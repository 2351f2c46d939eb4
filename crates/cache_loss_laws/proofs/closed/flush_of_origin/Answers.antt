-- By the law over devices.
use Rattle.cache_loss_laws.proofs.OnDevices.{origin_closes_on}
use Rattle.cache_loss_laws.proofs.closed.flush_of_origin.Goals as goal

pub returns : goal.returns
returns g c = record { closes = λ firm chunk pos. origin_closes_on g.B.Block.may_hold g.B.Block.contents g.B.Block.size g.met.B.Block.whole g.met.B.Block.holds_now chunk c.args.origin.now c.args.store.now pos firm }
