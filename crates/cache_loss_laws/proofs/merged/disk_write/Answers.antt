-- By the law over devices.
use Rattle.cache_loss_laws.proofs.OnDevices.{disk_stops_on, disk_lasts_on}
use Rattle.cache_loss_laws.proofs.merged.disk_write.Goals as goal

pub returns-clause-stops : goal.returns-clause-stops
returns-clause-stops g c = λ call m first count copied flushed h is. disk_stops_on g.B.Block.may_hold g.B.Block.contents c.args.origin.now c.args.origin_after.now c.args.store.now c.args.store_after.now call m h first count copied flushed is

pub returns-clause-lasts : goal.returns-clause-lasts
returns-clause-lasts g c = λ call m first count copied flushed h is. disk_lasts_on g.B.Block.may_hold g.B.Block.contents c.args.origin.now c.args.origin_after.now c.args.store.now c.args.store_after.now call m h first count copied flushed is
