-- By the law over devices.
use Rattle.cache_loss_laws.proofs.OnDevices.{clear_stops_on, clear_lasts_on}
use Rattle.cache_loss_laws.proofs.merged.clearing.Goals as goal

pub returns-clause-stops : goal.returns-clause-stops
returns-clause-stops g c = λ call m kept a h is. clear_stops_on g.B.Block.may_hold g.B.Block.contents c.args.origin.now c.args.origin_after.now c.args.store.now c.args.store_after.now call m h kept a is

pub returns-clause-lasts : goal.returns-clause-lasts
returns-clause-lasts g c = λ call m kept copied a h is left. clear_lasts_on g.B.Block.may_hold g.B.Block.contents c.args.origin.now c.args.origin_after.now c.args.store.now c.args.store_after.now call m h kept copied a is left
