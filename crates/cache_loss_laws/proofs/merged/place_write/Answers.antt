-- By the law over devices.
use Rattle.cache_loss_laws.proofs.OnDevices.{place_stops_on, place_lasts_on}
use Rattle.cache_loss_laws.proofs.merged.place_write.Goals as goal

pub returns-clause-stops : goal.returns-clause-stops
returns-clause-stops g c = λ call m named n r count bytes h is. place_stops_on g.B.Block.may_hold g.B.Block.contents c.args.origin.now c.args.origin_after.now c.args.store.now c.args.store_after.now call m h named n r count bytes is

pub returns-clause-lasts : goal.returns-clause-lasts
returns-clause-lasts g c = λ call m named n r count bytes h is left. place_lasts_on g.B.Block.may_hold g.B.Block.contents c.args.origin.now c.args.origin_after.now c.args.store.now c.args.store_after.now call m h named n r count bytes is left
