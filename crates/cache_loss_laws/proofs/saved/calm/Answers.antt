-- By the general law.
use Rattle.crash_laws.specs.Clauses.{Gives}
use Rattle.cache_loss_laws.proofs.OnDevices.{calm_stops_on, calm_lasts_on}
use Rattle.cache_loss_laws.proofs.saved.calm.Goals as goal

pub returns-clause-stops : goal.returns-clause-stops
returns-clause-stops g c = λ call v copies copies' zeroed marked given array h is. calm_stops_on g.B.Block.may_hold g.B.Block.contents c.args.origin.now c.args.origin_after.now c.args.store.now c.args.store_after.now call v copies copies' zeroed marked (Gives given array) h is

pub returns-clause-lasts : goal.returns-clause-lasts
returns-clause-lasts g c = λ call v copies copies' zeroed marked given array h is left. calm_lasts_on g.B.Block.may_hold g.B.Block.contents c.args.origin.now c.args.origin_after.now c.args.store.now c.args.store_after.now call v copies copies' zeroed marked (Gives given array) h is left
