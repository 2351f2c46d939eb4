-- By the law over devices.
use Rattle.cache_loss_laws.proofs.OnDevices.{commit_stops_on, commit_lasts_on, commit_fills_on}
use Rattle.cache_loss_laws.proofs.saved.commit.Goals as goal

pub returns-clause-stops : goal.returns-clause-stops
returns-clause-stops g c = λ call v copies copies' qs h is. commit_stops_on g.B.Block.may_hold g.B.Block.contents c.args.origin.now c.args.origin_after.now c.args.store.now c.args.store_after.now call v copies copies' qs h is

pub returns-clause-lasts : goal.returns-clause-lasts
returns-clause-lasts g c = λ call v copies copies' qs h is left. commit_lasts_on g.B.Block.may_hold g.B.Block.contents c.args.origin.now c.args.origin_after.now c.args.store.now c.args.store_after.now call v copies copies' qs h is left

pub returns-clause-fills : goal.returns-clause-fills
returns-clause-fills g c = λ call v copies copies' qs h is left firm. commit_fills_on g.B.Block.may_hold g.B.Block.contents c.args.origin.now c.args.origin_after.now c.args.store.now c.args.store_after.now call v copies copies' qs h is left firm
