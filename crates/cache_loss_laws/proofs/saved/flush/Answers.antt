-- By the law over devices.
use Rattle.cache_loss_laws.proofs.OnDevices.{flush_lasts_on}
use Rattle.cache_loss_laws.proofs.Kept.{mark_flushed}
use Rattle.cache_loss_laws.proofs.saved.flush.Goals as goal

pub returns-clause-lasts : goal.returns-clause-lasts
returns-clause-lasts g c = λ call v copies copies' h is. flush_lasts_on g.B.Block.may_hold g.B.Block.contents c.args.origin.now c.args.origin_after.now c.args.store.now c.args.store_after.now call v copies copies' h is

pub returns-clause-refused : goal.returns-clause-refused
returns-clause-refused g c = λ size pos firm bad. mark_flushed (g.B.Block.may_hold c.args.store_after.now) (g.B.Block.contents c.args.store_after.now) size pos firm bad
