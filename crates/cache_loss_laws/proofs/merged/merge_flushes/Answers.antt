-- By the law over devices.
use Rattle.cache_loss_laws.proofs.OnDevices.{origin_flush_on, store_flush_on}
use Rattle.cache_loss_laws.proofs.merged.merge_flushes.Goals as goal

pub returns-clause-of_origin : goal.returns-clause-of_origin
returns-clause-of_origin g c = λ call m h same here firm. origin_flush_on g.B.Block.may_hold g.B.Block.contents c.args.origin.now c.args.origin_after.now c.args.store.now c.args.store_after.now call m h same here firm

pub returns-clause-of_store : goal.returns-clause-of_store
returns-clause-of_store g c = λ call m h same here firm. store_flush_on g.B.Block.may_hold g.B.Block.contents c.args.origin.now c.args.origin_after.now c.args.store.now c.args.store_after.now call m h same here firm
