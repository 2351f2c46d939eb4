-- By the law.
use Rattle.cache_loss_laws.proofs.StaysOut.{stays_out as out_still}
use Rattle.cache_loss_laws.proofs.closed.stays_out.Goals as goal

pub returns : goal.returns
returns g c = record { stays = λ chunk size pos now adds fewer x out d left short. out_still chunk size (g.B.Block.may_hold c.args.store.now) (g.B.Block.may_hold c.args.store_after.now) (g.B.Block.contents c.args.store.now) (g.B.Block.contents c.args.store_after.now) pos now adds fewer d left short x out }
