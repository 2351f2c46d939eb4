-- By the law.
use Rattle.std.proofs.Common.{[], arith}
use Rattle.sector.specs.declared.pair.Pair.{Pair}
use Rattle.cache_loss_laws.specs.Lost.{IsOneOf}
use Rattle.cache_loss_laws.proofs.Attached.{attach_lasts}
use Rattle.cache_loss_laws.proofs.Closing.{both_close}
use Rattle.cache_loss_laws.proofs.saved.attach.Goals as goal

empty : (q : Pair) → IsOneOf [] q → ⊥
empty q is = let lt = is.1 in omega (arith, lt)

pub returns-clause-lasts : goal.returns-clause-lasts
returns-clause-lasts g c = λ v t unzeroed loose all firm_o firm_s header reach past inside. attach_lasts (g.B.Block.may_hold c.args.origin.now) (g.B.Block.may_hold c.args.store.now) (g.B.Block.contents c.args.origin.now) (g.B.Block.contents c.args.store.now) (IsOneOf []) v t empty unzeroed loose all firm_o firm_s header reach past inside

pub returns-clause-closes : goal.returns-clause-closes
returns-clause-closes g c = λ v t firm_o firm_s s x there. both_close v.chunk v.sectors v.size (g.B.Block.may_hold c.args.origin.now) (g.B.Block.may_hold c.args.store.now) (g.B.Block.contents c.args.origin.now) (g.B.Block.contents c.args.store.now) t.disk_now t.store_now firm_o firm_s s x there
