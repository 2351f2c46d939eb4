use Rattle.crash_laws.proofs.Firm.{firm_answered}
use Rattle.store.proofs.store.Store.flush_last.Goals as goal

pub returns-clause-firm : goal.returns-clause-firm
returns-clause-firm g c = firm_answered c.flush.result _ (g.B.Block.may_hold c.flush.new.self) (g.B.Block.contents c.flush.new.self) (g.B.Block.size c.flush.new.self) c.flush.ensures.flushed
