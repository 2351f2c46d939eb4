-- An event that is no Issue any seat may do.
use Rattle.volume.proofs.Stepped.{allowed}
use Rattle.audited_volume.proofs.Receipts.{may_other, none_unanswered}
use Rattle.audited_volume.proofs.audit.Audit.apply.Goals as goal

pub returns-in_default-clause-applied : goal.returns-in_default-clause-applied
returns-in_default-clause-applied g c = c.other.ensures.applied c.args.seat

pub returns-in_default-clause-unanswered : goal.returns-in_default-clause-unanswered
returns-in_default-clause-unanswered g c = none_unanswered c.args.event c.other.result c.args.self.now.held c.in_default.not-Issue

pub returns-in_default-clause-does : goal.returns-in_default-clause-does
returns-in_default-clause-does g c =
    allowed g.B.Block.may_hold g.B.Block.contents g.B.Block.layers g.B.Block.size g.B.Block.fault_count g.B.Block.done_count _ c.args.event _ _ _ (may_other c.args.seat c.args.event c.args.self.now.held c.in_default.not-Issue) c.other.ensures.does
