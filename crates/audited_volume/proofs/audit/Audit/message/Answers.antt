use Rattle.std.proofs.Common.{◌∙◌, length, sym, ap, arith}
use Rattle.plain_machine.specs.Plain.{Plain}
use Rattle.audited_volume.proofs.Bounds.{quiet_bounds, told_given}
use Rattle.audited_volume.proofs.Earning.{many_earned, told_many}
use Rattle.audited_volume.proofs.Keeping.{quiet_keeps}
use Rattle.audited_volume.proofs.Lives.{unseen_lives, unseen_mays}
use Rattle.audited_volume.proofs.audit.Audit.message.Goals as goal

pub invariant_of-self : goal.invariant_of-self
invariant_of-self g c = record {
  audit = quiet_keeps _ _ c.self.inside.loud _ _ _ c.self.invariant.audit c.message.ensures.does.loud c.message.ensures.does.plain;
  bounded = quiet_bounds _ _ c.self.inside.loud _ _ _ _ c.self.invariant.bounded (told_given (record { contents = g.B.Block.contents; durable = g.B.Block.durable; size = g.B.Block.size; faults = g.B.Block.fault_count; done = g.B.Block.done_count }) g.B.Block.layers c.args.dev c.args.depth c.args.message.now c.message.result _ _ c.message.ensures.does.ok c.message.ensures.does.err) (λ on. on) (ap (λ (x : Plain). length x.origin) c.message.ensures.does.plain) (ap (λ (x : Plain). x.requests) c.message.ensures.does.plain);
  earned = many_earned c.self.inside.volume c.message.new.self _ _ c.self.invariant.earned (told_many (record { contents = g.B.Block.contents; durable = g.B.Block.durable; size = g.B.Block.size; faults = g.B.Block.fault_count; done = g.B.Block.done_count }) g.B.Block.layers c.args.dev c.args.depth c.args.message.now c.message.result c.self.inside.volume c.message.new.self c.message.ensures.does.ok c.message.ensures.does.err) (omega arith);
  lives = c.self.invariant.lives ∙ sym (unseen_lives c.self.inside.volume c.message.new.self g.B.Block.contents g.B.Block.layers c.message.ensures.does.plain);
  may = c.self.invariant.may ∙ sym (unseen_mays c.self.inside.volume c.message.new.self g.B.Block.contents g.B.Block.layers c.message.ensures.does.plain);
}

pub returns-clause-does : goal.returns-clause-does
returns-clause-does g c = rw (← c.self.view_is) c.message.ensures.does
