use Rattle.std.proofs.Common.{◌∙◌, length, sym, ap, arith}
use Rattle.plain_machine.specs.Plain.{Plain}
use Rattle.volume.specs.Volumed.{Volumed}
use Rattle.audited_volume.proofs.Bounds.{quiet_bounds}
use Rattle.audited_volume.proofs.Earning.{many_earned, ticked_many}
use Rattle.audited_volume.proofs.Keeping.{quiet_keeps}
use Rattle.audited_volume.proofs.Lives.{unseen_lives, unseen_mays}
use Rattle.audited_volume.proofs.audit.Audit.tick.Goals as goal

pub invariant_of-self : goal.invariant_of-self
invariant_of-self g c = record {
  audit = quiet_keeps _ _ c.self.inside.loud _ _ _ c.self.invariant.audit c.tick.ensures.does.loud c.tick.ensures.does.plain;
  bounded = quiet_bounds _ _ c.self.inside.loud _ _ _ _ c.self.invariant.bounded (ap (λ (x : Volumed _). x.requests) c.tick.ensures.does.ticked.becomes) (λ on. on) (ap (λ (x : Plain). length x.origin) c.tick.ensures.does.plain) (ap (λ (x : Plain). x.requests) c.tick.ensures.does.plain);
  earned = many_earned c.self.inside.volume c.tick.new.self _ _ c.self.invariant.earned (ticked_many (record { contents = g.B.Block.contents; durable = g.B.Block.durable; size = g.B.Block.size; faults = g.B.Block.fault_count; done = g.B.Block.done_count }) g.B.Block.layers c.args.seconds c.self.inside.volume c.tick.new.self c.tick.ensures.does.ticked) (omega arith);
  lives = c.self.invariant.lives ∙ sym (unseen_lives c.self.inside.volume c.tick.new.self g.B.Block.contents g.B.Block.layers c.tick.ensures.does.plain);
  may = c.self.invariant.may ∙ sym (unseen_mays c.self.inside.volume c.tick.new.self g.B.Block.contents g.B.Block.layers c.tick.ensures.does.plain);
}

pub returns-clause-does : goal.returns-clause-does
returns-clause-does g c = rw (← c.self.view_is) c.tick.ensures.does
