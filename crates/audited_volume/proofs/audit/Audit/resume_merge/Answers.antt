use Rattle.std.proofs.Common.{◌∙◌, length, sym, ap, arith}
use Rattle.plain_machine.specs.Plain.{Plain}
use Rattle.audited_volume.proofs.Bounds.{quiet_bounds, resumed_given}
use Rattle.audited_volume.proofs.Earning.{many_earned, resumed_many}
use Rattle.audited_volume.proofs.Keeping.{quiet_keeps}
use Rattle.audited_volume.proofs.Lives.{unseen_lives, unseen_mays}
use Rattle.audited_volume.proofs.audit.Audit.resume_merge.Goals as goal

pub invariant_of-self : goal.invariant_of-self
invariant_of-self g c = record {
  audit = quiet_keeps _ _ c.self.inside.loud _ _ _ c.self.invariant.audit c.resume_merge.ensures.does.loud c.resume_merge.ensures.does.plain;
  bounded = quiet_bounds _ _ c.self.inside.loud _ _ _ _ c.self.invariant.bounded (resumed_given c.resume_merge.result _ _ c.resume_merge.ensures.does.resumed c.resume_merge.ensures.does.err) (λ on. on) (ap (λ (x : Plain). length x.origin) c.resume_merge.ensures.does.plain) (ap (λ (x : Plain). x.requests) c.resume_merge.ensures.does.plain);
  earned = many_earned c.self.inside.volume c.resume_merge.new.self _ _ c.self.invariant.earned (resumed_many c.resume_merge.result c.self.inside.volume c.resume_merge.new.self c.resume_merge.ensures.does.resumed c.resume_merge.ensures.does.err) (omega arith);
  lives = c.self.invariant.lives ∙ sym (unseen_lives c.self.inside.volume c.resume_merge.new.self g.B.Block.contents g.B.Block.layers c.resume_merge.ensures.does.plain);
  may = c.self.invariant.may ∙ sym (unseen_mays c.self.inside.volume c.resume_merge.new.self g.B.Block.contents g.B.Block.layers c.resume_merge.ensures.does.plain);
}

pub returns-clause-does : goal.returns-clause-does
returns-clause-does g c = rw (← c.self.view_is) c.resume_merge.ensures.does
