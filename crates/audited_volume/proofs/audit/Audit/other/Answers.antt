use Rattle.std.proofs.Common.{◌∙◌, ap, sym, refl, arith}
use Rattle.volume.specs.Volumed.{plain_of}
use Rattle.volume.proofs.FewerLives.{caused_lives}
use Rattle.audited_volume.specs.Books.{AuditShape}
use Rattle.audited_volume.proofs.Bounds.{long_kept, size_kept, spoilt_bounds}
use Rattle.audited_volume.proofs.Earning.{kept_earned, noted_places}
use Rattle.audited_volume.proofs.Keeping.{spoilt_keeps, spoils_of, flown_other}
use Rattle.audited_volume.proofs.Lives.{looked_lives, mays_by}
use Rattle.audited_volume.proofs.Receipts.{base_kept, saved_count, saved_same, snaps_same, noted_all, only_spoils, silent_noted}
use Rattle.audited_volume.proofs.audit.Audit.other.Goals as goal

pub note_spoils-requires-clause-lives : goal.note_spoils-requires-clause-lives
note_spoils-requires-clause-lives g c =
    c.self.invariant.audit.counted.lives ∙ saved_count g.B.Block.contents g.B.Block.layers c.self.inside.volume ∙ sym (snaps_same c.self.inside.volume c.step.new.self c.in-Ok.ensures.does.kept.numbers)

pub invariant_of-self : goal.invariant_of-self
invariant_of-self g c =
    let flown = flown_other c.args.event c.in-Ok.outcome _ _ c.requires c.in-Ok.ensures.does.flown in record {
      audit = spoilt_keeps _ _ _ (plain_of g.B.Block.contents g.B.Block.layers c.self.inside.volume) (plain_of g.B.Block.contents g.B.Block.layers c.step.new.self) _ _ _ _ c.self.invariant.audit c.in-Ok.ensures.does.loud
          flown (saved_same g.B.Block.contents g.B.Block.layers c.self.inside.volume c.step.new.self c.in-Ok.ensures.does.kept.numbers)
          (λ loud. spoils_of _ c.args.event c.in-Ok.outcome _ c.requires (c.in-Ok.ensures.does.legal loud)) (noted_all g.B.Block.contents g.B.Block.layers c.step.new.self _ _ _ _ c.note_spoils.ensures.noted) c.note_spoils.ensures.capacity;
      bounded = spoilt_bounds _ _ c.self.inside.loud _ _ _ _ c.self.invariant.bounded c.in-Ok.ensures.does.counts.0 (λ on. on) (long_kept g.B.Block.contents g.B.Block.layers g.B.Block.size g.met.B.Block.whole c.self.inside.volume c.step.new.self (size_kept g.B.Block.size c.self.inside.volume c.step.new.self c.in-Ok.ensures.does.kept.sizes)) flown c.note_spoils.ensures.noted.which _ _ _ c.note_spoils.ensures.noted.entries_are;
      earned = kept_earned g.B.Block.size c.self.inside.volume c.step.new.self _ _ c.self.invariant.earned c.in-Ok.ensures.does.kept (omega (arith, c.in-Ok.ensures.does.counts.0, noted_places _ _ _ _ c.self.inside.may.items _ _ c.note_spoils.ensures.noted));
      lives = looked_lives c.self.inside.volume c.step.new.self g.B.Block.contents g.B.Block.layers _ _ _ _ c.note_spoils.ensures.noted c.self.invariant.lives c.in-Ok.ensures.does.kept.numbers (caused_lives c.self.inside.volume c.step.new.self g.B.Block.fault_count c.args.event c.in-Ok.outcome c.in-Ok.ensures.does.cause);
      may = c.self.invariant.may ∙ sym (mays_by c.self.inside.volume c.step.new.self c.in-Ok.ensures.does.overflows);
    }

pub returns-in-Ok-clause-applied : goal.returns-in-Ok-clause-applied
returns-in-Ok-clause-applied g c = λ seat. record {
  noted = silent_noted _ _ seat c.args.event c.in-Ok.outcome _ _ c.requires c.in-Ok.ensures.does.flown
      (record { held = ap (λ (a : AuditShape _). a.held) c.self.view_is; spoils = only_spoils _ _ _ _ _ _ _ _ c.note_spoils.ensures.noted (ap (λ (a : AuditShape _). a.entries) c.self.view_is) refl });
  base = base_kept _ _ _ c.self.view_is (record { base = refl; taken = refl; loud = refl; folded = refl });
  err = tt;
}

pub returns-in-Ok-clause-does : goal.returns-in-Ok-clause-does
returns-in-Ok-clause-does g c = rw (← c.self.view_is) c.in-Ok.ensures.does

pub returns-in-Err-clause-does : goal.returns-in-Err-clause-does
returns-in-Err-clause-does g c = rw (← c.self.view_is) c.in-Err.ensures.does
