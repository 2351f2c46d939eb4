use Rattle.std.proofs.Common.{length, sym, ap, ◌∙◌, arith, map}
use Rattle.std.proofs.lemmas.Bool.{ltb-false}
use Rattle.audited_volume.proofs.Mays.{kept_same}
use Rattle.in_flight.specs.Kinds.{in_flight}
use Rattle.volume.specs.Volumed.{Volumed}
use Rattle.audited_volume.specs.declared.entry.Entry.TheVariants.{Finished}
use Rattle.audited_volume.proofs.Bounds.{entry_bounds, long_kept}
use Rattle.audited_volume.proofs.Changes.{finished_keeps}
use Rattle.audited_volume.proofs.Earning.{finished_earned}
use Rattle.audited_volume.proofs.Lives.{finished_lives}
use Rattle.audited_volume.proofs.audit.Audit.finish_merge.Goals as goal

pub invariant_of-self : goal.invariant_of-self
invariant_of-self g c =
    rw c.push_reserved.ensures.items
    (record {
      audit = finished_keeps g.B.Block.contents g.B.Block.layers c.self.inside.volume c.finish_merge.new.self c.in-Ok.store _ _ _ c.self.inside.loud _ _ c.self.invariant.audit c.in-Ok.ensures.does.loud c.in-Ok.ensures.does.taken c.in-Ok.ensures.does.legal
          (omega (arith, ltb-false 65_536 _ (sym c.is_full.ensures ∙ c.if-is_full.false), c.len.ensures, c.len-2.ensures, kept_same _ _ _ _ c.as_slice.ensures.value c.as_slice-2.ensures.value)) c.push_reserved.ensures.capacity;
      bounded = entry_bounds _ _ c.self.inside.loud _ _ _ _ c.self.invariant.bounded (ap (λ (x : Volumed _). x.requests) c.in-Ok.ensures.does.taken.becomes) (λ on. on)
          (long_kept g.B.Block.contents g.B.Block.layers g.B.Block.size g.met.B.Block.whole c.self.inside.volume c.finish_merge.new.self (ap (λ (x : Volumed _). g.B.Block.size x.origin) c.in-Ok.ensures.does.taken.becomes)) (ap (λ (x : Volumed _). map in_flight x.flights) c.in-Ok.ensures.does.taken.becomes) Finished _ _ _ tt;
      earned = finished_earned c.self.inside.volume c.finish_merge.new.self c.self.inside.taken (length c.self.inside.held.items) c.self.inside.entries.items c.self.inside.lives.items c.self.inside.may.items c.self.invariant.earned Finished c.in-Ok.store c.in-Ok.ensures.does.taken;
      lives = c.self.invariant.lives ∙ sym (finished_lives c.self.inside.volume c.finish_merge.new.self c.in-Ok.store c.in-Ok.ensures.does.taken).0;
      may = c.self.invariant.may ∙ sym (finished_lives c.self.inside.volume c.finish_merge.new.self c.in-Ok.store c.in-Ok.ensures.does.taken).1;
    })

pub returns-in-Ok-clause-does : goal.returns-in-Ok-clause-does
returns-in-Ok-clause-does g c = rw (← c.self.view_is) c.in-Ok.ensures.does
