use Rattle.std.proofs.Common.{Bool, List, length, sym, ap, ◌∙◌, arith, map}
use Rattle.std.specs.List.{remove}
use Rattle.std.proofs.lemmas.Bool.{ltb-false}
use Rattle.audited_volume.proofs.Mays.{kept_same}
use Rattle.in_flight.specs.Kinds.{in_flight}
use Rattle.volume.specs.Volumed.{Volumed}
use Rattle.audited_volume.specs.declared.entry.Entry.TheVariants.{Detached}
use Rattle.audited_volume.proofs.Bounds.{entry_bounds, long_kept}
use Rattle.audited_volume.proofs.Departed.{detached_keeps}
use Rattle.audited_volume.proofs.Earning.{detached_earned}
use Rattle.audited_volume.proofs.Lives.{without_lives, without_mays}
use Rattle.audited_volume.proofs.audit.Audit.detach.Goals as goal

pub invariant_of-self : goal.invariant_of-self
invariant_of-self g c =
    rw (c.push_reserved.ensures.items, c.remove.ensures.items, c.remove-in-Ok.ensures.items)
    (record {
      audit = detached_keeps g.B.Block.contents g.B.Block.layers c.args.number c.self.inside.volume c.detach.new.self _ _ _ c.self.inside.loud _ _ c.self.invariant.audit
          (omega (arith, ltb-false 65_536 _ (sym c.is_full.ensures ∙ c.if-is_full.false), c.len.ensures, c.len-2.ensures, kept_same _ _ _ _ c.as_slice.ensures.value c.as_slice-2.ensures.value)) c.push_reserved.ensures.capacity c.in-Some.place (sym c.place_in-place.ensures ∙ c.in-Some.is)
          c.in-Ok.ensures.does.loud c.in-Ok.store c.in-Ok.ensures.does.taken c.in-Ok.ensures.does.plain;
      bounded = entry_bounds _ _ c.self.inside.loud _ _ _ _ c.self.invariant.bounded (ap (λ (x : Volumed _). x.requests) c.in-Ok.ensures.does.taken.becomes) (λ on. on)
          (long_kept g.B.Block.contents g.B.Block.layers g.B.Block.size g.met.B.Block.whole c.self.inside.volume c.detach.new.self (ap (λ (x : Volumed _). g.B.Block.size x.origin) c.in-Ok.ensures.does.taken.becomes)) (ap (λ (x : Volumed _). map in_flight x.flights) c.in-Ok.ensures.does.taken.becomes) (Detached c.args.number) _ _ _ tt;
      earned = detached_earned c.self.inside.volume c.detach.new.self c.self.inside.taken (length c.self.inside.held.items) c.self.inside.entries.items c.self.inside.lives.items c.self.inside.may.items c.self.invariant.earned c.args.number c.in-Some.place (Detached c.args.number) c.in-Ok.store c.in-Ok.ensures.does.taken;
      lives = ap (λ (bs : List Bool). remove bs c.in-Some.place) c.self.invariant.lives ∙ sym (without_lives c.self.inside.volume c.detach.new.self c.args.number c.in-Some.place (sym c.place_in-place.ensures ∙ c.in-Some.is) c.in-Ok.store c.in-Ok.ensures.does.taken);
      may = ap (λ (bs : List Bool). remove bs c.in-Some.place) c.self.invariant.may ∙ sym (without_mays c.self.inside.volume c.detach.new.self c.args.number c.in-Some.place (sym c.place_in-place.ensures ∙ c.in-Some.is) c.in-Ok.store c.in-Ok.ensures.does.taken);
    })

pub returns-in-Some-clause-does : goal.returns-in-Some-clause-does
returns-in-Some-clause-does g c = rw (← c.self.view_is) c.in-Ok.ensures.does
