use Rattle.std.proofs.Common.{Bool, List, true, sym, ap, ◌∙◌, arith, length, map}
use Rattle.std.specs.List.{remove}
use Rattle.std.proofs.lemmas.Bool.{ltb-false}
use Rattle.audited_volume.proofs.Mays.{kept_same}
use Rattle.volume.proofs.Ran.{unbegun_same}
use Rattle.in_flight.specs.Kinds.{in_flight}
use Rattle.plain_machine.specs.Plain.{Plain}
use Rattle.volume.specs.Volumed.{Volumed}
use Rattle.audited_volume.specs.declared.entry.Entry.TheVariants.{Begun}
use Rattle.audited_volume.proofs.Bounds.{entry_bounds, long_kept, quiet_bounds, unbegun_given}
use Rattle.audited_volume.proofs.Departed.{begun_keeps}
use Rattle.audited_volume.proofs.Earning.{begun_earned, many_earned, unbegun_many}
use Rattle.audited_volume.proofs.Keeping.{quiet_keeps}
use Rattle.audited_volume.proofs.Lives.{begun_lives, begun_mays, unbegun_lives}
use Rattle.audited_volume.proofs.audit.Audit.begin_merge.Goals as goal

pub invariant_of-self : goal.invariant_of-self
invariant_of-self g c =
    rw (c.push_reserved.ensures.items, c.remove.ensures.items, c.remove-in-Ok.ensures.items)
    (record {
      audit = begun_keeps g.B.Block.contents g.B.Block.layers c.args.number c.self.inside.volume c.begin_merge.new.self _ _ true c.self.inside.loud _ _ c.self.invariant.audit
          (omega (arith, ltb-false 65_536 _ (sym c.is_full.ensures ∙ c.if-is_full.false), c.len.ensures, c.len-2.ensures, kept_same _ _ _ _ c.as_slice.ensures.value c.as_slice-2.ensures.value)) c.push_reserved.ensures.capacity c.in-Some.place (sym c.place_in-place.ensures ∙ c.in-Some.is)
          c.in-Ok.ensures.does.loud c.in-Ok.ensures.does.begun c.in-Ok.ensures.does.legal;
      bounded = entry_bounds _ _ c.self.inside.loud _ _ _ _ c.self.invariant.bounded (ap (λ (x : Volumed _). x.requests) c.in-Ok.ensures.does.begun.becomes) (λ on. on)
          (long_kept g.B.Block.contents g.B.Block.layers g.B.Block.size g.met.B.Block.whole c.self.inside.volume c.begin_merge.new.self (ap (λ (x : Volumed _). g.B.Block.size x.origin) c.in-Ok.ensures.does.begun.becomes)) (ap (λ (x : Volumed _). map in_flight x.flights) c.in-Ok.ensures.does.begun.becomes) (Begun c.args.number) _ _ _ tt;
      earned = begun_earned c.self.inside.volume c.begin_merge.new.self c.self.inside.taken (length c.self.inside.held.items) c.self.inside.entries.items c.self.inside.lives.items c.self.inside.may.items c.self.invariant.earned c.args.number c.in-Some.place (Begun c.args.number) c.in-Ok.ensures.does.begun;
      lives = ap (λ (bs : List Bool). remove bs c.in-Some.place) c.self.invariant.lives ∙ sym (begun_lives c.self.inside.volume c.begin_merge.new.self c.args.number c.in-Some.place (sym c.place_in-place.ensures ∙ c.in-Some.is) c.in-Ok.ensures.does.begun);
      may = ap (λ (bs : List Bool). remove bs c.in-Some.place) c.self.invariant.may ∙ sym (begun_mays c.self.inside.volume c.begin_merge.new.self c.args.number c.in-Some.place (sym c.place_in-place.ensures ∙ c.in-Some.is) c.in-Ok.ensures.does.begun);
    })

pub invariant_of-self-in-Err : goal.invariant_of-self-in-Err
invariant_of-self-in-Err g c =
    let same = unbegun_given c.args.number c.in-Err.refusal c.self.inside.volume c.begin_merge.new.self c.in-Err.ensures.refused in
    let plain = unbegun_same g.B.Block.contents g.B.Block.layers c.args.number c.in-Err.refusal c.self.inside.volume c.begin_merge.new.self c.in-Err.ensures.refused in record {
      audit = quiet_keeps _ _ c.self.inside.loud _ _ _ c.self.invariant.audit c.in-Err.ensures.does.loud plain;
      bounded = quiet_bounds _ _ c.self.inside.loud _ _ _ _ c.self.invariant.bounded same.0 (λ on. on) (ap (λ (x : Plain). length x.origin) plain) (ap (λ (x : Plain). x.requests) plain);
      earned = many_earned c.self.inside.volume c.begin_merge.new.self _ _ c.self.invariant.earned (unbegun_many c.args.number c.in-Err.refusal c.self.inside.volume c.begin_merge.new.self c.in-Err.ensures.refused) (omega arith);
      lives = c.self.invariant.lives ∙ sym (unbegun_lives c.self.inside.volume c.begin_merge.new.self c.args.number c.in-Err.refusal c.in-Err.ensures.refused).0;
      may = c.self.invariant.may ∙ sym (unbegun_lives c.self.inside.volume c.begin_merge.new.self c.args.number c.in-Err.refusal c.in-Err.ensures.refused).1;
    }

pub returns-in-Err-clause-does : goal.returns-in-Err-clause-does
returns-in-Err-clause-does g c = rw (← c.self.view_is) c.in-Err.ensures.does

pub returns-in-Some-clause-does : goal.returns-in-Some-clause-does
returns-in-Some-clause-does g c = rw (← c.self.view_is) c.in-Ok.ensures.does
