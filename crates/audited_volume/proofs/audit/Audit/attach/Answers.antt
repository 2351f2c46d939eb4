use Rattle.std.proofs.Common.{rules, ◌≡◌, ◌∷◌, ◌++◌, [], Bool, List, length, map, sym, ap, ◌∙◌, arith, inr, true}
use Rattle.std.specs.Prelude.{◌&&◌, is_some}
use Rattle.std.proofs.lemmas.Bool.{ltb-false}
use Rattle.volume.specs.Leaving.{is_quiet_of}
use Rattle.std.proofs.lemmas.List.{length-map}
use Rattle.volume.proofs.Finishes.{back}
use Rattle.volume.proofs.Attaches.{taking_none, none_begun}
use Rattle.device.specs.Layers.{is_loud}
use Rattle.plain_machine.specs.Plain.{overflow_of}
use Rattle.snapshot.specs.Opening.{shown_array}
use Rattle.volume.specs.Volumed.{Volumed, is_loud_in_all}
use Rattle.audited_volume.proofs.Mays.{kept_same}
use Rattle.in_flight.specs.Kinds.{in_flight}
use Rattle.audited_volume.specs.declared.entry.Entry.TheVariants.{Attached}
use Rattle.audited_volume.proofs.Bounds.{entry_bounds, long_kept}
use Rattle.audited_volume.proofs.Earning.{attached_earned}
use Rattle.audited_volume.proofs.Fresh.{fresh_taken}
use Rattle.audited_volume.proofs.Gained.{and_left, attached_keeps, taken_there, shows_last}
use Rattle.audited_volume.proofs.Lives.{gained_lives, gained_mays}
use Rattle.audited_volume.proofs.audit.Audit.attach.Goals as goal
use Rattle.audited_volume.proofs.audit.Audit.attach.Goals.{then-self, else-self}

pub fill-requires-clause-there : goal.fill-requires-clause-there
fill-requires-clause-there g c =
    let w = c.self.inside.volume in
    let admitted = taking_none c.args.store.stale (is_some w.merge) (is_quiet_of w) (length w.snaps) w.attached c.args.chunk c.in-Ok-attach.ensures.does.admitted in
    taken_there g.B.Block.contents g.B.Block.layers g.B.Block.size c.in-Ok-attach.number c.args.overflow c.args.store w c.attach.new.self c.in-Ok-attach.ensures.does.gained (none_begun w.merge admitted.2)

pub invariant_of-self-in-Ok-attach : goal.invariant_of-self-in-Ok-attach
invariant_of-self-in-Ok-attach g c =
    let tells : c.if-self.self ≡ (c.self.inside.loud && c.is_loud-loud.result) = elim c.if-self.branch [
      | then-self x ↦ search rules
      | else-self x ↦ search rules
    ] in
    let w = c.self.inside.volume in
    let shown = shown_array (g.B.Block.contents w.origin) (g.B.Block.contents c.args.store.device) in
    rw (c.push_reserved-in-Ok-attach-2.ensures.items, c.push_reserved-in-Ok-attach.ensures.items, c.push_reserved.ensures.items, c.reserve.ensures.items, c.reserve-2.ensures.items, c.overflow_for-overflow.ensures)
    (record {
      audit = attached_keeps g.B.Block.contents g.B.Block.layers g.B.Block.size c.in-Ok-attach.number c.args.overflow c.args.store w c.attach.new.self c.in-Ok-attach.ensures.does.gained _ _ c.is_loud-loud.result c.self.inside.loud c.if-self.self _ _ c.self.invariant.audit
          (c.in-Ok-attach.ensures.does.loud ∙ ap (λ b. is_loud_in_all g.B.Block.layers w && b) (sym c.is_loud-loud.ensures)) tells
          (omega (arith, ltb-false 65_536 _ (sym c.is_full.ensures ∙ c.if-is_full.false), c.len.ensures, c.len-2.ensures, kept_same _ _ _ _ c.as_slice.ensures.value c.as_slice-2.ensures.value)) c.push_reserved-in-Ok-attach-2.ensures.capacity c.from_vec-array.result c.looks_fresh-fresh.result shown
          (λ loud more.
          let taken = c.in-Ok-attach.ensures.does.taken loud (sym c.is_loud-loud.ensures ∙ more) in
          let all = c.in-Ok-attach.ensures.does.loud ∙ ap (λ b. b && is_loud (g.B.Block.layers c.args.store.device)) loud ∙ sym c.is_loud-loud.ensures ∙ more in
          let shows = shows_last g.B.Block.contents g.B.Block.layers g.B.Block.size c.in-Ok-attach.number c.args.overflow c.args.store w c.attach.new.self c.in-Ok-attach.ensures.does.gained shown taken in
          (c.from_vec-array.ensures ∙ back c.in-Ok.array.len c.fill.new.out c.in-Ok.array.items (c.fill.auto.out ∙ c.as_mut_slice.ensures.len) ∙ c.fill.ensures all shown shows, taken, fresh_taken g.B.Block.contents g.B.Block.layers c.args.store c.args.chunk w c.in-Ok-attach.ensures.does.admitted c.looks_fresh-fresh.result c.looks_fresh-fresh.ensures));
      bounded = entry_bounds _ _ c.self.inside.loud c.if-self.self _ _ _ c.self.invariant.bounded (ap (λ (x : Volumed _). x.requests) c.in-Ok-attach.ensures.does.gained.becomes) (λ on. and_left c.self.inside.loud c.is_loud-loud.result (sym tells ∙ on))
          (long_kept g.B.Block.contents g.B.Block.layers g.B.Block.size g.met.B.Block.whole c.self.inside.volume c.attach.new.self c.in-Ok-attach.ensures.does.gained.origin.size_is) (ap (λ (x : Volumed _). map in_flight x.flights) c.in-Ok-attach.ensures.does.gained.becomes) (Attached c.in-Ok-attach.number c.from_vec-array.result (overflow_of c.args.overflow) c.looks_fresh-fresh.result) _ _ _ tt;
      earned = attached_earned w c.attach.new.self c.self.inside.taken (length c.self.inside.held.items) c.self.inside.entries.items c.self.inside.lives.items c.self.inside.may.items c.self.invariant.earned g.B.Block.contents g.B.Block.layers g.B.Block.size c.in-Ok-attach.number c.args.overflow c.args.store c.in-Ok-attach.ensures.does.gained c.in-Ok-attach.ensures.does.number (c.self.invariant.audit.counted.may ∙ sym c.self.invariant.audit.counted.lives) (Attached c.in-Ok-attach.number c.from_vec-array.result (overflow_of c.args.overflow) c.looks_fresh-fresh.result);
      lives = ap (λ (bs : List Bool). bs ++ true ∷ []) c.self.invariant.lives ∙ sym (gained_lives w c.attach.new.self g.B.Block.contents g.B.Block.layers g.B.Block.size c.in-Ok-attach.number c.args.overflow c.args.store c.in-Ok-attach.ensures.does.gained);
      may = ap (λ (bs : List Bool). bs ++ c.args.overflow ∷ []) c.self.invariant.may ∙ sym (gained_mays w c.attach.new.self g.B.Block.contents g.B.Block.layers g.B.Block.size c.in-Ok-attach.number c.args.overflow c.args.store c.in-Ok-attach.ensures.does.gained);
    })

pub returns-after-self-clause-does : goal.returns-after-self-clause-does
returns-after-self-clause-does g c = rw (← c.self.view_is) c.in-Ok-attach.ensures.does

pub returns-in-Err-clause-refused : goal.returns-in-Err-clause-refused
returns-in-Err-clause-refused g c = inr (search (rules, length-map), inr (rw (← c.self.view_is) c.in-Err.ensures.refused))

pub returns-in-Err-clause-does : goal.returns-in-Err-clause-does
returns-in-Err-clause-does g c = rw (← c.self.view_is) c.in-Err.ensures.does
