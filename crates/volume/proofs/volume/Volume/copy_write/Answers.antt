-- A copy is written to its place, or its snapshot is spoiled.
use Rattle.std.proofs.Common.{◌≡◌, ◌<◌, true, false, Some, refl, sym, ◌∙◌, ap, length, get_or, arith, map, ◌∷◌, []}
use Rattle.std.specs.List.{position}
use Rattle.std.proofs.lemmas.List.{get_or_default}
use Rattle.device.specs.Layers.{is_loud}
use Rattle.in_flight.specs.declared.copies.Stage.TheVariants.{Read}
use Rattle.in_flight.specs.Routes.{refused_of}
use Rattle.snapshot_list.specs.Finding.{is_copy_of, has_copy_at}
use Rattle.volume.proofs.Changing.{same_disk}
use Rattle.snapshot_list.proofs.Finds.{position_within}
use Rattle.volume.proofs.DueEvents.{due_by, copy_found, copy_due}
use Rattle.volume.proofs.CopyEvents.{write_good, write_fault, copy_lives, copy_is, copy_stage}
use Rattle.snapshot.specs.Kept.{Kept}
use Rattle.volume.proofs.Spoilt.{spoilt_device}
use Rattle.volume.proofs.Exactly.{write_exact, write_fault_exact}
use Rattle.volume.proofs.LastMoves.{write_moves, spoils_device}
use Rattle.volume.proofs.LastBoth.{beside_both}
use Rattle.std.specs.Prelude.{None}
use Rattle.volume.proofs.volume.Volume.copy_write.Goals as goal

pub write_copy-requires-clause-within : goal.write_copy-requires-clause-within
write_copy-requires-clause-within g c =
    let v = c.self.inside in
    let s = c.index_mut-snap.result.now in
    let k = c.in-Some.place in
    let j = c.in-Some.index in
    let within : k < length v.snaps.items = omega (arith, c.in-Some.ensures.found.0, ap length c.deref.ensures.value) in
    let found : position (is_copy_of Read c.args.number) s.copies ≡ Some j = copy_found Read c.args.number k j v.snaps.items c.deref.result.now s c.deref.ensures.value c.index_mut-snap.ensures.value (c.in-Some.ensures.found.1 s) in
    position_within (is_copy_of Read c.args.number) s.copies j found

pub write_copy-requires-clause-live : goal.write_copy-requires-clause-live
write_copy-requires-clause-live g c =
    let v = c.self.inside in
    let s = c.index_mut-snap.result.now in
    let k = c.in-Some.place in
    let j = c.in-Some.index in
    let within : k < length v.snaps.items = omega (arith, c.in-Some.ensures.found.0, ap length c.deref.ensures.value) in
    let found : position (is_copy_of Read c.args.number) s.copies ≡ Some j = copy_found Read c.args.number k j v.snaps.items c.deref.result.now s c.deref.ensures.value c.index_mut-snap.ensures.value (c.in-Some.ensures.found.1 s) in
    let live = copy_lives g.B.Block.contents g.B.Block.layers g.B.Block.size g.B.Block.fault_count g.B.Block.done_count _ c.self.invariant.whole c.args.number c.self.inside.origin k s s j within c.index_mut-snap.ensures.value (same_disk g.B.Block.contents g.B.Block.layers g.B.Block.size c.self.inside.origin) (position_within (is_copy_of Read c.args.number) s.copies j found) in
    live

pub write_copy-requires-clause-read : goal.write_copy-requires-clause-read
write_copy-requires-clause-read g c =
    let v = c.self.inside in
    let s = c.index_mut-snap.result.now in
    let k = c.in-Some.place in
    let j = c.in-Some.index in
    let within : k < length v.snaps.items = omega (arith, c.in-Some.ensures.found.0, ap length c.deref.ensures.value) in
    let found : position (is_copy_of Read c.args.number) s.copies ≡ Some j = copy_found Read c.args.number k j v.snaps.items c.deref.result.now s c.deref.ensures.value c.index_mut-snap.ensures.value (c.in-Some.ensures.found.1 s) in
    λ d. copy_stage Read c.args.number s.copies j found (get_or s.copies j d) (get_or_default s.copies j d (get_or s.copies j d) (position_within (is_copy_of Read c.args.number) s.copies j found))

pub invariant_of-self : goal.invariant_of-self
invariant_of-self g c = record {
  whole =
      let v = c.self.inside in
      let s = c.index_mut-snap.result.now in
      let k = c.in-Some.place in
      let j = c.in-Some.index in
      let within : k < length v.snaps.items = omega (arith, c.in-Some.ensures.found.0, ap length c.deref.ensures.value) in
      let found : position (is_copy_of Read c.args.number) s.copies ≡ Some j = copy_found Read c.args.number k j v.snaps.items c.deref.result.now s c.deref.ensures.value c.index_mut-snap.ensures.value (c.in-Some.ensures.found.1 s) in
      let same = same_disk g.B.Block.contents g.B.Block.layers g.B.Block.size v.origin in
      let r = c.in-Ok.ensures.wrote in
      let op = c.in-Ok.ensures.operation r.0 r.2.event.copy.was in
      let good = write_good g.B.Block.contents g.B.Block.layers g.B.Block.size g.B.Block.fault_count g.B.Block.done_count _ c.self.invariant.whole c.args.number v.origin k s c.write_copy.new.self j within c.index_mut-snap.ensures.value same r.0 r.1 found r.2 c.write_copy.ensures.loud c.write_copy.ensures.size refl refl op.faulty op.counted in
      good.whole;
  lasting =
      let v = c.self.inside in
      let s = c.index_mut-snap.result.now in
      let k = c.in-Some.place in
      let j = c.in-Some.index in
      let within : k < length v.snaps.items = omega (arith, c.in-Some.ensures.found.0, ap length c.deref.ensures.value) in
      let found : position (is_copy_of Read c.args.number) s.copies ≡ Some j = copy_found Read c.args.number k j v.snaps.items c.deref.result.now s c.deref.ensures.value c.index_mut-snap.ensures.value (c.in-Some.ensures.found.1 s) in
      let same = same_disk g.B.Block.contents g.B.Block.layers g.B.Block.size v.origin in
      let r = c.in-Ok.ensures.wrote in
      let op = c.in-Ok.ensures.operation r.0 r.2.event.copy.was in
      let live = copy_lives g.B.Block.contents g.B.Block.layers g.B.Block.size g.B.Block.fault_count g.B.Block.done_count _ c.self.invariant.whole c.args.number c.self.inside.origin k s s j within c.index_mut-snap.ensures.value (same_disk g.B.Block.contents g.B.Block.layers g.B.Block.size c.self.inside.origin) (position_within (is_copy_of Read c.args.number) s.copies j found) in
      let goes = write_moves g.B.Block.may_hold g.B.Block.contents g.B.Block.layers g.B.Block.size g.met.B.Block.whole g.met.B.Block.holds_now _ c.self.invariant.whole c.self.invariant.lasting.snaps None k s c.write_copy.new.self v.flights.items within c.index_mut-snap.ensures.value j r.0 r.1 live (position_within (is_copy_of Read c.args.number) s.copies j found) r.2 (record { adds = c.write_copy.ensures.adds; sectors = c.write_copy.ensures.size; loud = c.write_copy.ensures.loud }) in
      let both = beside_both g.B.Block.may_hold g.B.Block.contents g.B.Block.layers g.B.Block.size g.met.B.Block.whole g.met.B.Block.holds_now _ c.self.invariant.whole c.self.invariant.lasting None _ goes refl refl in
      record { snaps = both.lasts; merge = both.merge };
}

pub spoil-requires : goal.spoil-requires
spoil-requires g c =
    let v = c.self.inside in
    let s = c.index_mut-snap.result.now in
    let k = c.in-Some.place in
    let j = c.in-Some.index in
    let within : k < length v.snaps.items = omega (arith, c.in-Some.ensures.found.0, ap length c.deref.ensures.value) in
    let found : position (is_copy_of Read c.args.number) s.copies ≡ Some j = copy_found Read c.args.number k j v.snaps.items c.deref.result.now s c.deref.ensures.value c.index_mut-snap.ensures.value (c.in-Some.ensures.found.1 s) in
    let live = copy_lives g.B.Block.contents g.B.Block.layers g.B.Block.size g.B.Block.fault_count g.B.Block.done_count _ c.self.invariant.whole c.args.number c.self.inside.origin k s s j within c.index_mut-snap.ensures.value (same_disk g.B.Block.contents g.B.Block.layers g.B.Block.size c.self.inside.origin) (position_within (is_copy_of Read c.args.number) s.copies j found) in
    ap (λ (x : Kept _). x.live) c.in-Err.ensures.kept ∙ live

pub invariant_of-self-in-Err : goal.invariant_of-self-in-Err
invariant_of-self-in-Err g c = record {
  whole =
      let v = c.self.inside in
      let s = c.index_mut-snap.result.now in
      let k = c.in-Some.place in
      let j = c.in-Some.index in
      let within : k < length v.snaps.items = omega (arith, c.in-Some.ensures.found.0, ap length c.deref.ensures.value) in
      let found : position (is_copy_of Read c.args.number) s.copies ≡ Some j = copy_found Read c.args.number k j v.snaps.items c.deref.result.now s c.deref.ensures.value c.index_mut-snap.ensures.value (c.in-Some.ensures.found.1 s) in
      let same = same_disk g.B.Block.contents g.B.Block.layers g.B.Block.size v.origin in
      let it = copy_is Read c.args.number s.copies j found in
      let op = c.in-Err.ensures.operation it.0 it.1 in
      let t = spoilt_device s c.write_copy.new.self c.spoil.new.snap c.write_copy.new.self.device c.in-Err.ensures.kept c.spoil.ensures.fields in
      let good = write_fault g.B.Block.contents g.B.Block.layers g.B.Block.size g.B.Block.fault_count g.B.Block.done_count _ c.self.invariant.whole c.args.number v.origin k s c.spoil.new.snap j within c.index_mut-snap.ensures.value same found t.0 (ap (λ d. is_loud (g.B.Block.layers d)) t.1 ∙ c.write_copy.ensures.loud) (ap g.B.Block.size t.1 ∙ c.write_copy.ensures.size) refl refl (ap g.B.Block.fault_count t.1 ∙ op.faulty) (ap g.B.Block.done_count t.1 ∙ op.counted) in
      let flights : c.spoil.new.flights.items ≡ map (refused_of (s.number ∷ [])) v.flights.items = c.spoil.ensures.flights ∙ ap (λ n. map (refused_of (n ∷ [])) v.flights.items) (ap (λ (x : Kept _). x.number) c.in-Err.ensures.kept) in
      rw flights good.whole;
  lasting =
      let v = c.self.inside in
      let s = c.index_mut-snap.result.now in
      let k = c.in-Some.place in
      let j = c.in-Some.index in
      let within : k < length v.snaps.items = omega (arith, c.in-Some.ensures.found.0, ap length c.deref.ensures.value) in
      let found : position (is_copy_of Read c.args.number) s.copies ≡ Some j = copy_found Read c.args.number k j v.snaps.items c.deref.result.now s c.deref.ensures.value c.index_mut-snap.ensures.value (c.in-Some.ensures.found.1 s) in
      let same = same_disk g.B.Block.contents g.B.Block.layers g.B.Block.size v.origin in
      let it = copy_is Read c.args.number s.copies j found in
      let op = c.in-Err.ensures.operation it.0 it.1 in
      let t = spoilt_device s c.write_copy.new.self c.spoil.new.snap c.write_copy.new.self.device c.in-Err.ensures.kept c.spoil.ensures.fields in
      let flights : c.spoil.new.flights.items ≡ map (refused_of (s.number ∷ [])) v.flights.items = c.spoil.ensures.flights ∙ ap (λ n. map (refused_of (n ∷ [])) v.flights.items) (ap (λ (x : Kept _). x.number) c.in-Err.ensures.kept) in
      let live = copy_lives g.B.Block.contents g.B.Block.layers g.B.Block.size g.B.Block.fault_count g.B.Block.done_count _ c.self.invariant.whole c.args.number c.self.inside.origin k s s j within c.index_mut-snap.ensures.value (same_disk g.B.Block.contents g.B.Block.layers g.B.Block.size c.self.inside.origin) (position_within (is_copy_of Read c.args.number) s.copies j found) in
      let goes = spoils_device g.B.Block.may_hold g.B.Block.contents g.B.Block.layers g.B.Block.size g.met.B.Block.whole g.met.B.Block.holds_now _ c.self.invariant.whole c.self.invariant.lasting.snaps None k s c.spoil.new.snap v.flights.items within c.index_mut-snap.ensures.value c.write_copy.new.self c.in-Err.ensures.kept (record { adds = c.write_copy.ensures.adds; bytes = c.in-Err.ensures.same; sectors = c.write_copy.ensures.size; loud = c.write_copy.ensures.loud }) live c.spoil.ensures.fields in
      let both = beside_both g.B.Block.may_hold g.B.Block.contents g.B.Block.layers g.B.Block.size g.met.B.Block.whole g.met.B.Block.holds_now _ c.self.invariant.whole c.self.invariant.lasting None _ goes refl refl in
      record { snaps = both.lasts; merge = both.merge };
}

pub returns-in-Ok-clause-step : goal.returns-in-Ok-clause-step
returns-in-Ok-clause-step g c =
    let v = c.self.inside in
    let s = c.index_mut-snap.result.now in
    let k = c.in-Some.place in
    let j = c.in-Some.index in
    let within : k < length v.snaps.items = omega (arith, c.in-Some.ensures.found.0, ap length c.deref.ensures.value) in
    let found : position (is_copy_of Read c.args.number) s.copies ≡ Some j = copy_found Read c.args.number k j v.snaps.items c.deref.result.now s c.deref.ensures.value c.index_mut-snap.ensures.value (c.in-Some.ensures.found.1 s) in
    let same = same_disk g.B.Block.contents g.B.Block.layers g.B.Block.size v.origin in
    let r = c.in-Ok.ensures.wrote in
    let op = c.in-Ok.ensures.operation r.0 r.2.event.copy.was in
    let good = write_good g.B.Block.contents g.B.Block.layers g.B.Block.size g.B.Block.fault_count g.B.Block.done_count _ c.self.invariant.whole c.args.number v.origin k s c.write_copy.new.self j within c.index_mut-snap.ensures.value same r.0 r.1 found r.2 c.write_copy.ensures.loud c.write_copy.ensures.size refl refl op.faulty op.counted in
    rw (← c.self.view_is) good.stepped

pub returns-in-Ok-clause-exact : goal.returns-in-Ok-clause-exact
returns-in-Ok-clause-exact g c =
    let v = c.self.inside in
    let s = c.index_mut-snap.result.now in
    let k = c.in-Some.place in
    let j = c.in-Some.index in
    let within : k < length v.snaps.items = omega (arith, c.in-Some.ensures.found.0, ap length c.deref.ensures.value) in
    let found : position (is_copy_of Read c.args.number) s.copies ≡ Some j = copy_found Read c.args.number k j v.snaps.items c.deref.result.now s c.deref.ensures.value c.index_mut-snap.ensures.value (c.in-Some.ensures.found.1 s) in
    let r = c.in-Ok.ensures.wrote in
    let op = c.in-Ok.ensures.operation r.0 r.2.event.copy.was in
    rw (← c.self.view_is) (write_exact g.B.Block.contents g.B.Block.layers g.B.Block.size _ c.self.invariant.whole c.args.number k s within c.index_mut-snap.ensures.value _ _ _ _ c.write_copy.new.self j r.0 r.1 found r.2 op)

pub returns-in-Ok-clause-due : goal.returns-in-Ok-clause-due
returns-in-Ok-clause-due g c =
    let v = c.self.inside in
    let s = c.index_mut-snap.result.now in
    let k = c.in-Some.place in
    let j = c.in-Some.index in
    let within : k < length v.snaps.items = omega (arith, c.in-Some.ensures.found.0, ap length c.deref.ensures.value) in
    let found : position (is_copy_of Read c.args.number) s.copies ≡ Some j = copy_found Read c.args.number k j v.snaps.items c.deref.result.now s c.deref.ensures.value c.index_mut-snap.ensures.value (c.in-Some.ensures.found.1 s) in
    rw (← c.self.view_is) (sym (due_by g.B.Block.contents g.B.Block.layers _ (has_copy_at Read c.args.number) v.snaps.items v.snaps.items true refl (λ s. refl) (copy_due Read c.args.number k j v.snaps.items s within c.index_mut-snap.ensures.value found)))

pub returns-in-Err-clause-step : goal.returns-in-Err-clause-step
returns-in-Err-clause-step g c =
    let v = c.self.inside in
    let s = c.index_mut-snap.result.now in
    let k = c.in-Some.place in
    let j = c.in-Some.index in
    let within : k < length v.snaps.items = omega (arith, c.in-Some.ensures.found.0, ap length c.deref.ensures.value) in
    let found : position (is_copy_of Read c.args.number) s.copies ≡ Some j = copy_found Read c.args.number k j v.snaps.items c.deref.result.now s c.deref.ensures.value c.index_mut-snap.ensures.value (c.in-Some.ensures.found.1 s) in
    let same = same_disk g.B.Block.contents g.B.Block.layers g.B.Block.size v.origin in
    let it = copy_is Read c.args.number s.copies j found in
    let op = c.in-Err.ensures.operation it.0 it.1 in
    let t = spoilt_device s c.write_copy.new.self c.spoil.new.snap c.write_copy.new.self.device c.in-Err.ensures.kept c.spoil.ensures.fields in
    let good = write_fault g.B.Block.contents g.B.Block.layers g.B.Block.size g.B.Block.fault_count g.B.Block.done_count _ c.self.invariant.whole c.args.number v.origin k s c.spoil.new.snap j within c.index_mut-snap.ensures.value same found t.0 (ap (λ d. is_loud (g.B.Block.layers d)) t.1 ∙ c.write_copy.ensures.loud) (ap g.B.Block.size t.1 ∙ c.write_copy.ensures.size) refl refl (ap g.B.Block.fault_count t.1 ∙ op.faulty) (ap g.B.Block.done_count t.1 ∙ op.counted) in
    let flights : c.spoil.new.flights.items ≡ map (refused_of (s.number ∷ [])) v.flights.items = c.spoil.ensures.flights ∙ ap (λ n. map (refused_of (n ∷ [])) v.flights.items) (ap (λ (x : Kept _). x.number) c.in-Err.ensures.kept) in
    rw (← c.self.view_is, flights) good.stepped

pub returns-in-Err-clause-exact : goal.returns-in-Err-clause-exact
returns-in-Err-clause-exact g c =
    let v = c.self.inside in
    let s = c.index_mut-snap.result.now in
    let k = c.in-Some.place in
    let j = c.in-Some.index in
    let within : k < length v.snaps.items = omega (arith, c.in-Some.ensures.found.0, ap length c.deref.ensures.value) in
    let found : position (is_copy_of Read c.args.number) s.copies ≡ Some j = copy_found Read c.args.number k j v.snaps.items c.deref.result.now s c.deref.ensures.value c.index_mut-snap.ensures.value (c.in-Some.ensures.found.1 s) in
    let it = copy_is Read c.args.number s.copies j found in
    let op = c.in-Err.ensures.operation it.0 it.1 in
    let flights : c.spoil.new.flights.items ≡ map (refused_of (s.number ∷ [])) v.flights.items = c.spoil.ensures.flights ∙ ap (λ n. map (refused_of (n ∷ [])) v.flights.items) (ap (λ (x : Kept _). x.number) c.in-Err.ensures.kept) in
    rw (← c.self.view_is, flights) (write_fault_exact g.B.Block.contents g.B.Block.layers g.B.Block.size _ c.self.invariant.whole c.args.number k s within c.index_mut-snap.ensures.value _ _ _ _ c.write_copy.new.self c.spoil.new.snap j it.0 found it.1 (copy_stage Read c.args.number s.copies j found it.0 it.1) c.in-Err.ensures.kept c.spoil.ensures.fields op c.in-Err.ensures.same)

pub returns-in-Err-clause-due : goal.returns-in-Err-clause-due
returns-in-Err-clause-due g c =
    let v = c.self.inside in
    let s = c.index_mut-snap.result.now in
    let k = c.in-Some.place in
    let j = c.in-Some.index in
    let within : k < length v.snaps.items = omega (arith, c.in-Some.ensures.found.0, ap length c.deref.ensures.value) in
    let found : position (is_copy_of Read c.args.number) s.copies ≡ Some j = copy_found Read c.args.number k j v.snaps.items c.deref.result.now s c.deref.ensures.value c.index_mut-snap.ensures.value (c.in-Some.ensures.found.1 s) in
    rw (← c.self.view_is) (sym (due_by g.B.Block.contents g.B.Block.layers _ (has_copy_at Read c.args.number) v.snaps.items v.snaps.items true refl (λ s. refl) (copy_due Read c.args.number k j v.snaps.items s within c.index_mut-snap.ensures.value found)))

pub returns-in-None-clause-due : goal.returns-in-None-clause-due
returns-in-None-clause-due g c =
    rw (← c.self.view_is) (sym (due_by g.B.Block.contents g.B.Block.layers _ (has_copy_at Read c.args.number) c.self.inside.snaps.items c.deref.result.now false c.deref.ensures.value (λ s. refl) c.in-None.ensures.none))

pub returns-in-Ok-clause-stops_snaps : goal.returns-in-Ok-clause-stops_snaps
returns-in-Ok-clause-stops_snaps g c =
    let v = c.self.inside in
    let s = c.index_mut-snap.result.now in
    let k = c.in-Some.place in
    let j = c.in-Some.index in
    let within : k < length v.snaps.items = omega (arith, c.in-Some.ensures.found.0, ap length c.deref.ensures.value) in
    let found : position (is_copy_of Read c.args.number) s.copies ≡ Some j = copy_found Read c.args.number k j v.snaps.items c.deref.result.now s c.deref.ensures.value c.index_mut-snap.ensures.value (c.in-Some.ensures.found.1 s) in
    let same = same_disk g.B.Block.contents g.B.Block.layers g.B.Block.size v.origin in
    let r = c.in-Ok.ensures.wrote in
    let op = c.in-Ok.ensures.operation r.0 r.2.event.copy.was in
    let live = copy_lives g.B.Block.contents g.B.Block.layers g.B.Block.size g.B.Block.fault_count g.B.Block.done_count _ c.self.invariant.whole c.args.number c.self.inside.origin k s s j within c.index_mut-snap.ensures.value (same_disk g.B.Block.contents g.B.Block.layers g.B.Block.size c.self.inside.origin) (position_within (is_copy_of Read c.args.number) s.copies j found) in
    let goes = write_moves g.B.Block.may_hold g.B.Block.contents g.B.Block.layers g.B.Block.size g.met.B.Block.whole g.met.B.Block.holds_now _ c.self.invariant.whole c.self.invariant.lasting.snaps None k s c.write_copy.new.self v.flights.items within c.index_mut-snap.ensures.value j r.0 r.1 live (position_within (is_copy_of Read c.args.number) s.copies j found) r.2 (record { adds = c.write_copy.ensures.adds; sectors = c.write_copy.ensures.size; loud = c.write_copy.ensures.loud }) in
    let both = beside_both g.B.Block.may_hold g.B.Block.contents g.B.Block.layers g.B.Block.size g.met.B.Block.whole g.met.B.Block.holds_now _ c.self.invariant.whole c.self.invariant.lasting None _ goes refl refl in
    rw (← c.self.view_is) both.stops_snaps

pub returns-in-Ok-clause-stops_origin : goal.returns-in-Ok-clause-stops_origin
returns-in-Ok-clause-stops_origin g c =
    let v = c.self.inside in
    let s = c.index_mut-snap.result.now in
    let k = c.in-Some.place in
    let j = c.in-Some.index in
    let within : k < length v.snaps.items = omega (arith, c.in-Some.ensures.found.0, ap length c.deref.ensures.value) in
    let found : position (is_copy_of Read c.args.number) s.copies ≡ Some j = copy_found Read c.args.number k j v.snaps.items c.deref.result.now s c.deref.ensures.value c.index_mut-snap.ensures.value (c.in-Some.ensures.found.1 s) in
    let same = same_disk g.B.Block.contents g.B.Block.layers g.B.Block.size v.origin in
    let r = c.in-Ok.ensures.wrote in
    let op = c.in-Ok.ensures.operation r.0 r.2.event.copy.was in
    let live = copy_lives g.B.Block.contents g.B.Block.layers g.B.Block.size g.B.Block.fault_count g.B.Block.done_count _ c.self.invariant.whole c.args.number c.self.inside.origin k s s j within c.index_mut-snap.ensures.value (same_disk g.B.Block.contents g.B.Block.layers g.B.Block.size c.self.inside.origin) (position_within (is_copy_of Read c.args.number) s.copies j found) in
    let goes = write_moves g.B.Block.may_hold g.B.Block.contents g.B.Block.layers g.B.Block.size g.met.B.Block.whole g.met.B.Block.holds_now _ c.self.invariant.whole c.self.invariant.lasting.snaps None k s c.write_copy.new.self v.flights.items within c.index_mut-snap.ensures.value j r.0 r.1 live (position_within (is_copy_of Read c.args.number) s.copies j found) r.2 (record { adds = c.write_copy.ensures.adds; sectors = c.write_copy.ensures.size; loud = c.write_copy.ensures.loud }) in
    let both = beside_both g.B.Block.may_hold g.B.Block.contents g.B.Block.layers g.B.Block.size g.met.B.Block.whole g.met.B.Block.holds_now _ c.self.invariant.whole c.self.invariant.lasting None _ goes refl refl in
    rw (← c.self.view_is) both.stops_origin

pub returns-in-Err-clause-stops_snaps : goal.returns-in-Err-clause-stops_snaps
returns-in-Err-clause-stops_snaps g c =
    let v = c.self.inside in
    let s = c.index_mut-snap.result.now in
    let k = c.in-Some.place in
    let j = c.in-Some.index in
    let within : k < length v.snaps.items = omega (arith, c.in-Some.ensures.found.0, ap length c.deref.ensures.value) in
    let found : position (is_copy_of Read c.args.number) s.copies ≡ Some j = copy_found Read c.args.number k j v.snaps.items c.deref.result.now s c.deref.ensures.value c.index_mut-snap.ensures.value (c.in-Some.ensures.found.1 s) in
    let same = same_disk g.B.Block.contents g.B.Block.layers g.B.Block.size v.origin in
    let it = copy_is Read c.args.number s.copies j found in
    let op = c.in-Err.ensures.operation it.0 it.1 in
    let t = spoilt_device s c.write_copy.new.self c.spoil.new.snap c.write_copy.new.self.device c.in-Err.ensures.kept c.spoil.ensures.fields in
    let flights : c.spoil.new.flights.items ≡ map (refused_of (s.number ∷ [])) v.flights.items = c.spoil.ensures.flights ∙ ap (λ n. map (refused_of (n ∷ [])) v.flights.items) (ap (λ (x : Kept _). x.number) c.in-Err.ensures.kept) in
    let live = copy_lives g.B.Block.contents g.B.Block.layers g.B.Block.size g.B.Block.fault_count g.B.Block.done_count _ c.self.invariant.whole c.args.number c.self.inside.origin k s s j within c.index_mut-snap.ensures.value (same_disk g.B.Block.contents g.B.Block.layers g.B.Block.size c.self.inside.origin) (position_within (is_copy_of Read c.args.number) s.copies j found) in
    let goes = spoils_device g.B.Block.may_hold g.B.Block.contents g.B.Block.layers g.B.Block.size g.met.B.Block.whole g.met.B.Block.holds_now _ c.self.invariant.whole c.self.invariant.lasting.snaps None k s c.spoil.new.snap v.flights.items within c.index_mut-snap.ensures.value c.write_copy.new.self c.in-Err.ensures.kept (record { adds = c.write_copy.ensures.adds; bytes = c.in-Err.ensures.same; sectors = c.write_copy.ensures.size; loud = c.write_copy.ensures.loud }) live c.spoil.ensures.fields in
    let both = beside_both g.B.Block.may_hold g.B.Block.contents g.B.Block.layers g.B.Block.size g.met.B.Block.whole g.met.B.Block.holds_now _ c.self.invariant.whole c.self.invariant.lasting None _ goes refl refl in
    rw (← c.self.view_is) both.stops_snaps

pub returns-in-Err-clause-stops_origin : goal.returns-in-Err-clause-stops_origin
returns-in-Err-clause-stops_origin g c =
    let v = c.self.inside in
    let s = c.index_mut-snap.result.now in
    let k = c.in-Some.place in
    let j = c.in-Some.index in
    let within : k < length v.snaps.items = omega (arith, c.in-Some.ensures.found.0, ap length c.deref.ensures.value) in
    let found : position (is_copy_of Read c.args.number) s.copies ≡ Some j = copy_found Read c.args.number k j v.snaps.items c.deref.result.now s c.deref.ensures.value c.index_mut-snap.ensures.value (c.in-Some.ensures.found.1 s) in
    let same = same_disk g.B.Block.contents g.B.Block.layers g.B.Block.size v.origin in
    let it = copy_is Read c.args.number s.copies j found in
    let op = c.in-Err.ensures.operation it.0 it.1 in
    let t = spoilt_device s c.write_copy.new.self c.spoil.new.snap c.write_copy.new.self.device c.in-Err.ensures.kept c.spoil.ensures.fields in
    let flights : c.spoil.new.flights.items ≡ map (refused_of (s.number ∷ [])) v.flights.items = c.spoil.ensures.flights ∙ ap (λ n. map (refused_of (n ∷ [])) v.flights.items) (ap (λ (x : Kept _). x.number) c.in-Err.ensures.kept) in
    let live = copy_lives g.B.Block.contents g.B.Block.layers g.B.Block.size g.B.Block.fault_count g.B.Block.done_count _ c.self.invariant.whole c.args.number c.self.inside.origin k s s j within c.index_mut-snap.ensures.value (same_disk g.B.Block.contents g.B.Block.layers g.B.Block.size c.self.inside.origin) (position_within (is_copy_of Read c.args.number) s.copies j found) in
    let goes = spoils_device g.B.Block.may_hold g.B.Block.contents g.B.Block.layers g.B.Block.size g.met.B.Block.whole g.met.B.Block.holds_now _ c.self.invariant.whole c.self.invariant.lasting.snaps None k s c.spoil.new.snap v.flights.items within c.index_mut-snap.ensures.value c.write_copy.new.self c.in-Err.ensures.kept (record { adds = c.write_copy.ensures.adds; bytes = c.in-Err.ensures.same; sectors = c.write_copy.ensures.size; loud = c.write_copy.ensures.loud }) live c.spoil.ensures.fields in
    let both = beside_both g.B.Block.may_hold g.B.Block.contents g.B.Block.layers g.B.Block.size g.met.B.Block.whole g.met.B.Block.holds_now _ c.self.invariant.whole c.self.invariant.lasting None _ goes refl refl in
    rw (← c.self.view_is) both.stops_origin
