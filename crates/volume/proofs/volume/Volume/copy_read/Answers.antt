-- A copy is read from the origin disk, or its snapshot is spoiled.
use Rattle.std.proofs.Common.{◌≡◌, ◌<◌, true, false, Some, refl, sym, ◌∙◌, ap, length, arith, slice_set, map, ◌∷◌, []}
use Rattle.std.specs.List.{position}
use Rattle.in_flight.specs.declared.copies.Stage.TheVariants.{Waiting}
use Rattle.in_flight.specs.Routes.{refused_of}
use Rattle.snapshot_list.specs.Finding.{is_copy_of, has_copy_at}
use Rattle.volume.proofs.Changing.{SameDisk, same_disk}
use Rattle.snapshot_list.proofs.Finds.{position_within}
use Rattle.volume.proofs.DueEvents.{due_by, copy_found, copy_due}
use Rattle.volume.proofs.CopyEvents.{read_good, read_fault, copy_lives, copy_is}
use Rattle.snapshot.specs.Kept.{Kept}
use Rattle.volume.proofs.Spoilt.{spoilt_copies, attached_at}
use Rattle.volume.proofs.Exactly.{read_exact, read_fault_exact}
use Rattle.volume.proofs.LastMoves.{read_moves, spoils_copies}
use Rattle.volume.proofs.LastBoth.{met_both}
use Rattle.volume.proofs.LastEvents.{read_late}
use Rattle.std.specs.Prelude.{None}
use Rattle.volume.proofs.volume.Volume.copy_read.Goals as goal

pub read_copy-requires-clause-within : goal.read_copy-requires-clause-within
read_copy-requires-clause-within g c =
    let v = c.self.inside in
    let s = c.index_mut-snap.result.now in
    let k = c.in-Some.place in
    let j = c.in-Some.index in
    let within : k < length v.snaps.items = omega (arith, c.in-Some.ensures.found.0, ap length c.deref.ensures.value) in
    let found : position (is_copy_of Waiting c.args.number) s.copies ≡ Some j = copy_found Waiting c.args.number k j v.snaps.items c.deref.result.now s c.deref.ensures.value c.index_mut-snap.ensures.value (c.in-Some.ensures.found.1 s) in
    position_within (is_copy_of Waiting c.args.number) s.copies j found

pub read_copy-requires-clause-sectors : goal.read_copy-requires-clause-sectors
read_copy-requires-clause-sectors g c =
    let v = c.self.inside in
    let s = c.index_mut-snap.result.now in
    let k = c.in-Some.place in
    let j = c.in-Some.index in
    let within : k < length v.snaps.items = omega (arith, c.in-Some.ensures.found.0, ap length c.deref.ensures.value) in
    let found : position (is_copy_of Waiting c.args.number) s.copies ≡ Some j = copy_found Waiting c.args.number k j v.snaps.items c.deref.result.now s c.deref.ensures.value c.index_mut-snap.ensures.value (c.in-Some.ensures.found.1 s) in
    sym (attached_at g.B.Block.contents g.B.Block.layers g.B.Block.size _ c.self.invariant.whole k s within c.index_mut-snap.ensures.value).origin

pub invariant_of-self : goal.invariant_of-self
invariant_of-self g c = record {
  whole =
      let v = c.self.inside in
      let s = c.index_mut-snap.result.now in
      let k = c.in-Some.place in
      let j = c.in-Some.index in
      let within : k < length v.snaps.items = omega (arith, c.in-Some.ensures.found.0, ap length c.deref.ensures.value) in
      let found : position (is_copy_of Waiting c.args.number) s.copies ≡ Some j = copy_found Waiting c.args.number k j v.snaps.items c.deref.result.now s c.deref.ensures.value c.index_mut-snap.ensures.value (c.in-Some.ensures.found.1 s) in
      let same : SameDisk g.B.Block.contents g.B.Block.layers g.B.Block.size v.origin c.read_copy.new.origin = record { bytes = c.read_copy.ensures.contents; sectors = c.read_copy.ensures.size; loud = c.read_copy.ensures.loud } in
      let r = c.in-Ok.ensures.read in
      let op = c.in-Ok.ensures.operation r.0 r.2.event.copy.was in
      let good = read_good g.B.Block.contents g.B.Block.layers g.B.Block.size g.B.Block.fault_count g.B.Block.done_count _ c.self.invariant.whole c.args.number c.read_copy.new.origin k s c.read_copy.new.self j within c.index_mut-snap.ensures.value same r.0 r.1 found r.2 op.faulty op.counted in
      good.whole;
  lasting =
      let v = c.self.inside in
      let s = c.index_mut-snap.result.now in
      let k = c.in-Some.place in
      let j = c.in-Some.index in
      let within : k < length v.snaps.items = omega (arith, c.in-Some.ensures.found.0, ap length c.deref.ensures.value) in
      let found : position (is_copy_of Waiting c.args.number) s.copies ≡ Some j = copy_found Waiting c.args.number k j v.snaps.items c.deref.result.now s c.deref.ensures.value c.index_mut-snap.ensures.value (c.in-Some.ensures.found.1 s) in
      let same : SameDisk g.B.Block.contents g.B.Block.layers g.B.Block.size v.origin c.read_copy.new.origin = record { bytes = c.read_copy.ensures.contents; sectors = c.read_copy.ensures.size; loud = c.read_copy.ensures.loud } in
      let r = c.in-Ok.ensures.read in
      let op = c.in-Ok.ensures.operation r.0 r.2.event.copy.was in
      let goes = read_moves g.B.Block.may_hold g.B.Block.contents g.B.Block.layers g.B.Block.size g.met.B.Block.whole g.met.B.Block.holds_now _ c.self.invariant.whole c.self.invariant.lasting.snaps None k s c.read_copy.new.self v.flights.items within c.index_mut-snap.ensures.value c.read_copy.new.origin j r.0 r.1 (record { adds = c.read_copy.ensures.adds; bytes = c.read_copy.ensures.contents; sectors = c.read_copy.ensures.size; loud = c.read_copy.ensures.loud }) (λ e. read_late (sym r.2.copy.stage ∙ e)) r.2.fields in
      let both = met_both g.B.Block.may_hold g.B.Block.contents g.B.Block.layers g.B.Block.size g.met.B.Block.whole g.met.B.Block.holds_now _ c.self.invariant.whole c.self.invariant.lasting None _ goes refl (record { adds = c.read_copy.ensures.adds; bytes = c.read_copy.ensures.contents; sectors = c.read_copy.ensures.size; loud = c.read_copy.ensures.loud }) in
      record { snaps = both.lasts; merge = both.merge };
}

pub spoil-requires : goal.spoil-requires
spoil-requires g c =
    let v = c.self.inside in
    let s = c.index_mut-snap.result.now in
    let k = c.in-Some.place in
    let j = c.in-Some.index in
    let within : k < length v.snaps.items = omega (arith, c.in-Some.ensures.found.0, ap length c.deref.ensures.value) in
    let found : position (is_copy_of Waiting c.args.number) s.copies ≡ Some j = copy_found Waiting c.args.number k j v.snaps.items c.deref.result.now s c.deref.ensures.value c.index_mut-snap.ensures.value (c.in-Some.ensures.found.1 s) in
    let live = copy_lives g.B.Block.contents g.B.Block.layers g.B.Block.size g.B.Block.fault_count g.B.Block.done_count _ c.self.invariant.whole c.args.number c.self.inside.origin k s s j within c.index_mut-snap.ensures.value (same_disk g.B.Block.contents g.B.Block.layers g.B.Block.size c.self.inside.origin) (position_within (is_copy_of Waiting c.args.number) s.copies j found) in
    ap (λ (x : Kept _). x.live) c.in-Err.ensures.kept.2.fields ∙ live

pub invariant_of-self-in-Err : goal.invariant_of-self-in-Err
invariant_of-self-in-Err g c = record {
  whole =
      let v = c.self.inside in
      let s = c.index_mut-snap.result.now in
      let k = c.in-Some.place in
      let j = c.in-Some.index in
      let within : k < length v.snaps.items = omega (arith, c.in-Some.ensures.found.0, ap length c.deref.ensures.value) in
      let found : position (is_copy_of Waiting c.args.number) s.copies ≡ Some j = copy_found Waiting c.args.number k j v.snaps.items c.deref.result.now s c.deref.ensures.value c.index_mut-snap.ensures.value (c.in-Some.ensures.found.1 s) in
      let same : SameDisk g.B.Block.contents g.B.Block.layers g.B.Block.size v.origin c.read_copy.new.origin = record { bytes = c.read_copy.ensures.contents; sectors = c.read_copy.ensures.size; loud = c.read_copy.ensures.loud } in
      let r = c.in-Err.ensures.kept in
      let it = copy_is Waiting c.args.number s.copies j found in
      let op = c.in-Err.ensures.operation it.0 it.1 in
      let t = spoilt_copies s c.read_copy.new.self c.spoil.new.snap (slice_set s.copies j r.1) r.2.fields c.spoil.ensures.fields in
      let good = read_fault g.B.Block.contents g.B.Block.layers g.B.Block.size g.B.Block.fault_count g.B.Block.done_count _ c.self.invariant.whole c.args.number c.read_copy.new.origin k s c.spoil.new.snap j within c.index_mut-snap.ensures.value same found t.0 t.1 op.faulty op.counted in
      let flights : c.spoil.new.flights.items ≡ map (refused_of (s.number ∷ [])) v.flights.items = c.spoil.ensures.flights ∙ ap (λ n. map (refused_of (n ∷ [])) v.flights.items) (ap (λ (x : Kept _). x.number) r.2.fields) in
      rw flights good.whole;
  lasting =
      let v = c.self.inside in
      let s = c.index_mut-snap.result.now in
      let k = c.in-Some.place in
      let j = c.in-Some.index in
      let within : k < length v.snaps.items = omega (arith, c.in-Some.ensures.found.0, ap length c.deref.ensures.value) in
      let found : position (is_copy_of Waiting c.args.number) s.copies ≡ Some j = copy_found Waiting c.args.number k j v.snaps.items c.deref.result.now s c.deref.ensures.value c.index_mut-snap.ensures.value (c.in-Some.ensures.found.1 s) in
      let same : SameDisk g.B.Block.contents g.B.Block.layers g.B.Block.size v.origin c.read_copy.new.origin = record { bytes = c.read_copy.ensures.contents; sectors = c.read_copy.ensures.size; loud = c.read_copy.ensures.loud } in
      let r = c.in-Err.ensures.kept in
      let it = copy_is Waiting c.args.number s.copies j found in
      let op = c.in-Err.ensures.operation it.0 it.1 in
      let t = spoilt_copies s c.read_copy.new.self c.spoil.new.snap (slice_set s.copies j r.1) r.2.fields c.spoil.ensures.fields in
      let flights : c.spoil.new.flights.items ≡ map (refused_of (s.number ∷ [])) v.flights.items = c.spoil.ensures.flights ∙ ap (λ n. map (refused_of (n ∷ [])) v.flights.items) (ap (λ (x : Kept _). x.number) r.2.fields) in
      let live = copy_lives g.B.Block.contents g.B.Block.layers g.B.Block.size g.B.Block.fault_count g.B.Block.done_count _ c.self.invariant.whole c.args.number c.self.inside.origin k s s j within c.index_mut-snap.ensures.value (same_disk g.B.Block.contents g.B.Block.layers g.B.Block.size c.self.inside.origin) (position_within (is_copy_of Waiting c.args.number) s.copies j found) in
      let goes = spoils_copies g.B.Block.may_hold g.B.Block.contents g.B.Block.layers g.B.Block.size g.met.B.Block.whole g.met.B.Block.holds_now _ c.self.invariant.whole c.self.invariant.lasting.snaps None k s c.spoil.new.snap v.flights.items within c.index_mut-snap.ensures.value c.read_copy.new.self _ c.read_copy.new.origin (record { adds = c.read_copy.ensures.adds; bytes = c.read_copy.ensures.contents; sectors = c.read_copy.ensures.size; loud = c.read_copy.ensures.loud }) r.2.fields live c.spoil.ensures.fields in
      let both = met_both g.B.Block.may_hold g.B.Block.contents g.B.Block.layers g.B.Block.size g.met.B.Block.whole g.met.B.Block.holds_now _ c.self.invariant.whole c.self.invariant.lasting None _ goes refl (record { adds = c.read_copy.ensures.adds; bytes = c.read_copy.ensures.contents; sectors = c.read_copy.ensures.size; loud = c.read_copy.ensures.loud }) in
      record { snaps = both.lasts; merge = both.merge };
}

pub returns-in-Ok-clause-step : goal.returns-in-Ok-clause-step
returns-in-Ok-clause-step g c =
    let v = c.self.inside in
    let s = c.index_mut-snap.result.now in
    let k = c.in-Some.place in
    let j = c.in-Some.index in
    let within : k < length v.snaps.items = omega (arith, c.in-Some.ensures.found.0, ap length c.deref.ensures.value) in
    let found : position (is_copy_of Waiting c.args.number) s.copies ≡ Some j = copy_found Waiting c.args.number k j v.snaps.items c.deref.result.now s c.deref.ensures.value c.index_mut-snap.ensures.value (c.in-Some.ensures.found.1 s) in
    let same : SameDisk g.B.Block.contents g.B.Block.layers g.B.Block.size v.origin c.read_copy.new.origin = record { bytes = c.read_copy.ensures.contents; sectors = c.read_copy.ensures.size; loud = c.read_copy.ensures.loud } in
    let r = c.in-Ok.ensures.read in
    let op = c.in-Ok.ensures.operation r.0 r.2.event.copy.was in
    let good = read_good g.B.Block.contents g.B.Block.layers g.B.Block.size g.B.Block.fault_count g.B.Block.done_count _ c.self.invariant.whole c.args.number c.read_copy.new.origin k s c.read_copy.new.self j within c.index_mut-snap.ensures.value same r.0 r.1 found r.2 op.faulty op.counted in
    rw (← c.self.view_is) good.stepped

pub returns-in-Ok-clause-exact : goal.returns-in-Ok-clause-exact
returns-in-Ok-clause-exact g c =
    let v = c.self.inside in
    let s = c.index_mut-snap.result.now in
    let k = c.in-Some.place in
    let j = c.in-Some.index in
    let within : k < length v.snaps.items = omega (arith, c.in-Some.ensures.found.0, ap length c.deref.ensures.value) in
    let found : position (is_copy_of Waiting c.args.number) s.copies ≡ Some j = copy_found Waiting c.args.number k j v.snaps.items c.deref.result.now s c.deref.ensures.value c.index_mut-snap.ensures.value (c.in-Some.ensures.found.1 s) in
    let r = c.in-Ok.ensures.read in
    let op = c.in-Ok.ensures.operation r.0 r.2.event.copy.was in
    rw (← c.self.view_is) (read_exact g.B.Block.contents g.B.Block.layers g.B.Block.size _ c.self.invariant.whole c.args.number k s within c.index_mut-snap.ensures.value _ _ _ _ c.read_copy.new.origin c.read_copy.new.self j r.0 r.1 found r.2 op c.read_copy.ensures.contents)

pub returns-in-Ok-clause-due : goal.returns-in-Ok-clause-due
returns-in-Ok-clause-due g c =
    let v = c.self.inside in
    let s = c.index_mut-snap.result.now in
    let k = c.in-Some.place in
    let j = c.in-Some.index in
    let within : k < length v.snaps.items = omega (arith, c.in-Some.ensures.found.0, ap length c.deref.ensures.value) in
    let found : position (is_copy_of Waiting c.args.number) s.copies ≡ Some j = copy_found Waiting c.args.number k j v.snaps.items c.deref.result.now s c.deref.ensures.value c.index_mut-snap.ensures.value (c.in-Some.ensures.found.1 s) in
    rw (← c.self.view_is) (sym (due_by g.B.Block.contents g.B.Block.layers _ (has_copy_at Waiting c.args.number) v.snaps.items v.snaps.items true refl (λ s. refl) (copy_due Waiting c.args.number k j v.snaps.items s within c.index_mut-snap.ensures.value found)))

pub returns-in-Err-clause-step : goal.returns-in-Err-clause-step
returns-in-Err-clause-step g c =
    let v = c.self.inside in
    let s = c.index_mut-snap.result.now in
    let k = c.in-Some.place in
    let j = c.in-Some.index in
    let within : k < length v.snaps.items = omega (arith, c.in-Some.ensures.found.0, ap length c.deref.ensures.value) in
    let found : position (is_copy_of Waiting c.args.number) s.copies ≡ Some j = copy_found Waiting c.args.number k j v.snaps.items c.deref.result.now s c.deref.ensures.value c.index_mut-snap.ensures.value (c.in-Some.ensures.found.1 s) in
    let same : SameDisk g.B.Block.contents g.B.Block.layers g.B.Block.size v.origin c.read_copy.new.origin = record { bytes = c.read_copy.ensures.contents; sectors = c.read_copy.ensures.size; loud = c.read_copy.ensures.loud } in
    let r = c.in-Err.ensures.kept in
    let it = copy_is Waiting c.args.number s.copies j found in
    let op = c.in-Err.ensures.operation it.0 it.1 in
    let t = spoilt_copies s c.read_copy.new.self c.spoil.new.snap (slice_set s.copies j r.1) r.2.fields c.spoil.ensures.fields in
    let good = read_fault g.B.Block.contents g.B.Block.layers g.B.Block.size g.B.Block.fault_count g.B.Block.done_count _ c.self.invariant.whole c.args.number c.read_copy.new.origin k s c.spoil.new.snap j within c.index_mut-snap.ensures.value same found t.0 t.1 op.faulty op.counted in
    let flights : c.spoil.new.flights.items ≡ map (refused_of (s.number ∷ [])) v.flights.items = c.spoil.ensures.flights ∙ ap (λ n. map (refused_of (n ∷ [])) v.flights.items) (ap (λ (x : Kept _). x.number) r.2.fields) in
    rw (← c.self.view_is, flights) good.stepped

pub returns-in-Err-clause-exact : goal.returns-in-Err-clause-exact
returns-in-Err-clause-exact g c =
    let v = c.self.inside in
    let s = c.index_mut-snap.result.now in
    let k = c.in-Some.place in
    let j = c.in-Some.index in
    let within : k < length v.snaps.items = omega (arith, c.in-Some.ensures.found.0, ap length c.deref.ensures.value) in
    let found : position (is_copy_of Waiting c.args.number) s.copies ≡ Some j = copy_found Waiting c.args.number k j v.snaps.items c.deref.result.now s c.deref.ensures.value c.index_mut-snap.ensures.value (c.in-Some.ensures.found.1 s) in
    let r = c.in-Err.ensures.kept in
    let it = copy_is Waiting c.args.number s.copies j found in
    let op = c.in-Err.ensures.operation it.0 it.1 in
    let flights : c.spoil.new.flights.items ≡ map (refused_of (s.number ∷ [])) v.flights.items = c.spoil.ensures.flights ∙ ap (λ n. map (refused_of (n ∷ [])) v.flights.items) (ap (λ (x : Kept _). x.number) r.2.fields) in
    rw (← c.self.view_is, flights) (read_fault_exact g.B.Block.contents g.B.Block.layers g.B.Block.size _ c.self.invariant.whole c.args.number k s within c.index_mut-snap.ensures.value _ _ _ _ c.read_copy.new.origin c.read_copy.new.self c.spoil.new.snap j r.0 r.1 found r.2 c.spoil.ensures.fields (c.in-Err.ensures.operation r.0 r.2.was) c.read_copy.ensures.contents)

pub returns-in-Err-clause-due : goal.returns-in-Err-clause-due
returns-in-Err-clause-due g c =
    let v = c.self.inside in
    let s = c.index_mut-snap.result.now in
    let k = c.in-Some.place in
    let j = c.in-Some.index in
    let within : k < length v.snaps.items = omega (arith, c.in-Some.ensures.found.0, ap length c.deref.ensures.value) in
    let found : position (is_copy_of Waiting c.args.number) s.copies ≡ Some j = copy_found Waiting c.args.number k j v.snaps.items c.deref.result.now s c.deref.ensures.value c.index_mut-snap.ensures.value (c.in-Some.ensures.found.1 s) in
    rw (← c.self.view_is) (sym (due_by g.B.Block.contents g.B.Block.layers _ (has_copy_at Waiting c.args.number) v.snaps.items v.snaps.items true refl (λ s. refl) (copy_due Waiting c.args.number k j v.snaps.items s within c.index_mut-snap.ensures.value found)))

pub returns-in-None-clause-due : goal.returns-in-None-clause-due
returns-in-None-clause-due g c =
    rw (← c.self.view_is) (sym (due_by g.B.Block.contents g.B.Block.layers _ (has_copy_at Waiting c.args.number) c.self.inside.snaps.items c.deref.result.now false c.deref.ensures.value (λ s. refl) c.in-None.ensures.none))

pub returns-in-Ok-clause-stops_snaps : goal.returns-in-Ok-clause-stops_snaps
returns-in-Ok-clause-stops_snaps g c =
    let v = c.self.inside in
    let s = c.index_mut-snap.result.now in
    let k = c.in-Some.place in
    let j = c.in-Some.index in
    let within : k < length v.snaps.items = omega (arith, c.in-Some.ensures.found.0, ap length c.deref.ensures.value) in
    let found : position (is_copy_of Waiting c.args.number) s.copies ≡ Some j = copy_found Waiting c.args.number k j v.snaps.items c.deref.result.now s c.deref.ensures.value c.index_mut-snap.ensures.value (c.in-Some.ensures.found.1 s) in
    let same : SameDisk g.B.Block.contents g.B.Block.layers g.B.Block.size v.origin c.read_copy.new.origin = record { bytes = c.read_copy.ensures.contents; sectors = c.read_copy.ensures.size; loud = c.read_copy.ensures.loud } in
    let r = c.in-Ok.ensures.read in
    let op = c.in-Ok.ensures.operation r.0 r.2.event.copy.was in
    let goes = read_moves g.B.Block.may_hold g.B.Block.contents g.B.Block.layers g.B.Block.size g.met.B.Block.whole g.met.B.Block.holds_now _ c.self.invariant.whole c.self.invariant.lasting.snaps None k s c.read_copy.new.self v.flights.items within c.index_mut-snap.ensures.value c.read_copy.new.origin j r.0 r.1 (record { adds = c.read_copy.ensures.adds; bytes = c.read_copy.ensures.contents; sectors = c.read_copy.ensures.size; loud = c.read_copy.ensures.loud }) (λ e. read_late (sym r.2.copy.stage ∙ e)) r.2.fields in
    let both = met_both g.B.Block.may_hold g.B.Block.contents g.B.Block.layers g.B.Block.size g.met.B.Block.whole g.met.B.Block.holds_now _ c.self.invariant.whole c.self.invariant.lasting None _ goes refl (record { adds = c.read_copy.ensures.adds; bytes = c.read_copy.ensures.contents; sectors = c.read_copy.ensures.size; loud = c.read_copy.ensures.loud }) in
    rw (← c.self.view_is) both.stops_snaps

pub returns-in-Ok-clause-stops_origin : goal.returns-in-Ok-clause-stops_origin
returns-in-Ok-clause-stops_origin g c =
    let v = c.self.inside in
    let s = c.index_mut-snap.result.now in
    let k = c.in-Some.place in
    let j = c.in-Some.index in
    let within : k < length v.snaps.items = omega (arith, c.in-Some.ensures.found.0, ap length c.deref.ensures.value) in
    let found : position (is_copy_of Waiting c.args.number) s.copies ≡ Some j = copy_found Waiting c.args.number k j v.snaps.items c.deref.result.now s c.deref.ensures.value c.index_mut-snap.ensures.value (c.in-Some.ensures.found.1 s) in
    let same : SameDisk g.B.Block.contents g.B.Block.layers g.B.Block.size v.origin c.read_copy.new.origin = record { bytes = c.read_copy.ensures.contents; sectors = c.read_copy.ensures.size; loud = c.read_copy.ensures.loud } in
    let r = c.in-Ok.ensures.read in
    let op = c.in-Ok.ensures.operation r.0 r.2.event.copy.was in
    let goes = read_moves g.B.Block.may_hold g.B.Block.contents g.B.Block.layers g.B.Block.size g.met.B.Block.whole g.met.B.Block.holds_now _ c.self.invariant.whole c.self.invariant.lasting.snaps None k s c.read_copy.new.self v.flights.items within c.index_mut-snap.ensures.value c.read_copy.new.origin j r.0 r.1 (record { adds = c.read_copy.ensures.adds; bytes = c.read_copy.ensures.contents; sectors = c.read_copy.ensures.size; loud = c.read_copy.ensures.loud }) (λ e. read_late (sym r.2.copy.stage ∙ e)) r.2.fields in
    let both = met_both g.B.Block.may_hold g.B.Block.contents g.B.Block.layers g.B.Block.size g.met.B.Block.whole g.met.B.Block.holds_now _ c.self.invariant.whole c.self.invariant.lasting None _ goes refl (record { adds = c.read_copy.ensures.adds; bytes = c.read_copy.ensures.contents; sectors = c.read_copy.ensures.size; loud = c.read_copy.ensures.loud }) in
    rw (← c.self.view_is) both.stops_origin

pub returns-in-Err-clause-stops_snaps : goal.returns-in-Err-clause-stops_snaps
returns-in-Err-clause-stops_snaps g c =
    let v = c.self.inside in
    let s = c.index_mut-snap.result.now in
    let k = c.in-Some.place in
    let j = c.in-Some.index in
    let within : k < length v.snaps.items = omega (arith, c.in-Some.ensures.found.0, ap length c.deref.ensures.value) in
    let found : position (is_copy_of Waiting c.args.number) s.copies ≡ Some j = copy_found Waiting c.args.number k j v.snaps.items c.deref.result.now s c.deref.ensures.value c.index_mut-snap.ensures.value (c.in-Some.ensures.found.1 s) in
    let same : SameDisk g.B.Block.contents g.B.Block.layers g.B.Block.size v.origin c.read_copy.new.origin = record { bytes = c.read_copy.ensures.contents; sectors = c.read_copy.ensures.size; loud = c.read_copy.ensures.loud } in
    let r = c.in-Err.ensures.kept in
    let it = copy_is Waiting c.args.number s.copies j found in
    let op = c.in-Err.ensures.operation it.0 it.1 in
    let t = spoilt_copies s c.read_copy.new.self c.spoil.new.snap (slice_set s.copies j r.1) r.2.fields c.spoil.ensures.fields in
    let flights : c.spoil.new.flights.items ≡ map (refused_of (s.number ∷ [])) v.flights.items = c.spoil.ensures.flights ∙ ap (λ n. map (refused_of (n ∷ [])) v.flights.items) (ap (λ (x : Kept _). x.number) r.2.fields) in
    let live = copy_lives g.B.Block.contents g.B.Block.layers g.B.Block.size g.B.Block.fault_count g.B.Block.done_count _ c.self.invariant.whole c.args.number c.self.inside.origin k s s j within c.index_mut-snap.ensures.value (same_disk g.B.Block.contents g.B.Block.layers g.B.Block.size c.self.inside.origin) (position_within (is_copy_of Waiting c.args.number) s.copies j found) in
    let goes = spoils_copies g.B.Block.may_hold g.B.Block.contents g.B.Block.layers g.B.Block.size g.met.B.Block.whole g.met.B.Block.holds_now _ c.self.invariant.whole c.self.invariant.lasting.snaps None k s c.spoil.new.snap v.flights.items within c.index_mut-snap.ensures.value c.read_copy.new.self _ c.read_copy.new.origin (record { adds = c.read_copy.ensures.adds; bytes = c.read_copy.ensures.contents; sectors = c.read_copy.ensures.size; loud = c.read_copy.ensures.loud }) r.2.fields live c.spoil.ensures.fields in
    let both = met_both g.B.Block.may_hold g.B.Block.contents g.B.Block.layers g.B.Block.size g.met.B.Block.whole g.met.B.Block.holds_now _ c.self.invariant.whole c.self.invariant.lasting None _ goes refl (record { adds = c.read_copy.ensures.adds; bytes = c.read_copy.ensures.contents; sectors = c.read_copy.ensures.size; loud = c.read_copy.ensures.loud }) in
    rw (← c.self.view_is) both.stops_snaps

pub returns-in-Err-clause-stops_origin : goal.returns-in-Err-clause-stops_origin
returns-in-Err-clause-stops_origin g c =
    let v = c.self.inside in
    let s = c.index_mut-snap.result.now in
    let k = c.in-Some.place in
    let j = c.in-Some.index in
    let within : k < length v.snaps.items = omega (arith, c.in-Some.ensures.found.0, ap length c.deref.ensures.value) in
    let found : position (is_copy_of Waiting c.args.number) s.copies ≡ Some j = copy_found Waiting c.args.number k j v.snaps.items c.deref.result.now s c.deref.ensures.value c.index_mut-snap.ensures.value (c.in-Some.ensures.found.1 s) in
    let same : SameDisk g.B.Block.contents g.B.Block.layers g.B.Block.size v.origin c.read_copy.new.origin = record { bytes = c.read_copy.ensures.contents; sectors = c.read_copy.ensures.size; loud = c.read_copy.ensures.loud } in
    let r = c.in-Err.ensures.kept in
    let it = copy_is Waiting c.args.number s.copies j found in
    let op = c.in-Err.ensures.operation it.0 it.1 in
    let t = spoilt_copies s c.read_copy.new.self c.spoil.new.snap (slice_set s.copies j r.1) r.2.fields c.spoil.ensures.fields in
    let flights : c.spoil.new.flights.items ≡ map (refused_of (s.number ∷ [])) v.flights.items = c.spoil.ensures.flights ∙ ap (λ n. map (refused_of (n ∷ [])) v.flights.items) (ap (λ (x : Kept _). x.number) r.2.fields) in
    let live = copy_lives g.B.Block.contents g.B.Block.layers g.B.Block.size g.B.Block.fault_count g.B.Block.done_count _ c.self.invariant.whole c.args.number c.self.inside.origin k s s j within c.index_mut-snap.ensures.value (same_disk g.B.Block.contents g.B.Block.layers g.B.Block.size c.self.inside.origin) (position_within (is_copy_of Waiting c.args.number) s.copies j found) in
    let goes = spoils_copies g.B.Block.may_hold g.B.Block.contents g.B.Block.layers g.B.Block.size g.met.B.Block.whole g.met.B.Block.holds_now _ c.self.invariant.whole c.self.invariant.lasting.snaps None k s c.spoil.new.snap v.flights.items within c.index_mut-snap.ensures.value c.read_copy.new.self _ c.read_copy.new.origin (record { adds = c.read_copy.ensures.adds; bytes = c.read_copy.ensures.contents; sectors = c.read_copy.ensures.size; loud = c.read_copy.ensures.loud }) r.2.fields live c.spoil.ensures.fields in
    let both = met_both g.B.Block.may_hold g.B.Block.contents g.B.Block.layers g.B.Block.size g.met.B.Block.whole g.met.B.Block.holds_now _ c.self.invariant.whole c.self.invariant.lasting None _ goes refl (record { adds = c.read_copy.ensures.adds; bytes = c.read_copy.ensures.contents; sectors = c.read_copy.ensures.size; loud = c.read_copy.ensures.loud }) in
    rw (← c.self.view_is) both.stops_origin
