-- The first copies are committed, or their snapshot is spoiled.
use Rattle.std.proofs.Common.{◌≡◌, ◌-◌, ◌*◌, ◌<◌, true, false, refl, sym, ◌∙◌, ap, length, arith, map, ◌∷◌, []}
use Rattle.device.specs.Layers.{is_loud}
use Rattle.in_flight.specs.Routes.{refused_of}
use Rattle.in_flight.proofs.Batches.{batch_few, batch_ready}
use Rattle.snapshot.specs.Kept.{Kept}
use Rattle.snapshot_list.specs.Finding.{is_committing}
use Rattle.volume.proofs.DueEvents.{due_by, snap_found, snap_due}
use Rattle.volume.proofs.Spoilt.{spoilt_device}
use Rattle.volume.proofs.StoreEvents.{commit_good, commit_fault, front_live, committing_front, committing_next}
use Rattle.volume.proofs.Exactly.{area_exact, area_fault_exact}
use Rattle.volume.proofs.LastMoves.{commit_moves, spoils_device}
use Rattle.volume.proofs.LastBoth.{beside_both}
use Rattle.std.specs.Prelude.{None}
use Rattle.volume.proofs.volume.Volume.write_area.Goals as goal

pub write_area-requires-clause-live : goal.write_area-requires-clause-live
write_area-requires-clause-live g c =
    let v = c.self.inside in
    let s = c.index_mut-snap.result.now in
    let k = c.in-Some.place in
    let within : k < length v.snaps.items = omega (arith, c.in-Some.ensures.found.0, ap length c.deref.ensures.value) in
    let is = c.index_mut-snap.ensures.value in
    let found : is_committing c.args.number s ≡ true = snap_found (is_committing c.args.number) k v.snaps.items c.deref.result.now s c.deref.ensures.value is (c.in-Some.ensures.found.1 s) in
    let live = front_live g.B.Block.contents g.B.Block.layers g.B.Block.size g.B.Block.fault_count g.B.Block.done_count _ c.self.invariant.whole c.args.number k s s within is (committing_front c.args.number s found) in
    live

pub write_area-requires-clause-few : goal.write_area-requires-clause-few
write_area-requires-clause-few g c =
    let v = c.self.inside in
    let s = c.index_mut-snap.result.now in
    let k = c.in-Some.place in
    let within : k < length v.snaps.items = omega (arith, c.in-Some.ensures.found.0, ap length c.deref.ensures.value) in
    let is = c.index_mut-snap.ensures.value in
    let found : is_committing c.args.number s ≡ true = snap_found (is_committing c.args.number) k v.snaps.items c.deref.result.now s c.deref.ensures.value is (c.in-Some.ensures.found.1 s) in
    omega (arith, c.batch-count.ensures, batch_few (32 * s.state.chunk - s.state.filled) s.copies)

pub write_area-requires-clause-ready : goal.write_area-requires-clause-ready
write_area-requires-clause-ready g c =
    let v = c.self.inside in
    let s = c.index_mut-snap.result.now in
    let k = c.in-Some.place in
    let within : k < length v.snaps.items = omega (arith, c.in-Some.ensures.found.0, ap length c.deref.ensures.value) in
    let is = c.index_mut-snap.ensures.value in
    let found : is_committing c.args.number s ≡ true = snap_found (is_committing c.args.number) k v.snaps.items c.deref.result.now s c.deref.ensures.value is (c.in-Some.ensures.found.1 s) in
    rw c.batch-count.ensures (batch_ready (32 * s.state.chunk - s.state.filled) s.copies)

pub write_area-requires-clause-fits : goal.write_area-requires-clause-fits
write_area-requires-clause-fits g c = λ more. omega (arith, more, c.batch-count.ensures)

pub write_area-requires-clause-next : goal.write_area-requires-clause-next
write_area-requires-clause-next g c =
    let v = c.self.inside in
    let s = c.index_mut-snap.result.now in
    let k = c.in-Some.place in
    let within : k < length v.snaps.items = omega (arith, c.in-Some.ensures.found.0, ap length c.deref.ensures.value) in
    let is = c.index_mut-snap.ensures.value in
    let found : is_committing c.args.number s ≡ true = snap_found (is_committing c.args.number) k v.snaps.items c.deref.result.now s c.deref.ensures.value is (c.in-Some.ensures.found.1 s) in
    rw c.batch-count.ensures (committing_next c.args.number s found)

pub invariant_of-self : goal.invariant_of-self
invariant_of-self g c = record {
  whole =
      let v = c.self.inside in
      let s = c.index_mut-snap.result.now in
      let k = c.in-Some.place in
      let within : k < length v.snaps.items = omega (arith, c.in-Some.ensures.found.0, ap length c.deref.ensures.value) in
      let is = c.index_mut-snap.ensures.value in
      let found : is_committing c.args.number s ≡ true = snap_found (is_committing c.args.number) k v.snaps.items c.deref.result.now s c.deref.ensures.value is (c.in-Some.ensures.found.1 s) in
      let op = c.in-Ok.ensures.operation in
      let good = commit_good g.B.Block.contents g.B.Block.layers g.B.Block.size g.B.Block.fault_count g.B.Block.done_count _ c.self.invariant.whole c.args.number k s c.write_area.new.self within is found c.write_area.new.self.device c.batch-count.result c.batch-count.ensures c.in-Ok.ensures.fields c.in-Ok.ensures.commits c.write_area.ensures.loud c.write_area.ensures.size op.faulty op.counted in
      good.whole;
  lasting =
      let v = c.self.inside in
      let s = c.index_mut-snap.result.now in
      let k = c.in-Some.place in
      let within : k < length v.snaps.items = omega (arith, c.in-Some.ensures.found.0, ap length c.deref.ensures.value) in
      let is = c.index_mut-snap.ensures.value in
      let found : is_committing c.args.number s ≡ true = snap_found (is_committing c.args.number) k v.snaps.items c.deref.result.now s c.deref.ensures.value is (c.in-Some.ensures.found.1 s) in
      let op = c.in-Ok.ensures.operation in
      let live = front_live g.B.Block.contents g.B.Block.layers g.B.Block.size g.B.Block.fault_count g.B.Block.done_count _ c.self.invariant.whole c.args.number k s s within is (committing_front c.args.number s found) in
      let goes = commit_moves g.B.Block.may_hold g.B.Block.contents g.B.Block.layers g.B.Block.size g.met.B.Block.whole g.met.B.Block.holds_now _ c.self.invariant.whole c.self.invariant.lasting.snaps None k s c.write_area.new.self v.flights.items within c.index_mut-snap.ensures.value c.batch-count.result live (omega (arith, c.batch-count.ensures, batch_few (32 * s.state.chunk - s.state.filled) s.copies)) (rw c.batch-count.ensures (batch_ready (32 * s.state.chunk - s.state.filled) s.copies)) (λ more. omega (arith, more, c.batch-count.ensures)) (rw c.batch-count.ensures (committing_next c.args.number s found)) c.in-Ok.ensures.fields c.in-Ok.ensures.commits c.in-Ok.ensures.written c.write_area.ensures.in_step (record { adds = c.write_area.ensures.adds; sectors = c.write_area.ensures.size; loud = c.write_area.ensures.loud }) in
      let both = beside_both g.B.Block.may_hold g.B.Block.contents g.B.Block.layers g.B.Block.size g.met.B.Block.whole g.met.B.Block.holds_now _ c.self.invariant.whole c.self.invariant.lasting None _ goes refl refl in
      record { snaps = both.lasts; merge = both.merge };
}

pub spoil-requires : goal.spoil-requires
spoil-requires g c =
    let v = c.self.inside in
    let s = c.index_mut-snap.result.now in
    let k = c.in-Some.place in
    let within : k < length v.snaps.items = omega (arith, c.in-Some.ensures.found.0, ap length c.deref.ensures.value) in
    let is = c.index_mut-snap.ensures.value in
    let found : is_committing c.args.number s ≡ true = snap_found (is_committing c.args.number) k v.snaps.items c.deref.result.now s c.deref.ensures.value is (c.in-Some.ensures.found.1 s) in
    let live = front_live g.B.Block.contents g.B.Block.layers g.B.Block.size g.B.Block.fault_count g.B.Block.done_count _ c.self.invariant.whole c.args.number k s s within is (committing_front c.args.number s found) in
    ap (λ (x : Kept _). x.live) c.in-Err.ensures.kept ∙ live

pub invariant_of-self-in-Err : goal.invariant_of-self-in-Err
invariant_of-self-in-Err g c = record {
  whole =
      let v = c.self.inside in
      let s = c.index_mut-snap.result.now in
      let k = c.in-Some.place in
      let within : k < length v.snaps.items = omega (arith, c.in-Some.ensures.found.0, ap length c.deref.ensures.value) in
      let is = c.index_mut-snap.ensures.value in
      let found : is_committing c.args.number s ≡ true = snap_found (is_committing c.args.number) k v.snaps.items c.deref.result.now s c.deref.ensures.value is (c.in-Some.ensures.found.1 s) in
      let op = c.in-Err.ensures.operation in
      let t = spoilt_device s c.write_area.new.self c.spoil.new.snap c.write_area.new.self.device c.in-Err.ensures.kept c.spoil.ensures.fields in
      let good = commit_fault g.B.Block.contents g.B.Block.layers g.B.Block.size g.B.Block.fault_count g.B.Block.done_count _ c.self.invariant.whole c.args.number k s c.spoil.new.snap within is found t.0 (ap (λ d. is_loud (g.B.Block.layers d)) t.1 ∙ c.write_area.ensures.loud) (ap g.B.Block.size t.1 ∙ c.write_area.ensures.size) (ap g.B.Block.fault_count t.1 ∙ op.faulty) (ap g.B.Block.done_count t.1 ∙ op.counted) in
      let flights : c.spoil.new.flights.items ≡ map (refused_of (s.number ∷ [])) v.flights.items = c.spoil.ensures.flights ∙ ap (λ n. map (refused_of (n ∷ [])) v.flights.items) (ap (λ (x : Kept _). x.number) c.in-Err.ensures.kept) in
      rw flights good.whole;
  lasting =
      let v = c.self.inside in
      let s = c.index_mut-snap.result.now in
      let k = c.in-Some.place in
      let within : k < length v.snaps.items = omega (arith, c.in-Some.ensures.found.0, ap length c.deref.ensures.value) in
      let is = c.index_mut-snap.ensures.value in
      let found : is_committing c.args.number s ≡ true = snap_found (is_committing c.args.number) k v.snaps.items c.deref.result.now s c.deref.ensures.value is (c.in-Some.ensures.found.1 s) in
      let op = c.in-Err.ensures.operation in
      let t = spoilt_device s c.write_area.new.self c.spoil.new.snap c.write_area.new.self.device c.in-Err.ensures.kept c.spoil.ensures.fields in
      let flights : c.spoil.new.flights.items ≡ map (refused_of (s.number ∷ [])) v.flights.items = c.spoil.ensures.flights ∙ ap (λ n. map (refused_of (n ∷ [])) v.flights.items) (ap (λ (x : Kept _). x.number) c.in-Err.ensures.kept) in
      let live = front_live g.B.Block.contents g.B.Block.layers g.B.Block.size g.B.Block.fault_count g.B.Block.done_count _ c.self.invariant.whole c.args.number k s s within is (committing_front c.args.number s found) in
      let goes = spoils_device g.B.Block.may_hold g.B.Block.contents g.B.Block.layers g.B.Block.size g.met.B.Block.whole g.met.B.Block.holds_now _ c.self.invariant.whole c.self.invariant.lasting.snaps None k s c.spoil.new.snap v.flights.items within c.index_mut-snap.ensures.value c.write_area.new.self c.in-Err.ensures.kept (record { adds = c.write_area.ensures.adds; bytes = c.in-Err.ensures.same; sectors = c.write_area.ensures.size; loud = c.write_area.ensures.loud }) live c.spoil.ensures.fields in
      let both = beside_both g.B.Block.may_hold g.B.Block.contents g.B.Block.layers g.B.Block.size g.met.B.Block.whole g.met.B.Block.holds_now _ c.self.invariant.whole c.self.invariant.lasting None _ goes refl refl in
      record { snaps = both.lasts; merge = both.merge };
}

pub returns-in-Ok-clause-step : goal.returns-in-Ok-clause-step
returns-in-Ok-clause-step g c =
    let v = c.self.inside in
    let s = c.index_mut-snap.result.now in
    let k = c.in-Some.place in
    let within : k < length v.snaps.items = omega (arith, c.in-Some.ensures.found.0, ap length c.deref.ensures.value) in
    let is = c.index_mut-snap.ensures.value in
    let found : is_committing c.args.number s ≡ true = snap_found (is_committing c.args.number) k v.snaps.items c.deref.result.now s c.deref.ensures.value is (c.in-Some.ensures.found.1 s) in
    let op = c.in-Ok.ensures.operation in
    let good = commit_good g.B.Block.contents g.B.Block.layers g.B.Block.size g.B.Block.fault_count g.B.Block.done_count _ c.self.invariant.whole c.args.number k s c.write_area.new.self within is found c.write_area.new.self.device c.batch-count.result c.batch-count.ensures c.in-Ok.ensures.fields c.in-Ok.ensures.commits c.write_area.ensures.loud c.write_area.ensures.size op.faulty op.counted in
    rw (← c.self.view_is) good.stepped

pub returns-in-Ok-clause-exact : goal.returns-in-Ok-clause-exact
returns-in-Ok-clause-exact g c =
    let v = c.self.inside in
    let s = c.index_mut-snap.result.now in
    let k = c.in-Some.place in
    let within : k < length v.snaps.items = omega (arith, c.in-Some.ensures.found.0, ap length c.deref.ensures.value) in
    let is = c.index_mut-snap.ensures.value in
    let found : is_committing c.args.number s ≡ true = snap_found (is_committing c.args.number) k v.snaps.items c.deref.result.now s c.deref.ensures.value is (c.in-Some.ensures.found.1 s) in
    let op = c.in-Ok.ensures.operation in
    rw (← c.self.view_is) (area_exact g.B.Block.contents g.B.Block.layers g.B.Block.size _ c.self.invariant.whole c.args.number k s within c.index_mut-snap.ensures.value _ _ _ _ found c.batch-count.result c.batch-count.ensures c.write_area.new.self op c.in-Ok.ensures.written c.in-Ok.ensures.fields)

pub returns-in-Ok-clause-due : goal.returns-in-Ok-clause-due
returns-in-Ok-clause-due g c =
    let v = c.self.inside in
    let s = c.index_mut-snap.result.now in
    let k = c.in-Some.place in
    let within : k < length v.snaps.items = omega (arith, c.in-Some.ensures.found.0, ap length c.deref.ensures.value) in
    let is = c.index_mut-snap.ensures.value in
    let found : is_committing c.args.number s ≡ true = snap_found (is_committing c.args.number) k v.snaps.items c.deref.result.now s c.deref.ensures.value is (c.in-Some.ensures.found.1 s) in
    rw (← c.self.view_is) (sym (due_by g.B.Block.contents g.B.Block.layers _ (is_committing c.args.number) v.snaps.items v.snaps.items true refl (λ s. refl) (snap_due (is_committing c.args.number) k v.snaps.items s within is found)))

pub returns-in-Err-clause-step : goal.returns-in-Err-clause-step
returns-in-Err-clause-step g c =
    let v = c.self.inside in
    let s = c.index_mut-snap.result.now in
    let k = c.in-Some.place in
    let within : k < length v.snaps.items = omega (arith, c.in-Some.ensures.found.0, ap length c.deref.ensures.value) in
    let is = c.index_mut-snap.ensures.value in
    let found : is_committing c.args.number s ≡ true = snap_found (is_committing c.args.number) k v.snaps.items c.deref.result.now s c.deref.ensures.value is (c.in-Some.ensures.found.1 s) in
    let op = c.in-Err.ensures.operation in
    let t = spoilt_device s c.write_area.new.self c.spoil.new.snap c.write_area.new.self.device c.in-Err.ensures.kept c.spoil.ensures.fields in
    let good = commit_fault g.B.Block.contents g.B.Block.layers g.B.Block.size g.B.Block.fault_count g.B.Block.done_count _ c.self.invariant.whole c.args.number k s c.spoil.new.snap within is found t.0 (ap (λ d. is_loud (g.B.Block.layers d)) t.1 ∙ c.write_area.ensures.loud) (ap g.B.Block.size t.1 ∙ c.write_area.ensures.size) (ap g.B.Block.fault_count t.1 ∙ op.faulty) (ap g.B.Block.done_count t.1 ∙ op.counted) in
    let flights : c.spoil.new.flights.items ≡ map (refused_of (s.number ∷ [])) v.flights.items = c.spoil.ensures.flights ∙ ap (λ n. map (refused_of (n ∷ [])) v.flights.items) (ap (λ (x : Kept _). x.number) c.in-Err.ensures.kept) in
    rw (← c.self.view_is, flights) good.stepped

pub returns-in-Err-clause-exact : goal.returns-in-Err-clause-exact
returns-in-Err-clause-exact g c =
    let v = c.self.inside in
    let s = c.index_mut-snap.result.now in
    let k = c.in-Some.place in
    let within : k < length v.snaps.items = omega (arith, c.in-Some.ensures.found.0, ap length c.deref.ensures.value) in
    let is = c.index_mut-snap.ensures.value in
    let found : is_committing c.args.number s ≡ true = snap_found (is_committing c.args.number) k v.snaps.items c.deref.result.now s c.deref.ensures.value is (c.in-Some.ensures.found.1 s) in
    let op = c.in-Err.ensures.operation in
    let flights : c.spoil.new.flights.items ≡ map (refused_of (s.number ∷ [])) v.flights.items = c.spoil.ensures.flights ∙ ap (λ n. map (refused_of (n ∷ [])) v.flights.items) (ap (λ (x : Kept _). x.number) c.in-Err.ensures.kept) in
    rw (← c.self.view_is, flights) (area_fault_exact g.B.Block.contents g.B.Block.layers g.B.Block.size _ c.self.invariant.whole c.args.number k s within c.index_mut-snap.ensures.value _ _ _ _ found c.batch-count.result c.batch-count.ensures c.write_area.new.self c.spoil.new.snap op c.in-Err.ensures.same c.in-Err.ensures.kept c.spoil.ensures.fields)

pub returns-in-Err-clause-due : goal.returns-in-Err-clause-due
returns-in-Err-clause-due g c =
    let v = c.self.inside in
    let s = c.index_mut-snap.result.now in
    let k = c.in-Some.place in
    let within : k < length v.snaps.items = omega (arith, c.in-Some.ensures.found.0, ap length c.deref.ensures.value) in
    let is = c.index_mut-snap.ensures.value in
    let found : is_committing c.args.number s ≡ true = snap_found (is_committing c.args.number) k v.snaps.items c.deref.result.now s c.deref.ensures.value is (c.in-Some.ensures.found.1 s) in
    rw (← c.self.view_is) (sym (due_by g.B.Block.contents g.B.Block.layers _ (is_committing c.args.number) v.snaps.items v.snaps.items true refl (λ s. refl) (snap_due (is_committing c.args.number) k v.snaps.items s within is found)))

pub returns-in-None-clause-due : goal.returns-in-None-clause-due
returns-in-None-clause-due g c =
    rw (← c.self.view_is) (sym (due_by g.B.Block.contents g.B.Block.layers _ (is_committing c.args.number) c.self.inside.snaps.items c.deref.result.now false c.deref.ensures.value (λ s. refl) c.in-None.ensures.none))

pub returns-in-Ok-clause-stops_snaps : goal.returns-in-Ok-clause-stops_snaps
returns-in-Ok-clause-stops_snaps g c =
    let v = c.self.inside in
    let s = c.index_mut-snap.result.now in
    let k = c.in-Some.place in
    let within : k < length v.snaps.items = omega (arith, c.in-Some.ensures.found.0, ap length c.deref.ensures.value) in
    let is = c.index_mut-snap.ensures.value in
    let found : is_committing c.args.number s ≡ true = snap_found (is_committing c.args.number) k v.snaps.items c.deref.result.now s c.deref.ensures.value is (c.in-Some.ensures.found.1 s) in
    let op = c.in-Ok.ensures.operation in
    let live = front_live g.B.Block.contents g.B.Block.layers g.B.Block.size g.B.Block.fault_count g.B.Block.done_count _ c.self.invariant.whole c.args.number k s s within is (committing_front c.args.number s found) in
    let goes = commit_moves g.B.Block.may_hold g.B.Block.contents g.B.Block.layers g.B.Block.size g.met.B.Block.whole g.met.B.Block.holds_now _ c.self.invariant.whole c.self.invariant.lasting.snaps None k s c.write_area.new.self v.flights.items within c.index_mut-snap.ensures.value c.batch-count.result live (omega (arith, c.batch-count.ensures, batch_few (32 * s.state.chunk - s.state.filled) s.copies)) (rw c.batch-count.ensures (batch_ready (32 * s.state.chunk - s.state.filled) s.copies)) (λ more. omega (arith, more, c.batch-count.ensures)) (rw c.batch-count.ensures (committing_next c.args.number s found)) c.in-Ok.ensures.fields c.in-Ok.ensures.commits c.in-Ok.ensures.written c.write_area.ensures.in_step (record { adds = c.write_area.ensures.adds; sectors = c.write_area.ensures.size; loud = c.write_area.ensures.loud }) in
    let both = beside_both g.B.Block.may_hold g.B.Block.contents g.B.Block.layers g.B.Block.size g.met.B.Block.whole g.met.B.Block.holds_now _ c.self.invariant.whole c.self.invariant.lasting None _ goes refl refl in
    rw (← c.self.view_is) both.stops_snaps

pub returns-in-Ok-clause-stops_origin : goal.returns-in-Ok-clause-stops_origin
returns-in-Ok-clause-stops_origin g c =
    let v = c.self.inside in
    let s = c.index_mut-snap.result.now in
    let k = c.in-Some.place in
    let within : k < length v.snaps.items = omega (arith, c.in-Some.ensures.found.0, ap length c.deref.ensures.value) in
    let is = c.index_mut-snap.ensures.value in
    let found : is_committing c.args.number s ≡ true = snap_found (is_committing c.args.number) k v.snaps.items c.deref.result.now s c.deref.ensures.value is (c.in-Some.ensures.found.1 s) in
    let op = c.in-Ok.ensures.operation in
    let live = front_live g.B.Block.contents g.B.Block.layers g.B.Block.size g.B.Block.fault_count g.B.Block.done_count _ c.self.invariant.whole c.args.number k s s within is (committing_front c.args.number s found) in
    let goes = commit_moves g.B.Block.may_hold g.B.Block.contents g.B.Block.layers g.B.Block.size g.met.B.Block.whole g.met.B.Block.holds_now _ c.self.invariant.whole c.self.invariant.lasting.snaps None k s c.write_area.new.self v.flights.items within c.index_mut-snap.ensures.value c.batch-count.result live (omega (arith, c.batch-count.ensures, batch_few (32 * s.state.chunk - s.state.filled) s.copies)) (rw c.batch-count.ensures (batch_ready (32 * s.state.chunk - s.state.filled) s.copies)) (λ more. omega (arith, more, c.batch-count.ensures)) (rw c.batch-count.ensures (committing_next c.args.number s found)) c.in-Ok.ensures.fields c.in-Ok.ensures.commits c.in-Ok.ensures.written c.write_area.ensures.in_step (record { adds = c.write_area.ensures.adds; sectors = c.write_area.ensures.size; loud = c.write_area.ensures.loud }) in
    let both = beside_both g.B.Block.may_hold g.B.Block.contents g.B.Block.layers g.B.Block.size g.met.B.Block.whole g.met.B.Block.holds_now _ c.self.invariant.whole c.self.invariant.lasting None _ goes refl refl in
    rw (← c.self.view_is) both.stops_origin

pub returns-in-Err-clause-stops_snaps : goal.returns-in-Err-clause-stops_snaps
returns-in-Err-clause-stops_snaps g c =
    let v = c.self.inside in
    let s = c.index_mut-snap.result.now in
    let k = c.in-Some.place in
    let within : k < length v.snaps.items = omega (arith, c.in-Some.ensures.found.0, ap length c.deref.ensures.value) in
    let is = c.index_mut-snap.ensures.value in
    let found : is_committing c.args.number s ≡ true = snap_found (is_committing c.args.number) k v.snaps.items c.deref.result.now s c.deref.ensures.value is (c.in-Some.ensures.found.1 s) in
    let op = c.in-Err.ensures.operation in
    let t = spoilt_device s c.write_area.new.self c.spoil.new.snap c.write_area.new.self.device c.in-Err.ensures.kept c.spoil.ensures.fields in
    let flights : c.spoil.new.flights.items ≡ map (refused_of (s.number ∷ [])) v.flights.items = c.spoil.ensures.flights ∙ ap (λ n. map (refused_of (n ∷ [])) v.flights.items) (ap (λ (x : Kept _). x.number) c.in-Err.ensures.kept) in
    let live = front_live g.B.Block.contents g.B.Block.layers g.B.Block.size g.B.Block.fault_count g.B.Block.done_count _ c.self.invariant.whole c.args.number k s s within is (committing_front c.args.number s found) in
    let goes = spoils_device g.B.Block.may_hold g.B.Block.contents g.B.Block.layers g.B.Block.size g.met.B.Block.whole g.met.B.Block.holds_now _ c.self.invariant.whole c.self.invariant.lasting.snaps None k s c.spoil.new.snap v.flights.items within c.index_mut-snap.ensures.value c.write_area.new.self c.in-Err.ensures.kept (record { adds = c.write_area.ensures.adds; bytes = c.in-Err.ensures.same; sectors = c.write_area.ensures.size; loud = c.write_area.ensures.loud }) live c.spoil.ensures.fields in
    let both = beside_both g.B.Block.may_hold g.B.Block.contents g.B.Block.layers g.B.Block.size g.met.B.Block.whole g.met.B.Block.holds_now _ c.self.invariant.whole c.self.invariant.lasting None _ goes refl refl in
    rw (← c.self.view_is) both.stops_snaps

pub returns-in-Err-clause-stops_origin : goal.returns-in-Err-clause-stops_origin
returns-in-Err-clause-stops_origin g c =
    let v = c.self.inside in
    let s = c.index_mut-snap.result.now in
    let k = c.in-Some.place in
    let within : k < length v.snaps.items = omega (arith, c.in-Some.ensures.found.0, ap length c.deref.ensures.value) in
    let is = c.index_mut-snap.ensures.value in
    let found : is_committing c.args.number s ≡ true = snap_found (is_committing c.args.number) k v.snaps.items c.deref.result.now s c.deref.ensures.value is (c.in-Some.ensures.found.1 s) in
    let op = c.in-Err.ensures.operation in
    let t = spoilt_device s c.write_area.new.self c.spoil.new.snap c.write_area.new.self.device c.in-Err.ensures.kept c.spoil.ensures.fields in
    let flights : c.spoil.new.flights.items ≡ map (refused_of (s.number ∷ [])) v.flights.items = c.spoil.ensures.flights ∙ ap (λ n. map (refused_of (n ∷ [])) v.flights.items) (ap (λ (x : Kept _). x.number) c.in-Err.ensures.kept) in
    let live = front_live g.B.Block.contents g.B.Block.layers g.B.Block.size g.B.Block.fault_count g.B.Block.done_count _ c.self.invariant.whole c.args.number k s s within is (committing_front c.args.number s found) in
    let goes = spoils_device g.B.Block.may_hold g.B.Block.contents g.B.Block.layers g.B.Block.size g.met.B.Block.whole g.met.B.Block.holds_now _ c.self.invariant.whole c.self.invariant.lasting.snaps None k s c.spoil.new.snap v.flights.items within c.index_mut-snap.ensures.value c.write_area.new.self c.in-Err.ensures.kept (record { adds = c.write_area.ensures.adds; bytes = c.in-Err.ensures.same; sectors = c.write_area.ensures.size; loud = c.write_area.ensures.loud }) live c.spoil.ensures.fields in
    let both = beside_both g.B.Block.may_hold g.B.Block.contents g.B.Block.layers g.B.Block.size g.met.B.Block.whole g.met.B.Block.holds_now _ c.self.invariant.whole c.self.invariant.lasting None _ goes refl refl in
    rw (← c.self.view_is) both.stops_origin
