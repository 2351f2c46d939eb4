-- The next area is zeroed, or its snapshot is spoiled.
use Rattle.std.proofs.Common.{◌≡◌, ◌<◌, true, false, refl, sym, ◌∙◌, ap, length, arith, map, ◌∷◌, []}
use Rattle.device.specs.Layers.{is_loud}
use Rattle.in_flight.specs.Routes.{refused_of}
use Rattle.snapshot.specs.Kept.{Kept}
use Rattle.snapshot_list.specs.Finding.{is_zeroing}
use Rattle.volume.proofs.DueEvents.{due_by, snap_found, snap_due}
use Rattle.volume.proofs.Spoilt.{spoilt_device}
use Rattle.volume.proofs.StoreEvents.{zero_good, zero_fault, zero_lacks, front_live, zeroing_front, zeroing_due, first_some}
use Rattle.volume.proofs.Exactly.{zero_exact, zero_fault_exact, zero_lacks_exact}
use Rattle.volume.proofs.LastMoves.{zero_moves, spoils_device}
use Rattle.volume.proofs.LastBoth.{beside_both}
use Rattle.volume.proofs.LastOne.{same_device}
use Rattle.volume.proofs.LastFound.{zeroing_loose}
use Rattle.std.specs.Prelude.{None}
use Rattle.volume.proofs.volume.Volume.zero_next.Goals as goal

pub spoil-requires : goal.spoil-requires
spoil-requires g c =
    let v = c.self.inside in
    let s = c.index_mut-snap.result.now in
    let k = c.in-Some.place in
    let within : k < length v.snaps.items = omega (arith, c.in-Some.ensures.found.0, ap length c.deref.ensures.value) in
    let is = c.index_mut-snap.ensures.value in
    let found : is_zeroing c.args.number s ≡ true = snap_found (is_zeroing c.args.number) k v.snaps.items c.deref.result.now s c.deref.ensures.value is (c.in-Some.ensures.found.1 s) in
    let live = front_live g.B.Block.contents g.B.Block.layers g.B.Block.size g.B.Block.fault_count g.B.Block.done_count _ c.self.invariant.whole c.args.number k s s within is (zeroing_front c.args.number s found) in
    live

pub invariant_of-self : goal.invariant_of-self
invariant_of-self g c = record {
  whole =
      let v = c.self.inside in
      let s = c.index_mut-snap.result.now in
      let k = c.in-Some.place in
      let within : k < length v.snaps.items = omega (arith, c.in-Some.ensures.found.0, ap length c.deref.ensures.value) in
      let is = c.index_mut-snap.ensures.value in
      let found : is_zeroing c.args.number s ≡ true = snap_found (is_zeroing c.args.number) k v.snaps.items c.deref.result.now s c.deref.ensures.value is (c.in-Some.ensures.found.1 s) in
      let t = spoilt_device s s c.spoil.new.snap s.device refl c.spoil.ensures.fields in
      let good = zero_lacks g.B.Block.contents g.B.Block.layers g.B.Block.size g.B.Block.fault_count g.B.Block.done_count _ c.self.invariant.whole c.args.number k s c.spoil.new.snap within is found t.0 t.1 c.if-lacks_next_area.ensures in
      rw c.spoil.ensures.flights good.whole;
  lasting =
      let v = c.self.inside in
      let s = c.index_mut-snap.result.now in
      let k = c.in-Some.place in
      let within : k < length v.snaps.items = omega (arith, c.in-Some.ensures.found.0, ap length c.deref.ensures.value) in
      let is = c.index_mut-snap.ensures.value in
      let found : is_zeroing c.args.number s ≡ true = snap_found (is_zeroing c.args.number) k v.snaps.items c.deref.result.now s c.deref.ensures.value is (c.in-Some.ensures.found.1 s) in
      let t = spoilt_device s s c.spoil.new.snap s.device refl c.spoil.ensures.fields in
      let live = front_live g.B.Block.contents g.B.Block.layers g.B.Block.size g.B.Block.fault_count g.B.Block.done_count _ c.self.invariant.whole c.args.number k s s within is (zeroing_front c.args.number s found) in
      let goes = spoils_device g.B.Block.may_hold g.B.Block.contents g.B.Block.layers g.B.Block.size g.met.B.Block.whole g.met.B.Block.holds_now _ c.self.invariant.whole c.self.invariant.lasting.snaps None k s c.spoil.new.snap v.flights.items within c.index_mut-snap.ensures.value s refl (same_device g.B.Block.may_hold g.B.Block.contents g.B.Block.layers g.B.Block.size g.met.B.Block.whole g.met.B.Block.holds_now s.device) live c.spoil.ensures.fields in
      let both = beside_both g.B.Block.may_hold g.B.Block.contents g.B.Block.layers g.B.Block.size g.met.B.Block.whole g.met.B.Block.holds_now _ c.self.invariant.whole c.self.invariant.lasting None _ goes refl refl in
      record { snaps = both.lasts; merge = both.merge };
}

pub returns-then-lacks_next_area-clause-step : goal.returns-then-lacks_next_area-clause-step
returns-then-lacks_next_area-clause-step g c =
    let v = c.self.inside in
    let s = c.index_mut-snap.result.now in
    let k = c.in-Some.place in
    let within : k < length v.snaps.items = omega (arith, c.in-Some.ensures.found.0, ap length c.deref.ensures.value) in
    let is = c.index_mut-snap.ensures.value in
    let found : is_zeroing c.args.number s ≡ true = snap_found (is_zeroing c.args.number) k v.snaps.items c.deref.result.now s c.deref.ensures.value is (c.in-Some.ensures.found.1 s) in
    let t = spoilt_device s s c.spoil.new.snap s.device refl c.spoil.ensures.fields in
    let good = zero_lacks g.B.Block.contents g.B.Block.layers g.B.Block.size g.B.Block.fault_count g.B.Block.done_count _ c.self.invariant.whole c.args.number k s c.spoil.new.snap within is found t.0 t.1 c.if-lacks_next_area.ensures in
    rw (← c.self.view_is, c.spoil.ensures.flights) good.stepped

pub returns-then-lacks_next_area-clause-exact : goal.returns-then-lacks_next_area-clause-exact
returns-then-lacks_next_area-clause-exact g c =
    let v = c.self.inside in
    let s = c.index_mut-snap.result.now in
    let k = c.in-Some.place in
    let within : k < length v.snaps.items = omega (arith, c.in-Some.ensures.found.0, ap length c.deref.ensures.value) in
    let is = c.index_mut-snap.ensures.value in
    let found : is_zeroing c.args.number s ≡ true = snap_found (is_zeroing c.args.number) k v.snaps.items c.deref.result.now s c.deref.ensures.value is (c.in-Some.ensures.found.1 s) in
    rw (← c.self.view_is, c.spoil.ensures.flights) (zero_lacks_exact g.B.Block.contents g.B.Block.layers g.B.Block.size _ c.self.invariant.whole c.args.number k s within c.index_mut-snap.ensures.value 0 0 0 0 found c.spoil.new.snap c.if-lacks_next_area.ensures c.spoil.ensures.fields)

pub returns-then-lacks_next_area-clause-due : goal.returns-then-lacks_next_area-clause-due
returns-then-lacks_next_area-clause-due g c =
    let v = c.self.inside in
    let s = c.index_mut-snap.result.now in
    let k = c.in-Some.place in
    let within : k < length v.snaps.items = omega (arith, c.in-Some.ensures.found.0, ap length c.deref.ensures.value) in
    let is = c.index_mut-snap.ensures.value in
    let found : is_zeroing c.args.number s ≡ true = snap_found (is_zeroing c.args.number) k v.snaps.items c.deref.result.now s c.deref.ensures.value is (c.in-Some.ensures.found.1 s) in
    rw (← c.self.view_is) (sym (due_by g.B.Block.contents g.B.Block.layers _ (is_zeroing c.args.number) v.snaps.items v.snaps.items true refl (λ s. refl) (snap_due (is_zeroing c.args.number) k v.snaps.items s within is found)))

pub zero_next-requires-clause-live : goal.zero_next-requires-clause-live
zero_next-requires-clause-live g c =
    let v = c.self.inside in
    let s = c.index_mut-snap.result.now in
    let k = c.in-Some.place in
    let within : k < length v.snaps.items = omega (arith, c.in-Some.ensures.found.0, ap length c.deref.ensures.value) in
    let is = c.index_mut-snap.ensures.value in
    let found : is_zeroing c.args.number s ≡ true = snap_found (is_zeroing c.args.number) k v.snaps.items c.deref.result.now s c.deref.ensures.value is (c.in-Some.ensures.found.1 s) in
    let live = front_live g.B.Block.contents g.B.Block.layers g.B.Block.size g.B.Block.fault_count g.B.Block.done_count _ c.self.invariant.whole c.args.number k s s within is (zeroing_front c.args.number s found) in
    live

pub zero_next-requires-clause-some : goal.zero_next-requires-clause-some
zero_next-requires-clause-some g c =
    let v = c.self.inside in
    let s = c.index_mut-snap.result.now in
    let k = c.in-Some.place in
    let is = c.index_mut-snap.ensures.value in
    let found : is_zeroing c.args.number s ≡ true = snap_found (is_zeroing c.args.number) k v.snaps.items c.deref.result.now s c.deref.ensures.value is (c.in-Some.ensures.found.1 s) in
    first_some s.copies (zeroing_front c.args.number s found)

pub zero_next-requires-clause-due : goal.zero_next-requires-clause-due
zero_next-requires-clause-due g c =
    let v = c.self.inside in
    let s = c.index_mut-snap.result.now in
    let k = c.in-Some.place in
    let is = c.index_mut-snap.ensures.value in
    let found : is_zeroing c.args.number s ≡ true = snap_found (is_zeroing c.args.number) k v.snaps.items c.deref.result.now s c.deref.ensures.value is (c.in-Some.ensures.found.1 s) in
    zeroing_due c.args.number s found

pub invariant_of-self-in-Ok : goal.invariant_of-self-in-Ok
invariant_of-self-in-Ok g c = record {
  whole =
      let v = c.self.inside in
      let s = c.index_mut-snap.result.now in
      let k = c.in-Some.place in
      let within : k < length v.snaps.items = omega (arith, c.in-Some.ensures.found.0, ap length c.deref.ensures.value) in
      let is = c.index_mut-snap.ensures.value in
      let found : is_zeroing c.args.number s ≡ true = snap_found (is_zeroing c.args.number) k v.snaps.items c.deref.result.now s c.deref.ensures.value is (c.in-Some.ensures.found.1 s) in
      let op = c.in-Ok.ensures.operation in
      let good = zero_good g.B.Block.contents g.B.Block.layers g.B.Block.size g.B.Block.fault_count g.B.Block.done_count _ c.self.invariant.whole c.args.number k s c.zero_next.new.self within is found c.zero_next.ensures.ahead c.zero_next.new.self.device c.in-Ok.ensures.fields c.in-Ok.ensures.zeroes c.zero_next.ensures.loud c.zero_next.ensures.size op.faulty op.counted in
      good.whole;
  lasting =
      let v = c.self.inside in
      let s = c.index_mut-snap.result.now in
      let k = c.in-Some.place in
      let within : k < length v.snaps.items = omega (arith, c.in-Some.ensures.found.0, ap length c.deref.ensures.value) in
      let is = c.index_mut-snap.ensures.value in
      let found : is_zeroing c.args.number s ≡ true = snap_found (is_zeroing c.args.number) k v.snaps.items c.deref.result.now s c.deref.ensures.value is (c.in-Some.ensures.found.1 s) in
      let op = c.in-Ok.ensures.operation in
      let live = front_live g.B.Block.contents g.B.Block.layers g.B.Block.size g.B.Block.fault_count g.B.Block.done_count _ c.self.invariant.whole c.args.number k s s within is (zeroing_front c.args.number s found) in
      let goes = zero_moves g.B.Block.may_hold g.B.Block.contents g.B.Block.layers g.B.Block.size g.met.B.Block.whole g.met.B.Block.holds_now _ c.self.invariant.whole c.self.invariant.lasting.snaps None k s c.zero_next.new.self v.flights.items within c.index_mut-snap.ensures.value live c.in-Ok.ensures.fields c.in-Ok.ensures.zeroes c.in-Ok.ensures.written (zeroing_loose c.args.number s found c.zero_next.ensures.ahead) c.if-lacks_next_area.ensures (record { adds = c.zero_next.ensures.adds; sectors = c.zero_next.ensures.size; loud = c.zero_next.ensures.loud }) in
      let both = beside_both g.B.Block.may_hold g.B.Block.contents g.B.Block.layers g.B.Block.size g.met.B.Block.whole g.met.B.Block.holds_now _ c.self.invariant.whole c.self.invariant.lasting None _ goes refl refl in
      record { snaps = both.lasts; merge = both.merge };
}

pub spoil-requires-in-Err : goal.spoil-requires-in-Err
spoil-requires-in-Err g c =
    let v = c.self.inside in
    let s = c.index_mut-snap.result.now in
    let k = c.in-Some.place in
    let within : k < length v.snaps.items = omega (arith, c.in-Some.ensures.found.0, ap length c.deref.ensures.value) in
    let is = c.index_mut-snap.ensures.value in
    let found : is_zeroing c.args.number s ≡ true = snap_found (is_zeroing c.args.number) k v.snaps.items c.deref.result.now s c.deref.ensures.value is (c.in-Some.ensures.found.1 s) in
    let live = front_live g.B.Block.contents g.B.Block.layers g.B.Block.size g.B.Block.fault_count g.B.Block.done_count _ c.self.invariant.whole c.args.number k s s within is (zeroing_front c.args.number s found) in
    ap (λ (x : Kept _). x.live) c.in-Err.ensures.kept ∙ live

pub invariant_of-self-in-Err : goal.invariant_of-self-in-Err
invariant_of-self-in-Err g c = record {
  whole =
      let v = c.self.inside in
      let s = c.index_mut-snap.result.now in
      let k = c.in-Some.place in
      let within : k < length v.snaps.items = omega (arith, c.in-Some.ensures.found.0, ap length c.deref.ensures.value) in
      let is = c.index_mut-snap.ensures.value in
      let found : is_zeroing c.args.number s ≡ true = snap_found (is_zeroing c.args.number) k v.snaps.items c.deref.result.now s c.deref.ensures.value is (c.in-Some.ensures.found.1 s) in
      let op = c.in-Err.ensures.operation in
      let t = spoilt_device s c.zero_next.new.self c.spoil-in-Err.new.snap c.zero_next.new.self.device c.in-Err.ensures.kept c.spoil-in-Err.ensures.fields in
      let good = zero_fault g.B.Block.contents g.B.Block.layers g.B.Block.size g.B.Block.fault_count g.B.Block.done_count _ c.self.invariant.whole c.args.number k s c.spoil-in-Err.new.snap within is found c.if-lacks_next_area.ensures t.0 (ap (λ d. is_loud (g.B.Block.layers d)) t.1 ∙ c.zero_next.ensures.loud) (ap g.B.Block.size t.1 ∙ c.zero_next.ensures.size) (ap g.B.Block.fault_count t.1 ∙ op.faulty) (ap g.B.Block.done_count t.1 ∙ op.counted) in
      let flights : c.spoil-in-Err.new.flights.items ≡ map (refused_of (s.number ∷ [])) v.flights.items = c.spoil-in-Err.ensures.flights ∙ ap (λ n. map (refused_of (n ∷ [])) v.flights.items) (ap (λ (x : Kept _). x.number) c.in-Err.ensures.kept) in
      rw flights good.whole;
  lasting =
      let v = c.self.inside in
      let s = c.index_mut-snap.result.now in
      let k = c.in-Some.place in
      let within : k < length v.snaps.items = omega (arith, c.in-Some.ensures.found.0, ap length c.deref.ensures.value) in
      let is = c.index_mut-snap.ensures.value in
      let found : is_zeroing c.args.number s ≡ true = snap_found (is_zeroing c.args.number) k v.snaps.items c.deref.result.now s c.deref.ensures.value is (c.in-Some.ensures.found.1 s) in
      let op = c.in-Err.ensures.operation in
      let t = spoilt_device s c.zero_next.new.self c.spoil-in-Err.new.snap c.zero_next.new.self.device c.in-Err.ensures.kept c.spoil-in-Err.ensures.fields in
      let flights : c.spoil-in-Err.new.flights.items ≡ map (refused_of (s.number ∷ [])) v.flights.items = c.spoil-in-Err.ensures.flights ∙ ap (λ n. map (refused_of (n ∷ [])) v.flights.items) (ap (λ (x : Kept _). x.number) c.in-Err.ensures.kept) in
      let live = front_live g.B.Block.contents g.B.Block.layers g.B.Block.size g.B.Block.fault_count g.B.Block.done_count _ c.self.invariant.whole c.args.number k s s within is (zeroing_front c.args.number s found) in
      let goes = spoils_device g.B.Block.may_hold g.B.Block.contents g.B.Block.layers g.B.Block.size g.met.B.Block.whole g.met.B.Block.holds_now _ c.self.invariant.whole c.self.invariant.lasting.snaps None k s c.spoil-in-Err.new.snap v.flights.items within c.index_mut-snap.ensures.value c.zero_next.new.self c.in-Err.ensures.kept (record { adds = c.zero_next.ensures.adds; bytes = c.in-Err.ensures.same; sectors = c.zero_next.ensures.size; loud = c.zero_next.ensures.loud }) live c.spoil-in-Err.ensures.fields in
      let both = beside_both g.B.Block.may_hold g.B.Block.contents g.B.Block.layers g.B.Block.size g.met.B.Block.whole g.met.B.Block.holds_now _ c.self.invariant.whole c.self.invariant.lasting None _ goes refl refl in
      record { snaps = both.lasts; merge = both.merge };
}

pub returns-in-Ok-clause-step : goal.returns-in-Ok-clause-step
returns-in-Ok-clause-step g c =
    let v = c.self.inside in
    let s = c.index_mut-snap.result.now in
    let k = c.in-Some.place in
    let within : k < length v.snaps.items = omega (arith, c.in-Some.ensures.found.0, ap length c.deref.ensures.value) in
    let is = c.index_mut-snap.ensures.value in
    let found : is_zeroing c.args.number s ≡ true = snap_found (is_zeroing c.args.number) k v.snaps.items c.deref.result.now s c.deref.ensures.value is (c.in-Some.ensures.found.1 s) in
    let op = c.in-Ok.ensures.operation in
    let good = zero_good g.B.Block.contents g.B.Block.layers g.B.Block.size g.B.Block.fault_count g.B.Block.done_count _ c.self.invariant.whole c.args.number k s c.zero_next.new.self within is found c.zero_next.ensures.ahead c.zero_next.new.self.device c.in-Ok.ensures.fields c.in-Ok.ensures.zeroes c.zero_next.ensures.loud c.zero_next.ensures.size op.faulty op.counted in
    rw (← c.self.view_is) good.stepped

pub returns-in-Ok-clause-exact : goal.returns-in-Ok-clause-exact
returns-in-Ok-clause-exact g c =
    let v = c.self.inside in
    let s = c.index_mut-snap.result.now in
    let k = c.in-Some.place in
    let within : k < length v.snaps.items = omega (arith, c.in-Some.ensures.found.0, ap length c.deref.ensures.value) in
    let is = c.index_mut-snap.ensures.value in
    let found : is_zeroing c.args.number s ≡ true = snap_found (is_zeroing c.args.number) k v.snaps.items c.deref.result.now s c.deref.ensures.value is (c.in-Some.ensures.found.1 s) in
    let op = c.in-Ok.ensures.operation in
    rw (← c.self.view_is) (zero_exact g.B.Block.contents g.B.Block.layers g.B.Block.size _ c.self.invariant.whole c.args.number k s within c.index_mut-snap.ensures.value _ _ _ _ found c.zero_next.new.self c.if-lacks_next_area.ensures c.in-Ok.ensures.operation c.in-Ok.ensures.written c.in-Ok.ensures.fields)

pub returns-in-Ok-clause-due : goal.returns-in-Ok-clause-due
returns-in-Ok-clause-due g c =
    let v = c.self.inside in
    let s = c.index_mut-snap.result.now in
    let k = c.in-Some.place in
    let within : k < length v.snaps.items = omega (arith, c.in-Some.ensures.found.0, ap length c.deref.ensures.value) in
    let is = c.index_mut-snap.ensures.value in
    let found : is_zeroing c.args.number s ≡ true = snap_found (is_zeroing c.args.number) k v.snaps.items c.deref.result.now s c.deref.ensures.value is (c.in-Some.ensures.found.1 s) in
    rw (← c.self.view_is) (sym (due_by g.B.Block.contents g.B.Block.layers _ (is_zeroing c.args.number) v.snaps.items v.snaps.items true refl (λ s. refl) (snap_due (is_zeroing c.args.number) k v.snaps.items s within is found)))

pub returns-in-Err-clause-step : goal.returns-in-Err-clause-step
returns-in-Err-clause-step g c =
    let v = c.self.inside in
    let s = c.index_mut-snap.result.now in
    let k = c.in-Some.place in
    let within : k < length v.snaps.items = omega (arith, c.in-Some.ensures.found.0, ap length c.deref.ensures.value) in
    let is = c.index_mut-snap.ensures.value in
    let found : is_zeroing c.args.number s ≡ true = snap_found (is_zeroing c.args.number) k v.snaps.items c.deref.result.now s c.deref.ensures.value is (c.in-Some.ensures.found.1 s) in
    let op = c.in-Err.ensures.operation in
    let t = spoilt_device s c.zero_next.new.self c.spoil-in-Err.new.snap c.zero_next.new.self.device c.in-Err.ensures.kept c.spoil-in-Err.ensures.fields in
    let good = zero_fault g.B.Block.contents g.B.Block.layers g.B.Block.size g.B.Block.fault_count g.B.Block.done_count _ c.self.invariant.whole c.args.number k s c.spoil-in-Err.new.snap within is found c.if-lacks_next_area.ensures t.0 (ap (λ d. is_loud (g.B.Block.layers d)) t.1 ∙ c.zero_next.ensures.loud) (ap g.B.Block.size t.1 ∙ c.zero_next.ensures.size) (ap g.B.Block.fault_count t.1 ∙ op.faulty) (ap g.B.Block.done_count t.1 ∙ op.counted) in
    let flights : c.spoil-in-Err.new.flights.items ≡ map (refused_of (s.number ∷ [])) v.flights.items = c.spoil-in-Err.ensures.flights ∙ ap (λ n. map (refused_of (n ∷ [])) v.flights.items) (ap (λ (x : Kept _). x.number) c.in-Err.ensures.kept) in
    rw (← c.self.view_is, flights) good.stepped

pub returns-in-Err-clause-exact : goal.returns-in-Err-clause-exact
returns-in-Err-clause-exact g c =
    let v = c.self.inside in
    let s = c.index_mut-snap.result.now in
    let k = c.in-Some.place in
    let within : k < length v.snaps.items = omega (arith, c.in-Some.ensures.found.0, ap length c.deref.ensures.value) in
    let is = c.index_mut-snap.ensures.value in
    let found : is_zeroing c.args.number s ≡ true = snap_found (is_zeroing c.args.number) k v.snaps.items c.deref.result.now s c.deref.ensures.value is (c.in-Some.ensures.found.1 s) in
    let op = c.in-Err.ensures.operation in
    let flights : c.spoil-in-Err.new.flights.items ≡ map (refused_of (s.number ∷ [])) v.flights.items = c.spoil-in-Err.ensures.flights ∙ ap (λ n. map (refused_of (n ∷ [])) v.flights.items) (ap (λ (x : Kept _). x.number) c.in-Err.ensures.kept) in
    rw (← c.self.view_is, flights) (zero_fault_exact g.B.Block.contents g.B.Block.layers g.B.Block.size _ c.self.invariant.whole c.args.number k s within c.index_mut-snap.ensures.value _ _ _ _ found c.zero_next.new.self c.spoil-in-Err.new.snap c.if-lacks_next_area.ensures c.in-Err.ensures.operation c.in-Err.ensures.same c.in-Err.ensures.kept c.spoil-in-Err.ensures.fields)

pub returns-in-Err-clause-due : goal.returns-in-Err-clause-due
returns-in-Err-clause-due g c =
    let v = c.self.inside in
    let s = c.index_mut-snap.result.now in
    let k = c.in-Some.place in
    let within : k < length v.snaps.items = omega (arith, c.in-Some.ensures.found.0, ap length c.deref.ensures.value) in
    let is = c.index_mut-snap.ensures.value in
    let found : is_zeroing c.args.number s ≡ true = snap_found (is_zeroing c.args.number) k v.snaps.items c.deref.result.now s c.deref.ensures.value is (c.in-Some.ensures.found.1 s) in
    rw (← c.self.view_is) (sym (due_by g.B.Block.contents g.B.Block.layers _ (is_zeroing c.args.number) v.snaps.items v.snaps.items true refl (λ s. refl) (snap_due (is_zeroing c.args.number) k v.snaps.items s within is found)))

pub returns-in-None-clause-due : goal.returns-in-None-clause-due
returns-in-None-clause-due g c =
    rw (← c.self.view_is) (sym (due_by g.B.Block.contents g.B.Block.layers _ (is_zeroing c.args.number) c.self.inside.snaps.items c.deref.result.now false c.deref.ensures.value (λ s. refl) c.in-None.ensures.none))

pub returns-then-lacks_next_area-clause-stops_snaps : goal.returns-then-lacks_next_area-clause-stops_snaps
returns-then-lacks_next_area-clause-stops_snaps g c =
    let v = c.self.inside in
    let s = c.index_mut-snap.result.now in
    let k = c.in-Some.place in
    let within : k < length v.snaps.items = omega (arith, c.in-Some.ensures.found.0, ap length c.deref.ensures.value) in
    let is = c.index_mut-snap.ensures.value in
    let found : is_zeroing c.args.number s ≡ true = snap_found (is_zeroing c.args.number) k v.snaps.items c.deref.result.now s c.deref.ensures.value is (c.in-Some.ensures.found.1 s) in
    let t = spoilt_device s s c.spoil.new.snap s.device refl c.spoil.ensures.fields in
    let live = front_live g.B.Block.contents g.B.Block.layers g.B.Block.size g.B.Block.fault_count g.B.Block.done_count _ c.self.invariant.whole c.args.number k s s within is (zeroing_front c.args.number s found) in
    let goes = spoils_device g.B.Block.may_hold g.B.Block.contents g.B.Block.layers g.B.Block.size g.met.B.Block.whole g.met.B.Block.holds_now _ c.self.invariant.whole c.self.invariant.lasting.snaps None k s c.spoil.new.snap v.flights.items within c.index_mut-snap.ensures.value s refl (same_device g.B.Block.may_hold g.B.Block.contents g.B.Block.layers g.B.Block.size g.met.B.Block.whole g.met.B.Block.holds_now s.device) live c.spoil.ensures.fields in
    let both = beside_both g.B.Block.may_hold g.B.Block.contents g.B.Block.layers g.B.Block.size g.met.B.Block.whole g.met.B.Block.holds_now _ c.self.invariant.whole c.self.invariant.lasting None _ goes refl refl in
    rw (← c.self.view_is) both.stops_snaps

pub returns-then-lacks_next_area-clause-stops_origin : goal.returns-then-lacks_next_area-clause-stops_origin
returns-then-lacks_next_area-clause-stops_origin g c =
    let v = c.self.inside in
    let s = c.index_mut-snap.result.now in
    let k = c.in-Some.place in
    let within : k < length v.snaps.items = omega (arith, c.in-Some.ensures.found.0, ap length c.deref.ensures.value) in
    let is = c.index_mut-snap.ensures.value in
    let found : is_zeroing c.args.number s ≡ true = snap_found (is_zeroing c.args.number) k v.snaps.items c.deref.result.now s c.deref.ensures.value is (c.in-Some.ensures.found.1 s) in
    let t = spoilt_device s s c.spoil.new.snap s.device refl c.spoil.ensures.fields in
    let live = front_live g.B.Block.contents g.B.Block.layers g.B.Block.size g.B.Block.fault_count g.B.Block.done_count _ c.self.invariant.whole c.args.number k s s within is (zeroing_front c.args.number s found) in
    let goes = spoils_device g.B.Block.may_hold g.B.Block.contents g.B.Block.layers g.B.Block.size g.met.B.Block.whole g.met.B.Block.holds_now _ c.self.invariant.whole c.self.invariant.lasting.snaps None k s c.spoil.new.snap v.flights.items within c.index_mut-snap.ensures.value s refl (same_device g.B.Block.may_hold g.B.Block.contents g.B.Block.layers g.B.Block.size g.met.B.Block.whole g.met.B.Block.holds_now s.device) live c.spoil.ensures.fields in
    let both = beside_both g.B.Block.may_hold g.B.Block.contents g.B.Block.layers g.B.Block.size g.met.B.Block.whole g.met.B.Block.holds_now _ c.self.invariant.whole c.self.invariant.lasting None _ goes refl refl in
    rw (← c.self.view_is) both.stops_origin

pub returns-in-Ok-clause-stops_snaps : goal.returns-in-Ok-clause-stops_snaps
returns-in-Ok-clause-stops_snaps g c =
    let v = c.self.inside in
    let s = c.index_mut-snap.result.now in
    let k = c.in-Some.place in
    let within : k < length v.snaps.items = omega (arith, c.in-Some.ensures.found.0, ap length c.deref.ensures.value) in
    let is = c.index_mut-snap.ensures.value in
    let found : is_zeroing c.args.number s ≡ true = snap_found (is_zeroing c.args.number) k v.snaps.items c.deref.result.now s c.deref.ensures.value is (c.in-Some.ensures.found.1 s) in
    let op = c.in-Ok.ensures.operation in
    let live = front_live g.B.Block.contents g.B.Block.layers g.B.Block.size g.B.Block.fault_count g.B.Block.done_count _ c.self.invariant.whole c.args.number k s s within is (zeroing_front c.args.number s found) in
    let goes = zero_moves g.B.Block.may_hold g.B.Block.contents g.B.Block.layers g.B.Block.size g.met.B.Block.whole g.met.B.Block.holds_now _ c.self.invariant.whole c.self.invariant.lasting.snaps None k s c.zero_next.new.self v.flights.items within c.index_mut-snap.ensures.value live c.in-Ok.ensures.fields c.in-Ok.ensures.zeroes c.in-Ok.ensures.written (zeroing_loose c.args.number s found c.zero_next.ensures.ahead) c.if-lacks_next_area.ensures (record { adds = c.zero_next.ensures.adds; sectors = c.zero_next.ensures.size; loud = c.zero_next.ensures.loud }) in
    let both = beside_both g.B.Block.may_hold g.B.Block.contents g.B.Block.layers g.B.Block.size g.met.B.Block.whole g.met.B.Block.holds_now _ c.self.invariant.whole c.self.invariant.lasting None _ goes refl refl in
    rw (← c.self.view_is) both.stops_snaps

pub returns-in-Ok-clause-stops_origin : goal.returns-in-Ok-clause-stops_origin
returns-in-Ok-clause-stops_origin g c =
    let v = c.self.inside in
    let s = c.index_mut-snap.result.now in
    let k = c.in-Some.place in
    let within : k < length v.snaps.items = omega (arith, c.in-Some.ensures.found.0, ap length c.deref.ensures.value) in
    let is = c.index_mut-snap.ensures.value in
    let found : is_zeroing c.args.number s ≡ true = snap_found (is_zeroing c.args.number) k v.snaps.items c.deref.result.now s c.deref.ensures.value is (c.in-Some.ensures.found.1 s) in
    let op = c.in-Ok.ensures.operation in
    let live = front_live g.B.Block.contents g.B.Block.layers g.B.Block.size g.B.Block.fault_count g.B.Block.done_count _ c.self.invariant.whole c.args.number k s s within is (zeroing_front c.args.number s found) in
    let goes = zero_moves g.B.Block.may_hold g.B.Block.contents g.B.Block.layers g.B.Block.size g.met.B.Block.whole g.met.B.Block.holds_now _ c.self.invariant.whole c.self.invariant.lasting.snaps None k s c.zero_next.new.self v.flights.items within c.index_mut-snap.ensures.value live c.in-Ok.ensures.fields c.in-Ok.ensures.zeroes c.in-Ok.ensures.written (zeroing_loose c.args.number s found c.zero_next.ensures.ahead) c.if-lacks_next_area.ensures (record { adds = c.zero_next.ensures.adds; sectors = c.zero_next.ensures.size; loud = c.zero_next.ensures.loud }) in
    let both = beside_both g.B.Block.may_hold g.B.Block.contents g.B.Block.layers g.B.Block.size g.met.B.Block.whole g.met.B.Block.holds_now _ c.self.invariant.whole c.self.invariant.lasting None _ goes refl refl in
    rw (← c.self.view_is) both.stops_origin

pub returns-in-Err-clause-stops_snaps : goal.returns-in-Err-clause-stops_snaps
returns-in-Err-clause-stops_snaps g c =
    let v = c.self.inside in
    let s = c.index_mut-snap.result.now in
    let k = c.in-Some.place in
    let within : k < length v.snaps.items = omega (arith, c.in-Some.ensures.found.0, ap length c.deref.ensures.value) in
    let is = c.index_mut-snap.ensures.value in
    let found : is_zeroing c.args.number s ≡ true = snap_found (is_zeroing c.args.number) k v.snaps.items c.deref.result.now s c.deref.ensures.value is (c.in-Some.ensures.found.1 s) in
    let op = c.in-Err.ensures.operation in
    let t = spoilt_device s c.zero_next.new.self c.spoil-in-Err.new.snap c.zero_next.new.self.device c.in-Err.ensures.kept c.spoil-in-Err.ensures.fields in
    let flights : c.spoil-in-Err.new.flights.items ≡ map (refused_of (s.number ∷ [])) v.flights.items = c.spoil-in-Err.ensures.flights ∙ ap (λ n. map (refused_of (n ∷ [])) v.flights.items) (ap (λ (x : Kept _). x.number) c.in-Err.ensures.kept) in
    let live = front_live g.B.Block.contents g.B.Block.layers g.B.Block.size g.B.Block.fault_count g.B.Block.done_count _ c.self.invariant.whole c.args.number k s s within is (zeroing_front c.args.number s found) in
    let goes = spoils_device g.B.Block.may_hold g.B.Block.contents g.B.Block.layers g.B.Block.size g.met.B.Block.whole g.met.B.Block.holds_now _ c.self.invariant.whole c.self.invariant.lasting.snaps None k s c.spoil-in-Err.new.snap v.flights.items within c.index_mut-snap.ensures.value c.zero_next.new.self c.in-Err.ensures.kept (record { adds = c.zero_next.ensures.adds; bytes = c.in-Err.ensures.same; sectors = c.zero_next.ensures.size; loud = c.zero_next.ensures.loud }) live c.spoil-in-Err.ensures.fields in
    let both = beside_both g.B.Block.may_hold g.B.Block.contents g.B.Block.layers g.B.Block.size g.met.B.Block.whole g.met.B.Block.holds_now _ c.self.invariant.whole c.self.invariant.lasting None _ goes refl refl in
    rw (← c.self.view_is) both.stops_snaps

pub returns-in-Err-clause-stops_origin : goal.returns-in-Err-clause-stops_origin
returns-in-Err-clause-stops_origin g c =
    let v = c.self.inside in
    let s = c.index_mut-snap.result.now in
    let k = c.in-Some.place in
    let within : k < length v.snaps.items = omega (arith, c.in-Some.ensures.found.0, ap length c.deref.ensures.value) in
    let is = c.index_mut-snap.ensures.value in
    let found : is_zeroing c.args.number s ≡ true = snap_found (is_zeroing c.args.number) k v.snaps.items c.deref.result.now s c.deref.ensures.value is (c.in-Some.ensures.found.1 s) in
    let op = c.in-Err.ensures.operation in
    let t = spoilt_device s c.zero_next.new.self c.spoil-in-Err.new.snap c.zero_next.new.self.device c.in-Err.ensures.kept c.spoil-in-Err.ensures.fields in
    let flights : c.spoil-in-Err.new.flights.items ≡ map (refused_of (s.number ∷ [])) v.flights.items = c.spoil-in-Err.ensures.flights ∙ ap (λ n. map (refused_of (n ∷ [])) v.flights.items) (ap (λ (x : Kept _). x.number) c.in-Err.ensures.kept) in
    let live = front_live g.B.Block.contents g.B.Block.layers g.B.Block.size g.B.Block.fault_count g.B.Block.done_count _ c.self.invariant.whole c.args.number k s s within is (zeroing_front c.args.number s found) in
    let goes = spoils_device g.B.Block.may_hold g.B.Block.contents g.B.Block.layers g.B.Block.size g.met.B.Block.whole g.met.B.Block.holds_now _ c.self.invariant.whole c.self.invariant.lasting.snaps None k s c.spoil-in-Err.new.snap v.flights.items within c.index_mut-snap.ensures.value c.zero_next.new.self c.in-Err.ensures.kept (record { adds = c.zero_next.ensures.adds; bytes = c.in-Err.ensures.same; sectors = c.zero_next.ensures.size; loud = c.zero_next.ensures.loud }) live c.spoil-in-Err.ensures.fields in
    let both = beside_both g.B.Block.may_hold g.B.Block.contents g.B.Block.layers g.B.Block.size g.met.B.Block.whole g.met.B.Block.holds_now _ c.self.invariant.whole c.self.invariant.lasting None _ goes refl refl in
    rw (← c.self.view_is) both.stops_origin
