-- A snapshot's store is flushed: it goes on, is spoiled, or its mark was tried.
use Rattle.std.proofs.Common.{◌≡◌, ◌<◌, true, false, refl, sym, ◌∙◌, ap, subst, length, arith, map, slice_set, ◌∷◌, []}
use Rattle.std.specs.List.{All}
use Rattle.device.specs.Layers.{is_loud}
use Rattle.in_flight.specs.Routes.{refused_of}
use Rattle.volume_laws.specs.Published.{is_clear}
use Rattle.volume_laws.specs.Again.{again_of}
use Rattle.snapshot.specs.Kept.{Kept, books_of}
use Rattle.snapshot_list.specs.Finding.{is_flushing}
use Rattle.volume.proofs.DueEvents.{due_by, snap_found, snap_due}
use Rattle.volume.proofs.Chunks.{chunks_set}
use Rattle.volume.proofs.Spoilt.{spoilt_device}
use Rattle.volume.proofs.StoreEvents.{flush_good, flush_fault, flush_marked, live_unmarked}
use Rattle.volume.proofs.Tried.{tried_done, tried_fault}
use Rattle.volume.proofs.Exactly.{flush_exact, flush_fault_exact, tried_exact, tried_fault_exact}
use Rattle.volume.proofs.LastMoves.{flush_moves, spoils_device, tries_moves}
use Rattle.volume.proofs.LastBoth.{beside_both}
use Rattle.std.specs.Prelude.{None}
use Rattle.std.proofs.lemmas.Bool.{false≢true}
use Rattle.volume.proofs.volume.Volume.flush_store.Goals as goal
use Rattle.snapshot_list.specs.Rooms.{merge_books}

pub invariant_of-self : goal.invariant_of-self
invariant_of-self g c = record {
  whole =
      let v = c.self.inside in
      let s = c.index_mut-snap.result.now in
      let k = c.in-Some.place in
      let within : k < length v.snaps.items = omega (arith, c.in-Some.ensures.found.0, ap length c.deref.ensures.value) in
      let is = c.index_mut-snap.ensures.value in
      let found : is_flushing c.args.number s ≡ true = snap_found (is_flushing c.args.number) k v.snaps.items c.deref.result.now s c.deref.ensures.value is (c.in-Some.ensures.found.1 s) in
      let live : s.live ≡ true = sym c.if-is_live.ensures in
      let good = flush_good g.B.Block.contents g.B.Block.layers g.B.Block.size g.B.Block.fault_count g.B.Block.done_count _ c.self.invariant.whole c.args.number k s c.flush_store.new.self within is found live c.flush_store.ensures.ahead c.flush_store.new.self.device c.in-Ok.ensures.fields c.in-Ok.ensures.flushes c.flush_store.ensures.loud c.flush_store.ensures.size c.in-Ok.ensures.operation.faulty c.in-Ok.ensures.operation.counted in
      good.whole;
  lasting =
      let v = c.self.inside in
      let s = c.index_mut-snap.result.now in
      let k = c.in-Some.place in
      let within : k < length v.snaps.items = omega (arith, c.in-Some.ensures.found.0, ap length c.deref.ensures.value) in
      let is = c.index_mut-snap.ensures.value in
      let found : is_flushing c.args.number s ≡ true = snap_found (is_flushing c.args.number) k v.snaps.items c.deref.result.now s c.deref.ensures.value is (c.in-Some.ensures.found.1 s) in
      let live : s.live ≡ true = sym c.if-is_live.ensures in
      let goes = flush_moves g.B.Block.may_hold g.B.Block.contents g.B.Block.layers g.B.Block.size g.met.B.Block.whole g.met.B.Block.holds_now _ c.self.invariant.whole c.self.invariant.lasting.snaps None k s c.flush_store.new.self v.flights.items within c.index_mut-snap.ensures.value live c.in-Ok.ensures.fields (record { adds = c.flush_store.ensures.adds; bytes = c.flush_store.ensures.contents; sectors = c.flush_store.ensures.size; loud = c.flush_store.ensures.loud }) c.in-Ok.ensures.firm in
      let both = beside_both g.B.Block.may_hold g.B.Block.contents g.B.Block.layers g.B.Block.size g.met.B.Block.whole g.met.B.Block.holds_now _ c.self.invariant.whole c.self.invariant.lasting None _ goes refl refl in
      record { snaps = both.lasts; merge = both.merge };
}

pub invariant_of-self-in-Err : goal.invariant_of-self-in-Err
invariant_of-self-in-Err g c = record {
  whole =
      let v = c.self.inside in
      let s = c.index_mut-snap.result.now in
      let k = c.in-Some.place in
      let within : k < length v.snaps.items = omega (arith, c.in-Some.ensures.found.0, ap length c.deref.ensures.value) in
      let is = c.index_mut-snap.ensures.value in
      let found : is_flushing c.args.number s ≡ true = snap_found (is_flushing c.args.number) k v.snaps.items c.deref.result.now s c.deref.ensures.value is (c.in-Some.ensures.found.1 s) in
      let live : s.live ≡ true = sym c.if-is_live.ensures in
      let op = c.in-Err.ensures.operation in
      let t = spoilt_device s c.flush_store.new.self c.spoil.new.snap c.flush_store.new.self.device c.in-Err.ensures.kept c.spoil.ensures.fields in
      let good = flush_fault g.B.Block.contents g.B.Block.layers g.B.Block.size g.B.Block.fault_count g.B.Block.done_count _ c.self.invariant.whole c.args.number k s c.spoil.new.snap within is found live t.0 (ap (λ d. is_loud (g.B.Block.layers d)) t.1 ∙ c.flush_store.ensures.loud) (ap g.B.Block.size t.1 ∙ c.flush_store.ensures.size) (ap g.B.Block.fault_count t.1 ∙ op.faulty) (ap g.B.Block.done_count t.1 ∙ op.counted) in
      let flights : c.spoil.new.flights.items ≡ map (refused_of (s.number ∷ [])) v.flights.items = c.spoil.ensures.flights ∙ ap (λ n. map (refused_of (n ∷ [])) v.flights.items) (ap (λ (x : Kept _). x.number) c.in-Err.ensures.kept) in
      rw flights good.whole;
  lasting =
      let v = c.self.inside in
      let s = c.index_mut-snap.result.now in
      let k = c.in-Some.place in
      let within : k < length v.snaps.items = omega (arith, c.in-Some.ensures.found.0, ap length c.deref.ensures.value) in
      let is = c.index_mut-snap.ensures.value in
      let found : is_flushing c.args.number s ≡ true = snap_found (is_flushing c.args.number) k v.snaps.items c.deref.result.now s c.deref.ensures.value is (c.in-Some.ensures.found.1 s) in
      let live : s.live ≡ true = sym c.if-is_live.ensures in
      let op = c.in-Err.ensures.operation in
      let t = spoilt_device s c.flush_store.new.self c.spoil.new.snap c.flush_store.new.self.device c.in-Err.ensures.kept c.spoil.ensures.fields in
      let flights : c.spoil.new.flights.items ≡ map (refused_of (s.number ∷ [])) v.flights.items = c.spoil.ensures.flights ∙ ap (λ n. map (refused_of (n ∷ [])) v.flights.items) (ap (λ (x : Kept _). x.number) c.in-Err.ensures.kept) in
      let goes = spoils_device g.B.Block.may_hold g.B.Block.contents g.B.Block.layers g.B.Block.size g.met.B.Block.whole g.met.B.Block.holds_now _ c.self.invariant.whole c.self.invariant.lasting.snaps None k s c.spoil.new.snap v.flights.items within c.index_mut-snap.ensures.value c.flush_store.new.self c.in-Err.ensures.kept (record { adds = c.flush_store.ensures.adds; bytes = c.flush_store.ensures.contents; sectors = c.flush_store.ensures.size; loud = c.flush_store.ensures.loud }) live c.spoil.ensures.fields in
      let both = beside_both g.B.Block.may_hold g.B.Block.contents g.B.Block.layers g.B.Block.size g.met.B.Block.whole g.met.B.Block.holds_now _ c.self.invariant.whole c.self.invariant.lasting None _ goes refl refl in
      record { snaps = both.lasts; merge = both.merge };
}

pub flush_mark-requires-clause-untried : goal.flush_mark-requires-clause-untried
flush_mark-requires-clause-untried g c =
    let v = c.self.inside in
    let s = c.index_mut-snap.result.now in
    let k = c.in-Some.place in
    let within : k < length v.snaps.items = omega (arith, c.in-Some.ensures.found.0, ap length c.deref.ensures.value) in
    let is = c.index_mut-snap.ensures.value in
    let found : is_flushing c.args.number s ≡ true = snap_found (is_flushing c.args.number) k v.snaps.items c.deref.result.now s c.deref.ensures.value is (c.in-Some.ensures.found.1 s) in
    let dead : s.live ≡ false = sym c.if-is_live.ensures in
    let tried = flush_marked g.B.Block.contents g.B.Block.layers g.B.Block.size g.B.Block.fault_count g.B.Block.done_count _ c.self.invariant.whole c.args.number k s s within is found dead in
    tried.0

pub flush_mark-requires-clause-marked : goal.flush_mark-requires-clause-marked
flush_mark-requires-clause-marked g c =
    let v = c.self.inside in
    let s = c.index_mut-snap.result.now in
    let k = c.in-Some.place in
    let within : k < length v.snaps.items = omega (arith, c.in-Some.ensures.found.0, ap length c.deref.ensures.value) in
    let is = c.index_mut-snap.ensures.value in
    let found : is_flushing c.args.number s ≡ true = snap_found (is_flushing c.args.number) k v.snaps.items c.deref.result.now s c.deref.ensures.value is (c.in-Some.ensures.found.1 s) in
    let dead : s.live ≡ false = sym c.if-is_live.ensures in
    let tried = flush_marked g.B.Block.contents g.B.Block.layers g.B.Block.size g.B.Block.fault_count g.B.Block.done_count _ c.self.invariant.whole c.args.number k s s within is found dead in
    tried.1

pub route_again-requires : goal.route_again-requires
route_again-requires g c =
    let v = c.self.inside in
    let s = c.index_mut-snap.result.now in
    let k = c.in-Some.place in
    let within : k < length v.snaps.items = omega (arith, c.in-Some.ensures.found.0, ap length c.deref.ensures.value) in
    let is = c.index_mut-snap.ensures.value in
    let found : is_flushing c.args.number s ≡ true = snap_found (is_flushing c.args.number) k v.snaps.items c.deref.result.now s c.deref.ensures.value is (c.in-Some.ensures.found.1 s) in
    subst (All (λ (x : Kept _). 0 < x.state.chunk)) (sym c.deref-in-Ok-flush_mark.ensures.value) (chunks_set g.B.Block.contents g.B.Block.layers g.B.Block.size _ c.self.invariant.whole k s c.flush_mark.new.self within is (ap (λ (x : Kept _). x.state.chunk) c.flush_mark.ensures.fields))

pub invariant_of-self-in-Ok-flush_mark : goal.invariant_of-self-in-Ok-flush_mark
invariant_of-self-in-Ok-flush_mark g c = record {
  whole =
      let v = c.self.inside in
      let s = c.index_mut-snap.result.now in
      let k = c.in-Some.place in
      let within : k < length v.snaps.items = omega (arith, c.in-Some.ensures.found.0, ap length c.deref.ensures.value) in
      let is = c.index_mut-snap.ensures.value in
      let found : is_flushing c.args.number s ≡ true = snap_found (is_flushing c.args.number) k v.snaps.items c.deref.result.now s c.deref.ensures.value is (c.in-Some.ensures.found.1 s) in
      let dead : s.live ≡ false = sym c.if-is_live.ensures in
      let tried = flush_marked g.B.Block.contents g.B.Block.layers g.B.Block.size g.B.Block.fault_count g.B.Block.done_count _ c.self.invariant.whole c.args.number k s s within is found dead in
      let good = tried_done g.B.Block.contents g.B.Block.layers g.B.Block.size g.B.Block.fault_count g.B.Block.done_count _ c.self.invariant.whole c.args.number k s c.flush_mark.new.self within is c.flush_mark.new.self.device false c.in-Ok-flush_mark.ensures.fields c.flush_mark.ensures.tries c.flush_mark.ensures.loud c.flush_mark.ensures.size c.in-Ok-flush_mark.ensures.operation.counted found tried.0 c.in-Ok-flush_mark.ensures.operation.faulty in
      let flights : c.route_again.new.flights.items ≡ map (again_of (merge_books g.B.Block.contents g.B.Block.layers true v.merge) (is_clear (map (books_of g.B.Block.contents g.B.Block.layers) (slice_set v.snaps.items k c.flush_mark.new.self)))) v.flights.items =
      c.route_again.ensures ∙ ap (λ xs. map (again_of (merge_books g.B.Block.contents g.B.Block.layers true v.merge) (is_clear (map (books_of g.B.Block.contents g.B.Block.layers) xs))) v.flights.items) c.deref-in-Ok-flush_mark.ensures.value in
      rw flights good.whole;
  lasting =
      let v = c.self.inside in
      let s = c.index_mut-snap.result.now in
      let k = c.in-Some.place in
      let within : k < length v.snaps.items = omega (arith, c.in-Some.ensures.found.0, ap length c.deref.ensures.value) in
      let is = c.index_mut-snap.ensures.value in
      let found : is_flushing c.args.number s ≡ true = snap_found (is_flushing c.args.number) k v.snaps.items c.deref.result.now s c.deref.ensures.value is (c.in-Some.ensures.found.1 s) in
      let dead : s.live ≡ false = sym c.if-is_live.ensures in
      let tried = flush_marked g.B.Block.contents g.B.Block.layers g.B.Block.size g.B.Block.fault_count g.B.Block.done_count _ c.self.invariant.whole c.args.number k s s within is found dead in
      let flights : c.route_again.new.flights.items ≡ map (again_of (merge_books g.B.Block.contents g.B.Block.layers true v.merge) (is_clear (map (books_of g.B.Block.contents g.B.Block.layers) (slice_set v.snaps.items k c.flush_mark.new.self)))) v.flights.items =
      c.route_again.ensures ∙ ap (λ xs. map (again_of (merge_books g.B.Block.contents g.B.Block.layers true v.merge) (is_clear (map (books_of g.B.Block.contents g.B.Block.layers) xs))) v.flights.items) c.deref-in-Ok-flush_mark.ensures.value in
      let goes = tries_moves g.B.Block.may_hold g.B.Block.contents g.B.Block.layers g.B.Block.size g.met.B.Block.whole g.met.B.Block.holds_now _ c.self.invariant.whole c.self.invariant.lasting.snaps None k s c.flush_mark.new.self v.flights.items within c.index_mut-snap.ensures.value true tried.0 dead tried.1 c.in-Ok-flush_mark.ensures.fields c.flush_mark.ensures.in_step (record { adds = c.flush_mark.ensures.adds; bytes = c.flush_mark.ensures.contents; sectors = c.flush_mark.ensures.size; loud = c.flush_mark.ensures.loud }) (λ ok. c.in-Ok-flush_mark.ensures.firm) in
      let both = beside_both g.B.Block.may_hold g.B.Block.contents g.B.Block.layers g.B.Block.size g.met.B.Block.whole g.met.B.Block.holds_now _ c.self.invariant.whole c.self.invariant.lasting None _ goes refl refl in
      record { snaps = both.lasts; merge = both.merge };
}

pub route_again-requires-in-Err-flush_mark : goal.route_again-requires-in-Err-flush_mark
route_again-requires-in-Err-flush_mark g c =
    let v = c.self.inside in
    let s = c.index_mut-snap.result.now in
    let k = c.in-Some.place in
    let within : k < length v.snaps.items = omega (arith, c.in-Some.ensures.found.0, ap length c.deref.ensures.value) in
    let is = c.index_mut-snap.ensures.value in
    let found : is_flushing c.args.number s ≡ true = snap_found (is_flushing c.args.number) k v.snaps.items c.deref.result.now s c.deref.ensures.value is (c.in-Some.ensures.found.1 s) in
    subst (All (λ (x : Kept _). 0 < x.state.chunk)) (sym c.deref-in-Err-flush_mark.ensures.value) (chunks_set g.B.Block.contents g.B.Block.layers g.B.Block.size _ c.self.invariant.whole k s c.flush_mark.new.self within is (ap (λ (x : Kept _). x.state.chunk) c.flush_mark.ensures.fields))

pub invariant_of-self-in-Err-flush_mark : goal.invariant_of-self-in-Err-flush_mark
invariant_of-self-in-Err-flush_mark g c = record {
  whole =
      let v = c.self.inside in
      let s = c.index_mut-snap.result.now in
      let k = c.in-Some.place in
      let within : k < length v.snaps.items = omega (arith, c.in-Some.ensures.found.0, ap length c.deref.ensures.value) in
      let is = c.index_mut-snap.ensures.value in
      let found : is_flushing c.args.number s ≡ true = snap_found (is_flushing c.args.number) k v.snaps.items c.deref.result.now s c.deref.ensures.value is (c.in-Some.ensures.found.1 s) in
      let dead : s.live ≡ false = sym c.if-is_live.ensures in
      let tried = flush_marked g.B.Block.contents g.B.Block.layers g.B.Block.size g.B.Block.fault_count g.B.Block.done_count _ c.self.invariant.whole c.args.number k s s within is found dead in
      let good = tried_fault g.B.Block.contents g.B.Block.layers g.B.Block.size g.B.Block.fault_count g.B.Block.done_count _ c.self.invariant.whole c.args.number k s c.flush_mark.new.self within is c.flush_mark.new.self.device true c.in-Err-flush_mark.ensures.fields c.flush_mark.ensures.tries c.flush_mark.ensures.loud c.flush_mark.ensures.size c.in-Err-flush_mark.ensures.operation.counted found tried.0 refl c.in-Err-flush_mark.ensures.operation.faulty in
      let flights : c.route_again-in-Err-flush_mark.new.flights.items ≡ map (again_of (merge_books g.B.Block.contents g.B.Block.layers true v.merge) (is_clear (map (books_of g.B.Block.contents g.B.Block.layers) (slice_set v.snaps.items k c.flush_mark.new.self)))) v.flights.items =
      c.route_again-in-Err-flush_mark.ensures ∙ ap (λ xs. map (again_of (merge_books g.B.Block.contents g.B.Block.layers true v.merge) (is_clear (map (books_of g.B.Block.contents g.B.Block.layers) xs))) v.flights.items) c.deref-in-Err-flush_mark.ensures.value in
      rw flights good.whole;
  lasting =
      let v = c.self.inside in
      let s = c.index_mut-snap.result.now in
      let k = c.in-Some.place in
      let within : k < length v.snaps.items = omega (arith, c.in-Some.ensures.found.0, ap length c.deref.ensures.value) in
      let is = c.index_mut-snap.ensures.value in
      let found : is_flushing c.args.number s ≡ true = snap_found (is_flushing c.args.number) k v.snaps.items c.deref.result.now s c.deref.ensures.value is (c.in-Some.ensures.found.1 s) in
      let dead : s.live ≡ false = sym c.if-is_live.ensures in
      let tried = flush_marked g.B.Block.contents g.B.Block.layers g.B.Block.size g.B.Block.fault_count g.B.Block.done_count _ c.self.invariant.whole c.args.number k s s within is found dead in
      let flights : c.route_again-in-Err-flush_mark.new.flights.items ≡ map (again_of (merge_books g.B.Block.contents g.B.Block.layers true v.merge) (is_clear (map (books_of g.B.Block.contents g.B.Block.layers) (slice_set v.snaps.items k c.flush_mark.new.self)))) v.flights.items =
      c.route_again-in-Err-flush_mark.ensures ∙ ap (λ xs. map (again_of (merge_books g.B.Block.contents g.B.Block.layers true v.merge) (is_clear (map (books_of g.B.Block.contents g.B.Block.layers) xs))) v.flights.items) c.deref-in-Err-flush_mark.ensures.value in
      let goes = tries_moves g.B.Block.may_hold g.B.Block.contents g.B.Block.layers g.B.Block.size g.met.B.Block.whole g.met.B.Block.holds_now _ c.self.invariant.whole c.self.invariant.lasting.snaps None k s c.flush_mark.new.self v.flights.items within c.index_mut-snap.ensures.value false tried.0 dead tried.1 c.in-Err-flush_mark.ensures.fields c.flush_mark.ensures.in_step (record { adds = c.flush_mark.ensures.adds; bytes = c.flush_mark.ensures.contents; sectors = c.flush_mark.ensures.size; loud = c.flush_mark.ensures.loud }) (λ ok. absurd (false≢true ok)) in
      let both = beside_both g.B.Block.may_hold g.B.Block.contents g.B.Block.layers g.B.Block.size g.met.B.Block.whole g.met.B.Block.holds_now _ c.self.invariant.whole c.self.invariant.lasting None _ goes refl refl in
      record { snaps = both.lasts; merge = both.merge };
}

pub returns-in-Ok-clause-step : goal.returns-in-Ok-clause-step
returns-in-Ok-clause-step g c =
    let v = c.self.inside in
    let s = c.index_mut-snap.result.now in
    let k = c.in-Some.place in
    let within : k < length v.snaps.items = omega (arith, c.in-Some.ensures.found.0, ap length c.deref.ensures.value) in
    let is = c.index_mut-snap.ensures.value in
    let found : is_flushing c.args.number s ≡ true = snap_found (is_flushing c.args.number) k v.snaps.items c.deref.result.now s c.deref.ensures.value is (c.in-Some.ensures.found.1 s) in
    let live : s.live ≡ true = sym c.if-is_live.ensures in
    let good = flush_good g.B.Block.contents g.B.Block.layers g.B.Block.size g.B.Block.fault_count g.B.Block.done_count _ c.self.invariant.whole c.args.number k s c.flush_store.new.self within is found live c.flush_store.ensures.ahead c.flush_store.new.self.device c.in-Ok.ensures.fields c.in-Ok.ensures.flushes c.flush_store.ensures.loud c.flush_store.ensures.size c.in-Ok.ensures.operation.faulty c.in-Ok.ensures.operation.counted in
    rw (← c.self.view_is) good.stepped

pub returns-in-Ok-clause-exact : goal.returns-in-Ok-clause-exact
returns-in-Ok-clause-exact g c =
    let v = c.self.inside in
    let s = c.index_mut-snap.result.now in
    let k = c.in-Some.place in
    let within : k < length v.snaps.items = omega (arith, c.in-Some.ensures.found.0, ap length c.deref.ensures.value) in
    let is = c.index_mut-snap.ensures.value in
    let found : is_flushing c.args.number s ≡ true = snap_found (is_flushing c.args.number) k v.snaps.items c.deref.result.now s c.deref.ensures.value is (c.in-Some.ensures.found.1 s) in
    let live : s.live ≡ true = sym c.if-is_live.ensures in
    let unmarked = live_unmarked s c.flush_store.new.self (ap (λ (x : Kept _). x.marked) c.in-Ok.ensures.fields) (ap (λ (x : Kept _). x.live) c.in-Ok.ensures.fields) live c.flush_store.ensures.in_step.dead in
    rw (← c.self.view_is) (flush_exact g.B.Block.contents g.B.Block.layers g.B.Block.size _ c.self.invariant.whole c.args.number k s within is _ _ _ _ found c.flush_store.new.self unmarked c.in-Ok.ensures.operation c.flush_store.ensures.contents c.in-Ok.ensures.fields)

pub returns-in-Ok-clause-due : goal.returns-in-Ok-clause-due
returns-in-Ok-clause-due g c =
    let v = c.self.inside in
    let s = c.index_mut-snap.result.now in
    let k = c.in-Some.place in
    let within : k < length v.snaps.items = omega (arith, c.in-Some.ensures.found.0, ap length c.deref.ensures.value) in
    let is = c.index_mut-snap.ensures.value in
    let found : is_flushing c.args.number s ≡ true = snap_found (is_flushing c.args.number) k v.snaps.items c.deref.result.now s c.deref.ensures.value is (c.in-Some.ensures.found.1 s) in
    rw (← c.self.view_is) (sym (due_by g.B.Block.contents g.B.Block.layers _ (is_flushing c.args.number) v.snaps.items v.snaps.items true refl (λ s. refl) (snap_due (is_flushing c.args.number) k v.snaps.items s within is found)))

pub returns-in-Err-clause-step : goal.returns-in-Err-clause-step
returns-in-Err-clause-step g c =
    let v = c.self.inside in
    let s = c.index_mut-snap.result.now in
    let k = c.in-Some.place in
    let within : k < length v.snaps.items = omega (arith, c.in-Some.ensures.found.0, ap length c.deref.ensures.value) in
    let is = c.index_mut-snap.ensures.value in
    let found : is_flushing c.args.number s ≡ true = snap_found (is_flushing c.args.number) k v.snaps.items c.deref.result.now s c.deref.ensures.value is (c.in-Some.ensures.found.1 s) in
    let live : s.live ≡ true = sym c.if-is_live.ensures in
    let op = c.in-Err.ensures.operation in
    let t = spoilt_device s c.flush_store.new.self c.spoil.new.snap c.flush_store.new.self.device c.in-Err.ensures.kept c.spoil.ensures.fields in
    let good = flush_fault g.B.Block.contents g.B.Block.layers g.B.Block.size g.B.Block.fault_count g.B.Block.done_count _ c.self.invariant.whole c.args.number k s c.spoil.new.snap within is found live t.0 (ap (λ d. is_loud (g.B.Block.layers d)) t.1 ∙ c.flush_store.ensures.loud) (ap g.B.Block.size t.1 ∙ c.flush_store.ensures.size) (ap g.B.Block.fault_count t.1 ∙ op.faulty) (ap g.B.Block.done_count t.1 ∙ op.counted) in
    let flights : c.spoil.new.flights.items ≡ map (refused_of (s.number ∷ [])) v.flights.items = c.spoil.ensures.flights ∙ ap (λ n. map (refused_of (n ∷ [])) v.flights.items) (ap (λ (x : Kept _). x.number) c.in-Err.ensures.kept) in
    rw (← c.self.view_is, flights) good.stepped

pub returns-in-Err-clause-exact : goal.returns-in-Err-clause-exact
returns-in-Err-clause-exact g c =
    let v = c.self.inside in
    let s = c.index_mut-snap.result.now in
    let k = c.in-Some.place in
    let within : k < length v.snaps.items = omega (arith, c.in-Some.ensures.found.0, ap length c.deref.ensures.value) in
    let is = c.index_mut-snap.ensures.value in
    let found : is_flushing c.args.number s ≡ true = snap_found (is_flushing c.args.number) k v.snaps.items c.deref.result.now s c.deref.ensures.value is (c.in-Some.ensures.found.1 s) in
    let live : s.live ≡ true = sym c.if-is_live.ensures in
    let unmarked = live_unmarked s c.flush_store.new.self (ap (λ (x : Kept _). x.marked) c.in-Err.ensures.kept) (ap (λ (x : Kept _). x.live) c.in-Err.ensures.kept) live c.flush_store.ensures.in_step.dead in
    let flights : c.spoil.new.flights.items ≡ map (refused_of (s.number ∷ [])) v.flights.items = c.spoil.ensures.flights ∙ ap (λ n. map (refused_of (n ∷ [])) v.flights.items) (ap (λ (x : Kept _). x.number) c.in-Err.ensures.kept) in
    rw (← c.self.view_is, flights) (flush_fault_exact g.B.Block.contents g.B.Block.layers g.B.Block.size _ c.self.invariant.whole c.args.number k s within is _ _ _ _ found c.flush_store.new.self c.spoil.new.snap unmarked c.in-Err.ensures.operation c.flush_store.ensures.contents c.in-Err.ensures.kept c.spoil.ensures.fields)

pub returns-in-Err-clause-due : goal.returns-in-Err-clause-due
returns-in-Err-clause-due g c =
    let v = c.self.inside in
    let s = c.index_mut-snap.result.now in
    let k = c.in-Some.place in
    let within : k < length v.snaps.items = omega (arith, c.in-Some.ensures.found.0, ap length c.deref.ensures.value) in
    let is = c.index_mut-snap.ensures.value in
    let found : is_flushing c.args.number s ≡ true = snap_found (is_flushing c.args.number) k v.snaps.items c.deref.result.now s c.deref.ensures.value is (c.in-Some.ensures.found.1 s) in
    rw (← c.self.view_is) (sym (due_by g.B.Block.contents g.B.Block.layers _ (is_flushing c.args.number) v.snaps.items v.snaps.items true refl (λ s. refl) (snap_due (is_flushing c.args.number) k v.snaps.items s within is found)))

pub returns-in-Ok-flush_mark-clause-step : goal.returns-in-Ok-flush_mark-clause-step
returns-in-Ok-flush_mark-clause-step g c =
    let v = c.self.inside in
    let s = c.index_mut-snap.result.now in
    let k = c.in-Some.place in
    let within : k < length v.snaps.items = omega (arith, c.in-Some.ensures.found.0, ap length c.deref.ensures.value) in
    let is = c.index_mut-snap.ensures.value in
    let found : is_flushing c.args.number s ≡ true = snap_found (is_flushing c.args.number) k v.snaps.items c.deref.result.now s c.deref.ensures.value is (c.in-Some.ensures.found.1 s) in
    let dead : s.live ≡ false = sym c.if-is_live.ensures in
    let tried = flush_marked g.B.Block.contents g.B.Block.layers g.B.Block.size g.B.Block.fault_count g.B.Block.done_count _ c.self.invariant.whole c.args.number k s s within is found dead in
    let good = tried_done g.B.Block.contents g.B.Block.layers g.B.Block.size g.B.Block.fault_count g.B.Block.done_count _ c.self.invariant.whole c.args.number k s c.flush_mark.new.self within is c.flush_mark.new.self.device false c.in-Ok-flush_mark.ensures.fields c.flush_mark.ensures.tries c.flush_mark.ensures.loud c.flush_mark.ensures.size c.in-Ok-flush_mark.ensures.operation.counted found tried.0 c.in-Ok-flush_mark.ensures.operation.faulty in
    let flights : c.route_again.new.flights.items ≡ map (again_of (merge_books g.B.Block.contents g.B.Block.layers true v.merge) (is_clear (map (books_of g.B.Block.contents g.B.Block.layers) (slice_set v.snaps.items k c.flush_mark.new.self)))) v.flights.items =
    c.route_again.ensures ∙ ap (λ xs. map (again_of (merge_books g.B.Block.contents g.B.Block.layers true v.merge) (is_clear (map (books_of g.B.Block.contents g.B.Block.layers) xs))) v.flights.items) c.deref-in-Ok-flush_mark.ensures.value in
    rw (← c.self.view_is, flights) good.stepped

pub returns-in-Ok-flush_mark-clause-exact : goal.returns-in-Ok-flush_mark-clause-exact
returns-in-Ok-flush_mark-clause-exact g c =
    let v = c.self.inside in
    let s = c.index_mut-snap.result.now in
    let k = c.in-Some.place in
    let within : k < length v.snaps.items = omega (arith, c.in-Some.ensures.found.0, ap length c.deref.ensures.value) in
    let is = c.index_mut-snap.ensures.value in
    let found : is_flushing c.args.number s ≡ true = snap_found (is_flushing c.args.number) k v.snaps.items c.deref.result.now s c.deref.ensures.value is (c.in-Some.ensures.found.1 s) in
    let dead : s.live ≡ false = sym c.if-is_live.ensures in
    let tried = flush_marked g.B.Block.contents g.B.Block.layers g.B.Block.size g.B.Block.fault_count g.B.Block.done_count _ c.self.invariant.whole c.args.number k s s within is found dead in
    let flights : c.route_again.new.flights.items ≡ map (again_of (merge_books g.B.Block.contents g.B.Block.layers true v.merge) (is_clear (map (books_of g.B.Block.contents g.B.Block.layers) (slice_set v.snaps.items k c.flush_mark.new.self)))) v.flights.items =
    c.route_again.ensures ∙ ap (λ xs. map (again_of (merge_books g.B.Block.contents g.B.Block.layers true v.merge) (is_clear (map (books_of g.B.Block.contents g.B.Block.layers) xs))) v.flights.items) c.deref-in-Ok-flush_mark.ensures.value in
    rw (← c.self.view_is) (tried_exact g.B.Block.contents g.B.Block.layers g.B.Block.size _ c.self.invariant.whole c.args.number k s within is _ _ _ _ found c.flush_mark.new.self c.route_again.new.flights.items tried.1 c.in-Ok-flush_mark.ensures.operation c.flush_mark.ensures.contents c.in-Ok-flush_mark.ensures.fields flights)

pub returns-in-Ok-flush_mark-clause-due : goal.returns-in-Ok-flush_mark-clause-due
returns-in-Ok-flush_mark-clause-due g c =
    let v = c.self.inside in
    let s = c.index_mut-snap.result.now in
    let k = c.in-Some.place in
    let within : k < length v.snaps.items = omega (arith, c.in-Some.ensures.found.0, ap length c.deref.ensures.value) in
    let is = c.index_mut-snap.ensures.value in
    let found : is_flushing c.args.number s ≡ true = snap_found (is_flushing c.args.number) k v.snaps.items c.deref.result.now s c.deref.ensures.value is (c.in-Some.ensures.found.1 s) in
    rw (← c.self.view_is) (sym (due_by g.B.Block.contents g.B.Block.layers _ (is_flushing c.args.number) v.snaps.items v.snaps.items true refl (λ s. refl) (snap_due (is_flushing c.args.number) k v.snaps.items s within is found)))

pub returns-in-Err-flush_mark-clause-step : goal.returns-in-Err-flush_mark-clause-step
returns-in-Err-flush_mark-clause-step g c =
    let v = c.self.inside in
    let s = c.index_mut-snap.result.now in
    let k = c.in-Some.place in
    let within : k < length v.snaps.items = omega (arith, c.in-Some.ensures.found.0, ap length c.deref.ensures.value) in
    let is = c.index_mut-snap.ensures.value in
    let found : is_flushing c.args.number s ≡ true = snap_found (is_flushing c.args.number) k v.snaps.items c.deref.result.now s c.deref.ensures.value is (c.in-Some.ensures.found.1 s) in
    let dead : s.live ≡ false = sym c.if-is_live.ensures in
    let tried = flush_marked g.B.Block.contents g.B.Block.layers g.B.Block.size g.B.Block.fault_count g.B.Block.done_count _ c.self.invariant.whole c.args.number k s s within is found dead in
    let good = tried_fault g.B.Block.contents g.B.Block.layers g.B.Block.size g.B.Block.fault_count g.B.Block.done_count _ c.self.invariant.whole c.args.number k s c.flush_mark.new.self within is c.flush_mark.new.self.device true c.in-Err-flush_mark.ensures.fields c.flush_mark.ensures.tries c.flush_mark.ensures.loud c.flush_mark.ensures.size c.in-Err-flush_mark.ensures.operation.counted found tried.0 refl c.in-Err-flush_mark.ensures.operation.faulty in
    let flights : c.route_again-in-Err-flush_mark.new.flights.items ≡ map (again_of (merge_books g.B.Block.contents g.B.Block.layers true v.merge) (is_clear (map (books_of g.B.Block.contents g.B.Block.layers) (slice_set v.snaps.items k c.flush_mark.new.self)))) v.flights.items =
    c.route_again-in-Err-flush_mark.ensures ∙ ap (λ xs. map (again_of (merge_books g.B.Block.contents g.B.Block.layers true v.merge) (is_clear (map (books_of g.B.Block.contents g.B.Block.layers) xs))) v.flights.items) c.deref-in-Err-flush_mark.ensures.value in
    rw (← c.self.view_is, flights) good.stepped

pub returns-in-Err-flush_mark-clause-exact : goal.returns-in-Err-flush_mark-clause-exact
returns-in-Err-flush_mark-clause-exact g c =
    let v = c.self.inside in
    let s = c.index_mut-snap.result.now in
    let k = c.in-Some.place in
    let within : k < length v.snaps.items = omega (arith, c.in-Some.ensures.found.0, ap length c.deref.ensures.value) in
    let is = c.index_mut-snap.ensures.value in
    let found : is_flushing c.args.number s ≡ true = snap_found (is_flushing c.args.number) k v.snaps.items c.deref.result.now s c.deref.ensures.value is (c.in-Some.ensures.found.1 s) in
    let dead : s.live ≡ false = sym c.if-is_live.ensures in
    let tried = flush_marked g.B.Block.contents g.B.Block.layers g.B.Block.size g.B.Block.fault_count g.B.Block.done_count _ c.self.invariant.whole c.args.number k s s within is found dead in
    let flights : c.route_again-in-Err-flush_mark.new.flights.items ≡ map (again_of (merge_books g.B.Block.contents g.B.Block.layers true v.merge) (is_clear (map (books_of g.B.Block.contents g.B.Block.layers) (slice_set v.snaps.items k c.flush_mark.new.self)))) v.flights.items =
    c.route_again-in-Err-flush_mark.ensures ∙ ap (λ xs. map (again_of (merge_books g.B.Block.contents g.B.Block.layers true v.merge) (is_clear (map (books_of g.B.Block.contents g.B.Block.layers) xs))) v.flights.items) c.deref-in-Err-flush_mark.ensures.value in
    rw (← c.self.view_is) (tried_fault_exact g.B.Block.contents g.B.Block.layers g.B.Block.size _ c.self.invariant.whole c.args.number k s within is _ _ _ _ found c.flush_mark.new.self c.route_again-in-Err-flush_mark.new.flights.items tried.1 c.in-Err-flush_mark.ensures.operation c.flush_mark.ensures.contents c.in-Err-flush_mark.ensures.fields flights)

pub returns-in-Err-flush_mark-clause-due : goal.returns-in-Err-flush_mark-clause-due
returns-in-Err-flush_mark-clause-due g c =
    let v = c.self.inside in
    let s = c.index_mut-snap.result.now in
    let k = c.in-Some.place in
    let within : k < length v.snaps.items = omega (arith, c.in-Some.ensures.found.0, ap length c.deref.ensures.value) in
    let is = c.index_mut-snap.ensures.value in
    let found : is_flushing c.args.number s ≡ true = snap_found (is_flushing c.args.number) k v.snaps.items c.deref.result.now s c.deref.ensures.value is (c.in-Some.ensures.found.1 s) in
    rw (← c.self.view_is) (sym (due_by g.B.Block.contents g.B.Block.layers _ (is_flushing c.args.number) v.snaps.items v.snaps.items true refl (λ s. refl) (snap_due (is_flushing c.args.number) k v.snaps.items s within is found)))

pub returns-in-None-clause-due : goal.returns-in-None-clause-due
returns-in-None-clause-due g c =
    rw (← c.self.view_is) (sym (due_by g.B.Block.contents g.B.Block.layers _ (is_flushing c.args.number) c.self.inside.snaps.items c.deref.result.now false c.deref.ensures.value (λ s. refl) c.in-None.ensures.none))

pub returns-in-Ok-clause-stops_snaps : goal.returns-in-Ok-clause-stops_snaps
returns-in-Ok-clause-stops_snaps g c =
    let v = c.self.inside in
    let s = c.index_mut-snap.result.now in
    let k = c.in-Some.place in
    let within : k < length v.snaps.items = omega (arith, c.in-Some.ensures.found.0, ap length c.deref.ensures.value) in
    let is = c.index_mut-snap.ensures.value in
    let found : is_flushing c.args.number s ≡ true = snap_found (is_flushing c.args.number) k v.snaps.items c.deref.result.now s c.deref.ensures.value is (c.in-Some.ensures.found.1 s) in
    let live : s.live ≡ true = sym c.if-is_live.ensures in
    let goes = flush_moves g.B.Block.may_hold g.B.Block.contents g.B.Block.layers g.B.Block.size g.met.B.Block.whole g.met.B.Block.holds_now _ c.self.invariant.whole c.self.invariant.lasting.snaps None k s c.flush_store.new.self v.flights.items within c.index_mut-snap.ensures.value live c.in-Ok.ensures.fields (record { adds = c.flush_store.ensures.adds; bytes = c.flush_store.ensures.contents; sectors = c.flush_store.ensures.size; loud = c.flush_store.ensures.loud }) c.in-Ok.ensures.firm in
    let both = beside_both g.B.Block.may_hold g.B.Block.contents g.B.Block.layers g.B.Block.size g.met.B.Block.whole g.met.B.Block.holds_now _ c.self.invariant.whole c.self.invariant.lasting None _ goes refl refl in
    rw (← c.self.view_is) both.stops_snaps

pub returns-in-Ok-clause-stops_origin : goal.returns-in-Ok-clause-stops_origin
returns-in-Ok-clause-stops_origin g c =
    let v = c.self.inside in
    let s = c.index_mut-snap.result.now in
    let k = c.in-Some.place in
    let within : k < length v.snaps.items = omega (arith, c.in-Some.ensures.found.0, ap length c.deref.ensures.value) in
    let is = c.index_mut-snap.ensures.value in
    let found : is_flushing c.args.number s ≡ true = snap_found (is_flushing c.args.number) k v.snaps.items c.deref.result.now s c.deref.ensures.value is (c.in-Some.ensures.found.1 s) in
    let live : s.live ≡ true = sym c.if-is_live.ensures in
    let goes = flush_moves g.B.Block.may_hold g.B.Block.contents g.B.Block.layers g.B.Block.size g.met.B.Block.whole g.met.B.Block.holds_now _ c.self.invariant.whole c.self.invariant.lasting.snaps None k s c.flush_store.new.self v.flights.items within c.index_mut-snap.ensures.value live c.in-Ok.ensures.fields (record { adds = c.flush_store.ensures.adds; bytes = c.flush_store.ensures.contents; sectors = c.flush_store.ensures.size; loud = c.flush_store.ensures.loud }) c.in-Ok.ensures.firm in
    let both = beside_both g.B.Block.may_hold g.B.Block.contents g.B.Block.layers g.B.Block.size g.met.B.Block.whole g.met.B.Block.holds_now _ c.self.invariant.whole c.self.invariant.lasting None _ goes refl refl in
    rw (← c.self.view_is) both.stops_origin

pub returns-in-Err-clause-stops_snaps : goal.returns-in-Err-clause-stops_snaps
returns-in-Err-clause-stops_snaps g c =
    let v = c.self.inside in
    let s = c.index_mut-snap.result.now in
    let k = c.in-Some.place in
    let within : k < length v.snaps.items = omega (arith, c.in-Some.ensures.found.0, ap length c.deref.ensures.value) in
    let is = c.index_mut-snap.ensures.value in
    let found : is_flushing c.args.number s ≡ true = snap_found (is_flushing c.args.number) k v.snaps.items c.deref.result.now s c.deref.ensures.value is (c.in-Some.ensures.found.1 s) in
    let live : s.live ≡ true = sym c.if-is_live.ensures in
    let op = c.in-Err.ensures.operation in
    let t = spoilt_device s c.flush_store.new.self c.spoil.new.snap c.flush_store.new.self.device c.in-Err.ensures.kept c.spoil.ensures.fields in
    let flights : c.spoil.new.flights.items ≡ map (refused_of (s.number ∷ [])) v.flights.items = c.spoil.ensures.flights ∙ ap (λ n. map (refused_of (n ∷ [])) v.flights.items) (ap (λ (x : Kept _). x.number) c.in-Err.ensures.kept) in
    let goes = spoils_device g.B.Block.may_hold g.B.Block.contents g.B.Block.layers g.B.Block.size g.met.B.Block.whole g.met.B.Block.holds_now _ c.self.invariant.whole c.self.invariant.lasting.snaps None k s c.spoil.new.snap v.flights.items within c.index_mut-snap.ensures.value c.flush_store.new.self c.in-Err.ensures.kept (record { adds = c.flush_store.ensures.adds; bytes = c.flush_store.ensures.contents; sectors = c.flush_store.ensures.size; loud = c.flush_store.ensures.loud }) live c.spoil.ensures.fields in
    let both = beside_both g.B.Block.may_hold g.B.Block.contents g.B.Block.layers g.B.Block.size g.met.B.Block.whole g.met.B.Block.holds_now _ c.self.invariant.whole c.self.invariant.lasting None _ goes refl refl in
    rw (← c.self.view_is) both.stops_snaps

pub returns-in-Err-clause-stops_origin : goal.returns-in-Err-clause-stops_origin
returns-in-Err-clause-stops_origin g c =
    let v = c.self.inside in
    let s = c.index_mut-snap.result.now in
    let k = c.in-Some.place in
    let within : k < length v.snaps.items = omega (arith, c.in-Some.ensures.found.0, ap length c.deref.ensures.value) in
    let is = c.index_mut-snap.ensures.value in
    let found : is_flushing c.args.number s ≡ true = snap_found (is_flushing c.args.number) k v.snaps.items c.deref.result.now s c.deref.ensures.value is (c.in-Some.ensures.found.1 s) in
    let live : s.live ≡ true = sym c.if-is_live.ensures in
    let op = c.in-Err.ensures.operation in
    let t = spoilt_device s c.flush_store.new.self c.spoil.new.snap c.flush_store.new.self.device c.in-Err.ensures.kept c.spoil.ensures.fields in
    let flights : c.spoil.new.flights.items ≡ map (refused_of (s.number ∷ [])) v.flights.items = c.spoil.ensures.flights ∙ ap (λ n. map (refused_of (n ∷ [])) v.flights.items) (ap (λ (x : Kept _). x.number) c.in-Err.ensures.kept) in
    let goes = spoils_device g.B.Block.may_hold g.B.Block.contents g.B.Block.layers g.B.Block.size g.met.B.Block.whole g.met.B.Block.holds_now _ c.self.invariant.whole c.self.invariant.lasting.snaps None k s c.spoil.new.snap v.flights.items within c.index_mut-snap.ensures.value c.flush_store.new.self c.in-Err.ensures.kept (record { adds = c.flush_store.ensures.adds; bytes = c.flush_store.ensures.contents; sectors = c.flush_store.ensures.size; loud = c.flush_store.ensures.loud }) live c.spoil.ensures.fields in
    let both = beside_both g.B.Block.may_hold g.B.Block.contents g.B.Block.layers g.B.Block.size g.met.B.Block.whole g.met.B.Block.holds_now _ c.self.invariant.whole c.self.invariant.lasting None _ goes refl refl in
    rw (← c.self.view_is) both.stops_origin

pub returns-in-Ok-flush_mark-clause-stops_snaps : goal.returns-in-Ok-flush_mark-clause-stops_snaps
returns-in-Ok-flush_mark-clause-stops_snaps g c =
    let v = c.self.inside in
    let s = c.index_mut-snap.result.now in
    let k = c.in-Some.place in
    let within : k < length v.snaps.items = omega (arith, c.in-Some.ensures.found.0, ap length c.deref.ensures.value) in
    let is = c.index_mut-snap.ensures.value in
    let found : is_flushing c.args.number s ≡ true = snap_found (is_flushing c.args.number) k v.snaps.items c.deref.result.now s c.deref.ensures.value is (c.in-Some.ensures.found.1 s) in
    let dead : s.live ≡ false = sym c.if-is_live.ensures in
    let tried = flush_marked g.B.Block.contents g.B.Block.layers g.B.Block.size g.B.Block.fault_count g.B.Block.done_count _ c.self.invariant.whole c.args.number k s s within is found dead in
    let flights : c.route_again.new.flights.items ≡ map (again_of (merge_books g.B.Block.contents g.B.Block.layers true v.merge) (is_clear (map (books_of g.B.Block.contents g.B.Block.layers) (slice_set v.snaps.items k c.flush_mark.new.self)))) v.flights.items =
    c.route_again.ensures ∙ ap (λ xs. map (again_of (merge_books g.B.Block.contents g.B.Block.layers true v.merge) (is_clear (map (books_of g.B.Block.contents g.B.Block.layers) xs))) v.flights.items) c.deref-in-Ok-flush_mark.ensures.value in
    let goes = tries_moves g.B.Block.may_hold g.B.Block.contents g.B.Block.layers g.B.Block.size g.met.B.Block.whole g.met.B.Block.holds_now _ c.self.invariant.whole c.self.invariant.lasting.snaps None k s c.flush_mark.new.self v.flights.items within c.index_mut-snap.ensures.value true tried.0 dead tried.1 c.in-Ok-flush_mark.ensures.fields c.flush_mark.ensures.in_step (record { adds = c.flush_mark.ensures.adds; bytes = c.flush_mark.ensures.contents; sectors = c.flush_mark.ensures.size; loud = c.flush_mark.ensures.loud }) (λ ok. c.in-Ok-flush_mark.ensures.firm) in
    let both = beside_both g.B.Block.may_hold g.B.Block.contents g.B.Block.layers g.B.Block.size g.met.B.Block.whole g.met.B.Block.holds_now _ c.self.invariant.whole c.self.invariant.lasting None _ goes refl refl in
    rw (← c.self.view_is) both.stops_snaps

pub returns-in-Ok-flush_mark-clause-stops_origin : goal.returns-in-Ok-flush_mark-clause-stops_origin
returns-in-Ok-flush_mark-clause-stops_origin g c =
    let v = c.self.inside in
    let s = c.index_mut-snap.result.now in
    let k = c.in-Some.place in
    let within : k < length v.snaps.items = omega (arith, c.in-Some.ensures.found.0, ap length c.deref.ensures.value) in
    let is = c.index_mut-snap.ensures.value in
    let found : is_flushing c.args.number s ≡ true = snap_found (is_flushing c.args.number) k v.snaps.items c.deref.result.now s c.deref.ensures.value is (c.in-Some.ensures.found.1 s) in
    let dead : s.live ≡ false = sym c.if-is_live.ensures in
    let tried = flush_marked g.B.Block.contents g.B.Block.layers g.B.Block.size g.B.Block.fault_count g.B.Block.done_count _ c.self.invariant.whole c.args.number k s s within is found dead in
    let flights : c.route_again.new.flights.items ≡ map (again_of (merge_books g.B.Block.contents g.B.Block.layers true v.merge) (is_clear (map (books_of g.B.Block.contents g.B.Block.layers) (slice_set v.snaps.items k c.flush_mark.new.self)))) v.flights.items =
    c.route_again.ensures ∙ ap (λ xs. map (again_of (merge_books g.B.Block.contents g.B.Block.layers true v.merge) (is_clear (map (books_of g.B.Block.contents g.B.Block.layers) xs))) v.flights.items) c.deref-in-Ok-flush_mark.ensures.value in
    let goes = tries_moves g.B.Block.may_hold g.B.Block.contents g.B.Block.layers g.B.Block.size g.met.B.Block.whole g.met.B.Block.holds_now _ c.self.invariant.whole c.self.invariant.lasting.snaps None k s c.flush_mark.new.self v.flights.items within c.index_mut-snap.ensures.value true tried.0 dead tried.1 c.in-Ok-flush_mark.ensures.fields c.flush_mark.ensures.in_step (record { adds = c.flush_mark.ensures.adds; bytes = c.flush_mark.ensures.contents; sectors = c.flush_mark.ensures.size; loud = c.flush_mark.ensures.loud }) (λ ok. c.in-Ok-flush_mark.ensures.firm) in
    let both = beside_both g.B.Block.may_hold g.B.Block.contents g.B.Block.layers g.B.Block.size g.met.B.Block.whole g.met.B.Block.holds_now _ c.self.invariant.whole c.self.invariant.lasting None _ goes refl refl in
    rw (← c.self.view_is) both.stops_origin

pub returns-in-Err-flush_mark-clause-stops_snaps : goal.returns-in-Err-flush_mark-clause-stops_snaps
returns-in-Err-flush_mark-clause-stops_snaps g c =
    let v = c.self.inside in
    let s = c.index_mut-snap.result.now in
    let k = c.in-Some.place in
    let within : k < length v.snaps.items = omega (arith, c.in-Some.ensures.found.0, ap length c.deref.ensures.value) in
    let is = c.index_mut-snap.ensures.value in
    let found : is_flushing c.args.number s ≡ true = snap_found (is_flushing c.args.number) k v.snaps.items c.deref.result.now s c.deref.ensures.value is (c.in-Some.ensures.found.1 s) in
    let dead : s.live ≡ false = sym c.if-is_live.ensures in
    let tried = flush_marked g.B.Block.contents g.B.Block.layers g.B.Block.size g.B.Block.fault_count g.B.Block.done_count _ c.self.invariant.whole c.args.number k s s within is found dead in
    let flights : c.route_again-in-Err-flush_mark.new.flights.items ≡ map (again_of (merge_books g.B.Block.contents g.B.Block.layers true v.merge) (is_clear (map (books_of g.B.Block.contents g.B.Block.layers) (slice_set v.snaps.items k c.flush_mark.new.self)))) v.flights.items =
    c.route_again-in-Err-flush_mark.ensures ∙ ap (λ xs. map (again_of (merge_books g.B.Block.contents g.B.Block.layers true v.merge) (is_clear (map (books_of g.B.Block.contents g.B.Block.layers) xs))) v.flights.items) c.deref-in-Err-flush_mark.ensures.value in
    let goes = tries_moves g.B.Block.may_hold g.B.Block.contents g.B.Block.layers g.B.Block.size g.met.B.Block.whole g.met.B.Block.holds_now _ c.self.invariant.whole c.self.invariant.lasting.snaps None k s c.flush_mark.new.self v.flights.items within c.index_mut-snap.ensures.value false tried.0 dead tried.1 c.in-Err-flush_mark.ensures.fields c.flush_mark.ensures.in_step (record { adds = c.flush_mark.ensures.adds; bytes = c.flush_mark.ensures.contents; sectors = c.flush_mark.ensures.size; loud = c.flush_mark.ensures.loud }) (λ ok. absurd (false≢true ok)) in
    let both = beside_both g.B.Block.may_hold g.B.Block.contents g.B.Block.layers g.B.Block.size g.met.B.Block.whole g.met.B.Block.holds_now _ c.self.invariant.whole c.self.invariant.lasting None _ goes refl refl in
    rw (← c.self.view_is) both.stops_snaps

pub returns-in-Err-flush_mark-clause-stops_origin : goal.returns-in-Err-flush_mark-clause-stops_origin
returns-in-Err-flush_mark-clause-stops_origin g c =
    let v = c.self.inside in
    let s = c.index_mut-snap.result.now in
    let k = c.in-Some.place in
    let within : k < length v.snaps.items = omega (arith, c.in-Some.ensures.found.0, ap length c.deref.ensures.value) in
    let is = c.index_mut-snap.ensures.value in
    let found : is_flushing c.args.number s ≡ true = snap_found (is_flushing c.args.number) k v.snaps.items c.deref.result.now s c.deref.ensures.value is (c.in-Some.ensures.found.1 s) in
    let dead : s.live ≡ false = sym c.if-is_live.ensures in
    let tried = flush_marked g.B.Block.contents g.B.Block.layers g.B.Block.size g.B.Block.fault_count g.B.Block.done_count _ c.self.invariant.whole c.args.number k s s within is found dead in
    let flights : c.route_again-in-Err-flush_mark.new.flights.items ≡ map (again_of (merge_books g.B.Block.contents g.B.Block.layers true v.merge) (is_clear (map (books_of g.B.Block.contents g.B.Block.layers) (slice_set v.snaps.items k c.flush_mark.new.self)))) v.flights.items =
    c.route_again-in-Err-flush_mark.ensures ∙ ap (λ xs. map (again_of (merge_books g.B.Block.contents g.B.Block.layers true v.merge) (is_clear (map (books_of g.B.Block.contents g.B.Block.layers) xs))) v.flights.items) c.deref-in-Err-flush_mark.ensures.value in
    let goes = tries_moves g.B.Block.may_hold g.B.Block.contents g.B.Block.layers g.B.Block.size g.met.B.Block.whole g.met.B.Block.holds_now _ c.self.invariant.whole c.self.invariant.lasting.snaps None k s c.flush_mark.new.self v.flights.items within c.index_mut-snap.ensures.value false tried.0 dead tried.1 c.in-Err-flush_mark.ensures.fields c.flush_mark.ensures.in_step (record { adds = c.flush_mark.ensures.adds; bytes = c.flush_mark.ensures.contents; sectors = c.flush_mark.ensures.size; loud = c.flush_mark.ensures.loud }) (λ ok. absurd (false≢true ok)) in
    let both = beside_both g.B.Block.may_hold g.B.Block.contents g.B.Block.layers g.B.Block.size g.met.B.Block.whole g.met.B.Block.holds_now _ c.self.invariant.whole c.self.invariant.lasting None _ goes refl refl in
    rw (← c.self.view_is) both.stops_origin
