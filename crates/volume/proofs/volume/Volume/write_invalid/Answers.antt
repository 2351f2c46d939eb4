-- A spoiled snapshot's mark is written, or its write failed.
use Rattle.std.proofs.Common.{◌≡◌, ◌<◌, true, false, refl, sym, ◌∙◌, ap, subst, length, arith, map, slice_set}
use Rattle.std.specs.List.{All}
use Rattle.volume_laws.specs.Published.{is_clear}
use Rattle.volume_laws.specs.Again.{again_of}
use Rattle.snapshot.specs.Kept.{Kept, books_of}
use Rattle.snapshot_list.specs.Finding.{is_trying}
use Rattle.volume.proofs.AgainEvents.{trying_untried, trying_unmarked}
use Rattle.volume.proofs.DueEvents.{due_by, snap_found, snap_due}
use Rattle.volume.proofs.Chunks.{chunks_set}
use Rattle.volume.proofs.Tried.{marked_done, marked_fault}
use Rattle.volume.proofs.Exactly.{marked_exact, marked_fault_exact}
use Rattle.volume.proofs.LastMoves.{mark_moves, fails_moves}
use Rattle.volume.proofs.LastBoth.{beside_both}
use Rattle.std.specs.Prelude.{None}
use Rattle.volume.proofs.volume.Volume.write_invalid.Goals as goal
use Rattle.snapshot_list.specs.Rooms.{merge_books}

pub write_invalid-requires-clause-untried : goal.write_invalid-requires-clause-untried
write_invalid-requires-clause-untried g c =
    let v = c.self.inside in
    let s = c.index_mut-snap.result.now in
    let k = c.in-Some.place in
    let within : k < length v.snaps.items = omega (arith, c.in-Some.ensures.found.0, ap length c.deref.ensures.value) in
    let is = c.index_mut-snap.ensures.value in
    let found : is_trying c.args.number s ≡ true = snap_found (is_trying c.args.number) k v.snaps.items c.deref.result.now s c.deref.ensures.value is (c.in-Some.ensures.found.1 s) in
    trying_untried g.B.Block.contents g.B.Block.layers g.B.Block.size g.B.Block.fault_count g.B.Block.done_count _ c.self.invariant.whole c.args.number k s s within is found

pub write_invalid-requires-clause-unmarked : goal.write_invalid-requires-clause-unmarked
write_invalid-requires-clause-unmarked g c =
    let v = c.self.inside in
    let s = c.index_mut-snap.result.now in
    let k = c.in-Some.place in
    let within : k < length v.snaps.items = omega (arith, c.in-Some.ensures.found.0, ap length c.deref.ensures.value) in
    let is = c.index_mut-snap.ensures.value in
    let found : is_trying c.args.number s ≡ true = snap_found (is_trying c.args.number) k v.snaps.items c.deref.result.now s c.deref.ensures.value is (c.in-Some.ensures.found.1 s) in
    trying_unmarked g.B.Block.contents g.B.Block.layers g.B.Block.size g.B.Block.fault_count g.B.Block.done_count _ c.self.invariant.whole c.args.number k s s within is found

pub invariant_of-self : goal.invariant_of-self
invariant_of-self g c = record {
  whole =
      let v = c.self.inside in
      let s = c.index_mut-snap.result.now in
      let k = c.in-Some.place in
      let within : k < length v.snaps.items = omega (arith, c.in-Some.ensures.found.0, ap length c.deref.ensures.value) in
      let is = c.index_mut-snap.ensures.value in
      let found : is_trying c.args.number s ≡ true = snap_found (is_trying c.args.number) k v.snaps.items c.deref.result.now s c.deref.ensures.value is (c.in-Some.ensures.found.1 s) in
      let good = marked_done g.B.Block.contents g.B.Block.layers g.B.Block.size g.B.Block.fault_count g.B.Block.done_count _ c.self.invariant.whole c.args.number k s c.write_invalid.new.self within is found c.write_invalid.new.self.device c.in-Ok.ensures.fields c.in-Ok.ensures.writes c.write_invalid.ensures.loud c.write_invalid.ensures.size c.in-Ok.ensures.operation.counted c.in-Ok.ensures.operation.faulty in
      good.whole;
  lasting =
      let v = c.self.inside in
      let s = c.index_mut-snap.result.now in
      let k = c.in-Some.place in
      let within : k < length v.snaps.items = omega (arith, c.in-Some.ensures.found.0, ap length c.deref.ensures.value) in
      let is = c.index_mut-snap.ensures.value in
      let found : is_trying c.args.number s ≡ true = snap_found (is_trying c.args.number) k v.snaps.items c.deref.result.now s c.deref.ensures.value is (c.in-Some.ensures.found.1 s) in
      let goes = mark_moves g.B.Block.may_hold g.B.Block.contents g.B.Block.layers g.B.Block.size g.met.B.Block.whole g.met.B.Block.holds_now _ c.self.invariant.whole c.self.invariant.lasting.snaps None k s c.write_invalid.new.self v.flights.items within c.index_mut-snap.ensures.value (trying_untried g.B.Block.contents g.B.Block.layers g.B.Block.size g.B.Block.fault_count g.B.Block.done_count _ c.self.invariant.whole c.args.number k s s within is found) c.in-Ok.ensures.fields c.write_invalid.ensures.only c.write_invalid.ensures.in_step (record { adds = c.write_invalid.ensures.adds; sectors = c.write_invalid.ensures.size; loud = c.write_invalid.ensures.loud }) in
      let both = beside_both g.B.Block.may_hold g.B.Block.contents g.B.Block.layers g.B.Block.size g.met.B.Block.whole g.met.B.Block.holds_now _ c.self.invariant.whole c.self.invariant.lasting None _ goes refl refl in
      record { snaps = both.lasts; merge = both.merge };
}

pub route_again-requires : goal.route_again-requires
route_again-requires g c =
    let v = c.self.inside in
    let s = c.index_mut-snap.result.now in
    let k = c.in-Some.place in
    let within : k < length v.snaps.items = omega (arith, c.in-Some.ensures.found.0, ap length c.deref.ensures.value) in
    let is = c.index_mut-snap.ensures.value in
    let found : is_trying c.args.number s ≡ true = snap_found (is_trying c.args.number) k v.snaps.items c.deref.result.now s c.deref.ensures.value is (c.in-Some.ensures.found.1 s) in
    subst (All (λ (x : Kept _). 0 < x.state.chunk)) (sym c.deref-in-Err.ensures.value) (chunks_set g.B.Block.contents g.B.Block.layers g.B.Block.size _ c.self.invariant.whole k s c.write_invalid.new.self within is (ap (λ (x : Kept _). x.state.chunk) c.in-Err.ensures.fails))

pub invariant_of-self-in-Err : goal.invariant_of-self-in-Err
invariant_of-self-in-Err g c = record {
  whole =
      let v = c.self.inside in
      let s = c.index_mut-snap.result.now in
      let k = c.in-Some.place in
      let within : k < length v.snaps.items = omega (arith, c.in-Some.ensures.found.0, ap length c.deref.ensures.value) in
      let is = c.index_mut-snap.ensures.value in
      let found : is_trying c.args.number s ≡ true = snap_found (is_trying c.args.number) k v.snaps.items c.deref.result.now s c.deref.ensures.value is (c.in-Some.ensures.found.1 s) in
      let good = marked_fault g.B.Block.contents g.B.Block.layers g.B.Block.size g.B.Block.fault_count g.B.Block.done_count _ c.self.invariant.whole c.args.number k s c.write_invalid.new.self within is c.write_invalid.new.self.device true c.in-Err.ensures.fails c.in-Err.ensures.tries c.write_invalid.ensures.loud c.write_invalid.ensures.size c.in-Err.ensures.operation.counted found refl c.in-Err.ensures.operation.faulty in
      let flights : c.route_again.new.flights.items ≡ map (again_of (merge_books g.B.Block.contents g.B.Block.layers true v.merge) (is_clear (map (books_of g.B.Block.contents g.B.Block.layers) (slice_set v.snaps.items k c.write_invalid.new.self)))) v.flights.items =
      c.route_again.ensures ∙ ap (λ xs. map (again_of (merge_books g.B.Block.contents g.B.Block.layers true v.merge) (is_clear (map (books_of g.B.Block.contents g.B.Block.layers) xs))) v.flights.items) c.deref-in-Err.ensures.value in
      rw flights good.whole;
  lasting =
      let v = c.self.inside in
      let s = c.index_mut-snap.result.now in
      let k = c.in-Some.place in
      let within : k < length v.snaps.items = omega (arith, c.in-Some.ensures.found.0, ap length c.deref.ensures.value) in
      let is = c.index_mut-snap.ensures.value in
      let found : is_trying c.args.number s ≡ true = snap_found (is_trying c.args.number) k v.snaps.items c.deref.result.now s c.deref.ensures.value is (c.in-Some.ensures.found.1 s) in
      let flights : c.route_again.new.flights.items ≡ map (again_of (merge_books g.B.Block.contents g.B.Block.layers true v.merge) (is_clear (map (books_of g.B.Block.contents g.B.Block.layers) (slice_set v.snaps.items k c.write_invalid.new.self)))) v.flights.items =
      c.route_again.ensures ∙ ap (λ xs. map (again_of (merge_books g.B.Block.contents g.B.Block.layers true v.merge) (is_clear (map (books_of g.B.Block.contents g.B.Block.layers) xs))) v.flights.items) c.deref-in-Err.ensures.value in
      let goes = fails_moves g.B.Block.may_hold g.B.Block.contents g.B.Block.layers g.B.Block.size g.met.B.Block.whole g.met.B.Block.holds_now _ c.self.invariant.whole c.self.invariant.lasting.snaps None k s c.write_invalid.new.self v.flights.items within c.index_mut-snap.ensures.value (trying_untried g.B.Block.contents g.B.Block.layers g.B.Block.size g.B.Block.fault_count g.B.Block.done_count _ c.self.invariant.whole c.args.number k s s within is found) c.in-Err.ensures.fails (record { adds = c.write_invalid.ensures.adds; bytes = c.in-Err.ensures.same; sectors = c.write_invalid.ensures.size; loud = c.write_invalid.ensures.loud }) in
      let both = beside_both g.B.Block.may_hold g.B.Block.contents g.B.Block.layers g.B.Block.size g.met.B.Block.whole g.met.B.Block.holds_now _ c.self.invariant.whole c.self.invariant.lasting None _ goes refl refl in
      record { snaps = both.lasts; merge = both.merge };
}

pub returns-in-Ok-clause-step : goal.returns-in-Ok-clause-step
returns-in-Ok-clause-step g c =
    let v = c.self.inside in
    let s = c.index_mut-snap.result.now in
    let k = c.in-Some.place in
    let within : k < length v.snaps.items = omega (arith, c.in-Some.ensures.found.0, ap length c.deref.ensures.value) in
    let is = c.index_mut-snap.ensures.value in
    let found : is_trying c.args.number s ≡ true = snap_found (is_trying c.args.number) k v.snaps.items c.deref.result.now s c.deref.ensures.value is (c.in-Some.ensures.found.1 s) in
    let good = marked_done g.B.Block.contents g.B.Block.layers g.B.Block.size g.B.Block.fault_count g.B.Block.done_count _ c.self.invariant.whole c.args.number k s c.write_invalid.new.self within is found c.write_invalid.new.self.device c.in-Ok.ensures.fields c.in-Ok.ensures.writes c.write_invalid.ensures.loud c.write_invalid.ensures.size c.in-Ok.ensures.operation.counted c.in-Ok.ensures.operation.faulty in
    rw (← c.self.view_is) good.stepped

pub returns-in-Ok-clause-exact : goal.returns-in-Ok-clause-exact
returns-in-Ok-clause-exact g c =
    let v = c.self.inside in
    let s = c.index_mut-snap.result.now in
    let k = c.in-Some.place in
    let within : k < length v.snaps.items = omega (arith, c.in-Some.ensures.found.0, ap length c.deref.ensures.value) in
    let is = c.index_mut-snap.ensures.value in
    let found : is_trying c.args.number s ≡ true = snap_found (is_trying c.args.number) k v.snaps.items c.deref.result.now s c.deref.ensures.value is (c.in-Some.ensures.found.1 s) in
    rw (← c.self.view_is) (marked_exact g.B.Block.contents g.B.Block.layers g.B.Block.size _ c.self.invariant.whole c.args.number k s within is _ _ _ _ found c.write_invalid.new.self c.in-Ok.ensures.operation c.in-Ok.ensures.written c.in-Ok.ensures.fields)

pub returns-in-Ok-clause-due : goal.returns-in-Ok-clause-due
returns-in-Ok-clause-due g c =
    let v = c.self.inside in
    let s = c.index_mut-snap.result.now in
    let k = c.in-Some.place in
    let within : k < length v.snaps.items = omega (arith, c.in-Some.ensures.found.0, ap length c.deref.ensures.value) in
    let is = c.index_mut-snap.ensures.value in
    let found : is_trying c.args.number s ≡ true = snap_found (is_trying c.args.number) k v.snaps.items c.deref.result.now s c.deref.ensures.value is (c.in-Some.ensures.found.1 s) in
    rw (← c.self.view_is) (sym (due_by g.B.Block.contents g.B.Block.layers _ (is_trying c.args.number) v.snaps.items v.snaps.items true refl (λ s. refl) (snap_due (is_trying c.args.number) k v.snaps.items s within is found)))

pub returns-in-Err-clause-step : goal.returns-in-Err-clause-step
returns-in-Err-clause-step g c =
    let v = c.self.inside in
    let s = c.index_mut-snap.result.now in
    let k = c.in-Some.place in
    let within : k < length v.snaps.items = omega (arith, c.in-Some.ensures.found.0, ap length c.deref.ensures.value) in
    let is = c.index_mut-snap.ensures.value in
    let found : is_trying c.args.number s ≡ true = snap_found (is_trying c.args.number) k v.snaps.items c.deref.result.now s c.deref.ensures.value is (c.in-Some.ensures.found.1 s) in
    let good = marked_fault g.B.Block.contents g.B.Block.layers g.B.Block.size g.B.Block.fault_count g.B.Block.done_count _ c.self.invariant.whole c.args.number k s c.write_invalid.new.self within is c.write_invalid.new.self.device true c.in-Err.ensures.fails c.in-Err.ensures.tries c.write_invalid.ensures.loud c.write_invalid.ensures.size c.in-Err.ensures.operation.counted found refl c.in-Err.ensures.operation.faulty in
    let flights : c.route_again.new.flights.items ≡ map (again_of (merge_books g.B.Block.contents g.B.Block.layers true v.merge) (is_clear (map (books_of g.B.Block.contents g.B.Block.layers) (slice_set v.snaps.items k c.write_invalid.new.self)))) v.flights.items =
    c.route_again.ensures ∙ ap (λ xs. map (again_of (merge_books g.B.Block.contents g.B.Block.layers true v.merge) (is_clear (map (books_of g.B.Block.contents g.B.Block.layers) xs))) v.flights.items) c.deref-in-Err.ensures.value in
    rw (← c.self.view_is, flights) good.stepped

pub returns-in-Err-clause-exact : goal.returns-in-Err-clause-exact
returns-in-Err-clause-exact g c =
    let v = c.self.inside in
    let s = c.index_mut-snap.result.now in
    let k = c.in-Some.place in
    let within : k < length v.snaps.items = omega (arith, c.in-Some.ensures.found.0, ap length c.deref.ensures.value) in
    let is = c.index_mut-snap.ensures.value in
    let found : is_trying c.args.number s ≡ true = snap_found (is_trying c.args.number) k v.snaps.items c.deref.result.now s c.deref.ensures.value is (c.in-Some.ensures.found.1 s) in
    let flights : c.route_again.new.flights.items ≡ map (again_of (merge_books g.B.Block.contents g.B.Block.layers true v.merge) (is_clear (map (books_of g.B.Block.contents g.B.Block.layers) (slice_set v.snaps.items k c.write_invalid.new.self)))) v.flights.items =
    c.route_again.ensures ∙ ap (λ xs. map (again_of (merge_books g.B.Block.contents g.B.Block.layers true v.merge) (is_clear (map (books_of g.B.Block.contents g.B.Block.layers) xs))) v.flights.items) c.deref-in-Err.ensures.value in
    rw (← c.self.view_is) (marked_fault_exact g.B.Block.contents g.B.Block.layers g.B.Block.size _ c.self.invariant.whole c.args.number k s within is _ _ _ _ found c.write_invalid.new.self c.route_again.new.flights.items c.in-Err.ensures.operation c.in-Err.ensures.same c.in-Err.ensures.fails flights)

pub returns-in-Err-clause-due : goal.returns-in-Err-clause-due
returns-in-Err-clause-due g c =
    let v = c.self.inside in
    let s = c.index_mut-snap.result.now in
    let k = c.in-Some.place in
    let within : k < length v.snaps.items = omega (arith, c.in-Some.ensures.found.0, ap length c.deref.ensures.value) in
    let is = c.index_mut-snap.ensures.value in
    let found : is_trying c.args.number s ≡ true = snap_found (is_trying c.args.number) k v.snaps.items c.deref.result.now s c.deref.ensures.value is (c.in-Some.ensures.found.1 s) in
    rw (← c.self.view_is) (sym (due_by g.B.Block.contents g.B.Block.layers _ (is_trying c.args.number) v.snaps.items v.snaps.items true refl (λ s. refl) (snap_due (is_trying c.args.number) k v.snaps.items s within is found)))

pub returns-in-None-clause-due : goal.returns-in-None-clause-due
returns-in-None-clause-due g c =
    rw (← c.self.view_is) (sym (due_by g.B.Block.contents g.B.Block.layers _ (is_trying c.args.number) c.self.inside.snaps.items c.deref.result.now false c.deref.ensures.value (λ s. refl) c.in-None.ensures.none))

pub returns-in-Ok-clause-stops_snaps : goal.returns-in-Ok-clause-stops_snaps
returns-in-Ok-clause-stops_snaps g c =
    let v = c.self.inside in
    let s = c.index_mut-snap.result.now in
    let k = c.in-Some.place in
    let within : k < length v.snaps.items = omega (arith, c.in-Some.ensures.found.0, ap length c.deref.ensures.value) in
    let is = c.index_mut-snap.ensures.value in
    let found : is_trying c.args.number s ≡ true = snap_found (is_trying c.args.number) k v.snaps.items c.deref.result.now s c.deref.ensures.value is (c.in-Some.ensures.found.1 s) in
    let goes = mark_moves g.B.Block.may_hold g.B.Block.contents g.B.Block.layers g.B.Block.size g.met.B.Block.whole g.met.B.Block.holds_now _ c.self.invariant.whole c.self.invariant.lasting.snaps None k s c.write_invalid.new.self v.flights.items within c.index_mut-snap.ensures.value (trying_untried g.B.Block.contents g.B.Block.layers g.B.Block.size g.B.Block.fault_count g.B.Block.done_count _ c.self.invariant.whole c.args.number k s s within is found) c.in-Ok.ensures.fields c.write_invalid.ensures.only c.write_invalid.ensures.in_step (record { adds = c.write_invalid.ensures.adds; sectors = c.write_invalid.ensures.size; loud = c.write_invalid.ensures.loud }) in
    let both = beside_both g.B.Block.may_hold g.B.Block.contents g.B.Block.layers g.B.Block.size g.met.B.Block.whole g.met.B.Block.holds_now _ c.self.invariant.whole c.self.invariant.lasting None _ goes refl refl in
    rw (← c.self.view_is) both.stops_snaps

pub returns-in-Ok-clause-stops_origin : goal.returns-in-Ok-clause-stops_origin
returns-in-Ok-clause-stops_origin g c =
    let v = c.self.inside in
    let s = c.index_mut-snap.result.now in
    let k = c.in-Some.place in
    let within : k < length v.snaps.items = omega (arith, c.in-Some.ensures.found.0, ap length c.deref.ensures.value) in
    let is = c.index_mut-snap.ensures.value in
    let found : is_trying c.args.number s ≡ true = snap_found (is_trying c.args.number) k v.snaps.items c.deref.result.now s c.deref.ensures.value is (c.in-Some.ensures.found.1 s) in
    let goes = mark_moves g.B.Block.may_hold g.B.Block.contents g.B.Block.layers g.B.Block.size g.met.B.Block.whole g.met.B.Block.holds_now _ c.self.invariant.whole c.self.invariant.lasting.snaps None k s c.write_invalid.new.self v.flights.items within c.index_mut-snap.ensures.value (trying_untried g.B.Block.contents g.B.Block.layers g.B.Block.size g.B.Block.fault_count g.B.Block.done_count _ c.self.invariant.whole c.args.number k s s within is found) c.in-Ok.ensures.fields c.write_invalid.ensures.only c.write_invalid.ensures.in_step (record { adds = c.write_invalid.ensures.adds; sectors = c.write_invalid.ensures.size; loud = c.write_invalid.ensures.loud }) in
    let both = beside_both g.B.Block.may_hold g.B.Block.contents g.B.Block.layers g.B.Block.size g.met.B.Block.whole g.met.B.Block.holds_now _ c.self.invariant.whole c.self.invariant.lasting None _ goes refl refl in
    rw (← c.self.view_is) both.stops_origin

pub returns-in-Err-clause-stops_snaps : goal.returns-in-Err-clause-stops_snaps
returns-in-Err-clause-stops_snaps g c =
    let v = c.self.inside in
    let s = c.index_mut-snap.result.now in
    let k = c.in-Some.place in
    let within : k < length v.snaps.items = omega (arith, c.in-Some.ensures.found.0, ap length c.deref.ensures.value) in
    let is = c.index_mut-snap.ensures.value in
    let found : is_trying c.args.number s ≡ true = snap_found (is_trying c.args.number) k v.snaps.items c.deref.result.now s c.deref.ensures.value is (c.in-Some.ensures.found.1 s) in
    let flights : c.route_again.new.flights.items ≡ map (again_of (merge_books g.B.Block.contents g.B.Block.layers true v.merge) (is_clear (map (books_of g.B.Block.contents g.B.Block.layers) (slice_set v.snaps.items k c.write_invalid.new.self)))) v.flights.items =
    c.route_again.ensures ∙ ap (λ xs. map (again_of (merge_books g.B.Block.contents g.B.Block.layers true v.merge) (is_clear (map (books_of g.B.Block.contents g.B.Block.layers) xs))) v.flights.items) c.deref-in-Err.ensures.value in
    let goes = fails_moves g.B.Block.may_hold g.B.Block.contents g.B.Block.layers g.B.Block.size g.met.B.Block.whole g.met.B.Block.holds_now _ c.self.invariant.whole c.self.invariant.lasting.snaps None k s c.write_invalid.new.self v.flights.items within c.index_mut-snap.ensures.value (trying_untried g.B.Block.contents g.B.Block.layers g.B.Block.size g.B.Block.fault_count g.B.Block.done_count _ c.self.invariant.whole c.args.number k s s within is found) c.in-Err.ensures.fails (record { adds = c.write_invalid.ensures.adds; bytes = c.in-Err.ensures.same; sectors = c.write_invalid.ensures.size; loud = c.write_invalid.ensures.loud }) in
    let both = beside_both g.B.Block.may_hold g.B.Block.contents g.B.Block.layers g.B.Block.size g.met.B.Block.whole g.met.B.Block.holds_now _ c.self.invariant.whole c.self.invariant.lasting None _ goes refl refl in
    rw (← c.self.view_is) both.stops_snaps

pub returns-in-Err-clause-stops_origin : goal.returns-in-Err-clause-stops_origin
returns-in-Err-clause-stops_origin g c =
    let v = c.self.inside in
    let s = c.index_mut-snap.result.now in
    let k = c.in-Some.place in
    let within : k < length v.snaps.items = omega (arith, c.in-Some.ensures.found.0, ap length c.deref.ensures.value) in
    let is = c.index_mut-snap.ensures.value in
    let found : is_trying c.args.number s ≡ true = snap_found (is_trying c.args.number) k v.snaps.items c.deref.result.now s c.deref.ensures.value is (c.in-Some.ensures.found.1 s) in
    let flights : c.route_again.new.flights.items ≡ map (again_of (merge_books g.B.Block.contents g.B.Block.layers true v.merge) (is_clear (map (books_of g.B.Block.contents g.B.Block.layers) (slice_set v.snaps.items k c.write_invalid.new.self)))) v.flights.items =
    c.route_again.ensures ∙ ap (λ xs. map (again_of (merge_books g.B.Block.contents g.B.Block.layers true v.merge) (is_clear (map (books_of g.B.Block.contents g.B.Block.layers) xs))) v.flights.items) c.deref-in-Err.ensures.value in
    let goes = fails_moves g.B.Block.may_hold g.B.Block.contents g.B.Block.layers g.B.Block.size g.met.B.Block.whole g.met.B.Block.holds_now _ c.self.invariant.whole c.self.invariant.lasting.snaps None k s c.write_invalid.new.self v.flights.items within c.index_mut-snap.ensures.value (trying_untried g.B.Block.contents g.B.Block.layers g.B.Block.size g.B.Block.fault_count g.B.Block.done_count _ c.self.invariant.whole c.args.number k s s within is found) c.in-Err.ensures.fails (record { adds = c.write_invalid.ensures.adds; bytes = c.in-Err.ensures.same; sectors = c.write_invalid.ensures.size; loud = c.write_invalid.ensures.loud }) in
    let both = beside_both g.B.Block.may_hold g.B.Block.contents g.B.Block.layers g.B.Block.size g.met.B.Block.whole g.met.B.Block.holds_now _ c.self.invariant.whole c.self.invariant.lasting None _ goes refl refl in
    rw (← c.self.view_is) both.stops_origin
