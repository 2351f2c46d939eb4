-- A committed copy is published, and the copies are started that a merge waits for then.
use Rattle.std.proofs.Common.{◌≡◌, ◌<◌, true, false, Some, refl, sym, ◌∙◌, ap, subst, length, arith, map, slice_set}
use Rattle.std.specs.List.{All, position, list_any}
use Rattle.volume_laws.specs.Published.{is_clear}
use Rattle.volume_laws.specs.Again.{again_of, placed_of}
use Rattle.in_flight.specs.declared.copies.Mark.{Mark}
use Rattle.snapshot.specs.Kept.{Kept, books_of}
use Rattle.volume.specs.Volumed.{Volumed}
use Rattle.snapshot_list.specs.Finding.{is_mark_of, has_mark_at}
use Rattle.snapshot_list.specs.MergeStarting.{GoesOnBehind}
use Rattle.snapshot_list.proofs.Finds.{position_within}
use Rattle.volume.proofs.DueEvents.{due_by, mark_found, mark_due, mark_is}
use Rattle.volume.proofs.Behind.{goes_behind}
use Rattle.volume.proofs.Chunks.{chunks_all, chunks_set}
use Rattle.volume.proofs.AgainEvents.{IsUnmarked, unmarked, mark_safe}
use Rattle.volume.proofs.Filled.{mark_number, published_cause, published_copies}
use Rattle.volume.proofs.NextPublished.{published_good, unmarked_can_save}
use Rattle.volume.proofs.PublishMoved.{published_exact}
use Rattle.volume.proofs.LastMoves.{list_moves}
use Rattle.volume.proofs.LastBoth.{beside_both}
use Rattle.volume.proofs.Lefts.{all_then, one_left}
use Rattle.volume.proofs.LastNext.{left_marks, next_beside}
use Rattle.std.specs.Prelude.{None}
use Rattle.std.proofs.Common.{List, get_or}
use Rattle.volume.proofs.volume.Volume.publish.Goals as goal
use Rattle.snapshot_list.specs.Rooms.{merge_books}

pub find_mark_near-requires : goal.find_mark_near-requires
find_mark_near-requires g c =
    subst (All (λ (x : Kept _). 0 < x.state.chunk)) (sym c.deref.ensures.value) (chunks_all g.B.Block.contents g.B.Block.layers g.B.Block.size _ c.self.invariant.whole)

pub chunk_at-chunk-requires : goal.chunk_at-chunk-requires
chunk_at-chunk-requires g c =
    let v = c.self.inside in
    let s = c.index_mut-snap.result.now in
    let k = c.in-Some.place in
    let j = c.in-Some.index in
    let within : k < length v.snaps.items = omega (arith, c.in-Some.ensures.found.0, ap length c.deref.ensures.value) in
    let is = c.index_mut-snap.ensures.value in
    let found : position (is_mark_of s v.flights.items c.args.number) s.marks ≡ Some j = mark_found c.args.number k j v.snaps.items c.deref.result.now v.flights.items c.deref-2.result.now s c.deref.ensures.value c.deref-2.ensures.value is (c.in-Some.ensures.found.1 s) in
    let inside = position_within (is_mark_of s v.flights.items c.args.number) s.marks j found in
    omega (arith, inside, ap length c.marks.ensures)

pub publish-requires : goal.publish-requires
publish-requires g c =
    let v = c.self.inside in
    let s = c.index_mut-snap.result.now in
    let k = c.in-Some.place in
    let j = c.in-Some.index in
    let within : k < length v.snaps.items = omega (arith, c.in-Some.ensures.found.0, ap length c.deref.ensures.value) in
    let is = c.index_mut-snap.ensures.value in
    let found : position (is_mark_of s v.flights.items c.args.number) s.marks ≡ Some j = mark_found c.args.number k j v.snaps.items c.deref.result.now v.flights.items c.deref-2.result.now s c.deref.ensures.value c.deref-2.ensures.value is (c.in-Some.ensures.found.1 s) in
    record { within = position_within (is_mark_of s v.flights.items c.args.number) s.marks j found }

pub route_placed-requires : goal.route_placed-requires
route_placed-requires g c =
    let v = c.self.inside in
    let s = c.index_mut-snap.result.now in
    let k = c.in-Some.place in
    let j = c.in-Some.index in
    let within : k < length v.snaps.items = omega (arith, c.in-Some.ensures.found.0, ap length c.deref.ensures.value) in
    let is = c.index_mut-snap.ensures.value in
    let found : position (is_mark_of s v.flights.items c.args.number) s.marks ≡ Some j = mark_found c.args.number k j v.snaps.items c.deref.result.now v.flights.items c.deref-2.result.now s c.deref.ensures.value c.deref-2.ensures.value is (c.in-Some.ensures.found.1 s) in
    let m = mark_is c.args.number j v.flights.items s found in
    let old : 0 < s.state.chunk = subst (λ (x : Kept _). 0 < x.state.chunk) (sym is) (chunks_all g.B.Block.contents g.B.Block.layers g.B.Block.size _ c.self.invariant.whole k s within) in
    subst (λ n. 0 < n) (sym (ap (λ (x : Kept _). x.state.chunk) (c.publish.ensures.fields m.0 m.1))) old

pub route_again-requires : goal.route_again-requires
route_again-requires g c =
    let v = c.self.inside in
    let s = c.index_mut-snap.result.now in
    let k = c.in-Some.place in
    let j = c.in-Some.index in
    let within : k < length v.snaps.items = omega (arith, c.in-Some.ensures.found.0, ap length c.deref.ensures.value) in
    let is = c.index_mut-snap.ensures.value in
    let found : position (is_mark_of s v.flights.items c.args.number) s.marks ≡ Some j = mark_found c.args.number k j v.snaps.items c.deref.result.now v.flights.items c.deref-2.result.now s c.deref.ensures.value c.deref-2.ensures.value is (c.in-Some.ensures.found.1 s) in
    let m = mark_is c.args.number j v.flights.items s found in
    subst (All (λ (x : Kept _). 0 < x.state.chunk)) (sym c.deref-in-Some.ensures.value) (chunks_set g.B.Block.contents g.B.Block.layers g.B.Block.size _ c.self.invariant.whole k s c.publish.new.self within is (ap (λ (x : Kept _). x.state.chunk) (c.publish.ensures.fields m.0 m.1)))

pub save_next_pair-self-inside-requires-clause-room : goal.save_next_pair-self-inside-requires-clause-room
save_next_pair-self-inside-requires-clause-room g c =
    let v : Volumed g.row.B.Denot = record { origin = c.self.inside.origin; snaps = c.self.inside.snaps.items; merge = c.self.inside.merge; flights = c.self.inside.flights.items; requests = c.self.inside.requests; copies = c.self.inside.copies; attached = c.self.inside.attached } in
    let s = c.index_mut-snap.result.now in
    let k = c.in-Some.place in
    let j = c.in-Some.index in
    let within : k < length v.snaps = omega (arith, c.in-Some.ensures.found.0, ap length c.deref.ensures.value) in
    let is = c.index_mut-snap.ensures.value in
    let found : position (is_mark_of s v.flights c.args.number) s.marks ≡ Some j = mark_found c.args.number k j v.snaps c.deref.result.now v.flights c.deref-2.result.now s c.deref.ensures.value c.deref-2.ensures.value is (c.in-Some.ensures.found.1 s) in
    let m = mark_is c.args.number j v.flights s found in
    let fields = c.publish.ensures.fields m.0 m.1 in
    let flights : c.route_again.new.flights.items ≡ map (again_of (merge_books g.B.Block.contents g.B.Block.layers true v.merge) (is_clear (map (books_of g.B.Block.contents g.B.Block.layers) (slice_set v.snaps k c.publish.new.self)))) (map (placed_of (books_of g.B.Block.contents g.B.Block.layers c.publish.new.self)) v.flights) =
    c.route_again.ensures ∙ ap (λ xs. map (again_of (merge_books g.B.Block.contents g.B.Block.layers true v.merge) (is_clear (map (books_of g.B.Block.contents g.B.Block.layers) xs))) c.route_placed.new.flights.items) c.deref-in-Some.ensures.value
    ∙ ap (map (again_of (merge_books g.B.Block.contents g.B.Block.layers true v.merge) (is_clear (map (books_of g.B.Block.contents g.B.Block.layers) (slice_set v.snaps k c.publish.new.self))))) c.route_placed.ensures in
    let gone = subst (IsUnmarked g.B.Block.contents g.B.Block.layers g.B.Block.size v k s c.publish.new.self) (sym flights)
    (unmarked g.B.Block.contents g.B.Block.layers g.B.Block.size g.B.Block.fault_count g.B.Block.done_count v c.self.invariant.whole c.args.number k s c.publish.new.self within is j m.0 found fields (c.publish.ensures.publishes m.0 m.1 (mark_safe s v.flights c.args.number j found m.0 m.1))) in
    λ merge was q next. unmarked_can_save g.B.Block.contents g.B.Block.layers g.B.Block.size v c.self.invariant.whole k s c.publish.new.self within is c.route_again.new.flights.items gone merge was q next

pub save_next_pair-self-inside-requires-clause-behind : goal.save_next_pair-self-inside-requires-clause-behind
save_next_pair-self-inside-requires-clause-behind g c =
    let v : Volumed g.row.B.Denot = record { origin = c.self.inside.origin; snaps = c.self.inside.snaps.items; merge = c.self.inside.merge; flights = c.self.inside.flights.items; requests = c.self.inside.requests; copies = c.self.inside.copies; attached = c.self.inside.attached } in
    let s = c.index_mut-snap.result.now in
    let k = c.in-Some.place in
    let j = c.in-Some.index in
    let within : k < length v.snaps = omega (arith, c.in-Some.ensures.found.0, ap length c.deref.ensures.value) in
    let is = c.index_mut-snap.ensures.value in
    let found : position (is_mark_of s v.flights c.args.number) s.marks ≡ Some j = mark_found c.args.number k j v.snaps c.deref.result.now v.flights c.deref-2.result.now s c.deref.ensures.value c.deref-2.ensures.value is (c.in-Some.ensures.found.1 s) in
    let m = mark_is c.args.number j v.flights s found in
    let fields = c.publish.ensures.fields m.0 m.1 in
    let flights : c.route_again.new.flights.items ≡ map (again_of (merge_books g.B.Block.contents g.B.Block.layers true v.merge) (is_clear (map (books_of g.B.Block.contents g.B.Block.layers) (slice_set v.snaps k c.publish.new.self)))) (map (placed_of (books_of g.B.Block.contents g.B.Block.layers c.publish.new.self)) v.flights) =
    c.route_again.ensures ∙ ap (λ xs. map (again_of (merge_books g.B.Block.contents g.B.Block.layers true v.merge) (is_clear (map (books_of g.B.Block.contents g.B.Block.layers) xs))) c.route_placed.new.flights.items) c.deref-in-Some.ensures.value
    ∙ ap (map (again_of (merge_books g.B.Block.contents g.B.Block.layers true v.merge) (is_clear (map (books_of g.B.Block.contents g.B.Block.layers) (slice_set v.snaps k c.publish.new.self))))) c.route_placed.ensures in
    let gone = subst (IsUnmarked g.B.Block.contents g.B.Block.layers g.B.Block.size v k s c.publish.new.self) (sym flights)
    (unmarked g.B.Block.contents g.B.Block.layers g.B.Block.size g.B.Block.fault_count g.B.Block.done_count v c.self.invariant.whole c.args.number k s c.publish.new.self within is j m.0 found fields (c.publish.ensures.publishes m.0 m.1 (mark_safe s v.flights c.args.number j found m.0 m.1))) in
    λ merge was q next. subst (λ n. GoesOnBehind k n merge.state.chunk merge.state.origin (slice_set v.snaps k c.publish.new.self) q) (ap (λ (x : Mark). x.chunk) (m.1 ∙ ap (λ (ms : List Mark). get_or ms j m.0) (sym c.marks.ensures)) ∙ sym (c.chunk_at-chunk.ensures m.0))
    (goes_behind g.B.Block.contents g.B.Block.layers g.B.Block.size v c.self.invariant.whole k s c.publish.new.self within is c.route_again.new.flights.items gone merge was q next j m.0 (position_within (is_mark_of s v.flights c.args.number) s.marks j found) m.1 fields)

pub invariant_of-self : goal.invariant_of-self
invariant_of-self g c = record {
  whole =
      let v : Volumed g.row.B.Denot = record { origin = c.self.inside.origin; snaps = c.self.inside.snaps.items; merge = c.self.inside.merge; flights = c.self.inside.flights.items; requests = c.self.inside.requests; copies = c.self.inside.copies; attached = c.self.inside.attached } in
      let s = c.index_mut-snap.result.now in
      let k = c.in-Some.place in
      let j = c.in-Some.index in
      let within : k < length v.snaps = omega (arith, c.in-Some.ensures.found.0, ap length c.deref.ensures.value) in
      let is = c.index_mut-snap.ensures.value in
      let found : position (is_mark_of s v.flights c.args.number) s.marks ≡ Some j = mark_found c.args.number k j v.snaps c.deref.result.now v.flights c.deref-2.result.now s c.deref.ensures.value c.deref-2.ensures.value is (c.in-Some.ensures.found.1 s) in
      let m = mark_is c.args.number j v.flights s found in
      let fields = c.publish.ensures.fields m.0 m.1 in
      let flights : c.route_again.new.flights.items ≡ map (again_of (merge_books g.B.Block.contents g.B.Block.layers true v.merge) (is_clear (map (books_of g.B.Block.contents g.B.Block.layers) (slice_set v.snaps k c.publish.new.self)))) (map (placed_of (books_of g.B.Block.contents g.B.Block.layers c.publish.new.self)) v.flights) =
      c.route_again.ensures ∙ ap (λ xs. map (again_of (merge_books g.B.Block.contents g.B.Block.layers true v.merge) (is_clear (map (books_of g.B.Block.contents g.B.Block.layers) xs))) c.route_placed.new.flights.items) c.deref-in-Some.ensures.value
      ∙ ap (map (again_of (merge_books g.B.Block.contents g.B.Block.layers true v.merge) (is_clear (map (books_of g.B.Block.contents g.B.Block.layers) (slice_set v.snaps k c.publish.new.self))))) c.route_placed.ensures in
      let gone = subst (IsUnmarked g.B.Block.contents g.B.Block.layers g.B.Block.size v k s c.publish.new.self) (sym flights)
      (unmarked g.B.Block.contents g.B.Block.layers g.B.Block.size g.B.Block.fault_count g.B.Block.done_count v c.self.invariant.whole c.args.number k s c.publish.new.self within is j m.0 found fields (c.publish.ensures.publishes m.0 m.1 (mark_safe s v.flights c.args.number j found m.0 m.1))) in
      let mine = mark_number s v.flights c.args.number j found in
      let n = c.save_next_pair-self-inside.result in
      let ts = c.save_next_pair-self-inside.new.snaps.items in
      let gs = c.save_next_pair-self-inside.new.flights.items in
      let saved = c.save_next_pair-self-inside.ensures.saved in
      let cause = published_cause g.B.Block.contents g.B.Block.layers g.B.Block.size v c.self.invariant.whole c.args.number k s c.publish.new.self within is j m.0 mine fields ts n c.route_again.new.flights.items gs saved g.B.Block.fault_count in
      let few = published_copies g.B.Block.contents g.B.Block.layers g.B.Block.size v c.self.invariant.whole c.args.number k s c.publish.new.self within is j m.0 mine fields ts n c.route_again.new.flights.items gs saved in
      let good = published_good g.B.Block.contents g.B.Block.layers g.B.Block.size v c.self.invariant.whole k s c.publish.new.self within is c.route_again.new.flights.items gone g.B.Block.fault_count g.B.Block.done_count c.args.number ts n gs saved cause few in
      good.whole;
  lasting =
      let v : Volumed g.row.B.Denot = record { origin = c.self.inside.origin; snaps = c.self.inside.snaps.items; merge = c.self.inside.merge; flights = c.self.inside.flights.items; requests = c.self.inside.requests; copies = c.self.inside.copies; attached = c.self.inside.attached } in
      let s = c.index_mut-snap.result.now in
      let k = c.in-Some.place in
      let j = c.in-Some.index in
      let within : k < length v.snaps = omega (arith, c.in-Some.ensures.found.0, ap length c.deref.ensures.value) in
      let is = c.index_mut-snap.ensures.value in
      let found : position (is_mark_of s v.flights c.args.number) s.marks ≡ Some j = mark_found c.args.number k j v.snaps c.deref.result.now v.flights c.deref-2.result.now s c.deref.ensures.value c.deref-2.ensures.value is (c.in-Some.ensures.found.1 s) in
      let m = mark_is c.args.number j v.flights s found in
      let fields = c.publish.ensures.fields m.0 m.1 in
      let flights : c.route_again.new.flights.items ≡ map (again_of (merge_books g.B.Block.contents g.B.Block.layers true v.merge) (is_clear (map (books_of g.B.Block.contents g.B.Block.layers) (slice_set v.snaps k c.publish.new.self)))) (map (placed_of (books_of g.B.Block.contents g.B.Block.layers c.publish.new.self)) v.flights) =
      c.route_again.ensures ∙ ap (λ xs. map (again_of (merge_books g.B.Block.contents g.B.Block.layers true v.merge) (is_clear (map (books_of g.B.Block.contents g.B.Block.layers) xs))) c.route_placed.new.flights.items) c.deref-in-Some.ensures.value
      ∙ ap (map (again_of (merge_books g.B.Block.contents g.B.Block.layers true v.merge) (is_clear (map (books_of g.B.Block.contents g.B.Block.layers) (slice_set v.snaps k c.publish.new.self))))) c.route_placed.ensures in
      let gone = subst (IsUnmarked g.B.Block.contents g.B.Block.layers g.B.Block.size v k s c.publish.new.self) (sym flights)
      (unmarked g.B.Block.contents g.B.Block.layers g.B.Block.size g.B.Block.fault_count g.B.Block.done_count v c.self.invariant.whole c.args.number k s c.publish.new.self within is j m.0 found fields (c.publish.ensures.publishes m.0 m.1 (mark_safe s v.flights c.args.number j found m.0 m.1))) in
      let mine = mark_number s v.flights c.args.number j found in
      let n = c.save_next_pair-self-inside.result in
      let ts = c.save_next_pair-self-inside.new.snaps.items in
      let gs = c.save_next_pair-self-inside.new.flights.items in
      let saved = c.save_next_pair-self-inside.ensures.saved in
      let cause = published_cause g.B.Block.contents g.B.Block.layers g.B.Block.size v c.self.invariant.whole c.args.number k s c.publish.new.self within is j m.0 mine fields ts n c.route_again.new.flights.items gs saved g.B.Block.fault_count in
      let few = published_copies g.B.Block.contents g.B.Block.layers g.B.Block.size v c.self.invariant.whole c.args.number k s c.publish.new.self within is j m.0 mine fields ts n c.route_again.new.flights.items gs saved in
      let left = all_then v.snaps (slice_set v.snaps k c.publish.new.self) ts (one_left v.snaps k s c.publish.new.self within is (left_marks s c.publish.new.self _ _ fields)) (next_beside g.B.Block.contents g.B.Block.layers v.merge (slice_set v.snaps k c.publish.new.self) ts _ _ _ _ saved) in
      let goes = list_moves g.B.Block.may_hold g.B.Block.contents g.B.Block.layers g.B.Block.size g.met.B.Block.whole g.met.B.Block.holds_now _ c.self.invariant.whole c.self.invariant.lasting.snaps None ts left in
      let both = beside_both g.B.Block.may_hold g.B.Block.contents g.B.Block.layers g.B.Block.size g.met.B.Block.whole g.met.B.Block.holds_now _ c.self.invariant.whole c.self.invariant.lasting None _ goes refl refl in
      record { snaps = both.lasts; merge = both.merge };
}

pub returns-in-Some-clause-step : goal.returns-in-Some-clause-step
returns-in-Some-clause-step g c =
    let v : Volumed g.row.B.Denot = record { origin = c.self.inside.origin; snaps = c.self.inside.snaps.items; merge = c.self.inside.merge; flights = c.self.inside.flights.items; requests = c.self.inside.requests; copies = c.self.inside.copies; attached = c.self.inside.attached } in
    let s = c.index_mut-snap.result.now in
    let k = c.in-Some.place in
    let j = c.in-Some.index in
    let within : k < length v.snaps = omega (arith, c.in-Some.ensures.found.0, ap length c.deref.ensures.value) in
    let is = c.index_mut-snap.ensures.value in
    let found : position (is_mark_of s v.flights c.args.number) s.marks ≡ Some j = mark_found c.args.number k j v.snaps c.deref.result.now v.flights c.deref-2.result.now s c.deref.ensures.value c.deref-2.ensures.value is (c.in-Some.ensures.found.1 s) in
    let m = mark_is c.args.number j v.flights s found in
    let fields = c.publish.ensures.fields m.0 m.1 in
    let flights : c.route_again.new.flights.items ≡ map (again_of (merge_books g.B.Block.contents g.B.Block.layers true v.merge) (is_clear (map (books_of g.B.Block.contents g.B.Block.layers) (slice_set v.snaps k c.publish.new.self)))) (map (placed_of (books_of g.B.Block.contents g.B.Block.layers c.publish.new.self)) v.flights) =
    c.route_again.ensures ∙ ap (λ xs. map (again_of (merge_books g.B.Block.contents g.B.Block.layers true v.merge) (is_clear (map (books_of g.B.Block.contents g.B.Block.layers) xs))) c.route_placed.new.flights.items) c.deref-in-Some.ensures.value
    ∙ ap (map (again_of (merge_books g.B.Block.contents g.B.Block.layers true v.merge) (is_clear (map (books_of g.B.Block.contents g.B.Block.layers) (slice_set v.snaps k c.publish.new.self))))) c.route_placed.ensures in
    let gone = subst (IsUnmarked g.B.Block.contents g.B.Block.layers g.B.Block.size v k s c.publish.new.self) (sym flights)
    (unmarked g.B.Block.contents g.B.Block.layers g.B.Block.size g.B.Block.fault_count g.B.Block.done_count v c.self.invariant.whole c.args.number k s c.publish.new.self within is j m.0 found fields (c.publish.ensures.publishes m.0 m.1 (mark_safe s v.flights c.args.number j found m.0 m.1))) in
    let mine = mark_number s v.flights c.args.number j found in
    let n = c.save_next_pair-self-inside.result in
    let ts = c.save_next_pair-self-inside.new.snaps.items in
    let gs = c.save_next_pair-self-inside.new.flights.items in
    let saved = c.save_next_pair-self-inside.ensures.saved in
    let cause = published_cause g.B.Block.contents g.B.Block.layers g.B.Block.size v c.self.invariant.whole c.args.number k s c.publish.new.self within is j m.0 mine fields ts n c.route_again.new.flights.items gs saved g.B.Block.fault_count in
    let few = published_copies g.B.Block.contents g.B.Block.layers g.B.Block.size v c.self.invariant.whole c.args.number k s c.publish.new.self within is j m.0 mine fields ts n c.route_again.new.flights.items gs saved in
    let good = published_good g.B.Block.contents g.B.Block.layers g.B.Block.size v c.self.invariant.whole k s c.publish.new.self within is c.route_again.new.flights.items gone g.B.Block.fault_count g.B.Block.done_count c.args.number ts n gs saved cause few in
    rw (← c.self.view_is) good.stepped

pub returns-in-Some-clause-exact : goal.returns-in-Some-clause-exact
returns-in-Some-clause-exact g c =
    let v : Volumed g.row.B.Denot = record { origin = c.self.inside.origin; snaps = c.self.inside.snaps.items; merge = c.self.inside.merge; flights = c.self.inside.flights.items; requests = c.self.inside.requests; copies = c.self.inside.copies; attached = c.self.inside.attached } in
    let s = c.index_mut-snap.result.now in
    let k = c.in-Some.place in
    let j = c.in-Some.index in
    let within : k < length v.snaps = omega (arith, c.in-Some.ensures.found.0, ap length c.deref.ensures.value) in
    let is = c.index_mut-snap.ensures.value in
    let found : position (is_mark_of s v.flights c.args.number) s.marks ≡ Some j = mark_found c.args.number k j v.snaps c.deref.result.now v.flights c.deref-2.result.now s c.deref.ensures.value c.deref-2.ensures.value is (c.in-Some.ensures.found.1 s) in
    let m = mark_is c.args.number j v.flights s found in
    let fields = c.publish.ensures.fields m.0 m.1 in
    let flights : c.route_again.new.flights.items ≡ map (again_of (merge_books g.B.Block.contents g.B.Block.layers true v.merge) (is_clear (map (books_of g.B.Block.contents g.B.Block.layers) (slice_set v.snaps k c.publish.new.self)))) (map (placed_of (books_of g.B.Block.contents g.B.Block.layers c.publish.new.self)) v.flights) =
    c.route_again.ensures ∙ ap (λ xs. map (again_of (merge_books g.B.Block.contents g.B.Block.layers true v.merge) (is_clear (map (books_of g.B.Block.contents g.B.Block.layers) xs))) c.route_placed.new.flights.items) c.deref-in-Some.ensures.value
    ∙ ap (map (again_of (merge_books g.B.Block.contents g.B.Block.layers true v.merge) (is_clear (map (books_of g.B.Block.contents g.B.Block.layers) (slice_set v.snaps k c.publish.new.self))))) c.route_placed.ensures in
    rw (← c.self.view_is) (published_exact g.B.Block.contents g.B.Block.layers g.B.Block.size v c.self.invariant.whole c.args.number k s within is c.publish.new.self j m.0 c.route_again.new.flights.items found m.1 fields flights
    c.save_next_pair-self-inside.new.snaps.items c.save_next_pair-self-inside.result c.save_next_pair-self-inside.new.flights.items c.save_next_pair-self-inside.ensures.saved)

pub returns-in-Some-clause-due : goal.returns-in-Some-clause-due
returns-in-Some-clause-due g c =
    let v = c.self.inside in
    let s = c.index_mut-snap.result.now in
    let k = c.in-Some.place in
    let j = c.in-Some.index in
    let within : k < length v.snaps.items = omega (arith, c.in-Some.ensures.found.0, ap length c.deref.ensures.value) in
    let is = c.index_mut-snap.ensures.value in
    let found : position (is_mark_of s v.flights.items c.args.number) s.marks ≡ Some j = mark_found c.args.number k j v.snaps.items c.deref.result.now v.flights.items c.deref-2.result.now s c.deref.ensures.value c.deref-2.ensures.value is (c.in-Some.ensures.found.1 s) in
    rw (← c.self.view_is) (sym (due_by g.B.Block.contents g.B.Block.layers _ (has_mark_at v.flights.items c.args.number) v.snaps.items v.snaps.items true refl (λ s. refl) (mark_due c.args.number k j v.snaps.items v.flights.items s within is found)))

pub returns-in-None-clause-due : goal.returns-in-None-clause-due
returns-in-None-clause-due g c =
    rw (← c.self.view_is) (sym (due_by g.B.Block.contents g.B.Block.layers _ (has_mark_at c.self.inside.flights.items c.args.number) c.self.inside.snaps.items c.deref.result.now false c.deref.ensures.value (λ s. refl)
    (ap (λ fs. list_any (has_mark_at fs c.args.number) c.deref.result.now) (sym c.deref-2.ensures.value) ∙ c.in-None.ensures.none)))

pub returns-in-Some-clause-stops_snaps : goal.returns-in-Some-clause-stops_snaps
returns-in-Some-clause-stops_snaps g c =
    let v : Volumed g.row.B.Denot = record { origin = c.self.inside.origin; snaps = c.self.inside.snaps.items; merge = c.self.inside.merge; flights = c.self.inside.flights.items; requests = c.self.inside.requests; copies = c.self.inside.copies; attached = c.self.inside.attached } in
    let s = c.index_mut-snap.result.now in
    let k = c.in-Some.place in
    let j = c.in-Some.index in
    let within : k < length v.snaps = omega (arith, c.in-Some.ensures.found.0, ap length c.deref.ensures.value) in
    let is = c.index_mut-snap.ensures.value in
    let found : position (is_mark_of s v.flights c.args.number) s.marks ≡ Some j = mark_found c.args.number k j v.snaps c.deref.result.now v.flights c.deref-2.result.now s c.deref.ensures.value c.deref-2.ensures.value is (c.in-Some.ensures.found.1 s) in
    let m = mark_is c.args.number j v.flights s found in
    let fields = c.publish.ensures.fields m.0 m.1 in
    let flights : c.route_again.new.flights.items ≡ map (again_of (merge_books g.B.Block.contents g.B.Block.layers true v.merge) (is_clear (map (books_of g.B.Block.contents g.B.Block.layers) (slice_set v.snaps k c.publish.new.self)))) (map (placed_of (books_of g.B.Block.contents g.B.Block.layers c.publish.new.self)) v.flights) =
    c.route_again.ensures ∙ ap (λ xs. map (again_of (merge_books g.B.Block.contents g.B.Block.layers true v.merge) (is_clear (map (books_of g.B.Block.contents g.B.Block.layers) xs))) c.route_placed.new.flights.items) c.deref-in-Some.ensures.value
    ∙ ap (map (again_of (merge_books g.B.Block.contents g.B.Block.layers true v.merge) (is_clear (map (books_of g.B.Block.contents g.B.Block.layers) (slice_set v.snaps k c.publish.new.self))))) c.route_placed.ensures in
    let gone = subst (IsUnmarked g.B.Block.contents g.B.Block.layers g.B.Block.size v k s c.publish.new.self) (sym flights)
    (unmarked g.B.Block.contents g.B.Block.layers g.B.Block.size g.B.Block.fault_count g.B.Block.done_count v c.self.invariant.whole c.args.number k s c.publish.new.self within is j m.0 found fields (c.publish.ensures.publishes m.0 m.1 (mark_safe s v.flights c.args.number j found m.0 m.1))) in
    let mine = mark_number s v.flights c.args.number j found in
    let n = c.save_next_pair-self-inside.result in
    let ts = c.save_next_pair-self-inside.new.snaps.items in
    let gs = c.save_next_pair-self-inside.new.flights.items in
    let saved = c.save_next_pair-self-inside.ensures.saved in
    let cause = published_cause g.B.Block.contents g.B.Block.layers g.B.Block.size v c.self.invariant.whole c.args.number k s c.publish.new.self within is j m.0 mine fields ts n c.route_again.new.flights.items gs saved g.B.Block.fault_count in
    let few = published_copies g.B.Block.contents g.B.Block.layers g.B.Block.size v c.self.invariant.whole c.args.number k s c.publish.new.self within is j m.0 mine fields ts n c.route_again.new.flights.items gs saved in
    let left = all_then v.snaps (slice_set v.snaps k c.publish.new.self) ts (one_left v.snaps k s c.publish.new.self within is (left_marks s c.publish.new.self _ _ fields)) (next_beside g.B.Block.contents g.B.Block.layers v.merge (slice_set v.snaps k c.publish.new.self) ts _ _ _ _ saved) in
    let goes = list_moves g.B.Block.may_hold g.B.Block.contents g.B.Block.layers g.B.Block.size g.met.B.Block.whole g.met.B.Block.holds_now _ c.self.invariant.whole c.self.invariant.lasting.snaps None ts left in
    let both = beside_both g.B.Block.may_hold g.B.Block.contents g.B.Block.layers g.B.Block.size g.met.B.Block.whole g.met.B.Block.holds_now _ c.self.invariant.whole c.self.invariant.lasting None _ goes refl refl in
    rw (← c.self.view_is) both.stops_snaps

pub returns-in-Some-clause-stops_origin : goal.returns-in-Some-clause-stops_origin
returns-in-Some-clause-stops_origin g c =
    let v : Volumed g.row.B.Denot = record { origin = c.self.inside.origin; snaps = c.self.inside.snaps.items; merge = c.self.inside.merge; flights = c.self.inside.flights.items; requests = c.self.inside.requests; copies = c.self.inside.copies; attached = c.self.inside.attached } in
    let s = c.index_mut-snap.result.now in
    let k = c.in-Some.place in
    let j = c.in-Some.index in
    let within : k < length v.snaps = omega (arith, c.in-Some.ensures.found.0, ap length c.deref.ensures.value) in
    let is = c.index_mut-snap.ensures.value in
    let found : position (is_mark_of s v.flights c.args.number) s.marks ≡ Some j = mark_found c.args.number k j v.snaps c.deref.result.now v.flights c.deref-2.result.now s c.deref.ensures.value c.deref-2.ensures.value is (c.in-Some.ensures.found.1 s) in
    let m = mark_is c.args.number j v.flights s found in
    let fields = c.publish.ensures.fields m.0 m.1 in
    let flights : c.route_again.new.flights.items ≡ map (again_of (merge_books g.B.Block.contents g.B.Block.layers true v.merge) (is_clear (map (books_of g.B.Block.contents g.B.Block.layers) (slice_set v.snaps k c.publish.new.self)))) (map (placed_of (books_of g.B.Block.contents g.B.Block.layers c.publish.new.self)) v.flights) =
    c.route_again.ensures ∙ ap (λ xs. map (again_of (merge_books g.B.Block.contents g.B.Block.layers true v.merge) (is_clear (map (books_of g.B.Block.contents g.B.Block.layers) xs))) c.route_placed.new.flights.items) c.deref-in-Some.ensures.value
    ∙ ap (map (again_of (merge_books g.B.Block.contents g.B.Block.layers true v.merge) (is_clear (map (books_of g.B.Block.contents g.B.Block.layers) (slice_set v.snaps k c.publish.new.self))))) c.route_placed.ensures in
    let gone = subst (IsUnmarked g.B.Block.contents g.B.Block.layers g.B.Block.size v k s c.publish.new.self) (sym flights)
    (unmarked g.B.Block.contents g.B.Block.layers g.B.Block.size g.B.Block.fault_count g.B.Block.done_count v c.self.invariant.whole c.args.number k s c.publish.new.self within is j m.0 found fields (c.publish.ensures.publishes m.0 m.1 (mark_safe s v.flights c.args.number j found m.0 m.1))) in
    let mine = mark_number s v.flights c.args.number j found in
    let n = c.save_next_pair-self-inside.result in
    let ts = c.save_next_pair-self-inside.new.snaps.items in
    let gs = c.save_next_pair-self-inside.new.flights.items in
    let saved = c.save_next_pair-self-inside.ensures.saved in
    let cause = published_cause g.B.Block.contents g.B.Block.layers g.B.Block.size v c.self.invariant.whole c.args.number k s c.publish.new.self within is j m.0 mine fields ts n c.route_again.new.flights.items gs saved g.B.Block.fault_count in
    let few = published_copies g.B.Block.contents g.B.Block.layers g.B.Block.size v c.self.invariant.whole c.args.number k s c.publish.new.self within is j m.0 mine fields ts n c.route_again.new.flights.items gs saved in
    let left = all_then v.snaps (slice_set v.snaps k c.publish.new.self) ts (one_left v.snaps k s c.publish.new.self within is (left_marks s c.publish.new.self _ _ fields)) (next_beside g.B.Block.contents g.B.Block.layers v.merge (slice_set v.snaps k c.publish.new.self) ts _ _ _ _ saved) in
    let goes = list_moves g.B.Block.may_hold g.B.Block.contents g.B.Block.layers g.B.Block.size g.met.B.Block.whole g.met.B.Block.holds_now _ c.self.invariant.whole c.self.invariant.lasting.snaps None ts left in
    let both = beside_both g.B.Block.may_hold g.B.Block.contents g.B.Block.layers g.B.Block.size g.met.B.Block.whole g.met.B.Block.holds_now _ c.self.invariant.whole c.self.invariant.lasting None _ goes refl refl in
    rw (← c.self.view_is) both.stops_origin
