-- A chunk is read from the merging store.
use Rattle.std.proofs.Common.{◌≡◌, ap, sym, refl, ◌∙◌, true, map, subst, length, Some, ◌<◌, ◌*◌}
use Rattle.std.specs.List.{All}
use Rattle.device.specs.Layers.{is_loud}
use Rattle.plain_machine.specs.declared.event.Event.TheVariants.{MergeRead}
use Rattle.volume_laws.specs.Again.{again_of}
use Rattle.volume_laws.specs.MergeDue.{can_read}
use Rattle.volume_laws.specs.Published.{is_clear}
use Rattle.snapshot.specs.Kept.{Kept, books_of}
use Rattle.merge.specs.Merging.{Merging, books_of as merging_books}
use Rattle.snapshot_list.specs.Rooms.{merge_books}
use Rattle.merge.specs.Due.{next_read_of, can_release_of}
use Rattle.volume.specs.Volumed.{Volumed}
use Rattle.volume.proofs.Chunks.{chunks_all}
use Rattle.volume.proofs.MergeDues.{read_due, read_pair, read_some, read_next, read_early}
use Rattle.volume.proofs.MergeOperations.{read_good, store_stops, fails_from, stopped_from, due_running, due_unfinished}
use Rattle.volume.proofs.MergeChanging.{disk_stays, merged_in}
use Rattle.volume.proofs.MovedMerges.{read_moved, read_stopped}
use Rattle.volume.proofs.MergeBoth.{fault_both, still_both}
use Rattle.volume.proofs.Lefts.{all_same}
use Rattle.volume.proofs.LastOne.{same_device}
use Rattle.volume.proofs.volume.Volume.merge_read.Goals as goal

pub returns-then-not-is_read_due-clause-due : goal.returns-then-not-is_read_due-clause-due
returns-then-not-is_read_due-clause-due g c =
    let v : Volumed g.row.B.Denot = record { origin = c.self.inside.origin; snaps = c.self.inside.snaps.items; merge = c.self.inside.merge; flights = c.self.inside.flights.items; requests = c.self.inside.requests; copies = c.self.inside.copies; attached = c.self.inside.attached } in
    rw (← c.self.view_is) (sym (read_due g.B.Block.contents g.B.Block.layers v c.in-Some.merge c.in-Some.is ∙ ap (λ fs. can_read fs (merging_books g.B.Block.contents true c.in-Some.merge)) (sym c.deref.ensures.value) ∙ sym c.if-not-is_read_due.ensures))

pub read_chunk-requires : goal.read_chunk-requires
read_chunk-requires g c =
    let v : Volumed g.row.B.Denot = record { origin = c.self.inside.origin; snaps = c.self.inside.snaps.items; merge = c.self.inside.merge; flights = c.self.inside.flights.items; requests = c.self.inside.requests; copies = c.self.inside.copies; attached = c.self.inside.attached } in
    let due : can_read c.self.inside.flights.items (merging_books g.B.Block.contents true c.in-Some.merge) ≡ true = ap (λ fs. can_read fs (merging_books g.B.Block.contents true c.in-Some.merge)) (sym c.deref.ensures.value) ∙ sym c.if-not-is_read_due.ensures in
    record { due = read_some c.self.inside.flights.items (next_read_of c.in-Some.merge.group) (sym ((c.has_group.ensures.looks true).read c.self.inside.flights.items) ∙ due) }

pub invariant_of-self-in-Ok : goal.invariant_of-self-in-Ok
invariant_of-self-in-Ok g c = record {
  whole =
      let v : Volumed g.row.B.Denot = record { origin = c.self.inside.origin; snaps = c.self.inside.snaps.items; merge = c.self.inside.merge; flights = c.self.inside.flights.items; requests = c.self.inside.requests; copies = c.self.inside.copies; attached = c.self.inside.attached } in
      let due : can_read c.self.inside.flights.items (merging_books g.B.Block.contents true c.in-Some.merge) ≡ true = ap (λ fs. can_read fs (merging_books g.B.Block.contents true c.in-Some.merge)) (sym c.deref.ensures.value) ∙ sym c.if-not-is_read_due.ensures in
      let readable = sym ((c.has_group.ensures.looks true).read c.self.inside.flights.items) ∙ due in
      let pair = read_pair c.self.inside.flights.items (next_read_of c.in-Some.merge.group) readable in
      let fields = c.in-Ok.ensures.fields pair.0 pair.1 in
      (read_good g.B.Block.contents g.B.Block.layers g.B.Block.size g.B.Block.fault_count g.B.Block.done_count v c.self.invariant.whole c.in-Some.merge c.in-Some.is c.read_chunk.new.self
      (record {
        number = ap (λ x. x.number) fields;
        chunk_is = ap (λ x. x.state.chunk) fields;
        origin = ap (λ x. x.state.origin) fields;
        loud = c.in-Ok.ensures.loud;
        sized = c.in-Ok.ensures.size;
      })
      pair.0 _ due (c.in-Ok.ensures.step pair.0 pair.1) (c.in-Ok.ensures.operation pair.0 pair.1).faulty (c.in-Ok.ensures.operation pair.0 pair.1).counted).whole;
  lasting =
      let v : Volumed g.row.B.Denot = record { origin = c.self.inside.origin; snaps = c.self.inside.snaps.items; merge = c.self.inside.merge; flights = c.self.inside.flights.items; requests = c.self.inside.requests; copies = c.self.inside.copies; attached = c.self.inside.attached } in
      let due : can_read c.self.inside.flights.items (merging_books g.B.Block.contents true c.in-Some.merge) ≡ true = ap (λ fs. can_read fs (merging_books g.B.Block.contents true c.in-Some.merge)) (sym c.deref.ensures.value) ∙ sym c.if-not-is_read_due.ensures in
      let readable = sym ((c.has_group.ensures.looks true).read c.self.inside.flights.items) ∙ due in
      let pair = read_pair c.self.inside.flights.items (next_read_of c.in-Some.merge.group) readable in
      let fields = c.in-Ok.ensures.fields pair.0 pair.1 in
      let step = (c.in-Ok.ensures.step pair.0 pair.1 true).0 in
      let w : Volumed g.row.B.Denot = record v { merge = Some c.read_chunk.new.self } in
      let goes = still_both g.B.Block.may_hold g.B.Block.contents g.B.Block.layers g.B.Block.size g.met.B.Block.whole g.met.B.Block.holds_now v c.self.invariant.whole c.self.invariant.lasting w c.read_chunk.new.self refl c.in-Some.merge c.in-Some.is (all_same v.snaps v.snaps refl) (same_device g.B.Block.may_hold g.B.Block.contents g.B.Block.layers g.B.Block.size g.met.B.Block.whole g.met.B.Block.holds_now v.origin) (record { adds = c.in-Ok.ensures.adds; bytes = c.in-Ok.ensures.same; sectors = c.in-Ok.ensures.size; loud = c.in-Ok.ensures.loud }) (ap (λ x. x.state.chunk) fields) (ap (λ x. x.pairs) fields) step.flushed in
      record { snaps = goes.lasts; merge = goes.merge };
}

pub returns-in-Ok-clause-step : goal.returns-in-Ok-clause-step
returns-in-Ok-clause-step g c =
    let v : Volumed g.row.B.Denot = record { origin = c.self.inside.origin; snaps = c.self.inside.snaps.items; merge = c.self.inside.merge; flights = c.self.inside.flights.items; requests = c.self.inside.requests; copies = c.self.inside.copies; attached = c.self.inside.attached } in
    let due : can_read c.self.inside.flights.items (merging_books g.B.Block.contents true c.in-Some.merge) ≡ true = ap (λ fs. can_read fs (merging_books g.B.Block.contents true c.in-Some.merge)) (sym c.deref.ensures.value) ∙ sym c.if-not-is_read_due.ensures in
    let readable = sym ((c.has_group.ensures.looks true).read c.self.inside.flights.items) ∙ due in
    let pair = read_pair c.self.inside.flights.items (next_read_of c.in-Some.merge.group) readable in
    let fields = c.in-Ok.ensures.fields pair.0 pair.1 in
    rw (← c.self.view_is) (read_good g.B.Block.contents g.B.Block.layers g.B.Block.size g.B.Block.fault_count g.B.Block.done_count v c.self.invariant.whole c.in-Some.merge c.in-Some.is c.read_chunk.new.self
    (record {
      number = ap (λ x. x.number) fields;
      chunk_is = ap (λ x. x.state.chunk) fields;
      origin = ap (λ x. x.state.origin) fields;
      loud = c.in-Ok.ensures.loud;
      sized = c.in-Ok.ensures.size;
    })
    pair.0 _ due (c.in-Ok.ensures.step pair.0 pair.1) (c.in-Ok.ensures.operation pair.0 pair.1).faulty (c.in-Ok.ensures.operation pair.0 pair.1).counted).stepped

pub returns-in-Ok-clause-exact : goal.returns-in-Ok-clause-exact
returns-in-Ok-clause-exact g c =
    let v : Volumed g.row.B.Denot = record { origin = c.self.inside.origin; snaps = c.self.inside.snaps.items; merge = c.self.inside.merge; flights = c.self.inside.flights.items; requests = c.self.inside.requests; copies = c.self.inside.copies; attached = c.self.inside.attached } in
    let due : can_read c.self.inside.flights.items (merging_books g.B.Block.contents true c.in-Some.merge) ≡ true = ap (λ fs. can_read fs (merging_books g.B.Block.contents true c.in-Some.merge)) (sym c.deref.ensures.value) ∙ sym c.if-not-is_read_due.ensures in
    let readable = sym ((c.has_group.ensures.looks true).read c.self.inside.flights.items) ∙ due in
    let pair = read_pair c.self.inside.flights.items (next_read_of c.in-Some.merge.group) readable in
    let fields = c.in-Ok.ensures.fields pair.0 pair.1 in
    rw (← c.self.view_is) (record { step = λ loud replied. read_moved g.B.Block.contents g.B.Block.layers replied v c.in-Some.merge c.in-Some.is _ _ _ _ ((merged_in g.B.Block.contents g.B.Block.layers g.B.Block.size v c.in-Some.merge c.in-Some.is c.self.invariant.whole).goes true).staged c.read_chunk.new.self pair.0 _ due (c.in-Ok.ensures.step pair.0 pair.1 true).0 (c.in-Ok.ensures.step pair.0 pair.1 true).1 (c.self.invariant.whole.holds.whole ∙ ap (λ n. 512 * n) (sym (merged_in g.B.Block.contents g.B.Block.layers g.B.Block.size v c.in-Some.merge c.in-Some.is c.self.invariant.whole).origin)) (c.in-Ok.ensures.operation pair.0 pair.1) c.in-Ok.ensures.same (ap (λ x. x.next) fields) })

pub returns-in-Ok-clause-due : goal.returns-in-Ok-clause-due
returns-in-Ok-clause-due g c =
    let v : Volumed g.row.B.Denot = record { origin = c.self.inside.origin; snaps = c.self.inside.snaps.items; merge = c.self.inside.merge; flights = c.self.inside.flights.items; requests = c.self.inside.requests; copies = c.self.inside.copies; attached = c.self.inside.attached } in
    rw (← c.self.view_is) (sym (read_due g.B.Block.contents g.B.Block.layers v c.in-Some.merge c.in-Some.is ∙ ap (λ fs. can_read fs (merging_books g.B.Block.contents true c.in-Some.merge)) (sym c.deref.ensures.value) ∙ sym c.if-not-is_read_due.ensures))

pub fail-requires-clause-running : goal.fail-requires-clause-running
fail-requires-clause-running g c =
    let v : Volumed g.row.B.Denot = record { origin = c.self.inside.origin; snaps = c.self.inside.snaps.items; merge = c.self.inside.merge; flights = c.self.inside.flights.items; requests = c.self.inside.requests; copies = c.self.inside.copies; attached = c.self.inside.attached } in
    let due : can_read c.self.inside.flights.items (merging_books g.B.Block.contents true c.in-Some.merge) ≡ true = ap (λ fs. can_read fs (merging_books g.B.Block.contents true c.in-Some.merge)) (sym c.deref.ensures.value) ∙ sym c.if-not-is_read_due.ensures in
    ap (λ x. x.failed) c.in-Err.ensures.kept ∙ due_running g.B.Block.contents g.B.Block.layers g.B.Block.size g.B.Block.fault_count g.B.Block.done_count v c.self.invariant.whole c.in-Some.merge c.in-Some.is MergeRead due

pub fail-requires-clause-early : goal.fail-requires-clause-early
fail-requires-clause-early g c =
    let v : Volumed g.row.B.Denot = record { origin = c.self.inside.origin; snaps = c.self.inside.snaps.items; merge = c.self.inside.merge; flights = c.self.inside.flights.items; requests = c.self.inside.requests; copies = c.self.inside.copies; attached = c.self.inside.attached } in
    let due : can_read c.self.inside.flights.items (merging_books g.B.Block.contents true c.in-Some.merge) ≡ true = ap (λ fs. can_read fs (merging_books g.B.Block.contents true c.in-Some.merge)) (sym c.deref.ensures.value) ∙ sym c.if-not-is_read_due.ensures in
    let readable = sym ((c.has_group.ensures.looks true).read c.self.inside.flights.items) ∙ due in
    let pair = read_pair c.self.inside.flights.items (next_read_of c.in-Some.merge.group) readable in
    ap (λ x. can_release_of x.group) c.in-Err.ensures.kept ∙ read_early c.in-Some.merge.group pair.0 pair.1

pub fail-requires-clause-unfinished : goal.fail-requires-clause-unfinished
fail-requires-clause-unfinished g c =
    let v : Volumed g.row.B.Denot = record { origin = c.self.inside.origin; snaps = c.self.inside.snaps.items; merge = c.self.inside.merge; flights = c.self.inside.flights.items; requests = c.self.inside.requests; copies = c.self.inside.copies; attached = c.self.inside.attached } in
    let due : can_read c.self.inside.flights.items (merging_books g.B.Block.contents true c.in-Some.merge) ≡ true = ap (λ fs. can_read fs (merging_books g.B.Block.contents true c.in-Some.merge)) (sym c.deref.ensures.value) ∙ sym c.if-not-is_read_due.ensures in
    subst (λ ps. 0 < length ps) (sym (ap (λ x. x.pairs) c.in-Err.ensures.kept)) (due_unfinished g.B.Block.contents g.B.Block.layers g.B.Block.size g.B.Block.fault_count g.B.Block.done_count v c.self.invariant.whole c.in-Some.merge c.in-Some.is MergeRead (λ e. cc) due)

pub route_again-requires : goal.route_again-requires
route_again-requires g c =
    let v : Volumed g.row.B.Denot = record { origin = c.self.inside.origin; snaps = c.self.inside.snaps.items; merge = c.self.inside.merge; flights = c.self.inside.flights.items; requests = c.self.inside.requests; copies = c.self.inside.copies; attached = c.self.inside.attached } in
    subst (All (λ (x : Kept _). 0 < x.state.chunk)) (sym c.deref-in-Err.ensures.value) (chunks_all g.B.Block.contents g.B.Block.layers g.B.Block.size v c.self.invariant.whole)

pub invariant_of-self-in-Err : goal.invariant_of-self-in-Err
invariant_of-self-in-Err g c = record {
  whole =
      let v : Volumed g.row.B.Denot = record { origin = c.self.inside.origin; snaps = c.self.inside.snaps.items; merge = c.self.inside.merge; flights = c.self.inside.flights.items; requests = c.self.inside.requests; copies = c.self.inside.copies; attached = c.self.inside.attached } in
      let due : can_read c.self.inside.flights.items (merging_books g.B.Block.contents true c.in-Some.merge) ≡ true = ap (λ fs. can_read fs (merging_books g.B.Block.contents true c.in-Some.merge)) (sym c.deref.ensures.value) ∙ sym c.if-not-is_read_due.ensures in
      let readable = sym ((c.has_group.ensures.looks true).read c.self.inside.flights.items) ∙ due in
      let pair = read_pair c.self.inside.flights.items (next_read_of c.in-Some.merge.group) readable in
      let flights = c.route_again.ensures ∙ ap (λ xs. map (again_of (merge_books g.B.Block.contents g.B.Block.layers true (Some c.fail.new.self)) (is_clear (map (books_of g.B.Block.contents g.B.Block.layers) xs))) c.self.inside.flights.items) c.deref-in-Err.ensures.value in
      let m1 = c.read_chunk.new.self in
      let kept_as : Merging g.row.B.Denot = record c.in-Some.merge { device = m1.device } in
      let fields = stopped_from kept_as m1 c.fail.new.self c.fail.ensures.fields c.in-Err.ensures.kept in
      let device = ap (λ x. x.device) c.fail.ensures.fields in
      let step = fails_from g.B.Block.contents c.in-Some.merge m1 c.fail.new.self c.in-Err.ensures.kept c.in-Err.ensures.same c.fail.ensures.step in
      (store_stops g.B.Block.contents g.B.Block.layers g.B.Block.size g.B.Block.fault_count g.B.Block.done_count v c.self.invariant.whole c.in-Some.merge c.in-Some.is c.self.inside.origin c.fail.new.self
      (record {
        number = ap (λ x. x.number) fields;
        chunk_is = ap (λ x. x.state.chunk) fields;
        origin = ap (λ x. x.state.origin) fields;
        loud = ap (λ d. is_loud (g.B.Block.layers d)) device ∙ c.in-Err.ensures.loud;
        sized = ap g.B.Block.size device ∙ c.in-Err.ensures.size;
      })
      (disk_stays g.B.Block.layers g.B.Block.size c.self.inside.origin) refl c.route_again.new.flights.items flights MergeRead (λ e. cc) (λ p q x. x) (λ xs ys e. e) refl due step (λ x. x) refl refl
      (ap g.B.Block.fault_count device ∙ (c.in-Err.ensures.operation pair.0 pair.1).faulty) (ap g.B.Block.done_count device ∙ (c.in-Err.ensures.operation pair.0 pair.1).counted)).whole;
  lasting =
      let v : Volumed g.row.B.Denot = record { origin = c.self.inside.origin; snaps = c.self.inside.snaps.items; merge = c.self.inside.merge; flights = c.self.inside.flights.items; requests = c.self.inside.requests; copies = c.self.inside.copies; attached = c.self.inside.attached } in
      let w : Volumed g.row.B.Denot = record v { merge = Some c.fail.new.self; flights = c.route_again.new.flights.items } in
      let goes = fault_both g.B.Block.may_hold g.B.Block.contents g.B.Block.layers g.B.Block.size g.met.B.Block.whole g.met.B.Block.holds_now v c.self.invariant.whole c.self.invariant.lasting w c.fail.new.self refl c.in-Some.merge c.in-Some.is (all_same v.snaps v.snaps refl) c.read_chunk.new.self refl (record { adds = c.in-Err.ensures.adds; bytes = c.in-Err.ensures.same; sectors = c.in-Err.ensures.size; loud = c.in-Err.ensures.loud }) c.in-Err.ensures.kept c.fail.ensures.fields in
      record { snaps = goes.lasts; merge = goes.merge };
}

pub returns-in-Err-clause-step : goal.returns-in-Err-clause-step
returns-in-Err-clause-step g c =
    let v : Volumed g.row.B.Denot = record { origin = c.self.inside.origin; snaps = c.self.inside.snaps.items; merge = c.self.inside.merge; flights = c.self.inside.flights.items; requests = c.self.inside.requests; copies = c.self.inside.copies; attached = c.self.inside.attached } in
    let due : can_read c.self.inside.flights.items (merging_books g.B.Block.contents true c.in-Some.merge) ≡ true = ap (λ fs. can_read fs (merging_books g.B.Block.contents true c.in-Some.merge)) (sym c.deref.ensures.value) ∙ sym c.if-not-is_read_due.ensures in
    let readable = sym ((c.has_group.ensures.looks true).read c.self.inside.flights.items) ∙ due in
    let pair = read_pair c.self.inside.flights.items (next_read_of c.in-Some.merge.group) readable in
    let flights = c.route_again.ensures ∙ ap (λ xs. map (again_of (merge_books g.B.Block.contents g.B.Block.layers true (Some c.fail.new.self)) (is_clear (map (books_of g.B.Block.contents g.B.Block.layers) xs))) c.self.inside.flights.items) c.deref-in-Err.ensures.value in
    let m1 = c.read_chunk.new.self in
    let kept_as : Merging g.row.B.Denot = record c.in-Some.merge { device = m1.device } in
    let fields = stopped_from kept_as m1 c.fail.new.self c.fail.ensures.fields c.in-Err.ensures.kept in
    let device = ap (λ x. x.device) c.fail.ensures.fields in
    let step = fails_from g.B.Block.contents c.in-Some.merge m1 c.fail.new.self c.in-Err.ensures.kept c.in-Err.ensures.same c.fail.ensures.step in
    rw (← c.self.view_is) (store_stops g.B.Block.contents g.B.Block.layers g.B.Block.size g.B.Block.fault_count g.B.Block.done_count v c.self.invariant.whole c.in-Some.merge c.in-Some.is c.self.inside.origin c.fail.new.self
    (record {
      number = ap (λ x. x.number) fields;
      chunk_is = ap (λ x. x.state.chunk) fields;
      origin = ap (λ x. x.state.origin) fields;
      loud = ap (λ d. is_loud (g.B.Block.layers d)) device ∙ c.in-Err.ensures.loud;
      sized = ap g.B.Block.size device ∙ c.in-Err.ensures.size;
    })
    (disk_stays g.B.Block.layers g.B.Block.size c.self.inside.origin) refl c.route_again.new.flights.items flights MergeRead (λ e. cc) (λ p q x. x) (λ xs ys e. e) refl due step (λ x. x) refl refl
    (ap g.B.Block.fault_count device ∙ (c.in-Err.ensures.operation pair.0 pair.1).faulty) (ap g.B.Block.done_count device ∙ (c.in-Err.ensures.operation pair.0 pair.1).counted)).stepped

pub returns-in-Err-clause-exact : goal.returns-in-Err-clause-exact
returns-in-Err-clause-exact g c =
    let v : Volumed g.row.B.Denot = record { origin = c.self.inside.origin; snaps = c.self.inside.snaps.items; merge = c.self.inside.merge; flights = c.self.inside.flights.items; requests = c.self.inside.requests; copies = c.self.inside.copies; attached = c.self.inside.attached } in
    let due : can_read c.self.inside.flights.items (merging_books g.B.Block.contents true c.in-Some.merge) ≡ true = ap (λ fs. can_read fs (merging_books g.B.Block.contents true c.in-Some.merge)) (sym c.deref.ensures.value) ∙ sym c.if-not-is_read_due.ensures in
    let readable = sym ((c.has_group.ensures.looks true).read c.self.inside.flights.items) ∙ due in
    let pair = read_pair c.self.inside.flights.items (next_read_of c.in-Some.merge.group) readable in
    let flights = c.route_again.ensures ∙ ap (λ xs. map (again_of (merge_books g.B.Block.contents g.B.Block.layers true (Some c.fail.new.self)) (is_clear (map (books_of g.B.Block.contents g.B.Block.layers) xs))) c.self.inside.flights.items) c.deref-in-Err.ensures.value in
    let m1 = c.read_chunk.new.self in
    let kept_as : Merging g.row.B.Denot = record c.in-Some.merge { device = m1.device } in
    let fields = stopped_from kept_as m1 c.fail.new.self c.fail.ensures.fields c.in-Err.ensures.kept in
    let device = ap (λ x. x.device) c.fail.ensures.fields in
    let step = fails_from g.B.Block.contents c.in-Some.merge m1 c.fail.new.self c.in-Err.ensures.kept c.in-Err.ensures.same c.fail.ensures.step in
    rw (← c.self.view_is) (record { step = λ loud replied. read_stopped g.B.Block.contents g.B.Block.layers replied v c.in-Some.merge c.in-Some.is _ _ _ _ m1 c.fail.new.self (step true) (ap (λ x. x.group) fields) device (ap (λ x. x.next) fields) c.route_again.new.flights.items flights pair.0 due (sym (c.has_group.ensures.looks true).next ∙ read_next c.in-Some.merge.group pair.0 pair.1) (c.self.invariant.whole.holds.whole ∙ ap (λ n. 512 * n) (sym (merged_in g.B.Block.contents g.B.Block.layers g.B.Block.size v c.in-Some.merge c.in-Some.is c.self.invariant.whole).origin)) (c.in-Err.ensures.operation pair.0 pair.1) c.in-Err.ensures.same })

pub returns-in-Err-clause-due : goal.returns-in-Err-clause-due
returns-in-Err-clause-due g c =
    let v : Volumed g.row.B.Denot = record { origin = c.self.inside.origin; snaps = c.self.inside.snaps.items; merge = c.self.inside.merge; flights = c.self.inside.flights.items; requests = c.self.inside.requests; copies = c.self.inside.copies; attached = c.self.inside.attached } in
    rw (← c.self.view_is) (sym (read_due g.B.Block.contents g.B.Block.layers v c.in-Some.merge c.in-Some.is ∙ ap (λ fs. can_read fs (merging_books g.B.Block.contents true c.in-Some.merge)) (sym c.deref.ensures.value) ∙ sym c.if-not-is_read_due.ensures))

pub returns-in-Err-clause-stops_snaps : goal.returns-in-Err-clause-stops_snaps
returns-in-Err-clause-stops_snaps g c =
    let v : Volumed g.row.B.Denot = record { origin = c.self.inside.origin; snaps = c.self.inside.snaps.items; merge = c.self.inside.merge; flights = c.self.inside.flights.items; requests = c.self.inside.requests; copies = c.self.inside.copies; attached = c.self.inside.attached } in
    let w : Volumed g.row.B.Denot = record v { merge = Some c.fail.new.self; flights = c.route_again.new.flights.items } in
    let goes = fault_both g.B.Block.may_hold g.B.Block.contents g.B.Block.layers g.B.Block.size g.met.B.Block.whole g.met.B.Block.holds_now v c.self.invariant.whole c.self.invariant.lasting w c.fail.new.self refl c.in-Some.merge c.in-Some.is (all_same v.snaps v.snaps refl) c.read_chunk.new.self refl (record { adds = c.in-Err.ensures.adds; bytes = c.in-Err.ensures.same; sectors = c.in-Err.ensures.size; loud = c.in-Err.ensures.loud }) c.in-Err.ensures.kept c.fail.ensures.fields in
    rw (← c.self.view_is) goes.stops_snaps

pub returns-in-Err-clause-stops_origin : goal.returns-in-Err-clause-stops_origin
returns-in-Err-clause-stops_origin g c =
    let v : Volumed g.row.B.Denot = record { origin = c.self.inside.origin; snaps = c.self.inside.snaps.items; merge = c.self.inside.merge; flights = c.self.inside.flights.items; requests = c.self.inside.requests; copies = c.self.inside.copies; attached = c.self.inside.attached } in
    let w : Volumed g.row.B.Denot = record v { merge = Some c.fail.new.self; flights = c.route_again.new.flights.items } in
    let goes = fault_both g.B.Block.may_hold g.B.Block.contents g.B.Block.layers g.B.Block.size g.met.B.Block.whole g.met.B.Block.holds_now v c.self.invariant.whole c.self.invariant.lasting w c.fail.new.self refl c.in-Some.merge c.in-Some.is (all_same v.snaps v.snaps refl) c.read_chunk.new.self refl (record { adds = c.in-Err.ensures.adds; bytes = c.in-Err.ensures.same; sectors = c.in-Err.ensures.size; loud = c.in-Err.ensures.loud }) c.in-Err.ensures.kept c.fail.ensures.fields in
    rw (← c.self.view_is) goes.stops_origin

pub returns-in-Ok-clause-stops_snaps : goal.returns-in-Ok-clause-stops_snaps
returns-in-Ok-clause-stops_snaps g c =
    let v : Volumed g.row.B.Denot = record { origin = c.self.inside.origin; snaps = c.self.inside.snaps.items; merge = c.self.inside.merge; flights = c.self.inside.flights.items; requests = c.self.inside.requests; copies = c.self.inside.copies; attached = c.self.inside.attached } in
    let due : can_read c.self.inside.flights.items (merging_books g.B.Block.contents true c.in-Some.merge) ≡ true = ap (λ fs. can_read fs (merging_books g.B.Block.contents true c.in-Some.merge)) (sym c.deref.ensures.value) ∙ sym c.if-not-is_read_due.ensures in
    let readable = sym ((c.has_group.ensures.looks true).read c.self.inside.flights.items) ∙ due in
    let pair = read_pair c.self.inside.flights.items (next_read_of c.in-Some.merge.group) readable in
    let fields = c.in-Ok.ensures.fields pair.0 pair.1 in
    let step = (c.in-Ok.ensures.step pair.0 pair.1 true).0 in
    let w : Volumed g.row.B.Denot = record v { merge = Some c.read_chunk.new.self } in
    let goes = still_both g.B.Block.may_hold g.B.Block.contents g.B.Block.layers g.B.Block.size g.met.B.Block.whole g.met.B.Block.holds_now v c.self.invariant.whole c.self.invariant.lasting w c.read_chunk.new.self refl c.in-Some.merge c.in-Some.is (all_same v.snaps v.snaps refl) (same_device g.B.Block.may_hold g.B.Block.contents g.B.Block.layers g.B.Block.size g.met.B.Block.whole g.met.B.Block.holds_now v.origin) (record { adds = c.in-Ok.ensures.adds; bytes = c.in-Ok.ensures.same; sectors = c.in-Ok.ensures.size; loud = c.in-Ok.ensures.loud }) (ap (λ x. x.state.chunk) fields) (ap (λ x. x.pairs) fields) step.flushed in
    rw (← c.self.view_is) goes.stops_snaps

pub returns-in-Ok-clause-stops_origin : goal.returns-in-Ok-clause-stops_origin
returns-in-Ok-clause-stops_origin g c =
    let v : Volumed g.row.B.Denot = record { origin = c.self.inside.origin; snaps = c.self.inside.snaps.items; merge = c.self.inside.merge; flights = c.self.inside.flights.items; requests = c.self.inside.requests; copies = c.self.inside.copies; attached = c.self.inside.attached } in
    let due : can_read c.self.inside.flights.items (merging_books g.B.Block.contents true c.in-Some.merge) ≡ true = ap (λ fs. can_read fs (merging_books g.B.Block.contents true c.in-Some.merge)) (sym c.deref.ensures.value) ∙ sym c.if-not-is_read_due.ensures in
    let readable = sym ((c.has_group.ensures.looks true).read c.self.inside.flights.items) ∙ due in
    let pair = read_pair c.self.inside.flights.items (next_read_of c.in-Some.merge.group) readable in
    let fields = c.in-Ok.ensures.fields pair.0 pair.1 in
    let step = (c.in-Ok.ensures.step pair.0 pair.1 true).0 in
    let w : Volumed g.row.B.Denot = record v { merge = Some c.read_chunk.new.self } in
    let goes = still_both g.B.Block.may_hold g.B.Block.contents g.B.Block.layers g.B.Block.size g.met.B.Block.whole g.met.B.Block.holds_now v c.self.invariant.whole c.self.invariant.lasting w c.read_chunk.new.self refl c.in-Some.merge c.in-Some.is (all_same v.snaps v.snaps refl) (same_device g.B.Block.may_hold g.B.Block.contents g.B.Block.layers g.B.Block.size g.met.B.Block.whole g.met.B.Block.holds_now v.origin) (record { adds = c.in-Ok.ensures.adds; bytes = c.in-Ok.ensures.same; sectors = c.in-Ok.ensures.size; loud = c.in-Ok.ensures.loud }) (ap (λ x. x.state.chunk) fields) (ap (λ x. x.pairs) fields) step.flushed in
    rw (← c.self.view_is) goes.stops_origin
