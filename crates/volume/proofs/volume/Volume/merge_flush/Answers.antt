-- The origin disk is flushed for the merge.
use Rattle.std.proofs.Common.{◌≡◌, ap, sym, refl, ◌∙◌, true, map, subst, length, Some, ◌<◌}
use Rattle.std.specs.List.{All}
use Rattle.device.specs.Layers.{is_loud}
use Rattle.plain_machine.specs.declared.event.Event.TheVariants.{MergeFlush}
use Rattle.volume_laws.specs.Again.{again_of}
use Rattle.volume_laws.specs.MergeDue.{can_flush}
use Rattle.volume_laws.specs.Published.{is_clear}
use Rattle.snapshot.specs.Kept.{Kept, books_of}
use Rattle.merge.specs.Merging.{due_of as merging_due}
use Rattle.snapshot_list.specs.Rooms.{merge_books}
use Rattle.volume.specs.Volumed.{Volumed}
use Rattle.volume.proofs.Chunks.{chunks_all}
use Rattle.volume.proofs.MergeDues.{flush_due}
use Rattle.volume.proofs.MergeOperations.{flush_good, disk_stops, stopped_from, stops_from, due_running, due_unfinished}
use Rattle.volume.proofs.MovedMerges.{flush_moved, flush_stopped}
use Rattle.volume.proofs.MergeBoth.{flushed_both, disk_fault_both}
use Rattle.volume.proofs.Lefts.{all_same}
use Rattle.volume.proofs.volume.Volume.merge_flush.Goals as goal

pub returns-then-not-can_flush-clause-due : goal.returns-then-not-can_flush-clause-due
returns-then-not-can_flush-clause-due g c =
    let v : Volumed g.row.B.Denot = record { origin = c.self.inside.origin; snaps = c.self.inside.snaps.items; merge = c.self.inside.merge; flights = c.self.inside.flights.items; requests = c.self.inside.requests; copies = c.self.inside.copies; attached = c.self.inside.attached } in
    rw (← c.self.view_is) (sym (flush_due g.B.Block.contents g.B.Block.layers v c.in-Some.merge c.in-Some.is ∙ sym (c.has_group.ensures.looks true).flush ∙ sym c.if-not-can_flush.ensures))

pub invariant_of-self-in-Ok : goal.invariant_of-self-in-Ok
invariant_of-self-in-Ok g c = record {
  whole =
      let v : Volumed g.row.B.Denot = record { origin = c.self.inside.origin; snaps = c.self.inside.snaps.items; merge = c.self.inside.merge; flights = c.self.inside.flights.items; requests = c.self.inside.requests; copies = c.self.inside.copies; attached = c.self.inside.attached } in
      let fields = c.in-Ok.ensures.fields in
      (flush_good g.B.Block.contents g.B.Block.layers g.B.Block.size g.B.Block.fault_count g.B.Block.done_count v c.self.invariant.whole c.in-Some.merge c.in-Some.is c.flush.new.origin c.flush.new.self
      (record {
        number = ap (λ x. x.number) fields;
        chunk_is = ap (λ x. x.state.chunk) fields;
        origin = ap (λ x. x.state.origin) fields;
        loud = ap (λ x. is_loud (g.B.Block.layers x.device)) fields;
        sized = ap (λ x. g.B.Block.size x.device) fields;
      })
      (record { sectors = c.in-Ok.ensures.size; loud = c.in-Ok.ensures.loud }) c.in-Ok.ensures.same c.in-Ok.ensures.step c.in-Ok.ensures.operation.faulty c.in-Ok.ensures.operation.counted (ap (λ x. x.device) fields)).whole;
  lasting =
      let v : Volumed g.row.B.Denot = record { origin = c.self.inside.origin; snaps = c.self.inside.snaps.items; merge = c.self.inside.merge; flights = c.self.inside.flights.items; requests = c.self.inside.requests; copies = c.self.inside.copies; attached = c.self.inside.attached } in
      let w : Volumed g.row.B.Denot = record v { origin = c.flush.new.origin; merge = Some c.flush.new.self } in
      let goes = flushed_both g.B.Block.may_hold g.B.Block.contents g.B.Block.layers g.B.Block.size g.met.B.Block.whole g.met.B.Block.holds_now v c.self.invariant.whole c.self.invariant.lasting w c.flush.new.self refl c.in-Some.merge c.in-Some.is (all_same v.snaps v.snaps refl) (record { adds = c.in-Ok.ensures.adds; bytes = c.in-Ok.ensures.same; sectors = c.in-Ok.ensures.size; loud = c.in-Ok.ensures.loud }) c.in-Ok.ensures.firm (ap (λ x. x.device) c.in-Ok.ensures.fields) (c.in-Ok.ensures.step true) in
      record { snaps = goes.lasts; merge = goes.merge };
}

pub returns-in-Ok-clause-step : goal.returns-in-Ok-clause-step
returns-in-Ok-clause-step g c =
    let v : Volumed g.row.B.Denot = record { origin = c.self.inside.origin; snaps = c.self.inside.snaps.items; merge = c.self.inside.merge; flights = c.self.inside.flights.items; requests = c.self.inside.requests; copies = c.self.inside.copies; attached = c.self.inside.attached } in
    let fields = c.in-Ok.ensures.fields in
    rw (← c.self.view_is) (flush_good g.B.Block.contents g.B.Block.layers g.B.Block.size g.B.Block.fault_count g.B.Block.done_count v c.self.invariant.whole c.in-Some.merge c.in-Some.is c.flush.new.origin c.flush.new.self
    (record {
      number = ap (λ x. x.number) fields;
      chunk_is = ap (λ x. x.state.chunk) fields;
      origin = ap (λ x. x.state.origin) fields;
      loud = ap (λ x. is_loud (g.B.Block.layers x.device)) fields;
      sized = ap (λ x. g.B.Block.size x.device) fields;
    })
    (record { sectors = c.in-Ok.ensures.size; loud = c.in-Ok.ensures.loud }) c.in-Ok.ensures.same c.in-Ok.ensures.step c.in-Ok.ensures.operation.faulty c.in-Ok.ensures.operation.counted (ap (λ x. x.device) fields)).stepped

pub returns-in-Ok-clause-exact : goal.returns-in-Ok-clause-exact
returns-in-Ok-clause-exact g c =
    let v : Volumed g.row.B.Denot = record { origin = c.self.inside.origin; snaps = c.self.inside.snaps.items; merge = c.self.inside.merge; flights = c.self.inside.flights.items; requests = c.self.inside.requests; copies = c.self.inside.copies; attached = c.self.inside.attached } in
    let due : can_flush (merging_due g.B.Block.contents true c.in-Some.merge) ≡ true = sym (c.has_group.ensures.looks true).flush ∙ sym c.if-not-can_flush.ensures in
    let fields = c.in-Ok.ensures.fields in
    rw (← c.self.view_is) (record { step = λ loud replied. flush_moved g.B.Block.contents g.B.Block.layers replied v c.in-Some.merge c.in-Some.is _ _ _ _ due c.flush.new.origin c.in-Ok.ensures.same c.in-Ok.ensures.operation c.flush.new.self (c.in-Ok.ensures.step true) (ap (λ x. x.device) fields) (ap (λ x. x.next) fields) })

pub returns-in-Ok-clause-due : goal.returns-in-Ok-clause-due
returns-in-Ok-clause-due g c =
    let v : Volumed g.row.B.Denot = record { origin = c.self.inside.origin; snaps = c.self.inside.snaps.items; merge = c.self.inside.merge; flights = c.self.inside.flights.items; requests = c.self.inside.requests; copies = c.self.inside.copies; attached = c.self.inside.attached } in
    rw (← c.self.view_is) (sym (flush_due g.B.Block.contents g.B.Block.layers v c.in-Some.merge c.in-Some.is ∙ sym (c.has_group.ensures.looks true).flush ∙ sym c.if-not-can_flush.ensures))

pub fail-requires-clause-running : goal.fail-requires-clause-running
fail-requires-clause-running g c =
    let v : Volumed g.row.B.Denot = record { origin = c.self.inside.origin; snaps = c.self.inside.snaps.items; merge = c.self.inside.merge; flights = c.self.inside.flights.items; requests = c.self.inside.requests; copies = c.self.inside.copies; attached = c.self.inside.attached } in
    let due : can_flush (merging_due g.B.Block.contents true c.in-Some.merge) ≡ true = sym (c.has_group.ensures.looks true).flush ∙ sym c.if-not-can_flush.ensures in
    ap (λ x. x.failed) c.in-Err.ensures.kept ∙ due_running g.B.Block.contents g.B.Block.layers g.B.Block.size g.B.Block.fault_count g.B.Block.done_count v c.self.invariant.whole c.in-Some.merge c.in-Some.is MergeFlush due

pub fail-requires-clause-unfinished : goal.fail-requires-clause-unfinished
fail-requires-clause-unfinished g c =
    let v : Volumed g.row.B.Denot = record { origin = c.self.inside.origin; snaps = c.self.inside.snaps.items; merge = c.self.inside.merge; flights = c.self.inside.flights.items; requests = c.self.inside.requests; copies = c.self.inside.copies; attached = c.self.inside.attached } in
    let due : can_flush (merging_due g.B.Block.contents true c.in-Some.merge) ≡ true = sym (c.has_group.ensures.looks true).flush ∙ sym c.if-not-can_flush.ensures in
    subst (λ ps. 0 < length ps) (sym (ap (λ x. x.pairs) c.in-Err.ensures.kept)) (due_unfinished g.B.Block.contents g.B.Block.layers g.B.Block.size g.B.Block.fault_count g.B.Block.done_count v c.self.invariant.whole c.in-Some.merge c.in-Some.is MergeFlush (λ e. cc) due)

pub route_again-requires : goal.route_again-requires
route_again-requires g c =
    let v : Volumed g.row.B.Denot = record { origin = c.self.inside.origin; snaps = c.self.inside.snaps.items; merge = c.self.inside.merge; flights = c.self.inside.flights.items; requests = c.self.inside.requests; copies = c.self.inside.copies; attached = c.self.inside.attached } in
    subst (All (λ (x : Kept _). 0 < x.state.chunk)) (sym c.deref.ensures.value) (chunks_all g.B.Block.contents g.B.Block.layers g.B.Block.size v c.self.invariant.whole)

pub invariant_of-self-in-Err : goal.invariant_of-self-in-Err
invariant_of-self-in-Err g c = record {
  whole =
      let v : Volumed g.row.B.Denot = record { origin = c.self.inside.origin; snaps = c.self.inside.snaps.items; merge = c.self.inside.merge; flights = c.self.inside.flights.items; requests = c.self.inside.requests; copies = c.self.inside.copies; attached = c.self.inside.attached } in
      let due : can_flush (merging_due g.B.Block.contents true c.in-Some.merge) ≡ true = sym (c.has_group.ensures.looks true).flush ∙ sym c.if-not-can_flush.ensures in
      let flights = c.route_again.ensures ∙ ap (λ xs. map (again_of (merge_books g.B.Block.contents g.B.Block.layers true (Some c.fail.new.self)) (is_clear (map (books_of g.B.Block.contents g.B.Block.layers) xs))) c.self.inside.flights.items) c.deref.ensures.value in
      let fields = stopped_from c.in-Some.merge c.flush.new.self c.fail.new.self c.fail.ensures.fields c.in-Err.ensures.kept in
      let step = stops_from g.B.Block.contents c.in-Some.merge c.flush.new.self c.fail.new.self c.in-Err.ensures.kept c.fail.ensures.step in
      (disk_stops g.B.Block.contents g.B.Block.layers g.B.Block.size g.B.Block.fault_count g.B.Block.done_count v c.self.invariant.whole c.in-Some.merge c.in-Some.is c.flush.new.origin c.fail.new.self
      (record {
        number = ap (λ x. x.number) fields;
        chunk_is = ap (λ x. x.state.chunk) fields;
        origin = ap (λ x. x.state.origin) fields;
        loud = ap (λ x. is_loud (g.B.Block.layers x.device)) fields;
        sized = ap (λ x. g.B.Block.size x.device) fields;
      })
      (record { sectors = c.in-Err.ensures.size; loud = c.in-Err.ensures.loud }) c.in-Err.ensures.same c.route_again.new.flights.items flights MergeFlush (λ e. cc) (λ p q x. x) (λ xs ys e. e) refl due step (λ x. x)
      (ap (λ x. g.B.Block.fault_count x.device) fields) (ap (λ x. g.B.Block.done_count x.device) fields) c.in-Err.ensures.operation.faulty c.in-Err.ensures.operation.counted).whole;
  lasting =
      let v : Volumed g.row.B.Denot = record { origin = c.self.inside.origin; snaps = c.self.inside.snaps.items; merge = c.self.inside.merge; flights = c.self.inside.flights.items; requests = c.self.inside.requests; copies = c.self.inside.copies; attached = c.self.inside.attached } in
      let w : Volumed g.row.B.Denot = record v { origin = c.flush.new.origin; merge = Some c.fail.new.self; flights = c.route_again.new.flights.items } in
      let goes = disk_fault_both g.B.Block.may_hold g.B.Block.contents g.B.Block.layers g.B.Block.size g.met.B.Block.whole g.met.B.Block.holds_now v c.self.invariant.whole c.self.invariant.lasting w c.fail.new.self refl c.in-Some.merge c.in-Some.is (all_same v.snaps v.snaps refl) c.flush.new.self (record { adds = c.in-Err.ensures.adds; bytes = c.in-Err.ensures.same; sectors = c.in-Err.ensures.size; loud = c.in-Err.ensures.loud }) c.in-Err.ensures.kept c.fail.ensures.fields in
      record { snaps = goes.lasts; merge = goes.merge };
}

pub returns-in-Err-clause-step : goal.returns-in-Err-clause-step
returns-in-Err-clause-step g c =
    let v : Volumed g.row.B.Denot = record { origin = c.self.inside.origin; snaps = c.self.inside.snaps.items; merge = c.self.inside.merge; flights = c.self.inside.flights.items; requests = c.self.inside.requests; copies = c.self.inside.copies; attached = c.self.inside.attached } in
    let due : can_flush (merging_due g.B.Block.contents true c.in-Some.merge) ≡ true = sym (c.has_group.ensures.looks true).flush ∙ sym c.if-not-can_flush.ensures in
    let flights = c.route_again.ensures ∙ ap (λ xs. map (again_of (merge_books g.B.Block.contents g.B.Block.layers true (Some c.fail.new.self)) (is_clear (map (books_of g.B.Block.contents g.B.Block.layers) xs))) c.self.inside.flights.items) c.deref.ensures.value in
    let fields = stopped_from c.in-Some.merge c.flush.new.self c.fail.new.self c.fail.ensures.fields c.in-Err.ensures.kept in
    let step = stops_from g.B.Block.contents c.in-Some.merge c.flush.new.self c.fail.new.self c.in-Err.ensures.kept c.fail.ensures.step in
    rw (← c.self.view_is) (disk_stops g.B.Block.contents g.B.Block.layers g.B.Block.size g.B.Block.fault_count g.B.Block.done_count v c.self.invariant.whole c.in-Some.merge c.in-Some.is c.flush.new.origin c.fail.new.self
    (record {
      number = ap (λ x. x.number) fields;
      chunk_is = ap (λ x. x.state.chunk) fields;
      origin = ap (λ x. x.state.origin) fields;
      loud = ap (λ x. is_loud (g.B.Block.layers x.device)) fields;
      sized = ap (λ x. g.B.Block.size x.device) fields;
    })
    (record { sectors = c.in-Err.ensures.size; loud = c.in-Err.ensures.loud }) c.in-Err.ensures.same c.route_again.new.flights.items flights MergeFlush (λ e. cc) (λ p q x. x) (λ xs ys e. e) refl due step (λ x. x)
    (ap (λ x. g.B.Block.fault_count x.device) fields) (ap (λ x. g.B.Block.done_count x.device) fields) c.in-Err.ensures.operation.faulty c.in-Err.ensures.operation.counted).stepped

pub returns-in-Err-clause-exact : goal.returns-in-Err-clause-exact
returns-in-Err-clause-exact g c =
    let v : Volumed g.row.B.Denot = record { origin = c.self.inside.origin; snaps = c.self.inside.snaps.items; merge = c.self.inside.merge; flights = c.self.inside.flights.items; requests = c.self.inside.requests; copies = c.self.inside.copies; attached = c.self.inside.attached } in
    let due : can_flush (merging_due g.B.Block.contents true c.in-Some.merge) ≡ true = sym (c.has_group.ensures.looks true).flush ∙ sym c.if-not-can_flush.ensures in
    let flights = c.route_again.ensures ∙ ap (λ xs. map (again_of (merge_books g.B.Block.contents g.B.Block.layers true (Some c.fail.new.self)) (is_clear (map (books_of g.B.Block.contents g.B.Block.layers) xs))) c.self.inside.flights.items) c.deref.ensures.value in
    let fields = stopped_from c.in-Some.merge c.flush.new.self c.fail.new.self c.fail.ensures.fields c.in-Err.ensures.kept in
    let step = stops_from g.B.Block.contents c.in-Some.merge c.flush.new.self c.fail.new.self c.in-Err.ensures.kept c.fail.ensures.step in
    rw (← c.self.view_is) (record { step = λ loud replied. flush_stopped g.B.Block.contents g.B.Block.layers replied v c.in-Some.merge c.in-Some.is _ _ _ _ due c.flush.new.origin c.in-Err.ensures.same c.in-Err.ensures.operation c.fail.new.self (step true) (ap (λ x. x.group) fields) (ap (λ x. x.device) fields) (ap (λ x. x.next) fields) c.route_again.new.flights.items flights })

pub returns-in-Err-clause-due : goal.returns-in-Err-clause-due
returns-in-Err-clause-due g c =
    let v : Volumed g.row.B.Denot = record { origin = c.self.inside.origin; snaps = c.self.inside.snaps.items; merge = c.self.inside.merge; flights = c.self.inside.flights.items; requests = c.self.inside.requests; copies = c.self.inside.copies; attached = c.self.inside.attached } in
    rw (← c.self.view_is) (sym (flush_due g.B.Block.contents g.B.Block.layers v c.in-Some.merge c.in-Some.is ∙ sym (c.has_group.ensures.looks true).flush ∙ sym c.if-not-can_flush.ensures))

pub returns-in-Ok-clause-stops_snaps : goal.returns-in-Ok-clause-stops_snaps
returns-in-Ok-clause-stops_snaps g c =
    let v : Volumed g.row.B.Denot = record { origin = c.self.inside.origin; snaps = c.self.inside.snaps.items; merge = c.self.inside.merge; flights = c.self.inside.flights.items; requests = c.self.inside.requests; copies = c.self.inside.copies; attached = c.self.inside.attached } in
    let w : Volumed g.row.B.Denot = record v { origin = c.flush.new.origin; merge = Some c.flush.new.self } in
    let goes = flushed_both g.B.Block.may_hold g.B.Block.contents g.B.Block.layers g.B.Block.size g.met.B.Block.whole g.met.B.Block.holds_now v c.self.invariant.whole c.self.invariant.lasting w c.flush.new.self refl c.in-Some.merge c.in-Some.is (all_same v.snaps v.snaps refl) (record { adds = c.in-Ok.ensures.adds; bytes = c.in-Ok.ensures.same; sectors = c.in-Ok.ensures.size; loud = c.in-Ok.ensures.loud }) c.in-Ok.ensures.firm (ap (λ x. x.device) c.in-Ok.ensures.fields) (c.in-Ok.ensures.step true) in
    rw (← c.self.view_is) goes.stops_snaps

pub returns-in-Ok-clause-stops_origin : goal.returns-in-Ok-clause-stops_origin
returns-in-Ok-clause-stops_origin g c =
    let v : Volumed g.row.B.Denot = record { origin = c.self.inside.origin; snaps = c.self.inside.snaps.items; merge = c.self.inside.merge; flights = c.self.inside.flights.items; requests = c.self.inside.requests; copies = c.self.inside.copies; attached = c.self.inside.attached } in
    let w : Volumed g.row.B.Denot = record v { origin = c.flush.new.origin; merge = Some c.flush.new.self } in
    let goes = flushed_both g.B.Block.may_hold g.B.Block.contents g.B.Block.layers g.B.Block.size g.met.B.Block.whole g.met.B.Block.holds_now v c.self.invariant.whole c.self.invariant.lasting w c.flush.new.self refl c.in-Some.merge c.in-Some.is (all_same v.snaps v.snaps refl) (record { adds = c.in-Ok.ensures.adds; bytes = c.in-Ok.ensures.same; sectors = c.in-Ok.ensures.size; loud = c.in-Ok.ensures.loud }) c.in-Ok.ensures.firm (ap (λ x. x.device) c.in-Ok.ensures.fields) (c.in-Ok.ensures.step true) in
    rw (← c.self.view_is) goes.stops_origin

pub returns-in-Err-clause-stops_snaps : goal.returns-in-Err-clause-stops_snaps
returns-in-Err-clause-stops_snaps g c =
    let v : Volumed g.row.B.Denot = record { origin = c.self.inside.origin; snaps = c.self.inside.snaps.items; merge = c.self.inside.merge; flights = c.self.inside.flights.items; requests = c.self.inside.requests; copies = c.self.inside.copies; attached = c.self.inside.attached } in
    let w : Volumed g.row.B.Denot = record v { origin = c.flush.new.origin; merge = Some c.fail.new.self; flights = c.route_again.new.flights.items } in
    let goes = disk_fault_both g.B.Block.may_hold g.B.Block.contents g.B.Block.layers g.B.Block.size g.met.B.Block.whole g.met.B.Block.holds_now v c.self.invariant.whole c.self.invariant.lasting w c.fail.new.self refl c.in-Some.merge c.in-Some.is (all_same v.snaps v.snaps refl) c.flush.new.self (record { adds = c.in-Err.ensures.adds; bytes = c.in-Err.ensures.same; sectors = c.in-Err.ensures.size; loud = c.in-Err.ensures.loud }) c.in-Err.ensures.kept c.fail.ensures.fields in
    rw (← c.self.view_is) goes.stops_snaps

pub returns-in-Err-clause-stops_origin : goal.returns-in-Err-clause-stops_origin
returns-in-Err-clause-stops_origin g c =
    let v : Volumed g.row.B.Denot = record { origin = c.self.inside.origin; snaps = c.self.inside.snaps.items; merge = c.self.inside.merge; flights = c.self.inside.flights.items; requests = c.self.inside.requests; copies = c.self.inside.copies; attached = c.self.inside.attached } in
    let w : Volumed g.row.B.Denot = record v { origin = c.flush.new.origin; merge = Some c.fail.new.self; flights = c.route_again.new.flights.items } in
    let goes = disk_fault_both g.B.Block.may_hold g.B.Block.contents g.B.Block.layers g.B.Block.size g.met.B.Block.whole g.met.B.Block.holds_now v c.self.invariant.whole c.self.invariant.lasting w c.fail.new.self refl c.in-Some.merge c.in-Some.is (all_same v.snaps v.snaps refl) c.flush.new.self (record { adds = c.in-Err.ensures.adds; bytes = c.in-Err.ensures.same; sectors = c.in-Err.ensures.size; loud = c.in-Err.ensures.loud }) c.in-Err.ensures.kept c.fail.ensures.fields in
    rw (← c.self.view_is) goes.stops_origin
