-- A chunk is written to the origin disk, and the copies of the chunk that is copied next are started.
use Rattle.std.proofs.Common.{◌≡◌, ◌<◌, ◌*◌, ℕ, length, map, refl, ap, sym, subst, ◌∙◌, true, false, Some, None, arith}
use Rattle.std.specs.List.{All}
use Rattle.device.specs.Layers.{is_loud}
use Rattle.plain_machine.specs.declared.event.Event.TheVariants.{MergeWrite}
use Rattle.in_flight.specs.Copies.{count_of}
use Rattle.volume_laws.specs.Again.{again_of}
use Rattle.volume_laws.specs.MergeDue.{can_write, is_writable}
use Rattle.volume_laws.specs.Published.{is_clear}
use Rattle.snapshot.specs.Kept.{Kept, books_of as snap_books}
use Rattle.merge.specs.Due.{full_of}
use Rattle.merge.specs.Lists.{changed, written_in}
use Rattle.merge.specs.Looks.{option_pairs}
use Rattle.merge.specs.Merging.{books_of as merging_books}
use Rattle.merge.proofs.Looks.{full_is}
use Rattle.snapshot_list.specs.Rooms.{merge_books}
use Rattle.volume.specs.Volumed.{Volumed}
use Rattle.volume.proofs.Chunks.{chunks_all}
use Rattle.volume.proofs.MergeChanging.{DiskStays}
use Rattle.volume.proofs.MergeDue.{full_begins, full_starts, merged}
use Rattle.volume.proofs.MergeOperations.{holds_merge, disk_stops, stopped_from, stops_from, due_running, due_unfinished}
use Rattle.volume.proofs.MergeSaves.{regrouped}
use Rattle.volume.proofs.MergeWritten.{count_fits, step_from, write_due, write_tested, written_can_save, written_good, written_exact}
use Rattle.volume.proofs.MovedWrites.{write_stopped}
use Rattle.volume.proofs.MergeBoth.{disk_fault_both, written_both, saved_both, full_reading, next_left, count_few}
use Rattle.volume.proofs.Lefts.{all_same}
use Rattle.volume.proofs.LastMoves.{merged_beside}
use Rattle.std.proofs.lemmas.Bool.{false≢true}
use Rattle.volume.proofs.volume.Volume.merge_write.Goals as goal

pub sectors_of-count-requires : goal.sectors_of-count-requires
sectors_of-count-requires g c =
    let v : Volumed g.row.B.Denot = record { origin = c.self.inside.origin; snaps = c.self.inside.snaps.items; merge = c.self.inside.merge; flights = c.self.inside.flights.items; requests = c.self.inside.requests; copies = c.self.inside.copies; attached = c.self.inside.attached } in
    let full : full_of c.in-Some.merge.group ≡ Some c.in-Some-full.pair = sym c.in-Some-full.ensures in
    let begins = full_begins g.B.Block.contents g.B.Block.layers g.B.Block.size v c.self.invariant.whole (g.met.B.Block.small v.origin) c.in-Some.merge c.in-Some-full.pair c.in-Some.is full in
    let is = ap (λ (n : ℕ). n * c.in-Some-full.pair.old) c.chunk.ensures.is in
    omega (arith, begins, is)

pub overflow_mul-chunk : goal.overflow_mul-chunk
overflow_mul-chunk g c =
    let v : Volumed g.row.B.Denot = record { origin = c.self.inside.origin; snaps = c.self.inside.snaps.items; merge = c.self.inside.merge; flights = c.self.inside.flights.items; requests = c.self.inside.requests; copies = c.self.inside.copies; attached = c.self.inside.attached } in
    let full : full_of c.in-Some.merge.group ≡ Some c.in-Some-full.pair = sym c.in-Some-full.ensures in
    let begins = full_begins g.B.Block.contents g.B.Block.layers g.B.Block.size v c.self.invariant.whole (g.met.B.Block.small v.origin) c.in-Some.merge c.in-Some-full.pair c.in-Some.is full in
    let is = ap (λ (n : ℕ). n * c.in-Some-full.pair.old) c.chunk-in-Some.ensures.is in
    omega (arith, begins, is)

pub is_clear_over-requires : goal.is_clear_over-requires
is_clear_over-requires g c =
    let v : Volumed g.row.B.Denot = record { origin = c.self.inside.origin; snaps = c.self.inside.snaps.items; merge = c.self.inside.merge; flights = c.self.inside.flights.items; requests = c.self.inside.requests; copies = c.self.inside.copies; attached = c.self.inside.attached } in
    let full : full_of c.in-Some.merge.group ≡ Some c.in-Some-full.pair = sym c.in-Some-full.ensures in
    let begins = full_begins g.B.Block.contents g.B.Block.layers g.B.Block.size v c.self.invariant.whole (g.met.B.Block.small v.origin) c.in-Some.merge c.in-Some-full.pair c.in-Some.is full in
    let starts = full_starts g.B.Block.contents g.B.Block.layers g.B.Block.size v c.self.invariant.whole c.in-Some.merge c.in-Some-full.pair c.in-Some.is full in
    let origin = (merged g.B.Block.contents g.B.Block.layers g.B.Block.size v c.self.invariant.whole c.in-Some.merge c.in-Some.is).origin in
    let small = g.met.B.Block.small v.origin in
    let is = ap (λ (n : ℕ). n * c.in-Some-full.pair.old) c.chunk-in-Some.ensures.is in
    let fits = count_fits c.in-Some.merge.state.chunk c.in-Some.merge.state.origin c.in-Some-full.pair.old starts in
    let count : c.sectors_of-count.result ≡ count_of c.in-Some.merge.state.chunk c.in-Some.merge.state.origin c.in-Some-full.pair.old = (c.sectors_of-count.ensures ∙ ap (λ n. count_of n c.sectors.result c.in-Some-full.pair.old) c.chunk.ensures.is ∙ ap (λ n. count_of c.in-Some.merge.state.chunk n c.in-Some-full.pair.old) c.sectors.ensures) in
    omega (arith, fits, count, is, origin, small)

pub returns-then-not-is_clear_over-clause-due : goal.returns-then-not-is_clear_over-clause-due
returns-then-not-is_clear_over-clause-due g c =
    let v : Volumed g.row.B.Denot = record { origin = c.self.inside.origin; snaps = c.self.inside.snaps.items; merge = c.self.inside.merge; flights = c.self.inside.flights.items; requests = c.self.inside.requests; copies = c.self.inside.copies; attached = c.self.inside.attached } in
    let full : full_of c.in-Some.merge.group ≡ Some c.in-Some-full.pair = sym c.in-Some-full.ensures in
    rw (← c.self.view_is) (sym (write_due g.B.Block.contents g.B.Block.layers g.B.Block.size v c.self.invariant.whole c.in-Some.merge c.in-Some.is ∙ write_tested g.B.Block.contents g.B.Block.layers g.B.Block.size v c.self.invariant.whole c.in-Some.merge c.in-Some.is (c.has_group.ensures.looks true) c.in-Some-full.pair full false c.deref.result.now c.chunk-in-Some.result c.sectors_of-count.result c.deref.ensures.value c.chunk-in-Some.ensures.is (c.sectors_of-count.ensures ∙ ap (λ n. count_of n c.sectors.result c.in-Some-full.pair.old) c.chunk.ensures.is ∙ ap (λ n. count_of c.in-Some.merge.state.chunk n c.in-Some-full.pair.old) c.sectors.ensures) c.if-not-is_clear_over.ensures))

pub save_waiting-self-inside-requires-clause-room : goal.save_waiting-self-inside-requires-clause-room
save_waiting-self-inside-requires-clause-room g c =
    let v : Volumed g.row.B.Denot = record { origin = c.self.inside.origin; snaps = c.self.inside.snaps.items; merge = c.self.inside.merge; flights = c.self.inside.flights.items; requests = c.self.inside.requests; copies = c.self.inside.copies; attached = c.self.inside.attached } in
    let full : full_of c.in-Some.merge.group ≡ Some c.in-Some-full.pair = sym c.in-Some-full.ensures in
    let due : can_write (map (snap_books g.B.Block.contents g.B.Block.layers) v.snaps) (merging_books g.B.Block.contents true c.in-Some.merge) ≡ true = write_tested g.B.Block.contents g.B.Block.layers g.B.Block.size v c.self.invariant.whole c.in-Some.merge c.in-Some.is (c.has_group.ensures.looks true) c.in-Some-full.pair full true c.deref.result.now c.chunk-in-Some.result c.sectors_of-count.result c.deref.ensures.value c.chunk-in-Some.ensures.is (c.sectors_of-count.ensures ∙ ap (λ n. count_of n c.sectors.result c.in-Some-full.pair.old) c.chunk.ensures.is ∙ ap (λ n. count_of c.in-Some.merge.state.chunk n c.in-Some-full.pair.old) c.sectors.ensures) c.if-not-is_clear_over.ensures in
    let step = step_from g.B.Block.contents (is_loud (g.B.Block.layers v.origin)) (g.B.Block.contents v.origin) (g.B.Block.contents c.write_chunk.new.origin) c.in-Some-full.pair c.in-Some.merge c.write_chunk.new.self (regrouped c.in-Some.merge (changed written_in c.in-Some.merge.group)) c.in-Ok.ensures.fields (c.in-Ok.ensures.step c.in-Some-full.pair full) in
    let disk : DiskStays g.B.Block.layers g.B.Block.size v.origin c.write_chunk.new.origin = record { sectors = c.in-Ok.ensures.size; loud = c.in-Ok.ensures.loud } in
    written_can_save g.B.Block.contents g.B.Block.layers g.B.Block.size v c.self.invariant.whole c.in-Some.merge c.in-Some.is c.write_chunk.new.origin disk (changed written_in c.in-Some.merge.group) c.in-Some-full.pair due step c.write_chunk.new.self c.in-Ok.ensures.fields

pub invariant_of-self-in-Ok : goal.invariant_of-self-in-Ok
invariant_of-self-in-Ok g c = record {
  whole =
      let v : Volumed g.row.B.Denot = record { origin = c.self.inside.origin; snaps = c.self.inside.snaps.items; merge = c.self.inside.merge; flights = c.self.inside.flights.items; requests = c.self.inside.requests; copies = c.self.inside.copies; attached = c.self.inside.attached } in
      let full : full_of c.in-Some.merge.group ≡ Some c.in-Some-full.pair = sym c.in-Some-full.ensures in
      let due : can_write (map (snap_books g.B.Block.contents g.B.Block.layers) v.snaps) (merging_books g.B.Block.contents true c.in-Some.merge) ≡ true = write_tested g.B.Block.contents g.B.Block.layers g.B.Block.size v c.self.invariant.whole c.in-Some.merge c.in-Some.is (c.has_group.ensures.looks true) c.in-Some-full.pair full true c.deref.result.now c.chunk-in-Some.result c.sectors_of-count.result c.deref.ensures.value c.chunk-in-Some.ensures.is (c.sectors_of-count.ensures ∙ ap (λ n. count_of n c.sectors.result c.in-Some-full.pair.old) c.chunk.ensures.is ∙ ap (λ n. count_of c.in-Some.merge.state.chunk n c.in-Some-full.pair.old) c.sectors.ensures) c.if-not-is_clear_over.ensures in
      let step = step_from g.B.Block.contents (is_loud (g.B.Block.layers v.origin)) (g.B.Block.contents v.origin) (g.B.Block.contents c.write_chunk.new.origin) c.in-Some-full.pair c.in-Some.merge c.write_chunk.new.self (regrouped c.in-Some.merge (changed written_in c.in-Some.merge.group)) c.in-Ok.ensures.fields (c.in-Ok.ensures.step c.in-Some-full.pair full) in
      let disk : DiskStays g.B.Block.layers g.B.Block.size v.origin c.write_chunk.new.origin = record { sectors = c.in-Ok.ensures.size; loud = c.in-Ok.ensures.loud } in
      let one = c.in-Ok.ensures.operation c.in-Some-full.pair full in
      (written_good g.B.Block.contents g.B.Block.layers g.B.Block.size v c.self.invariant.whole c.in-Some.merge c.in-Some.is c.write_chunk.new.origin disk (changed written_in c.in-Some.merge.group) c.in-Some-full.pair due step c.write_chunk.new.self c.in-Ok.ensures.fields g.B.Block.fault_count g.B.Block.done_count one.faulty one.counted c.save_waiting-self-inside.new.snaps.items c.save_waiting-self-inside.result c.save_waiting-self-inside.new.flights.items c.save_waiting-self-inside.ensures.saved).whole;
  lasting =
      let v : Volumed g.row.B.Denot = record { origin = c.self.inside.origin; snaps = c.self.inside.snaps.items; merge = c.self.inside.merge; flights = c.self.inside.flights.items; requests = c.self.inside.requests; copies = c.self.inside.copies; attached = c.self.inside.attached } in
      let full : full_of c.in-Some.merge.group ≡ Some c.in-Some-full.pair = sym c.in-Some-full.ensures in
      let due : can_write (map (snap_books g.B.Block.contents g.B.Block.layers) v.snaps) (merging_books g.B.Block.contents true c.in-Some.merge) ≡ true = write_tested g.B.Block.contents g.B.Block.layers g.B.Block.size v c.self.invariant.whole c.in-Some.merge c.in-Some.is (c.has_group.ensures.looks true) c.in-Some-full.pair full true c.deref.result.now c.chunk-in-Some.result c.sectors_of-count.result c.deref.ensures.value c.chunk-in-Some.ensures.is (c.sectors_of-count.ensures ∙ ap (λ n. count_of n c.sectors.result c.in-Some-full.pair.old) c.chunk.ensures.is ∙ ap (λ n. count_of c.in-Some.merge.state.chunk n c.in-Some-full.pair.old) c.sectors.ensures) c.if-not-is_clear_over.ensures in
      let reading = full_reading c.in-Some.merge.group c.in-Some-full.pair full in
      let fields = c.in-Ok.ensures.fields in
      let step = c.in-Ok.ensures.step c.in-Some-full.pair full false (λ e. absurd (false≢true e)) in
      let starts = full_starts g.B.Block.contents g.B.Block.layers g.B.Block.size v c.self.invariant.whole c.in-Some.merge c.in-Some-full.pair c.in-Some.is full in
      let w : Volumed g.row.B.Denot = record v { origin = c.write_chunk.new.origin; snaps = c.save_waiting-self-inside.new.snaps.items; merge = Some c.write_chunk.new.self; flights = c.save_waiting-self-inside.new.flights.items; copies = c.save_waiting-self-inside.result } in
      let left = next_left g.B.Block.contents g.B.Block.layers _ _ _ _ _ _ _ _ _ c.save_waiting-self-inside.ensures.saved in
      let saved = saved_both g.B.Block.may_hold g.B.Block.contents g.B.Block.layers g.B.Block.size g.met.B.Block.whole g.met.B.Block.holds_now v c.self.invariant.whole c.self.invariant.lasting w c.write_chunk.new.self refl c.in-Some.merge c.in-Some.is left c.in-Some-full.pair reading due in
      let beside = merged_beside g.B.Block.may_hold g.B.Block.contents g.B.Block.layers g.B.Block.size g.met.B.Block.whole g.met.B.Block.holds_now v c.self.invariant.whole c.self.invariant.lasting.snaps (c.in-Some.merge.state.chunk * c.in-Some-full.pair.old) (count_of c.in-Some.merge.state.chunk c.in-Some.merge.state.origin c.in-Some-full.pair.old) (g.B.Block.contents c.write_chunk.new.origin) step.1.disk saved in
      let goes = written_both g.B.Block.may_hold g.B.Block.contents g.B.Block.layers g.B.Block.size g.met.B.Block.whole g.met.B.Block.holds_now v c.self.invariant.whole c.self.invariant.lasting w c.write_chunk.new.self refl c.in-Some.merge c.in-Some.is left c.in-Some-full.pair (record { adds = c.in-Ok.ensures.adds; sectors = c.in-Ok.ensures.size; loud = c.in-Ok.ensures.loud }) reading (λ _. step.1.disk) (count_few c.in-Some.merge.state.chunk c.in-Some.merge.state.origin c.in-Some-full.pair.old) (ap (λ x. x.device) fields) (ap (λ x. x.state.chunk) fields) (ap (λ x. x.pairs) fields) step.0.flushed beside in
      record { snaps = goes.lasts; merge = goes.merge };
}

pub returns-in-Ok-clause-step : goal.returns-in-Ok-clause-step
returns-in-Ok-clause-step g c =
    let v : Volumed g.row.B.Denot = record { origin = c.self.inside.origin; snaps = c.self.inside.snaps.items; merge = c.self.inside.merge; flights = c.self.inside.flights.items; requests = c.self.inside.requests; copies = c.self.inside.copies; attached = c.self.inside.attached } in
    let full : full_of c.in-Some.merge.group ≡ Some c.in-Some-full.pair = sym c.in-Some-full.ensures in
    let due : can_write (map (snap_books g.B.Block.contents g.B.Block.layers) v.snaps) (merging_books g.B.Block.contents true c.in-Some.merge) ≡ true = write_tested g.B.Block.contents g.B.Block.layers g.B.Block.size v c.self.invariant.whole c.in-Some.merge c.in-Some.is (c.has_group.ensures.looks true) c.in-Some-full.pair full true c.deref.result.now c.chunk-in-Some.result c.sectors_of-count.result c.deref.ensures.value c.chunk-in-Some.ensures.is (c.sectors_of-count.ensures ∙ ap (λ n. count_of n c.sectors.result c.in-Some-full.pair.old) c.chunk.ensures.is ∙ ap (λ n. count_of c.in-Some.merge.state.chunk n c.in-Some-full.pair.old) c.sectors.ensures) c.if-not-is_clear_over.ensures in
    let step = step_from g.B.Block.contents (is_loud (g.B.Block.layers v.origin)) (g.B.Block.contents v.origin) (g.B.Block.contents c.write_chunk.new.origin) c.in-Some-full.pair c.in-Some.merge c.write_chunk.new.self (regrouped c.in-Some.merge (changed written_in c.in-Some.merge.group)) c.in-Ok.ensures.fields (c.in-Ok.ensures.step c.in-Some-full.pair full) in
    let disk : DiskStays g.B.Block.layers g.B.Block.size v.origin c.write_chunk.new.origin = record { sectors = c.in-Ok.ensures.size; loud = c.in-Ok.ensures.loud } in
    let one = c.in-Ok.ensures.operation c.in-Some-full.pair full in
    rw (← c.self.view_is) (written_good g.B.Block.contents g.B.Block.layers g.B.Block.size v c.self.invariant.whole c.in-Some.merge c.in-Some.is c.write_chunk.new.origin disk (changed written_in c.in-Some.merge.group) c.in-Some-full.pair due step c.write_chunk.new.self c.in-Ok.ensures.fields g.B.Block.fault_count g.B.Block.done_count one.faulty one.counted c.save_waiting-self-inside.new.snaps.items c.save_waiting-self-inside.result c.save_waiting-self-inside.new.flights.items c.save_waiting-self-inside.ensures.saved).stepped

pub returns-in-Ok-clause-exact : goal.returns-in-Ok-clause-exact
returns-in-Ok-clause-exact g c =
    let v : Volumed g.row.B.Denot = record { origin = c.self.inside.origin; snaps = c.self.inside.snaps.items; merge = c.self.inside.merge; flights = c.self.inside.flights.items; requests = c.self.inside.requests; copies = c.self.inside.copies; attached = c.self.inside.attached } in
    let full : full_of c.in-Some.merge.group ≡ Some c.in-Some-full.pair = sym c.in-Some-full.ensures in
    let due : can_write (map (snap_books g.B.Block.contents g.B.Block.layers) v.snaps) (merging_books g.B.Block.contents true c.in-Some.merge) ≡ true = write_tested g.B.Block.contents g.B.Block.layers g.B.Block.size v c.self.invariant.whole c.in-Some.merge c.in-Some.is (c.has_group.ensures.looks true) c.in-Some-full.pair full true c.deref.result.now c.chunk-in-Some.result c.sectors_of-count.result c.deref.ensures.value c.chunk-in-Some.ensures.is (c.sectors_of-count.ensures ∙ ap (λ n. count_of n c.sectors.result c.in-Some-full.pair.old) c.chunk.ensures.is ∙ ap (λ n. count_of c.in-Some.merge.state.chunk n c.in-Some-full.pair.old) c.sectors.ensures) c.if-not-is_clear_over.ensures in
    let step = step_from g.B.Block.contents (is_loud (g.B.Block.layers v.origin)) (g.B.Block.contents v.origin) (g.B.Block.contents c.write_chunk.new.origin) c.in-Some-full.pair c.in-Some.merge c.write_chunk.new.self (regrouped c.in-Some.merge (changed written_in c.in-Some.merge.group)) c.in-Ok.ensures.fields (c.in-Ok.ensures.step c.in-Some-full.pair full) in
    let disk : DiskStays g.B.Block.layers g.B.Block.size v.origin c.write_chunk.new.origin = record { sectors = c.in-Ok.ensures.size; loud = c.in-Ok.ensures.loud } in
    let one = c.in-Ok.ensures.operation c.in-Some-full.pair full in
    rw (← c.self.view_is) (written_exact g.B.Block.contents g.B.Block.layers g.B.Block.size v c.self.invariant.whole c.in-Some.merge c.in-Some.is c.write_chunk.new.origin disk (changed written_in c.in-Some.merge.group) c.in-Some-full.pair due step c.write_chunk.new.self c.in-Ok.ensures.fields full _ _ _ _ one (c.in-Ok.ensures.written c.in-Some-full.pair full) c.save_waiting-self-inside.new.snaps.items c.save_waiting-self-inside.result c.save_waiting-self-inside.new.flights.items c.save_waiting-self-inside.ensures.saved)

pub returns-in-Ok-clause-due : goal.returns-in-Ok-clause-due
returns-in-Ok-clause-due g c =
    let v : Volumed g.row.B.Denot = record { origin = c.self.inside.origin; snaps = c.self.inside.snaps.items; merge = c.self.inside.merge; flights = c.self.inside.flights.items; requests = c.self.inside.requests; copies = c.self.inside.copies; attached = c.self.inside.attached } in
    let full : full_of c.in-Some.merge.group ≡ Some c.in-Some-full.pair = sym c.in-Some-full.ensures in
    rw (← c.self.view_is) (sym (write_due g.B.Block.contents g.B.Block.layers g.B.Block.size v c.self.invariant.whole c.in-Some.merge c.in-Some.is ∙ write_tested g.B.Block.contents g.B.Block.layers g.B.Block.size v c.self.invariant.whole c.in-Some.merge c.in-Some.is (c.has_group.ensures.looks true) c.in-Some-full.pair full true c.deref.result.now c.chunk-in-Some.result c.sectors_of-count.result c.deref.ensures.value c.chunk-in-Some.ensures.is (c.sectors_of-count.ensures ∙ ap (λ n. count_of n c.sectors.result c.in-Some-full.pair.old) c.chunk.ensures.is ∙ ap (λ n. count_of c.in-Some.merge.state.chunk n c.in-Some-full.pair.old) c.sectors.ensures) c.if-not-is_clear_over.ensures))

pub fail-requires-clause-running : goal.fail-requires-clause-running
fail-requires-clause-running g c =
    let v : Volumed g.row.B.Denot = record { origin = c.self.inside.origin; snaps = c.self.inside.snaps.items; merge = c.self.inside.merge; flights = c.self.inside.flights.items; requests = c.self.inside.requests; copies = c.self.inside.copies; attached = c.self.inside.attached } in
    let full : full_of c.in-Some.merge.group ≡ Some c.in-Some-full.pair = sym c.in-Some-full.ensures in
    let due : can_write (map (snap_books g.B.Block.contents g.B.Block.layers) v.snaps) (merging_books g.B.Block.contents true c.in-Some.merge) ≡ true = write_tested g.B.Block.contents g.B.Block.layers g.B.Block.size v c.self.invariant.whole c.in-Some.merge c.in-Some.is (c.has_group.ensures.looks true) c.in-Some-full.pair full true c.deref.result.now c.chunk-in-Some.result c.sectors_of-count.result c.deref.ensures.value c.chunk-in-Some.ensures.is (c.sectors_of-count.ensures ∙ ap (λ n. count_of n c.sectors.result c.in-Some-full.pair.old) c.chunk.ensures.is ∙ ap (λ n. count_of c.in-Some.merge.state.chunk n c.in-Some-full.pair.old) c.sectors.ensures) c.if-not-is_clear_over.ensures in
    ap (λ x. x.failed) c.in-Err.ensures.kept ∙ due_running g.B.Block.contents g.B.Block.layers g.B.Block.size g.B.Block.fault_count g.B.Block.done_count v c.self.invariant.whole c.in-Some.merge c.in-Some.is MergeWrite due

pub fail-requires-clause-unfinished : goal.fail-requires-clause-unfinished
fail-requires-clause-unfinished g c =
    let v : Volumed g.row.B.Denot = record { origin = c.self.inside.origin; snaps = c.self.inside.snaps.items; merge = c.self.inside.merge; flights = c.self.inside.flights.items; requests = c.self.inside.requests; copies = c.self.inside.copies; attached = c.self.inside.attached } in
    let full : full_of c.in-Some.merge.group ≡ Some c.in-Some-full.pair = sym c.in-Some-full.ensures in
    let due : can_write (map (snap_books g.B.Block.contents g.B.Block.layers) v.snaps) (merging_books g.B.Block.contents true c.in-Some.merge) ≡ true = write_tested g.B.Block.contents g.B.Block.layers g.B.Block.size v c.self.invariant.whole c.in-Some.merge c.in-Some.is (c.has_group.ensures.looks true) c.in-Some-full.pair full true c.deref.result.now c.chunk-in-Some.result c.sectors_of-count.result c.deref.ensures.value c.chunk-in-Some.ensures.is (c.sectors_of-count.ensures ∙ ap (λ n. count_of n c.sectors.result c.in-Some-full.pair.old) c.chunk.ensures.is ∙ ap (λ n. count_of c.in-Some.merge.state.chunk n c.in-Some-full.pair.old) c.sectors.ensures) c.if-not-is_clear_over.ensures in
    subst (λ ps. 0 < length ps) (sym (ap (λ x. x.pairs) c.in-Err.ensures.kept)) (due_unfinished g.B.Block.contents g.B.Block.layers g.B.Block.size g.B.Block.fault_count g.B.Block.done_count v c.self.invariant.whole c.in-Some.merge c.in-Some.is MergeWrite (λ e. cc) due)

pub route_again-requires : goal.route_again-requires
route_again-requires g c =
    let v : Volumed g.row.B.Denot = record { origin = c.self.inside.origin; snaps = c.self.inside.snaps.items; merge = c.self.inside.merge; flights = c.self.inside.flights.items; requests = c.self.inside.requests; copies = c.self.inside.copies; attached = c.self.inside.attached } in
    subst (All (λ (x : Kept _). 0 < x.state.chunk)) (sym c.deref-in-Err.ensures.value) (chunks_all g.B.Block.contents g.B.Block.layers g.B.Block.size v c.self.invariant.whole)

pub invariant_of-self-in-Err : goal.invariant_of-self-in-Err
invariant_of-self-in-Err g c = record {
  whole =
      let v : Volumed g.row.B.Denot = record { origin = c.self.inside.origin; snaps = c.self.inside.snaps.items; merge = c.self.inside.merge; flights = c.self.inside.flights.items; requests = c.self.inside.requests; copies = c.self.inside.copies; attached = c.self.inside.attached } in
      let full : full_of c.in-Some.merge.group ≡ Some c.in-Some-full.pair = sym c.in-Some-full.ensures in
      let due : can_write (map (snap_books g.B.Block.contents g.B.Block.layers) v.snaps) (merging_books g.B.Block.contents true c.in-Some.merge) ≡ true = write_tested g.B.Block.contents g.B.Block.layers g.B.Block.size v c.self.invariant.whole c.in-Some.merge c.in-Some.is (c.has_group.ensures.looks true) c.in-Some-full.pair full true c.deref.result.now c.chunk-in-Some.result c.sectors_of-count.result c.deref.ensures.value c.chunk-in-Some.ensures.is (c.sectors_of-count.ensures ∙ ap (λ n. count_of n c.sectors.result c.in-Some-full.pair.old) c.chunk.ensures.is ∙ ap (λ n. count_of c.in-Some.merge.state.chunk n c.in-Some-full.pair.old) c.sectors.ensures) c.if-not-is_clear_over.ensures in
      let flights = c.route_again.ensures ∙ ap (λ xs. map (again_of (merge_books g.B.Block.contents g.B.Block.layers true (Some c.fail.new.self)) (is_clear (map (snap_books g.B.Block.contents g.B.Block.layers) xs))) c.self.inside.flights.items) c.deref-in-Err.ensures.value in
      let fields = stopped_from c.in-Some.merge c.write_chunk.new.self c.fail.new.self c.fail.ensures.fields c.in-Err.ensures.kept in
      let step = stops_from g.B.Block.contents c.in-Some.merge c.write_chunk.new.self c.fail.new.self c.in-Err.ensures.kept c.fail.ensures.step in
      let one = c.in-Err.ensures.operation c.in-Some-full.pair full in
      (disk_stops g.B.Block.contents g.B.Block.layers g.B.Block.size g.B.Block.fault_count g.B.Block.done_count v c.self.invariant.whole c.in-Some.merge c.in-Some.is c.write_chunk.new.origin c.fail.new.self
      (record {
        number = ap (λ x. x.number) fields;
        chunk_is = ap (λ x. x.state.chunk) fields;
        origin = ap (λ x. x.state.origin) fields;
        loud = ap (λ x. is_loud (g.B.Block.layers x.device)) fields;
        sized = ap (λ x. g.B.Block.size x.device) fields;
      })
      (record { sectors = c.in-Err.ensures.size; loud = c.in-Err.ensures.loud }) c.in-Err.ensures.same c.route_again.new.flights.items flights MergeWrite (λ e. cc) (λ p q x. x) (λ xs ys e. e) refl due step (λ x. x)
      (ap (λ x. g.B.Block.fault_count x.device) fields) (ap (λ x. g.B.Block.done_count x.device) fields) one.faulty one.counted).whole;
  lasting =
      let v : Volumed g.row.B.Denot = record { origin = c.self.inside.origin; snaps = c.self.inside.snaps.items; merge = c.self.inside.merge; flights = c.self.inside.flights.items; requests = c.self.inside.requests; copies = c.self.inside.copies; attached = c.self.inside.attached } in
      let w : Volumed g.row.B.Denot = record v { origin = c.write_chunk.new.origin; merge = Some c.fail.new.self; flights = c.route_again.new.flights.items } in
      let goes = disk_fault_both g.B.Block.may_hold g.B.Block.contents g.B.Block.layers g.B.Block.size g.met.B.Block.whole g.met.B.Block.holds_now v c.self.invariant.whole c.self.invariant.lasting w c.fail.new.self refl c.in-Some.merge c.in-Some.is (all_same v.snaps v.snaps refl) c.write_chunk.new.self (record { adds = c.in-Err.ensures.adds; bytes = c.in-Err.ensures.same; sectors = c.in-Err.ensures.size; loud = c.in-Err.ensures.loud }) c.in-Err.ensures.kept c.fail.ensures.fields in
      record { snaps = goes.lasts; merge = goes.merge };
}

pub returns-in-Err-clause-step : goal.returns-in-Err-clause-step
returns-in-Err-clause-step g c =
    let v : Volumed g.row.B.Denot = record { origin = c.self.inside.origin; snaps = c.self.inside.snaps.items; merge = c.self.inside.merge; flights = c.self.inside.flights.items; requests = c.self.inside.requests; copies = c.self.inside.copies; attached = c.self.inside.attached } in
    let full : full_of c.in-Some.merge.group ≡ Some c.in-Some-full.pair = sym c.in-Some-full.ensures in
    let due : can_write (map (snap_books g.B.Block.contents g.B.Block.layers) v.snaps) (merging_books g.B.Block.contents true c.in-Some.merge) ≡ true = write_tested g.B.Block.contents g.B.Block.layers g.B.Block.size v c.self.invariant.whole c.in-Some.merge c.in-Some.is (c.has_group.ensures.looks true) c.in-Some-full.pair full true c.deref.result.now c.chunk-in-Some.result c.sectors_of-count.result c.deref.ensures.value c.chunk-in-Some.ensures.is (c.sectors_of-count.ensures ∙ ap (λ n. count_of n c.sectors.result c.in-Some-full.pair.old) c.chunk.ensures.is ∙ ap (λ n. count_of c.in-Some.merge.state.chunk n c.in-Some-full.pair.old) c.sectors.ensures) c.if-not-is_clear_over.ensures in
    let flights = c.route_again.ensures ∙ ap (λ xs. map (again_of (merge_books g.B.Block.contents g.B.Block.layers true (Some c.fail.new.self)) (is_clear (map (snap_books g.B.Block.contents g.B.Block.layers) xs))) c.self.inside.flights.items) c.deref-in-Err.ensures.value in
    let fields = stopped_from c.in-Some.merge c.write_chunk.new.self c.fail.new.self c.fail.ensures.fields c.in-Err.ensures.kept in
    let step = stops_from g.B.Block.contents c.in-Some.merge c.write_chunk.new.self c.fail.new.self c.in-Err.ensures.kept c.fail.ensures.step in
    let one = c.in-Err.ensures.operation c.in-Some-full.pair full in
    rw (← c.self.view_is) (disk_stops g.B.Block.contents g.B.Block.layers g.B.Block.size g.B.Block.fault_count g.B.Block.done_count v c.self.invariant.whole c.in-Some.merge c.in-Some.is c.write_chunk.new.origin c.fail.new.self
    (record {
      number = ap (λ x. x.number) fields;
      chunk_is = ap (λ x. x.state.chunk) fields;
      origin = ap (λ x. x.state.origin) fields;
      loud = ap (λ x. is_loud (g.B.Block.layers x.device)) fields;
      sized = ap (λ x. g.B.Block.size x.device) fields;
    })
    (record { sectors = c.in-Err.ensures.size; loud = c.in-Err.ensures.loud }) c.in-Err.ensures.same c.route_again.new.flights.items flights MergeWrite (λ e. cc) (λ p q x. x) (λ xs ys e. e) refl due step (λ x. x)
    (ap (λ x. g.B.Block.fault_count x.device) fields) (ap (λ x. g.B.Block.done_count x.device) fields) one.faulty one.counted).stepped

pub returns-in-Err-clause-exact : goal.returns-in-Err-clause-exact
returns-in-Err-clause-exact g c =
    let v : Volumed g.row.B.Denot = record { origin = c.self.inside.origin; snaps = c.self.inside.snaps.items; merge = c.self.inside.merge; flights = c.self.inside.flights.items; requests = c.self.inside.requests; copies = c.self.inside.copies; attached = c.self.inside.attached } in
    let full : full_of c.in-Some.merge.group ≡ Some c.in-Some-full.pair = sym c.in-Some-full.ensures in
    let due : can_write (map (snap_books g.B.Block.contents g.B.Block.layers) v.snaps) (merging_books g.B.Block.contents true c.in-Some.merge) ≡ true = write_tested g.B.Block.contents g.B.Block.layers g.B.Block.size v c.self.invariant.whole c.in-Some.merge c.in-Some.is (c.has_group.ensures.looks true) c.in-Some-full.pair full true c.deref.result.now c.chunk-in-Some.result c.sectors_of-count.result c.deref.ensures.value c.chunk-in-Some.ensures.is (c.sectors_of-count.ensures ∙ ap (λ n. count_of n c.sectors.result c.in-Some-full.pair.old) c.chunk.ensures.is ∙ ap (λ n. count_of c.in-Some.merge.state.chunk n c.in-Some-full.pair.old) c.sectors.ensures) c.if-not-is_clear_over.ensures in
    let flights = c.route_again.ensures ∙ ap (λ xs. map (again_of (merge_books g.B.Block.contents g.B.Block.layers true (Some c.fail.new.self)) (is_clear (map (snap_books g.B.Block.contents g.B.Block.layers) xs))) c.self.inside.flights.items) c.deref-in-Err.ensures.value in
    let fields = stopped_from c.in-Some.merge c.write_chunk.new.self c.fail.new.self c.fail.ensures.fields c.in-Err.ensures.kept in
    let step = stops_from g.B.Block.contents c.in-Some.merge c.write_chunk.new.self c.fail.new.self c.in-Err.ensures.kept c.fail.ensures.step in
    let one = c.in-Err.ensures.operation c.in-Some-full.pair full in
    let sized = (holds_merge g.B.Block.contents g.B.Block.layers g.B.Block.size g.B.Block.fault_count g.B.Block.done_count v c.self.invariant.whole c.in-Some.merge c.in-Some.is).fits in
    rw (← c.self.view_is) (record { step = λ loud replied. write_stopped g.B.Block.contents g.B.Block.layers replied v c.in-Some.merge c.in-Some.is _ _ _ _ c.in-Some-full.pair full due sized c.write_chunk.new.origin (full_is c.in-Some.merge.group ∙ ap option_pairs full) c.in-Err.ensures.same one c.fail.new.self (step true) (ap (λ x. x.group) fields) (ap (λ x. x.device) fields) (ap (λ x. x.next) fields) c.route_again.new.flights.items flights })

pub returns-in-Err-clause-due : goal.returns-in-Err-clause-due
returns-in-Err-clause-due g c =
    let v : Volumed g.row.B.Denot = record { origin = c.self.inside.origin; snaps = c.self.inside.snaps.items; merge = c.self.inside.merge; flights = c.self.inside.flights.items; requests = c.self.inside.requests; copies = c.self.inside.copies; attached = c.self.inside.attached } in
    let full : full_of c.in-Some.merge.group ≡ Some c.in-Some-full.pair = sym c.in-Some-full.ensures in
    rw (← c.self.view_is) (sym (write_due g.B.Block.contents g.B.Block.layers g.B.Block.size v c.self.invariant.whole c.in-Some.merge c.in-Some.is ∙ write_tested g.B.Block.contents g.B.Block.layers g.B.Block.size v c.self.invariant.whole c.in-Some.merge c.in-Some.is (c.has_group.ensures.looks true) c.in-Some-full.pair full true c.deref.result.now c.chunk-in-Some.result c.sectors_of-count.result c.deref.ensures.value c.chunk-in-Some.ensures.is (c.sectors_of-count.ensures ∙ ap (λ n. count_of n c.sectors.result c.in-Some-full.pair.old) c.chunk.ensures.is ∙ ap (λ n. count_of c.in-Some.merge.state.chunk n c.in-Some-full.pair.old) c.sectors.ensures) c.if-not-is_clear_over.ensures))

pub returns-in-Err-clause-stops_snaps : goal.returns-in-Err-clause-stops_snaps
returns-in-Err-clause-stops_snaps g c =
    let v : Volumed g.row.B.Denot = record { origin = c.self.inside.origin; snaps = c.self.inside.snaps.items; merge = c.self.inside.merge; flights = c.self.inside.flights.items; requests = c.self.inside.requests; copies = c.self.inside.copies; attached = c.self.inside.attached } in
    let w : Volumed g.row.B.Denot = record v { origin = c.write_chunk.new.origin; merge = Some c.fail.new.self; flights = c.route_again.new.flights.items } in
    let goes = disk_fault_both g.B.Block.may_hold g.B.Block.contents g.B.Block.layers g.B.Block.size g.met.B.Block.whole g.met.B.Block.holds_now v c.self.invariant.whole c.self.invariant.lasting w c.fail.new.self refl c.in-Some.merge c.in-Some.is (all_same v.snaps v.snaps refl) c.write_chunk.new.self (record { adds = c.in-Err.ensures.adds; bytes = c.in-Err.ensures.same; sectors = c.in-Err.ensures.size; loud = c.in-Err.ensures.loud }) c.in-Err.ensures.kept c.fail.ensures.fields in
    rw (← c.self.view_is) goes.stops_snaps

pub returns-in-Err-clause-stops_origin : goal.returns-in-Err-clause-stops_origin
returns-in-Err-clause-stops_origin g c =
    let v : Volumed g.row.B.Denot = record { origin = c.self.inside.origin; snaps = c.self.inside.snaps.items; merge = c.self.inside.merge; flights = c.self.inside.flights.items; requests = c.self.inside.requests; copies = c.self.inside.copies; attached = c.self.inside.attached } in
    let w : Volumed g.row.B.Denot = record v { origin = c.write_chunk.new.origin; merge = Some c.fail.new.self; flights = c.route_again.new.flights.items } in
    let goes = disk_fault_both g.B.Block.may_hold g.B.Block.contents g.B.Block.layers g.B.Block.size g.met.B.Block.whole g.met.B.Block.holds_now v c.self.invariant.whole c.self.invariant.lasting w c.fail.new.self refl c.in-Some.merge c.in-Some.is (all_same v.snaps v.snaps refl) c.write_chunk.new.self (record { adds = c.in-Err.ensures.adds; bytes = c.in-Err.ensures.same; sectors = c.in-Err.ensures.size; loud = c.in-Err.ensures.loud }) c.in-Err.ensures.kept c.fail.ensures.fields in
    rw (← c.self.view_is) goes.stops_origin

pub returns-in-Ok-clause-stops_snaps : goal.returns-in-Ok-clause-stops_snaps
returns-in-Ok-clause-stops_snaps g c =
    let v : Volumed g.row.B.Denot = record { origin = c.self.inside.origin; snaps = c.self.inside.snaps.items; merge = c.self.inside.merge; flights = c.self.inside.flights.items; requests = c.self.inside.requests; copies = c.self.inside.copies; attached = c.self.inside.attached } in
    let full : full_of c.in-Some.merge.group ≡ Some c.in-Some-full.pair = sym c.in-Some-full.ensures in
    let due : can_write (map (snap_books g.B.Block.contents g.B.Block.layers) v.snaps) (merging_books g.B.Block.contents true c.in-Some.merge) ≡ true = write_tested g.B.Block.contents g.B.Block.layers g.B.Block.size v c.self.invariant.whole c.in-Some.merge c.in-Some.is (c.has_group.ensures.looks true) c.in-Some-full.pair full true c.deref.result.now c.chunk-in-Some.result c.sectors_of-count.result c.deref.ensures.value c.chunk-in-Some.ensures.is (c.sectors_of-count.ensures ∙ ap (λ n. count_of n c.sectors.result c.in-Some-full.pair.old) c.chunk.ensures.is ∙ ap (λ n. count_of c.in-Some.merge.state.chunk n c.in-Some-full.pair.old) c.sectors.ensures) c.if-not-is_clear_over.ensures in
    let reading = full_reading c.in-Some.merge.group c.in-Some-full.pair full in
    let fields = c.in-Ok.ensures.fields in
    let step = c.in-Ok.ensures.step c.in-Some-full.pair full false (λ e. absurd (false≢true e)) in
    let starts = full_starts g.B.Block.contents g.B.Block.layers g.B.Block.size v c.self.invariant.whole c.in-Some.merge c.in-Some-full.pair c.in-Some.is full in
    let w : Volumed g.row.B.Denot = record v { origin = c.write_chunk.new.origin; snaps = c.save_waiting-self-inside.new.snaps.items; merge = Some c.write_chunk.new.self; flights = c.save_waiting-self-inside.new.flights.items; copies = c.save_waiting-self-inside.result } in
    let left = next_left g.B.Block.contents g.B.Block.layers _ _ _ _ _ _ _ _ _ c.save_waiting-self-inside.ensures.saved in
    let saved = saved_both g.B.Block.may_hold g.B.Block.contents g.B.Block.layers g.B.Block.size g.met.B.Block.whole g.met.B.Block.holds_now v c.self.invariant.whole c.self.invariant.lasting w c.write_chunk.new.self refl c.in-Some.merge c.in-Some.is left c.in-Some-full.pair reading due in
    let beside = merged_beside g.B.Block.may_hold g.B.Block.contents g.B.Block.layers g.B.Block.size g.met.B.Block.whole g.met.B.Block.holds_now v c.self.invariant.whole c.self.invariant.lasting.snaps (c.in-Some.merge.state.chunk * c.in-Some-full.pair.old) (count_of c.in-Some.merge.state.chunk c.in-Some.merge.state.origin c.in-Some-full.pair.old) (g.B.Block.contents c.write_chunk.new.origin) step.1.disk saved in
    let goes = written_both g.B.Block.may_hold g.B.Block.contents g.B.Block.layers g.B.Block.size g.met.B.Block.whole g.met.B.Block.holds_now v c.self.invariant.whole c.self.invariant.lasting w c.write_chunk.new.self refl c.in-Some.merge c.in-Some.is left c.in-Some-full.pair (record { adds = c.in-Ok.ensures.adds; sectors = c.in-Ok.ensures.size; loud = c.in-Ok.ensures.loud }) reading (λ _. step.1.disk) (count_few c.in-Some.merge.state.chunk c.in-Some.merge.state.origin c.in-Some-full.pair.old) (ap (λ x. x.device) fields) (ap (λ x. x.state.chunk) fields) (ap (λ x. x.pairs) fields) step.0.flushed beside in
    rw (← c.self.view_is) goes.stops_snaps

pub returns-in-Ok-clause-stops_origin : goal.returns-in-Ok-clause-stops_origin
returns-in-Ok-clause-stops_origin g c =
    let v : Volumed g.row.B.Denot = record { origin = c.self.inside.origin; snaps = c.self.inside.snaps.items; merge = c.self.inside.merge; flights = c.self.inside.flights.items; requests = c.self.inside.requests; copies = c.self.inside.copies; attached = c.self.inside.attached } in
    let full : full_of c.in-Some.merge.group ≡ Some c.in-Some-full.pair = sym c.in-Some-full.ensures in
    let due : can_write (map (snap_books g.B.Block.contents g.B.Block.layers) v.snaps) (merging_books g.B.Block.contents true c.in-Some.merge) ≡ true = write_tested g.B.Block.contents g.B.Block.layers g.B.Block.size v c.self.invariant.whole c.in-Some.merge c.in-Some.is (c.has_group.ensures.looks true) c.in-Some-full.pair full true c.deref.result.now c.chunk-in-Some.result c.sectors_of-count.result c.deref.ensures.value c.chunk-in-Some.ensures.is (c.sectors_of-count.ensures ∙ ap (λ n. count_of n c.sectors.result c.in-Some-full.pair.old) c.chunk.ensures.is ∙ ap (λ n. count_of c.in-Some.merge.state.chunk n c.in-Some-full.pair.old) c.sectors.ensures) c.if-not-is_clear_over.ensures in
    let reading = full_reading c.in-Some.merge.group c.in-Some-full.pair full in
    let fields = c.in-Ok.ensures.fields in
    let step = c.in-Ok.ensures.step c.in-Some-full.pair full false (λ e. absurd (false≢true e)) in
    let starts = full_starts g.B.Block.contents g.B.Block.layers g.B.Block.size v c.self.invariant.whole c.in-Some.merge c.in-Some-full.pair c.in-Some.is full in
    let w : Volumed g.row.B.Denot = record v { origin = c.write_chunk.new.origin; snaps = c.save_waiting-self-inside.new.snaps.items; merge = Some c.write_chunk.new.self; flights = c.save_waiting-self-inside.new.flights.items; copies = c.save_waiting-self-inside.result } in
    let left = next_left g.B.Block.contents g.B.Block.layers _ _ _ _ _ _ _ _ _ c.save_waiting-self-inside.ensures.saved in
    let saved = saved_both g.B.Block.may_hold g.B.Block.contents g.B.Block.layers g.B.Block.size g.met.B.Block.whole g.met.B.Block.holds_now v c.self.invariant.whole c.self.invariant.lasting w c.write_chunk.new.self refl c.in-Some.merge c.in-Some.is left c.in-Some-full.pair reading due in
    let beside = merged_beside g.B.Block.may_hold g.B.Block.contents g.B.Block.layers g.B.Block.size g.met.B.Block.whole g.met.B.Block.holds_now v c.self.invariant.whole c.self.invariant.lasting.snaps (c.in-Some.merge.state.chunk * c.in-Some-full.pair.old) (count_of c.in-Some.merge.state.chunk c.in-Some.merge.state.origin c.in-Some-full.pair.old) (g.B.Block.contents c.write_chunk.new.origin) step.1.disk saved in
    let goes = written_both g.B.Block.may_hold g.B.Block.contents g.B.Block.layers g.B.Block.size g.met.B.Block.whole g.met.B.Block.holds_now v c.self.invariant.whole c.self.invariant.lasting w c.write_chunk.new.self refl c.in-Some.merge c.in-Some.is left c.in-Some-full.pair (record { adds = c.in-Ok.ensures.adds; sectors = c.in-Ok.ensures.size; loud = c.in-Ok.ensures.loud }) reading (λ _. step.1.disk) (count_few c.in-Some.merge.state.chunk c.in-Some.merge.state.origin c.in-Some-full.pair.old) (ap (λ x. x.device) fields) (ap (λ x. x.state.chunk) fields) (ap (λ x. x.pairs) fields) step.0.flushed beside in
    rw (← c.self.view_is) goes.stops_origin

pub returns-in_default-clause-due : goal.returns-in_default-clause-due
returns-in_default-clause-due g c =
    let v : Volumed g.row.B.Denot = record { origin = c.self.inside.origin; snaps = c.self.inside.snaps.items; merge = c.self.inside.merge; flights = c.self.inside.flights.items; requests = c.self.inside.requests; copies = c.self.inside.copies; attached = c.self.inside.attached } in
    let snaps = map (snap_books g.B.Block.contents g.B.Block.layers) v.snaps in
    let none : full_of c.in-Some.merge.group ≡ None = sym c.full.ensures ∙ c.in_default.is in
    let looks = c.has_group.ensures.looks true in
    rw (← c.self.view_is) (sym (write_due g.B.Block.contents g.B.Block.layers g.B.Block.size v c.self.invariant.whole c.in-Some.merge c.in-Some.is ∙ looks.write snaps ∙ ap (λ o. is_writable snaps c.in-Some.merge.state.chunk c.in-Some.merge.state.origin (option_pairs o)) none))

pub save_waiting-self-inside-requires-clause-few : goal.save_waiting-self-inside-requires-clause-few
save_waiting-self-inside-requires-clause-few g c =
    let whole = c.self.invariant.whole in
    omega (arith, whole.numbers_left, whole.few, c.self.ranges)
