-- MergeWrite is the event machine's.
use Rattle.std.proofs.Common.{◌≡◌, ℕ, ◌*◌, true, false, List, [], ◌∷◌, Option, Some, None, length, map, take, refl, sym, ◌∙◌, ap}
use Rattle.std.specs.List.{All}
use Rattle.std.proofs.lemmas.Bool.{cond-true, cond-false}
use Rattle.sector.specs.Bytes.{with_sectors}
use Rattle.sector.specs.declared.pair.Pair.{Pair}
use Rattle.device.specs.Layers.{Layer}
use Rattle.device.specs.declared.operation.Operation.{Operation}
use Rattle.device.specs.declared.operation.Operation.TheVariants.{Writes}
use Rattle.plain_machine.specs.declared.event.Event.TheVariants.{MergeWrite}
use Rattle.plain_machine.specs.declared.request.Reply.{Reply}
use Rattle.in_flight.specs.Copies.{count_of}
use Rattle.in_flight.specs.declared.flights.Flight.{Flight}
use Rattle.store.specs.Operations.{IsOneOperation}
use Rattle.volume_laws.specs.Again.{again_of}
use Rattle.volume_laws.specs.MergeDue.{can_write, is_writable, last_of}
use Rattle.volume_laws.specs.MergeSteps.{WritesBack, FailsMerge}
use Rattle.volume_laws.specs.Published.{is_clear as is_clear_in}
use Rattle.whole_commands.specs.Devices.{Device, answers, written_by, sectors_of}
use Rattle.event_machine.specs.Held.{MergeHeld, Moving}
use Rattle.event_machine.specs.MergeDue.{is_writable as is_writable_held}
use Rattle.event_machine.specs.MergeSeen.{MergeSeen, merge_held_of}
use Rattle.event_machine.specs.MergeStepping.{stepped_all, write_chunk, stop}
use Rattle.event_machine.proofs.MergeMoves.{write_is, stop_is}
use Rattle.snapshot.specs.Kept.{Kept, books_of as snap_books}
use Rattle.merge.specs.Due.{full_at, full_of}
use Rattle.merge.specs.Lists.{is_flushed, reading_of, waiting_of}
use Rattle.merge.specs.Merging.{Merging, books_of as merging_books, due_of as merging_due, flushed_of}
use Rattle.merge.specs.declared.group.Group.{Group}
use Rattle.merge.specs.declared.group.Progress.{Progress}
use Rattle.merge.specs.declared.group.Progress.TheVariants.{Open, Full, Flushed, Committed}
use Rattle.snapshot_list.specs.Rooms.{merge_books}
use Rattle.snapshot_list.specs.MergeStarting.{IsNextSaved}
use Rattle.volume.specs.Volumed.{Volumed}
use Rattle.volume.specs.Moved.{device_of, held_of, moving_of}
use Rattle.volume.proofs.MergeChanging.{merged_to}
use Rattle.volume.proofs.MergeSaves.{regrouped}
use Rattle.volume.proofs.MovedCopies.{sectors_is}
use Rattle.volume.proofs.MovedGroups.{next_moved}
use Rattle.volume.proofs.MovedMarks.{clear_over_seen}
use Rattle.volume.proofs.MovedMerges.{rerouted_merged}
use Rattle.volume.proofs.MovedSnaps.{wrote_is, failed_is}
use Rattle.volume.proofs.MovedSubmits.{IsSized}

-- while a chunk is in the buffer, the group's chunks are not flushed, and it alone is read
full_open : (g : Group) (p : Progress) (q : Pair) → full_at p g ≡ Some q → is_flushed p ≡ false
full_open g Open q e = refl
full_open g Full q e = refl
full_open g Flushed q e = absurd (cc)
full_open g Committed q e = absurd (cc)

pub full_unflushed : (g : Option Group) (q : Pair) → full_of g ≡ Some q → flushed_of g ≡ false
full_unflushed None q e = refl
full_unflushed (Some g) q e = full_open g g.progress q e

module _ {B : Type 0} (contents : B → List ℕ) (layers : B → List Layer) (replied : Option Reply) (v : Volumed B) (m : Merging B) (was : v.merge ≡ Some m) (faults faults' counts counts' : ℕ) (q : Pair) (full : full_of m.group ≡ Some q)
    (due : can_write (map (snap_books contents layers) v.snaps) (merging_books contents true m) ≡ true) (sized : length (contents v.origin) ≡ 512 * m.state.origin) (o' : B) where
  abbrev seen : Merging B → MergeSeen
  seen x = record { due = merging_due contents true x; layers = layers x.device; next = x.next }

  abbrev held : MergeHeld
  held = merge_held_of (seen m)

  abbrev machine : Moving
  machine = moving_of contents layers replied (record v { merge = Some m })

  abbrev op_of : ℕ → Operation
  op_of n = Writes (m.state.chunk * q.old) (count_of m.state.chunk n q.old)

  sectors : sectors_of (device_of contents layers v.origin) ≡ m.state.origin
  sectors = sectors_is (contents v.origin) m.state.origin sized

  writable_seen : (pairs : List Pair) → is_writable_held (map (held_of contents layers) v.snaps) m.state.chunk m.state.origin pairs ≡ is_writable (map (snap_books contents layers) v.snaps) m.state.chunk m.state.origin pairs
  writable_seen [] = refl
  writable_seen (p ∷ ps) = clear_over_seen contents layers (m.state.chunk * p.old) (count_of m.state.chunk m.state.origin p.old) v.snaps

  write_starts : stepped_all MergeWrite (moving_of contents layers replied v) ≡ write_chunk (reading_of m.group) held machine
  write_starts =
      ap (λ (x : Option (Merging B)). stepped_all MergeWrite (moving_of contents layers replied (record v { merge = x }))) was
      ∙ cond-true _ _ _ (ap (λ n. is_writable_held (map (held_of contents layers) v.snaps) m.state.chunk n (reading_of m.group)) sectors ∙ writable_seen (reading_of m.group) ∙ due)

  pub write_moved : (g : Option Group) → WritesBack q (merging_due contents true m) (merging_due contents true (regrouped m g))
      → IsOneOperation (Writes (m.state.chunk * q.old) (count_of m.state.chunk m.state.origin q.old)) true (layers v.origin) (layers o') faults faults' counts counts'
      → contents o' ≡ with_sectors (contents v.origin) (m.state.chunk * q.old) (take (512 * count_of m.state.chunk m.state.origin q.old) m.buffer)
      → length (contents o') ≡ 512 * m.state.origin → All (IsSized contents) v.snaps → (ts : List (Kept B)) (n : ℕ) (gs : List Flight) → IsNextSaved contents layers m.state.chunk m.state.origin (last_of (waiting_of m.group)) v.snaps ts v.copies n v.flights gs
      → stepped_all MergeWrite (moving_of contents layers replied v) ≡ moving_of contents layers replied (record (merged_to v o' (regrouped m g) v.flights) { snaps = ts; copies = n; flights = gs })
  write_moved g step one wrote disk all ts n gs saved =
      let m' : Merging B = regrouped m g in
      let bytes : List ℕ = with_sectors (contents v.origin) (m.state.chunk * q.old) (take (512 * count_of m.state.chunk m.state.origin q.old) m.buffer) in
      write_starts
      ∙ write_is (seen m) (seen m') machine q step (device_of contents layers o') (full_unflushed m.group q full)
      (ap (λ k. answers (device_of contents layers v.origin) (op_of k)) sectors ∙ sym one.answer)
      (ap (λ k. written_by (device_of contents layers v.origin) (op_of k) bytes) sectors ∙ wrote_is contents layers (op_of m.state.origin) bytes faults faults' counts counts' v.origin o' one wrote) refl refl
      ∙ next_moved contents layers replied (merged_to v o' m' v.flights) m.state.chunk m.state.origin (last_of (waiting_of m.group)) disk all ts n gs saved

  pub write_stopped : reading_of m.group ≡ q ∷ [] → contents o' ≡ contents v.origin
      → IsOneOperation (Writes (m.state.chunk * q.old) (count_of m.state.chunk m.state.origin q.old)) false (layers v.origin) (layers o') faults faults' counts counts'
      → (m' : Merging B) → FailsMerge (merging_due contents true m) (merging_due contents true m') → m'.group ≡ None → m'.device ≡ m.device → m'.next ≡ m.next
      → (flights : List Flight) → flights ≡ map (again_of (merge_books contents layers true (Some m')) (is_clear_in (map (snap_books contents layers) v.snaps))) v.flights
      → stepped_all MergeWrite (moving_of contents layers replied v) ≡ moving_of contents layers replied (merged_to v o' m' flights)
  write_stopped reading same one m' step group device next flights routed =
      let bytes : List ℕ = with_sectors (contents v.origin) (m.state.chunk * q.old) held.buffer in
      write_starts
      ∙ ap (λ (ps : List Pair). write_chunk ps held machine) reading
      ∙ cond-false _ _ _ (ap (λ k. answers (device_of contents layers v.origin) (op_of k)) sectors ∙ sym one.answer)
      ∙ ap (λ (d : Device). stop held (record machine { origin = d })) (ap (λ k. written_by (device_of contents layers v.origin) (op_of k) bytes) sectors ∙ failed_is contents layers (op_of m.state.origin) bytes faults faults' counts counts' v.origin o' one same)
      ∙ stop_is (seen m) (seen m') (record machine { origin = device_of contents layers o' }) step (ap flushed_of group) (device_of contents layers m.device) (ap (device_of contents layers) (sym device)) next
      ∙ rerouted_merged contents layers replied v m was o' m' flights routed
