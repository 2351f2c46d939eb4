-- The events of a merge that start no copies are the event machine's.
use Rattle.std.proofs.Common.{◌≡◌, ◌≢◌, inl, inr, ℕ, ◌+◌, ◌-◌, ◌*◌, Bool, true, false, List, [], ◌∷◌, ◌++◌, Option, Some, None, length, replicate, map, refl, sym, ◌∙◌, ap}
use Rattle.std.specs.Prelude.{◌&&◌, not}
use Rattle.std.proofs.lemmas.Bool.{cases_Bool, cond-true, cond-false, false≢true}
use Rattle.sector.specs.Bytes.{sectors_at, with_part}
use Rattle.sector.specs.declared.pair.Pair.{Pair}
use Rattle.device.specs.Layers.{Layer}
use Rattle.device.specs.declared.operation.Operation.{Operation}
use Rattle.device.specs.declared.operation.Operation.TheVariants.{Reads, Writes, Flushes}
use Rattle.plain_machine.specs.declared.event.Event.{Event}
use Rattle.plain_machine.specs.declared.event.Event.TheVariants.{MergeAreaRead, MergeCommit, MergeFlush, MergeRead, MergeRelease}
use Rattle.plain_machine.specs.declared.request.Reply.{Reply}
use Rattle.cow_format.specs.Places.{area_place}
use Rattle.in_flight.specs.Copies.{count_of}
use Rattle.in_flight.specs.declared.flights.Flight.{Flight}
use Rattle.store.specs.Operations.{IsOneOperation}
use Rattle.store.specs.Slots.{slot_start}
use Rattle.store.proofs.Groups.{length-run}
use Rattle.volume_laws.specs.Again.{again_of}
use Rattle.volume_laws.specs.MergeDue.{last_of, can_read, can_read_area, can_flush, can_commit_group, can_release}
use Rattle.volume_laws.specs.MergeSteps.{ReadsBack, FlushesBack, CommitsGroup, ReleasesGroup, ReadsArea, FailsMerge}
use Rattle.volume_laws.specs.MergeWaits.{IsStaged}
use Rattle.volume_laws.specs.Published.{is_clear as is_clear_in}
use Rattle.volume_laws.proofs.MergeTests.{commit_test}
use Rattle.whole_commands.specs.Devices.{Device, answers, met, written_by, sectors_of}
use Rattle.whole_commands.specs.Merges.{without_slots}
use Rattle.event_machine.specs.Held.{Going, MergeHeld, Moving, on_device}
use Rattle.event_machine.specs.Seen.{going_of}
use Rattle.event_machine.specs.Again.{rerouted}
use Rattle.event_machine.specs.MergeDue.{in_area}
use Rattle.event_machine.specs.MergeSeen.{MergeSeen, merge_held_of}
use Rattle.event_machine.specs.MergeStepping.{stepped_all, read_chunk, flush_origin, stop}
use Rattle.event_machine.proofs.MergeMoves.{read_is, flush_is, commit_is, area_is, release_is, stop_is}
use Rattle.event_machine.proofs.MergeTied.{filled_same, area_same, copied_same, read_same, release_same}
use Rattle.snapshot.specs.Kept.{books_of as snap_books}
use Rattle.merge.specs.declared.group.Group.{Group}
use Rattle.merge.specs.declared.group.Progress.{Progress}
use Rattle.merge.specs.declared.group.Progress.TheVariants.{Open, Full, Flushed, Committed}
use Rattle.merge.specs.Due.{has_group_of, commit_at, can_commit_of}
use Rattle.merge.specs.Lists.{changed, committed_in, copied_at, copied_of, copied_count}
use Rattle.merge.specs.Merging.{Merging, books_of as merging_books, due_of as merging_due, flushed_of}
use Rattle.merge.specs.Steps.{ReadsInto}
use Rattle.snapshot_list.specs.Rooms.{merge_books}
use Rattle.volume.specs.Volumed.{Volumed}
use Rattle.volume.specs.Moved.{device_of, moving_of}
use Rattle.volume.proofs.MergeChanging.{merged_to}
use Rattle.volume.proofs.MergeOperations.{last_end}
use Rattle.volume.proofs.MovedCopies.{sectors_is}
use Rattle.volume.proofs.MovedMarks.{again_seen}
use Rattle.volume.proofs.MovedSnaps.{met_is, wrote_is, failed_is}

-- a list that cannot have elements
none_by : (xs : List Pair) → (xs ≢ [] → ⊥) → xs ≡ []
none_by [] none = refl
none_by (x ∷ xs) none = absurd (none (λ e. (cc)))

-- a flag that cannot be true
not_by : (b : Bool) → (b ≡ true → ⊥) → b ≡ false
not_by b none = elim (cases_Bool b) [
  | inl passed ↦ absurd (none passed)
  | inr other ↦ other
]

none_flushed : (g : Option Group) → has_group_of g ≡ false → flushed_of g ≡ false
none_flushed None e = refl
none_flushed (Some g) e = absurd (false≢true (sym e))

commit_flushed : (g : Option Group) → can_commit_of g ≡ true → flushed_of (changed committed_in g) ≡ true
commit_flushed None e = absurd (false≢true e)
commit_flushed (Some g) e = refl

count_at : (p : Progress) (g : Group) → commit_at p ≡ true → length (copied_at p g) ≡ g.copied
count_at Open g e = absurd (false≢true e)
count_at Full g e = absurd (false≢true e)
count_at Flushed g e = length-run g.first g.waiting g.copied
count_at Committed g e = absurd (false≢true e)

commit_count : (g : Option Group) → can_commit_of g ≡ true → length (copied_of g) ≡ copied_count g
commit_count None e = absurd (false≢true e)
commit_count (Some g) e = count_at g.progress g e

module _ {B : Type 0} (contents : B → List ℕ) (layers : B → List Layer) (replied : Option Reply) (v : Volumed B) (m : Merging B) (was : v.merge ≡ Some m) where
  abbrev seen : Merging B → MergeSeen
  seen x = record { due = merging_due contents true x; layers = layers x.device; next = x.next }

  abbrev held : MergeHeld
  held = merge_held_of (seen m)

  -- the machine, with its merge
  abbrev machine : Moving
  machine = moving_of contents layers replied (record v { merge = Some m })

  machine_is : (event : Event) → stepped_all event (moving_of contents layers replied v) ≡ stepped_all event machine
  machine_is event = ap (λ (x : Option (Merging B)). stepped_all event (moving_of contents layers replied (record v { merge = x }))) was

  -- held writes are routed again
  pub rerouted_merged : (o' : B) (m' : Merging B) (flights : List Flight) → flights ≡ map (again_of (merge_books contents layers true (Some m')) (is_clear_in (map (snap_books contents layers) v.snaps))) v.flights
      → rerouted (moving_of contents layers replied (merged_to v o' m' v.flights)) ≡ moving_of contents layers replied (merged_to v o' m' flights)
  rerouted_merged o' m' flights routed =
      ap (λ (rs : List Going). record (moving_of contents layers replied (merged_to v o' m' v.flights)) { requests = rs })
      (again_seen contents layers (Some m') v.snaps v.flights ∙ sym (ap (map going_of) routed))

  module _ (faults faults' counts counts' : ℕ) where
    -- MergeFlush
    module _ (due : can_flush (merging_due contents true m) ≡ true) (o' : B) (same : contents o' ≡ contents v.origin) where
      flush_starts : stepped_all MergeFlush (moving_of contents layers replied v) ≡ flush_origin held machine
      flush_starts = machine_is MergeFlush ∙ cond-true _ _ _ (ap (λ b. b && not (flushed_of m.group)) (copied_same (seen m)) ∙ due)

      pub flush_moved : IsOneOperation Flushes true (layers v.origin) (layers o') faults faults' counts counts' → (m' : Merging B) → FlushesBack (merging_due contents true m) (merging_due contents true m') → m'.device ≡ m.device → m'.next ≡ m.next
          → stepped_all MergeFlush (moving_of contents layers replied v) ≡ moving_of contents layers replied (merged_to v o' m' v.flights)
      flush_moved one m' step device next =
          flush_starts
          ∙ flush_is (seen m) (seen m') machine step (device_of contents layers o') (sym one.answer) (met_is contents layers Flushes true faults faults' counts counts' v.origin o' one same) (ap layers device) next

      pub flush_stopped : IsOneOperation Flushes false (layers v.origin) (layers o') faults faults' counts counts' → (m' : Merging B) → FailsMerge (merging_due contents true m) (merging_due contents true m') → m'.group ≡ None → m'.device ≡ m.device → m'.next ≡ m.next
          → (flights : List Flight) → flights ≡ map (again_of (merge_books contents layers true (Some m')) (is_clear_in (map (snap_books contents layers) v.snaps))) v.flights
          → stepped_all MergeFlush (moving_of contents layers replied v) ≡ moving_of contents layers replied (merged_to v o' m' flights)
      flush_stopped one m' step group device next flights routed =
          flush_starts
          ∙ cond-false _ _ _ (sym one.answer)
          ∙ ap (λ (d : Device). stop held (record machine { origin = d })) (met_is contents layers Flushes false faults faults' counts counts' v.origin o' one same)
          ∙ stop_is (seen m) (seen m') (record machine { origin = device_of contents layers o' }) step (ap flushed_of group) (device_of contents layers m.device) (ap (device_of contents layers) (sym device)) next
          ∙ rerouted_merged o' m' flights routed

    -- what an operation of the merging store is that fails, which leaves the merge as m1
    module _ (m1 m' : Merging B) (step : FailsMerge (merging_due contents true m) (merging_due contents true m')) (group : m'.group ≡ None) (device : m'.device ≡ m1.device) (next : m'.next ≡ m.next)
        (flights : List Flight) (routed : flights ≡ map (again_of (merge_books contents layers true (Some m')) (is_clear_in (map (snap_books contents layers) v.snaps))) v.flights) where
      store_stopped : (d : Device) → d ≡ device_of contents layers m1.device → stop (on_device held d) machine ≡ moving_of contents layers replied (merged_to v v.origin m' flights)
      store_stopped d is =
          stop_is (seen m) (seen m') machine step (ap flushed_of group) d (is ∙ ap (device_of contents layers) (sym device)) next
          ∙ rerouted_merged v.origin m' flights routed

      pub read_stopped : (q : Pair) → can_read v.flights (merging_books contents true m) ≡ true → last_of (merging_books contents true m).waiting ≡ Some q → length (contents v.origin) ≡ 512 * m.state.origin
          → IsOneOperation (Reads (m.state.chunk * q.new) (count_of m.state.chunk m.state.origin q.old)) false (layers m.device) (layers m1.device) faults faults' counts counts' → contents m1.device ≡ contents m.device
          → stepped_all MergeRead (moving_of contents layers replied v) ≡ moving_of contents layers replied (merged_to v v.origin m' flights)
      read_stopped q due last sized one same =
          let place : ℕ = m.state.chunk * q.new in
          let op : ℕ → Operation = λ n. Reads place (count_of m.state.chunk n q.old) in
          let sectors : sectors_of (device_of contents layers v.origin) ≡ m.state.origin = sectors_is (contents v.origin) m.state.origin sized in
          machine_is MergeRead
          ∙ cond-true _ _ _ (read_same (seen m) v.flights ∙ due)
          ∙ ap (λ (x : Option Pair). read_chunk x held machine) last
          ∙ cond-false _ _ _ (ap (λ n. answers (device_of contents layers m.device) (op n)) sectors ∙ sym one.answer)
          ∙ store_stopped (met (device_of contents layers m.device) (op (sectors_of (device_of contents layers v.origin))))
          (ap (λ n. met (device_of contents layers m.device) (op n)) sectors ∙ met_is contents layers (op m.state.origin) false faults faults' counts counts' m.device m1.device one same)

      pub area_stopped : can_read_area (merging_due contents true m) ≡ true → length m.pairs ≡ m.state.current * (32 * m.state.chunk) + m.state.filled
          → IsOneOperation (Reads (m.state.chunk * area_place m.state.chunk (m.state.current - 1)) m.state.chunk) false (layers m.device) (layers m1.device) faults faults' counts counts' → contents m1.device ≡ contents m.device
          → stepped_all MergeAreaRead (moving_of contents layers replied v) ≡ moving_of contents layers replied (merged_to v v.origin m' flights)
      area_stopped due filled one same =
          let op : Operation = Reads (m.state.chunk * area_place m.state.chunk (m.state.current - 1)) m.state.chunk in
          machine_is MergeAreaRead
          ∙ cond-true _ _ _ (area_same (seen m) filled ∙ due)
          ∙ cond-false _ _ _ (sym one.answer)
          ∙ store_stopped (met (device_of contents layers m.device) op) (met_is contents layers op false faults faults' counts counts' m.device m1.device one same)

      pub commit_stopped : can_commit_group (merging_due contents true m) ≡ true
          → IsOneOperation (Writes (m.state.chunk * area_place m.state.chunk m.state.current) m.state.chunk) false (layers m.device) (layers m1.device) faults faults' counts counts' → contents m1.device ≡ contents m.device
          → stepped_all MergeCommit (moving_of contents layers replied v) ≡ moving_of contents layers replied (merged_to v v.origin m' flights)
      commit_stopped due one same =
          let op : Operation = Writes (m.state.chunk * area_place m.state.chunk m.state.current) m.state.chunk in
          let count : ℕ = length (copied_of m.group) in
          let bytes : List ℕ = without_slots m.state.chunk (contents m.device) m.state.current (length (in_area held) - count) count in
          machine_is MergeCommit
          ∙ cond-true _ _ _ (ap (λ b. b && flushed_of m.group) (copied_same (seen m)) ∙ due)
          ∙ cond-false _ _ _ (sym one.answer)
          ∙ store_stopped (written_by (device_of contents layers m.device) op bytes) (failed_is contents layers op bytes faults faults' counts counts' m.device m1.device one same)

    -- what an operation of the merging store is that is answered
    module _ (staged : IsStaged (merging_due contents true m)) (m' : Merging B) where
      pub read_moved : (q : Pair) (rest : List Pair) → can_read v.flights (merging_books contents true m) ≡ true → ReadsBack rest q m'.buffer (merging_due contents true m) (merging_due contents true m') → ReadsInto q (merging_books contents true m) (merging_books contents true m')
          → length (contents v.origin) ≡ 512 * m.state.origin → IsOneOperation (Reads (m.state.chunk * q.new) (count_of m.state.chunk m.state.origin q.old)) true (layers m.device) (layers m'.device) faults faults' counts counts' → contents m'.device ≡ contents m.device → m'.next ≡ m.next
          → stepped_all MergeRead (moving_of contents layers replied v) ≡ moving_of contents layers replied (merged_to v v.origin m' v.flights)
      read_moved q rest due step into sized one same next =
          let place : ℕ = m.state.chunk * q.new in
          let op : ℕ → Operation = λ n. Reads place (count_of m.state.chunk n q.old) in
          let sectors : sectors_of (device_of contents layers v.origin) ≡ m.state.origin = sectors_is (contents v.origin) m.state.origin sized in
          let flushed : flushed_of m.group ≡ false = not_by (flushed_of m.group) (λ e. no_end rest q (sym step.last ∙ staged.read e)) in
          machine_is MergeRead
          ∙ cond-true _ _ _ (read_same (seen m) v.flights ∙ due)
          ∙ ap (λ (x : Option Pair). read_chunk x held machine) (ap last_of step.last ∙ last_end rest q)
          ∙ read_is (seen m) (seen m') machine rest q m'.buffer step flushed (ap (λ n. answers (device_of contents layers m.device) (op n)) sectors ∙ sym one.answer)
          (ap (λ n. met (device_of contents layers m.device) (op n)) sectors ∙ met_is contents layers (op m.state.origin) true faults faults' counts counts' m.device m'.device one same)
          (into.read ∙ ap (λ n. sectors_at (contents m.device) place (count_of m.state.chunk n q.old)) (sym sectors)) next
        where
          no_end : (xs : List Pair) (x : Pair) → xs ++ x ∷ [] ≡ [] → ⊥
          no_end [] x e = (cc)
          no_end (y ∷ xs) x e = (cc)

      pub area_moved : can_read_area (merging_due contents true m) ≡ true → has_group_of m.group ≡ false → length m.pairs ≡ m.state.current * (32 * m.state.chunk) + m.state.filled → ReadsArea (merging_due contents true m) (merging_due contents true m')
          → IsOneOperation (Reads (m.state.chunk * area_place m.state.chunk (m.state.current - 1)) m.state.chunk) true (layers m.device) (layers m'.device) faults faults' counts counts' → contents m'.device ≡ contents m.device → m'.next ≡ m.next
          → stepped_all MergeAreaRead (moving_of contents layers replied v) ≡ moving_of contents layers replied (merged_to v v.origin m' v.flights)
      area_moved due none filled step one same next =
          let op : Operation = Reads (m.state.chunk * area_place m.state.chunk (m.state.current - 1)) m.state.chunk in
          machine_is MergeAreaRead
          ∙ cond-true _ _ _ (area_same (seen m) filled ∙ due)
          ∙ area_is (seen m) (seen m') machine step (none_flushed m.group none) (sym one.answer) (met_is contents layers op true faults faults' counts counts' m.device m'.device one same) next

      pub commit_moved : can_commit_group (merging_due contents true m) ≡ true → can_commit_of m.group ≡ true → length m.pairs ≡ m.state.current * (32 * m.state.chunk) + m.state.filled → CommitsGroup m'.pairs (contents m'.device) (merging_due contents true m) (merging_due contents true m')
          → IsOneOperation (Writes (m.state.chunk * area_place m.state.chunk m.state.current) m.state.chunk) true (layers m.device) (layers m'.device) faults faults' counts counts'
          → contents m'.device ≡ with_part (contents m.device) (slot_start m.state.chunk m.state.current (m.state.filled - copied_count m.group)) (replicate (16 * copied_count m.group) 0)
          → m'.group ≡ changed committed_in m.group → m'.next ≡ area_place m.state.chunk m.state.current + (m.state.filled - copied_count m.group) + 1
          → stepped_all MergeCommit (moving_of contents layers replied v) ≡ moving_of contents layers replied (merged_to v v.origin m' v.flights)
      commit_moved due ready filled step one written group next =
          let op : Operation = Writes (m.state.chunk * area_place m.state.chunk m.state.current) m.state.chunk in
          let count : length (copied_of m.group) ≡ copied_count m.group = commit_count m.group ready in
          let slots : length (in_area held) ≡ m.state.filled = filled_same (seen m) filled in
          let kept : length (in_area held) - length (copied_of m.group) ≡ m.state.filled - copied_count m.group = ap (λ n. n - length (copied_of m.group)) slots ∙ ap (λ n. m.state.filled - n) count in
          let bytes : List ℕ = without_slots m.state.chunk (contents m.device) m.state.current (length (in_area held) - length (copied_of m.group)) (length (copied_of m.group)) in
          let same : contents m'.device ≡ bytes = written
          ∙ sym (ap (λ n. without_slots m.state.chunk (contents m.device) m.state.current n (length (copied_of m.group))) kept ∙ ap (without_slots m.state.chunk (contents m.device) m.state.current (m.state.filled - copied_count m.group)) count) in
          machine_is MergeCommit
          ∙ cond-true _ _ _ (ap (λ b. b && flushed_of m.group) (copied_same (seen m)) ∙ due)
          ∙ commit_is (seen m) (seen m') machine m'.pairs step (ap flushed_of group ∙ commit_flushed m.group ready ∙ sym (commit_test (merging_due contents true m) due).1)
          (none_by (merging_books contents true m).released (λ some. step.some (staged.copied some)))
          (sym one.answer) (wrote_is contents layers op bytes faults faults' counts counts' m.device m'.device one same)
          (next ∙ ap (λ n. area_place m.state.chunk m.state.current + n + 1) (sym kept))

  -- MergeRelease
  pub release_moved : can_release v.flights (merging_books contents true m) ≡ true → (m' : Merging B) → ReleasesGroup (merging_due contents true m) (merging_due contents true m') → m'.group ≡ None → m'.device ≡ m.device → m'.next ≡ m.next
      → (flights : List Flight) → flights ≡ map (again_of (merge_books contents layers true (Some m')) (is_clear_in (map (snap_books contents layers) v.snaps))) v.flights
      → stepped_all MergeRelease (moving_of contents layers replied v) ≡ moving_of contents layers replied (merged_to v v.origin m' flights)
  release_moved due m' step group device next flights routed =
      machine_is MergeRelease
      ∙ cond-true _ _ _ (release_same (seen m) v.flights ∙ due)
      ∙ release_is (seen m) (seen m') machine step (ap flushed_of group) (ap layers device) next
      ∙ rerouted_merged v.origin m' flights routed
