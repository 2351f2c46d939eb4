-- What each event of a merge does to its books is what it does to the machine: the two changes are seen alike.
use Rattle.std.proofs.Common.{◌≡◌, ℕ, ◌+◌, ◌-◌, ◌*◌, Bool, true, false, List, [], ◌∷◌, ◌++◌, length, take, Some, arith, refl, ap, ◌∙◌, sym}
use Rattle.std.proofs.lemmas.Bool.{cond-true}
use Rattle.std.proofs.lemmas.List.{length-append, take_at, append-nil}
use Rattle.sector.specs.Bytes.{sectors_at, with_sectors}
use Rattle.sector.specs.declared.pair.Pair.{Pair}
use Rattle.device.specs.Layers.{Layer}
use Rattle.device.specs.declared.operation.Operation.{Operation}
use Rattle.device.specs.declared.operation.Operation.TheVariants.{Reads, Writes, Flushes}
use Rattle.cow_format.specs.Places.{area_place}
use Rattle.in_flight.specs.Copies.{count_of}
use Rattle.volume_laws.specs.Books.{MergeBooks}
use Rattle.volume_laws.specs.MergeDue.{last_of}
use Rattle.volume_laws.specs.MergeSteps.{without_group, FormsGroup, ReadsBack, WritesBack, FlushesBack, CommitsGroup, ReleasesGroup, ReadsArea, FailsMerge, Resumes, WritesStore}
use Rattle.whole_commands.specs.Devices.{Device, sectors_of, answers, met, written_by}
use Rattle.whole_commands.specs.Merges.{last_run, without_slots}
use Rattle.event_machine.specs.Held.{MergeHeld, Moving, on_device, with_merge}
use Rattle.event_machine.specs.Again.{rerouted}
use Rattle.event_machine.specs.MergeDue.{in_area}
use Rattle.event_machine.specs.MergeStepping.{without_last, start_next, form_group, read_chunk, write_chunk, flush_origin, commit_group, read_area, end_group, stop}
use Rattle.event_machine.specs.MergeSeen.{MergeSeen, buffered, merge_held_of}

-- a merge by what is seen of it
abbrev seen_as : MergeBooks → Bool → Bool → ℕ → ℕ → List Layer → ℕ → MergeSeen
seen_as books failed flushed filled current layers next =
    record { due = record { books = books; failed = failed; flushed = flushed; filled = filled; current = current }; layers = layers; next = next }

seen_by : (s : MergeSeen) (books : MergeBooks) (failed flushed : Bool) (current : ℕ) (layers : List Layer) (next : ℕ) → s.due.books ≡ books → s.due.failed ≡ failed → s.due.flushed ≡ flushed → s.due.current ≡ current → s.layers ≡ layers → s.next ≡ next
    → merge_held_of (seen_as books failed flushed s.due.filled current layers next) ≡ merge_held_of s
seen_by s books failed flushed current layers next pb pf pl pc py pn =
    ap (λ x. merge_held_of (seen_as x failed flushed s.due.filled current layers next)) (sym pb)
    ∙ ap (λ x. merge_held_of (seen_as s.due.books x flushed s.due.filled current layers next)) (sym pf)
    ∙ ap (λ x. merge_held_of (seen_as s.due.books s.due.failed x s.due.filled current layers next)) (sym pl)
    ∙ ap (λ x. merge_held_of (seen_as s.due.books s.due.failed s.due.flushed s.due.filled x layers next)) (sym pc)
    ∙ ap (λ x. merge_held_of (seen_as s.due.books s.due.failed s.due.flushed s.due.filled s.due.current x next)) (sym py)
    ∙ ap (λ x. merge_held_of (seen_as s.due.books s.due.failed s.due.flushed s.due.filled s.due.current s.layers x)) (sym pn)

-- the device of its store
abbrev pub store_of : MergeSeen → Device
store_of s = record { bytes = s.due.books.store; layers = s.layers }

without_last_of : (rest : List Pair) (q : Pair) → without_last (rest ++ q ∷ []) ≡ rest
without_last_of [] q = refl
without_last_of (p ∷ []) q = refl
without_last_of (p ∷ r ∷ rest) q = ap (λ xs. p ∷ xs) (without_last_of (r ∷ rest) q)

module _ (s s' : MergeSeen) (v : Moving) where
  abbrev held : MergeHeld
  held = merge_held_of s

  -- MergeGroup
  pub formed_is : (kept group : List Pair) → FormsGroup kept group s.due s'.due → group ≡ last_run (in_area held) → s.due.flushed ≡ false → s'.layers ≡ s.layers → s'.next ≡ s.next
      → form_group held v ≡ start_next s.due.books.chunk (last_of group) (with_merge (merge_held_of s') v)
  formed_is kept group f is flushed layers next =
      ap (λ g. start_next s.due.books.chunk (last_of g) (with_merge (record held { waiting = g }) v)) (sym is)
      ∙ ap (λ m. start_next s.due.books.chunk (last_of group) (with_merge m v))
      (seen_by s' (record s.due.books { waiting = group }) s.due.failed s.due.flushed s.due.current s.layers s.next f.books (f.failed ∙ sym f.running) (f.flushed ∙ sym flushed) f.current layers next)

  -- the device after an operation
  abbrev moved_to : Device → MergeHeld
  moved_to device = record held { merge = record held.merge { store = device } }

  -- MergeRead
  module _ (rest : List Pair) (q : Pair) (bytes : List ℕ) (r : ReadsBack rest q bytes s.due s'.due) where
    abbrev read_place : ℕ
    read_place = s.due.books.chunk * q.new

    abbrev read_count : ℕ
    read_count = count_of s.due.books.chunk (sectors_of v.origin) q.old

    abbrev read_op : Operation
    read_op = Reads read_place read_count

    pub read_is : s.due.flushed ≡ false → answers (store_of s) read_op ≡ true → met (store_of s) read_op ≡ store_of s' → take (512 * count_of s.due.books.chunk s.due.books.sectors q.old) bytes ≡ sectors_at s.due.books.store read_place read_count → s'.next ≡ s.next
        → read_chunk (Some q) held v ≡ with_merge (merge_held_of s') v
    read_is flushed ok device front next =
        let after : MergeHeld = moved_to (met (store_of s) read_op) in
        cond-true _ _ _ ok
        ∙ ap (λ ws. with_merge (record after { waiting = ws; reading = q ∷ []; buffer = sectors_at s.due.books.store read_place read_count }) v) (ap without_last r.last ∙ without_last_of rest q)
        ∙ ap (λ bs. with_merge (record after { waiting = rest; reading = q ∷ []; buffer = bs }) v) (sym front)
        ∙ ap (λ m. with_merge m v)
        (seen_by s' (record s.due.books { waiting = rest; reading = q ∷ []; buffer = bytes }) s.due.failed s.due.flushed s.due.current (met (store_of s) read_op).layers s.next
        r.books (r.failed ∙ sym r.running) (r.flushed ∙ sym flushed) r.current (ap (λ (d : Device). d.layers) (sym device)) next)

  -- MergeWrite, over the origin disk after it
  module _ (q : Pair) (r : WritesBack q s.due s'.due) (origin : Device) where
    abbrev write_first : ℕ
    write_first = s.due.books.chunk * q.old

    abbrev write_count : ℕ
    write_count = count_of s.due.books.chunk (sectors_of v.origin) q.old

    abbrev write_op : Operation
    write_op = Writes write_first write_count

    pub write_is : s.due.flushed ≡ false → answers v.origin write_op ≡ true
        → written_by v.origin write_op (with_sectors v.origin.bytes write_first (take (512 * count_of s.due.books.chunk s.due.books.sectors q.old) s.due.books.buffer)) ≡ origin → s'.layers ≡ s.layers → s'.next ≡ s.next
        → write_chunk s.due.books.reading held v ≡ start_next s.due.books.chunk (last_of s.due.books.waiting) (with_merge (merge_held_of s') (record v { origin = origin }))
    write_is flushed ok device layers next =
        let bytes : List ℕ = take (512 * count_of s.due.books.chunk s.due.books.sectors q.old) s.due.books.buffer in
        let after : MergeHeld → Device → Moving = λ (m : MergeHeld) (d : Device). start_next s.due.books.chunk (last_of s.due.books.waiting) (with_merge m (record v { origin = d })) in
        let written : List Pair → List Pair → List ℕ → Moving = λ (now reading : List Pair) (buffer : List ℕ). write_chunk now (record held { reading = reading; buffer = buffer }) v in
        ap (λ ps. written ps ps (buffered s.due.books.chunk s.due.books.sectors ps s.due.books.buffer)) r.full
        ∙ cond-true _ _ _ ok
        ∙ ap (after (record held { reading = []; buffer = []; copied = q ∷ s.due.books.copied })) device
        ∙ ap (λ m. after m origin)
        (seen_by s' (record s.due.books { reading = []; copied = q ∷ s.due.books.copied }) s.due.failed s.due.flushed s.due.current s.layers s.next r.books (r.failed ∙ sym r.running) (r.flushed ∙ sym flushed) r.current layers next)

  -- MergeFlush
  pub flush_is : FlushesBack s.due s'.due → (origin : Device) → answers v.origin Flushes ≡ true → met v.origin Flushes ≡ origin → s'.layers ≡ s.layers → s'.next ≡ s.next
      → flush_origin held v ≡ with_merge (merge_held_of s') (record v { origin = origin })
  flush_is r origin ok device layers next =
      cond-true _ _ _ ok
      ∙ ap (λ d. with_merge (record held { flushed = true }) (record v { origin = d })) device
      ∙ ap (λ m. with_merge m (record v { origin = origin }))
      (seen_by s' s.due.books s.due.failed true s.due.current s.layers s.next r.books (r.failed ∙ sym r.running) r.flushed r.current layers next)

  -- MergeCommit
  module _ (kept : List Pair) (r : CommitsGroup kept s'.due.books.store s.due s'.due) where
    abbrev area_op : Operation
    area_op = Writes (s.due.books.chunk * area_place s.due.books.chunk s.due.current) s.due.books.chunk

    abbrev slots_kept : ℕ
    slots_kept = length (in_area held) - length s.due.books.copied

    pub commit_is : s'.due.flushed ≡ s.due.flushed → s.due.books.released ≡ [] → answers (store_of s) area_op ≡ true
        → written_by (store_of s) area_op (without_slots s.due.books.chunk s.due.books.store s.due.current slots_kept (length s.due.books.copied)) ≡ store_of s'
        → s'.next ≡ area_place s.due.books.chunk s.due.current + slots_kept + 1 → commit_group held v ≡ with_merge (merge_held_of s') v
    commit_is flushed none ok device next =
        let place : ℕ = area_place s.due.books.chunk s.due.current + slots_kept + 1 in
        let made : Device → List Pair → List Pair → Moving = λ (d : Device) (ps released : List Pair).
        with_merge (record held { merge = record held.merge { store = d; next = place }; pairs = ps; copied = []; released = released }) v in
        let long : length s.due.books.pairs ≡ length kept + length s.due.books.copied = ap length r.ends ∙ length-append kept s.due.books.copied in
        cond-true _ _ _ ok
        ∙ ap (λ d. made d (take (length s.due.books.pairs - length s.due.books.copied) s.due.books.pairs) s.due.books.copied) device
        ∙ ap (λ ps. made (store_of s') ps s.due.books.copied) (ap (take (length s.due.books.pairs - length s.due.books.copied)) r.ends ∙ take_at kept s.due.books.copied _ (omega (arith, long)))
        ∙ ap (made (store_of s') kept) (sym (append-nil s.due.books.copied) ∙ ap (λ ps. s.due.books.copied ++ ps) (sym none))
        ∙ ap (λ m. with_merge m v)
        (seen_by s' (record s.due.books { store = s'.due.books.store; pairs = kept; copied = []; released = s.due.books.copied ++ s.due.books.released }) s.due.failed s.due.flushed s.due.current s'.layers place
        r.books (r.failed ∙ sym r.running) flushed r.current refl next)

  -- MergeAreaRead
  module _ (r : ReadsArea s.due s'.due) where
    abbrev before_op : Operation
    before_op = Reads (s.due.books.chunk * area_place s.due.books.chunk (s.due.current - 1)) s.due.books.chunk

    pub area_is : s.due.flushed ≡ false → answers (store_of s) before_op ≡ true → met (store_of s) before_op ≡ store_of s' → s'.next ≡ s.next → read_area held v ≡ with_merge (merge_held_of s') v
    area_is flushed ok device next =
        cond-true _ _ _ ok
        ∙ ap (λ m. with_merge m v)
        (seen_by s' s.due.books s.due.failed s.due.flushed (s.due.current - 1) (met (store_of s) before_op).layers s.next
        r.books (r.failed ∙ sym r.running) (r.flushed ∙ sym flushed) r.current (ap (λ (d : Device). d.layers) (sym device)) next)

  -- MergeRelease
  pub release_is : ReleasesGroup s.due s'.due → s'.due.flushed ≡ false → s'.layers ≡ s.layers → s'.next ≡ s.next → end_group held v ≡ rerouted (with_merge (merge_held_of s') v)
  release_is r flushed layers next =
      ap (λ m. rerouted (with_merge m v)) (seen_by s' (without_group s.due.books) s.due.failed false s.due.current s.layers s.next r.books (r.failed ∙ sym r.running) flushed r.current layers next)

  -- a fault: of its store, which leaves it as this device, or of the origin disk
  pub stop_is : FailsMerge s.due s'.due → s'.due.flushed ≡ false → (device : Device) → device ≡ store_of s' → s'.next ≡ s.next → stop (on_device held device) v ≡ rerouted (with_merge (merge_held_of s') v)
  stop_is r flushed device is next =
      ap (λ d. stop (on_device held d) v) is
      ∙ ap (λ bs. stop (on_device held (record { bytes = bs; layers = s'.layers })) v) (ap (λ (b : MergeBooks). b.store) r.books)
      ∙ ap (λ m. rerouted (with_merge m v)) (seen_by s' (without_group s.due.books) true false s.due.current s'.layers s.next r.books r.failed flushed r.current refl next)

  -- a failed merge goes on
  pub resume_is : Resumes s.due s'.due → s'.due.flushed ≡ s.due.flushed → s'.layers ≡ s.layers → s'.next ≡ s.next → with_merge (record held { merge = record held.merge { failed = false } }) v ≡ with_merge (merge_held_of s') v
  resume_is r flushed layers next =
      ap (λ m. with_merge m v) (seen_by s' s.due.books false s.due.flushed s.due.current s.layers s.next r.books r.failed flushed r.current layers next)

  -- a request is served by its store
  pub served_is : WritesStore s'.due.books.store s.due s'.due → (device : Device) → device ≡ store_of s' → s'.next ≡ s.next → with_merge (on_device held device) v ≡ with_merge (merge_held_of s') v
  served_is r device is next =
      ap (λ d. with_merge (on_device held d) v) is
      ∙ ap (λ m. with_merge m v) (seen_by s' (record s.due.books { store = s'.due.books.store }) s.due.failed s.due.flushed s.due.current s'.layers s.next r.books r.failed r.flushed r.current refl next)
