-- One snapshot's copy, event by event: each event is due where the other snapshots wait at most, those before it for copies of
-- higher numbers, and what it does.
use Rattle.std.proofs.Common.{◌≡◌, inl, inr, ℕ, ◌+◌, ◌*◌, ◌/◌, ◌%◌, ◌<◌, Bool, true, false, List, [], ◌∷◌, ◌++◌, length, map, drop, Option, Some, refl, ap, ◌∙◌, sym, subst, eq-eqb, arith, append-nil}
use Rattle.std.specs.Prelude.{◌==◌, ◌&&◌, not, if◌then◌else◌}
use Rattle.std.specs.List.{list_any}
use Rattle.std.proofs.lemmas.Bool.{cases_Bool, cond-true, cond-false}
use Rattle.sector.specs.Bytes.{sectors_at, with_part, with_sectors}
use Rattle.sector.specs.declared.pair.Pair.{Pair}
use Rattle.device.specs.declared.operation.Operation.{Operation}
use Rattle.device.specs.declared.operation.Operation.TheVariants.{Reads, Writes, Flushes}
use Rattle.plain_machine.specs.declared.event.Event.TheVariants.{CopyRead, CopyWrite, ZeroNext, WriteArea, Publish, WriteInvalid, FlushStore}
use Rattle.plain_machine.specs.declared.request.Reply.{Reply}
use Rattle.cow_format.specs.Places.{area_place}
use Rattle.cow_format.specs.Slots.{pair_bytes}
use Rattle.in_flight.specs.Copies.{count_of}
use Rattle.in_flight.specs.declared.copies.Stage.{Stage}
use Rattle.in_flight.specs.declared.copies.Stage.TheVariants.{Waiting, Read, Written, Flushed}
use Rattle.in_flight.specs.declared.copies.Mark.{Mark}
use Rattle.in_flight.specs.Due.{least, is_stage}
use Rattle.whole_commands.specs.Saves.{paired, zeroed}
use Rattle.whole_commands.specs.Devices.{Device, sectors_of, answers, met, written_by}
use Rattle.whole_commands.specs.Snaps.{Snap}
use Rattle.whole_commands.specs.Saving.{lacks_area, header_written}
use Rattle.event_machine.specs.Held.{Copying, SnapHeld, Going, MergeHeld, Moving, number_of, with_store, spoiled, flushed_held}
use Rattle.event_machine.specs.Due.{batch_of, needs_area, waits_for_area, can_mark, can_flush_store, can_commit, can_zero, copy_at, is_reading, is_publishable, least_in, due}
use Rattle.event_machine.specs.Again.{again, placed, refused, rerouted}
use Rattle.event_machine.specs.Stepping.{for_some, first_that, with_first, put, spoil, store_write, read_copy, write_copy, zero_next, all_paired, commit, publish, mark_invalid, flush_store, is_copy, on_copy, on_snap}
use Rattle.event_machine.proofs.Lists.{same_number, here_that, here_with, here_by, nowhere_by}
use Rattle.whole_commands.proofs.Each.{Each, each_weaker}
use Rattle.whole_command_laws.proofs.Goes.{Goes, goes_on, goes_by}
use Rattle.whole_command_laws.proofs.Primed.{mark_goes, mark_written, mark_missed, mark_flushed, tried_of, tried_flushed, tried_missed}
use Rattle.event_machine.proofs.Slots.{one_batch, one_last, one_fills, next_area}
use Rattle.event_machine.proofs.Lists.{Above}
use Rattle.event_machine.proofs.Around.{at_with, IsLater, IsBefore, later_marks, later_flushes, later_commits, later_zeroes, due_flush, due_publish, due_area, due_zeros, due_write, due_read}

-- a live snapshot with these copies and marks
abbrev pub holding : Snap → List Pair → ℕ → Bool → Bool → List Copying → List Mark → SnapHeld
holding s pairs next zeroed firm copies marks = record { snap = s; untried = false; marked = false; pairs = pairs; next = next; zeroed = zeroed; firm = firm; copies = copies; marks = marks }

-- a copy
abbrev pub copying : ℕ → Pair → Stage → List ℕ → Copying
copying n pair stage bytes = record { number = n; pair = pair; stage = stage; bytes = bytes }

and_no : (x y : Bool) → y ≡ false → (x && y) ≡ false
and_no true y e = e
and_no false y e = refl

module _ (g : Option MergeHeld) (origin : Device) (done rest : List SnapHeld) (rs : List Going) (a : Option Reply) (k : ℕ) where
  module _ (test : SnapHeld → Bool) (h : SnapHeld) (before : Each (λ d. test d ≡ false) done) (pass : test h ≡ true) where
    -- a snapshot that is changed
    pub put_here : (w : SnapHeld) → put test w (at_with g origin (done ++ h ∷ rest) rs a k) ≡ at_with g origin (done ++ w ∷ rest) rs a k
    put_here w = ap (λ xs. at_with g origin xs rs a k) (here_with test w done rest h before pass)

    pub spoil_here : (w : SnapHeld) → spoil test w (at_with g origin (done ++ h ∷ rest) rs a k) ≡ at_with g origin (done ++ spoiled w ∷ rest) (map (refused w.snap.number) rs) a k
    spoil_here w = ap (λ xs. at_with g origin xs (map (refused w.snap.number) rs) a k) (here_with test (spoiled w) done rest h before pass)

    pub write_done : (op : Operation) (bytes : List ℕ) (next : SnapHeld → SnapHeld) → answers h.snap.store op ≡ true → store_write test h op bytes next (at_with g origin (done ++ h ∷ rest) rs a k) ≡ at_with g origin (done ++ next (with_store h (written_by h.snap.store op bytes)) ∷ rest) rs a k
    write_done op bytes next ok = cond-true _ _ _ ok ∙ put_here (next (with_store h (written_by h.snap.store op bytes)))

    pub write_failed : (op : Operation) (bytes : List ℕ) (next : SnapHeld → SnapHeld) → answers h.snap.store op ≡ false → store_write test h op bytes next (at_with g origin (done ++ h ∷ rest) rs a k) ≡ at_with g origin (done ++ spoiled (with_store h (written_by h.snap.store op bytes)) ∷ rest) (map (refused h.snap.number) rs) a k
    write_failed op bytes next failed = cond-false _ _ _ failed ∙ spoil_here (with_store h (written_by h.snap.store op bytes))

    pub on_this_snap : (f : (SnapHeld → Bool) → SnapHeld → Moving → Moving) → on_snap test f (at_with g origin (done ++ h ∷ rest) rs a k) ≡ f test h (at_with g origin (done ++ h ∷ rest) rs a k)
    on_this_snap f = ap (λ o. for_some o (λ x. f test x (at_with g origin (done ++ h ∷ rest) rs a k)) (at_with g origin (done ++ h ∷ rest) rs a k)) (here_that test done rest h before pass)

  -- the mark of a spoiled snapshot is written, or its write fails
  module _ (h : SnapHeld) (before : Each (λ d. can_mark d ≡ false) done) (untried : h.untried ≡ true) (unmarked : h.marked ≡ false) where
    abbrev marks_test : SnapHeld → Bool
    marks_test d = (d.snap.number == h.snap.number) && can_mark d

    marks_fails : Each (λ d. marks_test d ≡ false) done
    marks_fails = each_weaker (λ (d : SnapHeld). can_mark d ≡ false) (λ d. marks_test d ≡ false) done (λ d e. and_no (d.snap.number == h.snap.number) (can_mark d) e) before

    marks_passes : marks_test h ≡ true
    marks_passes = same_number h.snap.number (can_mark h) ∙ rw (untried, unmarked) refl

    marks_due : due (at_with g origin (done ++ h ∷ rest) rs a k) ≡ Some (WriteInvalid h.snap.number)
    marks_due = rw (here_by can_mark number_of done rest h before (rw (untried, unmarked) refl)) refl

    pub marks_done : {starts : Moving → Moving} → answers h.snap.store (Writes 0 h.snap.chunk) ≡ true → Goes starts (at_with g origin (done ++ h ∷ rest) rs a k) (at_with g origin (done ++ (record h { snap = record h.snap { store = header_written h.snap }; marked = true }) ∷ rest) rs a k)
    marks_done ok =
        goes_by _ _ (WriteInvalid h.snap.number) marks_due tt
        (on_this_snap marks_test h marks_fails marks_passes mark_invalid ∙ cond-true _ _ _ ok ∙ put_here marks_test h marks_fails marks_passes (record h { snap = record h.snap { store = header_written h.snap }; marked = true }))

    pub marks_failed : {starts : Moving → Moving} → answers h.snap.store (Writes 0 h.snap.chunk) ≡ false → (let after : SnapHeld = record h { snap = record h.snap { store = header_written h.snap; stale = true }; untried = false } in
        Goes starts (at_with g origin (done ++ h ∷ rest) rs a k) (at_with g origin (done ++ after ∷ rest) (map (again g (done ++ after ∷ rest)) rs) a k))
    marks_failed failed =
        let after : SnapHeld = record h { snap = record h.snap { store = header_written h.snap; stale = true }; untried = false } in
        goes_by _ _ (WriteInvalid h.snap.number) marks_due tt
        (on_this_snap marks_test h marks_fails marks_passes mark_invalid ∙ cond-false _ _ _ failed ∙ ap (λ xs. at_with g origin xs (map (again g xs) rs) a k) (here_with marks_test after done rest h marks_fails marks_passes))

  -- the flush after the mark
  pub marks_flushed : {starts : Moving → Moving} → (h : SnapHeld) → Each IsLater done → Each (λ d. can_mark d ≡ false) rest → h.untried ≡ true → h.marked ≡ true →
      Goes starts (at_with g origin (done ++ h ∷ rest) rs a k) (at_with g origin (done ++ mark_flushed h ∷ rest) (map (again g (done ++ mark_flushed h ∷ rest)) rs) a k)
  marks_flushed h before later untried marked =
      let test : SnapHeld → Bool = λ d. (d.snap.number == h.snap.number) && can_flush_store d in
      let unflushed : Each (λ d. can_flush_store d ≡ false) done = each_weaker IsLater (λ d. can_flush_store d ≡ false) done later_flushes before in
      let unmarked : Each (λ d. can_mark d ≡ false) done = each_weaker IsLater (λ d. can_mark d ≡ false) done later_marks before in
      let fails : Each (λ d. test d ≡ false) done = each_weaker (λ (d : SnapHeld). can_flush_store d ≡ false) (λ d. test d ≡ false) done (λ d e. and_no (d.snap.number == h.snap.number) (can_flush_store d) e) unflushed in
      let no_mark : can_mark h ≡ false = rw (untried, marked) refl in
      let waits : can_flush_store h ≡ true = rw (untried, marked) refl in
      let pass : test h ≡ true = same_number h.snap.number (can_flush_store h) ∙ waits in
      goes_by _ _ (FlushStore h.snap.number) (rw (nowhere_by can_mark number_of done rest h unmarked no_mark later, here_by can_flush_store number_of done rest h unflushed waits) refl) tt
      (on_this_snap test h fails pass flush_store ∙ cond-true _ _ _ marked ∙ ap (λ xs. at_with g origin xs (map (again g xs) rs) a k) (here_with test (mark_flushed h) done rest h fails pass))

  -- the mark of a snapshot that is spoiled, from its write to its end
  pub marks_here : {starts : Moving → Moving} → (h : SnapHeld) → h.marked ≡ false → Each IsLater done → Each IsLater rest → Goes starts (at_with g origin (done ++ spoiled h ∷ rest) rs a k) (at_with g origin (done ++ tried_of h ∷ rest) (map (again g (done ++ tried_of h ∷ rest)) rs) a k)
  marks_here {starts} h unmarked before later =
      let no_mark : Each (λ d. can_mark d ≡ false) done = each_weaker IsLater (λ d. can_mark d ≡ false) done later_marks before in
      let u : Moving = at_with g origin (done ++ spoiled h ∷ rest) rs a k in
      let to : SnapHeld → Moving = λ (w : SnapHeld). at_with g origin (done ++ w ∷ rest) (map (again g (done ++ w ∷ rest)) rs) a k in
      elim (cases_Bool (mark_goes h)) [
        | inl ok ↦ subst (λ (w : SnapHeld). Goes starts u (to w)) (sym (tried_flushed h ok))
            (goes_on _ _ _ (marks_done (spoiled h) no_mark refl unmarked ok)
            (marks_flushed (mark_written h) before (each_weaker IsLater (λ d. can_mark d ≡ false) rest later_marks later) refl refl))
        | inr failed ↦ subst (λ (w : SnapHeld). Goes starts u (to w)) (ap (λ (b : Bool). let w : SnapHeld = record (mark_missed h) { marked = b } in w) unmarked ∙ sym (tried_missed h failed))
            (marks_failed (spoiled h) no_mark refl unmarked failed)
      ]

  -- FlushStore of a live snapshot
  module _ (h : SnapHeld) (before : Each IsLater done) (later : Each IsLater rest) (tried : h.untried ≡ false) (unmarked : h.marked ≡ false) (waits : can_flush_store h ≡ true) where
    abbrev flush_test : SnapHeld → Bool
    flush_test d = (d.snap.number == h.snap.number) && can_flush_store d

    flush_fails : Each (λ d. flush_test d ≡ false) done
    flush_fails = each_weaker IsLater (λ d. flush_test d ≡ false) done (λ d i. and_no (d.snap.number == h.snap.number) (can_flush_store d) (later_flushes d i)) before

    flush_passes : flush_test h ≡ true
    flush_passes = same_number h.snap.number (can_flush_store h) ∙ waits

    flush_due : due (at_with g origin (done ++ h ∷ rest) rs a k) ≡ Some (FlushStore h.snap.number)
    flush_due = due_flush origin done rest h rs a k before later (rw tried refl) waits

    pub flushes_done : {starts : Moving → Moving} → answers h.snap.store Flushes ≡ true → Goes starts (at_with g origin (done ++ h ∷ rest) rs a k) (at_with g origin (done ++ flushed_held (with_store h (met h.snap.store Flushes)) ∷ rest) rs a k)
    flushes_done ok =
        goes_by _ _ (FlushStore h.snap.number) flush_due tt
        (on_this_snap flush_test h flush_fails flush_passes flush_store ∙ cond-false _ _ _ unmarked ∙ cond-true _ _ _ ok ∙ put_here flush_test h flush_fails flush_passes (flushed_held (with_store h (met h.snap.store Flushes))))

    pub flushes_failed : {starts : Moving → Moving} → answers h.snap.store Flushes ≡ false → Goes starts (at_with g origin (done ++ h ∷ rest) rs a k) (at_with g origin (done ++ spoiled (with_store h (met h.snap.store Flushes)) ∷ rest) (map (refused h.snap.number) rs) a k)
    flushes_failed failed =
        goes_by _ _ (FlushStore h.snap.number) flush_due tt
        (on_this_snap flush_test h flush_fails flush_passes flush_store ∙ cond-false _ _ _ unmarked ∙ cond-false _ _ _ failed ∙ spoil_here flush_test h flush_fails flush_passes (with_store h (met h.snap.store Flushes)))

-- a copy's number and stage are its own
is_mine : (stage : Stage) (n : ℕ) (q : Pair) (bytes : List ℕ) → is_stage stage stage ≡ true → is_copy stage n (copying n q stage bytes) ≡ true
is_mine stage n q bytes same = same_number n (is_stage stage stage) ∙ same

has_mine : (stage : Stage) (n : ℕ) (q : Pair) (bytes : List ℕ) → is_stage stage stage ≡ true → list_any (is_copy stage n) (copying n q stage bytes ∷ []) ≡ true
has_mine stage n q bytes same = rw (is_mine stage n q bytes same) refl

module _ (g : Option MergeHeld) (done rest : List SnapHeld) (a : Option Reply) (k : ℕ) (s : Snap) (ps : List Pair) (nx : ℕ) (z f : Bool) (n : ℕ) (q : Pair) (before : Each (IsBefore n) done) (later : Each IsLater rest) where
  befores : Each IsLater done
  befores = each_weaker (IsBefore n) IsLater done (λ d i. i.later) before

  aboves : Each (λ d. Above n (copy_at Waiting d)) done
  aboves = each_weaker (IsBefore n) (λ d. Above n (copy_at Waiting d)) done (λ d i. i.above) before

  -- the snapshot with its copy at a stage
  abbrev pub with_stage : Stage → List ℕ → SnapHeld
  with_stage stage bytes = holding s ps nx z f (copying n q stage bytes ∷ []) []

  no_copy : (stage : Stage) → Each (λ d. list_any (is_copy stage n) d.copies ≡ false) done
  no_copy stage = each_weaker (IsBefore n) (λ d. list_any (is_copy stage n) d.copies ≡ false) done (λ d i. i.apart stage) before

  on_this_copy : (stage : Stage) (bytes : List ℕ) → is_stage stage stage ≡ true → (origin : Device) (rs : List Going) (f : (SnapHeld → Bool) → (Copying → Bool) → SnapHeld → Copying → Moving → Moving) →
      on_copy stage n f (at_with g origin (done ++ with_stage stage bytes ∷ rest) rs a k) ≡ f (λ d. list_any (is_copy stage n) d.copies) (is_copy stage n) (with_stage stage bytes) (copying n q stage bytes) (at_with g origin (done ++ with_stage stage bytes ∷ rest) rs a k)
  on_this_copy stage bytes same origin rs f =
      let v : Moving = at_with g origin (done ++ with_stage stage bytes ∷ rest) rs a k in
      let test : SnapHeld → Bool = λ d. list_any (is_copy stage n) d.copies in
      ap (λ o. for_some o (λ h. for_some (first_that (is_copy stage n) h.copies) (λ p. f test (is_copy stage n) h p v) v) v) (here_that test done rest (with_stage stage bytes) (no_copy stage) (has_mine stage n q bytes same))
      ∙ ap (λ o. for_some o (λ p. f test (is_copy stage n) (with_stage stage bytes) p v) v) (cond-true _ _ _ (is_mine stage n q bytes same))

  abbrev pub read_op : Device → Operation
  read_op origin = Reads (s.chunk * q.old) (count_of s.chunk (sectors_of origin) q.old)

  abbrev pub bytes_read : Device → List ℕ
  bytes_read origin = sectors_at origin.bytes (s.chunk * q.old) (count_of s.chunk (sectors_of origin) q.old)

  waits_later : IsLater (with_stage Waiting [])
  waits_later = record { tried = refl; marks = refl; front = refl; unflushed = refl; read = refl }

  -- CopyRead
  pub reads_done : {starts : Moving → Moving} → (origin : Device) (rs : List Going) → least (Some n) (least_in (copy_at Waiting) rest) ≡ Some n → answers origin (read_op origin) ≡ true → Goes starts (at_with g origin (done ++ with_stage Waiting [] ∷ rest) rs a k) (at_with g (met origin (read_op origin)) (done ++ with_stage Read (bytes_read origin) ∷ rest) rs a k)
  reads_done origin rs low ok =
      let test : SnapHeld → Bool = λ d. list_any (is_copy Waiting n) d.copies in
      goes_by _ _ (CopyRead n) (due_read origin done rest (with_stage Waiting []) rs a k befores later n aboves waits_later refl low) tt
      (on_this_copy Waiting [] refl origin rs read_copy ∙ cond-true _ _ _ ok
      ∙ ap (λ cs. put test (holding s ps nx z f cs []) (at_with g (met origin (read_op origin)) (done ++ with_stage Waiting [] ∷ rest) rs a k)) (cond-true _ _ _ (is_mine Waiting n q [] refl))
      ∙ put_here g (met origin (read_op origin)) done rest rs a k test (with_stage Waiting []) (no_copy Waiting) (has_mine Waiting n q [] refl) (with_stage Read (bytes_read origin)))

  pub reads_failed : {starts : Moving → Moving} → (origin : Device) (rs : List Going) → least (Some n) (least_in (copy_at Waiting) rest) ≡ Some n → answers origin (read_op origin) ≡ false → Goes starts (at_with g origin (done ++ with_stage Waiting [] ∷ rest) rs a k) (at_with g (met origin (read_op origin)) (done ++ spoiled (with_stage Waiting []) ∷ rest) (map (refused s.number) rs) a k)
  reads_failed origin rs low failed =
      let test : SnapHeld → Bool = λ d. list_any (is_copy Waiting n) d.copies in
      goes_by _ _ (CopyRead n) (due_read origin done rest (with_stage Waiting []) rs a k befores later n aboves waits_later refl low) tt
      (on_this_copy Waiting [] refl origin rs read_copy ∙ cond-false _ _ _ failed
      ∙ spoil_here g (met origin (read_op origin)) done rest rs a k test (with_stage Waiting []) (no_copy Waiting) (has_mine Waiting n q [] refl) (with_stage Waiting []))

  -- CopyWrite
  abbrev pub write_op : Device → Operation
  write_op origin = Writes (s.chunk * q.new) (count_of s.chunk (sectors_of origin) q.old)

  abbrev pub store_after : Operation → List ℕ → Snap
  store_after op bytes = record s { store = written_by s.store op bytes }

  pub writes_done : {starts : Moving → Moving} → (origin : Device) (rs : List Going) (bytes : List ℕ) → answers s.store (write_op origin) ≡ true →
      Goes starts (at_with g origin (done ++ with_stage Read bytes ∷ rest) rs a k) (at_with g origin (done ++ holding (store_after (write_op origin) (with_sectors s.store.bytes (s.chunk * q.new) bytes)) ps nx z f (copying n q Written bytes ∷ []) [] ∷ rest) rs a k)
  writes_done origin rs bytes ok =
      let test : SnapHeld → Bool = λ d. list_any (is_copy Read n) d.copies in
      let now : Snap = store_after (write_op origin) (with_sectors s.store.bytes (s.chunk * q.new) bytes) in
      goes_by _ _ (CopyWrite n) (due_write origin done rest (with_stage Read bytes) rs a k befores later n refl refl refl refl refl) tt
      (on_this_copy Read bytes refl origin rs write_copy
      ∙ write_done g origin done rest rs a k test (with_stage Read bytes) (no_copy Read) (has_mine Read n q bytes refl) (write_op origin) (with_sectors s.store.bytes (s.chunk * q.new) bytes)
      (λ after. record after { copies = with_first (is_copy Read n) (copying n q Written bytes) after.copies }) ok
      ∙ ap (λ cs. at_with g origin (done ++ holding now ps nx z f cs [] ∷ rest) rs a k) (cond-true _ _ _ (is_mine Read n q bytes refl)))

  pub writes_failed : {starts : Moving → Moving} → (origin : Device) (rs : List Going) (bytes : List ℕ) → answers s.store (write_op origin) ≡ false →
      Goes starts (at_with g origin (done ++ with_stage Read bytes ∷ rest) rs a k) (at_with g origin (done ++ spoiled (with_store (with_stage Read bytes) (written_by s.store (write_op origin) (with_sectors s.store.bytes (s.chunk * q.new) bytes))) ∷ rest) (map (refused s.number) rs) a k)
  writes_failed origin rs bytes failed =
      let test : SnapHeld → Bool = λ d. list_any (is_copy Read n) d.copies in
      goes_by _ _ (CopyWrite n) (due_write origin done rest (with_stage Read bytes) rs a k befores later n refl refl refl refl refl) tt
      (on_this_copy Read bytes refl origin rs write_copy
      ∙ write_failed g origin done rest rs a k test (with_stage Read bytes) (no_copy Read) (has_mine Read n q bytes refl) (write_op origin) (with_sectors s.store.bytes (s.chunk * q.new) bytes)
      (λ after. record after { copies = with_first (is_copy Read n) (copying n q Written bytes) after.copies }) failed)

  -- whether the pair fills its area
  abbrev pub fills : Bool
  fills = (length ps + 1) % (32 * s.chunk) == 0

  no_commit : Each (λ d. can_commit d ≡ false) done
  no_commit = each_weaker IsLater (λ d. can_commit d ≡ false) done later_commits befores

  no_zero : Each (λ d. can_zero d ≡ false) done
  no_zero = each_weaker IsLater (λ d. can_zero d ≡ false) done later_zeroes befores

  and_left : (x y : Bool) → y ≡ false → (x && y) ≡ false
  and_left true y e = e
  and_left false y e = refl

  abbrev pub area_next : ℕ
  area_next = (length ps + 1) / (32 * s.chunk)

  abbrev pub zero_op : Operation
  zero_op = Writes (s.chunk * area_place s.chunk area_next) s.chunk

  -- ZeroNext
  module _ (origin : Device) (rs : List Going) (bytes : List ℕ) (some : 0 < s.chunk) (full : fills ≡ true) (not_yet : z ≡ false) (not_firm : f ≡ false) where
    needs_now : needs_area (with_stage Flushed bytes) ≡ true
    needs_now = rw (one_fills (length ps) (32 * s.chunk) (omega (arith, some)), full, not_yet) refl

    zero_here : can_zero (with_stage Flushed bytes) ≡ true
    zero_here = needs_now

    waits_now : waits_for_area (with_stage Flushed bytes) ≡ true
    waits_now = rw (one_fills (length ps) (32 * s.chunk) (omega (arith, some)), full, not_firm) refl

    no_flush : can_flush_store (with_stage Flushed bytes) ≡ false
    no_flush = rw (waits_now, needs_now) refl

    zeros_due : due (at_with g origin (done ++ with_stage Flushed bytes ∷ rest) rs a k) ≡ Some (ZeroNext s.number)
    zeros_due = due_zeros origin done rest (with_stage Flushed bytes) rs a k befores later refl no_flush refl (ap not waits_now) zero_here

    zero_fails : Each (λ d. ((d.snap.number == s.number) && can_zero d) ≡ false) done
    zero_fails = each_weaker (λ (d : SnapHeld). can_zero d ≡ false) (λ d. ((d.snap.number == s.number) && can_zero d) ≡ false) done (λ d e. and_left (d.snap.number == s.number) (can_zero d) e) no_zero

    zero_passes : ((s.number == s.number) && can_zero (with_stage Flushed bytes)) ≡ true
    zero_passes = same_number s.number _ ∙ zero_here

    -- with area a as the next one
    abbrev zeroing : ℕ → Moving
    zeroing x =
        let v : Moving = at_with g origin (done ++ with_stage Flushed bytes ∷ rest) rs a k in
        let test : SnapHeld → Bool = λ d. (d.snap.number == s.number) && can_zero d in
        if lacks_area x s then spoil test (with_stage Flushed bytes) v
        else store_write test (with_stage Flushed bytes) (Writes (s.chunk * area_place s.chunk x) s.chunk) (zeroed s.chunk s.store.bytes x) (λ after. record after { zeroed = true; firm = false }) v

    zeroes : on_snap (λ d. (d.snap.number == s.number) && can_zero d) zero_next (at_with g origin (done ++ with_stage Flushed bytes ∷ rest) rs a k) ≡ zeroing area_next
    zeroes = on_this_snap g origin done rest rs a k (λ d. (d.snap.number == s.number) && can_zero d) (with_stage Flushed bytes) zero_fails zero_passes zero_next
        ∙ ap zeroing (next_area (length ps) (32 * s.chunk) (omega (arith, some)) full)

    pub zeros_lacking : {starts : Moving → Moving} → lacks_area area_next s ≡ true → Goes starts (at_with g origin (done ++ with_stage Flushed bytes ∷ rest) rs a k) (at_with g origin (done ++ spoiled (with_stage Flushed bytes) ∷ rest) (map (refused s.number) rs) a k)
    zeros_lacking lacks =
        goes_by _ _ (ZeroNext s.number) zeros_due tt
        (zeroes
        ∙ cond-true _ _ _ lacks ∙ spoil_here g origin done rest rs a k (λ d. (d.snap.number == s.number) && can_zero d) (with_stage Flushed bytes) zero_fails zero_passes (with_stage Flushed bytes))

    pub zeros_done : {starts : Moving → Moving} → lacks_area area_next s ≡ false → answers s.store zero_op ≡ true → Goes starts (at_with g origin (done ++ with_stage Flushed bytes ∷ rest) rs a k) (at_with g origin (done ++ holding (store_after zero_op (zeroed s.chunk s.store.bytes area_next)) ps nx true false (copying n q Flushed bytes ∷ []) [] ∷ rest) rs a k)
    zeros_done room ok =
        goes_by _ _ (ZeroNext s.number) zeros_due tt
        (zeroes
        ∙ cond-false _ _ _ room
        ∙ write_done g origin done rest rs a k (λ d. (d.snap.number == s.number) && can_zero d) (with_stage Flushed bytes) zero_fails zero_passes zero_op (zeroed s.chunk s.store.bytes area_next) (λ after. record after { zeroed = true; firm = false }) ok)

    pub zeros_failed : {starts : Moving → Moving} → lacks_area area_next s ≡ false → answers s.store zero_op ≡ false → Goes starts (at_with g origin (done ++ with_stage Flushed bytes ∷ rest) rs a k) (at_with g origin (done ++ spoiled (with_store (with_stage Flushed bytes) (written_by s.store zero_op (zeroed s.chunk s.store.bytes area_next))) ∷ rest) (map (refused s.number) rs) a k)
    zeros_failed room failed =
        goes_by _ _ (ZeroNext s.number) zeros_due tt
        (zeroes
        ∙ cond-false _ _ _ room
        ∙ write_failed g origin done rest rs a k (λ d. (d.snap.number == s.number) && can_zero d) (with_stage Flushed bytes) zero_fails zero_passes zero_op (zeroed s.chunk s.store.bytes area_next) (λ after. record after { zeroed = true; firm = false }) failed)

  -- WriteArea
  abbrev pub area_op : Operation
  area_op = Writes (s.chunk * area_place s.chunk (length ps / (32 * s.chunk))) s.chunk

  abbrev pub mark_here : Mark
  mark_here = record { number = n; chunk = q.old; safe = false }

  module _ (origin : Device) (rs : List Going) (bytes : List ℕ) (some : 0 < s.chunk) (ready : (fills && not f) ≡ false) where
    waits_none : waits_for_area (with_stage Flushed bytes) ≡ false
    waits_none = ap (λ b. b && not f) (one_fills (length ps) (32 * s.chunk) (omega (arith, some))) ∙ ready

    commits_here : can_commit (with_stage Flushed bytes) ≡ true
    commits_here = ap not waits_none

    area_flushed : can_flush_store (with_stage Flushed bytes) ≡ false
    area_flushed = rw waits_none refl

    area_due : due (at_with g origin (done ++ with_stage Flushed bytes ∷ rest) rs a k) ≡ Some (WriteArea s.number)
    area_due = due_area origin done rest (with_stage Flushed bytes) rs a k befores later refl area_flushed refl commits_here

    area_fails : Each (λ d. ((d.snap.number == s.number) && can_commit d) ≡ false) done
    area_fails = each_weaker (λ (d : SnapHeld). can_commit d ≡ false) (λ d. ((d.snap.number == s.number) && can_commit d) ≡ false) done (λ d e. and_left (d.snap.number == s.number) (can_commit d) e) no_commit

    area_passes : ((s.number == s.number) && can_commit (with_stage Flushed bytes)) ≡ true
    area_passes = same_number s.number _ ∙ commits_here

    -- the copy with its pair in a slot that is the last of its area, or is not
    abbrev committed_by : Bool → SnapHeld → SnapHeld
    committed_by last after = record after { pairs = after.pairs ++ q ∷ []; copies = drop 1 after.copies; marks = after.marks ++ mark_here ∷ []; zeroed = after.zeroed && not last; firm = after.firm && not last }

    one_paired : all_paired s.chunk s.store.bytes (length ps) (q ∷ []) ≡ paired s.chunk s.store.bytes (length ps) q
    one_paired = ap (with_part s.store.bytes (512 * (s.chunk * area_place s.chunk (length ps / (32 * s.chunk))) + 16 * (length ps % (32 * s.chunk)))) (append-nil (pair_bytes q))

    commits : on_snap (λ d. (d.snap.number == s.number) && can_commit d) (λ test h. commit (batch_of h) test h) (at_with g origin (done ++ with_stage Flushed bytes ∷ rest) rs a k)
        ≡ store_write (λ d. (d.snap.number == s.number) && can_commit d) (with_stage Flushed bytes) area_op (paired s.chunk s.store.bytes (length ps) q) (committed_by fills) (at_with g origin (done ++ with_stage Flushed bytes ∷ rest) rs a k)
    commits =
        let v : Moving = at_with g origin (done ++ with_stage Flushed bytes ∷ rest) rs a k in
        let test : SnapHeld → Bool = λ d. (d.snap.number == s.number) && can_commit d in
        on_this_snap g origin done rest rs a k test (with_stage Flushed bytes) area_fails area_passes (λ t h. commit (batch_of h) t h)
        ∙ ap (λ c. commit c test (with_stage Flushed bytes) v) (one_batch (length ps) (32 * s.chunk) (omega (arith, some)))
        ∙ ap (λ b. store_write test (with_stage Flushed bytes) area_op b (committed_by (length ps % (32 * s.chunk) + 1 == 32 * s.chunk)) v) one_paired
        ∙ ap (λ b. store_write test (with_stage Flushed bytes) area_op (paired s.chunk s.store.bytes (length ps) q) (committed_by b) v) (one_last (length ps) (32 * s.chunk) (omega (arith, some)))

    abbrev pub committed_here : SnapHeld
    committed_here = holding (store_after area_op (paired s.chunk s.store.bytes (length ps) q)) (ps ++ q ∷ []) nx (z && not fills) (f && not fills) [] (mark_here ∷ [])

    pub area_done : {starts : Moving → Moving} → answers s.store area_op ≡ true → Goes starts (at_with g origin (done ++ with_stage Flushed bytes ∷ rest) rs a k) (at_with g origin (done ++ committed_here ∷ rest) rs a k)
    area_done ok =
        goes_by _ _ (WriteArea s.number) area_due tt
        (commits
        ∙ write_done g origin done rest rs a k (λ d. (d.snap.number == s.number) && can_commit d) (with_stage Flushed bytes) area_fails area_passes area_op (paired s.chunk s.store.bytes (length ps) q)
        (committed_by fills) ok)

    pub area_failed : {starts : Moving → Moving} → answers s.store area_op ≡ false → Goes starts (at_with g origin (done ++ with_stage Flushed bytes ∷ rest) rs a k) (at_with g origin (done ++ spoiled (with_store (with_stage Flushed bytes) (written_by s.store area_op (paired s.chunk s.store.bytes (length ps) q))) ∷ rest) (map (refused s.number) rs) a k)
    area_failed failed =
        goes_by _ _ (WriteArea s.number) area_due tt
        (commits
        ∙ write_failed g origin done rest rs a k (λ d. (d.snap.number == s.number) && can_commit d) (with_stage Flushed bytes) area_fails area_passes area_op (paired s.chunk s.store.bytes (length ps) q)
        (committed_by fills) failed)

  -- Publish, and what it starts besides
  abbrev pub safe_here : Mark
  safe_here = record { number = n; chunk = q.old; safe = true }

  abbrev pub idle_here : SnapHeld
  idle_here = holding s ps nx z f [] []

  pub publishes : {starts : Moving → Moving} → (origin : Device) (rs : List Going) → ((h : SnapHeld) (c : ℕ) → list_any (is_reading h c) rs ≡ false) →
      Goes starts (at_with g origin (done ++ holding s ps nx z f [] (safe_here ∷ []) ∷ rest) rs a k) (starts (at_with g origin (done ++ idle_here ∷ rest) (map (again g (done ++ idle_here ∷ rest)) (map (placed idle_here) rs)) a k))
  publishes {starts} origin rs unread =
      let h : SnapHeld = holding s ps nx z f [] (safe_here ∷ []) in
      let free : is_publishable rs h safe_here ≡ true = rw (unread h q.old) refl in
      let test : SnapHeld → Bool = λ d. list_any (λ m. (m.number == n) && is_publishable rs d m) d.marks in
      let fails : Each (λ d. test d ≡ false) done = each_weaker IsLater (λ d. test d ≡ false) done (λ d i. rw i.marks refl) befores in
      let pass : test h ≡ true = rw (same_number n (is_publishable rs h safe_here), free) refl in
      goes_by _ _ (Publish n) (due_publish origin done rest h rs a k befores later n refl refl (cond-true _ _ _ free)) (h, here_that test done rest h fails pass)
      (ap starts (on_this_snap g origin done rest rs a k test h fails pass (λ t g. publish t (λ m. m.number == n) g)
      ∙ ap (λ ms. rerouted (at_with g origin (with_first test (holding s ps nx z f [] ms) (done ++ h ∷ rest)) (map (placed (holding s ps nx z f [] ms)) rs) a k)) (cond-true _ _ _ (eq-eqb n n refl))
      ∙ ap (λ xs. at_with g origin xs (map (again g xs) (map (placed idle_here) rs)) a k) (here_with test idle_here done rest h fails pass)))
