-- Each event of a merge, where the snapshots are idle and no request is in flight: it is due, and what it does.
use Rattle.std.proofs.Common.{◌≡◌, inl, inr, ℕ, ◌+◌, ◌-◌, ◌*◌, ◌<◌, Bool, true, false, List, [], ◌∷◌, ◌++◌, length, take, Option, Some, None, arith, refl, ap, ◌∙◌}
use Rattle.std.specs.Prelude.{◌==◌, ◌&&◌, not, nat_lt}
use Rattle.std.proofs.lemmas.Bool.{cases_eq, lt-ltb, ne_eqb, cond-true, cond-false}
use Rattle.sector.specs.Bytes.{sectors_at, with_sectors}
use Rattle.sector.specs.declared.pair.Pair.{Pair}
use Rattle.device.specs.declared.operation.Operation.{Operation}
use Rattle.device.specs.declared.operation.Operation.TheVariants.{Reads, Writes, Flushes}
use Rattle.plain_machine.specs.declared.event.Event.TheVariants.{MergeGroup, MergeAreaRead, MergeRead, MergeWrite, MergeFlush, MergeCommit, MergeRelease}
use Rattle.plain_machine.specs.declared.request.Reply.{Reply}
use Rattle.cow_format.specs.Places.{area_place}
use Rattle.in_flight.specs.Copies.{count_of}
use Rattle.volume_laws.specs.MergeDue.{is_none, last_of, one_of}
use Rattle.whole_commands.specs.Devices.{Device, sectors_of, answers, met, written_by}
use Rattle.whole_commands.specs.Merges.{Merge, last_run, without_slots}
use Rattle.event_machine.specs.Held.{SnapHeld, MergeHeld, Moving}
use Rattle.event_machine.specs.Again.{is_clear_over}
use Rattle.event_machine.specs.MergeDue.{in_area, is_free, can_group, can_read_area, can_read, is_readable, can_write, is_copied, can_flush, can_commit_group}
use Rattle.event_machine.specs.MergeStepping.{start_next, without_last, read_chunk}
use Rattle.event_machine.proofs.Around.{at_with, IsIdle}
use Rattle.event_machine.proofs.Clears.{and_last}
use Rattle.whole_commands.proofs.Each.{Each}
use Rattle.whole_command_laws.proofs.GoesAll.{GoesAll, all_on, all_step, merge_first}

-- a merge with these pairs and this group
abbrev pub grouped : Merge → List Pair → List Pair → List Pair → List ℕ → List Pair → List Pair → Bool → MergeHeld
grouped g ps waiting reading buffer copied released flushed =
    record { merge = g; pairs = ps; waiting = waiting; reading = reading; buffer = buffer; copied = copied; released = released; flushed = flushed }

-- one with no group
abbrev pub ungrouped : Merge → List Pair → MergeHeld
ungrouped g ps = grouped g ps [] [] [] [] [] false

abbrev pub failing : Merge → Merge
failing g = record g { failed = true }

abbrev pub on_store : Merge → Device → Merge
on_store g store = record g { store = store }

-- the last of a list, and all before it
pub last_is : (xs : List Pair) (q : Pair) → last_of (xs ++ q ∷ []) ≡ Some q
last_is [] q = refl
last_is (x ∷ []) q = refl
last_is (x ∷ y ∷ xs) q = last_is (y ∷ xs) q

some_there : (xs : List Pair) (q : Pair) → is_none (xs ++ q ∷ []) ≡ false
some_there [] q = refl
some_there (x ∷ xs) q = refl

before_last : (xs : List Pair) (q : Pair) → without_last (xs ++ q ∷ []) ≡ xs
before_last [] q = refl
before_last (x ∷ []) q = refl
before_last (x ∷ y ∷ xs) q = ap (λ ps. x ∷ ps) (before_last (y ∷ xs) q)

none_eq : (n : ℕ) → 0 < n → (n == 0) ≡ false
none_eq n some = elim (cases_eq n 0) [ inl zero_is ↦ absurd (omega arith) | inr ne ↦ ne_eqb _ _ ne ]

module _ (origin : Device) (snaps : List SnapHeld) (a : Option Reply) (k : ℕ) (idle : Each IsIdle snaps) where
  abbrev pub with_group : MergeHeld → Moving
  with_group h = at_with (Some h) origin snaps [] a k

  -- MergeGroup
  pub groups : (g : Merge) (ps : List Pair) → g.failed ≡ false → 0 < length (in_area (ungrouped g ps)) →
      (let group : List Pair = last_run (in_area (ungrouped g ps)) in GoesAll (with_group (ungrouped g ps)) (start_next g.chunk (last_of group) (with_group (grouped g ps group [] [] [] [] false))))
  groups g ps fine some =
      let h : MergeHeld = ungrouped g ps in
      let area : ℕ = length (in_area h) in
      let no : can_read_area h ≡ false = and_last (is_free h) ((area == 0) && nat_lt 0 g.current) (ap (λ b. b && nat_lt 0 g.current) (none_eq area some)) in
      let yes : can_group h ≡ true = ap (λ b. (not b && true) && nat_lt 0 area) fine ∙ lt-ltb _ _ some in
      all_step _ _ MergeGroup (merge_first origin snaps a k h (Some MergeGroup) idle (ap (λ b. one_of b MergeAreaRead (one_of (can_group h) MergeGroup None)) no ∙ ap (λ b. one_of b MergeGroup None) yes)) (cond-true _ _ _ yes)

  -- MergeAreaRead
  module _ (g : Merge) (ps : List Pair) (fine : g.failed ≡ false) (none : length (in_area (ungrouped g ps)) ≡ 0) (more : 0 < g.current) where
    abbrev pub area_op : Operation
    area_op = Reads (g.chunk * area_place g.chunk (g.current - 1)) g.chunk

    reads_area : can_read_area (ungrouped g ps) ≡ true
    reads_area = ap (λ b. (not b && true) && ((length (in_area (ungrouped g ps)) == 0) && nat_lt 0 g.current)) fine ∙ ap (λ n. (n == 0) && nat_lt 0 g.current) none ∙ lt-ltb _ _ more

    pub area_read : answers g.store area_op ≡ true → GoesAll (with_group (ungrouped g ps)) (with_group (ungrouped (record (on_store g (met g.store area_op)) { current = g.current - 1 }) ps))
    area_read ok =
        all_step _ _ MergeAreaRead (merge_first origin snaps a k (ungrouped g ps) (Some MergeAreaRead) idle (ap (λ b. one_of b MergeAreaRead (one_of (can_group (ungrouped g ps)) MergeGroup None)) reads_area))
        (cond-true _ _ _ reads_area ∙ cond-true _ _ _ ok)

    pub area_lost : answers g.store area_op ≡ false → GoesAll (with_group (ungrouped g ps)) (with_group (ungrouped (failing (on_store g (met g.store area_op))) ps))
    area_lost lost =
        all_step _ _ MergeAreaRead (merge_first origin snaps a k (ungrouped g ps) (Some MergeAreaRead) idle (ap (λ b. one_of b MergeAreaRead (one_of (can_group (ungrouped g ps)) MergeGroup None)) reads_area))
        (cond-true _ _ _ reads_area ∙ cond-false _ _ _ lost)

  -- MergeRead
  module _ (g : Merge) (ps xs cs : List Pair) (q : Pair) where
    abbrev pub waiting : MergeHeld
    waiting = grouped g ps (xs ++ q ∷ []) [] [] cs [] false

    abbrev pub count_in : ℕ
    count_in = count_of g.chunk (sectors_of origin) q.old

    abbrev pub read_op : Operation
    read_op = Reads (g.chunk * q.new) count_in

    reads_chunk : can_read [] waiting ≡ true
    reads_chunk = ap (is_readable []) (last_is xs q)

    read_due : one_of (can_commit_group waiting) MergeCommit (one_of (can_flush waiting) MergeFlush (one_of (can_write (sectors_of origin) snaps waiting) MergeWrite (one_of (can_read [] waiting) MergeRead (one_of (can_read_area waiting) MergeAreaRead (one_of (can_group waiting) MergeGroup None))))) ≡ Some MergeRead
    read_due =
        let not_copied : is_copied waiting ≡ false = ap (λ b. b && not (is_none cs)) (some_there xs q) in
        ap (λ b. one_of b MergeCommit (one_of (can_flush waiting) MergeFlush (one_of (can_read [] waiting) MergeRead (one_of (can_read_area waiting) MergeAreaRead (one_of (can_group waiting) MergeGroup None))))) (and_last (is_copied waiting) false refl)
        ∙ ap (λ b. one_of (b && true) MergeFlush (one_of (can_read [] waiting) MergeRead (one_of (can_read_area waiting) MergeAreaRead (one_of (can_group waiting) MergeGroup None)))) not_copied
        ∙ ap (λ b. one_of b MergeRead (one_of (can_read_area waiting) MergeAreaRead (one_of (can_group waiting) MergeGroup None))) reads_chunk

    pub chunk_read : answers g.store read_op ≡ true → GoesAll (with_group waiting) (with_group (grouped (on_store g (met g.store read_op)) ps xs (q ∷ []) (sectors_at g.store.bytes (g.chunk * q.new) count_in) cs [] false))
    chunk_read ok =
        all_step _ _ MergeRead (merge_first origin snaps a k waiting (Some MergeRead) idle read_due)
        (cond-true _ _ _ reads_chunk ∙ ap (λ o. read_chunk o waiting (with_group waiting)) (last_is xs q) ∙ cond-true _ _ _ ok
        ∙ ap (λ ws. with_group (grouped (on_store g (met g.store read_op)) ps ws (q ∷ []) (sectors_at g.store.bytes (g.chunk * q.new) count_in) cs [] false)) (before_last xs q))

    pub chunk_lost : answers g.store read_op ≡ false → GoesAll (with_group waiting) (with_group (ungrouped (failing (on_store g (met g.store read_op))) ps))
    chunk_lost lost =
        all_step _ _ MergeRead (merge_first origin snaps a k waiting (Some MergeRead) idle read_due)
        (cond-true _ _ _ reads_chunk ∙ ap (λ o. read_chunk o waiting (with_group waiting)) (last_is xs q) ∙ cond-false _ _ _ lost)

  -- MergeWrite
  module _ (g : Merge) (ps xs cs : List Pair) (q : Pair) (buffer : List ℕ) (clear : is_clear_over snaps (g.chunk * q.old) (count_of g.chunk (sectors_of origin) q.old) ≡ true) where
    abbrev pub reading : MergeHeld
    reading = grouped g ps xs (q ∷ []) buffer cs [] false

    abbrev pub write_op : Operation
    write_op = Writes (g.chunk * q.old) (count_of g.chunk (sectors_of origin) q.old)

    abbrev pub disk_after : Device
    disk_after = written_by origin write_op (with_sectors origin.bytes (g.chunk * q.old) buffer)

    write_due : one_of (can_commit_group reading) MergeCommit (one_of (can_flush reading) MergeFlush (one_of (can_write (sectors_of origin) snaps reading) MergeWrite (one_of (can_read [] reading) MergeRead (one_of (can_read_area reading) MergeAreaRead (one_of (can_group reading) MergeGroup None))))) ≡ Some MergeWrite
    write_due =
        ap (λ b. one_of b MergeCommit (one_of (can_flush reading) MergeFlush (one_of (can_write (sectors_of origin) snaps reading) MergeWrite (one_of (can_read_area reading) MergeAreaRead (one_of (can_group reading) MergeGroup None))))) (and_last (is_copied reading) false refl)
        ∙ ap (λ b. one_of (b && true) MergeFlush (one_of (can_write (sectors_of origin) snaps reading) MergeWrite (one_of (can_read_area reading) MergeAreaRead (one_of (can_group reading) MergeGroup None)))) (and_last (is_none xs) false refl)
        ∙ ap (λ b. one_of b MergeWrite (one_of (can_read_area reading) MergeAreaRead (one_of (can_group reading) MergeGroup None))) clear

    pub chunk_written : answers origin write_op ≡ true → GoesAll (with_group reading) (start_next g.chunk (last_of xs) (at_with (Some (grouped g ps xs [] [] (q ∷ cs) [] false)) disk_after snaps [] a k))
    chunk_written ok = all_step _ _ MergeWrite (merge_first origin snaps a k reading (Some MergeWrite) idle write_due) (cond-true _ _ _ clear ∙ cond-true _ _ _ ok)

    pub chunk_unwritten : answers origin write_op ≡ false → GoesAll (with_group reading) (at_with (Some (ungrouped (failing g) ps)) disk_after snaps [] a k)
    chunk_unwritten lost = all_step _ _ MergeWrite (merge_first origin snaps a k reading (Some MergeWrite) idle write_due) (cond-true _ _ _ clear ∙ cond-false _ _ _ lost)

  -- MergeFlush, MergeCommit, MergeRelease
  module _ (g : Merge) (ps cs : List Pair) (c : Pair) where
    pub flushed : answers origin Flushes ≡ true → GoesAll (with_group (grouped g ps [] [] [] (c ∷ cs) [] false)) (at_with (Some (grouped g ps [] [] [] (c ∷ cs) [] true)) (met origin Flushes) snaps [] a k)
    flushed ok = all_step _ _ MergeFlush (merge_first origin snaps a k (grouped g ps [] [] [] (c ∷ cs) [] false) (Some MergeFlush) idle refl) (cond-true _ _ _ ok)

    pub unflushed : answers origin Flushes ≡ false → GoesAll (with_group (grouped g ps [] [] [] (c ∷ cs) [] false)) (at_with (Some (ungrouped (failing g) ps)) (met origin Flushes) snaps [] a k)
    unflushed lost = all_step _ _ MergeFlush (merge_first origin snaps a k (grouped g ps [] [] [] (c ∷ cs) [] false) (Some MergeFlush) idle refl) (cond-false _ _ _ lost)

    abbrev pub slots_kept : ℕ
    slots_kept = length (in_area (ungrouped g ps)) - length (c ∷ cs)

    abbrev pub commit_op : Operation
    commit_op = Writes (g.chunk * area_place g.chunk g.current) g.chunk

    abbrev pub store_after : Device
    store_after = written_by g.store commit_op (without_slots g.chunk g.store.bytes g.current slots_kept (length (c ∷ cs)))

    abbrev pub pairs_kept : List Pair
    pairs_kept = take (length ps - length (c ∷ cs)) ps

    pub committed : answers g.store commit_op ≡ true → GoesAll (with_group (grouped g ps [] [] [] (c ∷ cs) [] true)) (with_group (ungrouped (record (on_store g store_after) { next = area_place g.chunk g.current + slots_kept + 1 }) pairs_kept))
    committed ok =
        let after : Merge = record (on_store g store_after) { next = area_place g.chunk g.current + slots_kept + 1 } in
        all_on _ (with_group (grouped after pairs_kept [] [] [] [] (c ∷ cs) true)) _
        (all_step _ _ MergeCommit (merge_first origin snaps a k (grouped g ps [] [] [] (c ∷ cs) [] true) (Some MergeCommit) idle refl) (cond-true _ _ _ ok))
        (all_step _ _ MergeRelease (merge_first origin snaps a k (grouped after pairs_kept [] [] [] [] (c ∷ cs) true) (Some MergeRelease) idle refl) refl)

    pub uncommitted : answers g.store commit_op ≡ false → GoesAll (with_group (grouped g ps [] [] [] (c ∷ cs) [] true)) (with_group (ungrouped (failing (on_store g store_after)) ps))
    uncommitted lost = all_step _ _ MergeCommit (merge_first origin snaps a k (grouped g ps [] [] [] (c ∷ cs) [] true) (Some MergeCommit) idle refl) (cond-false _ _ _ lost)
