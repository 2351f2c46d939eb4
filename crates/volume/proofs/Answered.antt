-- An event whose device answers it: it spoils no snapshot, makes no store stale, stops no merge, and is not answered by Io.
use Rattle.std.proofs.Common.{◌≡◌, ℕ, zero, suc, ◌+◌, ◌-◌, ◌*◌, ◌%◌, ◌++◌, Bool, true, false, List, [], ◌∷◌, Option, Some, None, length, get_or, map, refl, sym, ◌∙◌, ap}
use Rattle.std.specs.Prelude.{◌==◌, ◌&&◌, not, take, drop, if◌then◌else◌}
use Rattle.std.specs.List.{list_any}
use Rattle.std.proofs.lemmas.Bool.{false≢true}
use Rattle.sector.specs.declared.pair.Pair.{Pair}
use Rattle.device.specs.declared.operation.Operation.{Operation}
use Rattle.device.specs.declared.operation.Operation.TheVariants.{Reads, Writes, Flushes}
use Rattle.plain_machine.specs.declared.event.Event.TheVariants.{Issue, CopyRead, CopyWrite, ZeroNext, WriteArea, WriteInvalid, FlushStore, MergeAreaRead, MergeRead, MergeWrite, MergeFlush, MergeCommit}
use Rattle.plain_machine.specs.declared.request.Dev.{Dev}
use Rattle.plain_machine.specs.declared.request.Dev.TheVariants.{Origin as ToOrigin, Snap as ToSnap}
use Rattle.plain_machine.specs.declared.request.Op.{Op}
use Rattle.plain_machine.specs.declared.request.Op.TheVariants.{Read as ReadOp, Write as WriteOp, Flush as FlushOp}
use Rattle.plain_machine.specs.declared.request.Reply.{Reply}
use Rattle.plain_machine.specs.declared.request.Reply.TheVariants.{Data, Flushed, Written as DoneReply, Refused as Declined}
use Rattle.plain_machine.specs.declared.request.Failure.TheVariants.{Io}
use Rattle.in_flight.specs.declared.copies.Stage.{Stage}
use Rattle.in_flight.specs.declared.copies.Stage.TheVariants.{Waiting, Read, Written}
use Rattle.in_flight.specs.declared.flights.Route.{Route}
use Rattle.in_flight.specs.declared.flights.Route.TheVariants.{Held as Waits, Origin, Store, Whole, Refused}
use Rattle.volume_laws.specs.MergeDue.{last_of}
use Rattle.sector.specs.Bytes.{sectors_at, with_sectors}
use Rattle.whole_commands.specs.Saves.{marked, zeroed}
use Rattle.whole_commands.specs.Devices.{Device, answers, met, written_by, sectors_of, read_reply, flush_reply}
use Rattle.whole_commands.specs.Merges.{without_slots}
use Rattle.whole_commands.specs.Saving.{lacks_area}
use Rattle.cow_format.specs.Places.{area_place}
use Rattle.event_machine.specs.Held.{Copying, SnapHeld, Going, MergeHeld, Moving, with_store, with_merge, on_device, flushed_held}
use Rattle.event_machine.specs.Again.{rerouted}
use Rattle.event_machine.specs.Due.{can_mark, can_flush_store, can_commit, can_zero, is_issuable, batch_of, filled_of}
use Rattle.event_machine.specs.MergeDue.{in_area, can_read_area, can_read, can_write, can_flush, can_commit_group}
use Rattle.event_machine.specs.Stepping.{for_some, first_that, with_first, put, spoil, store_write, on_snap, on_copy, is_copy, read_copy, write_copy, commit, all_paired, pair_of, mark_of, mark_invalid, zero_next, flush_store, issue, answer, write_reply, flush_asked, flush_merging, on_disk, on_store, on_merging, on_place, on_whole, stepped}
use Rattle.event_machine.specs.MergeStepping.{sectors_in, without_last, stop, start_next, read_chunk, write_chunk, flush_origin, commit_group, read_area, on_merge, stepped_all}
use Rattle.volume.specs.Answered.{if_some, store_answers, area_of, area_write, copy_answers, copied_sectors, operation_of, route_answers, place_answers, flush_answers, chunk_answers, answers_event}
use Rattle.volume.specs.Calm.{is_io}
use Rattle.volume.proofs.MovedLists.{if_true, if_false}

-- which snapshots are live, and which stores are stale
abbrev pub lives_in : Moving → List Bool
lives_in v = map (λ h. h.snap.live) v.snaps

abbrev pub stale_in : Moving → List Bool
stale_in v = map (λ h. h.snap.stale) v.snaps

-- whether a merge stopped
abbrev pub failed_in : Option MergeHeld → Bool
failed_in None = false
failed_in (Some m) = m.merge.failed

-- whether a reply was given, and is Io
abbrev pub replies_io : Option Reply → Bool
replies_io None = false
replies_io (Some reply) = is_io reply

-- another element in the place of the first that passes a test
with_first_same : {X : Type 0} (g : X → Bool) (test : X → Bool) (x y : X) (xs : List X) → first_that test xs ≡ Some x → g y ≡ g x → map g (with_first test y xs) ≡ map g xs
with_first_same g test x y [] e same = refl
with_first_same g test x y (z ∷ xs) e same = by (test z) e (with_first_same g test x y xs)
  where
    by : (b : Bool) → (if b then Some z else first_that test xs) ≡ Some x → (first_that test xs ≡ Some x → g y ≡ g x → map g (with_first test y xs) ≡ map g xs)
        → map g (if b then y ∷ xs else z ∷ with_first test y xs) ≡ map g (z ∷ xs)
    by true e tail = (let z_is : z ≡ x = cc (e) in ap (λ c. c ∷ map g xs) (same ∙ ap g (sym z_is)))
    by false e tail = ap (λ cs. g z ∷ cs) (tail e same)

-- one that passes another test no more than that did
with_first_less : {X : Type 0} (g : X → Bool) (test : X → Bool) (x y : X) (xs : List X) → first_that test xs ≡ Some x → (g y ≡ true → g x ≡ true) → (k : ℕ) → get_or (map g (with_first test y xs)) k false ≡ true → get_or (map g xs) k false ≡ true
with_first_less g test x y [] e less k now = now
with_first_less g test x y (z ∷ xs) e less k now = by (test z) e (with_first_less g test x y xs) k now
  where
    by : (b : Bool) → (if b then Some z else first_that test xs) ≡ Some x → (first_that test xs ≡ Some x → (g y ≡ true → g x ≡ true) → (j : ℕ) → get_or (map g (with_first test y xs)) j false ≡ true → get_or (map g xs) j false ≡ true)
        → (k : ℕ) → get_or (map g (if b then y ∷ xs else z ∷ with_first test y xs)) k false ≡ true → get_or (map g (z ∷ xs)) k false ≡ true
    by true e tail zero now = (let z_is : z ≡ x = cc (e) in ap g z_is ∙ less now)
    by true e tail (suc k) now = now
    by false e tail zero now = now
    by false e tail (suc k) now = tail e less k now

-- a store after a flush
abbrev met_by : SnapHeld → Device
met_by h = met h.snap.store Flushes

-- an event of a snapshot
module _ (test : SnapHeld → Bool) (f : (SnapHeld → Bool) → SnapHeld → Moving → Moving) (op : SnapHeld → Operation) (P : Moving → Moving → Type 0) (v : Moving) where
  on_snap_calm : P v v → ((h : SnapHeld) → first_that test v.snaps ≡ Some h → answers h.snap.store (op h) ≡ true → P v (f test h v)) → store_answers test op v ≡ true → P v (on_snap test f v)
  on_snap_calm same each met = by (first_that test v.snaps) refl met
    where
      by : (o : Option SnapHeld) → first_that test v.snaps ≡ o → if_some o (λ h. answers h.snap.store (op h)) ≡ true → P v (for_some o (λ h. f test h v) v)
      by None e met = same
      by (Some h) e met = each h e met

-- a write of a store that is answered
store_write_calm : (test : SnapHeld → Bool) (h : SnapHeld) (op : Operation) (bytes : List ℕ) (next : SnapHeld → SnapHeld) (v : Moving) → first_that test v.snaps ≡ Some h → answers h.snap.store op ≡ true
    → ((x : SnapHeld) → (next x).snap.live ≡ x.snap.live) → lives_in (store_write test h op bytes next v) ≡ lives_in v
store_write_calm test h op bytes next v e met kept =
    let after : SnapHeld = with_store h (written_by h.snap.store op bytes) in
    ap lives_in (if_true (answers h.snap.store op) (put test (next after) v) (spoil test after v) met)
    ∙ with_first_same (λ x. x.snap.live) test h (next after) v.snaps e (kept after)

-- a mark, or the flush after it
pub write_invalid_calm : (n : ℕ) (v : Moving) (k : ℕ) → answers_event (WriteInvalid n) v ≡ true → get_or (stale_in (stepped (WriteInvalid n) v)) k false ≡ true → get_or (stale_in v) k false ≡ true
write_invalid_calm n v k met =
    on_snap_calm (λ h. (h.snap.number == n) && can_mark h) mark_invalid (λ h. Writes 0 h.snap.chunk) (λ u w. get_or (stale_in w) k false ≡ true → get_or (stale_in u) k false ≡ true) v (λ now. now) (each (λ h. (h.snap.number == n) && can_mark h)) met
  where
    each : (test : SnapHeld → Bool) (h : SnapHeld) → first_that test v.snaps ≡ Some h → answers h.snap.store (Writes 0 h.snap.chunk) ≡ true → get_or (stale_in (mark_invalid test h v)) k false ≡ true → get_or (stale_in v) k false ≡ true
    each test h e met now =
        let op : Operation = Writes 0 h.snap.chunk in
        let after : SnapHeld = with_store h (written_by h.snap.store op (marked h.snap.chunk h.snap.store.bytes)) in
        let done : SnapHeld = record after { marked = true } in
        let tried : SnapHeld = record after { snap = record after.snap { stale = true }; untried = false } in
        with_first_less (λ x. x.snap.stale) test h done v.snaps e (λ same. same) k
        (sym (ap (λ (w : Moving). get_or (stale_in w) k false) (if_true (answers h.snap.store op) (put test done v) (rerouted (put test tried v)) met)) ∙ now)

-- of a flush: one of a mark leaves the store as it was, or not stale
pub flush_stale_calm : (n : ℕ) (v : Moving) (k : ℕ) → answers_event (FlushStore n) v ≡ true → get_or (stale_in (stepped (FlushStore n) v)) k false ≡ true → get_or (stale_in v) k false ≡ true
flush_stale_calm n v k met =
    on_snap_calm (λ h. (h.snap.number == n) && can_flush_store h) flush_store (λ h. Flushes) (λ u w. get_or (stale_in w) k false ≡ true → get_or (stale_in u) k false ≡ true) v (λ now. now) (each (λ h. (h.snap.number == n) && can_flush_store h)) met
  where
    each : (test : SnapHeld → Bool) (h : SnapHeld) → first_that test v.snaps ≡ Some h → answers h.snap.store Flushes ≡ true → get_or (stale_in (flush_store test h v)) k false ≡ true → get_or (stale_in v) k false ≡ true
    each test h e met now = by h.marked (answers h.snap.store Flushes) met now
      where
        by : (b ok : Bool) → ok ≡ true → get_or (stale_in (if b then rerouted (put test (record (with_store h (met_by h)) { snap = record (with_store h (met_by h)).snap { stale = not ok }; untried = false }) v)
            else (if ok then put test (flushed_held (with_store h (met_by h))) v else spoil test (with_store h (met_by h)) v))) k false ≡ true → get_or (stale_in v) k false ≡ true
        by true ok is now = with_first_less (λ x. x.snap.stale) test h (record (with_store h (met_by h)) { snap = record (with_store h (met_by h)).snap { stale = not ok }; untried = false }) v.snaps e (λ same. absurd (false≢true (ap not (sym is) ∙ same))) k now
        by false ok is now = with_first_less (λ x. x.snap.stale) test h (flushed_held (with_store h (met_by h))) v.snaps e (λ same. same) k
            (ap (λ (b : Bool). get_or (stale_in (if b then put test (flushed_held (with_store h (met_by h))) v else spoil test (with_store h (met_by h)) v)) k false) (sym is) ∙ now)

pub flush_lives_calm : (n : ℕ) (v : Moving) → answers_event (FlushStore n) v ≡ true → lives_in (stepped (FlushStore n) v) ≡ lives_in v
flush_lives_calm n v met =
    on_snap_calm (λ h. (h.snap.number == n) && can_flush_store h) flush_store (λ h. Flushes) (λ u w. lives_in w ≡ lives_in u) v refl (each (λ h. (h.snap.number == n) && can_flush_store h)) met
  where
    each : (test : SnapHeld → Bool) (h : SnapHeld) → first_that test v.snaps ≡ Some h → answers h.snap.store Flushes ≡ true → lives_in (flush_store test h v) ≡ lives_in v
    each test h e met = by h.marked (answers h.snap.store Flushes) met
      where
        by : (b ok : Bool) → ok ≡ true → lives_in (if b then rerouted (put test (record (with_store h (met_by h)) { snap = record (with_store h (met_by h)).snap { stale = not ok }; untried = false }) v)
            else (if ok then put test (flushed_held (with_store h (met_by h))) v else spoil test (with_store h (met_by h)) v)) ≡ lives_in v
        by true ok is = with_first_same (λ x. x.snap.live) test h (record (with_store h (met_by h)) { snap = record (with_store h (met_by h)).snap { stale = not ok }; untried = false }) v.snaps e refl
        by false ok is =
            ap (λ (b : Bool). lives_in (if b then put test (flushed_held (with_store h (met_by h))) v else spoil test (with_store h (met_by h)) v)) is
            ∙ with_first_same (λ x. x.snap.live) test h (flushed_held (with_store h (met_by h))) v.snaps e refl

-- an area is written, or zeroed where the store has it
pub area_calm : (n : ℕ) (v : Moving) → answers_event (WriteArea n) v ≡ true → lives_in (stepped (WriteArea n) v) ≡ lives_in v
area_calm n v told =
    on_snap_calm (λ h. (h.snap.number == n) && can_commit h) (λ test h. commit (batch_of h) test h) (λ h. area_write (area_of h) h) (λ u w. lives_in w ≡ lives_in u) v refl
    (λ h e ok. each (λ x. (x.snap.number == n) && can_commit x) h e ok) told
  where
    each : (test : SnapHeld → Bool) (h : SnapHeld) → first_that test v.snaps ≡ Some h → answers h.snap.store (area_write (area_of h) h) ≡ true → lives_in (commit (batch_of h) test h v) ≡ lives_in v
    each test h e ok =
        let count : ℕ = batch_of h in
        let now : List Copying = take count h.copies in
        let room : Bool = not (filled_of h + count == 32 * h.snap.chunk) in
        store_write_calm test h (area_write (area_of h) h) (all_paired h.snap.chunk h.snap.store.bytes (length h.pairs) (map pair_of now))
        (λ after. record after { pairs = after.pairs ++ map pair_of now; copies = drop count after.copies; marks = after.marks ++ map mark_of now; zeroed = after.zeroed && room; firm = after.firm && room }) v e ok (λ x. refl)

-- a copy's event
module _ (stage : Stage) (n : ℕ) (f : (SnapHeld → Bool) → (Copying → Bool) → SnapHeld → Copying → Moving → Moving) (ok : SnapHeld → Copying → Bool) (v : Moving) where
  on_copy_calm : ((test : SnapHeld → Bool) (h : SnapHeld) (p : Copying) → first_that test v.snaps ≡ Some h → ok h p ≡ true → lives_in (f test (is_copy stage n) h p v) ≡ lives_in v)
      → copy_answers stage n ok v ≡ true → lives_in (on_copy stage n f v) ≡ lives_in v
  on_copy_calm each met = by (λ h. list_any (is_copy stage n) h.copies) (first_that (λ h. list_any (is_copy stage n) h.copies) v.snaps) refl met
    where
      inner : (test : SnapHeld → Bool) (h : SnapHeld) (q : Option Copying) → first_that test v.snaps ≡ Some h → if_some q (ok h) ≡ true → lives_in (for_some q (λ p. f test (is_copy stage n) h p v) v) ≡ lives_in v
      inner test h None e met = refl
      inner test h (Some p) e met = each test h p e met

      by : (test : SnapHeld → Bool) (o : Option SnapHeld) → first_that test v.snaps ≡ o → if_some o (λ h. if_some (first_that (is_copy stage n) h.copies) (ok h)) ≡ true
          → lives_in (for_some o (λ h. for_some (first_that (is_copy stage n) h.copies) (λ p. f test (is_copy stage n) h p v) v) v) ≡ lives_in v
      by test None e met = refl
      by test (Some h) e met = inner test h (first_that (is_copy stage n) h.copies) e met

pub copy_read_calm : (n : ℕ) (v : Moving) → answers_event (CopyRead n) v ≡ true → lives_in (stepped (CopyRead n) v) ≡ lives_in v
copy_read_calm n v told = on_copy_calm Waiting n read_copy (λ h p. answers v.origin (Reads (h.snap.chunk * p.pair.old) (copied_sectors h p v))) v (λ test h p e ok. each test h p e ok) told
  where
    each : (test : SnapHeld → Bool) (h : SnapHeld) (p : Copying) → first_that test v.snaps ≡ Some h → answers v.origin (Reads (h.snap.chunk * p.pair.old) (copied_sectors h p v)) ≡ true → lives_in (read_copy test (is_copy Waiting n) h p v) ≡ lives_in v
    each test h p e ok =
        let op : Operation = Reads (h.snap.chunk * p.pair.old) (copied_sectors h p v) in
        let read : Copying = record p { stage = Read; bytes = sectors_at v.origin.bytes (h.snap.chunk * p.pair.old) (copied_sectors h p v) } in
        let w : Moving = record v { origin = met v.origin op } in
        let h' : SnapHeld = record h { copies = with_first (is_copy Waiting n) read h.copies } in
        ap lives_in (if_true (answers v.origin op) (put test h' w) (spoil test h w) ok) ∙ with_first_same (λ x. x.snap.live) test h h' v.snaps e refl

pub copy_write_calm : (n : ℕ) (v : Moving) → answers_event (CopyWrite n) v ≡ true → lives_in (stepped (CopyWrite n) v) ≡ lives_in v
copy_write_calm n v told = on_copy_calm Read n write_copy (λ h p. answers h.snap.store (Writes (h.snap.chunk * p.pair.new) (copied_sectors h p v))) v
    (λ test h p e ok. store_write_calm test h (Writes (h.snap.chunk * p.pair.new) (copied_sectors h p v)) (with_sectors h.snap.store.bytes (h.snap.chunk * p.pair.new) p.bytes)
    (λ after. record after { copies = with_first (is_copy Read n) (record p { stage = Written }) after.copies }) v e ok (λ x. refl)) told

-- an area is zeroed, where the store has it
pub zero_calm : (n : ℕ) (v : Moving) → ((h : SnapHeld) → first_that (λ x. (x.snap.number == n) && can_zero x) v.snaps ≡ Some h → lacks_area (area_of h + 1) h.snap ≡ false)
    → answers_event (ZeroNext n) v ≡ true → lives_in (stepped (ZeroNext n) v) ≡ lives_in v
zero_calm n v has told =
    on_snap_calm (λ h. (h.snap.number == n) && can_zero h) zero_next (λ h. area_write (area_of h + 1) h) (λ u w. lives_in w ≡ lives_in u) v refl
    (λ h e ok. each (λ x. (x.snap.number == n) && can_zero x) h (has h e) e ok) told
  where
    each : (test : SnapHeld → Bool) (h : SnapHeld) → lacks_area (area_of h + 1) h.snap ≡ false → first_that test v.snaps ≡ Some h → answers h.snap.store (area_write (area_of h + 1) h) ≡ true → lives_in (zero_next test h v) ≡ lives_in v
    each test h has e ok =
        let a : ℕ = area_of h + 1 in
        let next : SnapHeld → SnapHeld = λ after. record after { zeroed = true; firm = false } in
        ap lives_in (if_false (lacks_area a h.snap) (spoil test h v) (store_write test h (area_write a h) (zeroed h.snap.chunk h.snap.store.bytes a) next v) has)
        ∙ store_write_calm test h (area_write a h) (zeroed h.snap.chunk h.snap.store.bytes a) next v e ok (λ x. refl)

-- An event of a merge, which it may find.
module _ (test : MergeHeld → Bool) (f : MergeHeld → Moving → Moving) (ok : MergeHeld → Bool) (v : Moving) where
  on_merge_calm : ((m : MergeHeld) → v.merge ≡ Some m → ok m ≡ true → failed_in (f m v).merge ≡ m.merge.failed) → if_some v.merge ok ≡ true → failed_in (on_merge test f v).merge ≡ failed_in v.merge
  on_merge_calm each told = by v.merge refl told
    where
      inner : (m : MergeHeld) (b : Bool) → v.merge ≡ Some m → ok m ≡ true → failed_in (if b then f m v else v).merge ≡ failed_in v.merge
      inner m true e told = each m e told ∙ sym (ap failed_in e)
      inner m false e told = refl

      by : (o : Option MergeHeld) → v.merge ≡ o → if_some o ok ≡ true → failed_in (for_some o (λ m. if test m then f m v else v) v).merge ≡ failed_in v.merge
      by None e told = refl
      by (Some m) e told = inner m (test m) e told

-- the copies that a merge starts
started_merge : (chunk : ℕ) (q : Option Pair) (v : Moving) → failed_in (start_next chunk q v).merge ≡ failed_in v.merge
started_merge chunk None v = refl
started_merge chunk (Some q) v = refl

pub area_read_calm : (v : Moving) → answers_event MergeAreaRead v ≡ true → failed_in (stepped_all MergeAreaRead v).merge ≡ failed_in v.merge
area_read_calm v = on_merge_calm can_read_area read_area (λ m. answers m.merge.store (Reads (m.merge.chunk * area_place m.merge.chunk (m.merge.current - 1)) m.merge.chunk)) v (λ m e ok.
    let g = m.merge in
    let op : Operation = Reads (g.chunk * area_place g.chunk (g.current - 1)) g.chunk in
    let after : MergeHeld = on_device m (met g.store op) in
    ap (λ (w : Moving). failed_in w.merge) (if_true (answers g.store op) (with_merge (record after { merge = record after.merge { current = g.current - 1 } }) v) (stop after v) ok))

pub chunk_read_calm : (v : Moving) → answers_event MergeRead v ≡ true → failed_in (stepped_all MergeRead v).merge ≡ failed_in v.merge
chunk_read_calm v = on_merge_calm (can_read v.requests) (λ m. read_chunk (last_of m.waiting) m) (λ m. if_some (last_of m.waiting) (λ q. answers m.merge.store (Reads (m.merge.chunk * q.new) (sectors_in q m v)))) v (λ m e ok. each m (last_of m.waiting) e ok)
  where
    each : (m : MergeHeld) (o : Option Pair) → v.merge ≡ Some m → if_some o (λ q. answers m.merge.store (Reads (m.merge.chunk * q.new) (sectors_in q m v))) ≡ true → failed_in (read_chunk o m v).merge ≡ m.merge.failed
    each m None e ok = ap failed_in e
    each m (Some q) e ok =
        let place : ℕ = m.merge.chunk * q.new in
        let op : Operation = Reads place (sectors_in q m v) in
        let after : MergeHeld = on_device m (met m.merge.store op) in
        ap (λ (w : Moving). failed_in w.merge) (if_true (answers m.merge.store op)
        (with_merge (record after { waiting = without_last m.waiting; reading = q ∷ []; buffer = sectors_at m.merge.store.bytes place (sectors_in q m v) }) v) (stop after v) ok)

pub chunk_write_calm : (v : Moving) → answers_event MergeWrite v ≡ true → failed_in (stepped_all MergeWrite v).merge ≡ failed_in v.merge
chunk_write_calm v = on_merge_calm (can_write (sectors_of v.origin) v.snaps) (λ m. write_chunk m.reading m) (λ m. chunk_answers m.reading m v) v (λ m e ok. each m m.reading e ok)
  where
    each : (m : MergeHeld) (qs : List Pair) → v.merge ≡ Some m → chunk_answers qs m v ≡ true → failed_in (write_chunk qs m v).merge ≡ m.merge.failed
    each m [] e ok = ap failed_in e
    each m (q ∷ qs) e ok =
        let first : ℕ = m.merge.chunk * q.old in
        let op : Operation = Writes first (sectors_in q m v) in
        let w : Moving = record v { origin = written_by v.origin op (with_sectors v.origin.bytes first m.buffer) } in
        let after : Moving = with_merge (record m { reading = []; buffer = []; copied = q ∷ m.copied }) w in
        ap (λ (x : Moving). failed_in x.merge) (if_true (answers v.origin op) (start_next m.merge.chunk (last_of m.waiting) after) (stop m w) ok)
        ∙ started_merge m.merge.chunk (last_of m.waiting) after

pub flush_calm : (v : Moving) → answers_event MergeFlush v ≡ true → failed_in (stepped_all MergeFlush v).merge ≡ failed_in v.merge
flush_calm v = on_merge_calm can_flush flush_origin (λ m. answers v.origin Flushes) v (λ m e ok.
    let w : Moving = record v { origin = met v.origin Flushes } in
    ap (λ (x : Moving). failed_in x.merge) (if_true (answers v.origin Flushes) (with_merge (record m { flushed = true }) w) (stop m w) ok))

pub commit_calm : (v : Moving) → answers_event MergeCommit v ≡ true → failed_in (stepped_all MergeCommit v).merge ≡ failed_in v.merge
commit_calm v = on_merge_calm can_commit_group commit_group (λ m. answers m.merge.store (Writes (m.merge.chunk * area_place m.merge.chunk m.merge.current) m.merge.chunk)) v (λ m e ok.
    let g = m.merge in
    let count : ℕ = length m.copied in
    let kept : ℕ = length (in_area m) - count in
    let op : Operation = Writes (g.chunk * area_place g.chunk g.current) g.chunk in
    let after : MergeHeld = on_device m (written_by g.store op (without_slots g.chunk g.store.bytes g.current kept count)) in
    ap (λ (x : Moving). failed_in x.merge) (if_true (answers g.store op)
    (with_merge (record after { merge = record after.merge { next = area_place g.chunk g.current + kept + 1 }; pairs = take (length m.pairs - count) m.pairs; copied = []; released = m.copied }) v) (stop after v) ok))

-- A request, which is not answered by Io. The reply of each operation:
read_io : (d : Device) (first count : ℕ) → answers d (Reads first count) ≡ true → is_io (read_reply d first count) ≡ false
read_io d first count ok = ap is_io (if_true (answers d (Reads first count)) (Data (sectors_at d.bytes first count)) (Declined Io) ok)

write_io : (d : Device) (first count : ℕ) → answers d (Writes first count) ≡ true → is_io (write_reply d first count) ≡ false
write_io d first count ok = ap is_io (if_true (answers d (Writes first count)) DoneReply (Declined Io) ok)

flush_io : (d : Device) → answers d Flushes ≡ true → is_io (flush_reply d) ≡ false
flush_io d ok = ap is_io (if_true (answers d Flushes) Flushed (Declined Io) ok)

module _ (mine : Going → Bool) (v : Moving) (none : v.replied ≡ None) where
  silent : replies_io v.replied ≡ false
  silent = ap replies_io none

  disk_io : (op : Op) (first count : ℕ) → answers v.origin (operation_of op first count) ≡ true → replies_io (on_disk op first count mine v).replied ≡ false
  disk_io ReadOp first count ok = read_io v.origin first count ok
  disk_io (WriteOp bytes) first count ok = write_io v.origin first count ok
  disk_io FlushOp first count ok = flush_io v.origin ok

  store_io : (op : Op) (first count : ℕ) (test : SnapHeld → Bool) (h : SnapHeld) → answers h.snap.store (operation_of op first count) ≡ true → replies_io (on_store op first count mine test h v).replied ≡ false
  store_io ReadOp first count test h ok = read_io h.snap.store first count ok
  store_io (WriteOp bytes) first count test h ok = write_io h.snap.store first count ok
  store_io FlushOp first count test h ok = silent

  merging_io : (op : Op) (first count : ℕ) (m : MergeHeld) → answers m.merge.store (operation_of op first count) ≡ true → replies_io (on_merging op first count mine m v).replied ≡ false
  merging_io ReadOp first count m ok = read_io m.merge.store first count ok
  merging_io (WriteOp bytes) first count m ok = write_io m.merge.store first count ok
  merging_io FlushOp first count m ok = silent

  -- of what may be found
  some_io : {X : Type 0} (o : Option X) (ok : X → Bool) (f : X → Moving → Moving) → ((x : X) → ok x ≡ true → replies_io (f x v).replied ≡ false) → if_some o ok ≡ true → replies_io (for_some o (λ x. f x v) v).replied ≡ false
  some_io None ok f each told = silent
  some_io (Some x) ok f each told = each x told

  place_io : (dev : Dev) (place : ℕ) (r : Going) → r.request.dev ≡ dev → place_answers dev place r v ≡ true → replies_io (on_place dev r.request.op place r.request.range.first r.request.range.count mine v).replied ≡ false
  place_io ToOrigin place r is told =
      some_io v.merge (λ m. answers m.merge.store (operation_of r.request.op (m.merge.chunk * place + r.request.range.first % m.merge.chunk) r.request.range.count))
      (λ m. on_merging r.request.op (m.merge.chunk * place + r.request.range.first % m.merge.chunk) r.request.range.count mine m)
      (λ m ok. merging_io r.request.op (m.merge.chunk * place + r.request.range.first % m.merge.chunk) r.request.range.count m ok) told
  place_io (ToSnap n) place r is told =
      some_io (first_that (λ h. h.snap.number == n) v.snaps) (λ h. answers h.snap.store (operation_of r.request.op (h.snap.chunk * place + r.request.range.first % h.snap.chunk) r.request.range.count))
      (λ h. on_store r.request.op (h.snap.chunk * place + r.request.range.first % h.snap.chunk) r.request.range.count mine (λ k. k.snap.number == n) h)
      (λ h ok. store_io r.request.op (h.snap.chunk * place + r.request.range.first % h.snap.chunk) r.request.range.count (λ k. k.snap.number == n) h ok) told

  whole_io : (dev : Dev) (r : Going) → flush_answers dev v ≡ true → replies_io (on_whole dev mine r v).replied ≡ false
  whole_io ToOrigin r told = some_io v.merge (λ m. answers m.merge.store Flushes) (λ m. flush_merging mine r m) (λ m ok.
      let w : Moving = with_merge (on_device m (met m.merge.store Flushes)) v in
      ap (λ (x : Moving). replies_io x.replied) (if_true (answers m.merge.store Flushes) (record w { requests = with_first mine (record r { route = Origin }) w.requests }) (answer mine (Declined Io) w) ok) ∙ silent) told
  whole_io (ToSnap n) r told = some_io (first_that (λ h. h.snap.number == n) v.snaps) (λ h. answers h.snap.store Flushes) (λ h. flush_asked mine (λ k. k.snap.number == n) h) (λ h ok.
      let test : SnapHeld → Bool = λ k. k.snap.number == n in
      let after : SnapHeld = with_store h (met h.snap.store Flushes) in
      ap (λ (x : Moving). replies_io x.replied) (if_true (answers h.snap.store Flushes) (answer mine Flushed (put test (flushed_held after) v)) (answer mine (Declined Io) (put test after v)) ok)) told

  route_io : (route : Route) (r : Going) → route_answers route r v ≡ true → replies_io (issue route mine r v).replied ≡ false
  route_io Waits r told = silent
  route_io Origin r told = disk_io r.request.op r.request.range.first r.request.range.count told
  route_io (Store place) r told = place_io r.request.dev place r refl told
  route_io Whole r told = whole_io r.request.dev r told
  route_io Refused r told = refl

pub issue_calm : (n : ℕ) (v : Moving) → v.replied ≡ None → answers_event (Issue n) v ≡ true → replies_io (stepped_all (Issue n) v).replied ≡ false
issue_calm n v none told =
    some_io (λ k. k.number == n) v none (first_that (λ r. (r.number == n) && is_issuable r) v.requests) (λ r. route_answers r.route r v) (λ r. issue r.route (λ k. k.number == n) r)
    (λ r ok. route_io (λ k. k.number == n) v none r.route r ok) told
