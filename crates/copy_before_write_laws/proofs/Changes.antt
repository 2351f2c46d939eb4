-- What an event changes of the origin's bytes, and of each snapshot's store and pairs: the event machine's own.
use Rattle.std.proofs.Common.{◌≡◌, ◌⊎◌, inl, inr, ℕ, suc, ◌+◌, ◌-◌, ◌*◌, ◌/◌, ◌%◌, ◌<◌, length, take, drop, Bool, true, false, List, [], ◌∷◌, ◌++◌, map, get_or, Option, None, Some, refl, sym, ◌∙◌, ap, subst, arith}
use Rattle.std.specs.Prelude.{◌==◌, ◌&&◌, not, if◌then◌else◌}
use Rattle.std.specs.List.{list_any}
use Rattle.std.proofs.lemmas.Bool.{cases_Bool, cond-true, cond-false, eqb-true}
use Rattle.sector.specs.declared.pair.Pair.{Pair}
use Rattle.device.specs.Layers.{layers_after}
use Rattle.device.specs.declared.operation.Operation.{Operation}
use Rattle.device.specs.declared.operation.Operation.TheVariants.{Reads, Writes, Flushes}
use Rattle.sector.specs.Bytes.{sectors_at, with_sectors}
use Rattle.cow_format.specs.Places.{area_place}
use Rattle.in_flight.specs.Copies.{count_of}
use Rattle.in_flight.specs.declared.copies.Mark.{Mark}
use Rattle.in_flight.specs.declared.copies.Stage.{Stage}
use Rattle.in_flight.specs.declared.copies.Stage.TheVariants.{Waiting as IsWaiting, Read as IsRead, Written as IsWritten}
use Rattle.in_flight.specs.declared.flights.Route.{Route}
use Rattle.in_flight.specs.declared.flights.Route.TheVariants.{Held as Waits, Origin, Store, Whole, Refused}
use Rattle.volume_laws.specs.MergeDue.{last_of}
use Rattle.whole_commands.specs.Devices.{answers, met, sectors_of, written_by}
use Rattle.whole_commands.specs.Saves.{marked, zeroed}
use Rattle.whole_commands.specs.Saving.{lacks_area}
use Rattle.whole_commands.specs.Merges.{last_run, without_slots}
use Rattle.plain_machine.specs.declared.event.Event.{Event}
use Rattle.plain_machine.specs.declared.event.Event.TheVariants.{Issue, CopyRead, CopyWrite, ZeroNext, WriteArea, Publish, WriteInvalid, FlushStore, MergeGroup, MergeAreaRead, MergeRead, MergeWrite, MergeFlush, MergeCommit, MergeRelease}
use Rattle.plain_machine.specs.declared.request.Dev.{Dev}
use Rattle.plain_machine.specs.declared.request.Dev.TheVariants.{Origin as ToOrigin, Snap as ToSnap}
use Rattle.plain_machine.specs.declared.request.Op.{Op}
use Rattle.plain_machine.specs.declared.request.Op.TheVariants.{Read as ReadOp, Write as WriteOp, Flush as FlushOp}
use Rattle.plain_machine.specs.declared.request.Reply.TheVariants.{Flushed, Refused as Declined}
use Rattle.plain_machine.specs.declared.request.Failure.TheVariants.{Io}
use Rattle.event_machine.specs.Held.{Copying, SnapHeld, Going, MergeHeld, Moving, flushed_held, spoiled, with_store, with_merge, on_device}
use Rattle.event_machine.specs.Again.{is_clear_over, next_over, rerouted}
use Rattle.event_machine.specs.Due.{batch_of, can_commit, can_flush_store, can_mark, can_zero, filled_of, is_front_ready, is_issuable}
use Rattle.event_machine.specs.MergeDue.{can_commit_group, can_flush, can_group, can_read, can_read_area, can_release, can_write, in_area, is_writable, next_of}
use Rattle.event_machine.specs.Stepping.{all_paired, answer, commit, mark_of, pair_of, publishes, first_that, flush_asked, flush_merging, flush_store, for_some, is_copy, issue, mark_invalid, on_copy, on_disk, on_merging, on_place, on_snap, on_store, on_whole, publish, put, read_copy, spoil, stepped, store_write, with_first, without_first, write_copy, zero_next}
use Rattle.event_machine.specs.Submitting.{is_filled, needs_none, started_all, with_copy}
use Rattle.event_machine.specs.MergeStepping.{commit_group, end_group, flush_origin, form_group, on_merge, read_area, read_chunk, sectors_in, start_next, start_waiting, stepped_all, stop, without_last, write_chunk}

none_some : {X : Type 0} (x : X) → None ≡ Some x → ⊥
none_some x e = cc

and_first : (a b : Bool) → (a && b) ≡ true → a ≡ true
and_first true b e = refl
and_first false b e = e

and_last : (a b : Bool) → (a && b) ≡ true → b ≡ true
and_last true b e = e
and_last false b e = absurd (cc)

not_true : (b : Bool) → not b ≡ true → b ≡ false
not_true true e = absurd (cc)
not_true false e = refl

-- the first that passes a test passes it
pub first_passes : {X : Type 0} (test : X → Bool) (xs : List X) (x : X) → first_that test xs ≡ Some x → test x ≡ true
first_passes test [] x e = absurd (none_some x e)
first_passes test (y ∷ ys) x e = elim (cases_Bool (test y)) [
  | inl t ↦ (let same : Some y ≡ Some x = sym (cond-true _ _ _ t) ∙ e in let is : y ≡ x = cc in ap test (sym is) ∙ t)
  | inr f ↦ first_passes test ys x (sym (cond-false _ _ _ f) ∙ e)
]

-- and stands somewhere
pub record StandsIn {X : Type 0} (xs : List X) (x : X) : Type 0 where
  pub index : ℕ
  pub within : index < length xs
  pub is : x ≡ get_or xs index x

pub first_stands : {X : Type 0} (test : X → Bool) (xs : List X) (x : X) → first_that test xs ≡ Some x → StandsIn xs x
first_stands test [] x e = absurd (none_some x e)
first_stands test (y ∷ ys) x e = elim (cases_Bool (test y)) [
  | inl t ↦ (let same : Some y ≡ Some x = sym (cond-true _ _ _ t) ∙ e in record { index = 0; within = omega arith; is = cc })
  | inr f ↦ (let rest = first_stands test ys x (sym (cond-false _ _ _ f) ∙ e) in record { index = rest.index + 1; within = (let w = rest.within in omega arith); is = rest.is ∙ (let step : rest.index + 1 ≡ suc rest.index = omega arith in sym (ap (λ n. get_or (y ∷ ys) n x) step)) })
]

-- A snapshot's store has these bytes, and these are its pairs.
pub record Becomes (bytes : List ℕ) (pairs : List Pair) (h t : SnapHeld) : Type 0 where
  pub number : t.snap.number ≡ h.snap.number
  pub chunk : t.snap.chunk ≡ h.snap.chunk
  pub bytes_are : t.snap.store.bytes ≡ bytes
  pub pairs_are : t.pairs ≡ pairs

-- nothing of both changes
abbrev pub IsStill : SnapHeld → SnapHeld → Type 0
IsStill h t = Becomes h.snap.store.bytes h.pairs h t

-- a copy is written to its place
pub record IsCopyWritten (h t : SnapHeld) : Type 0 where
  pub copy : Copying
  pub stands : StandsIn h.copies copy
  pub now : Becomes (with_sectors h.snap.store.bytes (h.snap.chunk * copy.pair.new) copy.bytes) h.pairs h t

-- the next area is zeroed
pub record IsZeroed (h t : SnapHeld) : Type 0 where
  pub ready : is_front_ready h.copies ≡ true
  pub fits : lacks_area (length h.pairs / (32 * h.snap.chunk) + 1) h.snap ≡ false
  pub now : Becomes (zeroed h.snap.chunk h.snap.store.bytes (length h.pairs / (32 * h.snap.chunk) + 1)) h.pairs h t

-- copies are committed
abbrev pub committed_now : SnapHeld → List Pair
committed_now h = map pair_of (take (batch_of h) h.copies)

pub record IsCommitted (h t : SnapHeld) : Type 0 where
  pub ready : is_front_ready h.copies ≡ true
  pub now : Becomes (all_paired h.snap.chunk h.snap.store.bytes (length h.pairs) (committed_now h)) (h.pairs ++ committed_now h) h t

-- a header is marked
pub record IsMarked (h t : SnapHeld) : Type 0 where
  pub untried : h.untried ≡ true
  pub unmarked : h.marked ≡ false
  pub now : Becomes (marked h.snap.chunk h.snap.store.bytes) h.pairs h t

-- the request that an Issue takes
abbrev pub takes : ℕ → Going → Bool
takes n r = (r.number == n) && is_issuable r

-- a write of the snapshot's array is issued
pub record IsWrittenBy (event : Event) (rs : List Going) (h : SnapHeld) : Type 0 where
  pub number : ℕ
  pub issued : event ≡ Issue number
  pub request : Going
  pub found : first_that (takes number) rs ≡ Some request
  pub place : ℕ
  pub route : request.route ≡ Store place
  pub dev : request.request.dev ≡ ToSnap h.snap.number
  pub bytes : List ℕ
  pub op : request.request.op ≡ WriteOp bytes

-- what may become of a snapshot
pub data IsChanged (event : Event) (rs : List Going) (h t : SnapHeld) : Type 0 where
  Stays : IsStill h t → IsChanged event rs h t
  Copied : IsCopyWritten h t → IsChanged event rs h t
  Zeroed : IsZeroed h t → IsChanged event rs h t
  Committed : IsCommitted h t → IsChanged event rs h t
  Marked : IsMarked h t → IsChanged event rs h t
  Issued : IsWrittenBy event rs h → IsChanged event rs h t

-- an origin write is issued
pub record IsDiskWritten (rs : List Going) (o o' : List ℕ) : Type 0 where
  pub number : ℕ
  pub request : Going
  pub found : first_that (takes number) rs ≡ Some request
  pub route : request.route ≡ Origin
  pub bytes : List ℕ
  pub op : request.request.op ≡ WriteOp bytes
  pub now : o' ≡ with_sectors o request.request.range.first bytes

-- a chunk is merged back
pub record IsMergedBack (v : Moving) (o' : List ℕ) : Type 0 where
  pub merge : MergeHeld
  pub is : v.merge ≡ Some merge
  pub pair : Pair
  pub rest : List Pair
  pub reading : merge.reading ≡ pair ∷ rest
  pub clear : is_clear_over v.snaps (merge.merge.chunk * pair.old) (count_of merge.merge.chunk (sectors_of v.origin) pair.old) ≡ true
  pub now : o' ≡ with_sectors v.origin.bytes (merge.merge.chunk * pair.old) merge.buffer

-- what may become of the origin's bytes
pub data IsOriginChanged (v : Moving) (o' : List ℕ) : Type 0 where
  Untouched : o' ≡ v.origin.bytes → IsOriginChanged v o'
  OnDisk : IsDiskWritten v.requests v.origin.bytes o' → IsOriginChanged v o'
  MergedBack : IsMergedBack v o' → IsOriginChanged v o'

-- two lists, one by one
abbrev pub AreEach : (SnapHeld → SnapHeld → Type 0) → List SnapHeld → List SnapHeld → Type 0
AreEach R [] [] = Unit {0}
AreEach R [] (y ∷ ys) = ⊥
AreEach R (x ∷ xs) [] = ⊥
AreEach R (x ∷ xs) (y ∷ ys) = R x y × AreEach R xs ys

-- Never both: of the origin's file, or of one store.
abbrev pub Changes : Event → Moving → Moving → Type 0
Changes event v w =
    (AreEach IsStill v.snaps w.snaps × IsOriginChanged v w.origin.bytes) ⊎ ((w.origin.bytes ≡ v.origin.bytes) × AreEach (IsChanged event v.requests) v.snaps w.snaps)

still : (h : SnapHeld) → IsStill h h
still h = record { number = refl; chunk = refl; bytes_are = refl; pairs_are = refl }

still_after : (h t u : SnapHeld) → IsStill h t → IsStill t u → IsStill h u
still_after h t u a b = record { number = b.number ∙ a.number; chunk = b.chunk ∙ a.chunk; bytes_are = b.bytes_are ∙ a.bytes_are; pairs_are = b.pairs_are ∙ a.pairs_are }

each_own : (R : SnapHeld → SnapHeld → Type 0) → ((h : SnapHeld) → R h h) → (xs : List SnapHeld) → AreEach R xs xs
each_own R own [] = tt
each_own R own (x ∷ xs) = (own x, each_own R own xs)

all_still : (xs : List SnapHeld) → AreEach IsStill xs xs
all_still xs = each_own IsStill still xs

each_after : (xs ys zs : List SnapHeld) → AreEach IsStill xs ys → AreEach IsStill ys zs → AreEach IsStill xs zs
each_after [] [] [] a b = tt
each_after [] [] (z ∷ zs) a b = absurd b
each_after [] (y ∷ ys) zs a b = absurd a
each_after (x ∷ xs) [] zs a b = absurd a
each_after (x ∷ xs) (y ∷ ys) [] a b = absurd b
each_after (x ∷ xs) (y ∷ ys) (z ∷ zs) a b = (still_after x y z a.0 b.0, each_after xs ys zs a.1 b.1)

-- the first that passes becomes another
first_put : (R : SnapHeld → SnapHeld → Type 0) (own : (h : SnapHeld) → R h h) (test : SnapHeld → Bool) (xs : List SnapHeld) (h t : SnapHeld) → first_that test xs ≡ Some h → R h t → AreEach R xs (with_first test t xs)
first_put R own test [] h t found r = tt
first_put R own test (x ∷ xs) h t found r = by (test x) (λ e. first_put R own test xs h t e r) found
  where
    by : (b : Bool) → (first_that test xs ≡ Some h → AreEach R xs (with_first test t xs)) → (if b then Some x else first_that test xs) ≡ Some h → AreEach R (x ∷ xs) (if b then t ∷ xs else x ∷ with_first test t xs)
    by true next e = (let is : h ≡ x = cc in subst (λ k. R k t) is r, each_own R own xs)
    by false next e = (own x, next e)

-- copies are started
started_still : (at : SnapHeld → ℕ) (started : ℕ) (xs : List SnapHeld) → AreEach IsStill xs (started_all at started xs)
started_still at started [] = tt
started_still at started (h ∷ xs) = by (needs_none (at h) h) (is_filled h) (started_still at started xs) (started_still at (started + 1) xs)
  where
    by : (b c : Bool) → AreEach IsStill xs (started_all at started xs) → AreEach IsStill xs (started_all at (started + 1) xs)
        → AreEach IsStill (h ∷ xs) (if b then h ∷ started_all at started xs else (if c then spoiled h ∷ started_all at started xs else with_copy (started + 1) (at h) h ∷ started_all at (started + 1) xs))
    by true c a b = (still h, a)
    by false true a b = (record { number = refl; chunk = refl; bytes_are = refl; pairs_are = refl }, a)
    by false false a b = (record { number = refl; chunk = refl; bytes_are = refl; pairs_are = refl }, b)

module _ (event : Event) where
  stays : (rs : List Going) (h : SnapHeld) → IsChanged event rs h h
  stays rs h = Stays (still h)

  same : (v : Moving) → Changes event v v
  same v = inl (all_still v.snaps, Untouched refl)

  if_changes : (b : Bool) (x y v : Moving) → Changes event v x → Changes event v y → Changes event v (if b then x else y)
  if_changes true x y v a c = a
  if_changes false x y v a c = c

  for_changes : {X : Type 0} (o : Option X) (f : X → Moving) (rest v : Moving) → ((x : X) → o ≡ Some x → Changes event v (f x)) → Changes event v rest → Changes event v (for_some o f rest)
  for_changes None f rest v a c = c
  for_changes (Some x) f rest v a c = a x refl

  -- all snapshots are still, and so is the origin
  rests : (v w : Moving) → AreEach IsStill v.snaps w.snaps → w.origin.bytes ≡ v.origin.bytes → Changes event v w
  rests v w each origin = inl (each, Untouched origin)

  module _ (test : SnapHeld → Bool) (h : SnapHeld) (v : Moving) (found : first_that test v.snaps ≡ Some h) where
    put_still : (t : SnapHeld) → IsStill h t → AreEach IsStill v.snaps (with_first test t v.snaps)
    put_still t is = first_put IsStill still test v.snaps h t found is

    store_changes : (op : Operation) (bytes : List ℕ) (next : SnapHeld → SnapHeld) → IsChanged event v.requests h (next (with_store h (record { bytes = bytes; layers = layers_after h.snap.store.layers op }))) → Changes event v (store_write test h op bytes next v)
    store_changes op bytes next wrote = by (answers h.snap.store op)
      where
        by : (b : Bool) → Changes event v (let after : SnapHeld = with_store h (record { bytes = if b then bytes else h.snap.store.bytes; layers = layers_after h.snap.store.layers op }) in if b then put test (next after) v else spoil test after v)
        by true = inr (refl, first_put (IsChanged event v.requests) (stays v.requests) test v.snaps h (next (with_store h (record { bytes = bytes; layers = layers_after h.snap.store.layers op }))) found wrote)
        by false = rests v (spoil test (with_store h (record { bytes = h.snap.store.bytes; layers = layers_after h.snap.store.layers op })) v)
            (put_still (spoiled (with_store h (record { bytes = h.snap.store.bytes; layers = layers_after h.snap.store.layers op }))) (record { number = refl; chunk = refl; bytes_are = refl; pairs_are = refl })) refl

    read_copy_changes : (its : Copying → Bool) (p : Copying) → Changes event v (read_copy test its h p v)
    read_copy_changes its p =
        let count : ℕ = count_of h.snap.chunk (sectors_of v.origin) p.pair.old in
        let op : Operation = Reads (h.snap.chunk * p.pair.old) count in
        let read : Copying = record p { stage = IsRead; bytes = sectors_at v.origin.bytes (h.snap.chunk * p.pair.old) count } in
        let w : Moving = record v { origin = met v.origin op } in
        if_changes (answers v.origin op) (put test (record h { copies = with_first its read h.copies }) w) (spoil test h w) v
        (rests v (put test (record h { copies = with_first its read h.copies }) w) (put_still (record h { copies = with_first its read h.copies }) (record { number = refl; chunk = refl; bytes_are = refl; pairs_are = refl })) refl)
        (rests v (spoil test h w) (put_still (spoiled h) (record { number = refl; chunk = refl; bytes_are = refl; pairs_are = refl })) refl)

    write_copy_changes : (its : Copying → Bool) (p : Copying) → StandsIn h.copies p → Changes event v (write_copy test its h p v)
    write_copy_changes its p stands =
        store_changes (Writes (h.snap.chunk * p.pair.new) (count_of h.snap.chunk (sectors_of v.origin) p.pair.old)) (with_sectors h.snap.store.bytes (h.snap.chunk * p.pair.new) p.bytes)
        (λ after. record after { copies = with_first its (record p { stage = IsWritten }) after.copies })
        (Copied (record { copy = p; stands = stands; now = record { number = refl; chunk = refl; bytes_are = refl; pairs_are = refl } }))

    zero_changes : is_front_ready h.copies ≡ true → Changes event v (zero_next test h v)
    zero_changes ready = by (lacks_area (length h.pairs / (32 * h.snap.chunk) + 1) h.snap) refl
      where
        by : (b : Bool) → lacks_area (length h.pairs / (32 * h.snap.chunk) + 1) h.snap ≡ b → Changes event v (if b then spoil test h v else store_write test h (Writes (h.snap.chunk * area_place h.snap.chunk (length h.pairs / (32 * h.snap.chunk) + 1)) h.snap.chunk) (zeroed h.snap.chunk h.snap.store.bytes (length h.pairs / (32 * h.snap.chunk) + 1)) (λ after. record after { zeroed = true; firm = false }) v)
        by true is = rests v (spoil test h v) (put_still (spoiled h) (record { number = refl; chunk = refl; bytes_are = refl; pairs_are = refl })) refl
        by false is = store_changes (Writes (h.snap.chunk * area_place h.snap.chunk (length h.pairs / (32 * h.snap.chunk) + 1)) h.snap.chunk) (zeroed h.snap.chunk h.snap.store.bytes (length h.pairs / (32 * h.snap.chunk) + 1)) (λ after. record after { zeroed = true; firm = false })
            (Zeroed (record { ready = ready; fits = is; now = record { number = refl; chunk = refl; bytes_are = refl; pairs_are = refl } }))

    commit_changes : is_front_ready h.copies ≡ true → Changes event v (commit (batch_of h) test h v)
    commit_changes ready =
        let k : ℕ = length h.pairs in
        let now : List Copying = take (batch_of h) h.copies in
        let room : Bool = not (filled_of h + batch_of h == 32 * h.snap.chunk) in
        store_changes (Writes (h.snap.chunk * area_place h.snap.chunk (k / (32 * h.snap.chunk))) h.snap.chunk) (all_paired h.snap.chunk h.snap.store.bytes k (map pair_of now))
        (λ after. record after { pairs = after.pairs ++ map pair_of now; copies = drop (batch_of h) after.copies; marks = after.marks ++ map mark_of now; zeroed = after.zeroed && room; firm = after.firm && room })
        (Committed (record { ready = ready; now = record { number = refl; chunk = refl; bytes_are = refl; pairs_are = refl } }))

    mark_changes : h.untried ≡ true → h.marked ≡ false → Changes event v (mark_invalid test h v)
    mark_changes untried unmarked = by (answers h.snap.store (Writes 0 h.snap.chunk))
      where
        by : (b : Bool) → Changes event v (let after : SnapHeld = with_store h (record { bytes = if b then marked h.snap.chunk h.snap.store.bytes else h.snap.store.bytes; layers = layers_after h.snap.store.layers (Writes 0 h.snap.chunk) }) in if b then put test (record after { marked = true }) v else rerouted (put test (record after { snap = record after.snap { stale = true }; untried = false }) v))
        by true = inr (
          refl,
          first_put (IsChanged event v.requests) (stays v.requests) test v.snaps h (record (with_store h (record { bytes = marked h.snap.chunk h.snap.store.bytes; layers = layers_after h.snap.store.layers (Writes 0 h.snap.chunk) })) { marked = true }) found
              (Marked (record { untried = untried; unmarked = unmarked; now = record { number = refl; chunk = refl; bytes_are = refl; pairs_are = refl } })),
        )
        by false =
            let after : SnapHeld = with_store h (record { bytes = h.snap.store.bytes; layers = layers_after h.snap.store.layers (Writes 0 h.snap.chunk) }) in
            let t : SnapHeld = record after { snap = record after.snap { stale = true }; untried = false } in
            rests v (rerouted (put test t v)) (put_still t (record { number = refl; chunk = refl; bytes_are = refl; pairs_are = refl })) refl

    flush_changes : Changes event v (flush_store test h v)
    flush_changes =
        let after : SnapHeld = with_store h (met h.snap.store Flushes) in
        let tried : SnapHeld = record after { snap = record after.snap { stale = not (answers h.snap.store Flushes) }; untried = false } in
        let live : Moving = if answers h.snap.store Flushes then put test (flushed_held after) v else spoil test after v in
        if_changes h.marked (rerouted (put test tried v)) live v
        (rests v (rerouted (put test tried v)) (put_still tried (record { number = refl; chunk = refl; bytes_are = refl; pairs_are = refl })) refl)
        (if_changes (answers h.snap.store Flushes) (put test (flushed_held after) v) (spoil test after v) v
        (rests v (put test (flushed_held after) v) (put_still (flushed_held after) (record { number = refl; chunk = refl; bytes_are = refl; pairs_are = refl })) refl)
        (rests v (spoil test after v) (put_still (spoiled after) (record { number = refl; chunk = refl; bytes_are = refl; pairs_are = refl })) refl))

    publish_still : (its : Mark → Bool) → AreEach IsStill v.snaps (publish test its h v).snaps
    publish_still its = put_still (record h { marks = without_first its h.marks }) (record { number = refl; chunk = refl; bytes_are = refl; pairs_are = refl })

  -- an event of a copy, or of a snapshot
  on_copy_changes : (stage : Stage) (m : ℕ) (f : (SnapHeld → Bool) → (Copying → Bool) → SnapHeld → Copying → Moving → Moving) (v : Moving) → ((test : SnapHeld → Bool) (its : Copying → Bool) (h : SnapHeld) (p : Copying) → first_that test v.snaps ≡ Some h → StandsIn h.copies p → Changes event v (f test its h p v)) → Changes event v (on_copy stage m f v)
  on_copy_changes stage m f v each =
      let test : SnapHeld → Bool = λ k. list_any (is_copy stage m) k.copies in
      for_changes (first_that test v.snaps) (λ h. for_some (first_that (is_copy stage m) h.copies) (λ p. f test (is_copy stage m) h p v) v) v v
      (λ h at. for_changes (first_that (is_copy stage m) h.copies) (λ p. f test (is_copy stage m) h p v) v v (λ p is. each test (is_copy stage m) h p at (first_stands (is_copy stage m) h.copies p is)) (same v)) (same v)

  on_snap_changes : (test : SnapHeld → Bool) (f : (SnapHeld → Bool) → SnapHeld → Moving → Moving) (v : Moving) → ((h : SnapHeld) → first_that test v.snaps ≡ Some h → Changes event v (f test h v)) → Changes event v (on_snap test f v)
  on_snap_changes test f v each = for_changes (first_that test v.snaps) (λ h. f test h v) v v each (same v)

  -- an Issue
  module _ (m : ℕ) (r : Going) (v : Moving) (issued : event ≡ Issue m) (taken : first_that (takes m) v.requests ≡ Some r) (mine : Going → Bool) where
    disk_changes : (op : Op) → r.request.op ≡ op → r.route ≡ Origin → Changes event v (on_disk op r.request.range.first r.request.range.count mine v)
    disk_changes ReadOp is route = same v
    disk_changes (WriteOp bytes) is route = by (answers v.origin (Writes r.request.range.first r.request.range.count))
      where
        by : (b : Bool) → AreEach IsStill v.snaps v.snaps × IsOriginChanged v (if b then with_sectors v.origin.bytes r.request.range.first bytes else v.origin.bytes) ⊎ (((if b then with_sectors v.origin.bytes r.request.range.first bytes else v.origin.bytes) ≡ v.origin.bytes) × AreEach (IsChanged event v.requests) v.snaps v.snaps)
        by true = inl (all_still v.snaps, OnDisk (record { number = m; request = r; found = taken; route = route; bytes = bytes; op = is; now = refl }))
        by false = same v
    disk_changes FlushOp is route = same v

    on_store_changes : (place : ℕ) → r.route ≡ Store place → (op : Op) → r.request.op ≡ op → (first count : ℕ) (test : SnapHeld → Bool) (h : SnapHeld) → first_that test v.snaps ≡ Some h → r.request.dev ≡ ToSnap h.snap.number → Changes event v (on_store op first count mine test h v)
    on_store_changes place route ReadOp is first count test h found dev = rests v (put test (with_store h (met h.snap.store (Reads first count))) v) (put_still test h v found (with_store h (met h.snap.store (Reads first count))) (record { number = refl; chunk = refl; bytes_are = refl; pairs_are = refl })) refl
    on_store_changes place route (WriteOp bytes) is first count test h found dev =
        inr (
          refl,
          first_put (IsChanged event v.requests) (stays v.requests) test v.snaps h (with_store h (written_by h.snap.store (Writes first count) (with_sectors h.snap.store.bytes first bytes))) found
              (Issued (record { number = m; issued = issued; request = r; found = taken; place = place; route = route; dev = dev; bytes = bytes; op = is })),
        )
    on_store_changes place route FlushOp is first count test h found dev = same v

    on_merging_changes : (op : Op) (first count : ℕ) (g : MergeHeld) → Changes event v (on_merging op first count mine g v)
    on_merging_changes ReadOp first count g = same v
    on_merging_changes (WriteOp bytes) first count g = same v
    on_merging_changes FlushOp first count g = same v

    named : (k : ℕ) (h : SnapHeld) → first_that (λ x. x.snap.number == k) v.snaps ≡ Some h → h.snap.number ≡ k
    named k h found = eqb-true h.snap.number k (first_passes (λ x. x.snap.number == k) v.snaps h found)

    place_changes : (dev : Dev) → r.request.dev ≡ dev → (op : Op) → r.request.op ≡ op → (place : ℕ) → r.route ≡ Store place → (first count : ℕ) → Changes event v (on_place dev op place first count mine v)
    place_changes ToOrigin at op is place route first count = for_changes v.merge (λ g. on_merging op (g.merge.chunk * place + first % g.merge.chunk) count mine g v) v v (λ g is. on_merging_changes op (g.merge.chunk * place + first % g.merge.chunk) count g) (same v)
    place_changes (ToSnap k) at op is place route first count =
        let test : SnapHeld → Bool = λ h. h.snap.number == k in
        for_changes (first_that test v.snaps) (λ h. on_store op (h.snap.chunk * place + first % h.snap.chunk) count mine test h v) v v
        (λ h found. on_store_changes place route op is (h.snap.chunk * place + first % h.snap.chunk) count test h found (at ∙ ap ToSnap (sym (named k h found)))) (same v)

    merging_changes : (g : MergeHeld) → Changes event v (flush_merging mine r g v)
    merging_changes g =
        let w : Moving = with_merge (on_device g (met g.merge.store Flushes)) v in
        if_changes (answers g.merge.store Flushes) (record w { requests = with_first mine (record r { route = Origin }) w.requests }) (answer mine (Declined Io) w) v (same v) (same v)

    asked_changes : (test : SnapHeld → Bool) (h : SnapHeld) → first_that test v.snaps ≡ Some h → Changes event v (flush_asked mine test h v)
    asked_changes test h found =
        let done : SnapHeld = with_store h (met h.snap.store Flushes) in
        if_changes (answers h.snap.store Flushes) (answer mine Flushed (put test (flushed_held done) v)) (answer mine (Declined Io) (put test done v)) v
        (rests v (answer mine Flushed (put test (flushed_held done) v)) (put_still test h v found (flushed_held done) (record { number = refl; chunk = refl; bytes_are = refl; pairs_are = refl })) refl)
        (rests v (answer mine (Declined Io) (put test done v)) (put_still test h v found done (record { number = refl; chunk = refl; bytes_are = refl; pairs_are = refl })) refl)

    whole_changes : (dev : Dev) → Changes event v (on_whole dev mine r v)
    whole_changes ToOrigin = for_changes v.merge (λ g. flush_merging mine r g v) v v (λ g at. merging_changes g) (same v)
    whole_changes (ToSnap k) =
        let test : SnapHeld → Bool = λ h. h.snap.number == k in
        for_changes (first_that test v.snaps) (λ h. flush_asked mine test h v) v v (λ h found. asked_changes test h found) (same v)

    issue_changes : (route : Route) → r.route ≡ route → Changes event v (issue route mine r v)
    issue_changes Waits is = same v
    issue_changes Origin is = disk_changes r.request.op refl is
    issue_changes (Store place) is = place_changes r.request.dev refl r.request.op refl place is r.request.range.first r.request.range.count
    issue_changes Whole is = whole_changes r.request.dev
    issue_changes Refused is = same v

  -- copies are started
  next_still : (chunk : ℕ) (o : Option Pair) (v : Moving) → AreEach IsStill v.snaps (start_next chunk o v).snaps
  next_still chunk None v = all_still v.snaps
  next_still chunk (Some q) v = started_still (next_over (chunk * q.old) (count_of chunk (sectors_of v.origin) q.old)) v.started v.snaps

  next_origin : (chunk : ℕ) (o : Option Pair) (v : Moving) → (start_next chunk o v).origin.bytes ≡ v.origin.bytes
  next_origin chunk None v = refl
  next_origin chunk (Some q) v = refl

  waiting_rests : (v w : Moving) → AreEach IsStill v.snaps w.snaps → w.origin.bytes ≡ v.origin.bytes → Changes event v (start_waiting w)
  waiting_rests v w each origin = for_changes w.merge (λ g. start_next g.merge.chunk (next_of g) w) w v
      (λ g is. rests v (start_next g.merge.chunk (next_of g) w) (each_after v.snaps w.snaps (start_next g.merge.chunk (next_of g) w).snaps each (next_still g.merge.chunk (next_of g) w)) (next_origin g.merge.chunk (next_of g) w ∙ origin))
      (rests v w each origin)

  -- events of a merge
  on_merge_changes : (test : MergeHeld → Bool) (f : MergeHeld → Moving → Moving) (v : Moving) → ((g : MergeHeld) → v.merge ≡ Some g → test g ≡ true → Changes event v (f g v)) → Changes event v (on_merge test f v)
  on_merge_changes test f v each = for_changes v.merge (λ g. if test g then f g v else v) v v (λ g is. by g is (test g) refl) (same v)
    where
      by : (g : MergeHeld) → v.merge ≡ Some g → (b : Bool) → test g ≡ b → Changes event v (if b then f g v else v)
      by g is true passes = each g is passes
      by g is false passes = same v

  read_changes : (o : Option Pair) (g : MergeHeld) (v : Moving) → Changes event v (read_chunk o g v)
  read_changes None g v = same v
  read_changes (Some q) g v =
      let place : ℕ = g.merge.chunk * q.new in
      let op : Operation = Reads place (sectors_in q g v) in
      let done : MergeHeld = on_device g (met g.merge.store op) in
      if_changes (answers g.merge.store op) (with_merge (record done { waiting = without_last g.waiting; reading = q ∷ []; buffer = sectors_at g.merge.store.bytes place (sectors_in q g v) }) v) (stop done v) v (same v) (same v)

  write_changes : (qs : List Pair) (g : MergeHeld) (v : Moving) → v.merge ≡ Some g → g.reading ≡ qs → is_writable v.snaps g.merge.chunk (sectors_of v.origin) qs ≡ true → Changes event v (write_chunk qs g v)
  write_changes [] g v is reading clear = same v
  write_changes (q ∷ qs) g v is reading clear = by (answers v.origin (Writes (g.merge.chunk * q.old) (sectors_in q g v)))
    where
      by : (b : Bool) → Changes event v (let w : Moving = record v { origin = record { bytes = if b then with_sectors v.origin.bytes (g.merge.chunk * q.old) g.buffer else v.origin.bytes; layers = layers_after v.origin.layers (Writes (g.merge.chunk * q.old) (sectors_in q g v)) } } in if b then start_next g.merge.chunk (last_of g.waiting) (with_merge (record g { reading = []; buffer = []; copied = q ∷ g.copied }) w) else stop g w)
      by true =
          let w : Moving = record v { origin = record { bytes = with_sectors v.origin.bytes (g.merge.chunk * q.old) g.buffer; layers = layers_after v.origin.layers (Writes (g.merge.chunk * q.old) (sectors_in q g v)) } } in
          let u : Moving = with_merge (record g { reading = []; buffer = []; copied = q ∷ g.copied }) w in
          inl (next_still g.merge.chunk (last_of g.waiting) u, MergedBack (record { merge = g; is = is; pair = q; rest = qs; reading = reading; clear = clear; now = next_origin g.merge.chunk (last_of g.waiting) u }))
      by false = same v

  form_changes : (g : MergeHeld) (v : Moving) → Changes event v (form_group g v)
  form_changes g v =
      let group : List Pair = last_run (in_area g) in
      let w : Moving = with_merge (record g { waiting = group }) v in
      rests v (start_next g.merge.chunk (last_of group) w) (next_still g.merge.chunk (last_of group) w) (next_origin g.merge.chunk (last_of group) w)

  area_changes : (g : MergeHeld) (v : Moving) → Changes event v (read_area g v)
  area_changes g v =
      let op : Operation = Reads (g.merge.chunk * area_place g.merge.chunk (g.merge.current - 1)) g.merge.chunk in
      let done : MergeHeld = on_device g (met g.merge.store op) in
      if_changes (answers g.merge.store op) (with_merge (record done { merge = record done.merge { current = g.merge.current - 1 } }) v) (stop done v) v (same v) (same v)

  disk_flush_changes : (g : MergeHeld) (v : Moving) → Changes event v (flush_origin g v)
  disk_flush_changes g v =
      let w : Moving = record v { origin = met v.origin Flushes } in
      if_changes (answers v.origin Flushes) (with_merge (record g { flushed = true }) w) (stop g w) v (same v) (same v)

  commit_group_changes : (g : MergeHeld) (v : Moving) → Changes event v (commit_group g v)
  commit_group_changes g v =
      let count : ℕ = length g.copied in
      let kept : ℕ = length (in_area g) - count in
      let op : Operation = Writes (g.merge.chunk * area_place g.merge.chunk g.merge.current) g.merge.chunk in
      let done : MergeHeld = on_device g (written_by g.merge.store op (without_slots g.merge.chunk g.merge.store.bytes g.merge.current kept count)) in
      let committed : Moving = with_merge (record done { merge = record done.merge { next = area_place g.merge.chunk g.merge.current + kept + 1 }; pairs = take (length g.pairs - count) g.pairs; copied = []; released = g.copied }) v in
      if_changes (answers g.merge.store op) committed (stop done v) v (same v) (same v)

-- any event
pub event_changes : (event : Event) (v : Moving) → Changes event v (stepped_all event v)
event_changes (WriteInvalid m) v = on_snap_changes (WriteInvalid m) (λ h. (h.snap.number == m) && can_mark h) mark_invalid v (λ h found.
    (let can : can_mark h ≡ true = and_last (h.snap.number == m) (can_mark h) (first_passes (λ k. (k.snap.number == m) && can_mark k) v.snaps h found) in
    mark_changes (WriteInvalid m) (λ k. (k.snap.number == m) && can_mark k) h v found (and_first h.untried (not h.marked) can) (not_true h.marked (and_last h.untried (not h.marked) can))))
event_changes (FlushStore m) v = on_snap_changes (FlushStore m) (λ h. (h.snap.number == m) && can_flush_store h) flush_store v (λ h found. flush_changes (FlushStore m) (λ k. (k.snap.number == m) && can_flush_store k) h v found)
event_changes (Publish m) v = for_changes (Publish m) (first_that (publishes v.requests m) v.snaps) (λ h. start_waiting (stepped (Publish m) v)) v v
    (λ h found.
    (let its : Mark → Bool = λ k. k.number == m in
    let e : stepped (Publish m) v ≡ publish (publishes v.requests m) its h v = ap (λ o. for_some o (λ k. publish (publishes v.requests m) its k v) v) found in
    subst (λ w. Changes (Publish m) v (start_waiting w)) (sym e) (waiting_rests (Publish m) v (publish (publishes v.requests m) its h v) (publish_still (Publish m) (publishes v.requests m) h v found its) refl))) (same (Publish m) v)
event_changes (WriteArea m) v = on_snap_changes (WriteArea m) (λ h. (h.snap.number == m) && can_commit h) (λ test h. commit (batch_of h) test h) v (λ h found.
    (let can : can_commit h ≡ true = and_last (h.snap.number == m) (can_commit h) (first_passes (λ k. (k.snap.number == m) && can_commit k) v.snaps h found) in
    commit_changes (WriteArea m) (λ k. (k.snap.number == m) && can_commit k) h v found (and_first (is_front_ready h.copies) _ can)))
event_changes (ZeroNext m) v = on_snap_changes (ZeroNext m) (λ h. (h.snap.number == m) && can_zero h) zero_next v (λ h found.
    (let can : can_zero h ≡ true = and_last (h.snap.number == m) (can_zero h) (first_passes (λ k. (k.snap.number == m) && can_zero k) v.snaps h found) in
    zero_changes (ZeroNext m) (λ k. (k.snap.number == m) && can_zero k) h v found (and_first (is_front_ready h.copies) _ can)))
event_changes (CopyWrite m) v = on_copy_changes (CopyWrite m) IsRead m write_copy v (λ test its h p found stands. write_copy_changes (CopyWrite m) test h v found its p stands)
event_changes (CopyRead m) v = on_copy_changes (CopyRead m) IsWaiting m read_copy v (λ test its h p found stands. read_copy_changes (CopyRead m) test h v found its p)
event_changes (Issue m) v = for_changes (Issue m) (first_that (takes m) v.requests) (λ r. issue r.route (λ k. k.number == m) r v) v v (λ r taken. issue_changes (Issue m) m r v refl taken (λ k. k.number == m) r.route refl) (same (Issue m) v)
event_changes MergeGroup v = on_merge_changes MergeGroup can_group form_group v (λ g is can. form_changes MergeGroup g v)
event_changes MergeAreaRead v = on_merge_changes MergeAreaRead can_read_area read_area v (λ g is can. area_changes MergeAreaRead g v)
event_changes MergeRead v = on_merge_changes MergeRead (can_read v.requests) (λ m. read_chunk (last_of m.waiting) m) v (λ g is can. read_changes MergeRead (last_of g.waiting) g v)
event_changes MergeWrite v = on_merge_changes MergeWrite (can_write (sectors_of v.origin) v.snaps) (λ m. write_chunk m.reading m) v (λ g is can. write_changes MergeWrite g.reading g v is refl can)
event_changes MergeFlush v = on_merge_changes MergeFlush can_flush flush_origin v (λ g is can. disk_flush_changes MergeFlush g v)
event_changes MergeCommit v = on_merge_changes MergeCommit can_commit_group commit_group v (λ g is can. commit_group_changes MergeCommit g v)
event_changes MergeRelease v = on_merge_changes MergeRelease (can_release v.requests) end_group v (λ g is can. same MergeRelease v)
