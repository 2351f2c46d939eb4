-- A flush of the origin beside a merge goes to the merging store before its first Issue, whatever else happens: so none is answered
-- whose Issue did not flush that store.
use Rattle.std.proofs.Common.{◌≡◌, ◌⊎◌, inl, inr, ℕ, ◌+◌, ◌-◌, ◌*◌, ◌/◌, ◌%◌, length, take, drop, Bool, true, false, List, [], ◌∷◌, ◌++◌, map, Option, None, Some, refl, sym, ◌∙◌, ap, subst}
use Rattle.std.specs.Prelude.{◌==◌, ◌&&◌, ◌||◌, not, is_some, if◌then◌else◌}
use Rattle.std.specs.List.{list_any}
use Rattle.std.proofs.lemmas.Bool.{cases_Bool, cond-true, cond-false, eqb-true, eq-eqb, true≢false}
use Rattle.sector.specs.declared.pair.Pair.{Pair}
use Rattle.device.specs.declared.operation.Operation.{Operation}
use Rattle.device.specs.declared.operation.Operation.TheVariants.{Reads, Writes, Flushes}
use Rattle.sector.specs.Bytes.{sectors_at, with_sectors}
use Rattle.cow_format.specs.Places.{area_place}
use Rattle.in_flight.specs.Copies.{count_of}
use Rattle.in_flight.specs.declared.copies.Mark.{Mark}
use Rattle.in_flight.specs.declared.copies.Stage.TheVariants.{Waiting as IsWaiting, Read as IsRead, Written as IsWritten}
use Rattle.volume_laws.specs.Again.{published_place}
use Rattle.volume_laws.specs.MergeDue.{last_of}
use Rattle.whole_commands.specs.Saves.{marked, zeroed}
use Rattle.whole_commands.specs.Saving.{lacks_area}
use Rattle.whole_commands.specs.Merges.{last_run, without_slots}
use Rattle.plain_machine.specs.declared.event.Event.{Event}
use Rattle.plain_machine.specs.declared.event.Event.TheVariants.{Issue, CopyRead, CopyWrite, ZeroNext, WriteArea, Publish, WriteInvalid, FlushStore, MergeGroup, MergeAreaRead, MergeRead, MergeWrite, MergeFlush, MergeCommit, MergeRelease}
use Rattle.plain_machine.specs.declared.request.Dev.{Dev}
use Rattle.plain_machine.specs.declared.request.Dev.TheVariants.{Origin as ToOrigin, Snap as ToSnap}
use Rattle.plain_machine.specs.declared.request.Op.{Op}
use Rattle.plain_machine.specs.declared.request.Op.TheVariants.{Read as ReadOp, Write as WriteOp, Flush as FlushOp}
use Rattle.plain_machine.specs.declared.request.Reply.{Reply}
use Rattle.plain_machine.specs.declared.request.Reply.TheVariants.{Flushed, Refused as Declined}
use Rattle.plain_machine.specs.declared.request.Failure.TheVariants.{Invalid, Io, Overflow}
use Rattle.plain_machine.specs.declared.request.Request.{Request}
use Rattle.plain_machine.specs.Kept.{kept}
use Rattle.cow_format.specs.Picture.{place_of}
use Rattle.in_flight.specs.Due.{is_routed}
use Rattle.in_flight.specs.declared.flights.Kind.{Kind}
use Rattle.in_flight.specs.declared.flights.Kind.TheVariants.{OriginRead, OriginWrite, OriginFlush, SnapRead, SnapWrite, SnapFlush}
use Rattle.in_flight.specs.declared.flights.Route.{Route}
use Rattle.in_flight.specs.declared.flights.Route.TheVariants.{Held as Waits, Origin, Store, Whole, Refused}
use Rattle.in_flight.specs.Kinds.{kind_of}
use Rattle.in_flight.specs.Routes.{again_route_of, flush_route_of, placed_route_of, read_route_of, refused_route_of}
use Rattle.in_flight.specs.declared.copies.Stage.{Stage}
use Rattle.whole_commands.specs.Devices.{answers, met, sectors_of, written_by}
use Rattle.event_machine.specs.Held.{Copying, SnapHeld, Going, MergeHeld, Moving, flushed_held, with_store, with_merge, on_device}
use Rattle.event_machine.specs.Again.{again, is_grouped, merged_place, next_over, placed, refused, rerouted, write_route}
use Rattle.event_machine.specs.Due.{batch_of, can_commit, can_flush_store, can_mark, can_zero, filled_of, is_issuable}
use Rattle.event_machine.specs.MergeDue.{can_commit_group, can_flush, can_group, can_read, can_read_area, can_release, can_write, in_area, next_of}
use Rattle.event_machine.specs.Stepping.{all_paired, answer, commit, mark_of, pair_of, publishes, first_that, flush_asked, flush_merging, flush_store, for_some, is_copy, issue, mark_invalid, on_copy, on_disk, on_merging, on_place, on_snap, on_store, on_whole, publish, put, read_copy, spoil, stepped, store_write, with_first, without_first, write_copy, zero_next}
use Rattle.event_machine.specs.Submitting.{accepted, chunk_at, declined, flush_snap, is_filled, needs_none, overflown, read_snap, refused_by, shuts, start_copies, submitted, submitted_as, with_copy, write_held, write_open, write_origin, write_placed, write_snap}
use Rattle.event_machine.specs.MergeStepping.{commit_group, end_group, flush_origin, form_group, on_merge, publish_all, read_area, read_chunk, sectors_in, start_next, start_waiting, stepped_all, stop, without_group, without_last, write_chunk}

none_some : {X : Type 0} (x : X) → None ≡ Some x → ⊥
none_some x e = cc

and_first : (a b : Bool) → (a && b) ≡ true → a ≡ true
and_first true b e = refl
and_first false b e = e

-- the first that passes a test passes it
first_passes : {X : Type 0} (test : X → Bool) (xs : List X) (x : X) → first_that test xs ≡ Some x → test x ≡ true
first_passes test [] x e = absurd (none_some x e)
first_passes test (y ∷ ys) x e = elim (cases_Bool (test y)) [
  | inl t ↦ (let same : Some y ≡ Some x = sym (cond-true _ _ _ t) ∙ e in let is : y ≡ x = cc in ap test (sym is) ∙ t)
  | inr f ↦ first_passes test ys x (sym (cond-false _ _ _ f) ∙ e)
]

again_flush : (route new : Route) → again_route_of OriginFlush route new ≡ route
again_flush Waits new = refl
again_flush Origin new = refl
again_flush (Store place) new = refl
again_flush Whole new = refl
again_flush Refused new = refl

again_same : (merge : Option MergeHeld) (snaps : List SnapHeld) (r : Going) → kind_of r.request ≡ OriginFlush → again merge snaps r ≡ r
again_same merge snaps r kind =
    ap (λ (k : Kind). (let x : Going = record r { route = again_route_of k r.route (write_route merge snaps r.request.range.first) } in x)) kind
    ∙ ap (λ (t : Route). (let x : Going = record r { route = t } in x)) (again_flush r.route (write_route merge snaps r.request.range.first))

placed_same : (h : SnapHeld) (r : Going) → kind_of r.request ≡ OriginFlush → placed h r ≡ r
placed_same h r kind = ap (λ (k : Kind). (let x : Going = record r { route = placed_route_of h.snap.number k r.route (published_place h.pairs h.marks (r.request.range.first / h.snap.chunk)) } in x)) kind

refused_same : (number : ℕ) (r : Going) → kind_of r.request ≡ OriginFlush → refused number r ≡ r
refused_same number r kind = ap (λ (k : Kind). (let x : Going = record r { route = refused_route_of (number ∷ []) k r.route } in x)) kind

module _ (n : ℕ) where
  abbrev pub mine : ℕ → Going → Bool
  mine m k = k.number == m

  -- the request of the number, if it is a flush of the origin, is as it was
  abbrev pub KeepsIn : List Going → List Going → Type 0
  KeepsIn xs ys = (r : Going) → first_that (mine n) xs ≡ Some r → kind_of r.request ≡ OriginFlush → first_that (mine n) ys ≡ Some r

  mapped : (f : Going → Going) (xs : List Going) → ((k : Going) → (f k).number ≡ k.number) → ((k : Going) → kind_of k.request ≡ OriginFlush → f k ≡ k) → KeepsIn xs (map f xs)
  mapped f [] number same r e kind = e
  mapped f (x ∷ xs) number same r e kind = elim (cases_Bool (x.number == n)) [
    | inl here ↦
        (let at : Some x ≡ Some r = sym (cond-true _ _ _ here) ∙ e in
        let is : x ≡ r = cc in
        cond-true _ _ _ (ap (λ k. k == n) (number x) ∙ here) ∙ ap Some (same x (ap (λ (k : Going). kind_of k.request) is ∙ kind) ∙ is))
    | inr there ↦ cond-false _ _ _ (ap (λ k. k == n) (number x) ∙ there) ∙ mapped f xs number same r (sym (cond-false _ _ _ there) ∙ e) kind
  ]

  other : (m k : ℕ) → (m == n) ≡ false → (k == m) ≡ true → (k == n) ≡ false
  other m k ne same = ap (λ i. i == n) (eqb-true k m same) ∙ ne

  -- one more in front, the same in both
  behind : (x : Going) (xs ys : List Going) → KeepsIn xs ys → KeepsIn (x ∷ xs) (x ∷ ys)
  behind x xs ys keeps r e kind = elim (cases_Bool (x.number == n)) [
    | inl here ↦ cond-true _ _ _ here ∙ sym (cond-true _ _ _ here) ∙ e
    | inr there ↦ cond-false _ _ _ there ∙ keeps r (sym (cond-false _ _ _ there) ∙ e) kind
  ]

  dropped : (m : ℕ) → (m == n) ≡ false → (xs : List Going) → KeepsIn xs (without_first (mine m) xs)
  dropped m ne [] r e kind = e
  dropped m ne (x ∷ xs) r e kind = elim (cases_Bool (x.number == m)) [
    | inl gone ↦ ap (first_that (mine n)) (cond-true _ _ _ gone) ∙ sym (cond-false _ _ _ (other m x.number ne gone)) ∙ e
    | inr stays ↦ ap (first_that (mine n)) (cond-false _ _ _ stays) ∙ behind x xs (without_first (mine m) xs) (dropped m ne xs) r e kind
  ]

  replaced : (m : ℕ) (y : Going) → (m == n) ≡ false → y.number ≡ m → (xs : List Going) → KeepsIn xs (with_first (mine m) y xs)
  replaced m y ne is [] r e kind = e
  replaced m y ne is (x ∷ xs) r e kind = elim (cases_Bool (x.number == m)) [
    | inl gone ↦ ap (first_that (mine n)) (cond-true _ _ _ gone) ∙ cond-false _ _ _ (ap (λ i. i == n) is ∙ ne) ∙ sym (cond-false _ _ _ (other m x.number ne gone)) ∙ e
    | inr stays ↦ ap (first_that (mine n)) (cond-false _ _ _ stays) ∙ behind x xs (with_first (mine m) y xs) (replaced m y ne is xs) r e kind
  ]

  pushed : (xs : List Going) (y : Going) → KeepsIn xs (xs ++ y ∷ [])
  pushed [] y r e kind = absurd (none_some r e)
  pushed (x ∷ xs) y r e kind = behind x xs (xs ++ y ∷ []) (pushed xs y) r e kind

  -- the machine
  abbrev pub Keeps : Moving → Moving → Type 0
  Keeps v w = KeepsIn v.requests w.requests

  -- requests of a snapshot that is spoiled are refused
  pub refuses : (number : ℕ) (xs : List Going) → KeepsIn xs (map (refused number) xs)
  refuses number xs = mapped (refused number) xs (λ k. refl) (refused_same number)

  pub same : (v : Moving) → Keeps v v
  same v r e kind = e

  pub after : (u v w : Moving) → Keeps u v → Keeps v w → Keeps u w
  after u v w first second r e kind = second r (first r e kind) kind

  if_keeps : (b : Bool) (x y v : Moving) → Keeps v x → Keeps v y → Keeps v (if b then x else y)
  if_keeps true x y v a c = a
  if_keeps false x y v a c = c

  for_keeps : {X : Type 0} (o : Option X) (f : X → Moving) (rest v : Moving) → ((x : X) → o ≡ Some x → Keeps v (f x)) → Keeps v rest → Keeps v (for_some o f rest)
  for_keeps None f rest v a c = c
  for_keeps (Some x) f rest v a c = a x refl

  spoil_keeps : (test : SnapHeld → Bool) (h : SnapHeld) (v : Moving) → Keeps v (spoil test h v)
  spoil_keeps test h v = mapped (refused h.snap.number) v.requests (λ k. refl) (refused_same h.snap.number)

  rerouted_keeps : (v : Moving) → Keeps v (rerouted v)
  rerouted_keeps v = mapped (again v.merge v.snaps) v.requests (λ k. refl) (again_same v.merge v.snaps)

  -- by a test that decides between two
  store_keeps : (test : SnapHeld → Bool) (h : SnapHeld) (op : Operation) (bytes : List ℕ) (next : SnapHeld → SnapHeld) (v : Moving) → Keeps v (store_write test h op bytes next v)
  store_keeps test h op bytes next v =
      let done : SnapHeld = with_store h (written_by h.snap.store op bytes) in
      if_keeps (answers h.snap.store op) (put test (next done) v) (spoil test done v) v (same v) (spoil_keeps test done v)

  read_copy_keeps : (test : SnapHeld → Bool) (its : Copying → Bool) (h : SnapHeld) (p : Copying) (v : Moving) → Keeps v (read_copy test its h p v)
  read_copy_keeps test its h p v =
      let count : ℕ = count_of h.snap.chunk (sectors_of v.origin) p.pair.old in
      let op : Operation = Reads (h.snap.chunk * p.pair.old) count in
      let read : Copying = record p { stage = IsRead; bytes = sectors_at v.origin.bytes (h.snap.chunk * p.pair.old) count } in
      let w : Moving = record v { origin = met v.origin op } in
      if_keeps (answers v.origin op) (put test (record h { copies = with_first its read h.copies }) w) (spoil test h w) v (same v) (spoil_keeps test h w)

  zero_keeps : (test : SnapHeld → Bool) (h : SnapHeld) (v : Moving) → Keeps v (zero_next test h v)
  zero_keeps test h v =
      let a : ℕ = length h.pairs / (32 * h.snap.chunk) + 1 in
      let write : Moving = store_write test h (Writes (h.snap.chunk * area_place h.snap.chunk a) h.snap.chunk) (zeroed h.snap.chunk h.snap.store.bytes a) (λ x. record x { zeroed = true; firm = false }) v in
      if_keeps (lacks_area a h.snap) (spoil test h v) write v (spoil_keeps test h v)
      (store_keeps test h (Writes (h.snap.chunk * area_place h.snap.chunk a) h.snap.chunk) (zeroed h.snap.chunk h.snap.store.bytes a) (λ x. record x { zeroed = true; firm = false }) v)

  publish_keeps : (test : SnapHeld → Bool) (its : Mark → Bool) (h : SnapHeld) (v : Moving) → Keeps v (publish test its h v)
  publish_keeps test its h v =
      let marked : SnapHeld = record h { marks = without_first its h.marks } in
      let w : Moving = record v { snaps = with_first test marked v.snaps; requests = map (placed marked) v.requests } in
      after v w (rerouted w) (mapped (placed marked) v.requests (λ k. refl) (placed_same marked)) (rerouted_keeps w)

  mark_keeps : (test : SnapHeld → Bool) (h : SnapHeld) (v : Moving) → Keeps v (mark_invalid test h v)
  mark_keeps test h v =
      let op : Operation = Writes 0 h.snap.chunk in
      let done : SnapHeld = with_store h (written_by h.snap.store op (marked h.snap.chunk h.snap.store.bytes)) in
      let failed : Moving = put test (record done { snap = record done.snap { stale = true }; untried = false }) v in
      if_keeps (answers h.snap.store op) (put test (record done { marked = true }) v) (rerouted failed) v (same v) (rerouted_keeps failed)

  flush_keeps : (test : SnapHeld → Bool) (h : SnapHeld) (v : Moving) → Keeps v (flush_store test h v)
  flush_keeps test h v =
      let done : SnapHeld = with_store h (met h.snap.store Flushes) in
      let tried : Moving = put test (record done { snap = record done.snap { stale = not (answers h.snap.store Flushes) }; untried = false }) v in
      let live : Moving = if answers h.snap.store Flushes then put test (flushed_held done) v else spoil test done v in
      if_keeps h.marked (rerouted tried) live v (rerouted_keeps tried) (if_keeps (answers h.snap.store Flushes) (put test (flushed_held done) v) (spoil test done v) v (same v) (spoil_keeps test done v))

  on_copy_keeps : (stage : Stage) (m : ℕ) (f : (SnapHeld → Bool) → (Copying → Bool) → SnapHeld → Copying → Moving → Moving) (v : Moving) → ((test : SnapHeld → Bool) (its : Copying → Bool) (h : SnapHeld) (p : Copying) → Keeps v (f test its h p v)) → Keeps v (on_copy stage m f v)
  on_copy_keeps stage m f v each =
      let test : SnapHeld → Bool = λ k. list_any (is_copy stage m) k.copies in
      for_keeps (first_that test v.snaps) (λ h. for_some (first_that (is_copy stage m) h.copies) (λ p. f test (is_copy stage m) h p v) v) v v
      (λ h at. for_keeps (first_that (is_copy stage m) h.copies) (λ p. f test (is_copy stage m) h p v) v v (λ p is. each test (is_copy stage m) h p) (same v)) (same v)

  on_snap_keeps : (test : SnapHeld → Bool) (f : (SnapHeld → Bool) → SnapHeld → Moving → Moving) (v : Moving) → ((h : SnapHeld) → Keeps v (f test h v)) → Keeps v (on_snap test f v)
  on_snap_keeps test f v each = for_keeps (first_that test v.snaps) (λ h. f test h v) v v (λ h at. each h) (same v)

  -- an Issue of another request
  module _ (m : ℕ) (ne : (m == n) ≡ false) where
    on_store_keeps : (op : Op) (first count : ℕ) (test : SnapHeld → Bool) (h : SnapHeld) (v : Moving) → Keeps v (on_store op first count (mine m) test h v)
    on_store_keeps ReadOp first count test h v = dropped m ne v.requests
    on_store_keeps (WriteOp bytes) first count test h v = dropped m ne v.requests
    on_store_keeps FlushOp first count test h v = same v

    disk_keeps : (op : Op) (first count : ℕ) (v : Moving) → Keeps v (on_disk op first count (mine m) v)
    disk_keeps ReadOp first count v = dropped m ne v.requests
    disk_keeps (WriteOp bytes) first count v = dropped m ne v.requests
    disk_keeps FlushOp first count v = dropped m ne v.requests

    on_merging_keeps : (op : Op) (first count : ℕ) (g : MergeHeld) (v : Moving) → Keeps v (on_merging op first count (mine m) g v)
    on_merging_keeps ReadOp first count g v = dropped m ne v.requests
    on_merging_keeps (WriteOp bytes) first count g v = dropped m ne v.requests
    on_merging_keeps FlushOp first count g v = same v

    place_keeps : (dev : Dev) (op : Op) (place first count : ℕ) (v : Moving) → Keeps v (on_place dev op place first count (mine m) v)
    place_keeps ToOrigin op place first count v = for_keeps v.merge (λ g. on_merging op (g.merge.chunk * place + first % g.merge.chunk) count (mine m) g v) v v (λ g is. on_merging_keeps op (g.merge.chunk * place + first % g.merge.chunk) count g v) (same v)
    place_keeps (ToSnap k) op place first count v =
        let test : SnapHeld → Bool = λ h. h.snap.number == k in
        for_keeps (first_that test v.snaps) (λ h. on_store op (h.snap.chunk * place + first % h.snap.chunk) count (mine m) test h v) v v (λ h at. on_store_keeps op (h.snap.chunk * place + first % h.snap.chunk) count test h v) (same v)

    merging_keeps : (r : Going) (g : MergeHeld) (v : Moving) → r.number ≡ m → Keeps v (flush_merging (mine m) r g v)
    merging_keeps r g v is =
        let w : Moving = with_merge (on_device g (met g.merge.store Flushes)) v in
        if_keeps (answers g.merge.store Flushes) (record w { requests = with_first (mine m) (record r { route = Origin }) w.requests }) (answer (mine m) (Declined Io) w) v
        (replaced m (record r { route = Origin }) ne is v.requests) (dropped m ne v.requests)

    asked_keeps : (test : SnapHeld → Bool) (h : SnapHeld) (v : Moving) → Keeps v (flush_asked (mine m) test h v)
    asked_keeps test h v =
        let done : SnapHeld = with_store h (met h.snap.store Flushes) in
        if_keeps (answers h.snap.store Flushes) (answer (mine m) Flushed (put test (flushed_held done) v)) (answer (mine m) (Declined Io) (put test done v)) v (dropped m ne v.requests) (dropped m ne v.requests)

    whole_keeps : (dev : Dev) (r : Going) (v : Moving) → r.number ≡ m → Keeps v (on_whole dev (mine m) r v)
    whole_keeps ToOrigin r v is = for_keeps v.merge (λ g. flush_merging (mine m) r g v) v v (λ g at. merging_keeps r g v is) (same v)
    whole_keeps (ToSnap k) r v is =
        let test : SnapHeld → Bool = λ h. h.snap.number == k in
        for_keeps (first_that test v.snaps) (λ h. flush_asked (mine m) test h v) v v (λ h at. asked_keeps test h v) (same v)

    issue_keeps : (route : Route) (r : Going) (v : Moving) → r.number ≡ m → Keeps v (issue route (mine m) r v)
    issue_keeps Waits r v is = same v
    issue_keeps Origin r v is = disk_keeps r.request.op r.request.range.first r.request.range.count v
    issue_keeps (Store place) r v is = place_keeps r.request.dev r.request.op place r.request.range.first r.request.range.count v
    issue_keeps Whole r v is = whole_keeps r.request.dev r v is
    issue_keeps Refused r v is = dropped m ne v.requests

    issued_keeps : (v : Moving) → Keeps v (stepped (Issue m) v)
    issued_keeps v = for_keeps (first_that (λ r. (r.number == m) && is_issuable r) v.requests) (λ r. issue r.route (mine m) r v) v v
        (λ r at. issue_keeps r.route r v (eqb-true r.number m (and_first (r.number == m) (is_issuable r) (first_passes (λ k. (k.number == m) && is_issuable k) v.requests r at)))) (same v)

  -- copies are started
  refused_by_keeps : (at : SnapHeld → ℕ) (snaps : List SnapHeld) (xs : List Going) → KeepsIn xs (refused_by at snaps xs)
  refused_by_keeps at [] xs r e kind = e
  refused_by_keeps at (h ∷ snaps) xs r e kind = elim (cases_Bool (needs_none (at h) h || not (is_filled h))) [
    | inl stays ↦ ap (first_that (mine n)) (cond-true _ _ _ stays) ∙ refused_by_keeps at snaps xs r e kind
    | inr spoils ↦ ap (first_that (mine n)) (cond-false _ _ _ spoils) ∙ refused_by_keeps at snaps (map (refused h.snap.number) xs) r (mapped (refused h.snap.number) xs (λ k. refl) (refused_same h.snap.number) r e kind) kind
  ]

  start_keeps : (at : SnapHeld → ℕ) (v : Moving) → Keeps v (start_copies at v)
  start_keeps at v = refused_by_keeps at v.snaps v.requests

  next_keeps : (chunk : ℕ) (o : Option Pair) (v : Moving) → Keeps v (start_next chunk o v)
  next_keeps chunk None v = same v
  next_keeps chunk (Some q) v = start_keeps (next_over (chunk * q.old) (count_of chunk (sectors_of v.origin) q.old)) v

  waiting_keeps : (v : Moving) → Keeps v (start_waiting v)
  waiting_keeps v = for_keeps v.merge (λ g. start_next g.merge.chunk (next_of g) v) v v (λ g is. next_keeps g.merge.chunk (next_of g) v) (same v)

  end_keeps : (g : MergeHeld) (v : Moving) → Keeps v (end_group g v)
  end_keeps g v = rerouted_keeps (with_merge (without_group g) v)

  stop_keeps : (g : MergeHeld) (v : Moving) → Keeps v (stop g v)
  stop_keeps g v = end_keeps (record g { merge = record g.merge { failed = true } }) v

  read_keeps : (o : Option Pair) (g : MergeHeld) (v : Moving) → Keeps v (read_chunk o g v)
  read_keeps None g v = same v
  read_keeps (Some q) g v =
      let place : ℕ = g.merge.chunk * q.new in
      let op : Operation = Reads place (sectors_in q g v) in
      let done : MergeHeld = on_device g (met g.merge.store op) in
      if_keeps (answers g.merge.store op) (with_merge (record done { waiting = without_last g.waiting; reading = q ∷ []; buffer = sectors_at g.merge.store.bytes place (sectors_in q g v) }) v) (stop done v) v (same v) (stop_keeps done v)

  write_keeps : (qs : List Pair) (g : MergeHeld) (v : Moving) → Keeps v (write_chunk qs g v)
  write_keeps [] g v = same v
  write_keeps (q ∷ qs) g v =
      let first : ℕ = g.merge.chunk * q.old in
      let op : Operation = Writes first (sectors_in q g v) in
      let w : Moving = record v { origin = written_by v.origin op (with_sectors v.origin.bytes first g.buffer) } in
      let u : Moving = with_merge (record g { reading = []; buffer = []; copied = q ∷ g.copied }) w in
      if_keeps (answers v.origin op) (start_next g.merge.chunk (last_of g.waiting) u) (stop g w) v (next_keeps g.merge.chunk (last_of g.waiting) u) (stop_keeps g w)

  form_keeps : (g : MergeHeld) (v : Moving) → Keeps v (form_group g v)
  form_keeps g v =
      let group : List Pair = last_run (in_area g) in
      next_keeps g.merge.chunk (last_of group) (with_merge (record g { waiting = group }) v)

  area_keeps : (g : MergeHeld) (v : Moving) → Keeps v (read_area g v)
  area_keeps g v =
      let op : Operation = Reads (g.merge.chunk * area_place g.merge.chunk (g.merge.current - 1)) g.merge.chunk in
      let done : MergeHeld = on_device g (met g.merge.store op) in
      if_keeps (answers g.merge.store op) (with_merge (record done { merge = record done.merge { current = g.merge.current - 1 } }) v) (stop done v) v (same v) (stop_keeps done v)

  disk_flush_keeps : (g : MergeHeld) (v : Moving) → Keeps v (flush_origin g v)
  disk_flush_keeps g v =
      let w : Moving = record v { origin = met v.origin Flushes } in
      if_keeps (answers v.origin Flushes) (with_merge (record g { flushed = true }) w) (stop g w) v (same v) (stop_keeps g w)

  commit_keeps : (g : MergeHeld) (v : Moving) → Keeps v (commit_group g v)
  commit_keeps g v =
      let count : ℕ = length g.copied in
      let kept : ℕ = length (in_area g) - count in
      let op : Operation = Writes (g.merge.chunk * area_place g.merge.chunk g.merge.current) g.merge.chunk in
      let done : MergeHeld = on_device g (written_by g.merge.store op (without_slots g.merge.chunk g.merge.store.bytes g.merge.current kept count)) in
      let committed : Moving = with_merge (record done { merge = record done.merge { next = area_place g.merge.chunk g.merge.current + kept + 1 }; pairs = take (length g.pairs - count) g.pairs; copied = []; released = g.copied }) v in
      if_keeps (answers g.merge.store op) committed (stop done v) v (same v) (stop_keeps done v)

  on_merge_keeps : (test : MergeHeld → Bool) (f : MergeHeld → Moving → Moving) (v : Moving) → ((g : MergeHeld) → Keeps v (f g v)) → Keeps v (on_merge test f v)
  on_merge_keeps test f v each = for_keeps v.merge (λ g. if test g then f g v else v) v v (λ g is. if_keeps (test g) (f g v) v v (each g) (same v)) (same v)

  published_keeps : (m : ℕ) (v : Moving) → Keeps v (stepped (Publish m) v)
  published_keeps m v = on_snap_keeps (publishes v.requests m) (λ test h. publish test (λ k. k.number == m) h) v (λ h. publish_keeps (publishes v.requests m) (λ k. k.number == m) h v)

  area_written : (test : SnapHeld → Bool) (h : SnapHeld) (v : Moving) → Keeps v (commit (batch_of h) test h v)
  area_written test h v =
      let k : ℕ = length h.pairs in
      let now : List Copying = take (batch_of h) h.copies in
      let room : Bool = not (filled_of h + batch_of h == 32 * h.snap.chunk) in
      store_keeps test h (Writes (h.snap.chunk * area_place h.snap.chunk (k / (32 * h.snap.chunk))) h.snap.chunk) (all_paired h.snap.chunk h.snap.store.bytes k (map pair_of now))
      (λ x. record x { pairs = x.pairs ++ map pair_of now; copies = drop (batch_of h) x.copies; marks = x.marks ++ map mark_of now; zeroed = x.zeroed && room; firm = x.firm && room }) v

  copy_written : (test : SnapHeld → Bool) (its : Copying → Bool) (h : SnapHeld) (p : Copying) (v : Moving) → Keeps v (write_copy test its h p v)
  copy_written test its h p v = store_keeps test h (Writes (h.snap.chunk * p.pair.new) (count_of h.snap.chunk (sectors_of v.origin) p.pair.old)) (with_sectors h.snap.store.bytes (h.snap.chunk * p.pair.new) p.bytes)
      (λ x. record x { copies = with_first its (record p { stage = IsWritten }) x.copies }) v

  -- Any event but its own Issue.
  pub event_keeps : (event : Event) (v : Moving) → ((m : ℕ) → event ≡ Issue m → (m == n) ≡ false) → Keeps v (stepped_all event v)
  event_keeps (WriteInvalid m) v ne = on_snap_keeps (λ h. (h.snap.number == m) && can_mark h) mark_invalid v (λ h. mark_keeps (λ k. (k.snap.number == m) && can_mark k) h v)
  event_keeps (FlushStore m) v ne = on_snap_keeps (λ h. (h.snap.number == m) && can_flush_store h) flush_store v (λ h. flush_keeps (λ k. (k.snap.number == m) && can_flush_store k) h v)
  event_keeps (Publish m) v ne = for_keeps (first_that (publishes v.requests m) v.snaps) (λ h. start_waiting (stepped (Publish m) v)) v v
      (λ h at. after v (stepped (Publish m) v) (start_waiting (stepped (Publish m) v)) (published_keeps m v) (waiting_keeps (stepped (Publish m) v))) (same v)
  event_keeps (WriteArea m) v ne = on_snap_keeps (λ h. (h.snap.number == m) && can_commit h) (λ test h. commit (batch_of h) test h) v (λ h. area_written (λ k. (k.snap.number == m) && can_commit k) h v)
  event_keeps (ZeroNext m) v ne = on_snap_keeps (λ h. (h.snap.number == m) && can_zero h) zero_next v (λ h. zero_keeps (λ k. (k.snap.number == m) && can_zero k) h v)
  event_keeps (CopyWrite m) v ne = on_copy_keeps IsRead m write_copy v (λ test its h p. copy_written test its h p v)
  event_keeps (CopyRead m) v ne = on_copy_keeps IsWaiting m read_copy v (λ test its h p. read_copy_keeps test its h p v)
  event_keeps (Issue m) v ne = issued_keeps m (ne m refl) v
  event_keeps MergeGroup v ne = on_merge_keeps can_group form_group v (λ g. form_keeps g v)
  event_keeps MergeAreaRead v ne = on_merge_keeps can_read_area read_area v (λ g. area_keeps g v)
  event_keeps MergeRead v ne = on_merge_keeps (can_read v.requests) (λ g. read_chunk (last_of g.waiting) g) v (λ g. read_keeps (last_of g.waiting) g v)
  event_keeps MergeWrite v ne = on_merge_keeps (can_write (sectors_of v.origin) v.snaps) (λ g. write_chunk g.reading g) v (λ g. write_keeps g.reading g v)
  event_keeps MergeFlush v ne = on_merge_keeps can_flush flush_origin v (λ g. disk_flush_keeps g v)
  event_keeps MergeCommit v ne = on_merge_keeps can_commit_group commit_group v (λ g. commit_keeps g v)
  event_keeps MergeRelease v ne = on_merge_keeps (can_release v.requests) end_group v (λ g. end_keeps g v)

  -- A request that is accepted, or refused.
  accepted_keeps : (number : ℕ) (request : Request) (route : Route) (v : Moving) → Keeps v (accepted number request route v)
  accepted_keeps number request route v = pushed v.requests (record { number = number; request = request; route = route })

  origin_keeps : (number : ℕ) (request : Request) (v : Moving) → Keeps v (write_origin number request v)
  origin_keeps number request v =
      let first : ℕ = request.range.first in
      let free : Bool = is_grouped v.merge first || is_some (merged_place v.merge first) in
      let w : Moving = if free then v else start_copies (chunk_at first) v in
      after v w (accepted number request (write_route w.merge w.snaps first) w) (if_keeps free v (start_copies (chunk_at first) v) v (same v) (start_keeps (chunk_at first) v)) (accepted_keeps number request (write_route w.merge w.snaps first) w)

  held_keeps : (number : ℕ) (request : Request) (test : SnapHeld → Bool) (h : SnapHeld) (v : Moving) → Keeps v (write_held number request test h v)
  held_keeps number request test h v =
      let c : ℕ = request.range.first / h.snap.chunk in
      let started : Moving = put test (with_copy (v.started + 1) c h) (record v { started = v.started + 1 }) in
      let full : Moving = declined Invalid (spoil test h v) in
      if_keeps (needs_none c h) (accepted number request Waits v) (if is_filled h then full else accepted number request Waits started) v (accepted_keeps number request Waits v)
      (if_keeps (is_filled h) full (accepted number request Waits started) v (spoil_keeps test h v) (accepted_keeps number request Waits started))

  placed_keeps : (number : ℕ) (request : Request) (test : SnapHeld → Bool) (h : SnapHeld) (o : Option ℕ) (v : Moving) → Keeps v (write_placed number request test h o v)
  placed_keeps number request test h (Some place) v = accepted_keeps number request (Store place) v
  placed_keeps number request test h None v = held_keeps number request test h v

  open_keeps : (number : ℕ) (request : Request) (test : SnapHeld → Bool) (h : SnapHeld) (v : Moving) → Keeps v (write_open number request test h v)
  open_keeps number request test h v =
      let o : Option ℕ = published_place h.pairs h.marks (request.range.first / h.snap.chunk) in
      if_keeps h.snap.live (write_placed number request test h o v) (declined Invalid v) v (placed_keeps number request test h o v) (same v)

  snap_keeps : (number : ℕ) (request : Request) (test : SnapHeld → Bool) (h : SnapHeld) (v : Moving) → Keeps v (write_snap number request test h v)
  snap_keeps number request test h v =
      if_keeps (shuts (request.range.first / h.snap.chunk) h) (declined Overflow (put test (overflown h) v)) (write_open number request test h v) v (same v) (open_keeps number request test h v)

  submitted_as_keeps : (kind : Kind) (number : ℕ) (request : Request) (v : Moving) → Keeps v (submitted_as kind number request v)
  submitted_as_keeps OriginRead number request v = accepted_keeps number request (read_route_of (merged_place v.merge request.range.first)) v
  submitted_as_keeps OriginWrite number request v = origin_keeps number request v
  submitted_as_keeps OriginFlush number request v = accepted_keeps number (kept request) (flush_route_of (is_some v.merge)) v
  submitted_as_keeps (SnapRead k) number request v = for_keeps (first_that (λ h. h.snap.number == k) v.snaps) (λ h. read_snap number request h v) (declined Invalid v) v
      (λ h at. if_keeps h.snap.live (accepted number request (read_route_of (place_of h.pairs (request.range.first / h.snap.chunk))) v) (declined Invalid v) v (accepted_keeps number request (read_route_of (place_of h.pairs (request.range.first / h.snap.chunk))) v) (same v)) (same v)
  submitted_as_keeps (SnapWrite k) number request v = for_keeps (first_that (λ h. h.snap.number == k) v.snaps) (λ h. write_snap number request (λ i. i.snap.number == k) h v) (declined Invalid v) v (λ h at. snap_keeps number request (λ i. i.snap.number == k) h v) (same v)
  submitted_as_keeps (SnapFlush k) number request v = for_keeps (first_that (λ h. h.snap.number == k) v.snaps) (λ h. flush_snap number (kept request) h v) (declined Invalid v) v
      (λ h at. if_keeps h.snap.live (accepted number (kept request) Whole v) (declined Invalid v) v (accepted_keeps number (kept request) Whole v) (same v)) (same v)

  pub submit_keeps : (number : ℕ) (request : Request) (v : Moving) → Keeps v (submitted number request v)
  submit_keeps number request v = submitted_as_keeps (kind_of request) number request v

  -- Its own Issue at the merging store does not answer that it is flushed.
  first_both : (xs : List Going) (r : Going) → first_that (mine n) xs ≡ Some r → is_issuable r ≡ true → first_that (λ (k : Going). (k.number == n) && is_issuable k) xs ≡ Some r
  first_both [] r e can = absurd (none_some r e)
  first_both (x ∷ xs) r e can = elim (cases_Bool (x.number == n)) [
    | inl here ↦
        (let at : Some x ≡ Some r = sym (cond-true _ _ _ here) ∙ e in
        let is : x ≡ r = cc in
        cond-true _ _ _ (ap (λ b. b && is_issuable x) here ∙ ap is_issuable is ∙ can) ∙ at)
    | inr there ↦ cond-false _ _ _ (ap (λ b. b && is_issuable x) there) ∙ first_both xs r (sym (cond-false _ _ _ there) ∙ e) can
  ]

  not_flushed : (b : Bool) (x y : Moving) → x.replied ≡ None → y.replied ≡ Some (Declined Io) → (if b then x else y).replied ≡ Some Flushed → ⊥
  not_flushed true x y a c e = (let no : None ≡ Some Flushed = sym a ∙ e in cc)
  not_flushed false x y a c e = (let no : Some (Declined Io) ≡ Some Flushed = sym c ∙ e in cc)

  pub merging_unanswered : (v : Moving) (r : Going) (g : MergeHeld) → first_that (mine n) v.requests ≡ Some r → r.route ≡ Whole → r.request.dev ≡ ToOrigin → v.merge ≡ Some g → v.replied ≡ None → (stepped_all (Issue n) v).replied ≡ Some Flushed → ⊥
  merging_unanswered v r g at route dev merge none e =
      let found : first_that (λ (k : Going). (k.number == n) && is_issuable k) v.requests ≡ Some r = first_both v.requests r at (ap is_routed route) in
      let one : (for_some (first_that (λ (k : Going). (k.number == n) && is_issuable k) v.requests) (λ k. issue k.route (mine n) k v) v).replied ≡ (issue r.route (mine n) r v).replied =
      ap (λ (o : Option Going). (for_some o (λ k. issue k.route (mine n) k v) v).replied) found in
      let two : (issue r.route (mine n) r v).replied ≡ (on_whole r.request.dev (mine n) r v).replied = ap (λ (t : Route). (issue t (mine n) r v).replied) route in
      let three : (on_whole r.request.dev (mine n) r v).replied ≡ (for_some v.merge (λ m. flush_merging (mine n) r m v) v).replied = ap (λ (d : Dev). (on_whole d (mine n) r v).replied) dev in
      let four : (for_some v.merge (λ m. flush_merging (mine n) r m v) v).replied ≡ (flush_merging (mine n) r g v).replied = ap (λ (o : Option MergeHeld). (for_some o (λ m. flush_merging (mine n) r m v) v).replied) merge in
      let w : Moving = with_merge (on_device g (met g.merge.store Flushes)) v in
      not_flushed (answers g.merge.store Flushes) (record w { requests = with_first (mine n) (record r { route = Origin }) w.requests }) (answer (mine n) (Declined Io) w) none refl (sym (one ∙ two ∙ three ∙ four) ∙ e)
