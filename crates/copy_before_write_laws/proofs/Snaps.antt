-- Why what becomes of a snapshot saves first: what its books keep.
use Rattle.std.proofs.Common.{◌≡◌, ◌≢◌, ◌⊎◌, inl, inr, ℕ, zero, suc, ◌+◌, ◌*◌, ◌/◌, ◌%◌, ◌<◌, ◌≤◌, Bool, true, false, List, [], ◌∷◌, length, map, take, get_or, None, Ok, refl, arith, ap, ◌∙◌, sym, subst}
use Rattle.std.specs.Prelude.{◌&&◌, if◌then◌else◌}
use Rattle.std.proofs.lemmas.Nat.{mod_below}
use Rattle.std.specs.List.{All, prefix_len}
use Rattle.std.proofs.lemmas.Bool.{cases_Bool, false≢true}
use Rattle.std.proofs.lemmas.Bool.Decides.{nat_tests}
use Rattle.std.proofs.lemmas.List.{get_or-map, get_or-take, length-map, length-take}
use Rattle.std.proofs.lemmas.List.Sums.{prefix_len_passes, prefix_len-le-length}
use Rattle.sector.specs.Bytes.{sector_at, with_sectors}
use Rattle.sector.specs.declared.pair.Pair.{Pair}
use Rattle.cow_header.specs.HeaderText.{found_in}
use Rattle.cow_header.specs.declared.found.Found.TheVariants.{Header}
use Rattle.cow_format.specs.Places.{slot, area_place, chunk_at}
use Rattle.cow_format.specs.Pairs.{pairs_of, AreWellFormed}
use Rattle.cow_format.specs.Picture.{place_of, IsCopied}
use Rattle.in_flight.specs.Due.{is_stage}
use Rattle.in_flight.specs.Kinds.{kind_of}
use Rattle.in_flight.specs.declared.copies.ChunkCopy.{ChunkCopy}
use Rattle.in_flight.specs.declared.copies.Stage.{Stage}
use Rattle.in_flight.specs.declared.copies.Stage.TheVariants.{Waiting, Read, Written, Flushed}
use Rattle.in_flight.specs.declared.flights.Flight.{Flight}
use Rattle.in_flight.specs.declared.flights.Kind.TheVariants.{OriginWrite}
use Rattle.in_flight.specs.declared.flights.Route.TheVariants.{Origin}
use Rattle.plain_machine.specs.declared.event.Event.{Event}
use Rattle.volume_laws.specs.Books.{SnapBooks}
use Rattle.volume_laws.specs.Published.{IsSavedOver}
use Rattle.volume_laws.specs.Held.{LiveHolds, RouteHolds, SnapHolds, UntriedHolds, is_stored}
use Rattle.volume_laws.proofs.Bytes.{sector_in}
use Rattle.volume_laws.proofs.Stores.{apart_from_pairs, copy_holds, inside_at}
use Rattle.cache_loss_laws.proofs.Copied.{none_before}
use Rattle.event_machine.specs.Held.{Copying, SnapHeld, Going}
use Rattle.event_machine.specs.Due.{batch_of, is_front_ready, is_ready}
use Rattle.event_machine.specs.Stepping.{pair_of}
use Rattle.event_machine.specs.Seen.{Seen, copying_of, held_of}
use Rattle.copy_before_write_laws.proofs.Changes.{IsStill, IsCopyWritten, IsZeroed, IsCommitted, IsMarked, IsWrittenBy, IsChanged, Stays, Copied, Zeroed, Committed, Marked, Issued, committed_now}
use Rattle.copy_before_write_laws.proofs.Writes.{IsBeside, IsSafe, same_pairs, copy_safe, zero_safe, mark_safe, commit_safe}

none_here : {X : Type 0} (xs : List X) (k : ℕ) → xs ≡ [] → k < length xs → ⊥
none_here xs k none lt = omega (arith, lt, ap length none)

none_ready : (copies : List Copying) → copies ≡ [] → is_front_ready copies ≡ true → ⊥
none_ready copies none ready = false≢true (sym (ap is_front_ready none) ∙ ready)

stored : (stage : Stage) → is_stage Flushed stage ≡ true → is_stored stage ≡ true
stored Waiting e = absurd (false≢true e)
stored Read e = absurd (false≢true e)
stored Written e = refl
stored Flushed e = refl

-- what stands at an index
pub there_is : {X : Type 0} (xs : List X) (k : ℕ) → k < length xs → (x : X) × (x ≡ get_or xs k x)
there_is [] k lt = absurd (omega (arith, lt))
there_is (x ∷ xs) zero lt = (x, refl)
there_is (x ∷ xs) (suc k) lt = there_is xs k (omega (arith, lt))

-- a copy's bytes are no more than a chunk's
shorter : (p : ChunkCopy) (n : ℕ) → length p.buffer.items ≤ n → length (copying_of p).bytes ≤ n
shorter p n few = by (is_stage Waiting p.stage)
  where
    by : (b : Bool) → length (if b then [] else p.buffer.items) ≤ n
    by true = omega arith
    by false = few

-- A snapshot among these requests, over an origin and a store that drop no writes: what its books and what lasts of it say.
pub record IsSeen (sectors size : ℕ) (o : List ℕ) (rs : List Flight) (b : SnapBooks) : Type 0 where
  pub some : 0 < b.chunk
  pub holds : SnapHolds true o rs b
  pub loud : b.loud ≡ true
  pub long : length b.store ≡ 512 * size
  pub formed : AreWellFormed b.chunk sectors size b.pairs
  pub listed : pairs_of b.chunk b.store ≡ b.pairs
  pub past : b.live ≡ true → (k : ℕ) → length b.pairs ≤ k → k < (length b.pairs / (32 * b.chunk) + 1) * (32 * b.chunk) → (slot b.chunk b.store k).new ≡ 0
  pub good : b.untried ≡ true → b.marked ≡ false → found_in (sector_at b.store 0) ≡ Ok (Header b.chunk)

module _ (sectors size : ℕ) (o : List ℕ) (rs : List Flight) (s : Seen) (seen : IsSeen sectors size o rs s.due.books) (event : Event) (gs : List Going) (t : SnapHeld)
    (inside' : All (IsBeside s.due.books.chunk) t.pairs) (listed' : pairs_of s.due.books.chunk t.snap.store.bytes ≡ t.pairs) where
  abbrev b : SnapBooks
  b = s.due.books

  abbrev h : SnapHeld
  h = held_of s

  -- What a store may become: a write of one chunk that no pair names.
  abbrev Safe : Type 0
  Safe = (qs : List Pair) × IsSafe b.chunk o b.store t.snap.store.bytes b.pairs qs

  alive : b.live ≡ true → LiveHolds true o rs b
  alive live = seen.holds.alive live

  room : b.chunk ≤ size
  room = let n : ℕ = length b.pairs / (32 * b.chunk) in
      let up : b.chunk * (area_place b.chunk n + 1) ≡ b.chunk * area_place b.chunk n + b.chunk = grind arith in
      let r = seen.formed.room in omega (arith, r, up)

  kept_inside : t.pairs ≡ b.pairs → All (IsBeside b.chunk) b.pairs
  kept_inside same = subst (All (IsBeside b.chunk)) same inside'

  kept_listed : t.pairs ≡ b.pairs → pairs_of b.chunk t.snap.store.bytes ≡ b.pairs
  kept_listed same = listed' ∙ same

  stays_safe : IsStill h t → Safe
  stays_safe e = (
    [],
    same_pairs b.chunk sectors size o b.store t.snap.store.bytes b.pairs seen.some seen.long seen.listed 0
        (record { len = ap length e.bytes_are; rest = λ m ne. ap (λ (l : List ℕ). chunk_at b.chunk l m) e.bytes_are }) (kept_listed e.pairs_are)
        (λ k x lt same. (let low = (kept_inside e.pairs_are k x lt).low in omega (arith, same, low))) (λ good. ap (λ (l : List ℕ). found_in (sector_at l 0)) (sym e.bytes_are) ∙ good),
  )

  copy_is_safe : IsCopyWritten h t → Safe
  copy_is_safe e =
      let within : e.stands.index < length b.copies = (let w = e.stands.within in omega (arith, w, length-map b.copies copying_of)) in
      let (p, is) = there_is b.copies e.stands.index within in
      let same : e.copy ≡ copying_of p = e.stands.is ∙ get_or-map copying_of b.copies e.stands.index p e.copy within ∙ ap copying_of (sym is) in
      ([], put p within is same (cases_Bool b.live))
    where
      put : (p : ChunkCopy) → e.stands.index < length b.copies → p ≡ get_or b.copies e.stands.index p → e.copy ≡ copying_of p → (b.live ≡ true) ⊎ (b.live ≡ false) → IsSafe b.chunk o b.store t.snap.store.bytes b.pairs []
      put p within is same (inr dead) = absurd (none_here b.copies e.stands.index (seen.holds.spoilt dead).copies within)
      put p within is same (inl live) =
          let l = alive live in
          let room : length p.buffer.items ≤ 512 * b.chunk = (let r = (copy_holds o rs b l e.stands.index p within is).room in omega (arith, r)) in
          copy_safe b.chunk b.sectors b.size o b.store t.snap.store.bytes b.pairs seen.some l.text.whole seen.listed p.pair (copying_of p).bytes (inside_at o rs b l e.stands.index p within is) (shorter p (512 * b.chunk) room)
          (e.now.bytes_are ∙ ap (λ (c : Copying). with_sectors b.store (b.chunk * c.pair.new) c.bytes) same) (kept_listed e.now.pairs_are) (λ k x lt. (apart_from_pairs o rs b l e.stands.index p within is k x lt).new)

  -- the copies that are committed were flushed
  committed_safe : IsCommitted h t → Safe
  committed_safe e = (committed_now h, at (cases_Bool b.live))
    where
      at : (b.live ≡ true) ⊎ (b.live ≡ false) → IsSafe b.chunk o b.store t.snap.store.bytes b.pairs (committed_now h)
      at (inr dead) = absurd (none_ready (map copying_of b.copies) (ap (map copying_of) (seen.holds.spoilt dead).copies) e.ready)
      at (inl live) =
          let long : length (committed_now h) ≡ length (take (batch_of h) h.copies) = length-map (take (batch_of h) h.copies) pair_of in
          let few : length (take (batch_of h) h.copies) ≤ batch_of h = omega (arith, length-take (batch_of h) h.copies) in
          let left : length b.pairs % (32 * b.chunk) ≤ 32 * b.chunk = (let lt = mod_below (length b.pairs) (32 * b.chunk) (let pos = seen.some in omega (arith, pos)) in omega (arith, lt)) in
          let fits : length b.pairs % (32 * b.chunk) + length (committed_now h) ≤ 32 * b.chunk = omega (arith, long, few, left) in
          commit_safe b.chunk sectors size o b.store t.snap.store.bytes b.pairs seen.some seen.long seen.listed (committed_now h) fits seen.formed.room e.now.bytes_are (listed' ∙ e.now.pairs_are) (subst (All (IsBeside b.chunk)) e.now.pairs_are inside') (seen.past live) (copies live)
        where
          copies : b.live ≡ true → All (IsCopied b.chunk o b.store) (committed_now h)
          copies live k x lt =
              let early : k < length (take (batch_of h) h.copies) = omega (arith, lt, length-map (take (batch_of h) h.copies) pair_of) in
              let before : k < batch_of h = omega (arith, early, length-take (batch_of h) h.copies) in
              let ready : k < prefix_len is_ready h.copies = omega (arith, before) in
              let within : k < length b.copies = omega (arith, ready, prefix_len-le-length is_ready h.copies, length-map b.copies copying_of) in
              let (p, is) = there_is b.copies k within in
              let its : get_or h.copies k (copying_of p) ≡ copying_of p = get_or-map copying_of b.copies k p (copying_of p) within ∙ ap copying_of (sym is) in
              let pair : get_or (committed_now h) k x ≡ p.pair = get_or-map pair_of (take (batch_of h) h.copies) k (copying_of p) x early ∙ ap pair_of (get_or-take (batch_of h) h.copies k (copying_of p) before) ∙ ap pair_of its in
              let flushed : is_stage Flushed p.stage ≡ true = ap is_ready (sym its) ∙ prefix_len_passes is_ready h.copies k (copying_of p) ready in
              subst (IsCopied b.chunk o b.store) (sym pair) ((copy_holds o rs b (alive live) k p within is).written (ap (λ (x : Bool). true && x) seen.loud) (stored p.stage flushed))

  zero_is_safe : IsZeroed h t → Safe
  zero_is_safe e = ([], zero_safe b.chunk sectors size o b.store t.snap.store.bytes b.pairs seen.some seen.long seen.listed (length b.pairs / (32 * b.chunk) + 1) (grind (arith, nat_tests, e.fits)) e.now.bytes_are (kept_listed e.now.pairs_are) (kept_inside e.now.pairs_are))

  mark_is_safe : IsMarked h t → Safe
  mark_is_safe e = ([], mark_safe b.chunk sectors size o b.store t.snap.store.bytes b.pairs seen.some seen.long seen.listed room e.now.bytes_are (kept_listed e.now.pairs_are) (kept_inside e.now.pairs_are) (seen.good e.untried e.unmarked))

  -- What becomes of a store, but by a write of the snapshot's array.
  pub changed_safe : IsChanged event gs h t → IsWrittenBy event gs h ⊎ Safe
  changed_safe (Stays e) = inr (stays_safe e)
  changed_safe (Copied e) = inr (copy_is_safe e)
  changed_safe (Zeroed e) = inr (zero_is_safe e)
  changed_safe (Committed e) = inr (committed_safe e)
  changed_safe (Marked e) = inr (mark_is_safe e)
  changed_safe (Issued e) = inl e

-- An origin write that goes to the disk is of one chunk, which the snapshot has: if it is live, or spoiled with its mark untried.
pub disk_placed : (o : List ℕ) (rs : List Flight) (b : SnapBooks) → 0 < b.chunk → SnapHolds true o rs b → (b.live ≡ true) ⊎ (b.untried ≡ true) → (k : ℕ) (f : Flight) → k < length rs → f ≡ get_or rs k f → kind_of f.request ≡ OriginWrite → f.route ≡ Origin
    → (j : ℕ) → j < f.request.range.count → place_of b.pairs ((f.request.range.first + j) / b.chunk) ≢ None
disk_placed o rs b pos holds side k f within is kind route j lt = at (cases_Bool b.live)
  where
    here : (P : Flight → Type 0) → All P rs → P f
    here P all = subst P (sym is) (all k f within)

    at : (b.live ≡ true) ⊎ (b.live ≡ false) → place_of b.pairs ((f.request.range.first + j) / b.chunk) ≢ None
    at (inl live) =
        let r = here (RouteHolds b.number b.chunk b.pairs b.marks) (holds.alive live).routes in
        let piece = r.piece.within in
        λ none. (r.origin_write kind route).placed (ap (place_of b.pairs) (sym (sector_in b.chunk f.request.range.first j pos (omega (arith, piece, lt)))) ∙ none)
    at (inr dead) =
        let untried : b.untried ≡ true = elim side [ inl live ↦ absurd (false≢true (sym dead ∙ live)) | inr u ↦ u ] in
        let r = here (UntriedHolds b.chunk (take b.sure b.pairs)) ((holds.spoilt dead).waited untried) in
        let piece = (r.piece kind route).within in
        λ none. r.placed kind route (none_before b.sure b.pairs (f.request.range.first / b.chunk) (ap (place_of b.pairs) (sym (sector_in b.chunk f.request.range.first j pos (omega (arith, piece, lt)))) ∙ none))

-- A chunk that is merged back is written where each live snapshot has all that it touches.
pub merged_placed : (first count : ℕ) (b : SnapBooks) → IsSavedOver first count b → b.live ≡ true → (j : ℕ) → j < count → place_of b.pairs ((first + j) / b.chunk) ≢ None
merged_placed first count b saved live j lt = (saved j lt live).placed
