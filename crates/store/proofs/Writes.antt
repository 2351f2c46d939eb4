-- The other writes of a store: a zeroed area, a chunk of a copy or the header, and the area of a load.
use Rattle.std.proofs.Common.{◌≡◌, ◌≢◌, inl, inr, ℕ, zero, ◌+◌, ◌*◌, ◌%◌, ◌<◌, ◌≤◌, List, [], length, arith, ap, ◌∙◌, sym, true, false, append-nil, replicate}
use Rattle.std.proofs.lemmas.Bool.{cases_Bool, cases_eq, false≢true, true≢false, ne_eqb}
use Rattle.std.proofs.lemmas.List.{length-replicate, nil_from_length}
use Rattle.std.proofs.lemmas.Nat.{mul-le, mod-mul-add}
use Rattle.sector.specs.Bytes.{sector_at, with_sectors}
use Rattle.sector.specs.declared.pair.Pair.{Pair}
use Rattle.cow_format.specs.Slots.{pair_in}
use Rattle.cow_format.specs.Places.{chunk_at, area_place, is_area_place, slot, ChangesOnly}
use Rattle.cow_format.specs.Pairs.{pairs_of}
use Rattle.cow_format.proofs.AreaPlaces.{places_apart, place_is}
use Rattle.cow_format.proofs.Slots.{pairs-committed, pairs-outside, pairs-later, pairs-are, slot-at}
use Rattle.metadata_area.specs.Cleared.{zero_from}
use Rattle.cow_header.specs.HeaderText.{found_in}
use Rattle.store.specs.Headed.{head_of, marked_as}
use Rattle.store.specs.Loading.{is_begun, is_settled, after_write, with_left}
use Rattle.store.specs.Stored.{IsFront, IsStored}
use Rattle.store.specs.declared.state.Left.{Left}
use Rattle.store.specs.declared.state.Left.TheVariants.{FirstArea, HeaderChunk, Tail, Nothing}
use Rattle.store.specs.declared.state.State.{State}
use Rattle.store.proofs.Parts.{tail-through}
use Rattle.store.proofs.Heads.{area_past, head_after, head_kept, valid_before}
use Rattle.store.proofs.Areas.{no_chunks, slot_listed, chunk-written, chunk_only}

-- the next area is zeroed
pub front_zeroed : (ps : List Pair) (s : State) (area : List ℕ) → IsFront ps s area → s.chunk * (area_place s.chunk (s.current + 1) + 1) ≤ s.size → IsFront ps (record s { zeroed = true; firm = false }) area
front_zeroed ps s area is room = record { some = is.some; allowed = is.allowed; size = is.size; whole = is.whole; place = is.place; count = is.count; fits = is.fits; empty = is.empty; part = is.part; next = is.next; none = is.none; blank = is.blank; room = λ z. room; firm = λ f. absurd (false≢true f); early = is.early }

pub stored_zeroed : (ps : List Pair) (s : State) (area old new zeros : List ℕ) → IsFront ps s area → IsStored old ps s area → s.left ≡ Nothing → s.filled < 32 * s.chunk → s.chunk * (area_place s.chunk (s.current + 1) + 1) ≤ s.size → length old ≡ 512 * s.size → zeros ≡ replicate (512 * s.chunk) 0 → new ≡ with_sectors old (s.chunk * area_place s.chunk (s.current + 1)) zeros → IsStored new ps (record s { zeroed = true; firm = false }) area
stored_zeroed ps s area old new zeros is stored ready part room whole nil written =
    let long : length zeros ≡ 512 * s.chunk = ap length nil ∙ length-replicate (512 * s.chunk) zero in
    let only = chunk_only s.size s.chunk (area_place s.chunk (s.current + 1)) old new zeros whole long room written in
    let listed = stored.listed (ap is_begun ready) in
    record {
      head = head_kept s.chunk (area_place s.chunk (s.current + 1)) old new is.some (area_past s.chunk (s.current + 1)) only ∙ stored.head;
      listed = λ _. pairs-later s.chunk s.current (s.current + 1) s.filled old new is.some only (ap length listed ∙ is.count) part (omega arith) ∙ listed;
      holds = stored.holds;
      here = λ e. only.rest _ (places_apart s.chunk s.current (s.current + 1) (omega arith)) ∙ stored.here e;
      tail = λ e. (let no : Nothing ≡ Tail = sym ready ∙ e in absurd (cc));
      next = λ z. chunk-written s.size s.chunk (area_place s.chunk (s.current + 1)) old new zeros whole long room written ∙ nil;
    }

-- a write to a chunk that is neither the header nor an area's
pub stored_outside : (n : ℕ) (ps : List Pair) (s : State) (area old new : List ℕ) → IsFront ps s area → IsStored old ps s area → n ≢ 0 → is_area_place s.chunk n ≡ false → ChangesOnly s.chunk n old new → IsStored new ps s area
stored_outside n ps s area old new is stored other free only =
    let apart : (a : ℕ) → area_place s.chunk a ≢ n = λ a e. true≢false (sym (place_is s.chunk a is.some) ∙ ap (is_area_place s.chunk) e ∙ free) in
    let same : chunk_at s.chunk new (area_place s.chunk s.current) ≡ chunk_at s.chunk old (area_place s.chunk s.current) = only.rest _ (apart s.current) in
    record {
      head = head_kept s.chunk n old new is.some other only ∙ stored.head;
      listed = λ b. pairs-outside s.chunk n old new is.some free only ∙ stored.listed b;
      holds = stored.holds;
      here = λ e. same ∙ stored.here e;
      tail = λ e. ap (λ a. zero_from a (s.filled + 1)) same ∙ stored.tail e;
      next = λ z. only.rest _ (apart (s.current + 1)) ∙ stored.next z;
    }

-- chunk 0, the header, is no area's
pub header_free : (chunk : ℕ) → is_area_place chunk 0 ≡ false
header_free chunk =
    let e : zero ≡ 0 * (32 * chunk + 1) + 0 = omega arith in
    let h : zero % (32 * chunk + 1) ≡ 0 = ap (λ n. n % (32 * chunk + 1)) e ∙ mod-mul-add 0 (32 * chunk + 1) 0 (omega arith) in
    ne_eqb _ _ (omega arith)

-- the store is flushed: a zeroed next area is firm
pub front_flushed : (ps : List Pair) (s : State) (area : List ℕ) (n : ℕ) → IsFront ps s area → IsFront ps (record s { firm = s.zeroed; sure = n }) area
front_flushed ps s area n is = record { some = is.some; allowed = is.allowed; size = is.size; whole = is.whole; place = is.place; count = is.count; fits = is.fits; empty = is.empty; part = is.part; next = is.next; none = is.none; blank = is.blank; room = is.room; firm = λ z. z; early = is.early }

pub stored_flushed : (ps : List Pair) (s : State) (area bytes : List ℕ) (n : ℕ) → IsStored bytes ps s area → IsStored bytes ps (record s { firm = s.zeroed; sure = n }) area
stored_flushed ps s area bytes n stored = record { head = stored.head; listed = stored.listed; holds = stored.holds; here = stored.here; tail = stored.tail; next = stored.next }

-- the load's flush is done
pub front_awaited : (ps : List Pair) (s : State) (area : List ℕ) (n : ℕ) → IsFront ps s area → IsFront ps (record s { awaits = false; sure = n }) area
front_awaited ps s area n is = record { some = is.some; allowed = is.allowed; size = is.size; whole = is.whole; place = is.place; count = is.count; fits = is.fits; empty = is.empty; part = is.part; next = is.next; none = is.none; blank = is.blank; room = is.room; firm = is.firm; early = is.early }

pub stored_awaited : (ps : List Pair) (s : State) (area bytes : List ℕ) (n : ℕ) → IsStored bytes ps s area → IsStored bytes ps (record s { awaits = false; sure = n }) area
stored_awaited ps s area bytes n stored = record { head = stored.head; listed = stored.listed; holds = stored.holds; here = stored.here; tail = stored.tail; next = stored.next }

-- only what is left of the load's writes changes
pub front_after : (ps : List Pair) (s : State) (area : List ℕ) (left : Left) → IsFront ps s area → is_begun left ≡ true → is_settled left ≡ true → (s.valid ≡ false → left ≡ Nothing) → IsFront ps (record s { left = left; awaits = true }) area
front_after ps s area left is begun settled early = record {
  some = is.some;
  allowed = is.allowed;
  size = is.size;
  whole = is.whole;
  place = is.place;
  count = is.count;
  fits = is.fits;
  empty = is.empty;
  part = λ e. absurd (true≢false (sym settled ∙ e));
  next = is.next;
  none = λ e. absurd (true≢false (sym begun ∙ e));
  blank = λ e. absurd (true≢false (sym begun ∙ e));
  room = is.room;
  firm = is.firm;
  early = early;
}

-- the header is written, by which the store is ready
pub stored_valid : (ps : List Pair) (s : State) (area old new : List ℕ) → IsFront ps s area → IsStored old ps s area → s.left ≡ HeaderChunk → ChangesOnly s.chunk 0 old new → found_in (sector_at new 0) ≡ marked_as true s.chunk → IsStored new ps (record s { left = Nothing; awaits = true }) area
stored_valid ps s area old new is stored begun only says =
    let free = header_free s.chunk in
    let other : s.left ≢ Nothing = λ e. (let no : HeaderChunk ≡ Nothing = sym begun ∙ e in absurd (cc)) in
    let past : (a : ℕ) → area_place s.chunk a ≢ 0 = area_past s.chunk in
    record {
      head = says ∙ sym (ap (λ valid. marked_as valid s.chunk) (valid_before s.left s.valid is.early other));
      listed = λ _. pairs-outside s.chunk 0 old new is.some free only ∙ stored.listed (ap is_begun begun);
      holds = stored.holds;
      here = λ _. only.rest _ (past s.current) ∙ stored.here (ap is_settled begun);
      tail = λ e. (let no : Nothing ≡ Tail = e in absurd (cc));
      next = λ z. only.rest _ (past (s.current + 1)) ∙ stored.next z;
    }

-- a store that is ready is marked invalid
pub front_invalid : (ps : List Pair) (s : State) (area : List ℕ) → IsFront ps s area → s.left ≡ Nothing → IsFront ps (record s { valid = false }) area
front_invalid ps s area is ready = record { some = is.some; allowed = is.allowed; size = is.size; whole = is.whole; place = is.place; count = is.count; fits = is.fits; empty = is.empty; part = is.part; next = is.next; none = is.none; blank = is.blank; room = is.room; firm = is.firm; early = λ _. ready }

pub stored_invalid : (ps : List Pair) (s : State) (area old new : List ℕ) → IsFront ps s area → IsStored old ps s area → s.left ≡ Nothing → ChangesOnly s.chunk 0 old new → found_in (sector_at new 0) ≡ marked_as false s.chunk → IsStored new ps (record s { valid = false }) area
stored_invalid ps s area old new is stored ready only says =
    let free = header_free s.chunk in
    let past : (a : ℕ) → area_place s.chunk a ≢ 0 = area_past s.chunk in
    let same : chunk_at s.chunk new (area_place s.chunk s.current) ≡ chunk_at s.chunk old (area_place s.chunk s.current) = only.rest _ (past s.current) in
    record {
      head = says ∙ sym (ap (λ left. head_of left false s.chunk) ready);
      listed = λ b. pairs-outside s.chunk 0 old new is.some free only ∙ stored.listed b;
      holds = stored.holds;
      here = λ e. same ∙ stored.here e;
      tail = λ e. ap (λ a. zero_from a (s.filled + 1)) same ∙ stored.tail e;
      next = λ z. only.rest _ (past (s.current + 1)) ∙ stored.next z;
    }

-- the first slot of area 0 is empty
pairs-none : (chunk : ℕ) (b : List ℕ) → 0 < chunk → (pair_in (chunk_at chunk b (area_place chunk 0)) 0).new ≡ 0 → pairs_of chunk b ≡ []
pairs-none chunk b pos free = pairs-are chunk b [] pos (record {
  each = λ k d lt. absurd (omega arith);
  valid = λ k lt e. absurd (omega arith);
  ends = (let e : zero ≡ 0 * (32 * chunk) + 0 = omega arith in ap (λ k. (slot chunk b k).new) e ∙ ap (λ p. p.new) (slot-at chunk b 0 0 (omega arith)) ∙ free);
})

no_area : (a w j : ℕ) → 0 < w → 0 ≡ a * w + j → (a ≡ 0) × (j ≡ 0)
no_area a w j pos e = elim (cases_eq a 0) [
  | inl z ↦ (z, omega arith)
  | inr ne ↦ absurd (let h : 1 * w ≤ a * w = mul-le 1 w a w (omega arith) (omega arith) in omega arith)
]

-- a store without pairs has area 0 as its current one
pub first_area : (ps : List Pair) (s : State) (area : List ℕ) → IsFront ps s area → length ps ≡ 0 → (s.current ≡ 0) × (s.filled ≡ 0)
first_area ps s area is none = no_area s.current (32 * s.chunk) s.filled (let p = is.some in omega arith) (sym none ∙ is.count)

-- the area of a load is written as it is in memory
pub stored_clean : (ps : List Pair) (s : State) (area old new : List ℕ) (left : Left) → IsFront ps s area → IsStored old ps s area → is_settled s.left ≡ false → left ≡ after_write s.left → left ≢ Tail → length old ≡ 512 * s.size → new ≡ with_sectors old (s.chunk * area_place s.chunk s.current) area → IsStored new ps (record s { left = left; awaits = true }) area
stored_clean ps s area old new left is stored unsettled then other whole written =
    let part = is.part unsettled in
    let only = chunk_only s.size s.chunk (area_place s.chunk s.current) old new area whole is.whole is.place written in
    let here = chunk-written s.size s.chunk (area_place s.chunk s.current) old new area whole is.whole is.place written in
    record {
      head = head_kept s.chunk (area_place s.chunk s.current) old new is.some (area_past s.chunk s.current) only ∙ stored.head ∙ sym (ap (λ x. head_of x s.valid s.chunk) then ∙ head_after s.left s.valid s.chunk unsettled);
      listed = λ _. elim (cases_Bool (is_begun s.left)) [
        | inr fresh ↦ (
            let none : ps ≡ [] = nil_from_length ps (is.none fresh) in
            let (first, empty) = first_area ps s area is (is.none fresh) in
            pairs-none s.chunk new is.some (ap (λ a. (pair_in (chunk_at s.chunk new (area_place s.chunk a)) 0).new) (sym first) ∙ ap (λ b. (pair_in b 0).new) here ∙ is.empty 0 (omega arith) (omega arith)) ∙ sym none)
        | inl begun ↦
            pairs-committed s.chunk s.current s.filled old new ps [] is.some (stored.listed begun) is.count (omega arith) only
            (λ i lt. ap (λ b. pair_in b i) here ∙ stored.holds i no_chunks lt ∙ sym (slot_listed s.chunk s.current s.filled old ps i no_chunks is.some (stored.listed begun) is.count lt is.fits))
            (λ i d lt. absurd (omega arith))
            (λ i d lt. absurd (omega arith))
            (record {
              here = λ lt. ap (λ b. (pair_in b (s.filled + 0)).new) here ∙ is.empty (s.filled + 0) (omega arith) lt;
              next = λ full. absurd (omega arith);
            })
            ∙ append-nil ps
      ];
      holds = stored.holds;
      here = λ _. here;
      tail = λ e. absurd (other e);
      next = λ z. only.rest _ (places_apart s.chunk (s.current + 1) s.current (omega arith)) ∙ stored.next z;
    }

-- the store's bytes after the area of a load was written
pub left-written : (ps : List Pair) (s : State) (area old : List ℕ) (left : Left) → s.left ≡ left → IsFront ps s area → IsStored old ps s area → is_settled left ≡ false → length old ≡ 512 * s.size → with_sectors old (s.chunk * area_place s.chunk s.current) area ≡ with_left left s old
left-written ps s area old FirstArea at is stored unsettled whole = ap (with_sectors old (s.chunk * area_place s.chunk s.current)) (is.blank (ap is_begun at))
left-written ps s area old HeaderChunk at is stored unsettled whole = absurd (true≢false unsettled)
left-written ps s area old Tail at is stored unsettled whole =
    let part = is.part (ap is_settled at) in
    let inside = is.place in
    let e : s.chunk * (area_place s.chunk s.current + 1) ≡ s.chunk * area_place s.chunk s.current + s.chunk = grind arith in
    ap (with_sectors old (s.chunk * area_place s.chunk s.current)) (sym (stored.tail at))
    ∙ tail-through old (s.chunk * area_place s.chunk s.current) s.chunk (s.filled + 1) (omega arith) (omega arith)
left-written ps s area old Nothing at is stored unsettled whole = absurd (true≢false unsettled)
