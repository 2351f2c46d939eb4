-- The events of copies, stores and marks over one snapshot, and requests at its store: what lasts of it, and what a stop leaves.
use Rattle.std.proofs.Common.{◌≡◌, ◌≢◌, ◌⊎◌, inl, inr, ℕ, zero, suc, ◌+◌, ◌-◌, ◌*◌, ◌/◌, ◌<◌, ◌≤◌, Bool, true, false, List, [], ◌∷◌, ◌++◌, Option, None, Some, length, take, drop, get_or, set, map, replicate, refl, sym, ◌∙◌, ap, subst, arith, length-append, length-take, length-drop}
use Rattle.std.specs.Prelude.{not}
use Rattle.std.specs.List.{All}
use Rattle.std.proofs.lemmas.Bool.{cases_eq, false≢true, cond-true, cond-false, eq-eqb, ne_eqb}
use Rattle.std.proofs.lemmas.List.{places, length-map, length-set, length-replicate, get_or-map, get_or-take, get_or-drop, get_or_default, get_or-set_other}
use Rattle.std.proofs.lemmas.Grind.{get_or-set_at}
use Rattle.sector.specs.Bytes.{sector_at, with_part, with_sectors}
use Rattle.sector.specs.Number.{number_at, number_bytes}
use Rattle.sector.proofs.Numbers.{same_number, length-number_bytes}
use Rattle.sector.proofs.Sectors.{sectors_at-with_same, byte_read}
use Rattle.sector.specs.declared.pair.Pair.{Pair}
use Rattle.device.specs.Layers.{Layer, is_loud}
use Rattle.cow_format.specs.Pairs.{pairs_of, AreWellFormed, IsInside}
use Rattle.cow_format.specs.Picture.{place_of, IsCopied}
use Rattle.cow_format.specs.Places.{area_place, chunk_at, slot, ChangesOnly}
use Rattle.cow_format.proofs.AreaPlaces.{area_of}
use Rattle.cow_format.proofs.Slots.{pairs-outside, slot-at}
use Rattle.cow_format.specs.Slots.{pair_in, pair_bytes}
use Rattle.in_flight.specs.Flushed.{flushed_stage, flushed_copy, safe_mark}
use Rattle.in_flight.specs.Copies.{pair_of}
use Rattle.in_flight.specs.declared.copies.ChunkCopy.{ChunkCopy}
use Rattle.in_flight.specs.declared.copies.Stage.{Stage}
use Rattle.in_flight.specs.declared.copies.Stage.TheVariants.{Waiting, Read, Written, Flushed}
use Rattle.in_flight.specs.declared.flights.Flight.{Flight}
use Rattle.crash_laws.specs.Firm.{AddsNow, IsFirm}
use Rattle.crash_laws.specs.Stop.{MayLeave}
use Rattle.crash_laws.proofs.May.{slot_there}
use Rattle.crash_laws.specs.May.{sector_of}
use Rattle.crash_laws.specs.Clauses.{Given, Gives}
use Rattle.cache_loss_laws.specs.Kept.{Kept as Lost, last_slot, last_of, SnapLasts, SnapRefused}
use Rattle.cache_loss_laws.specs.Calm.{IsCalmSnap, StopsSnapLost}
use Rattle.cache_loss_laws.specs.Lost.{GivesPlace, NoneGiven}
use Rattle.cache_loss_laws.proofs.CalmCalls.{calm_same, calm_copy_write, calm_zero, calm_mark, calm_disk_write, calm_own_write}
use Rattle.cache_loss_laws.proofs.Clauses.{place_given, snap_gives}
use Rattle.cache_loss_laws.proofs.Committed.{commit_stops, commit_lasts, commit_fills}
use Rattle.cache_loss_laws.proofs.Flushed.{flush_lasts}
use Rattle.cache_loss_laws.proofs.Kept.{calm_stops, mark_flushed}
use Rattle.cache_loss_laws.proofs.Parts.{place_first}
use Rattle.cache_loss_laws.proofs.Places.{place_good}
use Rattle.cache_loss_laws.proofs.Slots.{ahead_of}
use Rattle.volume_laws.specs.Held.{LiveHolds, is_stored}
use Rattle.volume_laws.specs.Steps.{ZeroesArea, Commits, mark_of}
use Rattle.volume_laws.proofs.Heard.{both_loud}
use Rattle.store.specs.Headed.{marked_as}
use Rattle.store.specs.Slots.{pairs_bytes, slot_start}
use Rattle.store.specs.Stored.{after_commit}
use Rattle.snapshot.specs.Kept.{Kept, books_of as snap_books, spare_after}
use Rattle.snapshot.specs.Calls.{WritesAt}
use Rattle.snapshot.specs.InStep.{IsInStep}
use Rattle.volume.specs.SnapLasting.{IsReady, lost_of, IsThereOn, SnapLastsOn, SnapLasting}
use Rattle.volume.proofs.LastOne.{IsKeptSnap, IsSameDevice, IsCalled, IsLeft, Stays, Spoils, Goes, refused_store, begun_is, called, same_device, leaves, alive, sized, copy_inside, copy_place, copy_apart, some_sectors, calm_goes, law_goes, left_lost}

-- a copy that is not flushed takes another's place
pub ready_set : (copies : List ChunkCopy) (j : ℕ) (p : ChunkCopy) (q : Pair) → p.stage ≢ Flushed → IsReady (set copies j p) q → IsReady copies q
ready_set copies j p q not r =
    let lt : r.index < length copies = (let w = r.within in omega (arith, w, length-set copies j p)) in
    elim (cases_eq r.index j) [
      | inl e ↦ (let same : r.copy ≡ p = r.is ∙ get_or-set_at copies j r.index p r.copy e (omega (arith, lt, e)) in absurd (not (ap (λ (c : ChunkCopy). c.stage) (sym same) ∙ r.flushed)))
      | inr ne ↦ record { index = r.index; copy = r.copy; within = lt; is = r.is ∙ get_or-set_other copies j r.index p r.copy ne; flushed = r.flushed; pair = r.pair }
    ]

-- and the first ones are taken away
pub ready_drop : (n : ℕ) (copies : List ChunkCopy) (q : Pair) → IsReady (drop n copies) q → IsReady copies q
ready_drop n copies q r = record {
  index = n + r.index;
  copy = r.copy;
  within = (let w = r.within in omega (arith, w, length-drop n copies));
  is = r.is ∙ get_or-drop n copies r.index r.copy;
  flushed = r.flushed;
  pair = r.pair;
}

-- an element at a place
pub there_is : {X : Type 0} (xs : List X) (i : ℕ) → i < length xs → (x : X) × (x ≡ get_or xs i x)
there_is [] i lt = absurd (omega arith)
there_is (x ∷ xs) zero lt = (x, refl)
there_is (x ∷ xs) (suc i) lt = there_is xs i (omega arith)

-- a copy that a flush takes to Flushed is in its place
stored_of : (st : Stage) → flushed_stage st ≡ Flushed → is_stored st ≡ true
stored_of Waiting e = absurd (cc)
stored_of Read e = absurd (cc)
stored_of Written e = refl
stored_of Flushed e = refl

pairs_long : (ps : List Pair) → length (pairs_bytes ps) ≡ 16 * length ps
pairs_long [] = refl
pairs_long (p ∷ ps) = let n = pairs_long ps in let x = length-number_bytes 8 p.old in let y = length-number_bytes 8 p.new in omega (arith, n, x, y, length-append (pair_bytes p) (pairs_bytes ps), length-append (number_bytes 8 p.old) (number_bytes 8 p.new))

-- more may be given
pub calm_gives : (o o' c c' : List ℕ) (ready ready' : Pair → Type 0) (zeroed marked : Bool) (given given' : ℕ → List ℕ → Type 0) (v : Lost) → ((s : ℕ) (w : List ℕ) → given s w → given' s w) → IsCalmSnap o o' c c' ready ready' zeroed marked given v → IsCalmSnap o o' c c' ready ready' zeroed marked given' v
calm_gives o o' c c' ready ready' zeroed marked given given' v more h = record {
  calm = record { lists = h.calm.lists; surely = λ s n lt at. elim (h.calm.surely s n lt at) [ inl same ↦ inl same | inr g ↦ inr (more s _ g) ]; perhaps = h.calm.perhaps; disk = h.calm.disk };
  first = h.first;
  keeps = h.keeps;
  ahead = h.ahead;
  copies = h.copies;
}

pub written_late : Written ≢ Flushed
written_late e = cc

pub read_late : Read ≢ Flushed
read_late e = cc

-- The slots of an area behind those that are written are as they were.
module _ (chunk a from n : ℕ) (c part : List ℕ) (long : length part ≡ 16 * n) (fits : from + n ≤ 32 * chunk) (room : 512 * (chunk * area_place chunk a) + 512 * chunk ≤ length c) where
  put_inside : 512 * (chunk * area_place chunk a) + 16 * from + length part ≤ length c
  put_inside = omega (arith, long, fits, room)

  put_outside : (b x : List ℕ) (first i : ℕ) → first + length x ≤ length b → first + length x ≤ i → get_or (with_part b first x) i 0 ≡ get_or b i 0
  put_outside b x first i fit hi = grind (arith, places)

  beyond_byte : (j i : ℕ) → from + n ≤ j → j < 32 * chunk → 16 * j ≤ i → i < 16 * j + 16 → get_or (chunk_at chunk (with_part c (512 * (chunk * area_place chunk a) + 16 * from) part) (area_place chunk a)) i 0 ≡ get_or (chunk_at chunk c (area_place chunk a)) i 0
  beyond_byte j i low small x y =
      let short : i < 512 * chunk = omega (arith, y, small) in
      byte_read (with_part c (512 * (chunk * area_place chunk a) + 16 * from) part) (chunk * area_place chunk a) chunk i short
      ∙ put_outside c part (512 * (chunk * area_place chunk a) + 16 * from) (512 * (chunk * area_place chunk a) + i) put_inside (omega (arith, long, x, low)) ∙ sym (byte_read c (chunk * area_place chunk a) chunk i short)

  beyond_pair : (j : ℕ) → from + n ≤ j → j < 32 * chunk → pair_in (chunk_at chunk (with_part c (512 * (chunk * area_place chunk a) + 16 * from) part) (area_place chunk a)) j ≡ pair_in (chunk_at chunk c (area_place chunk a)) j
  beyond_pair j low small =
      let new : List ℕ = chunk_at chunk (with_part c (512 * (chunk * area_place chunk a) + 16 * from) part) (area_place chunk a) in
      let old : List ℕ = chunk_at chunk c (area_place chunk a) in
      let x : number_at new (16 * j) 8 ≡ number_at old (16 * j) 8 = same_number _ _ (16 * j) 8 (λ i lo hi. beyond_byte j i low small lo (omega (arith, hi))) in
      let y : number_at new (16 * j + 8) 8 ≡ number_at old (16 * j + 8) 8 = same_number _ _ (16 * j + 8) 8 (λ i lo hi. beyond_byte j i low small (omega (arith, lo)) (omega (arith, hi))) in
      cc

  pub slot_beyond : (j : ℕ) → from + n ≤ j → j < 32 * chunk → slot chunk (with_part c (512 * (chunk * area_place chunk a) + 16 * from) part) (a * (32 * chunk) + j) ≡ slot chunk c (a * (32 * chunk) + j)
  slot_beyond j low small = slot-at chunk (with_part c (512 * (chunk * area_place chunk a) + 16 * from) part) a j small ∙ beyond_pair j low small ∙ sym (slot-at chunk c a j small)

-- fewer copies
pub calm_fewer : (o o' c c' : List ℕ) (ready ready' : Pair → Type 0) (zeroed marked : Bool) (given : ℕ → List ℕ → Type 0) (v : Lost) → ((q : Pair) → ready' q → ready q) → IsCalmSnap o o' c c' ready ready zeroed marked given v → IsCalmSnap o o' c c' ready ready' zeroed marked given v
calm_fewer o o' c c' ready ready' zeroed marked given v fewer h = record { calm = h.calm; first = h.first; keeps = h.keeps; ahead = h.ahead; copies = λ q r. h.copies q (fewer q r) }

module _ {B : Type 0} (holds : B → ℕ → List ℕ → Type 0) (contents : B → List ℕ) (layers : B → List Layer) (size : B → ℕ) (whole : (d : B) → length (contents d) ≡ 512 * size d) (here : (d : B) (s : ℕ) → s < size d → holds d s (sector_at (contents d) s))
    (o : B) (rs : List Flight) (s : Kept B) (k : IsKeptSnap contents layers size o rs s) (l : SnapLasting holds contents layers size o s) where
  -- the calls of a live one that stays live
  module _ (given : Option Given) (t : Kept B) (live : s.live ≡ true) (lives : t.live ≡ true) where
    dies : {X : Type 0} → s.live ≡ false → X
    dies dead = absurd (false≢true (sym dead ∙ live))

    dies' : {X : Type 0} → t.live ≡ false → X
    dies' dead = absurd (false≢true (sym dead ∙ lives))

    -- A copy that was read is written to its place.
    pub copy_write_goes : (j : ℕ) (p q : ChunkCopy) → j < length s.copies → WritesAt contents layers j p q s t → IsCalled holds contents layers size s.device t.device → Goes holds contents layers size whole here given o o s t
    copy_write_goes j p q within e store =
        let f = e.fields in
        let only = e.event.only in
        let inside : IsInside s.state.chunk (size o) (size s.device) p.pair = copy_inside holds contents layers size whole here o rs s k l live j p within e.event.copy.was in
        calm_goes holds contents layers size whole here o rs s k l given o t (called holds contents layers size whole here o o (same_device holds contents layers size whole here o)) store s.state.zeroed s.marked
        (left_lost holds contents layers size whole here o rs s k l o t (record { chunk = ap (λ (x : Kept B). x.state.chunk) f; current = ap (λ (x : Kept B). x.state.current) f; zeroed = ap (λ (x : Kept B). x.state.zeroed) f; firm = ap (λ (x : Kept B). x.state.firm) f; sure = ap (λ (x : Kept B). x.state.sure) f; marked = ap (λ (x : Kept B). x.marked) f; pairs = ap (λ (x : Kept B). x.pairs) f }) refl store.sectors)
        (λ lo ls side there lasts. calm_fewer (contents o) (contents o) (contents s.device) (contents t.device) (IsReady s.copies) (IsReady t.copies) s.state.zeroed s.marked (Gives given (Some s.number)) (lost_of size o s)
        (λ x r. ready_set s.copies j q x (λ flushed. written_late (sym e.copy.stage ∙ flushed)) (subst (λ cs. IsReady cs x) (ap (λ (y : Kept B). y.copies) f) r))
        (calm_copy_write (holds o) (holds s.device) (contents o) (contents s.device) (IsReady s.copies) (lost_of size o s) there lasts p.pair.new (contents t.device) (Gives given (Some s.number)) only inside.free inside.low
        (copy_place holds contents layers size whole here o rs s k l live j p within e.event.copy.was)
        (λ x r. subst (λ (z : Pair). z.new ≢ p.pair.new) r.pair (copy_apart holds contents layers size whole here o rs s k l live j p within e.event.copy.was r.index r.copy r.within r.is
        (λ same. read_late (sym e.event.was_read ∙ ap (λ (c : ChunkCopy). c.stage) (e.event.copy.was ∙ get_or_default s.copies j p r.copy within ∙ ap (λ i. get_or s.copies i r.copy) (sym same) ∙ sym r.is) ∙ r.flushed))))))
        l.unmarked (λ _. l.unmarked live) (λ ls. pairs-outside s.state.chunk p.pair.new (contents s.device) (contents t.device) k.some inside.free only ∙ l.listed ls) (λ _. inl live) (λ lo ls dead. dies dead) (λ lo ls dead. dies' dead)

    -- The next area is zeroed.
    pub zero_next_goes : t ≡ record s { device = t.device; state = record s.state { zeroed = true; firm = false } } → ZeroesArea (s.state.current + 1) (snap_books contents layers s) (snap_books contents layers t)
        → (is_loud (layers s.device) ≡ true → contents t.device ≡ with_sectors (contents s.device) (s.state.chunk * area_place s.state.chunk (s.state.current + 1)) (replicate (512 * s.state.chunk) 0)) → s.state.firm ≡ false
        → s.state.chunk * (area_place s.state.chunk (s.state.current + 1) + 1) ≤ s.state.size → IsCalled holds contents layers size s.device t.device → Goes holds contents layers size whole here given o o s t
    zero_next_goes f e written loose fits store =
        let a : ℕ = s.state.current + 1 in
        let chunk : ℕ = s.state.chunk in
        let up : chunk * (area_place chunk a + 1) ≡ chunk * area_place chunk a + chunk = grind arith in
        let sizes = sized holds contents layers size whole here o rs s k l live in
        let inside : chunk * (area_place chunk a + 1) ≤ size s.device = omega (arith, fits, sizes) in
        let long : length (replicate (512 * chunk) zero) ≡ 512 * chunk = length-replicate (512 * chunk) zero in
        let room : 512 * (chunk * area_place chunk a) + length (replicate (512 * chunk) zero) ≤ length (contents s.device) = omega (arith, long, inside, up, whole s.device) in
        let lost : lost_of size o t ≡ record (lost_of size o s) { zeroed = true; marked = s.marked } = cc (f, loose, store.sectors) in
        calm_goes holds contents layers size whole here o rs s k l given o t (called holds contents layers size whole here o o (same_device holds contents layers size whole here o)) store true s.marked lost
        (λ lo ls side there lasts. calm_fewer (contents o) (contents o) (contents s.device) (contents t.device) (IsReady s.copies) (IsReady t.copies) true s.marked (Gives given (Some s.number)) (lost_of size o s)
        (λ x r. subst (λ cs. IsReady cs x) (ap (λ (y : Kept B). y.copies) f) r)
        (calm_zero (holds o) (holds s.device) (contents o) (contents s.device) (IsReady s.copies) (lost_of size o s) there lasts (contents t.device) (Gives given (Some s.number)) e.only loose
        (ahead_of chunk (size s.device) s.state.current (contents t.device) k.some (ap (λ z. chunk_at chunk z (area_place chunk a)) (written ls) ∙ sectors_at-with_same (contents s.device) (chunk * area_place chunk a) chunk (replicate (512 * chunk) zero) room long) inside)))
        l.unmarked (λ _. l.unmarked live) (λ ls. e.stored ls) (λ _. inl live) (λ lo ls dead. dies dead) (λ lo ls dead. dies' dead)

    -- So many of the first copies are committed, all of them flushed, by a write of the current area; where they fill it, the next
    -- area is firm.
    module _ (count : ℕ) (few : count ≤ length s.copies) (ready : All (λ (p : ChunkCopy). p.stage ≡ Flushed) (take count s.copies)) (counted : length s.pairs ≡ s.state.current * (32 * s.state.chunk) + s.state.filled) (part : s.state.filled < 32 * s.state.chunk) (fits : s.state.filled + count ≤ 32 * s.state.chunk) (next : s.state.filled + count ≡ 32 * s.state.chunk → s.state.firm ≡ true)
        (f : t ≡ record s { device = t.device; state = after_commit s.state count; pairs = s.pairs ++ take count s.begun; begun = drop count s.begun; copies = drop count s.copies; marks = s.marks ++ map mark_of (take count s.copies); spare = spare_after count s })
        (e : Commits count s.state.current (snap_books contents layers s) (snap_books contents layers t)) (written : is_loud (layers s.device) ≡ true → contents t.device ≡ with_part (contents s.device) (slot_start s.state.chunk s.state.current s.state.filled) (pairs_bytes (take count s.begun)))
        (step : IsInStep contents layers size t) (store : IsCalled holds contents layers size s.device t.device) where
      qs : List Pair
      qs = take count s.begun

      a : LiveHolds (is_loud (layers o)) (contents o) rs (snap_books contents layers s)
      a = alive holds contents layers size whole here o rs s k l live

      many : length (take count s.begun) ≡ count
      many = (let n = ap length a.agree ∙ length-map s.copies pair_of in length-take count s.begun ∙ omega (arith, few, n))

      sizes : s.state.size ≡ size s.device
      sizes = sized holds contents layers size whole here o rs s k l live

      chunks : t.state.chunk ≡ s.state.chunk
      chunks = e.same.chunk

      formed_now : AreWellFormed s.state.chunk (size o) (size s.device) (s.pairs ++ take count s.begun)
      formed_now = subst (λ z. AreWellFormed s.state.chunk (size o) (size s.device) z) e.pairs (subst (λ n. AreWellFormed s.state.chunk (size o) n t.pairs) (step.sized ∙ store.sectors) (subst (λ n. AreWellFormed s.state.chunk n t.state.size t.pairs) (e.same.sectors ∙ k.fits) (subst (λ n. AreWellFormed n t.state.origin t.state.size t.pairs) chunks step.formed)))

      flushed_now : All (IsReady s.copies) (take count s.begun)
      flushed_now i d lt =
          let below : i < count = omega (arith, lt, many) in
          let within : i < length s.copies = omega (arith, below, few) in
          let (p, is) = there_is s.copies i within in
          record {
            index = i;
            copy = p;
            within = within;
            is = is;
            flushed = ap (λ (c : ChunkCopy). c.stage) (is ∙ sym (get_or-take count s.copies i p below)) ∙ ready i p (omega (arith, below, few, length-take count s.copies));
            pair = sym (get_or-take count s.begun i d below ∙ begun_is holds contents layers size whole here o rs s k l live i p within is d);
          }

      longer : length (s.pairs ++ take count s.begun) ≡ s.state.current * (32 * s.state.chunk) + (s.state.filled + count)
      longer = omega (arith, counted, many, length-append s.pairs (take count s.begun))

      one_more : (s.state.current + 1) * (32 * s.state.chunk) ≡ s.state.current * (32 * s.state.chunk) + 32 * s.state.chunk
      one_more = grind arith

      two_more : (s.state.current + 2) * (32 * s.state.chunk) ≡ s.state.current * (32 * s.state.chunk) + 32 * s.state.chunk + 32 * s.state.chunk
      two_more = grind arith

      reach : length s.pairs + length (take count s.begun) ≤ last_of (lost_of size o s)
      reach = by s.state.firm refl where
        by : (b : Bool) → s.state.firm ≡ b → length s.pairs + length (take count s.begun) ≤ last_slot s.state.chunk s.state.current s.state.firm
        by true is = subst (λ (b : Bool). length s.pairs + length (take count s.begun) ≤ last_slot s.state.chunk s.state.current b) (sym is) (let pos = k.some in omega (arith, counted, many, fits, two_more, pos))
        by false is = elim (cases_eq (s.state.filled + count) (32 * s.state.chunk)) [
          | inl full ↦ absurd (false≢true (sym is ∙ next full))
          | inr part ↦ subst (λ (b : Bool). length s.pairs + length (take count s.begun) ≤ last_slot s.state.chunk s.state.current b) (sym is) (omega (arith, counted, many, fits, one_more, part))
        ]

      -- the slots behind the pairs of the current area are empty still
      rest_now : is_loud (layers s.device) ≡ true → IsThereOn holds contents size o s → SnapLastsOn holds contents size o s → (j : ℕ) → length (s.pairs ++ take count s.begun) ≤ j → j < (s.state.current + 1) * (32 * s.state.chunk) → (slot s.state.chunk (contents t.device) j).new ≡ 0
      rest_now ls there lasts j lo hi =
          let i : ℕ = j - s.state.current * (32 * s.state.chunk) in
          let at : s.state.current * (32 * s.state.chunk) + (j - s.state.current * (32 * s.state.chunk)) ≡ j = omega (arith, lo, longer) in
          let low : s.state.filled + count ≤ j - s.state.current * (32 * s.state.chunk) = omega (arith, lo, longer) in
          let high : j - s.state.current * (32 * s.state.chunk) < 32 * s.state.chunk = omega (arith, hi, one_more, at) in
          let room : 512 * (s.state.chunk * area_place s.state.chunk s.state.current) + 512 * s.state.chunk ≤ length (contents s.device) = room_now in
          let last : j ≤ last_of (lost_of size o s) = last_known hi in
          let was = (lasts.list.slots j (sector_at (contents s.device) (sector_of s.state.chunk j)) last (there.store_now.each (sector_of s.state.chunk j) (lasts.inside j last))).past (omega (arith, lo, length-append s.pairs (take count s.begun))) in
          ap (λ n. (slot s.state.chunk (contents t.device) n).new) (sym at)
          ∙ ap (λ z. (slot s.state.chunk z (s.state.current * (32 * s.state.chunk) + (j - s.state.current * (32 * s.state.chunk)))).new) (written ls)
          ∙ ap (λ (p : Pair). p.new) (slot_beyond s.state.chunk s.state.current s.state.filled count (contents s.device) (pairs_bytes (take count s.begun)) (pairs_long (take count s.begun) ∙ ap (λ n. 16 * n) many) fits room (j - s.state.current * (32 * s.state.chunk)) low high)
          ∙ ap (λ n. (slot s.state.chunk (contents s.device) n).new) at ∙ ap (λ (p : Pair). p.new) (sym (slot_there s.state.chunk (contents s.device) j k.some)) ∙ was
        where
          last_known : j < (s.state.current + 1) * (32 * s.state.chunk) → j ≤ last_of (lost_of size o s)
          last_known below = by s.state.firm refl where
            by : (b : Bool) → s.state.firm ≡ b → j ≤ last_slot s.state.chunk s.state.current s.state.firm
            by true is = subst (λ (b : Bool). j ≤ last_slot s.state.chunk s.state.current b) (sym is) (omega (arith, below, one_more, two_more))
            by false is = subst (λ (b : Bool). j ≤ last_slot s.state.chunk s.state.current b) (sym is) (omega (arith, below))

          room_now : 512 * (s.state.chunk * area_place s.state.chunk s.state.current) + 512 * s.state.chunk ≤ length (contents s.device)
          room_now =
              let its : length s.pairs / (32 * s.state.chunk) ≡ s.state.current = ap (λ n. n / (32 * s.state.chunk)) counted ∙ area_of s.state.chunk s.state.current s.state.filled part in
              let room : s.state.chunk * (area_place s.state.chunk s.state.current + 1) ≤ size s.device = subst (λ n. s.state.chunk * (area_place s.state.chunk n + 1) ≤ size s.device) its l.formed.room in
              let up : s.state.chunk * (area_place s.state.chunk s.state.current + 1) ≡ s.state.chunk * area_place s.state.chunk s.state.current + s.state.chunk = grind arith in
              omega (arith, room, up, whole s.device)

      unwritten : is_loud (layers o) ≡ true → AddsNow (holds o) (holds o) (contents o)
      unwritten lo x v was = inl was

      stopping : is_loud (layers o) ≡ true → is_loud (layers s.device) ≡ true → IsThereOn holds contents size o s → SnapLastsOn holds contents size o s → StopsSnapLost (holds o) (holds s.device) (holds o) (holds t.device) s.marked NoneGiven (lost_of size o s)
      stopping lo ls there lasts = commit_stops (holds o) (holds s.device) (holds o) (holds t.device) (contents o) (contents s.device) (contents t.device) (IsReady s.copies) (IsReady t.copies) (lost_of size o s) (take count s.begun) there lasts (unwritten lo) (store.adds ls)
          e.only (e.stored ls ∙ e.pairs) formed_now flushed_now (rest_now ls there lasts) reach (λ x r. ready_drop count s.copies x (subst (λ cs. IsReady cs x) e.copies r))

      left : MayLeave (holds t.device) (size s.device) (contents t.device)
      left = subst (λ n. MayLeave (holds t.device) n (contents t.device)) store.sectors (leaves holds contents layers size whole here t.device)

      lasting : is_loud (layers o) ≡ true → is_loud (layers s.device) ≡ true → IsThereOn holds contents size o s → SnapLastsOn holds contents size o s → SnapLastsOn holds contents size o t
      lasting lo ls there lasts = elim (cases_eq (s.state.filled + count) (32 * s.state.chunk)) [
        | inl full ↦ (let after : t.state ≡ record s.state { current = s.state.current + 1; filled = 0; zeroed = false; firm = false } = ap (λ (x : Kept B). x.state) f ∙ cond-true _ _ _ (eq-eqb (s.state.filled + count) (32 * s.state.chunk) full) in
            let lost : lost_of size o t ≡ record (lost_of size o s) { current = s.state.current + 1; zeroed = false; firm = false; pairs = s.pairs ++ take count s.begun } = cc (after, ap (λ (x : Kept B). x.pairs) f, ap (λ (x : Kept B). x.marked) f, store.sectors) in
            subst (SnapLasts (holds o) (holds t.device) (contents o) (contents t.device) (IsReady t.copies)) (sym lost)
            (commit_fills (holds o) (holds s.device) (holds o) (holds t.device) (contents o) (contents s.device) (contents t.device) (IsReady s.copies) (IsReady t.copies) (lost_of size o s) (take count s.begun) there lasts (unwritten lo) (store.adds ls)
            e.only (e.stored ls ∙ e.pairs) formed_now flushed_now (rest_now ls there lasts) reach (λ x r. ready_drop count s.copies x (subst (λ cs. IsReady cs x) e.copies r)) (leaves holds contents layers size whole here o) left (next full)))
        | inr ne ↦ (let after : t.state ≡ record s.state { filled = s.state.filled + count } = ap (λ (x : Kept B). x.state) f ∙ cond-false _ _ _ (ne_eqb (s.state.filled + count) (32 * s.state.chunk) ne) in
            let lost : lost_of size o t ≡ record (lost_of size o s) { pairs = s.pairs ++ take count s.begun } = cc (after, ap (λ (x : Kept B). x.pairs) f, ap (λ (x : Kept B). x.marked) f, store.sectors) in
            subst (SnapLasts (holds o) (holds t.device) (contents o) (contents t.device) (IsReady t.copies)) (sym lost)
            (commit_lasts (holds o) (holds s.device) (holds o) (holds t.device) (contents o) (contents s.device) (contents t.device) (IsReady s.copies) (IsReady t.copies) (lost_of size o s) (take count s.begun) there lasts (unwritten lo) (store.adds ls)
            e.only (e.stored ls ∙ e.pairs) formed_now flushed_now (rest_now ls there lasts) reach (λ x r. ready_drop count s.copies x (subst (λ cs. IsReady cs x) e.copies r)) (leaves holds contents layers size whole here o) left))
      ]

      formed_then : AreWellFormed t.state.chunk (size o) (size t.device) t.pairs
      formed_then = subst (λ n. AreWellFormed t.state.chunk (size o) n t.pairs) step.sized (subst (λ n. AreWellFormed t.state.chunk n t.state.size t.pairs) (e.same.sectors ∙ k.fits) step.formed)

      pub commit_goes : Goes holds contents layers size whole here given o o s t
      commit_goes = law_goes holds contents layers size whole here o rs s k l given o t (called holds contents layers size whole here o o (same_device holds contents layers size whole here o)) store s.marked
          (λ lo ls side there lasts. snap_gives (holds o) (holds s.device) (holds o) (holds t.device) NoneGiven (Gives given (Some s.number)) s.marked (lost_of size o s) (λ x w lt n. absurd n) (stopping lo ls there lasts))
          (λ lo ls side there lasts lives'. lasting lo ls there lasts) l.unmarked (λ _. ap (λ (x : Kept B). x.marked) f ∙ l.unmarked live) formed_then (λ ls. step.pairs (store.loud ∙ ls)) (λ _. inl live) (λ lo ls dead. dies dead) (λ lo ls dead. dies' dead)

    -- The store is flushed: all pairs are sure, a zeroed area is firm, and copies that were written are flushed.
    module _ (f : t ≡ record s { device = t.device; state = record s.state { firm = s.state.zeroed; sure = length s.pairs }; copies = map flushed_copy s.copies; marks = map safe_mark s.marks }) (counted : length s.pairs ≡ s.state.current * (32 * s.state.chunk) + s.state.filled) (part : s.state.filled < 32 * s.state.chunk)
        (store : IsSameDevice holds contents layers size s.device t.device) (firm : is_loud (layers s.device) ≡ true → IsFirm (holds t.device) (contents t.device) (size t.device)) where
      stored_copy : is_loud (layers o) ≡ true → is_loud (layers s.device) ≡ true → (q : Pair) → IsReady t.copies q → IsCopied s.state.chunk (contents o) (contents s.device) q × (s.state.chunk * (q.new + 1) ≤ size s.device)
      stored_copy lo ls q ready =
          let r : IsReady (map flushed_copy s.copies) q = subst (λ cs. IsReady cs q) (ap (λ (x : Kept B). x.copies) f) ready in
          let lt : r.index < length s.copies = (let w = r.within in omega (arith, w, length-map s.copies flushed_copy)) in
          let (p, is) = there_is s.copies r.index lt in
          let after : r.copy ≡ flushed_copy p = r.is ∙ get_or-map flushed_copy s.copies r.index p r.copy lt ∙ ap flushed_copy (sym is) in
          let held = (alive holds contents layers size whole here o rs s k l live).copies r.index p lt in
          let far : is_stored (get_or s.copies r.index p).stage ≡ true = ap (λ (c : ChunkCopy). is_stored c.stage) (sym is) ∙ stored_of p.stage (ap (λ (c : ChunkCopy). c.stage) (sym after) ∙ r.flushed) in
          let pair : p.pair ≡ q = ap (λ (c : ChunkCopy). c.pair) (sym after) ∙ r.pair in
          subst (λ (z : Pair). IsCopied s.state.chunk (contents o) (contents s.device) z × (s.state.chunk * (z.new + 1) ≤ size s.device)) pair (
            subst (λ (z : ChunkCopy). IsCopied s.state.chunk (contents o) (contents s.device) z.pair) (sym is) (held.written (both_loud (is_loud (layers o)) (is_loud (layers s.device)) lo ls) far),
            (copy_inside holds contents layers size whole here o rs s k l live r.index p lt is).new,
          )

      lost_then : lost_of size o t ≡ record (lost_of size o s) { firm = s.state.zeroed; sure = length s.pairs }
      lost_then = cc (f, store.sectors)

      flush_calm : IsThereOn holds contents size o s → SnapLastsOn holds contents size o s → IsCalmSnap (contents o) (contents o) (contents s.device) (contents t.device) (IsReady s.copies) (IsReady s.copies) s.state.zeroed s.marked (Gives given (Some s.number)) (lost_of size o s)
      flush_calm there lasts = subst (λ z. IsCalmSnap (contents o) (contents o) (contents s.device) z (IsReady s.copies) (IsReady s.copies) s.state.zeroed s.marked (Gives given (Some s.number)) (lost_of size o s)) (sym store.bytes)
          (calm_same (holds o) (holds s.device) (contents o) (contents s.device) (IsReady s.copies) (lost_of size o s) there lasts (IsReady s.copies) (Gives given (Some s.number)) (λ q r. r))

      reaches : length s.pairs < (s.state.current + 1) * (32 * s.state.chunk)
      reaches = (let up : (s.state.current + 1) * (32 * s.state.chunk) ≡ s.state.current * (32 * s.state.chunk) + 32 * s.state.chunk = grind arith in omega (arith, up, counted, part))

      pub flush_goes : Goes holds contents layers size whole here given o o s t
      flush_goes = law_goes holds contents layers size whole here o rs s k l given o t (called holds contents layers size whole here o o (same_device holds contents layers size whole here o)) (called holds contents layers size whole here s.device t.device store) s.marked
          (λ lo ls side there lasts. calm_stops (holds o) (holds s.device) (holds o) (holds t.device) (contents o) (contents o) (contents s.device) (contents t.device) (IsReady s.copies) (IsReady s.copies) s.state.zeroed s.marked (Gives given (Some s.number)) (lost_of size o s) there lasts (flush_calm there lasts) (λ x v was. inl was) (store.adds ls))
          (λ lo ls side there lasts lives'. subst (SnapLasts (holds o) (holds t.device) (contents o) (contents t.device) (IsReady t.copies)) (sym lost_then)
          (subst (λ z. SnapLasts (holds o) (holds t.device) (contents o) z (IsReady t.copies) (record (lost_of size o s) { firm = s.state.zeroed; sure = length s.pairs })) (sym store.bytes)
          (flush_lasts (holds o) (holds s.device) (holds o) (holds t.device) (contents o) (contents s.device) (IsReady s.copies) (IsReady t.copies) (lost_of size o s) there lasts (λ x v was. inl was)
          (subst (λ z. IsFirm (holds t.device) z (size s.device)) store.bytes (subst (λ n. IsFirm (holds t.device) (contents t.device) n) store.sectors (firm ls))) reaches (stored_copy lo ls))))
          l.unmarked (λ _. ap (λ (x : Kept B). x.marked) f ∙ l.unmarked live) (subst (λ (v : Lost). AreWellFormed v.chunk v.sectors v.size v.pairs) (sym lost_then) l.formed)
          (λ ls. ap (λ (v : Lost). pairs_of v.chunk (contents t.device)) lost_then ∙ ap (pairs_of s.state.chunk) store.bytes ∙ l.listed ls ∙ ap (λ (v : Lost). v.pairs) (sym lost_then)) (λ _. inl live) (λ lo ls dead. dies dead) (λ lo ls dead. dies' dead)

  -- A write of its own array goes to a chunk's place, where that is surely in the list.
  pub own_write_goes : (t : Kept B) (named n r count first : ℕ) (bytes : List ℕ) → s.live ≡ true → t ≡ record s { device = t.device } → place_of (take s.state.sure s.pairs) named ≡ Some n → r + count ≤ s.state.chunk → length bytes ≡ 512 * count → first ≡ s.state.chunk * named + r
      → ChangesOnly s.state.chunk n (contents s.device) (contents t.device) → (is_loud (layers s.device) ≡ true → contents t.device ≡ with_sectors (contents s.device) (s.state.chunk * n + r) bytes) → IsCalled holds contents layers size s.device t.device
      → Goes holds contents layers size whole here (Some (record { array = Some s.number; first = first; count = count; bytes = bytes })) o o s t
  own_write_goes t named n r count first bytes live f at within long begins only written store =
      let g : Given = record { array = Some s.number; first = first; count = count; bytes = bytes } in
      let listed : place_of s.pairs named ≡ Some n = place_first s.state.sure s.pairs named n at in
      let good = place_good s.state.chunk (size o) (size s.device) named n s.pairs l.formed.inside listed in
      calm_goes holds contents layers size whole here o rs s k l (Some g) o t (called holds contents layers size whole here o o (same_device holds contents layers size whole here o)) store s.state.zeroed s.marked
      (left_lost holds contents layers size whole here o rs s k l o t (left_by t f) refl store.sectors)
      (λ lo ls side there lasts. calm_fewer (contents o) (contents o) (contents s.device) (contents t.device) (IsReady s.copies) (IsReady t.copies) s.state.zeroed s.marked (Gives (Some g) (Some s.number)) (lost_of size o s) (λ x ready. subst (λ cs. IsReady cs x) (ap (λ (y : Kept B). y.copies) f) ready)
      (calm_gives (contents o) (contents o) (contents s.device) (contents t.device) (IsReady s.copies) (IsReady s.copies) s.state.zeroed s.marked (GivesPlace s.state.chunk named r count bytes) (Gives (Some g) (Some s.number)) (lost_of size o s) (λ x w gives. place_given s.state.chunk named r count first bytes (Some s.number) x w begins gives)
      (subst (λ z. IsCalmSnap (contents o) (contents o) (contents s.device) z (IsReady s.copies) (IsReady s.copies) s.state.zeroed s.marked (GivesPlace s.state.chunk named r count bytes) (lost_of size o s)) (sym (written ls))
      (calm_own_write (holds o) (holds s.device) (contents o) (contents s.device) (IsReady s.copies) (lost_of size o s) there lasts named n r count bytes at within long
      (λ x ready e. copy_place holds contents layers size whole here o rs s k l live ready.index ready.copy ready.within ready.is named n listed (sym e ∙ ap (λ (z : Pair). z.new) (sym ready.pair)))))))
      l.unmarked (λ lives. l.unmarked (ap (λ (x : Kept B). x.live) (sym f) ∙ lives)) (λ ls. pairs-outside s.state.chunk n (contents s.device) (contents t.device) k.some good.free only ∙ l.listed ls) (λ _. inl live)
      (λ lo ls dead. absurd (false≢true (sym dead ∙ live))) (λ lo ls dead. absurd (false≢true (sym dead ∙ ap (λ (x : Kept B). x.live) f ∙ live)))
    where
      left_by : (t : Kept B) → t ≡ record s { device = t.device } → IsLeft s t
      left_by t f = record { chunk = ap (λ (x : Kept B). x.state.chunk) f; current = ap (λ (x : Kept B). x.state.current) f; zeroed = ap (λ (x : Kept B). x.state.zeroed) f; firm = ap (λ (x : Kept B). x.state.firm) f; sure = ap (λ (x : Kept B). x.state.sure) f; marked = ap (λ (x : Kept B). x.marked) f; pairs = ap (λ (x : Kept B). x.pairs) f }

  -- The header of a spoiled one is marked invalid.
  pub mark_goes : (given : Option Given) (t : Kept B) → s.untried ≡ true → s.live ≡ false → t ≡ record s { device = t.device; marked = true; state = record s.state { valid = false } } → ChangesOnly s.state.chunk 0 (contents s.device) (contents t.device) → IsInStep contents layers size t
      → IsCalled holds contents layers size s.device t.device → Goes holds contents layers size whole here given o o s t
  mark_goes given t waits dead f only step store =
      calm_goes holds contents layers size whole here o rs s k l given o t (called holds contents layers size whole here o o (same_device holds contents layers size whole here o)) store s.state.zeroed true (cc (f, store.sectors))
      (λ lo ls side there lasts. calm_fewer (contents o) (contents o) (contents s.device) (contents t.device) (IsReady s.copies) (IsReady t.copies) s.state.zeroed true (Gives given (Some s.number)) (lost_of size o s) (λ x ready. subst (λ cs. IsReady cs x) (ap (λ (y : Kept B). y.copies) f) ready)
      (calm_mark (holds o) (holds s.device) (contents o) (contents s.device) (IsReady s.copies) (lost_of size o s) there lasts (contents t.device) (Gives given (Some s.number)) only (step.header (store.loud ∙ ls) ∙ ap (λ (x : Kept B). marked_as (not x.marked) x.state.chunk) f)))
      (λ live. absurd (false≢true (sym dead ∙ live))) (λ live. absurd (false≢true (sym dead ∙ ap (λ (x : Kept B). x.live) (sym f) ∙ live)))
      (λ ls. ap (λ (x : Kept B). pairs_of x.state.chunk (contents t.device)) (sym f) ∙ step.pairs (store.loud ∙ ls) ∙ ap (λ (x : Kept B). x.pairs) f) (λ _. inr waits)
      (λ lo ls _ tried. absurd (false≢true (sym tried ∙ waits))) (λ lo ls _ tried. absurd (false≢true (sym tried ∙ ap (λ (x : Kept B). x.untried) f ∙ waits)))

  -- The mark of a spoiled one is tried: it failed, or the store was flushed after it.
  pub tries_goes : (given : Option Given) (t : Kept B) → s.untried ≡ true → s.live ≡ false → t.live ≡ false → t.untried ≡ false → IsLeft s t → ((q : Pair) → IsReady t.copies q → IsReady s.copies q) → IsSameDevice holds contents layers size s.device t.device
      → (is_loud (layers s.device) ≡ true → t.stale ≡ false → SnapRefused (holds t.device)) → Goes holds contents layers size whole here given o o s t
  tries_goes given t waits dead gone tried i fewer store refuses =
      calm_goes holds contents layers size whole here o rs s k l given o t (called holds contents layers size whole here o o (same_device holds contents layers size whole here o)) (called holds contents layers size whole here s.device t.device store) s.state.zeroed s.marked
      (left_lost holds contents layers size whole here o rs s k l o t i refl store.sectors)
      (λ lo ls side there lasts. subst (λ z. IsCalmSnap (contents o) (contents o) (contents s.device) z (IsReady s.copies) (IsReady t.copies) s.state.zeroed s.marked (Gives given (Some s.number)) (lost_of size o s)) (sym store.bytes)
      (calm_same (holds o) (holds s.device) (contents o) (contents s.device) (IsReady s.copies) (lost_of size o s) there lasts (IsReady t.copies) (Gives given (Some s.number)) fewer))
      (λ live. absurd (false≢true (sym dead ∙ live))) (λ live. absurd (false≢true (sym gone ∙ live))) (λ ls. ap (pairs_of s.state.chunk) store.bytes ∙ l.listed ls) (λ _. inr waits)
      (λ lo ls _ was. absurd (false≢true (sym was ∙ waits))) (λ lo ls _ _ fresh. refuses ls fresh)

  -- and where it was flushed it is refused
  pub flushed_refuses : (t : Kept B) → s.marked ≡ true → t.marked ≡ s.marked → IsInStep contents layers size t → IsSameDevice holds contents layers size s.device t.device → IsFirm (holds t.device) (contents t.device) (size t.device) → is_loud (layers s.device) ≡ true → SnapRefused (holds t.device)
  flushed_refuses t marked same step store firm ls =
      mark_flushed (holds t.device) (contents t.device) (size t.device) (subst (λ n. 0 < n) (sym store.sectors) (some_sectors holds contents layers size whole here o rs s k l)) firm (step.header (store.loud ∙ ls) ∙ ap (λ b. marked_as (not b) t.state.chunk) (same ∙ marked))

  -- The origin's disk is written, and its store is not: only in chunks that are surely in its list.
  pub disk_goes : (given : Option Given) (o' : B) (t : Kept B) → IsCalled holds contents layers size o o' → IsSameDevice holds contents layers size s.device t.device → IsLeft s t → Stays s t ⊎ Spoils s t
      → ((s.live ≡ true) ⊎ (s.untried ≡ true) → (x : ℕ) → x < size o → place_of (take s.state.sure s.pairs) (x / s.state.chunk) ≡ None → sector_at (contents o') x ≡ sector_at (contents o) x) → Goes holds contents layers size whole here given o o' s t
  disk_goes given o' t disk store i turn beside =
      calm_goes holds contents layers size whole here o rs s k l given o' t disk (called holds contents layers size whole here s.device t.device store) s.state.zeroed s.marked (left_lost holds contents layers size whole here o rs s k l o' t i disk.sectors store.sectors)
      (λ lo ls side there lasts. subst (λ z. IsCalmSnap (contents o) (contents o') (contents s.device) z (IsReady s.copies) (IsReady t.copies) s.state.zeroed s.marked (Gives given (Some s.number)) (lost_of size o s)) (sym store.bytes)
      (calm_fewer (contents o) (contents o') (contents s.device) (contents s.device) (IsReady s.copies) (IsReady t.copies) s.state.zeroed s.marked (Gives given (Some s.number)) (lost_of size o s) fewer
      (calm_disk_write (holds o) (holds s.device) (contents o) (contents s.device) (IsReady s.copies) (lost_of size o s) there lasts (contents o') (Gives given (Some s.number)) (beside side))))
      l.unmarked (λ lives. elim turn [ inl st ↦ l.unmarked (sym st.0 ∙ lives) | inr sp ↦ absurd (false≢true (sym sp.1 ∙ lives)) ]) (λ ls. ap (pairs_of s.state.chunk) store.bytes ∙ l.listed ls)
      (λ side. elim turn [ inl st ↦ elim side [ inl lives ↦ inl (sym st.0 ∙ lives) | inr waits ↦ inr (sym st.1 ∙ waits) ] | inr sp ↦ inl sp.0 ])
      (refused_store holds contents layers size whole here o rs s k l t store)
      (λ lo ls dead tried fresh. elim turn [ inl st ↦ refused_store holds contents layers size whole here o rs s k l t store lo ls (sym st.0 ∙ dead) (sym st.1 ∙ tried) (sym st.2 ∙ fresh) | inr sp ↦ absurd (false≢true (sym tried ∙ sp.2)) ])
    where
      fewer : (q : Pair) → IsReady t.copies q → IsReady s.copies q
      fewer q r = elim turn [ inl st ↦ st.3 q r | inr sp ↦ absurd (sp.3 q r) ]
