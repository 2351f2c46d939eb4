-- A merge's writes and reads of areas.
use Rattle.std.proofs.Common.{◌≡◌, ◌⊎◌, inl, inr, ℕ, zero, ◌+◌, ◌*◌, ◌-◌, ◌/◌, ◌<◌, ◌≤◌, List, [], ◌++◌, length, take, drop, get_or, arith, ap, ◌∙◌, sym, subst, Bool, false, replicate, length-append}
use Rattle.std.proofs.lemmas.Bool.{cases_lt, false≢true, true≢false}
use Rattle.std.proofs.lemmas.List.{get_or-take, length-take-le, length-replicate, get_or_append_left}
use Rattle.sector.specs.Bytes.{with_part, with_sectors}
use Rattle.sector.specs.declared.pair.Pair.{Pair}
use Rattle.cow_format.specs.Slots.{pair_in}
use Rattle.cow_format.specs.Places.{chunk_at, area_place}
use Rattle.cow_format.specs.Pairs.{IsApart, IsInside}
use Rattle.cow_format.proofs.AreaPlaces.{places_apart}
use Rattle.cow_format.proofs.Slots.{pairs-cleared}
use Rattle.metadata_area.specs.Cleared.{no_pair, zero_slots}
use Rattle.store.specs.Loading.{is_begun, is_settled}
use Rattle.store.specs.Stored.{IsFront, IsStored, AreGiven}
use Rattle.store.specs.declared.state.Left.TheVariants.{Tail, Nothing}
use Rattle.store.specs.declared.state.State.{State}
use Rattle.store.proofs.Heads.{area_past, head_kept}
use Rattle.store.proofs.Areas.{slot_listed, chunk-written, chunk_only}
use Rattle.store.proofs.Given.{given_dropped}
use Rattle.store.proofs.Loads.{areas_rise}
use Rattle.store.proofs.Parts.{part-through, part-back}

-- an area without the pairs of so many slots, from one on
pub record IsCut (area : List ℕ) (slot count : ℕ) (x : List ℕ) : Type 0 where
  pub all : x ≡ zero_slots area slot count
  pub len : length x ≡ length area
  pub others : (k : ℕ) → (k < slot) ⊎ (slot + count ≤ k) → pair_in x k ≡ pair_in area k
  pub cleared : (k : ℕ) → slot ≤ k → k < slot + count → pair_in x k ≡ no_pair

-- the memory with fewer pairs
pub front_less : (count n : ℕ) (ps : List Pair) (s : State) (area x : List ℕ) → IsFront ps s area → IsCut area (s.filled - count) count x → 0 < count → count ≤ s.filled → s.left ≡ Nothing → IsFront (take (length ps - count) ps) (record s { filled = s.filled - count; sure = n; copying = false }) x
front_less count n ps s area x is cut some le ready = let c = is.count in let fits = is.fits in record {
  some = is.some;
  allowed = is.allowed;
  size = is.size;
  whole = cut.len ∙ is.whole;
  place = is.place;
  count = length-take-le (length ps - count) ps (omega arith) ∙ omega arith;
  fits = omega arith;
  empty = λ i from to. elim (cases_lt i s.filled) [
    | inl lt ↦ ap (λ p. p.new) (cut.cleared i from (omega arith))
    | inr past ↦ ap (λ p. p.new) (cut.others i (inr (omega arith))) ∙ is.empty i past to
  ];
  part = λ e. absurd (true≢false (sym (ap is_settled ready) ∙ e));
  next = λ e. absurd (false≢true e);
  none = λ e. absurd (true≢false (sym (ap is_begun ready) ∙ e));
  blank = λ e. absurd (true≢false (sym (ap is_begun ready) ∙ e));
  room = is.room;
  firm = is.firm;
  early = is.early;
}

-- the bytes with fewer pairs
pub stored_less : (count n : ℕ) (ps : List Pair) (s : State) (area x old new : List ℕ) → IsFront ps s area → IsStored old ps s area → IsCut area (s.filled - count) count x → 0 < count → count ≤ s.filled → s.left ≡ Nothing → length old ≡ 512 * s.size → new ≡ with_sectors old (s.chunk * area_place s.chunk s.current) x → IsStored new (take (length ps - count) ps) (record s { filled = s.filled - count; sure = n; copying = false }) x
stored_less count n ps s area x old new is stored cut some le ready whole written =
    let c = is.count in let fits = is.fits in
    let long : length x ≡ 512 * s.chunk = cut.len ∙ is.whole in
    let only = chunk_only s.size s.chunk (area_place s.chunk s.current) old new x whole long is.place written in
    let here = chunk-written s.size s.chunk (area_place s.chunk s.current) old new x whole long is.place written in
    let was = stored.here (ap is_settled ready) in
    record {
      head = head_kept s.chunk (area_place s.chunk s.current) old new is.some (area_past s.chunk s.current) only ∙ stored.head;
      listed = λ _. pairs-cleared s.chunk s.current s.filled (s.filled - count) old new ps is.some (stored.listed (ap is_begun ready)) is.count (omega arith) (omega arith) only
          (λ k lt. ap (λ b. pair_in b k) here ∙ cut.others k (inl lt) ∙ sym (ap (λ b. pair_in b k) was))
          (ap (λ b. (pair_in b (s.filled - count)).new) here ∙ ap (λ p. p.new) (cut.cleared (s.filled - count) (omega arith) (omega arith)))
          ∙ ap (λ n. take n ps) (omega arith);
      holds = λ i d lt. cut.others i (inl lt) ∙ stored.holds i d (omega arith) ∙ sym (get_or-take (length ps - count) ps (s.current * (32 * s.chunk) + i) d (omega arith));
      here = λ _. here;
      tail = λ e. (let no : Nothing ≡ Tail = sym ready ∙ e in absurd (cc));
      next = λ z. only.rest _ (places_apart s.chunk (s.current + 1) s.current (omega arith)) ∙ stored.next z;
    }

-- slots of an area that were kept in another before they were cleared are put back
pub cut-back : (slot count : ℕ) (area x spare kept back : List ℕ) → x ≡ zero_slots area slot count → 16 * (slot + count) ≤ length area → length spare ≡ length area → kept ≡ with_part spare (16 * slot) (take (16 * count) (drop (16 * slot) area)) → back ≡ with_part x (16 * slot) (take (16 * count) (drop (16 * slot) kept)) → back ≡ area
cut-back slot count area x spare kept back cut fits same keeps backs =
    backs
    ∙ ap (λ y. with_part y (16 * slot) (take (16 * count) (drop (16 * slot) kept))) cut
    ∙ ap (λ y. with_part (zero_slots area slot count) (16 * slot) (take (16 * count) (drop (16 * slot) y))) keeps
    ∙ part-back area spare (replicate (16 * count) 0) (16 * slot) (16 * count) (length-replicate (16 * count) zero) (omega arith) same

-- the store's bytes after an area was written without some pairs
pub cut-written : (size chunk n slot count : ℕ) (area x old : List ℕ) → IsCut area slot count x → chunk_at chunk old n ≡ area → length old ≡ 512 * size → chunk * (n + 1) ≤ size → slot + count ≤ 32 * chunk → with_sectors old (chunk * n) x ≡ with_part old (512 * (chunk * n) + 16 * slot) (replicate (16 * count) 0)
cut-written size chunk n slot count area x old cut here whole inside fits =
    let e : chunk * (n + 1) ≡ chunk * n + chunk = grind arith in
    let len = length-replicate (16 * count) zero in
    ap (with_sectors old (chunk * n)) (cut.all ∙ ap (λ a. with_part a (16 * slot) (replicate (16 * count) 0)) (sym here))
    ∙ part-through old (chunk * n) chunk (16 * slot) (replicate (16 * count) 0) (omega arith) (omega arith)

-- fewer pairs
pub given_less : (chunk origin size place place' n : ℕ) (copying : Bool) (C P : List Pair) → AreGiven chunk origin size place copying C P → length P ≡ 0 → n ≤ length C → chunk * (area_place chunk (length (take n C) / (32 * chunk)) + 1) ≤ size → AreGiven chunk origin size place' false (take n C) P
given_less chunk origin size place place' n copying C P given none le room =
    let alone = given_dropped chunk origin size place copying C P given in
    let len = length-take-le n C le in
    let app = length-append (take n C) P in
    let all = length-append C [] in
    let at : (k : ℕ) (d : Pair) → k < n → get_or (C ++ []) k d ≡ get_or (take n C ++ P) k d = λ k d lt. get_or_append_left C [] d k (omega arith) ∙ sym (get_or-take n C k d lt) ∙ sym (get_or_append_left (take n C) P d k (omega arith)) in
    record {
      inside = λ k d lt. subst (λ (p : Pair). IsInside chunk origin size p) (at k d (omega arith)) (alone.inside k d (omega arith));
      apart = λ j k d lt lt'. subst (λ (p : Pair). IsApart p (get_or (take n C ++ P) k d)) (at j d (omega arith)) (subst (λ (p : Pair). IsApart (get_or (C ++ []) j d) p) (at k d (omega arith)) (alone.apart j k d lt (omega arith)));
      room = room;
      least = λ e. absurd (false≢true e);
    }

-- no copy starts any more
pub given_closed : (chunk origin size place : ℕ) (copying : Bool) (C P : List Pair) → AreGiven chunk origin size place copying C P → AreGiven chunk origin size place false C P
given_closed chunk origin size place copying C P given = record { inside = given.inside; apart = given.apart; room = given.room; least = λ e. absurd (false≢true e) }

-- the area before is read
pub front_read : (ps : List Pair) (s : State) (area x : List ℕ) → IsFront ps s area → s.filled ≡ 0 → 0 < s.current → s.left ≡ Nothing → length x ≡ 512 * s.chunk → IsFront ps (record s { current = s.current - 1; filled = 32 * s.chunk; zeroed = false; firm = false; copying = false }) x
front_read ps s area x is empty before ready whole =
    let c = is.count in
    let up : s.current ≡ (s.current - 1) + 1 = omega arith in
    let e : s.current * (32 * s.chunk) ≡ (s.current - 1) * (32 * s.chunk) + 32 * s.chunk = ap (λ n. n * (32 * s.chunk)) up ∙ grind arith in
    let there = is.place in
    let rise = areas_rise s.chunk (s.current - 1) s.current (omega arith) in
    record {
      some = is.some;
      allowed = is.allowed;
      size = is.size;
      whole = whole;
      place = omega arith;
      count = omega arith;
      fits = omega arith;
      empty = λ i from to. absurd (omega arith);
      part = λ e. absurd (true≢false (sym (ap is_settled ready) ∙ e));
      next = λ e. absurd (false≢true e);
      none = λ e. absurd (true≢false (sym (ap is_begun ready) ∙ e));
      blank = λ e. absurd (true≢false (sym (ap is_begun ready) ∙ e));
      room = λ z. absurd (false≢true z);
      firm = λ f. absurd (false≢true f);
      early = is.early;
    }

pub stored_read : (ps : List Pair) (s : State) (area x old : List ℕ) → IsFront ps s area → IsStored old ps s area → s.filled ≡ 0 → 0 < s.current → s.left ≡ Nothing → x ≡ chunk_at s.chunk old (area_place s.chunk (s.current - 1)) → IsStored old ps (record s { current = s.current - 1; filled = 32 * s.chunk; zeroed = false; firm = false; copying = false }) x
stored_read ps s area x old is stored empty before ready read =
    let c = is.count in
    let up : s.current ≡ (s.current - 1) + 1 = omega arith in
    let e : s.current * (32 * s.chunk) ≡ (s.current - 1) * (32 * s.chunk) + 32 * s.chunk = ap (λ n. n * (32 * s.chunk)) up ∙ grind arith in
    record {
      head = stored.head;
      listed = λ _. stored.listed (ap is_begun ready);
      holds = λ k d lt. ap (λ b. pair_in b k) read ∙ slot_listed s.chunk (s.current - 1) (32 * s.chunk) old ps k d is.some (stored.listed (ap is_begun ready)) (omega arith) lt (omega arith);
      here = λ _. sym read;
      tail = λ e. (let no : Nothing ≡ Tail = sym ready ∙ e in absurd (cc));
      next = λ z. absurd (false≢true z);
    }
