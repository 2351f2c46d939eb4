-- A commit of pairs.
use Rattle.std.proofs.Common.{◌≡◌, ◌≢◌, inl, inr, ℕ, zero, ◌+◌, ◌*◌, ◌-◌, ◌<◌, ◌≤◌, List, ◌++◌, length, get_or, arith, ap, ◌∙◌, sym, true, false, length-append, replicate}
use Rattle.std.proofs.lemmas.Bool.{cases_lt, false≢true, true≢false}
use Rattle.std.proofs.lemmas.List.{length-replicate, get_or_append_left, get_or-append-add}
use Rattle.sector.specs.Bytes.{with_sectors}
use Rattle.sector.specs.declared.pair.Pair.{Pair}
use Rattle.cow_format.specs.Slots.{pair_in}
use Rattle.cow_format.specs.Places.{area_place}
use Rattle.cow_format.specs.Pairs.{pairs_of}
use Rattle.cow_format.proofs.AreaPlaces.{places_apart}
use Rattle.cow_format.proofs.Slots.{pairs-committed}
use Rattle.store.specs.Slots.{IsPut}
use Rattle.store.specs.Loading.{is_begun, is_settled}
use Rattle.store.specs.Stored.{IsFront, IsStored}
use Rattle.store.specs.declared.state.Left.TheVariants.{Tail, Nothing}
use Rattle.store.specs.declared.state.State.{State}
use Rattle.store.proofs.Heads.{area_past, head_kept}
use Rattle.store.proofs.Areas.{empty_zeros, chunk-written, chunk_only}

-- the memory's pairs are the list's
holds_more : (ps qs : List Pair) (s : State) (area x : List ℕ) → length ps ≡ s.current * (32 * s.chunk) + s.filled → ((i : ℕ) (d : Pair) → i < s.filled → pair_in area i ≡ get_or ps (s.current * (32 * s.chunk) + i) d) → IsPut area s.filled qs x → (i : ℕ) (d : Pair) → i < s.filled + length qs → pair_in x i ≡ get_or (ps ++ qs) (s.current * (32 * s.chunk) + i) d
holds_more ps qs s area x count holds put i d lt = elim (cases_lt i s.filled) [
  | inl lo ↦ put.others i (inl lo) ∙ holds i d lo ∙ sym (get_or_append_left ps qs d (s.current * (32 * s.chunk) + i) (omega arith))
  | inr hi ↦ (let e : i ≡ s.filled + (i - s.filled) = omega arith in
      let e' : s.current * (32 * s.chunk) + i ≡ length ps + (i - s.filled) = omega arith in
      ap (pair_in x) e ∙ put.here (i - s.filled) d (omega arith) ∙ sym (ap (λ k. get_or (ps ++ qs) k d) e' ∙ get_or-append-add ps qs (i - s.filled) d))
]

-- the memory after a commit that leaves a slot empty
pub front_more : (count : ℕ) (ps qs : List Pair) (s : State) (area x : List ℕ) → IsFront ps s area → IsPut area s.filled qs x → length qs ≡ count → s.filled + count < 32 * s.chunk → s.left ≡ Nothing → IsFront (ps ++ qs) (record s { filled = s.filled + count }) x
front_more count ps qs s area x is put n below ready = record {
  some = is.some;
  allowed = is.allowed;
  size = is.size;
  whole = put.len ∙ is.whole;
  place = is.place;
  count = let c = is.count in omega (arith, length-append ps qs);
  fits = omega arith;
  empty = λ i from to. ap (λ p. p.new) (put.others i (inr (omega arith))) ∙ is.empty i (omega arith) to;
  part = λ _. below;
  next = λ _. below;
  none = λ e. absurd (true≢false (sym (ap is_begun ready) ∙ e));
  blank = λ e. absurd (true≢false (sym (ap is_begun ready) ∙ e));
  room = is.room;
  firm = is.firm;
  early = is.early;
}

-- the pairs of the bytes after a commit
pub pairs-more : (ps qs : List Pair) (s : State) (area x old new : List ℕ) → IsFront ps s area → IsStored old ps s area → IsPut area s.filled qs x → s.left ≡ Nothing → s.filled + length qs ≤ 32 * s.chunk → (s.filled + length qs ≡ 32 * s.chunk → s.zeroed ≡ true) → ((i : ℕ) (d : Pair) → i < length qs → (get_or qs i d).new ≢ 0) → length old ≡ 512 * s.size → new ≡ with_sectors old (s.chunk * area_place s.chunk s.current) x → pairs_of s.chunk new ≡ ps ++ qs
pairs-more ps qs s area x old new is stored put ready fits zeroed valid whole written =
    let long : length x ≡ 512 * s.chunk = put.len ∙ is.whole in
    let only = chunk_only s.size s.chunk (area_place s.chunk s.current) old new x whole long is.place written in
    let here = chunk-written s.size s.chunk (area_place s.chunk s.current) old new x whole long is.place written in
    let was = stored.here (ap is_settled ready) in
    pairs-committed s.chunk s.current s.filled old new ps qs is.some (stored.listed (ap is_begun ready)) is.count fits only
    (λ i lt. ap (λ b. pair_in b i) here ∙ put.others i (inl lt) ∙ sym (ap (λ b. pair_in b i) was))
    (λ i d lt. ap (λ b. pair_in b (s.filled + i)) here ∙ put.here i d lt)
    valid
    (record {
      here = λ lt. ap (λ b. (pair_in b (s.filled + length qs)).new) here ∙ ap (λ p. p.new) (put.others (s.filled + length qs) (inr (omega arith))) ∙ is.empty (s.filled + length qs) (omega arith) lt;
      next = λ full. ap (λ b. (pair_in b 0).new) (only.rest _ (places_apart s.chunk (s.current + 1) s.current (omega arith)) ∙ stored.next (zeroed full)) ∙ empty_zeros (512 * s.chunk) 0;
    })

-- the bytes after a commit that leaves a slot empty
pub stored_more : (count : ℕ) (ps qs : List Pair) (s : State) (area x old new : List ℕ) → IsFront ps s area → IsStored old ps s area → IsPut area s.filled qs x → length qs ≡ count → s.filled + count < 32 * s.chunk → s.left ≡ Nothing → ((i : ℕ) (d : Pair) → i < length qs → (get_or qs i d).new ≢ 0) → length old ≡ 512 * s.size → new ≡ with_sectors old (s.chunk * area_place s.chunk s.current) x → IsStored new (ps ++ qs) (record s { filled = s.filled + count }) x
stored_more count ps qs s area x old new is stored put n below ready valid whole written =
    let long : length x ≡ 512 * s.chunk = put.len ∙ is.whole in
    let only = chunk_only s.size s.chunk (area_place s.chunk s.current) old new x whole long is.place written in
    record {
      head = head_kept s.chunk (area_place s.chunk s.current) old new is.some (area_past s.chunk s.current) only ∙ stored.head;
      listed = λ _. pairs-more ps qs s area x old new is stored put ready (omega arith) (λ full. absurd (omega arith)) valid whole written;
      holds = λ i d lt. holds_more ps qs s area x is.count stored.holds put i d (omega arith);
      here = λ _. chunk-written s.size s.chunk (area_place s.chunk s.current) old new x whole long is.place written;
      tail = λ e. (let no : Nothing ≡ Tail = sym ready ∙ e in absurd (cc));
      next = λ z. only.rest _ (places_apart s.chunk (s.current + 1) s.current (omega arith)) ∙ stored.next z;
    }

-- the memory after a commit that fills the area
pub front_full : (count : ℕ) (ps qs : List Pair) (s : State) (area zeros : List ℕ) → IsFront ps s area → length qs ≡ count → s.filled + count ≡ 32 * s.chunk → s.zeroed ≡ true → zeros ≡ replicate (512 * s.chunk) 0 → s.left ≡ Nothing → IsFront (ps ++ qs) (record s { current = s.current + 1; filled = 0; zeroed = false; firm = false }) zeros
front_full count ps qs s area zeros is n full zeroed nil ready = record {
  some = is.some;
  allowed = is.allowed;
  size = is.size;
  whole = ap length nil ∙ length-replicate (512 * s.chunk) zero;
  place = is.room zeroed;
  count = (let c = is.count in let h : s.current * (32 * s.chunk) + 32 * s.chunk ≡ (s.current + 1) * (32 * s.chunk) = grind arith in omega (arith, length-append ps qs));
  fits = omega arith;
  empty = λ i from to. ap (λ a. (pair_in a i).new) nil ∙ empty_zeros (512 * s.chunk) i;
  part = λ e. absurd (true≢false (sym (ap is_settled ready) ∙ e));
  next = λ _. (let p = is.some in omega arith);
  none = λ e. absurd (true≢false (sym (ap is_begun ready) ∙ e));
  blank = λ e. absurd (true≢false (sym (ap is_begun ready) ∙ e));
  room = λ z. absurd (false≢true z);
  firm = λ f. absurd (false≢true f);
  early = is.early;
}

-- the bytes after a commit that fills the area
pub stored_full : (count : ℕ) (ps qs : List Pair) (s : State) (area x zeros old new : List ℕ) → IsFront ps s area → IsStored old ps s area → IsPut area s.filled qs x → length qs ≡ count → s.filled + count ≡ 32 * s.chunk → s.zeroed ≡ true → zeros ≡ replicate (512 * s.chunk) 0 → s.left ≡ Nothing → ((i : ℕ) (d : Pair) → i < length qs → (get_or qs i d).new ≢ 0) → length old ≡ 512 * s.size → new ≡ with_sectors old (s.chunk * area_place s.chunk s.current) x → IsStored new (ps ++ qs) (record s { current = s.current + 1; filled = 0; zeroed = false; firm = false }) zeros
stored_full count ps qs s area x zeros old new is stored put n full zeroed nil ready valid whole written =
    let long : length x ≡ 512 * s.chunk = put.len ∙ is.whole in
    let only = chunk_only s.size s.chunk (area_place s.chunk s.current) old new x whole long is.place written in
    record {
      head = head_kept s.chunk (area_place s.chunk s.current) old new is.some (area_past s.chunk s.current) only ∙ stored.head;
      listed = λ _. pairs-more ps qs s area x old new is stored put ready (omega arith) (λ _. zeroed) valid whole written;
      holds = λ i d lt. absurd (omega arith);
      here = λ _. only.rest _ (places_apart s.chunk (s.current + 1) s.current (omega arith)) ∙ stored.next zeroed ∙ sym nil;
      tail = λ e. (let no : Nothing ≡ Tail = sym ready ∙ e in absurd (cc));
      next = λ z. absurd (false≢true z);
    }
