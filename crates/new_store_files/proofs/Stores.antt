-- A store, from its front and its areas.
use Rattle.std.proofs.Common.{◌≡◌, inl, inr, ℕ, zero, suc, ◌+◌, ◌-◌, ◌*◌, ◌/◌, ◌%◌, ◌<◌, ◌≤◌, List, [], ◌∷◌, ◌++◌, length, take, drop, get_or, arith, refl, ap, ◌∙◌, sym, subst, true, length-append}
use Rattle.std.proofs.lemmas.Bool.{cases_lt}
use Rattle.std.proofs.lemmas.Nat.{div-mul-add, div-add-mod', mod_below, div_below}
use Rattle.std.proofs.lemmas.List.{get_or-drop, length-drop, length-replicate, take_all}
use Rattle.sector.specs.declared.pair.Pair.{Pair}
use Rattle.sector.proofs.Numbers.{length-number_bytes}
use Rattle.cow_format.specs.Slots.{pair_in}
use Rattle.cow_format.specs.Places.{chunk_at, area_place, slot}
use Rattle.cow_format.proofs.AreaPlaces.{places_below}
use Rattle.cow_format.proofs.Slots.{slot-at, pairs-are}
use Rattle.cow_header.specs.HeaderText.{header_bytes}
use Rattle.metadata_area.specs.Cleared.{no_pair}
use Rattle.new_store_files.specs.Parts.{moved, AreCopies, IsAreaOf, IsFrontOf}
use Rattle.new_store_files.specs.Written.{place_at, placed_from, IsStoreOf}
use Rattle.new_store_files.proofs.Chunks.{chunk_front, chunk_back, length-more, pair_among, length-slice}

-- the place of a slot of an area
pub place_in : (chunk a j : ℕ) → j < 32 * chunk → place_at chunk (a * (32 * chunk) + j) ≡ area_place chunk a + 1 + j
place_in chunk a j lt =
    let q : (a * (32 * chunk) + j) / (32 * chunk) ≡ a = div-mul-add a (32 * chunk) j lt in
    let e : a * (32 * chunk + 1) ≡ a * (32 * chunk) + a = grind arith in
    omega arith

-- a slot by its area
pub slot_split : (chunk k : ℕ) → k / (32 * chunk) * (32 * chunk) + k % (32 * chunk) ≡ k
slot_split chunk k = div-add-mod' k (32 * chunk)

-- a slot of earlier areas, and its place
slot_low : (chunk a k : ℕ) → 0 < chunk → k < a * (32 * chunk) → k / (32 * chunk) < a
slot_low chunk a k pos lt = div_below k (32 * chunk) a (omega arith) lt

pub place_low : (chunk a k : ℕ) → 0 < chunk → k < a * (32 * chunk) → place_at chunk k < area_place chunk a
place_low chunk a k pos lt =
    let q = k / (32 * chunk) in
    let r : k % (32 * chunk) < 32 * chunk = mod_below k (32 * chunk) (omega arith) in
    let below = places_below chunk (k / (32 * chunk)) a (slot_low chunk a k pos lt) in
    let is : place_at chunk k ≡ area_place chunk (k / (32 * chunk)) + 1 + k % (32 * chunk) = ap (place_at chunk) (sym (slot_split chunk k)) ∙ place_in chunk (k / (32 * chunk)) (k % (32 * chunk)) r in
    omega arith

-- slots of a front stay, and those of an area that follows it are the area's
slot_front : (chunk a k : ℕ) (s x : List ℕ) → 0 < chunk → length s ≡ 512 * (chunk * area_place chunk a) → k < a * (32 * chunk) → slot chunk (s ++ x) k ≡ slot chunk s k
slot_front chunk a k s x pos len lt =
    let below = places_below chunk (k / (32 * chunk)) a (slot_low chunk a k pos lt) in
    ap (λ y. pair_in y (k % (32 * chunk))) (chunk_front chunk (area_place chunk (k / (32 * chunk))) (area_place chunk a) s x len (omega arith))

slot_back : (chunk a j : ℕ) (s x : List ℕ) → length s ≡ 512 * (chunk * area_place chunk a) → j < 32 * chunk → slot chunk (s ++ x) (a * (32 * chunk) + j) ≡ pair_in (chunk_at chunk x 0) j
slot_back chunk a j s x len lt = slot-at chunk (s ++ x) a j lt ∙ ap (λ y. pair_in y j) (chunk_back chunk 0 (area_place chunk a) (area_place chunk a) s x len (omega arith))

-- what a front and an area that follows it hold
record Joined (chunk : ℕ) (b : List ℕ) (pairs : List Pair) (a count : ℕ) (bytes : List ℕ) : Type 0 where
  whole : length bytes ≡ 512 * (chunk * (area_place chunk a + (count + 1)))
  header : chunk_at chunk bytes 0 ≡ header_bytes (512 * chunk) true chunk
  slots : (k : ℕ) (d : Pair) → k < a * (32 * chunk) + count → slot chunk bytes k ≡ moved (get_or pairs k d) (place_at chunk k)
  empty : (k : ℕ) → a * (32 * chunk) + count ≤ k → k < a * (32 * chunk) + 32 * chunk → slot chunk bytes k ≡ no_pair
  copied : (k : ℕ) (d : Pair) → k < a * (32 * chunk) + count → chunk_at chunk bytes (place_at chunk k) ≡ chunk_at chunk b (get_or pairs k d).new

joined : (chunk a : ℕ) (b s x : List ℕ) (pairs part : List Pair) → 0 < chunk → length part ≤ 32 * chunk → ((j : ℕ) (d : Pair) → j < length part → get_or part j d ≡ get_or pairs (a * (32 * chunk) + j) d) → IsFrontOf chunk b pairs a s → IsAreaOf chunk b (area_place chunk a + 1) part x → Joined chunk b pairs a (length part) (s ++ x)
joined chunk a b s x pairs part pos few among front area = record {
  whole = length-more chunk (area_place chunk a) (length part + 1) s x front.whole area.whole;
  header = chunk_front chunk 0 (area_place chunk a) s x front.whole (omega arith) ∙ front.header;
  slots = λ k d lt. elim (cases_lt k (a * (32 * chunk))) [
    | inl lo ↦ slot_front chunk a k s x pos front.whole lo ∙ front.slots k d lo
    | inr hi ↦ (
        let j = k - a * (32 * chunk) in
        let inside : k - a * (32 * chunk) < length part = omega arith in
        let is : k ≡ a * (32 * chunk) + (k - a * (32 * chunk)) = omega arith in
        let place : area_place chunk a + 1 + (k - a * (32 * chunk)) ≡ place_at chunk k = sym (ap (place_at chunk) is ∙ place_in chunk a (k - a * (32 * chunk)) (omega arith)) in
        ap (slot chunk (s ++ x)) is ∙ slot_back chunk a (k - a * (32 * chunk)) s x front.whole (omega arith) ∙ area.slots (k - a * (32 * chunk)) d inside
        ∙ ap (λ p. moved p (area_place chunk a + 1 + (k - a * (32 * chunk)))) (among (k - a * (32 * chunk)) d inside ∙ ap (λ y. get_or pairs y d) (sym is))
        ∙ ap (moved (get_or pairs k d)) place)
  ];
  empty = λ k low high.
      let is : k ≡ a * (32 * chunk) + (k - a * (32 * chunk)) = omega arith in
      ap (slot chunk (s ++ x)) is ∙ slot_back chunk a (k - a * (32 * chunk)) s x front.whole (omega arith) ∙ area.empty (k - a * (32 * chunk)) (omega arith);
  copied = λ k d lt. elim (cases_lt k (a * (32 * chunk))) [
    | inl lo ↦ chunk_front chunk (place_at chunk k) (area_place chunk a) s x front.whole (place_low chunk a k pos lo) ∙ front.copied k d lo
    | inr hi ↦ (
        let inside : k - a * (32 * chunk) < length part = omega arith in
        let is : k ≡ a * (32 * chunk) + (k - a * (32 * chunk)) = omega arith in
        let place : place_at chunk k ≡ area_place chunk a + ((k - a * (32 * chunk)) + 1) = ap (place_at chunk) is ∙ place_in chunk a (k - a * (32 * chunk)) (omega arith) ∙ omega arith in
        chunk_back chunk ((k - a * (32 * chunk)) + 1) (area_place chunk a) (place_at chunk k) s x front.whole place ∙ area.copied (k - a * (32 * chunk)) d inside
        ∙ ap (λ (p : Pair). chunk_at chunk b p.new) (among (k - a * (32 * chunk)) d inside ∙ ap (λ y. get_or pairs y d) (sym is)))
  ];
}

-- a header is a chunk, and the front of a store
own_chunk : (chunk : ℕ) (h : List ℕ) → length h ≡ 512 * chunk → chunk_at chunk h 0 ≡ h
own_chunk chunk h len =
    let z : 512 * (chunk * 0) ≡ 0 = omega arith in
    ap (λ n. take (512 * chunk) (drop n h)) z ∙ take_all (512 * chunk) h (omega arith)

-- an area, and its copies behind it
pub area_is : (chunk place : ℕ) (b h x : List ℕ) (pairs : List Pair) → length h ≡ 512 * chunk → ((k : ℕ) (d : Pair) → k < length pairs → pair_in h k ≡ moved (get_or pairs k d) (place + k)) → ((k : ℕ) → length pairs ≤ k → pair_in h k ≡ no_pair) → length x ≡ 512 * (chunk * length pairs) → AreCopies chunk b pairs (length pairs) x → IsAreaOf chunk b place pairs (h ++ x)
area_is chunk place b h x pairs len slots empty more copies =
    let one : length h ≡ 512 * (chunk * 1) = omega arith in
    let first : chunk_at chunk (h ++ x) 0 ≡ h = chunk_front chunk 0 1 h x one (omega arith) ∙ own_chunk chunk h len in
    record {
      whole = length-more chunk 1 (length pairs) h x one more ∙ ap (λ n. 512 * (chunk * n)) (omega arith);
      slots = λ k d lt. ap (λ y. pair_in y k) first ∙ slots k d lt;
      empty = λ k le. ap (λ y. pair_in y k) first ∙ empty k le;
      copied = λ k d lt. chunk_back chunk k 1 (k + 1) h x one (omega arith) ∙ copies k d lt;
    }

length-header : (n chunk : ℕ) → 16 ≤ n → length (header_bytes n true chunk) ≡ n
unfolding header_bytes
length-header n chunk fits = simp (length-append, length-number_bytes, length-replicate) (omega arith)

pub front_begins : (chunk : ℕ) (b : List ℕ) (pairs : List Pair) → 0 < chunk → IsFrontOf chunk b pairs 0 (header_bytes (512 * chunk) true chunk)
front_begins chunk b pairs pos =
    let len = length-header (512 * chunk) chunk (omega arith) in
    record {
      whole = (let e : chunk * area_place chunk 0 ≡ chunk = grind arith in omega arith);
      header = own_chunk chunk (header_bytes (512 * chunk) true chunk) len;
      slots = λ k d lt. absurd (omega arith);
      copied = λ k d lt. absurd (omega arith);
    }

-- a full area more
pub front_more : (chunk a : ℕ) (b s x : List ℕ) (pairs part : List Pair) → 0 < chunk → length part ≡ 32 * chunk → ((j : ℕ) (d : Pair) → j < length part → get_or part j d ≡ get_or pairs (a * (32 * chunk) + j) d) → IsFrontOf chunk b pairs a s → IsAreaOf chunk b (area_place chunk a + 1) part x → IsFrontOf chunk b pairs (a + 1) (s ++ x)
front_more chunk a b s x pairs part pos full among front area =
    let all = joined chunk a b s x pairs part pos (omega arith) among front area in
    let next : (a + 1) * (32 * chunk) ≡ a * (32 * chunk) + 32 * chunk = grind arith in
    let place : area_place chunk (a + 1) ≡ area_place chunk a + (length part + 1) = let e : (a + 1) * (32 * chunk + 1) ≡ a * (32 * chunk + 1) + (32 * chunk + 1) = grind arith in omega arith in
    record {
      whole = all.whole ∙ ap (λ n. 512 * (chunk * n)) (sym place);
      header = all.header;
      slots = λ k d lt. all.slots k d (omega arith);
      copied = λ k d lt. all.copied k d (omega arith);
    }

-- pairs with their places
pub length-placed : (chunk m : ℕ) (ps : List Pair) → length (placed_from chunk m ps) ≡ length ps
length-placed chunk m [] = refl
length-placed chunk m (p ∷ ps) = ap suc (length-placed chunk (m + 1) ps)

pub placed-each : (chunk m k : ℕ) (ps : List Pair) (d : Pair) → k < length ps → get_or (placed_from chunk m ps) k d ≡ moved (get_or ps k d) (place_at chunk (m + k))
placed-each chunk m k [] d lt = absurd (omega arith)
placed-each chunk m zero (p ∷ ps) d lt = let e : m ≡ m + 0 = omega arith in ap (λ n. moved p (place_at chunk n)) e
placed-each chunk m (suc k) (p ∷ ps) d lt = let e : m + 1 + k ≡ m + suc k = omega arith in placed-each chunk (m + 1) k ps d (omega arith) ∙ ap (λ n. moved (get_or ps k d) (place_at chunk n)) e

pub placed-at : (chunk k : ℕ) (ps : List Pair) (d : Pair) → k < length ps → get_or (placed_from chunk 0 ps) k d ≡ moved (get_or ps k d) (place_at chunk k)
placed-at chunk k ps d lt = placed-each chunk 0 k ps d lt ∙ ap (λ n. moved (get_or ps k d) (place_at chunk n)) (omega arith)

-- the last area
pub store_ends : (chunk a : ℕ) (b s x : List ℕ) (pairs part : List Pair) → 0 < chunk → a ≡ length pairs / (32 * chunk) → part ≡ drop (a * (32 * chunk)) pairs → length part < 32 * chunk → length pairs ≡ a * (32 * chunk) + length part → IsFrontOf chunk b pairs a s → IsAreaOf chunk b (area_place chunk a + 1) part x → IsStoreOf chunk b pairs (s ++ x)
store_ends chunk a b s x pairs part pos areas is short len front area =
    let all = joined chunk a b s x pairs part pos (omega arith) (λ j d lt. ap (λ ps. get_or ps j d) is ∙ get_or-drop (a * (32 * chunk)) pairs j d) front area in
    let end : place_at chunk (length pairs) ≡ area_place chunk a + (length part + 1) = ap (place_at chunk) len ∙ place_in chunk a (length part) short ∙ omega arith in
    record {
      whole = all.whole ∙ ap (λ n. 512 * (chunk * n)) (sym end);
      header = all.header;
      listed = pairs-are chunk (s ++ x) (placed_from chunk 0 pairs) pos (record {
        each = λ k d lt. let lt' : k < length pairs = (let h = length-placed chunk 0 pairs in omega arith) in all.slots k d (omega arith) ∙ sym (placed-at chunk k pairs d lt');
        valid = λ k lt e. let lt' : k < length pairs = (let h = length-placed chunk 0 pairs in omega arith) in let v : place_at chunk k ≡ 0 = ap (λ (p : Pair). p.new) (sym (all.slots k no_pair (omega arith))) ∙ e in omega arith;
        ends = ap (λ k. (slot chunk (s ++ x) k).new) (length-placed chunk 0 pairs) ∙ ap (λ (p : Pair). p.new) (all.empty (length pairs) (omega arith) (omega arith));
      });
      clean = λ k low high.
          let e : length pairs / (32 * chunk) * (32 * chunk) ≡ a * (32 * chunk) = ap (λ n. n * (32 * chunk)) (sym areas) in
          all.empty k (omega arith) (omega arith);
      copied = λ k d lt. all.copied k d (omega arith);
    }

-- the place behind an area's, as it is counted
place_behind : (chunk a : ℕ) → a * (32 * chunk) + a + 2 ≡ area_place chunk a + 1
place_behind chunk a = let e : a * (32 * chunk + 1) ≡ a * (32 * chunk) + a = grind arith in omega arith

-- a full area more that was written
pub full_more : (chunk number first place m : ℕ) (b s x : List ℕ) (pairs part : List Pair) → 0 < chunk → first ≡ number * (32 * chunk) → first + 32 * chunk ≤ length pairs → place ≡ first + number + 2 → m ≡ 32 * chunk → part ≡ take m (drop first pairs) → IsFrontOf chunk b pairs number s → IsAreaOf chunk b place part x → IsFrontOf chunk b pairs (number + 1) (s ++ x)
full_more chunk number first place m b s x pairs part pos at fits place_is m_is is front area =
    let len : length part ≡ m = ap length is ∙ length-slice first m pairs (omega arith) in
    let behind : place ≡ area_place chunk number + 1 = (let h = place_behind chunk number in omega arith) in
    front_more chunk number b s x pairs part pos (omega arith)
    (λ j d lt. ap (λ ps. get_or ps j d) is ∙ pair_among pairs first m j d (omega arith) ∙ ap (λ n. get_or pairs (n + j) d) at) front
    (subst (λ (n : ℕ). IsAreaOf chunk b n part x) behind area)

-- the last area that was written
pub store_written : (chunk number first place : ℕ) (b s x : List ℕ) (pairs part : List Pair) → 0 < chunk → first ≡ number * (32 * chunk) → first ≤ length pairs → length pairs - first < 32 * chunk → place ≡ first + number + 2 → part ≡ drop first pairs → IsFrontOf chunk b pairs number s → IsAreaOf chunk b place part x → IsStoreOf chunk b pairs (s ++ x)
store_written chunk number first place b s x pairs part pos at low few place_is is front area =
    let len : length part ≡ length pairs - first = ap length is ∙ length-drop first pairs in
    let split : length pairs ≡ number * (32 * chunk) + (length pairs - first) = omega arith in
    let areas : number ≡ length pairs / (32 * chunk) = sym (ap (λ n. n / (32 * chunk)) split ∙ div-mul-add number (32 * chunk) (length pairs - first) few) in
    let behind : place ≡ area_place chunk number + 1 = (let h = place_behind chunk number in omega arith) in
    store_ends chunk number b s x pairs part pos areas (is ∙ ap (λ n. drop n pairs) at) (omega arith) (omega arith) front (subst (λ (n : ℕ). IsAreaOf chunk b n part x) behind area)
