-- How what a store may be left with changes.
use Rattle.std.proofs.Common.{◌≡◌, ◌≢◌, ◌⊎◌, inl, inr, ℕ, ◌+◌, ◌*◌, ◌/◌, ◌%◌, ◌<◌, ◌≤◌, List, ◌++◌, length, take, get_or, arith, ap, ◌∙◌, sym, subst, length-append}
use Rattle.std.proofs.lemmas.Bool.{cases_lt}
use Rattle.std.proofs.lemmas.Nat.{mod_below}
use Rattle.std.proofs.lemmas.List.{get_or_append_left}
use Rattle.sector.specs.Bytes.{sector_at}
use Rattle.sector.specs.Number.{number_at}
use Rattle.sector.proofs.Sectors.{byte_read}
use Rattle.sector.proofs.Numbers.{moved_number}
use Rattle.sector.specs.declared.pair.Pair.{Pair}
use Rattle.cow_format.specs.Slots.{pair_in}
use Rattle.cow_format.specs.Places.{chunk_at, area_place, slot}
use Rattle.cow_format.specs.Pairs.{pairs_of}
use Rattle.crash_laws.specs.Stop.{MayLeave, HoldsNow}
use Rattle.crash_laws.specs.May.{sector_of, number_of, SlotMay, MayList}
use Rattle.crash_laws.proofs.Between.{IsBetween, pairs_between}

-- a slot is in its sector
pair_there : (chunk : ℕ) (b : List ℕ) (p j : ℕ) → j < 32 * chunk → pair_in (sector_at b (chunk * p + j / 32)) (j % 32) ≡ pair_in (chunk_at chunk b p) j
pair_there chunk b p j lt =
    let q : ℕ = 512 * (j / 32) in
    let r : ℕ = j % 32 in
    let e : 512 * (j / 32) + 16 * (j % 32) ≡ 16 * j = omega arith in
    let byte : (i : ℕ) → i < 512 → get_or (sector_at b (chunk * p + j / 32)) i 0 ≡ get_or (chunk_at chunk b p) (512 * (j / 32) + i) 0 =
    λ i h. byte_read b (chunk * p + j / 32) 1 i (omega arith) ∙ ap (λ x. get_or b x 0) (omega arith) ∙ sym (byte_read b (chunk * p) chunk (512 * (j / 32) + i) (omega arith)) in
    let x : number_at (sector_at b (chunk * p + j / 32)) (16 * (j % 32)) 8 ≡ number_at (chunk_at chunk b p) (512 * (j / 32) + 16 * (j % 32)) 8 = moved_number _ _ (16 * (j % 32)) (512 * (j / 32)) 8 (λ i lo hi. byte i (omega arith)) in
    let y : number_at (sector_at b (chunk * p + j / 32)) (16 * (j % 32) + 8) 8 ≡ number_at (chunk_at chunk b p) (512 * (j / 32) + (16 * (j % 32) + 8)) 8 = moved_number _ _ (16 * (j % 32) + 8) (512 * (j / 32)) 8 (λ i lo hi. byte i (omega arith)) in
    let x' : number_at (sector_at b (chunk * p + j / 32)) (16 * (j % 32)) 8 ≡ number_at (chunk_at chunk b p) (16 * j) 8 = x ∙ ap (λ z. number_at (chunk_at chunk b p) z 8) e in
    let y' : number_at (sector_at b (chunk * p + j / 32)) (16 * (j % 32) + 8) 8 ≡ number_at (chunk_at chunk b p) (16 * j + 8) 8 = y ∙ ap (λ z. number_at (chunk_at chunk b p) z 8) (omega arith) in
    cc

pub slot_there : (chunk : ℕ) (b : List ℕ) (k : ℕ) → 0 < chunk → pair_in (sector_at b (sector_of chunk k)) (number_of chunk k) ≡ slot chunk b k
slot_there chunk b k pos = pair_there chunk b (area_place chunk (k / (32 * chunk))) (k % (32 * chunk)) (mod_below k (32 * chunk) (omega arith))

-- Every content that may be left holds a list that begins with the certain pairs and is the beginning of the whole list.
pub may_between : (chunk certain last size : ℕ) (pairs : List Pair) (holds : ℕ → List ℕ → Type 0) (c : List ℕ) → 0 < chunk → MayList chunk certain last pairs holds → ((k : ℕ) → k ≤ last → sector_of chunk k < size) → MayLeave holds size c → IsBetween (slot chunk c) certain pairs
may_between chunk certain last size pairs holds c pos is inside left =
    let at : (k : ℕ) → k ≤ last → SlotMay certain pairs k (slot chunk c k) = λ k le. subst (SlotMay certain pairs k) (slot_there chunk c k pos) (is.slots k (sector_at c (sector_of chunk k)) le (left.each (sector_of chunk k) (inside k le))) in
    let reach = is.reach in
    record {
      low = is.low;
      sure = λ k d lt. (at k (let l = is.low in omega arith)).sure d lt;
      maybe = λ k d lo hi. (at k (omega arith)).maybe d lo hi;
      ends = (at (length pairs) reach).past (omega arith);
      valid = is.valid;
    }

pub may_pairs : (chunk certain last size : ℕ) (pairs : List Pair) (holds : ℕ → List ℕ → Type 0) (c : List ℕ) → 0 < chunk → MayList chunk certain last pairs holds → ((k : ℕ) → k ≤ last → sector_of chunk k < size) → MayLeave holds size c → (m : ℕ) × (certain ≤ m) × (m ≤ length pairs) × (pairs_of chunk c ≡ take m pairs)
may_pairs chunk certain last size pairs holds c pos is inside left = pairs_between chunk c certain pairs pos (may_between chunk certain last size pairs holds c pos is inside left)

-- an operation that adds no value to the sectors of these slots: a read, a fault, a write elsewhere
pub may_kept : (chunk certain last : ℕ) (pairs : List Pair) (holds holds' : ℕ → List ℕ → Type 0) → MayList chunk certain last pairs holds → ((k : ℕ) (v : List ℕ) → k ≤ last → holds' (sector_of chunk k) v → holds (sector_of chunk k) v) → MayList chunk certain last pairs holds'
may_kept chunk certain last pairs holds holds' is fewer = record { low = is.low; reach = is.reach; valid = is.valid; slots = λ k v le h. is.slots k v le (fewer k v le h) }

-- pairs that may be there too, and pairs that are not certain any more
pub may_more : (chunk certain last : ℕ) (ps qs : List Pair) (holds : ℕ → List ℕ → Type 0) → MayList chunk certain last ps holds → length ps + length qs ≤ last → ((k : ℕ) (d : Pair) → k < length (ps ++ qs) → (get_or (ps ++ qs) k d).new ≢ 0) → MayList chunk certain last (ps ++ qs) holds
may_more chunk certain last ps qs holds is fits valid = let len = length-append ps qs in let low = is.low in record {
  low = omega arith;
  reach = omega arith;
  valid = valid;
  slots = λ k v le h. let s = is.slots k v le h in record {
    sure = λ d lt. s.sure d lt ∙ sym (get_or_append_left ps qs d k (omega arith));
    maybe = λ d lo hi. elim (cases_lt k (length ps)) [
      | inl lt ↦ elim (s.maybe d lo lt) [ inl e ↦ inl (e ∙ sym (get_or_append_left ps qs d k lt)) | inr e ↦ inr e ]
      | inr ge ↦ inr (s.past ge)
    ];
    past = λ ge. s.past (omega arith);
  };
}

pub may_less : (chunk certain certain' last : ℕ) (pairs : List Pair) (holds : ℕ → List ℕ → Type 0) → MayList chunk certain last pairs holds → certain' ≤ certain → MayList chunk certain' last pairs holds
may_less chunk certain certain' last pairs holds is le = let low = is.low in record {
  low = omega arith;
  reach = is.reach;
  valid = is.valid;
  slots = λ k v at h. let s = is.slots k v at h in record {
    sure = λ d lt. s.sure d (omega arith);
    maybe = λ d lo hi. elim (cases_lt k certain) [ inl lt ↦ inl (s.sure d lt) | inr ge ↦ s.maybe d ge hi ];
    past = s.past;
  };
}

-- A write: each value is one that was, or the sector's own in the new contents, whose slots may be of the list.
pub may_write : (chunk certain last : ℕ) (pairs : List Pair) (holds holds' : ℕ → List ℕ → Type 0) (new : List ℕ) → 0 < chunk → MayList chunk certain last pairs holds → ((k : ℕ) (v : List ℕ) → k ≤ last → holds' (sector_of chunk k) v → holds (sector_of chunk k) v ⊎ (v ≡ sector_at new (sector_of chunk k))) → ((k : ℕ) → k ≤ last → SlotMay certain pairs k (slot chunk new k)) → MayList chunk certain last pairs holds'
may_write chunk certain last pairs holds holds' new pos is cases there = record {
  low = is.low;
  reach = is.reach;
  valid = is.valid;
  slots = λ k v le h. elim (cases k v le h) [
    | inl was ↦ is.slots k v le was
    | inr e ↦ subst (λ x. SlotMay certain pairs k (pair_in x (number_of chunk k))) (sym e) (subst (SlotMay certain pairs k) (sym (slot_there chunk new k pos)) (there k le))
  ];
}

-- After a flush all that is there is certain. This is also a disk that writes through, at any time.
pub may_flush : (chunk last : ℕ) (pairs : List Pair) (holds : ℕ → List ℕ → Type 0) (now : List ℕ) → 0 < chunk → length pairs ≤ last → ((k : ℕ) (d : Pair) → k < length pairs → (get_or pairs k d).new ≢ 0) → ((k : ℕ) (v : List ℕ) → k ≤ last → holds (sector_of chunk k) v → v ≡ sector_at now (sector_of chunk k)) → ((k : ℕ) → k ≤ last → SlotMay (length pairs) pairs k (slot chunk now k)) → MayList chunk (length pairs) last pairs holds
may_flush chunk last pairs holds now pos reach valid only there = record {
  low = omega arith;
  reach = reach;
  valid = valid;
  slots = λ k v le h. subst (λ x. SlotMay (length pairs) pairs k (pair_in x (number_of chunk k))) (sym (only k v le h)) (subst (SlotMay (length pairs) pairs k) (sym (slot_there chunk now k pos)) (there k le));
}

pub may_now : (chunk last : ℕ) (pairs : List Pair) (now : List ℕ) → 0 < chunk → length pairs ≤ last → ((k : ℕ) (d : Pair) → k < length pairs → (get_or pairs k d).new ≢ 0) → ((k : ℕ) → k ≤ last → SlotMay (length pairs) pairs k (slot chunk now k)) → MayList chunk (length pairs) last pairs (HoldsNow now)
may_now chunk last pairs now pos reach valid there = may_flush chunk last pairs (HoldsNow now) now pos reach valid (λ k v le h. h) there
