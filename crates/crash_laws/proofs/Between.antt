-- Lists of pairs of which a part is certain: slots that hold a pair of the list or nothing.
use Rattle.std.proofs.Common.{◌≡◌, ◌≢◌, ◌⊎◌, inl, inr, ℕ, zero, suc, ◌+◌, ◌*◌, ◌/◌, ◌%◌, ◌-◌, ◌<◌, ◌≤◌, List, length, take, get_or, arith, ap, ◌∙◌, sym}
use Rattle.std.proofs.lemmas.Bool.{cases_lt}
use Rattle.std.proofs.lemmas.List.{get_or-take, length-take-le, get_or_default}
use Rattle.sector.specs.declared.pair.Pair.{Pair}
use Rattle.sector.specs.Number.{number_at}
use Rattle.sector.proofs.Sectors.{byte_read}
use Rattle.sector.proofs.Numbers.{same_number}
use Rattle.cow_format.specs.Slots.{pair_in}
use Rattle.cow_format.specs.Places.{chunk_at, area_place, slot}
use Rattle.cow_format.specs.Pairs.{pairs_of, IsListed}
use Rattle.cow_format.proofs.Slots.{pairs-are}
use Rattle.std.proofs.lemmas.Nat.{mod_below}
use Rattle.crash_laws.specs.Stop.{IsTorn}
use Rattle.crash_laws.proofs.Torn.{torn_sector}

-- slots that hold the first pairs of a list, and then each a pair of it or none
pub record IsBetween (slot : ℕ → Pair) (certain : ℕ) (pairs : List Pair) : Type 0 where
  pub low : certain ≤ length pairs
  pub sure : (k : ℕ) (d : Pair) → k < certain → slot k ≡ get_or pairs k d
  pub maybe : (k : ℕ) (d : Pair) → certain ≤ k → k < length pairs → (slot k ≡ get_or pairs k d) ⊎ ((slot k).new ≡ 0)
  pub ends : (slot (length pairs)).new ≡ 0
  pub valid : (k : ℕ) (d : Pair) → k < length pairs → (get_or pairs k d).new ≢ 0

-- so many of its pairs
pub record IsSome (slot : ℕ → Pair) (certain : ℕ) (pairs : List Pair) : Type 0 where
  pub count : ℕ
  pub low : certain ≤ count
  pub high : count ≤ length pairs
  pub listed : IsListed slot (take count pairs)

cut : (slot : ℕ → Pair) (n : ℕ) (pairs : List Pair) → IsBetween slot n pairs → (slot n).new ≡ 0 → IsListed slot (take n pairs)
cut slot n pairs is none = let len : length (take n pairs) ≡ n = length-take-le n pairs is.low in record {
  each = λ k d lt. is.sure k d (omega arith) ∙ sym (get_or-take n pairs k d (omega arith));
  valid = λ k lt e. is.valid k (slot k) (let low = is.low in omega arith) (ap (λ p. p.new) (sym (is.sure k (slot k) (omega arith))) ∙ e);
  ends = ap (λ x. (slot x).new) len ∙ none;
}

surer : (slot : ℕ → Pair) (n : ℕ) (pairs : List Pair) → IsBetween slot n pairs → n < length pairs → ((d : Pair) → slot n ≡ get_or pairs n d) → IsBetween slot (n + 1) pairs
surer slot n pairs is lt here = record {
  low = omega arith;
  sure = λ k d less. elim (cases_lt k n) [
    | inl lo ↦ is.sure k d lo
    | inr hi ↦ (let e : k ≡ n = omega arith in ap slot e ∙ here d ∙ sym (ap (λ x. get_or pairs x d) e))
  ];
  maybe = λ k d le less. is.maybe k d (omega arith) less;
  ends = is.ends;
  valid = is.valid;
}

-- they hold a list that begins with the certain pairs, and is the beginning of the whole list
pub some_of : (fuel : ℕ) (slot : ℕ → Pair) (n : ℕ) (pairs : List Pair) → fuel + n ≡ length pairs → IsBetween slot n pairs → IsSome slot n pairs
some_of zero slot n pairs e is = record { count = n; low = omega arith; high = omega arith; listed = cut slot n pairs is (let at : n ≡ length pairs = omega arith in ap (λ x. (slot x).new) at ∙ is.ends) }
some_of (suc fuel) slot n pairs e is =
    let lt : n < length pairs = omega arith in
    elim (is.maybe n (slot n) (omega arith) lt) [
      | inr none ↦ record { count = n; low = omega arith; high = omega arith; listed = cut slot n pairs is none }
      | inl here ↦ (let rest = some_of fuel slot (n + 1) pairs (omega arith) (surer slot n pairs is lt (λ d. here ∙ get_or_default pairs n (slot n) d lt)) in
          record { count = rest.count; low = (let l = rest.low in omega arith); high = rest.high; listed = rest.listed })
    ]

-- the list of a store's bytes
pub pairs_between : (chunk : ℕ) (b : List ℕ) (n : ℕ) (pairs : List Pair) → 0 < chunk → IsBetween (slot chunk b) n pairs → (m : ℕ) × (n ≤ m) × (m ≤ length pairs) × (pairs_of chunk b ≡ take m pairs)
pairs_between chunk b n pairs pos is =
    let some = some_of (length pairs - n) (slot chunk b) n pairs (let l = is.low in omega arith) is in
    (some.count, some.low, some.high, pairs-are chunk b (take some.count pairs) pos some.listed)

-- a slot lies in one sector: torn, it is the old one or the new one
pair_same : (chunk : ℕ) (a b : List ℕ) (p j : ℕ) → j < 32 * chunk → ((i : ℕ) → 512 * (chunk * p) + 16 * j ≤ i → i < 512 * (chunk * p) + 16 * j + 16 → get_or a i 0 ≡ get_or b i 0) → pair_in (chunk_at chunk a p) j ≡ pair_in (chunk_at chunk b p) j
pair_same chunk a b p j lt same =
    let byte : (i : ℕ) → 16 * j ≤ i → i < 16 * j + 16 → get_or (chunk_at chunk a p) i 0 ≡ get_or (chunk_at chunk b p) i 0 =
    λ i lo hi. byte_read a (chunk * p) chunk i (omega arith) ∙ same (512 * (chunk * p) + i) (omega arith) (omega arith) ∙ sym (byte_read b (chunk * p) chunk i (omega arith)) in
    let x : number_at (chunk_at chunk a p) (16 * j) 8 ≡ number_at (chunk_at chunk b p) (16 * j) 8 = same_number _ _ (16 * j) 8 (λ i lo hi. byte i (omega arith) (omega arith)) in
    let y : number_at (chunk_at chunk a p) (16 * j + 8) 8 ≡ number_at (chunk_at chunk b p) (16 * j + 8) 8 = same_number _ _ (16 * j + 8) 8 (λ i lo hi. byte i (omega arith) (omega arith)) in
    cc

pub torn_slot : (size chunk : ℕ) (old new torn : List ℕ) → 0 < chunk → IsTorn size old new torn → length old ≡ 512 * size → length new ≡ 512 * size → (k : ℕ) → (slot chunk torn k ≡ slot chunk old k) ⊎ (slot chunk torn k ≡ slot chunk new k)
torn_slot size chunk old new torn pos is lo ln k =
    let p : ℕ = area_place chunk (k / (32 * chunk)) in
    let j : ℕ = k % (32 * chunk) in
    let lt : k % (32 * chunk) < 32 * chunk = mod_below k (32 * chunk) (omega arith) in
    elim (torn_sector size old new torn is lo ln (chunk * p + j / 32)) [
      | inl f ↦ inl (pair_same chunk torn old p j lt (λ i a b. f i (omega arith) (omega arith)))
      | inr f ↦ inr (pair_same chunk torn new p j lt (λ i a b. f i (omega arith) (omega arith)))
    ]
