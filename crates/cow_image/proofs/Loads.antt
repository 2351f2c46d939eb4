-- The pairs of areas that are read one after the other.
use Rattle.std.proofs.Common.{◌≡◌, ◌≢◌, inl, inr, ℕ, ◌+◌, ◌*◌, ◌-◌, ◌/◌, ◌%◌, ◌<◌, ◌≤◌, List, [], ◌∷◌, ◌++◌, length, get_or, arith, refl, ap, ◌∙◌, sym}
use Rattle.std.proofs.lemmas.Bool.{cases_lt}
use Rattle.std.proofs.lemmas.List.{get_or_append_left, get_or_push, length_push}
use Rattle.std.proofs.lemmas.Nat.{mul-le}
use Rattle.sector.specs.declared.pair.Pair.{Pair}
use Rattle.cow_format.specs.Slots.{pair_in}
use Rattle.cow_format.specs.Places.{chunk_at, area_place, slot}
use Rattle.cow_format.specs.Pairs.{pairs_of}
use Rattle.cow_format.proofs.AreaPlaces.{rows_below}
use Rattle.cow_format.proofs.Slots.{slot-at, pairs-are, IsListed-of}
use Rattle.cow_image.specs.Loaded.{IsLoaded, IsPrefix, IsRead}
use Rattle.cow_image.proofs.Lists.{no_chunks}

-- no slot is taken
pub load_none : (ps : List Pair) (area : List ℕ) → IsLoaded ps ps area 0 0
load_none ps area = record {
  few = omega arith;
  len = omega arith;
  before = λ k d lt. refl;
  more = λ k d lt. absurd (omega arith);
  valid = λ k lt e. absurd (omega arith);
  ends = λ lt. absurd (omega arith);
}

-- one slot more is taken
pub load_more : (ps p0 p1 : List Pair) (area : List ℕ) (j : ℕ) (pair : Pair) → IsLoaded ps p0 area j j → p1 ≡ p0 ++ pair ∷ [] → pair ≡ pair_in area j → (pair_in area j).new ≢ 0 → IsLoaded ps p1 area (j + 1) (j + 1)
load_more ps p0 p1 area j pair is more at valid =
    let len : length p1 ≡ length p0 + 1 = ap length more ∙ length_push p0 pair in
    let len0 = is.len in
    let kept : (k : ℕ) (d : Pair) → k < length p0 → get_or p1 k d ≡ get_or p0 k d = λ k d lt. ap (λ x. get_or x k d) more ∙ get_or_append_left p0 (pair ∷ []) d k lt in
    record {
      few = omega arith;
      len = omega arith;
      before = λ k d lt. kept k d (omega arith) ∙ is.before k d lt;
      more = λ k d lt. elim (cases_lt k j) [
        | inl lo ↦ kept (length ps + k) d (omega arith) ∙ is.more k d lo
        | inr hi ↦ (let e : k ≡ j = omega arith in let last : length ps + k ≡ length p0 = omega arith in
            ap (λ x. get_or x (length ps + k) d) more ∙ get_or_push p0 pair d (length ps + k) (sym last) ∙ at ∙ ap (pair_in area) (sym e))
      ];
      valid = λ k lt z. elim (cases_lt k j) [
        | inl lo ↦ is.valid k lo z
        | inr hi ↦ (let e : j ≡ k = omega arith in valid (ap (λ p. p.new) (ap (pair_in area) e) ∙ z))
      ];
      ends = λ lt. absurd (omega arith);
    }

-- up to the first empty slot
pub load_all : (ps p1 : List Pair) (area : List ℕ) (slots count : ℕ) → IsLoaded ps p1 area count count → count ≤ slots → (count < slots → (pair_in area count).new ≡ 0) → IsLoaded ps p1 area slots count
load_all ps p1 area slots count is few ends = record { few = few; len = is.len; before = is.before; more = is.more; valid = is.valid; ends = ends }

-- an area's slots, after those of the areas before
loaded_slot : (chunk a n : ℕ) (b area : List ℕ) (ps ps' : List Pair) → IsPrefix chunk b a ps → IsLoaded ps ps' area (32 * chunk) n → area ≡ chunk_at chunk b (area_place chunk a) → (k : ℕ) (d : Pair) → k < length ps' → (slot chunk b k ≡ get_or ps' k d) × ((slot chunk b k).new ≢ 0)
loaded_slot chunk a n b area ps ps' pre is at k d lt = let few = is.few in let len = is.len in let len0 = pre.len in elim (cases_lt k (length ps)) [
  | inl lo ↦ (pre.each k d lo ∙ sym (is.before k d lo), pre.valid k lo)
  | inr hi ↦ (
      let inside : k - length ps < n = omega arith in
      let e : k ≡ a * (32 * chunk) + (k - length ps) = omega arith in
      let e' : k ≡ length ps + (k - length ps) = omega arith in
      let here : slot chunk b k ≡ pair_in area (k - length ps) = ap (slot chunk b) e ∙ slot-at chunk b a (k - length ps) (omega arith) ∙ ap (λ x. pair_in x (k - length ps)) (sym at) in (
        here ∙ sym (ap (λ x. get_or ps' x d) e' ∙ is.more (k - length ps) d inside),
        λ z. is.valid (k - length ps) inside (ap (λ p. p.new) (sym here) ∙ z),
      ))
]

-- no area is read
pub prefix_none : (chunk : ℕ) (b : List ℕ) (ps : List Pair) → length ps ≡ 0 → IsPrefix chunk b 0 ps
prefix_none chunk b ps none = record { len = omega arith; each = λ k d lt. absurd (omega arith); valid = λ k lt z. absurd (omega arith) }

-- a full area more
pub prefix_more : (chunk a n : ℕ) (b area : List ℕ) (ps ps' : List Pair) → IsPrefix chunk b a ps → IsLoaded ps ps' area (32 * chunk) n → area ≡ chunk_at chunk b (area_place chunk a) → 32 * chunk ≤ n → IsPrefix chunk b (a + 1) ps'
prefix_more chunk a n b area ps ps' pre is at full = let few = is.few in let len = is.len in let len0 = pre.len in record {
  len = (let e : a * (32 * chunk) + 32 * chunk ≡ (a + 1) * (32 * chunk) = grind arith in omega arith);
  each = λ k d lt. (loaded_slot chunk a n b area ps ps' pre is at k d lt).0;
  valid = λ k lt. (loaded_slot chunk a n b area ps ps' pre is at k no_chunks lt).1;
}

-- the area where the list ends
pub pairs-loaded : (size chunk a n : ℕ) (b area : List ℕ) (ps ps' : List Pair) → 0 < chunk → IsPrefix chunk b a ps → IsLoaded ps ps' area (32 * chunk) n → area ≡ chunk_at chunk b (area_place chunk a) → n < 32 * chunk → chunk * (area_place chunk a + 1) ≤ size → IsRead chunk size b a ps' area
pairs-loaded size chunk a n b area ps ps' pos pre is at short inside = let len = is.len in let len0 = pre.len in
    let e : length ps' ≡ a * (32 * chunk) + n = omega arith in
    record {
      all = pairs-are chunk b ps' pos (record {
        each = λ k d lt. (loaded_slot chunk a n b area ps ps' pre is at k d lt).0;
        valid = λ k lt. (loaded_slot chunk a n b area ps ps' pre is at k no_chunks lt).1;
        ends = ap (λ k. (slot chunk b k).new) e ∙ ap (λ p. p.new) (slot-at chunk b a n short ∙ ap (λ x. pair_in x n) (sym at)) ∙ is.ends short;
      });
      low = omega arith;
      high = omega arith;
      inside = inside;
      here = at;
    }

-- areas are further in the store than those before
pub areas_rise : (chunk a b : ℕ) → a ≤ b → chunk * (area_place chunk a + 1) ≤ chunk * (area_place chunk b + 1)
areas_rise chunk a b le =
    let rows : a * (32 * chunk + 1) ≤ b * (32 * chunk + 1) = mul-le a (32 * chunk + 1) b (32 * chunk + 1) le (omega arith) in
    mul-le chunk (area_place chunk a + 1) chunk (area_place chunk b + 1) (omega arith) (omega arith)

-- full areas come before the one of the first empty slot
pub prefix_low : (chunk a : ℕ) (b : List ℕ) (ps : List Pair) → 0 < chunk → IsPrefix chunk b a ps → a ≤ length (pairs_of chunk b) / (32 * chunk)
prefix_low chunk a b ps pos pre =
    let all = IsListed-of chunk b (pairs_of chunk b) pos refl in
    let len = pre.len in
    let many : a * (32 * chunk) ≤ length (pairs_of chunk b) = elim (cases_lt (length (pairs_of chunk b)) (a * (32 * chunk))) [
      | inl lt ↦ absurd (pre.valid (length (pairs_of chunk b)) (omega arith) all.ends)
      | inr ge ↦ ge
    ] in
    quotient_le a (32 * chunk) (length (pairs_of chunk b)) (omega arith) many
  where
    quotient_le : (a w n : ℕ) → 0 < w → a * w ≤ n → a ≤ n / w
    quotient_le a w n pos le = elim (cases_lt (n / w) a) [
      | inl lt ↦ absurd (let h : n / w * w + w ≤ a * w = rows_below (n / w) a w lt in let d : w * (n / w) + n % w ≡ n = omega arith in let m : n % w < w = omega arith in let c : w * (n / w) ≡ n / w * w = grind arith in omega arith)
      | inr ge ↦ ge
    ]

-- a store whose full areas have no next one
pub prefix_lacks : (size chunk a : ℕ) (b : List ℕ) (ps : List Pair) → 0 < chunk → IsPrefix chunk b a ps → size < chunk * (area_place chunk a + 1) → size < chunk * (area_place chunk (length (pairs_of chunk b) / (32 * chunk)) + 1)
prefix_lacks size chunk a b ps pos pre past =
    let up = areas_rise chunk a (length (pairs_of chunk b) / (32 * chunk)) (prefix_low chunk a b ps pos pre) in
    omega arith

-- an area whose number is not below a store's sectors is not in it
pub area_far : (size chunk a : ℕ) → 0 < chunk → size ≤ a → size < chunk * (area_place chunk a + 1)
area_far size chunk a pos past =
    let low : a * 1 ≤ a * (32 * chunk + 1) = mul-le a 1 a (32 * chunk + 1) (omega arith) (omega arith) in
    let up : 1 * (area_place chunk a + 1) ≤ chunk * (area_place chunk a + 1) = mul-le 1 (area_place chunk a + 1) chunk (area_place chunk a + 1) pos (omega arith) in
    omega arith
