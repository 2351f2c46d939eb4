-- Sectors of areas and of copies, and lists of pairs.
use Rattle.std.proofs.Common.{◌≡◌, inl, inr, ℕ, zero, suc, ◌+◌, ◌*◌, ◌/◌, ◌%◌, ◌<◌, ◌≤◌, List, [], ◌∷◌, length, take, get_or, replicate, arith, refl, ap, ◌∙◌, sym, subst, Some, None}
use Rattle.std.specs.Prelude.{Option, false, ◌==◌}
use Rattle.std.specs.List.{All}
use Rattle.std.proofs.lemmas.Bool.{cases_lt, cases_Bool, cond-true, cond-false, true≢false}
use Rattle.std.proofs.lemmas.Nat.{mod_below, div-mul-add, le-div}
use Rattle.std.proofs.Math.Nat.{mul-le-mul_left, mul-le-mul_right, div-mul-le_self}
use Rattle.std.proofs.lemmas.List.{ext_get_or, get_or-replicate, get_or_past, length-replicate, take_all}
use Rattle.sector.specs.Bytes.{sector_at}
use Rattle.sector.specs.Number.{number_at}
use Rattle.sector.specs.declared.pair.Pair.{Pair}
use Rattle.sector.proofs.Sectors.{byte_read}
use Rattle.cow_format.specs.Slots.{pair_in}
use Rattle.cow_format.specs.Places.{area_place, is_area_place}
use Rattle.cow_format.specs.Pairs.{IsInside}
use Rattle.cow_format.specs.Picture.{place_of}
use Rattle.cow_format.proofs.AreaPlaces.{place_is}
use Rattle.cow_format.proofs.Pictures.{place_found}
use Rattle.cow_merge.specs.Merges.{IsInArea}

-- lists that have the same sectors are one
pub by_sectors : (n : ℕ) (a b : List ℕ) → length a ≡ 512 * n → length b ≡ 512 * n → ((s : ℕ) → s < n → sector_at a s ≡ sector_at b s) → a ≡ b
by_sectors n a b la lb same = ext_get_or 0 a b (la ∙ sym lb) (λ i lt.
    let q : i / 512 < n = omega arith in
    let r : i % 512 < 512 = mod_below i 512 (omega arith) in
    let e : i ≡ 512 * (i / 512) + i % 512 = omega arith in
    ap (λ x. get_or a x 0) e ∙ sym (byte_read a (i / 512) 1 (i % 512) (omega arith)) ∙ ap (λ x. get_or x (i % 512) 0) (same (i / 512) q) ∙ byte_read b (i / 512) 1 (i % 512) (omega arith) ∙ sym (ap (λ x. get_or b x 0) e))

-- a number in zeros
pub zero_byte : (n i : ℕ) → get_or (replicate {A = ℕ} n 0) i 0 ≡ 0
zero_byte n i = elim (cases_lt i n) [
  | inl lt ↦ get_or-replicate n i 0 0 lt
  | inr ge ↦ get_or_past (replicate n 0) i 0 (rw length-replicate ge)
]

zero_number : (n at m : ℕ) → number_at (replicate n 0) at m ≡ 0
zero_number n at zero = refl
zero_number n at (suc m) = let b = zero_byte n at in let r = zero_number n (at + 1) m in omega arith

pub zero_pair : (n k : ℕ) → (pair_in (replicate n 0) k).new ≡ 0
zero_pair n k = zero_number n (16 * k + 8) 8

-- the first pair that names a chunk
place_longer : (k m : ℕ) (xs : List Pair) (c n : ℕ) → k ≤ m → place_of (take k xs) c ≡ Some n → place_of (take m xs) c ≡ Some n
place_longer k m [] c n le e = absurd (let h : take k [] ≡ [] = take_all k [] (omega arith) in let none : Some n ≡ None = sym e ∙ ap (λ z. place_of z c) h in cc)
place_longer zero m (x ∷ xs) c n le e = cc
place_longer (suc k) zero (x ∷ xs) c n le e = absurd (omega arith)
place_longer (suc k) (suc m) (x ∷ xs) c n le e = elim (cases_Bool (x.old == c)) [
  | inl t ↦ cond-true _ _ _ t ∙ sym (cond-true _ _ _ t) ∙ e
  | inr f ↦ cond-false _ _ _ f ∙ place_longer k m xs c n (omega arith) (sym (cond-false _ _ _ f) ∙ e)
]

-- it is so in the whole list
pub place_first : (k : ℕ) (xs : List Pair) (c n : ℕ) → place_of (take k xs) c ≡ Some n → place_of xs c ≡ Some n
place_first k xs c n e = elim (cases_lt k (length xs)) [
  | inl lt ↦ sym (ap (λ z. place_of z c) (take_all (length xs) xs (omega arith))) ∙ place_longer k (length xs) xs c n (omega arith) e
  | inr ge ↦ sym (ap (λ z. place_of z c) (take_all k xs ge)) ∙ e
]

-- a chunk that is named among more pairs' first is named among these
none_by : (k m : ℕ) (xs : List Pair) (c : ℕ) (o : Option ℕ) → k ≤ m → place_of (take k xs) c ≡ o → place_of (take m xs) c ≡ None → place_of (take k xs) c ≡ None
none_by k m xs c None le e none = e
none_by k m xs c (Some n) le e none = absurd (let h : Some n ≡ None = sym (place_longer k m xs c n le e) ∙ none in cc)

pub place_none_less : (k m : ℕ) (xs : List Pair) (c : ℕ) → k ≤ m → place_of (take m xs) c ≡ None → place_of (take k xs) c ≡ None
place_none_less k m xs c le none = none_by k m xs c (place_of (take k xs) c) le refl none

-- a place that a pair of a list has
pub place_inside : (chunk sectors size c n : ℕ) (ps : List Pair) → All (IsInside chunk sectors size) ps → place_of ps c ≡ Some n → (chunk * (n + 1) ≤ size) × (is_area_place chunk n ≡ false)
place_inside chunk sectors size c n ps inside e =
    let (k, lt, at) = place_found ps c n e in
    let d : Pair = record { old = 0; new = 0 } in
    let is : (get_or ps k d).new ≡ n = (at d).1 in
    let fits : chunk * ((get_or ps k d).new + 1) ≤ size = (inside k d lt).new in
    let free : is_area_place chunk (get_or ps k d).new ≡ false = (inside k d lt).free in
    (subst (λ (m : ℕ). chunk * (m + 1) ≤ size) is fits, sym (ap (is_area_place chunk) is) ∙ free)

-- an area's last sector is before the next one's first
area_below : (chunk a e : ℕ) → a < e → chunk * area_place chunk a + chunk ≤ chunk * area_place chunk e
area_below chunk a e lt =
    let up : (a + 1) * (32 * chunk + 1) ≤ e * (32 * chunk + 1) = mul-le-mul_right (32 * chunk + 1) (omega arith) in
    let step : (a + 1) * (32 * chunk + 1) ≡ a * (32 * chunk + 1) + (32 * chunk + 1) = grind arith in
    let h : chunk * (area_place chunk a + 1) ≤ chunk * area_place chunk e = mul-le-mul_left chunk (omega arith) in
    let one : chunk * (area_place chunk a + 1) ≡ chunk * area_place chunk a + chunk = grind arith in
    omega arith

-- the area of a sector
pub area_from : (chunk from a j : ℕ) → j < chunk → IsInArea chunk from (chunk * area_place chunk a + j) → from ≤ a
area_from chunk from a j lt is = elim (cases_lt a is.area) [
  | inl below ↦ absurd (let h = area_below chunk a is.area below in let e = is.is in omega arith)
  | inr ge ↦ (let low = is.low in omega arith)
]

-- a sector of a chunk that is no area's place is in no area
chunk_of : (chunk n x : ℕ) → x < chunk → (chunk * n + x) / chunk ≡ n
chunk_of chunk n x lt = let e : chunk * n + x ≡ n * chunk + x = grind arith in ap (λ y. y / chunk) e ∙ div-mul-add n chunk x lt

pub not_in_area : (chunk from n x : ℕ) → 0 < chunk → x < chunk → is_area_place chunk n ≡ false → IsInArea chunk from (chunk * n + x) → ⊥
not_in_area chunk from n x pos lt free is =
    let same : n ≡ area_place chunk is.area = sym (chunk_of chunk n x lt) ∙ ap (λ s. s / chunk) is.is ∙ chunk_of chunk (area_place chunk is.area) is.sector is.inside in
    true≢false (sym (place_is chunk is.area pos) ∙ sym (ap (is_area_place chunk) same) ∙ free)

-- nor is the header's sector
pub head_not_in_area : (chunk from : ℕ) → 0 < chunk → IsInArea chunk from 0 → ⊥
head_not_in_area chunk from pos is =
    let e = is.is in
    let h : chunk * area_place chunk is.area ≡ chunk * (is.area * (32 * chunk + 1)) + chunk = grind arith in
    omega arith

-- each slot's sector lies in a store that has room for the last one's area
pub slot_inside : (chunk size n i : ℕ) → 0 < chunk → i ≤ n → chunk * (area_place chunk (n / (32 * chunk)) + 1) ≤ size → chunk * area_place chunk (i / (32 * chunk)) + i % (32 * chunk) / 32 < size
slot_inside chunk size n i pos le room =
    let q : i / (32 * chunk) ≤ n / (32 * chunk) = le-div (i / (32 * chunk)) n (32 * chunk) (omega arith) (let h = div-mul-le_self i (32 * chunk) in omega arith) in
    let up : i / (32 * chunk) * (32 * chunk + 1) ≤ n / (32 * chunk) * (32 * chunk + 1) = mul-le-mul_right (32 * chunk + 1) q in
    let h : chunk * (area_place chunk (i / (32 * chunk)) + 1) ≤ chunk * (area_place chunk (n / (32 * chunk)) + 1) = mul-le-mul_left chunk (omega arith) in
    let one : chunk * (area_place chunk (i / (32 * chunk)) + 1) ≡ chunk * area_place chunk (i / (32 * chunk)) + chunk = grind arith in
    let low : i % (32 * chunk) < 32 * chunk = mod_below i (32 * chunk) (omega arith) in
    omega arith
