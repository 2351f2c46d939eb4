-- Slots of a store's bytes.
use Rattle.std.proofs.Common.{◌≡◌, ◌≢◌, ◌⊎◌, inl, inr, ℕ, zero, suc, ◌+◌, ◌*◌, ◌/◌, ◌%◌, ◌<◌, ◌≤◌, List, ◌++◌, length, take, get_or, arith, refl, ap, ◌∙◌, sym, subst, false, length-take, length-drop}
use Rattle.std.proofs.lemmas.Bool.{cases_lt, cases_eq, true≢false}
use Rattle.std.proofs.lemmas.Nat.{mod_below, div_below, div-add-mod'}
use Rattle.std.proofs.lemmas.List.{get_or_past}
use Rattle.sector.proofs.Sectors.{sectors_apart}
use Rattle.sector.specs.Number.{number_at}
use Rattle.cow_format.specs.Slots.{pair_in}
use Rattle.sector.specs.declared.pair.Pair.{Pair}
use Rattle.cow_format.specs.Places.{chunk_at, area_place, is_area_place, slot, ChangesOnly}
use Rattle.cow_format.specs.Pairs.{pairs_of, IsListed}
use Rattle.cow_format.proofs.AreaPlaces.{chunks_apart, area_of, number_in, place_is, places_apart}
use Rattle.cow_format.proofs.Pairs.{listed-from, IsListed-from, listed-more, listed-less, listed-kept}

-- a slot of an area
pub slot-at : (chunk : ℕ) (b : List ℕ) (a j : ℕ) → j < 32 * chunk → slot chunk b (a * (32 * chunk) + j) ≡ pair_in (chunk_at chunk b (area_place chunk a)) j
slot-at chunk b a j lt =
    ap (λ x. pair_in (chunk_at chunk b (area_place chunk x)) ((a * (32 * chunk) + j) % (32 * chunk))) (area_of chunk a j lt)
    ∙ ap (λ x. pair_in (chunk_at chunk b (area_place chunk a)) x) (number_in chunk a j lt)

-- a write inside a chunk
pub changes_only : (chunk n first count : ℕ) (old new : List ℕ) → length new ≡ length old → chunk * n ≤ first → first + count ≤ chunk * n + chunk → ((i : ℕ) → (i < 512 * first) ⊎ (512 * (first + count) ≤ i) → get_or new i 0 ≡ get_or old i 0) → ChangesOnly chunk n old new
changes_only chunk n first count old new len low high rest = record {
  len = len;
  rest = λ m ne. sectors_apart new old first count (chunk * m) chunk len rest (elim (chunks_apart chunk m n ne) [ inl x ↦ inl (omega arith) | inr x ↦ inr (omega arith) ]);
}

-- after a write to a chunk that is no area's place the slots are as they were
pub slot-outside : (chunk n : ℕ) (old new : List ℕ) → 0 < chunk → is_area_place chunk n ≡ false → ChangesOnly chunk n old new → (k : ℕ) → slot chunk new k ≡ slot chunk old k
slot-outside chunk n old new pos free only k =
    let apart : area_place chunk (k / (32 * chunk)) ≢ n = λ e. true≢false (sym (place_is chunk (k / (32 * chunk)) pos) ∙ ap (is_area_place chunk) e ∙ free) in
    ap (λ x. pair_in x (k % (32 * chunk))) (only.rest _ apart)

-- after a write to an area the slots of others are
pub slot-other : (chunk a : ℕ) (old new : List ℕ) → ChangesOnly chunk (area_place chunk a) old new → (k : ℕ) → k / (32 * chunk) ≢ a → slot chunk new k ≡ slot chunk old k
slot-other chunk a old new only k ne = ap (λ x. pair_in x (k % (32 * chunk))) (only.rest _ (places_apart chunk _ _ ne))

-- bytes past the end are 0
number_past : (b : List ℕ) (at n : ℕ) → length b ≤ at → number_at b at n ≡ 0
number_past b at zero past = refl
number_past b at (suc n) past = let h : get_or b at 0 ≡ 0 = get_or_past b at 0 past in let t : number_at b (at + 1) n ≡ 0 = number_past b (at + 1) n (omega arith) in omega arith

chunk_past : (chunk : ℕ) (b : List ℕ) (n j : ℕ) → length b ≤ 512 * (chunk * n) + j → length (chunk_at chunk b n) ≤ j
chunk_past chunk b n j past = simp (length-take, length-drop) (omega arith)

place_far : (chunk a : ℕ) → chunk * a ≤ chunk * area_place chunk a
place_far chunk a = grind arith

pub slot_past : (chunk : ℕ) (b : List ℕ) → 0 < chunk → (k : ℕ) → length b ≤ k → (slot chunk b k).new ≡ 0
slot_past chunk b pos k past =
    let a = k / (32 * chunk) in
    let j = k % (32 * chunk) in
    let e : k ≡ 32 * (chunk * (k / (32 * chunk))) + k % (32 * chunk) = omega arith in
    let far = place_far chunk (k / (32 * chunk)) in
    number_past (chunk_at chunk b (area_place chunk (k / (32 * chunk)))) (16 * (k % (32 * chunk)) + 8) 8 (chunk_past chunk b (area_place chunk (k / (32 * chunk))) _ (omega arith))

-- what the slots hold is what the store holds
pub IsListed-pairs : (chunk : ℕ) (b : List ℕ) → 0 < chunk → IsListed (slot chunk b) (pairs_of chunk b)
unfolding pairs_of
IsListed-pairs chunk b pos = IsListed-from (slot chunk b) (length b) (slot_past chunk b pos)

listed_fits : (chunk : ℕ) (b : List ℕ) (ps : List Pair) → 0 < chunk → IsListed (slot chunk b) ps → length ps ≤ length b
listed_fits chunk b ps pos is = elim (cases_lt (length b) (length ps)) [
  | inl lt ↦ absurd (is.valid (length b) lt (slot_past chunk b pos _ (omega arith)))
  | inr ge ↦ ge
]

pub pairs-are : (chunk : ℕ) (b : List ℕ) (ps : List Pair) → 0 < chunk → IsListed (slot chunk b) ps → pairs_of chunk b ≡ ps
unfolding pairs_of
pairs-are chunk b ps pos is = listed-from (slot chunk b) ps (length b) is (listed_fits chunk b ps pos is)

pub IsListed-of : (chunk : ℕ) (b : List ℕ) (ps : List Pair) → 0 < chunk → pairs_of chunk b ≡ ps → IsListed (slot chunk b) ps
IsListed-of chunk b ps pos e = subst (λ (x : List Pair). IsListed (slot chunk b) x) e (IsListed-pairs chunk b pos)

-- c. a write to a chunk that is no area's place
pub pairs-outside : (chunk n : ℕ) (old new : List ℕ) → 0 < chunk → is_area_place chunk n ≡ false → ChangesOnly chunk n old new → pairs_of chunk new ≡ pairs_of chunk old
pairs-outside chunk n old new pos free only =
    pairs-are chunk new _ pos (listed-kept _ _ _ (IsListed-pairs chunk old pos) (λ k lt. slot-outside chunk n old new pos free only k))

-- slots before the one after the area's last
area_before : (chunk a j k : ℕ) → k < a * (32 * chunk) + j → j ≤ 32 * chunk → 0 < chunk → k / (32 * chunk) < a + 1
area_before chunk a j k lt le pos = div_below k (32 * chunk) (a + 1) (omega arith) (let h : a * (32 * chunk) + 32 * chunk ≡ (a + 1) * (32 * chunk) = grind arith in omega arith)

-- zeroing the area after the one where the list ends leaves the list
pub pairs-later : (chunk a b j : ℕ) (old new : List ℕ) → 0 < chunk → ChangesOnly chunk (area_place chunk b) old new → length (pairs_of chunk old) ≡ a * (32 * chunk) + j → j < 32 * chunk → a < b → pairs_of chunk new ≡ pairs_of chunk old
pairs-later chunk a b j old new pos only len lt before =
    pairs-are chunk new _ pos (listed-kept _ _ _ (IsListed-pairs chunk old pos) (λ k le. slot-other chunk b old new only k (let h = area_before chunk a (j + 1) k (omega arith) (omega arith) pos in omega arith)))

-- a slot of an area: in another area, or with its number in this one
slot_cases : (chunk a j k : ℕ) → 0 < chunk → k < a * (32 * chunk) + j → (k / (32 * chunk) ≢ a) ⊎ ((i : ℕ) × (k ≡ a * (32 * chunk) + i) × (i < j) × (i < 32 * chunk))
slot_cases chunk a j k pos lt = elim (cases_eq (k / (32 * chunk)) a) [
  | inr ne ↦ inl ne
  | inl e ↦ (let at : k ≡ k / (32 * chunk) * (32 * chunk) + k % (32 * chunk) = sym (div-add-mod' k (32 * chunk)) in
      let at' : k ≡ a * (32 * chunk) + k % (32 * chunk) = at ∙ ap (λ x. x * (32 * chunk) + k % (32 * chunk)) e in
      inr (k % (32 * chunk), at', omega arith, mod_below k (32 * chunk) (omega arith)))
]

-- slots below one of an area, after a write of that area
slots_below : (chunk a j : ℕ) (old new : List ℕ) → 0 < chunk → ChangesOnly chunk (area_place chunk a) old new → ((i : ℕ) → i < j → pair_in (chunk_at chunk new (area_place chunk a)) i ≡ pair_in (chunk_at chunk old (area_place chunk a)) i) → (k : ℕ) → k < a * (32 * chunk) + j → slot chunk new k ≡ slot chunk old k
slots_below chunk a j old new pos only same k lt = elim (slot_cases chunk a j k pos lt) [
  | inl ne ↦ slot-other chunk a old new only k ne
  | inr (i, at, lo, inside) ↦ ap (slot chunk new) at ∙ slot-at chunk new a i inside ∙ same i lo ∙ sym (slot-at chunk old a i inside) ∙ sym (ap (slot chunk old) at)
]

-- what the slot after these of an area must hold, for a list to end there
pub record EndsAt (chunk : ℕ) (b : List ℕ) (a j : ℕ) : Type 0 where
  pub here : j < 32 * chunk → (pair_in (chunk_at chunk b (area_place chunk a)) j).new ≡ 0
  pub next : j ≡ 32 * chunk → (pair_in (chunk_at chunk b (area_place chunk (a + 1))) 0).new ≡ 0

ends_at : (chunk : ℕ) (b : List ℕ) (a j n : ℕ) → 0 < chunk → j ≤ 32 * chunk → n ≡ a * (32 * chunk) + j → EndsAt chunk b a j → (slot chunk b n).new ≡ 0
ends_at chunk b a j n pos le is ends = elim (cases_lt j (32 * chunk)) [
  | inl lt ↦ ap (λ x. (slot chunk b x).new) is ∙ ap (λ p. p.new) (slot-at chunk b a j lt) ∙ ends.here lt
  | inr ge ↦ (let full : j ≡ 32 * chunk = omega arith in
      let at : n ≡ (a + 1) * (32 * chunk) + 0 = let h : a * (32 * chunk) + 32 * chunk ≡ (a + 1) * (32 * chunk) = grind arith in omega arith in
      ap (λ x. (slot chunk b x).new) at ∙ ap (λ p. p.new) (slot-at chunk b (a + 1) 0 (omega arith)) ∙ ends.next full)
]

-- a. a commit: the area has these pairs more
pub pairs-committed : (chunk a j : ℕ) (old new : List ℕ) (ps qs : List Pair) → 0 < chunk → pairs_of chunk old ≡ ps → length ps ≡ a * (32 * chunk) + j → j + length qs ≤ 32 * chunk → ChangesOnly chunk (area_place chunk a) old new → ((i : ℕ) → i < j → pair_in (chunk_at chunk new (area_place chunk a)) i ≡ pair_in (chunk_at chunk old (area_place chunk a)) i) → ((i : ℕ) (d : Pair) → i < length qs → pair_in (chunk_at chunk new (area_place chunk a)) (j + i) ≡ get_or qs i d) → ((i : ℕ) (d : Pair) → i < length qs → (get_or qs i d).new ≢ 0) → EndsAt chunk new a (j + length qs) → pairs_of chunk new ≡ ps ++ qs
pairs-committed chunk a j old new ps qs pos is len fits only same more valid ends =
    pairs-are chunk new _ pos (listed-more (slot chunk old) (slot chunk new) ps qs (IsListed-of chunk old ps pos is)
    (λ k lt. slots_below chunk a j old new pos only same k (omega arith))
    (λ i d lt. ap (slot chunk new) (omega arith) ∙ slot-at chunk new a (j + i) (omega arith) ∙ more i d lt)
    valid
    (ends_at chunk new a (j + length qs) _ pos fits (omega arith) ends))

-- b. the area has fewer pairs
pub pairs-cleared : (chunk a j i : ℕ) (old new : List ℕ) (ps : List Pair) → 0 < chunk → pairs_of chunk old ≡ ps → length ps ≡ a * (32 * chunk) + j → i ≤ j → i < 32 * chunk → ChangesOnly chunk (area_place chunk a) old new → ((k : ℕ) → k < i → pair_in (chunk_at chunk new (area_place chunk a)) k ≡ pair_in (chunk_at chunk old (area_place chunk a)) k) → (pair_in (chunk_at chunk new (area_place chunk a)) i).new ≡ 0 → pairs_of chunk new ≡ take (a * (32 * chunk) + i) ps
pairs-cleared chunk a j i old new ps pos is len le lt only same ends =
    pairs-are chunk new _ pos (listed-less (slot chunk old) (slot chunk new) ps (a * (32 * chunk) + i) (IsListed-of chunk old ps pos is) (omega arith)
    (λ k below. slots_below chunk a i old new pos only same k below)
    (ap (λ p. p.new) (slot-at chunk new a i lt) ∙ ends))
