-- Places of areas.
use Rattle.std.proofs.Common.{◌≡◌, ◌≢◌, ◌⊎◌, inl, inr, ℕ, ◌+◌, ◌*◌, ◌/◌, ◌%◌, ◌<◌, ◌≤◌, arith, ap, ◌∙◌, true, false}
use Rattle.std.proofs.lemmas.Bool.{cases_lt, eqb-true, eq-eqb, ne_eqb}
use Rattle.std.proofs.lemmas.Nat.{div-mul-add, mod-mul-add}
use Rattle.cow_format.specs.Places.{area_place, is_area_place}

-- a chunk below another ends before it
pub chunk_below : (chunk m n : ℕ) → m < n → chunk * m + chunk ≤ chunk * n
chunk_below chunk m n lt = grind arith

pub rows_below : (m n w : ℕ) → m < n → m * w + w ≤ n * w
rows_below m n w lt = grind arith

pub chunks_apart : (chunk m n : ℕ) → m ≢ n → (chunk * m + chunk ≤ chunk * n) ⊎ (chunk * n + chunk ≤ chunk * m)
chunks_apart chunk m n ne =
    elim (cases_lt m n) [ inl lt ↦ inl (chunk_below chunk m n lt) | inr ge ↦ inr (let lt : n < m = omega arith in chunk_below chunk n m lt) ]

-- the area of a slot, and its number there
pub area_of : (chunk a j : ℕ) → j < 32 * chunk → (a * (32 * chunk) + j) / (32 * chunk) ≡ a
area_of chunk a j lt = div-mul-add a (32 * chunk) j lt

pub number_in : (chunk a j : ℕ) → j < 32 * chunk → (a * (32 * chunk) + j) % (32 * chunk) ≡ j
number_in chunk a j lt = mod-mul-add a (32 * chunk) j lt

-- the place of an area is one
pub place_is : (chunk a : ℕ) → 0 < chunk → is_area_place chunk (area_place chunk a) ≡ true
place_is chunk a pos = eq-eqb _ _ (mod-mul-add a (32 * chunk + 1) 1 (omega arith))

-- and each is the place of an area
pub place_from : (chunk n : ℕ) → is_area_place chunk n ≡ true → n ≡ area_place chunk (n / (32 * chunk + 1))
place_from chunk n is = let h : n % (32 * chunk + 1) ≡ 1 = eqb-true _ _ is in omega arith

-- two areas have two places
pub places_below : (chunk a b : ℕ) → a < b → area_place chunk a + 32 * chunk < area_place chunk b
places_below chunk a b lt = let h : a * (32 * chunk + 1) + (32 * chunk + 1) ≤ b * (32 * chunk + 1) = rows_below a b (32 * chunk + 1) lt in omega arith

pub places_apart : (chunk a b : ℕ) → a ≢ b → area_place chunk a ≢ area_place chunk b
places_apart chunk a b ne =
    elim (cases_lt a b) [ inl lt ↦ (let h = places_below chunk a b lt in omega arith) | inr ge ↦ (let lt : b < a = omega arith in let h = places_below chunk b a lt in omega arith) ]

-- the chunk after a place is none
pub after_place : (chunk n : ℕ) → 0 < chunk → is_area_place chunk n ≡ true → is_area_place chunk (n + 1) ≡ false
after_place chunk n pos is =
    let h : n % (32 * chunk + 1) ≡ 1 = eqb-true _ _ is in
    let e : n + 1 ≡ n / (32 * chunk + 1) * (32 * chunk + 1) + 2 = omega arith in
    let two : (n + 1) % (32 * chunk + 1) ≡ 2 = ap (λ m. m % (32 * chunk + 1)) e ∙ mod-mul-add (n / (32 * chunk + 1)) (32 * chunk + 1) 2 (omega arith) in
    ne_eqb _ _ (omega arith)
