-- Slots of an area, and a chunk that is written whole.
use Rattle.std.proofs.Common.{◌≡◌, ◌⊎◌, inl, inr, ℕ, zero, suc, ◌+◌, ◌*◌, ◌<◌, ◌≤◌, List, length, get_or, arith, refl, ap, ◌∙◌, sym, replicate}
use Rattle.std.proofs.lemmas.Bool.{cases_lt}
use Rattle.std.proofs.lemmas.List.{get_or-replicate, get_or_past, length-replicate}
use Rattle.sector.specs.Number.{number_at}
use Rattle.sector.specs.Bytes.{with_sectors}
use Rattle.sector.specs.declared.pair.Pair.{Pair}
use Rattle.sector.proofs.Numbers.{same_number}
use Rattle.sector.proofs.Sectors.{sectors_at-with_same, byte_outside, length-with_sectors}
use Rattle.cow_format.specs.Slots.{pair_in}
use Rattle.metadata_area.specs.Cleared.{zero_from}
use Rattle.cow_format.specs.Places.{chunk_at, area_place, ChangesOnly}
use Rattle.cow_format.specs.Pairs.{pairs_of}
use Rattle.cow_format.proofs.Slots.{changes_only, slot-at, IsListed-of}

-- a pair of no chunks, for lists that need one
unfoldable pub no_chunks : Pair
no_chunks = record { old = 0; new = 0 }

-- the same bytes are the same pair
pub same_pair : (a b : List ℕ) (j : ℕ) → ((i : ℕ) → 16 * j ≤ i → i < 16 * j + 16 → get_or a i 0 ≡ get_or b i 0) → pair_in a j ≡ pair_in b j
same_pair a b j same =
    let x : number_at a (16 * j) 8 ≡ number_at b (16 * j) 8 = same_number a b (16 * j) 8 (λ i lo hi. same i lo (omega arith)) in
    let y : number_at a (16 * j + 8) 8 ≡ number_at b (16 * j + 8) 8 = same_number a b (16 * j + 8) 8 (λ i lo hi. same i (omega arith) (omega arith)) in
    cc

-- bytes that are 0 are the number 0
number_zero : (a : List ℕ) (at n : ℕ) → ((i : ℕ) → at ≤ i → i < at + n → get_or a i 0 ≡ 0) → number_at a at n ≡ 0
number_zero a at zero none = refl
number_zero a at (suc n) none =
    let h : get_or a at 0 ≡ 0 = none at (omega arith) (omega arith) in
    let t : number_at a (at + 1) n ≡ 0 = number_zero a (at + 1) n (λ i lo hi. none i (omega arith) (omega arith)) in
    omega arith

-- a slot whose bytes are 0 is empty
pub empty_slot : (a : List ℕ) (j : ℕ) → ((i : ℕ) → 16 * j ≤ i → i < 16 * j + 16 → get_or a i 0 ≡ 0) → (pair_in a j).new ≡ 0
empty_slot a j none = number_zero a (16 * j + 8) 8 (λ i lo hi. none i (omega arith) (omega arith))

-- a byte of zeros
pub zero_at : (n i : ℕ) → get_or (replicate n zero) i zero ≡ zero
zero_at n i = elim (cases_lt i n) [ inl lt ↦ get_or-replicate n i 0 0 lt | inr ge ↦ get_or_past (replicate n zero) i 0 (omega (arith, length-replicate n zero)) ]

-- the slots of zeros are empty
pub empty_zeros : (n j : ℕ) → (pair_in (replicate n zero) j).new ≡ 0
empty_zeros n j = empty_slot (replicate n zero) j (λ i lo hi. zero_at n i)

-- a slot in use of an area holds its pair
pub slot_listed : (chunk a j : ℕ) (b : List ℕ) (ps : List Pair) (i : ℕ) (d : Pair) → 0 < chunk → pairs_of chunk b ≡ ps → length ps ≡ a * (32 * chunk) + j → i < j → j ≤ 32 * chunk → pair_in (chunk_at chunk b (area_place chunk a)) i ≡ get_or ps (a * (32 * chunk) + i) d
slot_listed chunk a j b ps i d pos is len lt le =
    sym (slot-at chunk b a i (omega arith)) ∙ (IsListed-of chunk b ps pos is).each (a * (32 * chunk) + i) d (omega arith)

-- a chunk lies in the bytes of a device that has it
pub chunk_fits : (size chunk n : ℕ) (b x : List ℕ) → length b ≡ 512 * size → length x ≡ 512 * chunk → chunk * (n + 1) ≤ size → 512 * (chunk * n) + length x ≤ length b
chunk_fits size chunk n b x whole long inside = let e : chunk * (n + 1) ≡ chunk * n + chunk = grind arith in omega arith

-- a chunk that was written
pub chunk-written : (size chunk n : ℕ) (old new x : List ℕ) → length old ≡ 512 * size → length x ≡ 512 * chunk → chunk * (n + 1) ≤ size → new ≡ with_sectors old (chunk * n) x → chunk_at chunk new n ≡ x
chunk-written size chunk n old new x whole long inside is =
    ap (λ b. chunk_at chunk b n) is ∙ sectors_at-with_same old (chunk * n) chunk x (chunk_fits size chunk n old x whole long inside) long

-- and the others
pub chunk_only : (size chunk n : ℕ) (old new x : List ℕ) → length old ≡ 512 * size → length x ≡ 512 * chunk → chunk * (n + 1) ≤ size → new ≡ with_sectors old (chunk * n) x → ChangesOnly chunk n old new
chunk_only size chunk n old new x whole long inside is =
    let fits = chunk_fits size chunk n old x whole long inside in
    changes_only chunk n (chunk * n) chunk old new (ap length is ∙ length-with_sectors old (chunk * n) x fits) (omega arith) (omega arith)
    (λ i out. ap (λ y. get_or y i 0) is ∙ byte_outside old (chunk * n) x i fits (elim out [ inl lo ↦ inl lo | inr hi ↦ inr (omega arith) ]))

-- a write inside a chunk, whatever it answered
pub only_inside : (size size' chunk n first count : ℕ) (old new : List ℕ) → length old ≡ 512 * size → length new ≡ 512 * size' → size' ≡ size → chunk * n ≤ first → first + count ≤ chunk * n + chunk → ((i : ℕ) → (i < 512 * first) ⊎ (512 * (first + count) ≤ i) → get_or new i 0 ≡ get_or old i 0) → ChangesOnly chunk n old new
only_inside size size' chunk n first count old new whole whole' same low high rest =
    changes_only chunk n first count old new (whole' ∙ ap (λ m. 512 * m) same ∙ sym whole) low high rest

-- an area whose slots were all zeroed
pub all_zero : (chunk : ℕ) (a b : List ℕ) → length a ≡ 512 * chunk → b ≡ zero_from a 0 → b ≡ replicate (512 * chunk) 0
all_zero chunk a b whole is = is ∙ ap (λ n. replicate n zero) (omega arith)
