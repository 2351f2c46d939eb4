-- The first sector of a store: what leaves it, and what a header that was written says.
use Rattle.std.proofs.Common.{◌≡◌, ◌≢◌, ◌⊎◌, inl, inr, ℕ, ◌+◌, ◌*◌, ◌<◌, ◌≤◌, Bool, true, false, List, length, get_or, arith, refl, ap, ◌∙◌, sym, length-append, Ok}
use Rattle.std.proofs.lemmas.Bool.{cases_Bool, true≢false}
use Rattle.std.proofs.lemmas.List.{length-replicate}
use Rattle.sector.specs.Bytes.{sector_at, with_sectors}
use Rattle.sector.specs.Number.{number_at}
use Rattle.sector.proofs.Numbers.{same_number, length-number_bytes}
use Rattle.sector.proofs.Sectors.{byte_inside, byte_read}
use Rattle.cow_format.specs.Places.{chunk_at, area_place, ChangesOnly}
use Rattle.chunk.specs.Sizes.{is_chunk}
use Rattle.cow_header.specs.HeaderText.{found_in, found_by, header_bytes}
use Rattle.cow_header.specs.declared.found.Found.TheVariants.{Header}
use Rattle.cow_header.proofs.Source.{found-header_bytes}
use Rattle.store.specs.Headed.{head_of, marked_as}
use Rattle.store.specs.Loading.{is_settled, after_write}
use Rattle.store.specs.declared.state.Left.{Left}
use Rattle.store.specs.declared.state.Left.TheVariants.{FirstArea, HeaderChunk, Tail, Nothing}

-- sectors that begin with the same sixteen bytes say the same
found_alike : (a b : List ℕ) → ((i : ℕ) → i < 16 → get_or a i 0 ≡ get_or b i 0) → found_in a ≡ found_in b
found_alike a b same =
    let magic = same_number a b 0 4 (λ i lo hi. same i (omega arith)) in
    let mark = same_number a b 4 4 (λ i lo hi. same i (omega arith)) in
    let version = same_number a b 8 4 (λ i lo hi. same i (omega arith)) in
    let size = same_number a b 12 4 (λ i lo hi. same i (omega arith)) in
    ap (λ m. found_by m (number_at a 4 4) (number_at a 8 4) (number_at a 12 4)) magic
    ∙ ap (λ m. found_by (number_at b 0 4) m (number_at a 8 4) (number_at a 12 4)) mark
    ∙ ap (λ m. found_by (number_at b 0 4) (number_at b 4 4) m (number_at a 12 4)) version
    ∙ ap (λ m. found_by (number_at b 0 4) (number_at b 4 4) (number_at b 8 4) m) size

first_byte : (b : List ℕ) (i : ℕ) → i < 512 → get_or (sector_at b 0) i 0 ≡ get_or b i 0
first_byte b i lt = let at : 512 * 0 + i ≡ i = omega arith in byte_read b 0 1 i (omega arith) ∙ ap (λ k. get_or b k 0) at

front_byte : (chunk : ℕ) (b : List ℕ) (i : ℕ) → i < 512 * chunk → get_or (chunk_at chunk b 0) i 0 ≡ get_or b i 0
front_byte chunk b i lt = let at : 512 * (chunk * 0) + i ≡ i = omega arith in byte_read b (chunk * 0) chunk i lt ∙ ap (λ k. get_or b k 0) at

-- a write to another chunk leaves what the first sector says
pub head_kept : (chunk n : ℕ) (old new : List ℕ) → 0 < chunk → n ≢ 0 → ChangesOnly chunk n old new → found_in (sector_at new 0) ≡ found_in (sector_at old 0)
head_kept chunk n old new pos ne only = found_alike _ _ (λ i lt.
    first_byte new i (omega arith) ∙ sym (front_byte chunk new i (omega arith)) ∙ ap (λ x. get_or x i 0) (only.rest 0 (λ e. ne (sym e))) ∙ front_byte chunk old i (omega arith) ∙ sym (first_byte old i (omega arith)))

-- no area is the first chunk
pub area_past : (chunk a : ℕ) → area_place chunk a ≢ 0
area_past chunk a e = omega arith

length-header : (n chunk : ℕ) (valid : Bool) → 16 ≤ n → length (header_bytes n valid chunk) ≡ n
unfolding header_bytes
length-header n chunk valid fits = simp (length-append, length-number_bytes, length-replicate) (omega arith)

-- a header that was written
pub head_written : (size chunk : ℕ) (old new : List ℕ) (valid : Bool) → is_chunk chunk ≡ true → 0 < chunk → chunk ≤ size → length old ≡ 512 * size → new ≡ with_sectors old 0 (header_bytes (512 * chunk) valid chunk) → found_in (sector_at new 0) ≡ marked_as valid chunk
head_written size chunk old new valid allowed pos inside whole is =
    let x = header_bytes (512 * chunk) valid chunk in
    let len = length-header (512 * chunk) chunk valid (omega arith) in
    let at : (i : ℕ) → i ≡ 512 * 0 + i = λ i. omega arith in
    found_alike (sector_at new 0) x (λ i lt.
    first_byte new i (omega arith) ∙ ap (λ b. get_or b i 0) is ∙ ap (λ k. get_or (with_sectors old 0 x) k 0) (at i) ∙ byte_inside old 0 x i (omega arith) (omega arith))
    ∙ found-header_bytes (512 * chunk) chunk valid allowed

-- the current area of a load is written: what the first sector says stays the same
pub head_after : (left : Left) (valid : Bool) (chunk : ℕ) → is_settled left ≡ false → head_of (after_write left) valid chunk ≡ head_of left valid chunk
head_after FirstArea valid chunk unsettled = refl
head_after HeaderChunk valid chunk unsettled = absurd (true≢false unsettled)
head_after Tail valid chunk unsettled = refl
head_after Nothing valid chunk unsettled = absurd (true≢false unsettled)

-- a written store that was loaded has its header
pub head_loaded : {A B : Type 0} (left : Left) (chunk : ℕ) → ((left ≡ Tail) × A) ⊎ ((left ≡ Nothing) × B) → head_of left true chunk ≡ Ok (Header chunk)
head_loaded left chunk (inl tail) = ap (λ x. head_of x true chunk) tail.0
head_loaded left chunk (inr none) = ap (λ x. head_of x true chunk) none.0

-- a store of which a write of the load is left is not marked invalid
pub valid_before : (left : Left) (valid : Bool) → (valid ≡ false → left ≡ Nothing) → left ≢ Nothing → valid ≡ true
valid_before left valid marked other = elim (cases_Bool valid) [
  | inl is ↦ is
  | inr none ↦ absurd (other (marked none))
]

-- the first chunk lies in a store that has another one
pub first_inside : (chunk n size : ℕ) → chunk * (n + 1) ≤ size → chunk ≤ size
first_inside chunk n size le = let e : chunk * (n + 1) ≡ chunk * n + chunk = grind arith in omega arith
