-- Which chunk a byte of a range is in, and what a write of a range leaves.
use Rattle.std.proofs.Common.{◌≡◌, ◌≢◌, inl, inr, ℕ, ◌+◌, ◌*◌, ◌-◌, ◌/◌, ◌%◌, ◌<◌, ◌≤◌, List, length, get_or, min, sym, ◌∙◌, ap, arith, length-take, length-drop}
use Rattle.std.proofs.Math.Nat.{div-div-eq-div-mul}
use Rattle.std.proofs.lemmas.Bool.{cases_lt}
use Rattle.std.proofs.lemmas.Nat.{mod_below, div-add-mod', div-mul-add}
use Rattle.std.proofs.lemmas.List.{ext_get_or}
use Rattle.sector.specs.Bytes.{sectors_at}
use Rattle.sector.proofs.Sectors.{byte_read}
use Rattle.cow_format.proofs.AreaPlaces.{chunks_apart}
use Rattle.volume_laws.specs.Steps.{WritesDisk}

pub byte_in : (chunk i : ℕ) → i ≡ 512 * (chunk * (i / (512 * chunk))) + i % (512 * chunk)
byte_in chunk i = let h = div-add-mod' i (512 * chunk) in grind arith

pub byte_below : (chunk i : ℕ) → 0 < chunk → i % (512 * chunk) < 512 * chunk
byte_below chunk i pos = mod_below i (512 * chunk) (omega arith)

-- a chunk begins where its first sector is, or before
pub piece_low : (chunk first : ℕ) → 0 < chunk → chunk * (first / chunk) ≤ first
piece_low chunk first pos = let h : chunk * (first / chunk) + first % chunk ≡ first = grind (arith, div-add-mod' first chunk) in omega arith

-- the chunk of a byte of a piece, and the byte's number there
pub byte_chunk : (chunk first count k : ℕ) → 0 < chunk → first + count ≤ chunk * (first / chunk) + chunk → k < 512 * count → (512 * first + k) / (512 * chunk) ≡ first / chunk
byte_chunk chunk first count k pos piece lt =
    let c : ℕ = first / chunk in
    let low = piece_low chunk first pos in
    let at : 512 * first + k ≡ first / chunk * (512 * chunk) + (512 * (first - chunk * (first / chunk)) + k) = (let e : first / chunk * (512 * chunk) ≡ 512 * (chunk * (first / chunk)) = grind arith in omega arith) in
    ap (λ x. x / (512 * chunk)) at ∙ div-mul-add (first / chunk) (512 * chunk) (512 * (first - chunk * (first / chunk)) + k) (omega arith)

-- bytes of other chunks are as they were
pub disk_other : (chunk first count c i : ℕ) (o o' : List ℕ) → 0 < chunk → WritesDisk first count o o' → chunk * c ≤ first → first + count ≤ chunk * c + chunk → i / (512 * chunk) ≢ c → get_or o' i 0 ≡ get_or o i 0
disk_other chunk first count c i o o' pos e low high ne = e.rest i (elim (chunks_apart chunk (i / (512 * chunk)) c ne) [
  | inl x ↦ inl (let a = byte_in chunk i in let b = byte_below chunk i pos in omega arith)
  | inr x ↦ inr (let a = byte_in chunk i in omega arith)
])

length-sectors_at : (b : List ℕ) (f c : ℕ) → length (sectors_at b f c) ≡ min (512 * c) (length b - 512 * f)
length-sectors_at b f c = simp (length-take, length-drop)

-- sectors of an array, byte by byte
pub sectors_are : (array bytes : List ℕ) (first count : ℕ) → 512 * (first + count) ≤ length array → length bytes ≡ 512 * count → ((k : ℕ) → k < 512 * count → get_or array (512 * first + k) 0 ≡ get_or bytes k 0) → sectors_at array first count ≡ bytes
sectors_are array bytes first count fits len same = ext_get_or 0 (sectors_at array first count) bytes
    (let e = length-sectors_at array first count in omega arith)
    (λ k lt. let short : k < 512 * count = omega (arith, length-sectors_at array first count) in byte_read array first count k short ∙ same k short)

pub length-sectors : (array : List ℕ) (first count : ℕ) → 512 * (first + count) ≤ length array → length (sectors_at array first count) ≡ 512 * count
length-sectors array first count fits = let e = length-sectors_at array first count in omega arith

-- the chunk of a sector of a piece
pub sector_in : (chunk first i : ℕ) → 0 < chunk → first + i < chunk * (first / chunk) + chunk → (first + i) / chunk ≡ first / chunk
sector_in chunk first i pos inside =
    let low = piece_low chunk first pos in
    let at : first + i ≡ first / chunk * chunk + (first + i - chunk * (first / chunk)) = (let e : first / chunk * chunk ≡ chunk * (first / chunk) = grind arith in omega (arith, e, low)) in
    ap (λ x. x / chunk) at ∙ div-mul-add (first / chunk) chunk (first + i - chunk * (first / chunk)) (omega (arith, low, inside))

-- a byte of a chunk that no written sector touches is as it was
pub disk_untouched : (chunk first count i : ℕ) (o o' : List ℕ) → WritesDisk first count o o' → ((j : ℕ) → j < count → (first + j) / chunk ≢ i / (512 * chunk)) → get_or o' i 0 ≡ get_or o i 0
disk_untouched chunk first count i o o' e away = elim (cases_lt i (512 * first)) [
  | inl low ↦ e.rest i (inl low)
  | inr high ↦ elim (cases_lt i (512 * (first + count))) [
    | inr above ↦ e.rest i (inr above)
    | inl inside ↦
        let sector : first ≤ i / 512 = omega arith in
        let few : i / 512 - first < count = omega arith in
        let at : first + (i / 512 - first) ≡ i / 512 = omega arith in
        absurd (away (i / 512 - first) few (ap (λ x. x / chunk) at ∙ div-div-eq-div-mul i 512 chunk))
  ]
]

-- and so are a chunk's sectors
pub disk_chunk : (chunk first count d n : ℕ) (o o' : List ℕ) → 0 < chunk → WritesDisk first count o o' → ((j : ℕ) → j < count → (first + j) / chunk ≢ d) → n ≤ chunk → sectors_at o' (chunk * d) n ≡ sectors_at o (chunk * d) n
disk_chunk chunk first count d n o o' pos e away fits = ext_get_or 0 (sectors_at o' (chunk * d) n) (sectors_at o (chunk * d) n)
    (length-sectors_at o' (chunk * d) n ∙ ap (λ x. min (512 * n) (x - 512 * (chunk * d))) e.len ∙ sym (length-sectors_at o (chunk * d) n))
    (λ k lt.
    let short : k < 512 * n = omega (arith, lt, length-sectors_at o' (chunk * d) n) in
    let base : 512 * (chunk * d) + k ≡ d * (512 * chunk) + k = (let x : 512 * (chunk * d) ≡ d * (512 * chunk) = grind arith in omega (arith, x)) in
    let here : (512 * (chunk * d) + k) / (512 * chunk) ≡ d = ap (λ x. x / (512 * chunk)) base ∙ div-mul-add d (512 * chunk) k (omega (arith, short, fits)) in
    byte_read o' (chunk * d) n k short ∙ disk_untouched chunk first count (512 * (chunk * d) + k) o o' e (λ j inside same. away j inside (same ∙ here)) ∙ sym (byte_read o (chunk * d) n k short))
