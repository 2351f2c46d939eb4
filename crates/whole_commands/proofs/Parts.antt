-- Parts of bytes that are written inside one chunk.
use Rattle.std.proofs.Common.{◌≡◌, ◌⊎◌, inl, inr, ℕ, ◌+◌, ◌*◌, ◌<◌, ◌≤◌, List, length, get_or, arith, rules, length-take, length-drop}
use Rattle.std.proofs.lemmas.List.{places, same_lists}
use Rattle.sector.specs.Bytes.{with_part, sectors_at}
use Rattle.cow_format.specs.Places.{chunk_at, ChangesOnly}
use Rattle.cow_format.proofs.Slots.{changes_only}

-- the length stays
pub length-with_part : (b part : List ℕ) (at : ℕ) → at + length part ≤ length b → length (with_part b at part) ≡ length b
length-with_part b part at fits = search (rules, places)

-- a byte of the part
pub part_inside : (b part : List ℕ) (at i : ℕ) → at + length part ≤ length b → i < length part → get_or (with_part b at part) (at + i) 0 ≡ get_or part i 0
part_inside b part at i fits lt = grind (arith, places)

-- any other byte
pub part_outside : (b part : List ℕ) (at i : ℕ) → at + length part ≤ length b → (i < at) ⊎ (at + length part ≤ i) → get_or (with_part b at part) i 0 ≡ get_or b i 0
part_outside b part at i fits (inl lo) = grind (arith, places)
part_outside b part at i fits (inr hi) = grind (arith, places)

-- a part inside a chunk changes that chunk only
pub part_only : (chunk n off : ℕ) (b part : List ℕ) → off + length part ≤ 512 * chunk → 512 * (chunk * n) + off + length part ≤ length b → ChangesOnly chunk n b (with_part b (512 * (chunk * n) + off) part)
part_only chunk n off b part inside fits =
    changes_only chunk n (chunk * n) chunk b (with_part b (512 * (chunk * n) + off) part) (length-with_part b part (512 * (chunk * n) + off) fits) (omega arith) (omega arith)
    (λ i out. part_outside b part (512 * (chunk * n) + off) i fits (elim out [ inl lo ↦ inl (omega arith) | inr hi ↦ inr (omega arith) ]))

-- the chunk itself has the part then
pub part_here : (chunk n off : ℕ) (b part : List ℕ) → off + length part ≤ 512 * chunk → 512 * (chunk * n + chunk) ≤ length b → chunk_at chunk (with_part b (512 * (chunk * n) + off) part) n ≡ with_part (chunk_at chunk b n) off part
part_here chunk n off b part inside fits = same_lists _ _ (search (rules, places)) (λ k d h. grind (arith, places))

-- a chunk has all its bytes
pub length-chunk_at : (chunk n : ℕ) (b : List ℕ) → 512 * (chunk * n + chunk) ≤ length b → length (chunk_at chunk b n) ≡ 512 * chunk
length-chunk_at chunk n b fits = simp (length-take, length-drop) (omega arith)

-- the whole of a chunk
pub whole_here : (chunk n : ℕ) (b part : List ℕ) → length part ≡ 512 * chunk → 512 * (chunk * n + chunk) ≤ length b → chunk_at chunk (with_part b (512 * (chunk * n)) part) n ≡ part
whole_here chunk n b part whole fits = same_lists _ _ (search (rules, places)) (λ k d h. grind (arith, places))

-- the front of a chunk
pub front_here : (chunk n count : ℕ) (b part : List ℕ) → length part ≡ 512 * count → count ≤ chunk → 512 * (chunk * n + chunk) ≤ length b → sectors_at (with_part b (512 * (chunk * n)) part) (chunk * n) count ≡ part
front_here chunk n count b part whole short fits = same_lists _ _ (search (rules, places)) (λ k d h. grind (arith, places))
