-- Bytes whose sectors are old or new, each by itself.
use Rattle.std.proofs.Common.{◌≡◌, ◌⊎◌, inl, inr, ℕ, ◌+◌, ◌*◌, ◌/◌, ◌-◌, ◌<◌, ◌≤◌, List, length, get_or, arith, refl, ap, ◌∙◌, sym, length-take, length-drop, min}
use Rattle.std.proofs.lemmas.Bool.{cases_lt}
use Rattle.std.proofs.lemmas.List.{get_or_past, ext_get_or}
use Rattle.sector.specs.Bytes.{sector_at}
use Rattle.sector.proofs.Sectors.{byte_read}
use Rattle.cow_format.specs.Places.{chunk_at, ChangesOnly}
use Rattle.crash_laws.specs.Stop.{IsTorn}

-- a byte by its sector
byte_of_sector : (b : List ℕ) (s k : ℕ) → k < 512 → get_or (sector_at b s) k 0 ≡ get_or b (512 * s + k) 0
byte_of_sector b s k lt = byte_read b s 1 k (omega arith)

byte_same_sector : (a b : List ℕ) (s i : ℕ) → sector_at a s ≡ sector_at b s → 512 * s ≤ i → i < 512 * s + 512 → get_or a i 0 ≡ get_or b i 0
byte_same_sector a b s i same lo hi =
    let e : i ≡ 512 * s + (i - 512 * s) = omega arith in
    ap (λ x. get_or a x 0) e ∙ sym (byte_of_sector a s (i - 512 * s) (omega arith)) ∙ ap (λ x. get_or x (i - 512 * s) 0) same ∙ byte_of_sector b s (i - 512 * s) (omega arith) ∙ sym (ap (λ x. get_or b x 0) e)

-- all bytes of a sector are old, or all are new, also past the end
pub torn_sector : (size : ℕ) (old new torn : List ℕ) → IsTorn size old new torn → length old ≡ 512 * size → length new ≡ 512 * size → (s : ℕ) → ((i : ℕ) → 512 * s ≤ i → i < 512 * s + 512 → get_or torn i 0 ≡ get_or old i 0) ⊎ ((i : ℕ) → 512 * s ≤ i → i < 512 * s + 512 → get_or torn i 0 ≡ get_or new i 0)
torn_sector size old new torn is lo ln s = elim (cases_lt s size) [
  | inl lt ↦ elim (is.each s lt) [
    | inl e ↦ inl (λ i a b. byte_same_sector torn old s i e a b)
    | inr e ↦ inr (λ i a b. byte_same_sector torn new s i e a b)
  ]
  | inr ge ↦ inl (λ i a b. get_or_past torn i 0 (let w = is.whole in omega arith) ∙ sym (get_or_past old i 0 (omega arith)))
]

-- a byte that is the same in both is the same
pub torn_byte : (size : ℕ) (old new torn : List ℕ) → IsTorn size old new torn → length old ≡ 512 * size → length new ≡ 512 * size → (i : ℕ) → get_or new i 0 ≡ get_or old i 0 → get_or torn i 0 ≡ get_or old i 0
torn_byte size old new torn is lo ln i same = elim (torn_sector size old new torn is lo ln (i / 512)) [
  | inl f ↦ f i (omega arith) (omega arith)
  | inr f ↦ f i (omega arith) (omega arith) ∙ same
]

-- where nothing is written, nothing changes
pub torn_still : (size : ℕ) (old torn : List ℕ) → IsTorn size old old torn → length old ≡ 512 * size → torn ≡ old
torn_still size old torn is lo = ext_get_or 0 torn old (is.whole ∙ sym lo) (λ i lt. torn_byte size old old torn is lo lo i refl)

-- a write to one chunk, torn, is a write to that chunk
pub torn_only : (size chunk n : ℕ) (old new torn : List ℕ) → IsTorn size old new torn → length old ≡ 512 * size → ChangesOnly chunk n old new → ChangesOnly chunk n old torn
torn_only size chunk n old new torn is lo only = record {
  len = is.whole ∙ sym lo;
  rest = λ m ne. ext_get_or 0 _ _ (length_chunk torn m ∙ ap (λ x. min (512 * chunk) (x - 512 * (chunk * m))) (is.whole ∙ sym lo) ∙ sym (length_chunk old m))
      (λ k lt. let short : k < 512 * chunk = omega (arith, length_chunk torn m) in
      byte_read torn (chunk * m) chunk k short
      ∙ torn_byte size old new torn is lo (only.len ∙ lo) (512 * (chunk * m) + k) (sym (byte_read new (chunk * m) chunk k short) ∙ ap (λ x. get_or x k 0) (only.rest m ne) ∙ byte_read old (chunk * m) chunk k short)
      ∙ sym (byte_read old (chunk * m) chunk k short));
} where
  length_chunk : (b : List ℕ) (m : ℕ) → length (chunk_at chunk b m) ≡ min (512 * chunk) (length b - 512 * (chunk * m))
  length_chunk b m = simp (length-take, length-drop)
