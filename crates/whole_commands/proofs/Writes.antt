-- A write of sectors of the origin leaves the picture of a snapshot that has copies of the chunks that they touch.
use Rattle.std.proofs.Common.{◌≡◌, ◌≢◌, ◌⊎◌, inl, inr, ℕ, ◌+◌, ◌*◌, ◌-◌, ◌/◌, ◌<◌, ◌≤◌, true, List, length, arith, refl, ap, ◌∙◌, sym, get_or}
use Rattle.std.specs.Prelude.{Option, Some, None, is_some}
use Rattle.std.proofs.lemmas.Bool.{cases_lt, true≢false}
use Rattle.std.proofs.Math.Nat.{div-div-eq-div-mul}
use Rattle.sector.specs.Bytes.{with_sectors}
use Rattle.sector.proofs.Sectors.{length-with_sectors, byte_outside}
use Rattle.chunk.specs.Pieces.{touched}
use Rattle.chunk.proofs.Over.{in_touched}
use Rattle.cow_format.specs.Pairs.{pairs_of}
use Rattle.cow_format.specs.Picture.{place_of, byte_of, picture_at, picture}
use Rattle.cow_format.proofs.Pictures.{picture-origin, same_picture}
use Rattle.whole_commands.proofs.Laws.{option_cases}
use Rattle.whole_commands.proofs.Rounds.{span_over}

-- the disk's bytes outside what is written
disk_rest : (disk : List ℕ) (first count : ℕ) (bytes : List ℕ) → length bytes ≡ 512 * count → 512 * first + length bytes ≤ length disk → (i : ℕ) → (i < 512 * first) ⊎ (512 * (first + count) ≤ i) → get_or (with_sectors disk first bytes) i 0 ≡ get_or disk i 0
disk_rest disk first count bytes len fits i out = byte_outside disk first bytes i fits (elim out [ inl lo ↦ inl lo | inr hi ↦ inr (omega arith) ])

-- the picture of a chunk that has its copy, after a write to the origin there
pub picture-saved : (chunk c first count : ℕ) (disk store bytes : List ℕ) → 0 < chunk → place_of (pairs_of chunk store) c ≢ None → chunk * c ≤ first → first + count ≤ chunk * c + chunk → length bytes ≡ 512 * count → 512 * first + length bytes ≤ length disk → picture chunk (with_sectors disk first bytes) store ≡ picture chunk disk store
picture-saved chunk c first count disk store bytes pos copy low high len fits = elim (option_cases (place_of (pairs_of chunk store) c)) [
  | inl none ↦ absurd (copy none)
  | inr (n, some) ↦ same_picture chunk disk store (with_sectors disk first bytes) store (pairs_of chunk store) (length-with_sectors disk first bytes fits) refl
      (λ i lt. picture-origin chunk c n first count disk (with_sectors disk first bytes) store (pairs_of chunk store) pos some low high (disk_rest disk first count bytes len fits) i)
]

-- the picture of chunks that have their copies, after a write to the origin over all of them
pub picture-over : (chunk first count : ℕ) (disk store bytes : List ℕ) → 0 < chunk → ((c : ℕ) → first / chunk ≤ c → c < first / chunk + touched chunk (span_over first count) → is_some (place_of (pairs_of chunk store) c) ≡ true)
    → length bytes ≡ 512 * count → 512 * first + length bytes ≤ length disk → picture chunk (with_sectors disk first bytes) store ≡ picture chunk disk store
picture-over chunk first count disk store bytes pos copies len fits =
    same_picture chunk disk store (with_sectors disk first bytes) store (pairs_of chunk store) (length-with_sectors disk first bytes fits) refl
    (λ i lt. by_place i (place_of (pairs_of chunk store) (i / (512 * chunk))) refl)
  where
    rest : (i : ℕ) → (i < 512 * first) ⊎ (512 * (first + count) ≤ i) → get_or (with_sectors disk first bytes) i 0 ≡ get_or disk i 0
    rest = disk_rest disk first count bytes len fits

    -- a byte whose chunk has no copy is not written
    unwritten : (i : ℕ) → place_of (pairs_of chunk store) (i / (512 * chunk)) ≡ None → get_or (with_sectors disk first bytes) i 0 ≡ get_or disk i 0
    unwritten i none = elim (cases_lt i (512 * first)) [
      | inl low ↦ rest i (inl low)
      | inr high ↦ elim (cases_lt i (512 * (first + count))) [
        | inr above ↦ rest i (inr above)
        | inl within ↦ (let short : i / 512 - first < count = omega arith in
            let at : first + (i / 512 - first) ≡ i / 512 = omega arith in
            let here : (first + (i / 512 - first)) / chunk ≡ i / (512 * chunk) = ap (λ x. x / chunk) at ∙ div-div-eq-div-mul i 512 chunk in
            let (from, to) = in_touched chunk (span_over first count) (i / 512 - first) pos short in
            let some : is_some (place_of (pairs_of chunk store) (i / (512 * chunk))) ≡ true = ap (λ c. is_some (place_of (pairs_of chunk store) c)) (sym here) ∙ copies ((first + (i / 512 - first)) / chunk) from to in
            absurd (true≢false (sym some ∙ ap is_some none)))
      ]
    ]

    by_place : (i : ℕ) (o : Option ℕ) → place_of (pairs_of chunk store) (i / (512 * chunk)) ≡ o → picture_at chunk (with_sectors disk first bytes) store (pairs_of chunk store) i ≡ picture_at chunk disk store (pairs_of chunk store) i
    by_place i (Some n) is = ap (byte_of chunk (with_sectors disk first bytes) store i) is ∙ sym (ap (byte_of chunk disk store i) is)
    by_place i None is = ap (byte_of chunk (with_sectors disk first bytes) store i) is ∙ unwritten i is ∙ sym (ap (byte_of chunk disk store i) is)
