-- Look-ups in the beginning of a list of pairs, and the bytes of a sector.
use Rattle.std.proofs.Common.{◌≡◌, inl, inr, ℕ, ◌+◌, ◌*◌, ◌-◌, ◌/◌, ◌<◌, ◌≤◌, List, [], ◌∷◌, ◌++◌, length, take, drop, get_or, arith, ap, ◌∙◌, sym, length-take, length-drop}
use Rattle.std.specs.Prelude.{Option, Some, ◌==◌}
use Rattle.std.proofs.lemmas.Bool.{cases_Bool, cond-true, cond-false}
use Rattle.std.proofs.lemmas.List.{take-append-drop, ext_get_or}
use Rattle.sector.specs.Bytes.{sector_at}
use Rattle.sector.proofs.Sectors.{byte_read}
use Rattle.sector.specs.declared.pair.Pair.{Pair}
use Rattle.cow_format.specs.Pairs.{pairs_of}
use Rattle.cow_format.specs.Picture.{place_of, byte_of, picture_at, picture}
use Rattle.cow_format.proofs.Pictures.{get_or-picture}
use Rattle.crash_laws.proofs.Sectors.{sector_chunk}

-- a look-up in a beginning of a list
pub place_longer : (xs ys : List Pair) (c n : ℕ) → place_of xs c ≡ Some n → place_of (xs ++ ys) c ≡ Some n
place_longer [] ys c n e = cc
place_longer (x ∷ xs) ys c n e = elim (cases_Bool (x.old == c)) [
  | inl t ↦ cond-true _ _ _ t ∙ sym (cond-true _ _ _ t) ∙ e
  | inr f ↦ cond-false _ _ _ f ∙ place_longer xs ys c n (sym (cond-false _ _ _ f) ∙ e)
]

pub place_first : (m : ℕ) (xs : List Pair) (c n : ℕ) → place_of (take m xs) c ≡ Some n → place_of xs c ≡ Some n
place_first m xs c n e = ap (λ z. place_of z c) (sym (take-append-drop m xs)) ∙ place_longer (take m xs) (drop m xs) c n e

-- two sectors whose bytes are the same
length_sector : (x : List ℕ) (s size : ℕ) → length x ≡ 512 * size → s < size → length (sector_at x s) ≡ 512
length_sector x s size whole lt = simp (length-take, length-drop) (omega arith)

pub from_bytes : (a b : List ℕ) (s t n m : ℕ) → length a ≡ 512 * n → length b ≡ 512 * m → s < n → t < m → ((r : ℕ) → r < 512 → get_or a (512 * s + r) 0 ≡ get_or b (512 * t + r) 0) → sector_at a s ≡ sector_at b t
from_bytes a b s t n m la lb ls lt same =
    let x = length_sector a s n la ls in
    let y = length_sector b t m lb lt in
    ext_get_or 0 _ _ (x ∙ sym y) (λ k h. let short : k < 512 = omega arith in byte_read a s 1 k (omega arith) ∙ same k short ∙ sym (byte_read b t 1 k (omega arith)))

-- and the other way round
byte_of_sector : (b : List ℕ) (s k : ℕ) → k < 512 → get_or (sector_at b s) k 0 ≡ get_or b (512 * s + k) 0
byte_of_sector b s k lt = byte_read b s 1 k (omega arith)

pub byte_same_sector : (a b : List ℕ) (s i : ℕ) → sector_at a s ≡ sector_at b s → 512 * s ≤ i → i < 512 * s + 512 → get_or a i 0 ≡ get_or b i 0
byte_same_sector a b s i same lo hi =
    let e : i ≡ 512 * s + (i - 512 * s) = omega arith in
    ap (λ x. get_or a x 0) e ∙ sym (byte_of_sector a s (i - 512 * s) (omega arith)) ∙ ap (λ x. get_or x (i - 512 * s) 0) same ∙ byte_of_sector b s (i - 512 * s) (omega arith) ∙ sym (ap (λ x. get_or b x 0) e)

-- a byte of the picture, by its chunk's place
pub picture_byte : (chunk sectors s r : ℕ) (o c : List ℕ) (ps : List Pair) (x : Option ℕ) → 0 < chunk → length o ≡ 512 * sectors → s < sectors → r < 512 → pairs_of chunk c ≡ ps → place_of ps (s / chunk) ≡ x → get_or (picture chunk o c) (512 * s + r) 0 ≡ byte_of chunk o c (512 * s + r) x
picture_byte chunk sectors s r o c ps x pos lo ls lr is at =
    get_or-picture chunk o c (512 * s + r) (omega arith) ∙ ap (λ z. picture_at chunk o c z (512 * s + r)) is
    ∙ ap (byte_of chunk o c (512 * s + r)) (ap (place_of ps) (sector_chunk chunk s r pos lr).0 ∙ at)
