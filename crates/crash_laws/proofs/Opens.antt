-- Values that are open: contents with another value in one sector.
use Rattle.std.proofs.Common.{◌≡◌, ◌≢◌, ◌⊎◌, inl, inr, ℕ, ◌+◌, ◌*◌, ◌/◌, ◌%◌, ◌<◌, ◌≤◌, List, length, arith, refl, ap, ◌∙◌, sym}
use Rattle.std.specs.Prelude.{Some, None}
use Rattle.std.proofs.lemmas.Bool.{cases_eq, cases_lt}
use Rattle.sector.specs.Bytes.{sector_at, with_sectors}
use Rattle.sector.proofs.Sectors.{length-with_sectors, sectors_at-with_same, sectors_at_apart}
use Rattle.cow_format.specs.Pairs.{pairs_of}
use Rattle.cow_format.specs.Picture.{place_of}
use Rattle.crash_laws.specs.Stop.{MayLeave}
use Rattle.crash_laws.specs.Again.{IsOpen}
use Rattle.crash_laws.proofs.Open.{sector_plain, sector_copied}

sector_put : (b v : List ℕ) (size s t : ℕ) → length b ≡ 512 * size → length v ≡ 512 → s < size → t < size → ((t ≡ s) × (sector_at (with_sectors b s v) t ≡ v)) ⊎ (sector_at (with_sectors b s v) t ≡ sector_at b t)
sector_put b v size s t whole len ls lt = elim (cases_eq t s) [
  | inl e ↦ inl (e, ap (λ x. sector_at (with_sectors b s v) x) e ∙ sectors_at-with_same b s 1 v (omega arith) (omega arith))
  | inr ne ↦ inr (sectors_at_apart b s 1 v t 1 (omega arith) (omega arith) (order t s ne))
] where
  order : (t s : ℕ) → t ≢ s → (t + 1 ≤ s) ⊎ (s + 1 ≤ t)
  order t s ne = elim (cases_lt t s) [ inl x ↦ inl (omega arith) | inr x ↦ inr (omega (arith, ne)) ]

-- contents that may be left, with another value that one sector may hold
pub left_with : (holds : ℕ → List ℕ → Type 0) (size s : ℕ) (b v : List ℕ) → MayLeave holds size b → s < size → length v ≡ 512 → holds s v → MayLeave holds size (with_sectors b s v)
left_with holds size s b v left ls len h = let whole = left.whole in record {
  whole = length-with_sectors b s v (omega arith) ∙ left.whole;
  each = λ t lt. elim (sector_put b v size s t left.whole len ls lt) [
    | inl (e, is) ↦ rw (is, e) h
    | inr is ↦ rw is (left.each t lt)
  ];
}

-- a value of the origin disk is open where the chunk has no copy, and one of the store where it has one
pub open_plain : (chunk sectors size s : ℕ) (oh sh : ℕ → List ℕ → Type 0) (o c v : List ℕ) → 0 < chunk → MayLeave oh sectors o → MayLeave sh size c → s < sectors → length v ≡ 512 → oh s v → place_of (pairs_of chunk c) (s / chunk) ≡ None → IsOpen chunk oh sh sectors size s v
open_plain chunk sectors size s oh sh o c v pos lo lc ls len h none =
    let put = left_with oh sectors s o v lo ls len h in
    let whole = lo.whole in
    record { origin = with_sectors o s v; store = c; origin_left = put; store_left = lc; is = sym (sector_plain chunk sectors s (with_sectors o s v) c (pairs_of chunk c) pos put.whole ls refl none ∙ sectors_at-with_same o s 1 v (omega arith) (omega arith)) }

pub open_copied : (chunk sectors size s n : ℕ) (oh sh : ℕ → List ℕ → Type 0) (o c v : List ℕ) → 0 < chunk → MayLeave oh sectors o → MayLeave sh size c → s < sectors → chunk * n + s % chunk < size → length v ≡ 512 → sh (chunk * n + s % chunk) v → place_of (pairs_of chunk c) (s / chunk) ≡ Some n → pairs_of chunk (with_sectors c (chunk * n + s % chunk) v) ≡ pairs_of chunk c → IsOpen chunk oh sh sectors size s v
open_copied chunk sectors size s n oh sh o c v pos lo lc ls fits len h at same =
    let put = left_with sh size (chunk * n + s % chunk) c v lc fits len h in
    let whole = lc.whole in
    record { origin = o; store = with_sectors c (chunk * n + s % chunk) v; origin_left = lo; store_left = put; is = sym (sector_copied chunk sectors size s n o (with_sectors c (chunk * n + s % chunk) v) (pairs_of chunk c) pos lo.whole put.whole ls fits same at ∙ sectors_at-with_same c (chunk * n + s % chunk) 1 v (omega arith) (omega arith)) }
