-- Blocks of bytes that sectors touch, by their numbers, and lists of blocks.
use Rattle.std.proofs.Common.{◌≡◌, ℕ, ◌+◌, ◌*◌, ◌-◌, ◌/◌, ◌<◌, inl, inr, Bool, true, false, ◌&&◌, not, Bor, nat_le, nat_lt, List, [], ◌∷◌, filter, arith, refl, sym, ap, ◌∙◌}
use Rattle.std.specs.List.{list_any}
use Rattle.std.specs.Prelude.{Option, None, Some, MatchOption}
use Rattle.std.specs.Option.{is_some}
use Rattle.std.specs.Ordering.{nat_cmp, is_le, is_lt}
use Rattle.std.specs.declared.cmp.Ordering.TheVariants.{Less, Equal, Greater}
use Rattle.std.specs.Cmp.{nat_cmp_is}
use Rattle.std.specs.declared.ops.Bound.{Bound}
use Rattle.std.specs.BTreeMap.Range.{range_contains}
use Rattle.std.proofs.Math.Nat.{le-div_iff_mul-le, div-lt_iff_lt-mul}
use Rattle.std.proofs.lemmas.Bool.{leb-true, le-leb, lt-leb, ltb-true, lt-ltb, cases_lt, cases_Bool, or_parts}
use Rattle.device.specs.Layers.{touches}

-- two tests that imply each other
same_tests : (x y : Bool) → (x ≡ true → y ≡ true) → (y ≡ true → x ≡ true) → x ≡ y
same_tests true y f g = sym (f refl)
same_tests false true f g = g refl
same_tests false false f g = refl

-- a block is no lower than the one that holds a byte where it ends above that byte
above_byte : (size byte block : ℕ) → 0 < size → nat_le (byte / size) block ≡ nat_lt byte ((block + 1) * size)
above_byte size byte block some =
    same_tests _ _
    (λ h. let le = leb-true _ _ h in lt-ltb _ _ ((div-lt_iff_lt-mul some).0 (omega (arith, le))))
    (λ h. let lt = (div-lt_iff_lt-mul some).1 (ltb-true _ _ h) in le-leb _ _ (omega (arith, lt)))

-- a block is no higher than the one that holds the byte before an end where it begins before that end
below_end : (size end block : ℕ) → 0 < size → 0 < end → nat_le block ((end - 1) / size) ≡ nat_lt (block * size) end
below_end size end block some more =
    same_tests _ _
    (λ h. let le = (le-div_iff_mul-le some).0 (leb-true _ _ h) in lt-ltb _ _ (omega (arith, le)))
    (λ h. let lt = ltb-true _ _ h in le-leb _ _ ((le-div_iff_mul-le some).1 (omega (arith, lt))))

and_swapped : (x y : Bool) → (x && y) ≡ (y && x)
and_swapped true true = refl
and_swapped true false = refl
and_swapped false true = refl
and_swapped false false = refl

-- the blocks that sectors touch are those between two
pub between_touches : (size first count : ℕ) → 0 < size → 0 < count → (block : ℕ) → (nat_le (512 * first / size) block && nat_le block ((512 * (first + count) - 1) / size)) ≡ touches size first count block
between_touches size first count some more block =
    and_swapped (nat_le (512 * first / size) block) (nat_le block ((512 * (first + count) - 1) / size))
    ∙ ap (λ x. x && nat_le (512 * first / size) block) (below_end size (512 * (first + count)) block some (omega arith))
    ∙ ap (λ x. nat_lt (block * size) (512 * (first + count)) && x) (above_byte size (512 * first) block some)

from_start : (a b : ℕ) → is_le (nat_cmp a b) ≡ nat_le a b
from_start a b =
    elim (cases_lt a b) [
      | inl lt ↦ ap is_le (sym (nat_cmp_is a b Less lt)) ∙ sym (le-leb _ _ (omega arith))
      | inr le ↦ elim (cases_lt b a) [
        | inl gt ↦ ap is_le (sym (nat_cmp_is a b Greater gt)) ∙ sym (lt-leb _ _ gt)
        | inr ge ↦ ap is_le (sym (nat_cmp_is a b Equal (omega arith))) ∙ sym (le-leb _ _ ge)
      ]
    ]

up_to_end : (a b : ℕ) → not (is_lt (nat_cmp b a)) ≡ nat_le a b
up_to_end a b =
    elim (cases_lt b a) [
      | inl lt ↦ ap (λ o. not (is_lt o)) (sym (nat_cmp_is b a Less lt)) ∙ sym (lt-leb _ _ lt)
      | inr le ↦ elim (cases_lt a b) [
        | inl gt ↦ ap (λ o. not (is_lt o)) (sym (nat_cmp_is b a Greater gt)) ∙ sym (le-leb _ _ (omega arith))
        | inr ge ↦ ap (λ o. not (is_lt o)) (sym (nat_cmp_is b a Equal (omega arith))) ∙ sym (le-leb _ _ le)
      ]
    ]

-- a range of a set, as a test of numbers
pub in_range : (low high block : ℕ) → range_contains nat_cmp (Bound.Included low) (Bound.Included high) block ≡ (nat_le low block && nat_le block high)
in_range low high block = ap (λ x. x && not (is_lt (nat_cmp high block))) (from_start low block) ∙ ap (λ x. nat_le low block && x) (up_to_end block high)

-- a range by its ends
pub range_ends : (low high a b : ℕ) → a ≡ low → b ≡ high → (xs : List ℕ) → filter (range_contains nat_cmp (Bound.Included a) (Bound.Included b)) xs ≡ filter (range_contains nat_cmp (Bound.Included low) (Bound.Included high)) xs
range_ends low high a b from to xs =
    ap (λ x. filter (range_contains nat_cmp (Bound.Included x) (Bound.Included b)) xs) from
    ∙ ap (λ x. filter (range_contains nat_cmp (Bound.Included low) (Bound.Included x)) xs) to

-- tests that agree find the same
pub list_any-same : (p q : ℕ → Bool) → ((x : ℕ) → p x ≡ q x) → (xs : List ℕ) → list_any p xs ≡ list_any q xs
list_any-same p q same [] = refl
list_any-same p q same (x ∷ xs) = rw (same x, list_any-same p q same xs) refl

-- tests that agree keep the same
pub filter-same : (p q : ℕ → Bool) → ((x : ℕ) → p x ≡ q x) → (xs : List ℕ) → filter p xs ≡ filter q xs
filter-same p q same [] = refl
filter-same p q same (x ∷ xs) = rw (same x, filter-same p q same xs) refl

-- where a test finds nothing, the rest is everything
pub filter-none : (p : ℕ → Bool) (xs : List ℕ) → list_any p xs ≡ false → filter (λ x. not (p x)) xs ≡ xs
filter-none p [] none = refl
filter-none p (x ∷ xs) none = let parts = or_parts (p x) (list_any p xs) none in rw (parts.0, filter-none p xs parts.1) refl

-- a test finds something where its filter keeps something
filter-some : (p : ℕ → Bool) (xs : List ℕ) (y : ℕ) (ys : List ℕ) → filter p xs ≡ y ∷ ys → list_any p xs ≡ true
filter-some p [] y ys e = cc
filter-some p (x ∷ xs) y ys e =
    elim (cases_Bool (p x)) [
      | inl found ↦ rw found refl
      | inr missed ↦ rw missed (filter-some p xs y ys (rw missed at e))
    ]

-- and nothing where it keeps nothing
filter-empty : (p : ℕ → Bool) (xs : List ℕ) → filter p xs ≡ [] → list_any p xs ≡ false
filter-empty p [] e = refl
filter-empty p (x ∷ xs) e =
    elim (cases_Bool (p x)) [
      | inl found ↦ let some : x ∷ filter p xs ≡ [] = rw found at e in cc
      | inr missed ↦ rw missed (filter-empty p xs (rw missed at e))
    ]

-- the first of those that a test finds is there where another test, which agrees, finds some
pub first_found : (p q : ℕ → Bool) → ((x : ℕ) → p x ≡ q x) → (xs ys rest : List ℕ) (r : Option (Bor ℕ)) → MatchOption r ((ys ≡ []) × (rest ≡ [])) (λ x. ys ≡ x.now ∷ rest) → ys ≡ filter p xs → is_some r ≡ list_any q xs
first_found p q same xs ys rest None none e = sym (sym (list_any-same p q same xs) ∙ filter-empty p xs (sym e ∙ none.0))
first_found p q same xs ys rest (Some x) some e = sym (sym (list_any-same p q same xs) ∙ filter-some p xs x.now rest (sym e ∙ some))
