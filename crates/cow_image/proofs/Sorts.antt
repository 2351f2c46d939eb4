-- Pairs that are in the order of a number of theirs.
use Rattle.std.proofs.Common.{◌≡◌, ◌≢◌, inl, inr, ℕ, zero, suc, ◌+◌, ◌-◌, ◌<◌, ◌≤◌, List, length, get_or, map, arith, ap, ◌∙◌, sym, false}
use Rattle.std.specs.Prelude.{AllPairs}
use Rattle.std.specs.List.{IsDistinct}
use Rattle.std.specs.List.Sorted.{IsPermutation}
use Rattle.std.specs.Bool.{nat_eq}
use Rattle.std.proofs.lemmas.Bool.{cases_lt, eqb-false, ne_eqb}
use Rattle.std.proofs.lemmas.List.{get_or-map, length-map, get_or_default}
use Rattle.std.proofs.lemmas.List.Sorted.{IsPermutation-map, IsPermutation-sym}
use Rattle.std.proofs.lemmas.Map.Keys.{apart_from_distinct, IsDistinct-from_apart, IsDistinct-IsPermutation}
use Rattle.std.proofs.lemmas.Cmp.{nat_eq_equiv}
use Rattle.sector.specs.declared.pair.Pair.{Pair}
use Rattle.cow_format.specs.Pairs.{IsApart}
use Rattle.cow_image.specs.Sorted.{IsRisingBy, StandsTwice, old_of, new_of}
use Rattle.cow_image.proofs.Lists.{no_chunks}

-- no number of the pairs stands in two of them
abbrev pub Differ : (Pair → ℕ) → List Pair → Type 0
Differ f pairs = (j k : ℕ) (d : Pair) → j < k → k < length pairs → f (get_or pairs j d) ≢ f (get_or pairs k d)

numbers_differ : (f : Pair → ℕ) (pairs : List Pair) → IsDistinct nat_eq (map f pairs) → Differ f pairs
numbers_differ f pairs distinct j k d lt lt' same =
    let len = length-map pairs f in
    let apart : nat_eq (get_or (map f pairs) j (f d)) (get_or (map f pairs) k (f d)) ≡ false = apart_from_distinct nat_eq (map f pairs) j k (f d) distinct lt (omega arith) in
    eqb-false _ _ apart (get_or-map f pairs j d (f d) (omega arith) ∙ same ∙ sym (get_or-map f pairs k d (f d) lt'))

numbers_distinct : (f : Pair → ℕ) (pairs : List Pair) → Differ f pairs → IsDistinct nat_eq (map f pairs)
numbers_distinct f pairs differ = IsDistinct-from_apart nat_eq (map f pairs) (λ j k d lt lt'.
    let len = length-map pairs f in
    ne_eqb _ _ (λ same. differ j k no_chunks lt (omega arith) (sym (get_or-map f pairs j no_chunks d (omega arith)) ∙ same ∙ get_or-map f pairs k no_chunks d (omega arith))))

-- pairs in another order differ as they did
pub differ_moved : (f : Pair → ℕ) (xs ys : List Pair) → IsPermutation xs ys → Differ f xs → Differ f ys
differ_moved f xs ys moved differ = numbers_differ f ys (IsDistinct-IsPermutation nat_eq nat_eq_equiv.symm (map f xs) (map f ys) (IsPermutation-map f xs ys moved) (numbers_distinct f xs differ))

-- numbers that rise stay apart
pub rising_far : (f : Pair → ℕ) (xs : List Pair) → IsRisingBy f xs → (j k : ℕ) (d : Pair) → j < k → k < length xs → f (get_or xs j d) < f (get_or xs k d)
rising_far f xs up j (suc k) d lt lt' =
    let step : f (get_or xs k d) < f (get_or xs (k + 1) d) = up k d (omega arith) in
    let last : get_or xs (suc k) d ≡ get_or xs (k + 1) d = ap (λ n. get_or xs n d) (omega arith) in
    elim (cases_lt j k) [
      | inl lo ↦ (let far = rising_far f xs up j k d lo (omega arith) in let e = ap f last in omega arith)
      | inr hi ↦ (let same : get_or xs j d ≡ get_or xs k d = ap (λ n. get_or xs n d) (omega arith) in let e = ap f last in let e' = ap f same in omega arith)
    ]
rising_far f xs up j zero d lt lt' = absurd (omega arith)

pub rising_differ : (f : Pair → ℕ) (xs : List Pair) → IsRisingBy f xs → Differ f xs
rising_differ f xs up j k d lt lt' same = let far = rising_far f xs up j k d lt lt' in omega arith

-- a number that stands twice in one order: pairs do not differ in any
pub twice_not_apart : (f : Pair → ℕ) (xs ys : List Pair) (n : ℕ) → IsPermutation xs ys → StandsTwice f ys n → Differ f xs → ⊥
twice_not_apart f xs ys n moved (k, lt, here, next) differ =
    differ_moved f xs ys moved differ k (k + 1) no_chunks (omega arith) lt (here no_chunks ∙ sym (next no_chunks))

-- pairs are apart where their old chunks differ, and their new ones
pub apart_if : (xs ys zs : List Pair) → IsPermutation xs ys → IsPermutation xs zs → IsRisingBy new_of ys → IsRisingBy old_of zs → AllPairs IsApart xs
apart_if xs ys zs to then news olds j k d lt lt' = record {
  old = differ_moved old_of zs xs (IsPermutation-sym xs zs then) (rising_differ old_of zs olds) j k d lt lt';
  new = differ_moved new_of ys xs (IsPermutation-sym xs ys to) (rising_differ new_of ys news) j k d lt lt';
}

pub old_differ : (xs : List Pair) → AllPairs IsApart xs → Differ old_of xs
old_differ xs apart j k d lt lt' = (apart j k d lt lt').old

pub new_differ : (xs : List Pair) → AllPairs IsApart xs → Differ new_of xs
new_differ xs apart j k d lt lt' = (apart j k d lt lt').new

-- the next pair has the same number
pub twice_at : (f : Pair → ℕ) (ps : List Pair) (i : ℕ) (e : Pair) → 1 ≤ i → i < length ps → f (get_or ps i e) ≡ f (get_or ps (i - 1) e) → StandsTwice f ps (f (get_or ps i e))
twice_at f ps i e pos lt same =
    let back : i - 1 + 1 ≡ i = omega arith in (
      i - 1,
      omega arith,
      λ d. ap f (get_or_default ps (i - 1) d e (omega arith)) ∙ sym same,
      λ d. ap f (ap (λ n. get_or ps n d) back ∙ get_or_default ps i d e lt),
    )
