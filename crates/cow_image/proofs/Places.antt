-- The place of a chunk, in pairs of any order.
use Rattle.std.proofs.Common.{◌≡◌, ◌≢◌, inl, inr, ℕ, zero, suc, ◌+◌, ◌<◌, ◌≤◌, List, [], ◌∷◌, length, get_or, arith, refl, ap, ◌∙◌, sym, Option, Some, None}
use Rattle.std.specs.List.{All}
use Rattle.std.specs.List.Sorted.{IsPermutation}
use Rattle.std.proofs.lemmas.Bool.{cases_lt, cases_eq, ne_eqb, eq-eqb, cond-true, cond-false}
use Rattle.std.proofs.lemmas.List.{get_or_default}
use Rattle.std.proofs.lemmas.List.Sorted.{All-permutation, IsPermutation-sym}
use Rattle.sector.specs.declared.pair.Pair.{Pair}
use Rattle.cow_format.specs.Picture.{place_of}
use Rattle.cow_format.proofs.Pictures.{place_found}
use Rattle.cow_format.proofs.Views.{place_none}
use Rattle.cow_image.specs.Sorted.{IsRisingBy, old_of}
use Rattle.cow_image.proofs.Lists.{no_chunks}
use Rattle.cow_image.proofs.Sorts.{Differ, rising_far}

-- the first pair that names a chunk has its place
pub place_first : (ps : List Pair) (i c : ℕ) (e : Pair) → i < length ps → ((j : ℕ) (d : Pair) → j < i → (get_or ps j d).old ≢ c) → (get_or ps i e).old ≡ c → place_of ps c ≡ Some (get_or ps i e).new
place_first [] i c e lt before here = absurd (omega arith)
place_first (p ∷ ps) zero c e lt before here = cond-true _ _ _ (eq-eqb _ _ here)
place_first (p ∷ ps) (suc i) c e lt before here =
    cond-false _ _ _ (ne_eqb _ _ (before 0 p (omega arith))) ∙ place_first ps i c e (omega arith) (λ j d h. before (suc j) d (omega arith)) here

-- no pair names a chunk that has no place
none_named : (ps : List Pair) (c : ℕ) → place_of ps c ≡ None → (k : ℕ) (d : Pair) → k < length ps → (get_or ps k d).old ≢ c
none_named [] c none k d lt = absurd (omega arith)
none_named (p ∷ ps) c none zero d lt = λ e. let h : Some p.new ≡ None = sym (cond-true _ _ _ (eq-eqb _ _ e)) ∙ none in absurd (cc)
none_named (p ∷ ps) c none (suc k) d lt = elim (cases_eq p.old c) [
  | inl e ↦ (let h : Some p.new ≡ None = sym (cond-true _ _ _ (eq-eqb _ _ e)) ∙ none in absurd (cc))
  | inr ne ↦ none_named ps c (sym (cond-false _ _ _ (ne_eqb _ _ ne)) ∙ none) k d (omega arith)
]

-- pairs whose old chunks differ give the same places in any order
pub place_moved : (xs ys : List Pair) (c : ℕ) → IsPermutation xs ys → Differ old_of xs → place_of xs c ≡ place_of ys c
place_moved xs ys c moved differ = by_place (place_of ys c) refl
  where
    named : All (λ p. p.old ≡ c → place_of xs c ≡ Some p.new) ys
    named = All-permutation (λ p. p.old ≡ c → place_of xs c ≡ Some p.new) xs ys moved (λ k d lt here. place_first xs k c d lt (λ j e below same. differ j k e below lt (same ∙ sym here ∙ ap (λ p. p.old) (get_or_default xs k d e lt))) here)

    by_place : (r : Option ℕ) → place_of ys c ≡ r → place_of xs c ≡ place_of ys c
    by_place (Some n) is =
        let (k, lt, at) = place_found ys c n is in
        named k no_chunks lt (at no_chunks).0 ∙ ap Some (at no_chunks).1 ∙ sym is
    by_place None is =
        place_none xs c (All-permutation (λ p. p.old ≢ c) ys xs (IsPermutation-sym xs ys moved) (none_named ys c is)) ∙ sym is

-- numbers that rise do not fall
rising_le : (ps : List Pair) → IsRisingBy old_of ps → (j k : ℕ) (d : Pair) → j ≤ k → k < length ps → (get_or ps j d).old ≤ (get_or ps k d).old
rising_le ps up j k d le lt = elim (cases_lt j k) [
  | inl lo ↦ (let far : (get_or ps j d).old < (get_or ps k d).old = rising_far old_of ps up j k d lo lt in omega arith)
  | inr hi ↦ (let same : (get_or ps j d).old ≡ (get_or ps k d).old = ap (λ n. (get_or ps n d).old) (omega arith) in omega arith)
]

-- pairs up to one whose old chunk is less than a number
pub below_middle : (ps : List Pair) (m c : ℕ) (e : Pair) → IsRisingBy old_of ps → m < length ps → (get_or ps m e).old < c → (k : ℕ) (d : Pair) → k < m + 1 → (get_or ps k d).old < c
below_middle ps m c e up lt less k d below =
    let le = rising_le ps up k m d (omega arith) lt in
    let same : (get_or ps m e).old ≡ (get_or ps m d).old = ap (λ p. p.old) (get_or_default ps m e d lt) in
    omega arith

-- pairs from one on whose old chunk is not less than a number
pub above_middle : (ps : List Pair) (m c : ℕ) (e : Pair) → IsRisingBy old_of ps → m < length ps → c ≤ (get_or ps m e).old → (k : ℕ) (d : Pair) → m ≤ k → k < length ps → c ≤ (get_or ps k d).old
above_middle ps m c e up inside more k d le lt =
    let up' = rising_le ps up m k d le lt in
    let same : (get_or ps m e).old ≡ (get_or ps m d).old = ap (λ p. p.old) (get_or_default ps m e d inside) in
    omega arith

-- a chunk that lies past all pairs
pub place_past : (ps : List Pair) (low c : ℕ) → ((k : ℕ) (d : Pair) → k < low → (get_or ps k d).old < c) → length ps ≤ low → place_of ps c ≡ None
place_past ps low c below end = place_none ps c (λ k d lt same. let h = below k d (omega arith) in omega arith)

-- a chunk that lies between two pairs
pub place_between : (ps : List Pair) (low c : ℕ) (e : Pair) → IsRisingBy old_of ps → ((k : ℕ) (d : Pair) → k < low → (get_or ps k d).old < c) → low < length ps → c ≤ (get_or ps low e).old → (get_or ps low e).old ≢ c → place_of ps c ≡ None
place_between ps low c e up below inside more other = place_none ps c (λ k d lt same. elim (cases_lt k low) [
  | inl lo ↦ (let h = below k d lo in omega arith)
  | inr hi ↦ (let h = above_middle ps low (c + 1) e up inside (omega arith) k d hi lt in omega arith)
])

-- the pair that names a chunk
pub place_here : (ps : List Pair) (low c : ℕ) (e : Pair) → ((k : ℕ) (d : Pair) → k < low → (get_or ps k d).old < c) → low < length ps → (get_or ps low e).old ≡ c → place_of ps c ≡ Some (get_or ps low e).new
place_here ps low c e below inside here = place_first ps low c e inside (λ j d lt same. let h = below j d lt in omega arith) here
