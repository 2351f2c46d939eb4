-- Lists with one element changed, and lists of numbers with some taken away.
use Rattle.std.proofs.Common.{◌≡◌, ◌≢◌, ◌⊎◌, inl, inr, ℕ, zero, suc, ◌<◌, ◌≤◌, Bool, List, [], ◌∷◌, length, get_or, set, refl, sym, ◌∙◌, ap, subst, arith}
use Rattle.std.specs.Prelude.{◌&&◌, AllPairs}
use Rattle.std.specs.List.{All, remove, list_all}
use Rattle.std.proofs.lemmas.Bool.{cases_eq}
use Rattle.std.proofs.lemmas.List.{get_or-set_same, get_or-set_other, length-set, get_or_default}
use Rattle.std.proofs.lemmas.List.Edits.{length-remove}
use Rattle.std.proofs.lemmas.List.Elements.{All-nil}
use Rattle.std.proofs.lemmas.List.Quantifiers.{all_pairs_remove}
use Rattle.volume_laws.proofs.Lists.{All-remove}

-- one element changes, and keeps how it stands to each other one
pub all_pairs_set : {X : Type 0} (R : X → X → Type 0) (xs : List X) (k : ℕ) (s s' : X) → k < length xs → s ≡ get_or xs k s → ((t : X) → R s t → R s' t) → ((t : X) → R t s → R t s') → AllPairs R xs → AllPairs R (set xs k s')
all_pairs_set R xs k s s' within is left right all i j d lt inside =
    let j_in : j < length xs = omega (arith, inside, length-set xs k s') in
    let i_in : i < length xs = omega (arith, j_in, lt) in
    let was : R (get_or xs i d) (get_or xs j d) = all i j d lt j_in in
    elim (cases_eq i k) [
      | inl same ↦
          (let other : j ≢ k = omega (arith, lt, same) in
          let at : get_or xs i d ≡ s = ap (λ n. get_or xs n d) same ∙ get_or_default xs k d s within ∙ sym is in
          subst (λ x. R x (get_or (set xs k s') j d)) (sym (ap (λ n. get_or (set xs k s') n d) same ∙ get_or-set_same xs k s' d within))
          (subst (R s') (sym (get_or-set_other xs k j s' d other)) (left (get_or xs j d) (subst (λ x. R x (get_or xs j d)) at was))))
      | inr i_other ↦ elim (cases_eq j k) [
        | inl same ↦
            (let at : get_or xs j d ≡ s = ap (λ n. get_or xs n d) same ∙ get_or_default xs k d s within ∙ sym is in
            subst (λ x. R x (get_or (set xs k s') j d)) (sym (get_or-set_other xs k i s' d i_other))
            (subst (R (get_or xs i d)) (sym (ap (λ n. get_or (set xs k s') n d) same ∙ get_or-set_same xs k s' d within)) (right (get_or xs i d) (subst (R (get_or xs i d)) at was))))
        | inr j_other ↦ subst (λ x. R x (get_or (set xs k s') j d)) (sym (get_or-set_other xs k i s' d i_other)) (subst (R (get_or xs i d)) (sym (get_or-set_other xs k j s' d j_other)) was)
      ]
    ]

-- a test of all is as before
pub list_all_set : {X : Type 0} (test : X → Bool) (xs : List X) (k : ℕ) (s s' : X) → k < length xs → s ≡ get_or xs k s → test s' ≡ test s → list_all test (set xs k s') ≡ list_all test xs
list_all_set test [] k s s' within is same = refl
list_all_set test (x ∷ xs) zero s s' within is same = ap (λ b. b && list_all test xs) (same ∙ ap test is)
list_all_set test (x ∷ xs) (suc k) s s' within is same = ap (λ b. test x && b) (list_all_set test xs k s s' (omega (arith, within)) is same)

-- the same numbers, all but one of them, or none
abbrev pub IsFewer : List ℕ → List ℕ → Type 0
IsFewer xs ys = (ys ≡ xs) ⊎ ((k : ℕ) × (k < length xs) × (ys ≡ remove xs k)) ⊎ (ys ≡ [])

pub fewer_all : (P : ℕ → Type 0) (xs ys : List ℕ) → IsFewer xs ys → All P xs → All P ys
fewer_all P xs ys (inl same) all = subst (All P) (sym same) all
fewer_all P xs ys (inr (inl (k, within, is))) all = subst (All P) (sym is) (All-remove P xs k all)
fewer_all P xs ys (inr (inr none)) all = subst (All P) (sym none) (All-nil P)

pub fewer_pairs : (R : ℕ → ℕ → Type 0) (xs ys : List ℕ) → IsFewer xs ys → AllPairs R xs → AllPairs R ys
fewer_pairs R xs ys (inl same) all = subst (AllPairs R) (sym same) all
fewer_pairs R xs ys (inr (inl (k, within, is))) all = subst (AllPairs R) (sym is) (all_pairs_remove R xs k within all)
fewer_pairs R xs ys (inr (inr none)) all = subst (AllPairs R) (sym none) (λ i j d lt inside. absurd (omega (arith, inside)))

pub fewer_length : (xs ys : List ℕ) → IsFewer xs ys → length ys ≤ length xs
fewer_length xs ys (inl same) = omega (arith, ap length same)
fewer_length xs ys (inr (inl (k, within, is))) = omega (arith, ap length is, length-remove xs k within)
fewer_length xs ys (inr (inr none)) = omega (arith, ap length none)
