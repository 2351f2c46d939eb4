-- Parts of lists, and lists without an element.
use Rattle.std.proofs.Common.{◌≡◌, ℕ, ◌+◌, ◌-◌, ◌<◌, ◌≤◌, Bool, false, List, [], ◌∷◌, ◌++◌, length, get_or, map, take, drop, sym, ◌∙◌, ap, subst, arith, inl, inr, suc, length-append}
use Rattle.std.specs.List.{All, Any, remove, list_any}
use Rattle.std.specs.Prelude.{AllPairs}
use Rattle.std.proofs.lemmas.Bool.{cases_order, or_parts}
use Rattle.std.proofs.lemmas.List.{take-map, drop-map, map-append, get_or_default, get_or_append_left, get_or-append-add}
use Rattle.std.proofs.lemmas.List.Edits.{get_or-remove_below, get_or-remove_above, length-remove}
use Rattle.std.proofs.lemmas.List.Elements.{All-append, All-take, All-drop, All-cons, All-nil}

pub All-remove : {X : Type 0} (P : X → Type 0) (xs : List X) (k : ℕ) → All P xs → All P (remove xs k)
All-remove P xs k all = All-append P (take k xs) (drop (suc k) xs) (All-take P k xs all) (All-drop P (suc k) xs all)

pub map-remove : {X Y : Type 0} (f : X → Y) (xs : List X) (k : ℕ) → map f (remove xs k) ≡ remove (map f xs) k
map-remove f xs k = map-append f (take k xs) (drop (suc k) xs) ∙ ap (λ x. x ++ map f (drop (suc k) xs)) (sym (take-map f k xs)) ∙ ap (λ x. take k (map f xs) ++ x) (sym (drop-map f (suc k) xs))

-- some element passes, and the removed one does not
pub Any-remove : {X : Type 0} (P : X → Type 0) (xs : List X) (k : ℕ) (x : X) → k < length xs → x ≡ get_or xs k x → (P x → ⊥) → Any P xs → Any P (remove xs k)
Any-remove P xs k x within is not (j, y, lt, y_is, holds) =
    elim (cases_order j k) [
      | inl same ↦ absurd (not (subst P (sym y_is ∙ ap (λ i. get_or xs i y) same ∙ get_or_default xs k y x within ∙ sym is) holds))
      | inr apart ↦ elim apart [
        | inl below ↦ (j, y, omega (arith, length-remove xs k within), get_or-remove_below xs k y j below within ∙ y_is, holds)
        | inr above ↦
            let step : j - 1 + 1 ≡ j = omega arith in
            let low : k ≤ j - 1 = omega arith in
            (j - 1, y, omega (arith, length-remove xs k within), get_or-remove_above xs k y (j - 1) low within ∙ ap (λ i. get_or xs i y) step ∙ y_is, holds)
      ]
    ]

-- no element passes
pub All-from_list_any : {X : Type 0} (p : X → Bool) (xs : List X) → list_any p xs ≡ false → All (λ x. p x ≡ false) xs
All-from_list_any p [] none = All-nil (λ x. p x ≡ false)
All-from_list_any p (x ∷ xs) none =
    let parts = or_parts (p x) (list_any p xs) none in
    All-cons (λ x. p x ≡ false) x xs parts.0 (All-from_list_any p xs parts.1)

pub AllPairs-head : {X : Type 0} (R : X → X → Type 0) (x : X) (xs : List X) → AllPairs R (x ∷ xs) → All (R x) xs
AllPairs-head R x xs h k d lt = h 0 (suc k) d (omega arith) (omega arith)

pub AllPairs-tail : {X : Type 0} (R : X → X → Type 0) (x : X) (xs : List X) → AllPairs R (x ∷ xs) → AllPairs R xs
AllPairs-tail R x xs h i j d lt within = h (suc i) (suc j) d (omega arith) (omega arith)

pub All-front : {X : Type 0} (P : X → Type 0) (xs ys : List X) → All P (xs ++ ys) → All P xs
All-front P xs ys all k d within = let Q = P in subst Q (get_or_append_left xs ys d k within) (all k d (omega (arith, length-append xs ys)))

pub All-back : {X : Type 0} (P : X → Type 0) (xs ys : List X) → All P (xs ++ ys) → All P ys
All-back P xs ys all k d within = let Q = P in subst Q (get_or-append-add xs ys k d) (all (length xs + k) d (omega (arith, length-append xs ys)))

pub AllPairs-front : {X : Type 0} (R : X → X → Type 0) (xs ys : List X) → AllPairs R (xs ++ ys) → AllPairs R xs
AllPairs-front R xs ys all i j d lt within =
    let j_in : i < length xs = omega (arith, lt, within) in
    let both : R (get_or (xs ++ ys) i d) (get_or (xs ++ ys) j d) = all i j d lt (omega (arith, length-append xs ys, within)) in
    subst (λ x. R x (get_or xs j d)) (get_or_append_left xs ys d i j_in) (subst (R (get_or (xs ++ ys) i d)) (get_or_append_left xs ys d j within) both)

pub AllPairs-back : {X : Type 0} (R : X → X → Type 0) (xs ys : List X) → AllPairs R (xs ++ ys) → AllPairs R ys
AllPairs-back R [] ys all = all
AllPairs-back R (x ∷ xs) ys all = AllPairs-back R xs ys (AllPairs-tail R x (xs ++ ys) all)
