-- Lists of which items at the same places belong together, and lists of which one item is replaced.
use Rattle.std.proofs.Common.{◌≡◌, ◌==◌, ◌<◌, ◌+◌, ℕ, Bool, true, false, List, [], ◌∷◌, ◌++◌, length, map, set, get_or, refl, sym, ap, ◌∙◌, subst, arith, below_more}
use Rattle.std.proofs.Math.ListN.{get_or-append}
use Rattle.std.proofs.Math.Seq.{get_or-append_seam}
use Rattle.std.proofs.lemmas.Bool.{eqb-true, eqb-false}
use Rattle.std.proofs.lemmas.List.{get_or-map, get_or-set_same, get_or-set_other}

-- the first items of two lists belong together
abbrev pub AreMatched : {A C : Type 0} → (A → C → Type 0) → ℕ → List A → List C → Type 0
AreMatched {A} {C} R n xs ys = (k : ℕ) (x : A) (y : C) → k < n → R (get_or xs k x) (get_or ys k y)

pub last_is : {A : Type 0} (n : ℕ) (xs : List A) (x d : A) → length xs ≡ n → get_or (xs ++ x ∷ []) n d ≡ x
last_is n xs x d long = ap (λ m. get_or (xs ++ x ∷ []) m d) (sym long) ∙ get_or-append_seam xs x [] d

pub matched_more : {A C : Type 0} (R : A → C → Type 0) (n : ℕ) (xs : List A) (ys : List C) (x : A) (y : C) → length xs ≡ n → length ys ≡ n
    → AreMatched R n xs ys → R x y → AreMatched R (n + 1) (xs ++ x ∷ []) (ys ++ y ∷ [])
matched_more {A} {C} R n xs ys x y long wide all here k d e =
    below_more (λ j. R (get_or (xs ++ x ∷ []) j d) (get_or (ys ++ y ∷ []) j e)) n
    (λ j low. subst (λ (p : A × C). R p.0 p.1) (λ i. (sym (get_or-append xs (x ∷ []) d j (omega (arith, long, low))) i, sym (get_or-append ys (y ∷ []) e j (omega (arith, wide, low))) i)) (all j d e low))
    (subst (λ (p : A × C). R p.0 p.1) (λ i. (sym (last_is n xs x d long) i, sym (last_is n ys y e wide) i)) here)
    k

pub matched_map : {A B C : Type 0} (f : A → B) (R : B → C → Type 0) (n : ℕ) (xs : List A) (ys : List C) → length xs ≡ n → AreMatched (λ a c. R (f a) c) n xs ys → AreMatched R n (map f xs) ys
matched_map f R n [] ys long all k x y low = absurd (omega (arith, long, low))
matched_map f R n (a ∷ xs) ys long all k x y low = subst (λ b. R b (get_or ys k y)) (sym (get_or-map f (a ∷ xs) k a x (omega (arith, long, low)))) (all k a y low)

-- each item is as it should be, where one was replaced
pub each_set : {A : Type 0} (P : ℕ → A → Type 0) (xs : List A) (n : ℕ) (q d : A) → n < length xs → ((k : ℕ) → (k ≡ n → ⊥) → P k (get_or xs k d)) → P n q → (k : ℕ) → P k (get_or (set xs n q) k d)
each_set P xs n q d within others here k = go (k == n) refl
  where
    go : (b : Bool) → k == n ≡ b → P k (get_or (set xs n q) k d)
    go true e = subst (λ j. P j (get_or (set xs n q) j d)) (sym (eqb-true k n e)) (subst (P n) (sym (get_or-set_same xs n q d within)) here)
    go false e = subst (P k) (sym (get_or-set_other xs n k q d (eqb-false k n e))) (others k (eqb-false k n e))
