-- One element is taken out of a list.
use Rattle.std.proofs.Common.{◌≡◌, ℕ, zero, suc, ◌<◌, ◌≤◌, Bool, true, false, List, [], ◌∷◌, length, get_or, refl, ◌∙◌, ap, arith}
use Rattle.std.specs.Prelude.{sum_by, ◌&&◌}
use Rattle.std.specs.List.{list_all, remove}
use Rattle.volume.proofs.Sums.{sum_cons}

pub sum_left : {X : Type 0} (f : X → ℕ) (xs : List X) (k : ℕ) → sum_by f (remove xs k) ≤ sum_by f xs
sum_left f [] zero = let none : remove {X = _} [] 0 ≡ [] = refl in omega (arith, ap (sum_by f) none)
sum_left f [] (suc k) = let none : remove {X = _} [] (suc k) ≡ [] = refl in omega (arith, ap (sum_by f) none)
sum_left f (x ∷ xs) zero = let out : remove (x ∷ xs) 0 ≡ xs = refl in omega (arith, ap (sum_by f) out, sum_cons f x xs)
sum_left f (x ∷ xs) (suc k) =
    let rest : remove (x ∷ xs) (suc k) ≡ x ∷ remove xs k = refl in
    omega (arith, sum_left f xs k, ap (sum_by f) rest, sum_cons f x (remove xs k), sum_cons f x xs)

grouped : (a b c : Bool) → (a && (b && c)) ≡ ((a && b) && c)
grouped true b c = refl
grouped false b c = refl

-- a test of all is one of the others and of the one that leaves
pub all_removed : {X : Type 0} (p : X → Bool) (xs : List X) (k : ℕ) (d : X) → k < length xs → list_all p xs ≡ (list_all p (remove xs k) && p (get_or xs k d))
all_removed p [] k d lt = absurd (omega (arith, lt))
all_removed p (x ∷ xs) zero d lt = swapped (p x) (list_all p xs)
  where
    swapped : (a b : Bool) → (a && b) ≡ (b && a)
    swapped true true = refl
    swapped true false = refl
    swapped false true = refl
    swapped false false = refl
all_removed p (x ∷ xs) (suc k) d lt = ap (λ b. p x && b) (all_removed p xs k d (omega (arith, lt))) ∙ grouped (p x) (list_all p (remove xs k)) (p (get_or xs k d))
