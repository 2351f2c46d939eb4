-- The first of a kind, and the least of all, in a list of snapshots that are seen one by one.
use Rattle.std.proofs.Common.{◌≡◌, ℕ, ◌+◌, ◌<◌, ◌≤◌, Bool, true, false, List, [], Option, Some, None, length, get_or, map, drop, refl, sym, ◌∙◌, ap, arith}
use Rattle.std.proofs.lemmas.List.{drop_more, drop_all}
use Rattle.in_flight.specs.Due.{first_by, least}
use Rattle.volume_laws.specs.Due.{DueSnap, least_of}

pub drop_end : {X : Type 0} (xs : List X) (i : ℕ) → length xs ≤ i → drop i xs ≡ []
drop_end xs i le = drop_all i xs le

module _ {X : Type 0} (f : X → DueSnap) (xs : List X) (i : ℕ) where
  module _ (test : DueSnap → Bool) (number : DueSnap → ℕ) where
    pub first_passes : (d : X) → i < length xs → test (f (get_or xs i d)) ≡ true → first_by test number (map f (drop i xs)) ≡ Some (number (f (get_or xs i d)))
    first_passes d lt is = ap (λ ys. first_by test number (map f ys)) (drop_more xs i d lt) ∙ rw is refl

    pub first_fails : (d : X) → i < length xs → test (f (get_or xs i d)) ≡ false → first_by test number (map f (drop (i + 1) xs)) ≡ first_by test number (map f (drop i xs))
    first_fails d lt is = sym (ap (λ ys. first_by test number (map f ys)) (drop_more xs i d lt) ∙ rw is refl)

    pub first_ends : length xs ≤ i → first_by test number (map f (drop i xs)) ≡ None
    first_ends le = ap (λ ys. first_by test number (map f ys)) (drop_end xs i le)

least_assoc : (a b c : Option ℕ) → least (least a b) c ≡ least a (least b c)
least_assoc None b c = refl
least_assoc (Some m) None c = refl
least_assoc (Some m) (Some n) None = refl
least_assoc (Some m) (Some n) (Some k) = ap Some (omega arith)

pub least_right : (a : Option ℕ) → least a None ≡ a
least_right None = refl
least_right (Some m) = refl

module _ {X : Type 0} (f : X → DueSnap) (xs : List X) (i : ℕ) (h : DueSnap → Option ℕ) (found : Option ℕ) where
  pub least_more : (d : X) → i < length xs → least (least found (h (f (get_or xs i d)))) (least_of h (map f (drop (i + 1) xs))) ≡ least found (least_of h (map f (drop i xs)))
  least_more d lt = least_assoc found (h (f (get_or xs i d))) (least_of h (map f (drop (i + 1) xs))) ∙ ap (λ ys. least found (least_of h (map f ys))) (sym (drop_more xs i d lt))

  pub least_ends : length xs ≤ i → least found (least_of h (map f (drop i xs))) ≡ found
  least_ends le = ap (λ ys. least found (least_of h (map f ys))) (drop_end xs i le) ∙ least_right found
