-- Room for copies is made in snapshots, and nothing else of them changes.
use Rattle.std.proofs.Common.{◌≡◌, ℕ, ◌<◌, List, [], ◌∷◌, length, get_or, map, refl, sym, ◌∙◌, ap, arith}
use Rattle.std.proofs.lemmas.List.{length-map, get_or-map}
use Rattle.snapshot.specs.Kept.{Kept}
use Rattle.snapshot_list.specs.Starting.{unroomed}

unseen : {B X : Type 0} (f : Kept B → X) (xs : List (Kept B)) → ((s : Kept B) → f (unroomed s) ≡ f s) → map f (map unroomed xs) ≡ map f xs
unseen f [] same = refl
unseen f (x ∷ xs) same = ap (λ y. y ∷ map f (map unroomed xs)) (same x) ∙ ap (λ ys. f x ∷ ys) (unseen f xs same)

-- what doesn't look at the room is as it was
pub roomed : {B X : Type 0} (f : Kept B → X) (xs ys : List (Kept B)) → map unroomed xs ≡ map unroomed ys → ((s : Kept B) → f (unroomed s) ≡ f s) → map f xs ≡ map f ys
roomed f xs ys e same = sym (unseen f xs same) ∙ ap (map f) e ∙ unseen f ys same

pub roomed_length : {B : Type 0} (xs ys : List (Kept B)) → map unroomed xs ≡ map unroomed ys → length xs ≡ length ys
roomed_length xs ys e = sym (length-map xs unroomed) ∙ ap length e ∙ length-map ys unroomed

-- one of them
pub roomed_at : {B : Type 0} (xs ys : List (Kept B)) (k : ℕ) (d : Kept B) → map unroomed xs ≡ map unroomed ys → k < length xs → unroomed (get_or ys k d) ≡ unroomed (get_or xs k d)
roomed_at xs ys k d e lt =
    let len = roomed_length xs ys e in
    sym (get_or-map unroomed ys k d (unroomed d) (omega (arith, lt, len))) ∙ ap (λ zs. get_or zs k (unroomed d)) (sym e) ∙ get_or-map unroomed xs k d (unroomed d) lt
