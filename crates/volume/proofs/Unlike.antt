-- Two lists that differ only in what is hidden of their elements.
use Rattle.std.proofs.Common.{◌≡◌, ℕ, ◌+◌, ◌<◌, List, [], ◌∷◌, length, get_or, map, sym, ◌∙◌, ap, arith, refl}
use Rattle.std.specs.Prelude.{sum_by}
use Rattle.std.proofs.lemmas.List.{length-map, get_or-map}
use Rattle.volume.proofs.Sums.{sum_cons}

module _ {X : Type 0} (hide : X → X) where
  unseen : {Y : Type 0} (f : X → Y) (xs : List X) → ((x : X) → f (hide x) ≡ f x) → map f (map hide xs) ≡ map f xs
  unseen f [] same = refl
  unseen f (x ∷ xs) same = ap (λ y. y ∷ map f (map hide xs)) (same x) ∙ ap (λ ys. f x ∷ ys) (unseen f xs same)

  unseen_sum : (f : X → ℕ) (xs : List X) → ((x : X) → f (hide x) ≡ f x) → sum_by f (map hide xs) ≡ sum_by f xs
  unseen_sum f [] same = refl
  unseen_sum f (x ∷ xs) same = sum_cons f (hide x) (map hide xs) ∙ ap (λ n. n + sum_by f (map hide xs)) (same x) ∙ ap (λ n. f x + n) (unseen_sum f xs same) ∙ sym (sum_cons f x xs)

  module _ (xs ys : List X) (e : map hide xs ≡ map hide ys) where
    -- what doesn't look at it is the same
    pub hidden_map : {Y : Type 0} (f : X → Y) → ((x : X) → f (hide x) ≡ f x) → map f xs ≡ map f ys
    hidden_map f same = sym (unseen f xs same) ∙ ap (map f) e ∙ unseen f ys same

    pub hidden_sum : (f : X → ℕ) → ((x : X) → f (hide x) ≡ f x) → sum_by f xs ≡ sum_by f ys
    hidden_sum f same = sym (unseen_sum f xs same) ∙ ap (sum_by f) e ∙ unseen_sum f ys same

    pub hidden_length : length xs ≡ length ys
    hidden_length = sym (length-map xs hide) ∙ ap length e ∙ length-map ys hide

    -- one of them
    pub hidden_at : (k : ℕ) (d : X) → k < length xs → hide (get_or ys k d) ≡ hide (get_or xs k d)
    hidden_at k d lt =
        let len = hidden_length in
        sym (get_or-map hide ys k d (hide d) (omega (arith, lt, len))) ∙ ap (λ zs. get_or zs k (hide d)) (sym e) ∙ get_or-map hide xs k d (hide d) lt
