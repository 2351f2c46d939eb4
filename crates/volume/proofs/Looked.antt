-- One element more of a list is as those before it.
use Rattle.std.proofs.Common.{◌≡◌, inl, inr, ℕ, ◌+◌, ◌<◌, List, length, get_or, arith, sym, ◌∙◌, subst}
use Rattle.std.proofs.lemmas.Bool.{cases_lt}
use Rattle.std.proofs.lemmas.List.{get_or_default}

pub each_more : {X : Type 0} (P : X → Type 0) (xs : List X) (n : ℕ) (x : X) → n < length xs → x ≡ get_or xs n x → ((i : ℕ) (d : X) → i < n → P (get_or xs i d)) → P x → (i : ℕ) (d : X) → i < n + 1 → P (get_or xs i d)
each_more P xs n x within is before here i d below = elim (cases_lt i n) [
  | inl lower ↦ before i d lower
  | inr last ↦ (let same : i ≡ n = omega (arith, below, last) in
      let at : x ≡ get_or xs n d = is ∙ get_or_default xs n x d within in
      subst (λ (k : ℕ). P (get_or xs k d)) (sym same) (subst P at here))
]
