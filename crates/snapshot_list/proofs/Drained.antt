-- A list that is drained whole is taken from one after another.
use Rattle.std.proofs.Common.{◌≡◌, ℕ, ◌-◌, ◌≤◌, List, length, slice_range, take_all, ap, subst, ◌∙◌, arith}
use Rattle.std.proofs.lemmas.Iterator.{YieldsList}
use Rattle.std.proofs.lemmas.Iterator.Consumers.{YieldsList-from_shown}
use Rattle.std.specs.Vec.Iter.{drain_items, drain_steps}
use Rattle.std.specs.declared.vec.Drain.{Drain}

pub drained : {A Z : Type 0} {s t : Drain A Z} (xs : List A) (n : ℕ) → s ≡ t → drain_items t ≡ slice_range xs 0 n → length xs ≤ n → YieldsList (drain_steps {X = A} {Z = Z}) (λ x. x) s xs
drained {A} {Z} {s} {t} xs n same is whole =
    let all : drain_items s ≡ xs = ap drain_items same ∙ is ∙ take_all (n - 0) xs (omega (arith, whole)) in
    subst (YieldsList (drain_steps {X = A} {Z = Z}) (λ x. x) s) all (YieldsList-from_shown (drain_steps {X = A} {Z = Z}) (λ x. x) drain_items (λ s t p. ap length p.0) (λ s x t p. p.0) s)
