-- What two words have alike at their fronts and ends, byte by byte.
use Rattle.std.proofs.Common.{◌≡◌, ◌∙◌, ℕ, ◌+◌, ◌-◌, ◌<◌, ◌≤◌, true, false, List, [], ◌∷◌, length, get_or, drop, reverse, min, refl, sym, ap, ap₂, arith, inl, inr}
use Rattle.std.specs.Prelude.{nat_eq}
use Rattle.std.proofs.Math.ListN.{drop_of_length-le}
use Rattle.std.proofs.lemmas.Bool.{cases_lt}
use Rattle.std.proofs.lemmas.List.{get_or-reverse, length-reverse}
use Rattle.std.proofs.lemmas.List.Sums.{common_prefix_len-drop_yes, common_prefix_len-drop_no}
use Rattle.explain_syntax.specs.Near.{alike}

pub more_alike : (one other : List ℕ) (i : ℕ) → i < length one → i < length other → nat_eq (get_or one i 0) (get_or other i 0) ≡ true → alike (drop i one) (drop i other) ≡ 1 + alike (drop (i + 1) one) (drop (i + 1) other)
more_alike one other i p q e = common_prefix_len-drop_yes nat_eq one other i 0 0 p q e

pub no_more : (one other : List ℕ) (i : ℕ) → i < length one → i < length other → nat_eq (get_or one i 0) (get_or other i 0) ≡ false → alike (drop i one) (drop i other) ≡ 0
no_more one other i p q e = common_prefix_len-drop_no nat_eq one other i 0 0 p q e

alike_nil : (one : List ℕ) → alike one [] ≡ 0
alike_nil [] = refl
alike_nil (b ∷ one) = refl

pub none_left : (one other : List ℕ) (i : ℕ) → min (length one) (length other) ≤ i → alike (drop i one) (drop i other) ≡ 0
none_left one other i long = elim (cases_lt i (length one)) [
  | inl less ↦ ap (λ xs. alike (drop i one) xs) (drop_of_length-le other (omega arith)) ∙ alike_nil (drop i one)
  | inr past ↦ ap (λ xs. alike xs (drop i other)) (drop_of_length-le one past)
]

pub more_at_end : (one other : List ℕ) (i : ℕ) → i < length one → i < length other → nat_eq (get_or one (length one - 1 - i) 0) (get_or other (length other - 1 - i) 0) ≡ true → alike (drop i (reverse one)) (drop i (reverse other)) ≡ 1 + alike (drop (i + 1) (reverse one)) (drop (i + 1) (reverse other))
more_at_end one other i p q e =
    more_alike (reverse one) (reverse other) i (omega (arith, length-reverse one)) (omega (arith, length-reverse other))
    (ap₂ nat_eq (get_or-reverse one i 0 p) (get_or-reverse other i 0 q) ∙ e)

pub no_more_at_end : (one other : List ℕ) (i : ℕ) → i < length one → i < length other → nat_eq (get_or one (length one - 1 - i) 0) (get_or other (length other - 1 - i) 0) ≡ false → alike (drop i (reverse one)) (drop i (reverse other)) ≡ 0
no_more_at_end one other i p q e =
    no_more (reverse one) (reverse other) i (omega (arith, length-reverse one)) (omega (arith, length-reverse other))
    (ap₂ nat_eq (get_or-reverse one i 0 p) (get_or-reverse other i 0 q) ∙ e)

pub none_left_at_end : (one other : List ℕ) (i : ℕ) → min (length one) (length other) ≤ i → alike (drop i (reverse one)) (drop i (reverse other)) ≡ 0
none_left_at_end one other i long = none_left (reverse one) (reverse other) i (omega (arith, length-reverse one, length-reverse other))
