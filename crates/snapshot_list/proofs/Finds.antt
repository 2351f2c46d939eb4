-- What a search finds, and what is so where it finds nothing.
use Rattle.std.proofs.Common.{◌≡◌, ℕ, zero, suc, ◌+◌, ◌<◌, Bool, true, false, List, [], ◌∷◌, Some, None, length, get_or, map, drop, nat_lt, refl, sym, ◌∙◌, ap, inl, inr, arith, cond, ◌≤◌, ◌-◌, take}
use Rattle.std.specs.Prelude.{◌==◌, ◌&&◌, ◌||◌}
use Rattle.std.specs.List.{list_all, list_any, position, position_or_len}
use Rattle.std.proofs.lemmas.Bool.{and_right, cases_Bool, cases_lt, eqb-true, false≢true}
use Rattle.std.proofs.lemmas.List.{drop_more, get_or-drop, get_or_read_under, length-drop, take_all}
use Rattle.std.proofs.lemmas.List.Folds.{list_any-from_Any}

lt-true : (m n : ℕ) → m < n → nat_lt m n ≡ true
lt-true m n lt = search (arith)

any_at : {X : Type 0} (test : X → Bool) (xs : List X) → list_any test xs ≡ true → position_or_len test xs < length xs
any_at test [] any = absurd (false≢true any)
any_at test (x ∷ xs) any = elim (cases_Bool (test x)) [
  | inl here ↦ rw here (omega arith)
  | inr other ↦ (let later : list_any test xs ≡ true = rw other at any in let h = any_at test xs later in rw other (omega (arith, h)))
]

some_ne_none : {X : Type 0} (x : X) → Some x ≡ None → ⊥
some_ne_none x e = cc

pub position_none : {X : Type 0} (test : X → Bool) (xs : List X) → position test xs ≡ None → list_any test xs ≡ false
position_none test xs none = elim (cases_Bool (list_any test xs)) [
  | inl any ↦ (let lt = lt-true (position_or_len test xs) (length xs) (any_at test xs any) in
      absurd (some_ne_none (position_or_len test xs) (ap (λ b. cond b (Some (position_or_len test xs)) None) (sym lt) ∙ none)))
  | inr other ↦ other
]

-- one that does not pass is left behind
pub any_fails : {X : Type 0} (test : X → Bool) (xs : List X) (i : ℕ) (d : X) → i < length xs → test (get_or xs i d) ≡ false → list_any test (drop i xs) ≡ list_any test (drop (i + 1) xs)
any_fails test xs i d lt fails = ap (list_any test) (drop_more xs i d lt) ∙ ap (λ b. b || list_any test (drop (i + 1) xs)) fails

ge-false : (m n : ℕ) → n ≤ m → nat_lt m n ≡ false
ge-false m n le = search (arith)

-- what is found is inside, and passes
pub position_within : {X : Type 0} (test : X → Bool) (xs : List X) (j : ℕ) → position test xs ≡ Some j → j < length xs
position_within test xs j found = elim (cases_lt (position_or_len test xs) (length xs)) [
  | inl lt ↦ (let at : Some (position_or_len test xs) ≡ Some j = ap (λ b. cond b (Some (position_or_len test xs)) None) (sym (lt-true (position_or_len test xs) (length xs) lt)) ∙ found in
      let same : position_or_len test xs ≡ j = cc in omega (arith, lt, same))
  | inr ge ↦ (let at : None ≡ Some j = ap (λ b. cond b (Some (position_or_len test xs)) None) (sym (ge-false (position_or_len test xs) (length xs) ge)) ∙ found in absurd (cc))
]

passes_by : {X : Type 0} (test : X → Bool) (xs : List X) → position_or_len test xs < length xs → list_any test xs ≡ true
passes_by test [] lt = absurd (omega (arith, lt))
passes_by test (x ∷ xs) lt = elim (cases_Bool (test x)) [
  | inl here ↦ rw here refl
  | inr other ↦ (let later : suc (1 + position_or_len test xs) ≤ suc (length xs) = rw other at lt in rw other (passes_by test xs (omega (arith, later))))
]

pub position_any : {X : Type 0} (test : X → Bool) (xs : List X) (j : ℕ) → position test xs ≡ Some j → list_any test xs ≡ true
position_any test xs j found = elim (cases_lt (position_or_len test xs) (length xs)) [
  | inl lt ↦ passes_by test xs lt
  | inr ge ↦ (let at : None ≡ Some j = ap (λ b. cond b (Some (position_or_len test xs)) None) (sym (ge-false (position_or_len test xs) (length xs) ge)) ∙ found in absurd (cc))
]

-- one that passes
pub any_passes : {X : Type 0} (test : X → Bool) (xs : List X) (k : ℕ) (x : X) → k < length xs → x ≡ get_or xs k x → test x ≡ true → list_any test xs ≡ true
any_passes test xs k x within is passes = list_any-from_Any test xs (k, x, within, sym is, passes)

-- what is found at a place passes there, whatever is read past the end
pub passes_at : {X : Type 0} (test : X → Bool) (xs : List X) (k : ℕ) (x d : X) → k < length xs → x ≡ get_or xs k x → test x ≡ true → test (get_or xs k d) ≡ true
passes_at test xs k x d within is pass = ap test (sym (get_or_read_under xs k (length xs) x d is within refl)) ∙ pass

-- a test of what elements become
pub any_of : {X Y : Type 0} (test : Y → Bool) (f : X → Y) (xs : List X) → list_any test (map f xs) ≡ list_any (λ x. test (f x)) xs
any_of test f [] = refl
any_of test f (x ∷ xs) = ap (λ b. test (f x) || b) (any_of test f xs)

-- not all pass where one does not
pub one_fails : {X Y : Type 0} (test : Y → Bool) (f : X → Y) (xs : List X) (k : ℕ) (x : X) → k < length xs → x ≡ get_or xs k x → test (f x) ≡ false → list_all test (map f xs) ≡ false
one_fails test f [] k x lt is e = absurd (omega (arith, lt))
one_fails test f (y ∷ ys) zero x lt is e = ap (λ z. test (f z) && list_all test (map f ys)) (sym is) ∙ ap (λ b. b && list_all test (map f ys)) e
one_fails test f (y ∷ ys) (suc k) x lt is e = and_right (test (f y)) (list_all test (map f ys)) (one_fails test f ys k x (omega (arith, lt)) is e)

-- one of two tests fails: the second, or that of a number
pub second_fails : (a b : Bool) → b ≡ false → (a && b) ≡ false
second_fails true b fails = fails
second_fails false b fails = refl

pub number_fails : (m n : ℕ) (b : Bool) → (m ≡ n → ⊥) → ((m == n) && b) ≡ false
number_fails m n b other = elim (cases_Bool (m == n)) [
  | inl same ↦ absurd (other (eqb-true m n same))
  | inr fails ↦ ap (λ a. a && b) fails
]

-- What is sought from a place on: all from there are taken. A place that is found there lies inside of all, and holds the same.
module _ {X : Type 0} (xs : List X) (from : ℕ) where
  tail : take (length xs - from) (drop from xs) ≡ drop from xs
  tail = take_all (length xs - from) (drop from xs) (omega (arith, length-drop from xs))

  pub within_tail : (k : ℕ) → k < length (take (length xs - from) (drop from xs)) → from + k < length xs
  within_tail k lt = omega (arith, lt, ap length tail, length-drop from xs)

  pub at_tail : (k : ℕ) (d : X) → get_or xs (from + k) d ≡ get_or (take (length xs - from) (drop from xs)) k d
  at_tail k d = sym (ap (λ ys. get_or ys k d) tail ∙ get_or-drop from xs k d)
