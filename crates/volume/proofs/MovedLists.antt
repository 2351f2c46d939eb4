-- The first element that passes a test, in a list that is seen as another, and what becomes of the list where it changes.
use Rattle.std.proofs.Common.{◌≡◌, ℕ, zero, suc, ◌<◌, Bool, true, false, List, [], ◌∷◌, Some, length, get_or, set, map, refl, sym, ◌∙◌, ap, subst, arith}
use Rattle.std.specs.Prelude.{◌||◌, if◌then◌else◌}
use Rattle.std.specs.List.{All, list_any, remove, position}
use Rattle.std.proofs.lemmas.List.Quantifiers.{position-Some}
use Rattle.event_machine.specs.Stepping.{first_that, with_first, without_first}

-- the first that passes is this one, at this place
pub record IsFirst {X : Type 0} (test : X → Bool) (k : ℕ) (x : X) (xs : List X) : Type 0 where
  pub within : k < length xs
  pub is : x ≡ get_or xs k x
  pub passes : test x ≡ true
  pub before : (i : ℕ) (d : X) → i < k → test (get_or xs i d) ≡ false

-- the same test
pub first_by_test : {X : Type 0} (t u : X → Bool) (k : ℕ) (x : X) (xs : List X) → ((y : X) → t y ≡ u y) → IsFirst t k x xs → IsFirst u k x xs
first_by_test t u k x xs same f = record {
  within = f.within;
  is = f.is;
  passes = sym (same x) ∙ f.passes;
  before = λ i d lt. sym (same (get_or xs i d)) ∙ f.before i d lt;
}

-- the same test of these elements
pub first_by_all : {X : Type 0} (t u : X → Bool) (k : ℕ) (x : X) (xs : List X) → All (λ y. t y ≡ u y) xs → IsFirst t k x xs → IsFirst u k x xs
first_by_all t u k x xs same f = record {
  within = f.within;
  is = f.is;
  passes = sym (subst (λ y. t y ≡ u y) (sym f.is) (same k x f.within)) ∙ f.passes;
  before = λ i d lt. sym (same i d (omega (arith, lt, f.within))) ∙ f.before i d lt;
}

pub first_position : {X : Type 0} (test : X → Bool) (k : ℕ) (x : X) (xs : List X) → x ≡ get_or xs k x → position test xs ≡ Some k → IsFirst test k x xs
first_position test k x xs is found =
    let p = position-Some test xs k x found in
    record { within = p.0; is = is; passes = ap test is ∙ p.1; before = λ i d lt. (position-Some test xs k d found).2 i lt }

-- of a longer list
module _ {X Y : Type 0} (f : X → Y) (test : Y → Bool) where
  later : (k : ℕ) (x y : X) (ys : List X) → IsFirst (λ z. test (f z)) (suc k) x (y ∷ ys) → IsFirst (λ z. test (f z)) k x ys
  later k x y ys h = record {
    within = omega (arith, h.within);
    is = h.is;
    passes = h.passes;
    before = λ i d lt. h.before (suc i) d (omega (arith, lt));
  }

  pub first_is : (k : ℕ) (x : X) (xs : List X) → IsFirst (λ z. test (f z)) k x xs → first_that test (map f xs) ≡ Some (f x)
  first_is k x [] h = absurd (omega (arith, h.within))
  first_is zero x (y ∷ ys) h = subst (λ z. first_that test (map f (z ∷ ys)) ≡ Some (f x)) h.is (rw h.passes refl)
  first_is (suc k) x (y ∷ ys) h = rw (h.before 0 y (omega arith)) (first_is k x ys (later k x y ys h))

  pub with_is : (k : ℕ) (x x' : X) (xs : List X) → IsFirst (λ z. test (f z)) k x xs → with_first test (f x') (map f xs) ≡ map f (set xs k x')
  with_is k x x' [] h = absurd (omega (arith, h.within))
  with_is zero x x' (y ∷ ys) h = rw (subst (λ z. test (f z) ≡ true) h.is h.passes) refl
  with_is (suc k) x x' (y ∷ ys) h = rw (h.before 0 y (omega arith)) (ap (λ zs. f y ∷ zs) (with_is k x x' ys (later k x y ys h)))

  -- it is taken away
  pub without_seen : (k : ℕ) (x : X) (xs : List X) → IsFirst (λ z. test (f z)) k x xs → without_first test (map f xs) ≡ map f (remove xs k)
  without_seen k x [] h = absurd (omega (arith, h.within))
  without_seen zero x (y ∷ ys) h = rw (subst (λ z. test (f z) ≡ true) h.is h.passes) refl
  without_seen (suc k) x (y ∷ ys) h = rw (h.before 0 y (omega arith)) (ap (λ zs. f y ∷ zs) (without_seen k x ys (later k x y ys h)))

pub without_is : {X : Type 0} (test : X → Bool) (k : ℕ) (x : X) (xs : List X) → IsFirst test k x xs → without_first test xs ≡ remove xs k
without_is test k x [] h = absurd (omega (arith, h.within))
without_is test zero x (y ∷ ys) h = rw (subst (λ z. test z ≡ true) h.is h.passes) refl
without_is test (suc k) x (y ∷ ys) h = rw (h.before 0 y (omega arith)) (ap (λ zs. y ∷ zs) (without_is test k x ys (later (λ z. z) test k x y ys h)))

-- a test of all that a list is seen as
pub any_seen : {X Y : Type 0} (f : X → Y) (t : Y → Bool) (u : X → Bool) (xs : List X) → ((x : X) → t (f x) ≡ u x) → list_any t (map f xs) ≡ list_any u xs
any_seen f t u [] same = refl
any_seen f t u (x ∷ xs) same = ap (λ b. b || list_any t (map f xs)) (same x) ∙ ap (λ b. u x || b) (any_seen f t u xs same)

-- two ways to see a list
pub map_seen : {X Y Z : Type 0} (f : X → Y) (g : Y → Z) (h : X → X) (xs : List X) (to : X → Z) → ((x : X) → g (f x) ≡ to (h x)) → map g (map f xs) ≡ map to (map h xs)
map_seen f g h [] to same = refl
map_seen f g h (x ∷ xs) to same = ap (λ z. z ∷ map g (map f xs)) (same x) ∙ ap (λ zs. to (h x) ∷ zs) (map_seen f g h xs to same)

pub if_true : {X : Type 0} (b : Bool) (x y : X) → b ≡ true → (if b then x else y) ≡ x
if_true b x y e = ap (λ c. if c then x else y) e

pub if_false : {X : Type 0} (b : Bool) (x y : X) → b ≡ false → (if b then x else y) ≡ y
if_false b x y e = ap (λ c. if c then x else y) e
