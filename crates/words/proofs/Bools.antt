-- Tests that hold together.
use Rattle.std.proofs.Common.{◌≡◌, ◌≢◌, ℕ, ◌≤◌, Bool, true, false, List, [], ◌∷◌, eqb, ltb, refl, arith, rules}
use Rattle.std.specs.Prelude.{◌&&◌}
use Rattle.std.specs.List.{list_all}
use borrow.Author.Tests.{tests}

-- other numbers are not the same
pub other : (n m : ℕ) → n ≢ m → eqb n m ≡ false
other n m h = search rules

-- nor is one less that is no less
pub no_more : (n m : ℕ) → m ≤ n → ltb n m ≡ false
no_more n m le = grind (arith, tests, le)

-- both tests hold
pub and-split : (a b : Bool) → (a && b) ≡ true → (a ≡ true) × (b ≡ true)
and-split true b h = (refl, h)
and-split false b h = absurd (let none : ⊥ = cc in none)

-- two tests that hold
pub and-join : (a b : Bool) → a ≡ true → b ≡ true → (a && b) ≡ true
and-join true b p q = q
and-join false b p q = absurd (let none : ⊥ = cc in none)

-- a weaker test of each element
pub list_all-weaker : (A : Type 0) (p q : A → Bool) → ((x : A) → p x ≡ true → q x ≡ true) → (xs : List A) → list_all p xs ≡ true → list_all q xs ≡ true
list_all-weaker A p q weaker [] h = refl
list_all-weaker A p q weaker (x ∷ xs) h =
    let both = and-split (p x) (list_all p xs) h in
    and-join (q x) (list_all q xs) (weaker x both.0) (list_all-weaker A p q weaker xs both.1)
