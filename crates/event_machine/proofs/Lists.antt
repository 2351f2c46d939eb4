-- The first element of a list that passes a test, where those before it do not.
use Rattle.std.proofs.Common.{◌≡◌, ℕ, ◌<◌, Bool, true, false, List, [], ◌∷◌, ◌++◌, Option, Some, None, min, refl, ap, ◌∙◌, eq-eqb, arith}
use Rattle.std.specs.Prelude.{◌==◌, ◌&&◌}
use Rattle.std.proofs.lemmas.Bool.{cond-true, cond-false}
use Rattle.in_flight.specs.Due.{first_by, least}
use Rattle.event_machine.specs.Held.{SnapHeld}
use Rattle.event_machine.specs.Due.{least_in}
use Rattle.event_machine.specs.Stepping.{first_that, with_first}
use Rattle.whole_commands.proofs.Each.{Each}

-- a number is itself
pub same_number : (n : ℕ) (b : Bool) → ((n == n) && b) ≡ b
same_number n b = rw (eq-eqb n n refl) refl

module _ {X : Type 0} (test : X → Bool) where
  abbrev pub Fails : X → Type 0
  Fails x = test x ≡ false

  pub skip_by : (number : X → ℕ) (done xs : List X) → Each Fails done → first_by test number (done ++ xs) ≡ first_by test number xs
  skip_by number [] xs all = refl
  skip_by number (d ∷ done) xs all = cond-false _ _ _ all.0 ∙ skip_by number done xs all.1

  pub none_by : (number : X → ℕ) (xs : List X) → Each Fails xs → first_by test number xs ≡ None
  none_by number [] all = refl
  none_by number (x ∷ xs) all = cond-false _ _ _ all.0 ∙ none_by number xs all.1

  -- the one that passes
  pub here_by : (number : X → ℕ) (done rest : List X) (x : X) → Each Fails done → test x ≡ true → first_by test number (done ++ x ∷ rest) ≡ Some (number x)
  here_by number done rest x all pass = skip_by number done (x ∷ rest) all ∙ cond-true _ _ _ pass

  pub nowhere_by : (number : X → ℕ) (done rest : List X) (x : X) → Each Fails done → test x ≡ false → Each Fails rest → first_by test number (done ++ x ∷ rest) ≡ None
  nowhere_by number done rest x all fails later = skip_by number done (x ∷ rest) all ∙ cond-false _ _ _ fails ∙ none_by number rest later

  pub here_that : (done rest : List X) (x : X) → Each Fails done → test x ≡ true → first_that test (done ++ x ∷ rest) ≡ Some x
  here_that [] rest x all pass = cond-true _ _ _ pass
  here_that (d ∷ done) rest x all pass = cond-false _ _ _ all.0 ∙ here_that done rest x all.1 pass

  pub here_with : (y : X) (done rest : List X) (x : X) → Each Fails done → test x ≡ true → with_first test y (done ++ x ∷ rest) ≡ done ++ y ∷ rest
  here_with y [] rest x all pass = cond-true _ _ _ pass
  here_with y (d ∷ done) rest x all pass = cond-false _ _ _ all.0 ∙ ap (λ xs. d ∷ xs) (here_with y done rest x all.1 pass)

-- a number above m, if there is one
abbrev pub Above : ℕ → Option ℕ → Type 0
Above m None = Unit {0}
Above m (Some n) = m < n

above_least : (n : ℕ) (o : Option ℕ) → Above n o → least o (Some n) ≡ Some n
above_least n None above = refl
above_least n (Some k) above = let same : min k n ≡ n = omega arith in ap Some same

-- the least number
module _ (f : SnapHeld → Option ℕ) where
  abbrev pub HasNone : SnapHeld → Type 0
  HasNone h = f h ≡ None

  pub skip_least : (done xs : List SnapHeld) → Each HasNone done → least_in f (done ++ xs) ≡ least_in f xs
  skip_least [] xs all = refl
  skip_least (d ∷ done) xs all = ap (λ o. least o (least_in f (done ++ xs))) all.0 ∙ skip_least done xs all.1

  pub none_least : (xs : List SnapHeld) → Each HasNone xs → least_in f xs ≡ None
  none_least [] all = refl
  none_least (x ∷ xs) all = ap (λ o. least o (least_in f xs)) all.0 ∙ none_least xs all.1

  pub here_least : (n : ℕ) (done rest : List SnapHeld) (h : SnapHeld) → Each HasNone done → f h ≡ Some n → least (Some n) (least_in f rest) ≡ Some n → least_in f (done ++ h ∷ rest) ≡ Some n
  here_least n done rest h all is low = skip_least done (h ∷ rest) all ∙ ap (λ o. least o (least_in f rest)) is ∙ low

  -- those before it have none, or a greater one
  pub first_least : (n : ℕ) (done rest : List SnapHeld) (h : SnapHeld) → Each (λ d. Above n (f d)) done → f h ≡ Some n → least (Some n) (least_in f rest) ≡ Some n → least_in f (done ++ h ∷ rest) ≡ Some n
  first_least n [] rest h all is low = ap (λ o. least o (least_in f rest)) is ∙ low
  first_least n (d ∷ done) rest h all is low = ap (least (f d)) (first_least n done rest h all.1 is low) ∙ above_least n (f d) all.0

  pub only_least : (n : ℕ) (done rest : List SnapHeld) (h : SnapHeld) → Each HasNone done → f h ≡ Some n → Each HasNone rest → least_in f (done ++ h ∷ rest) ≡ Some n
  only_least n done rest h all is later = here_least n done rest h all is (ap (least (Some n)) (none_least rest later))

  pub nowhere_least : (done rest : List SnapHeld) (h : SnapHeld) → Each HasNone done → f h ≡ None → Each HasNone rest → least_in f (done ++ h ∷ rest) ≡ None
  nowhere_least done rest h all is later = skip_least done (h ∷ rest) all ∙ ap (λ o. least o (least_in f rest)) is ∙ none_least rest later
