-- When an origin write is clear.
use Rattle.std.proofs.Common.{◌≡◌, ℕ, Bool, true, false, List, [], ◌∷◌, ◌++◌, refl, ap}
use Rattle.std.specs.Prelude.{◌&&◌, ◌||◌, not}
use Rattle.std.specs.List.{list_any, list_all}
use Rattle.event_machine.specs.Held.{SnapHeld, is_untried}
use Rattle.event_machine.specs.Again.{is_saved, is_clear}
use Rattle.whole_commands.proofs.Each.{Each}

pub and_last : (x y : Bool) → y ≡ false → (x && y) ≡ false
and_last true y e = e
and_last false y e = refl

or_last : (x y : Bool) → y ≡ true → (x || y) ≡ true
or_last true y e = refl
or_last false y e = e

module _ {X : Type 0} (f : X → Bool) where
  all_unless : (done rest : List X) (x : X) → f x ≡ false → list_all f (done ++ x ∷ rest) ≡ false
  all_unless [] rest x e = rw e refl
  all_unless (d ∷ done) rest x e = and_last (f d) (list_all f (done ++ x ∷ rest)) (all_unless done rest x e)

  any_there : (done rest : List X) (x : X) → f x ≡ true → list_any f (done ++ x ∷ rest) ≡ true
  any_there [] rest x e = rw e refl
  any_there (d ∷ done) rest x e = or_last (f d) (list_any f (done ++ x ∷ rest)) (any_there done rest x e)

  all_each : (xs : List X) → Each (λ x. f x ≡ true) xs → list_all f xs ≡ true
  all_each [] all = refl
  all_each (x ∷ xs) all = rw (all.0, all_each xs all.1) refl

  any_none : (xs : List X) → Each (λ x. f x ≡ false) xs → list_any f xs ≡ false
  any_none [] all = refl
  any_none (x ∷ xs) all = rw (all.0, any_none xs all.1) refl

pub unclear_unsaved : (first : ℕ) (done rest : List SnapHeld) (h : SnapHeld) → is_saved first h ≡ false → is_clear (done ++ h ∷ rest) first ≡ false
unclear_unsaved first done rest h e = ap (λ b. b && not (list_any is_untried (done ++ h ∷ rest))) (all_unless (is_saved first) done rest h e)

pub unclear_untried : (first : ℕ) (done rest : List SnapHeld) (h : SnapHeld) → is_untried h ≡ true → is_clear (done ++ h ∷ rest) first ≡ false
unclear_untried first done rest h e = and_last (list_all (is_saved first) (done ++ h ∷ rest)) (not (list_any is_untried (done ++ h ∷ rest))) (ap not (any_there is_untried done rest h e))

pub clear_all : (first : ℕ) (snaps : List SnapHeld) → Each (λ h. is_saved first h ≡ true) snaps → Each (λ h. is_untried h ≡ false) snaps → is_clear snaps first ≡ true
clear_all first snaps saved tried = rw (all_each (is_saved first) snaps saved, any_none is_untried snaps tried) refl
