-- The first element that passes a test splits its list.
use Rattle.std.proofs.Common.{◌≡◌, ◌⊎◌, inl, inr, ℕ, Bool, true, false, List, [], ◌∷◌, ◌++◌, map, None, refl, ap, ◌∙◌}
use Rattle.std.specs.Prelude.{◌==◌}
use Rattle.std.proofs.lemmas.Bool.{cases_Bool, cond-true, cond-false}
use Rattle.plain_machine.specs.declared.request.Reply.TheVariants.{Refused}
use Rattle.plain_machine.specs.declared.request.Failure.TheVariants.{Invalid}
use Rattle.whole_commands.specs.Devices.{Device}
use Rattle.whole_commands.specs.Snaps.{Snap, Volume}
use Rattle.whole_commands.specs.Pieces.{Answered, in_snap}
use Rattle.event_machine.specs.Held.{SnapHeld}
use Rattle.event_machine.specs.Stepping.{first_that}
use Rattle.whole_commands.proofs.Each.{Each}
use Rattle.whole_commands.specs.Saving.{Saving}

pub record IsSplit {X : Type 0} (test : X → Bool) (xs : List X) : Type 0 where
  pub done : List X
  pub here : X
  pub rest : List X
  pub is : xs ≡ done ++ here ∷ rest
  pub before : Each (λ x. test x ≡ false) done
  pub pass : test here ≡ true

split_more : {X : Type 0} (test : X → Bool) (x : X) (xs : List X) → test x ≡ false → IsSplit test xs → IsSplit test (x ∷ xs)
split_more test x xs fails s = record { done = x ∷ s.done; here = s.here; rest = s.rest; is = ap (λ ys. x ∷ ys) s.is; before = (fails, s.before); pass = s.pass }

pub split_at : {X : Type 0} (test : X → Bool) (xs : List X) → Each (λ x. test x ≡ false) xs ⊎ IsSplit test xs
split_at test [] = inl tt
split_at test (x ∷ xs) = elim (cases_Bool (test x)) [
  | inl pass ↦ inr (record { done = []; here = x; rest = xs; is = refl; before = tt; pass = pass })
  | inr fails ↦ elim (split_at test xs) [
    | inl none ↦ inl (fails, none)
    | inr s ↦ inr (split_more test x xs fails s)
  ]
]

pub none_that : {X : Type 0} (test : X → Bool) (xs : List X) → Each (λ x. test x ≡ false) xs → first_that test xs ≡ None
none_that test [] all = refl
none_that test (x ∷ xs) all = cond-false _ _ _ all.0 ∙ none_that test xs all.1

module _ (number : ℕ) (serve : Device → Snap → Answered Saving) (origin : Device) where
  abbrev with_snaps : List Snap → Answered Volume → Answered Volume
  with_snaps more a = record { state = record { origin = a.state.origin; snaps = more ++ a.state.snaps }; reply = a.reply }

  -- the snapshot of a number is served
  pub served_here : (done rest : List SnapHeld) (h : SnapHeld) → Each (λ (d : SnapHeld). (d.snap.number == number) ≡ false) done → (h.snap.number == number) ≡ true →
      in_snap number serve origin (map (λ (d : SnapHeld). d.snap) (done ++ h ∷ rest)) ≡ record { state = record { origin = (serve origin h.snap).state.origin; snaps = map (λ (d : SnapHeld). d.snap) done ++ (serve origin h.snap).state.snap ∷ map (λ (d : SnapHeld). d.snap) rest }; reply = (serve origin h.snap).reply }
  served_here [] rest h before pass = cond-true _ _ _ pass
  served_here (d ∷ done) rest h before pass = cond-false _ _ _ before.0 ∙ ap (with_snaps (d.snap ∷ [])) (served_here done rest h before.1 pass)

  pub served_nowhere : (snaps : List SnapHeld) → Each (λ (d : SnapHeld). (d.snap.number == number) ≡ false) snaps → in_snap number serve origin (map (λ (d : SnapHeld). d.snap) snaps) ≡ record { state = record { origin = origin; snaps = map (λ (d : SnapHeld). d.snap) snaps }; reply = Refused Invalid }
  served_nowhere [] none = refl
  served_nowhere (d ∷ snaps) none = cond-false _ _ _ none.0 ∙ ap (with_snaps (d.snap ∷ [])) (served_nowhere snaps none.1)
