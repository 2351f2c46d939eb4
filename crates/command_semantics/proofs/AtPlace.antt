-- What is changed at one place of a list.
use Rattle.std.proofs.Common.{◌≡◌, ℕ, zero, suc, ◌<◌, ◌+◌, List, [], ◌∷◌, ◌++◌, length, get_or, map, take, drop, set, refl, ap, ◌∙◌, arith}
use Rattle.std.specs.Prelude.{Result, Ok, Err, Some, slice_get}
use Rattle.std.proofs.lemmas.List.{set-get_or}
use Rattle.std.proofs.lemmas.Option.{slice_get_read}
use Rattle.sector.specs.declared.refusal.Refusal.{Refusal}
use Rattle.words.specs.Given.{◌>>=◌}
use Rattle.command_semantics.specs.State.{Stacked, Volume, Table}
use Rattle.command_semantics.specs.Places.{stack_at, volume_at}
use Rattle.command_semantics.specs.Changes.{Changes, Enters, Steps}

-- one that is as it was leaves the list as it was
pub put_back : {X : Type 0} (xs : List X) (i : ℕ) (old new : X) → old ≡ get_or xs i old → new ≡ old → set xs i new ≡ xs
put_back xs i old new at same = ap (λ x. set xs i x) (same ∙ at) ∙ set-get_or xs i old

pub stack_here : (table : Table) (i : ℕ) (old : Stacked) → i < length table.stacks → old ≡ get_or table.stacks i old → stack_at i table ≡ Ok old
stack_here table i old lt at =
    let here : slice_get table.stacks i ≡ Some old = slice_get_read table.stacks (length table.stacks) i old refl lt at in
    rw here refl

pub volume_here : (table : Table) (v : ℕ) (old : Volume) → v < length table.volumes → old ≡ get_or table.volumes v old → volume_at v table ≡ Ok old
volume_here table v old lt at =
    let here : slice_get table.volumes v ≡ Some old = slice_get_read table.volumes (length table.volumes) v old refl lt at in
    rw here refl

-- a change of one of a list changes the whole
pub changes_at : {X T : Type 0} (whole : List X → T) (xs : List X) (i : ℕ) (old new : X) (r : Result (Unit {0}) Refusal) (rule : Result X Refusal) → old ≡ get_or xs i old → Changes r old new rule → Changes r (whole xs) (whole (set xs i new)) (rule >>= λ x. Ok (whole (set xs i x)))
changes_at whole xs i old new (Ok done) rule at h = rw h refl
changes_at whole xs i old new (Err e) rule at h = (ap whole (put_back xs i old new at h.0), λ other. rw (h.1 other) refl)

-- the same of a call that takes a place in a journal
pub enters_at : {X T : Type 0} (whole : List X → T) (xs : List X) (i : ℕ) (old new : X) (r : Result (Unit {0}) Refusal) (rule : Result X Refusal) → old ≡ get_or xs i old → Enters r old new rule → Enters r (whole xs) (whole (set xs i new)) (rule >>= λ x. Ok (whole (set xs i x)))
enters_at whole xs i old new (Ok done) rule at h = rw h refl
enters_at whole xs i old new (Err e) rule at h = (ap whole (put_back xs i old new at h.0), λ other. rw (h.1 other) refl)

-- the same of a call that answers
pub steps_at : {A X T : Type 0} (whole : List X → T) (xs : List X) (i : ℕ) (old new : X) (r : Result A Refusal) (rule : Result (A × X) Refusal) → old ≡ get_or xs i old → Steps r old new rule → Steps r (whole xs) (whole (set xs i new)) (rule >>= λ done. Ok (done.0, whole (set xs i done.1)))
steps_at whole xs i old new (Ok answer) rule at h = rw h refl
steps_at whole xs i old new (Err e) rule at h = (ap whole (put_back xs i old new at h.0), λ other. rw (h.1 other) refl)

-- one more of a list whose elements change one after the other
next : {X : Type 0} (f : X → X) (xs : List X) (i : ℕ) (d : X) → i < length xs → set (map f (take i xs) ++ drop i xs) i (f (get_or (map f (take i xs) ++ drop i xs) i d)) ≡ map f (take (suc i) xs) ++ drop (suc i) xs
next f [] i d lt = absurd (omega (arith, lt))
next f (y ∷ xs) zero d lt = refl
next f (y ∷ xs) (suc i) d lt = ap (λ zs. f y ∷ zs) (next f xs i d (omega (arith, lt)))

pub map_step : {X : Type 0} (f : X → X) (xs ys : List X) (i : ℕ) (d y : X) → i < length xs → ys ≡ map f (take i xs) ++ drop i xs → y ≡ f (get_or ys i d) → set ys i y ≡ map f (take (i + 1) xs) ++ drop (i + 1) xs
map_step f xs ys i d y lt so_far done =
    let one : suc i ≡ i + 1 = omega arith in
    ap (λ z. set ys i z) done ∙ ap (λ zs. set zs i (f (get_or zs i d))) so_far ∙ next f xs i d lt ∙ ap (λ k. map f (take k xs) ++ drop k xs) one
