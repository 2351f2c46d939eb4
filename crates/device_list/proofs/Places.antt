-- The snapshot at a place of a volume over stacks, as the settled machine has it.
use Rattle.std.proofs.Common.{◌≡◌, ℕ, zero, suc, ◌<◌, true, List, [], ◌∷◌, length, get_or, map, refl, sym, ap, ◌∙◌, inl, inr, arith}
use Rattle.std.specs.Prelude.{Ok, Some, slice_get, ◌==◌}
use Rattle.std.specs.List.{list_any}
use Rattle.std.proofs.lemmas.Bool.{cases_Bool, cond-false}
use Rattle.std.proofs.lemmas.List.{length-map, get_or-map}
use Rattle.std.proofs.lemmas.Option.{slice_get_read}
use Rattle.layers.specs.declared.stack.Stack.{Stack}
use Rattle.layers.specs.Stack.{stack_contents, stack_layers}
use Rattle.plain_machine.specs.declared.request.Dev.TheVariants.{Snap as ToSnap}
use Rattle.whole_commands.specs.Snaps.{Snap}
use Rattle.volume_commands.specs.Rested.{Attached, Rested, snap_of, snap_at as first_snap, has_number}
use Rattle.command_semantics.specs.declared.place.Role.TheVariants.{Snapshot}
use Rattle.command_semantics.specs.Messages.{snap_at}
use Rattle.command_semantics.specs.Sectors.{dev_of}
use Rattle.device_list.specs.Held.{settled_in}

-- an element at a place
pub here : {X : Type 0} (xs : List X) (k : ℕ) → k < length xs → (x : X) × ((d : X) → get_or xs k d ≡ x)
here [] k lt = absurd (omega (arith, lt))
here (x ∷ xs) zero lt = (x, λ d. refl)
here (x ∷ xs) (suc k) lt = here xs k (omega (arith, lt))

-- and one of what comes of each
mapped : {X Y : Type 0} (f : X → Y) (xs : List X) (k : ℕ) (x : X) → k < length xs → ((d : X) → get_or xs k d ≡ x) → slice_get (map f xs) k ≡ Some (f x)
mapped f xs k x lt is =
    let len : length (map f xs) ≡ length xs = length-map xs f in
    slice_get_read (map f xs) (length (map f xs)) k (f x) refl (omega (arith, lt, len)) (sym (get_or-map f xs k x (f x) lt ∙ ap f (is x)))

abbrev pub stack_snap : Attached Stack → Snap
stack_snap s = snap_of stack_contents stack_layers s

-- the snapshot at a place
pub record IsAt (k : ℕ) (volume : Rested Stack) (s : Attached Stack) : Type 0 where
  pub is : (d : Attached Stack) → get_or volume.snaps k d ≡ s
  pub held : (d : Snap) → get_or (settled_in volume).snaps k d ≡ stack_snap s
  pub seen : snap_at k (settled_in volume) ≡ Ok (stack_snap s)

pub at_place : (volume : Rested Stack) (k : ℕ) → k < length volume.snaps → (s : Attached Stack) × IsAt k volume s
at_place volume k lt =
    let x = here volume.snaps k lt in
    let there : slice_get (map stack_snap volume.snaps) k ≡ Some (stack_snap x.0) = mapped stack_snap volume.snaps k x.0 lt x.1 in (
      x.0,
      record {
        is = x.1;
        held = λ d. get_or-map stack_snap volume.snaps k x.0 d lt ∙ ap stack_snap (x.1 x.0);
        seen = rw there refl;
      },
    )

-- the number of a snapshot
pub snapshot_dev : (volume : Rested Stack) (k number : ℕ) → k < length volume.snaps → ((d : Attached Stack) → number ≡ (get_or volume.snaps k d).number) → dev_of (Snapshot k) (settled_in volume) ≡ Ok (ToSnap number)
unfolding dev_of
snapshot_dev volume k number lt is =
    let at = at_place volume k lt in
    let same : number ≡ at.0.number = is at.0 ∙ ap (λ (s : Attached Stack). s.number) (at.1.is at.0) in
    rw at.1.seen (rw same refl)

-- a number that is found is there
pub dev_there : (number : ℕ) (xs : List (Attached Stack)) (s : Attached Stack) → first_snap number xs ≡ Some s → list_any (has_number number) xs ≡ true
dev_there number [] s is = absurd (cc)
dev_there number (x ∷ xs) s is = elim (cases_Bool (x.number == number)) [
  | inl this ↦ rw this refl
  | inr other ↦ rw other (dev_there number xs s (sym (cond-false _ _ _ other) ∙ is))
]
