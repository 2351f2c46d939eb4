-- A snapshot leaves a volume with its names.
use Rattle.std.proofs.Common.{◌≡◌, ℕ, ◌<◌, Bool, true, false, List, [], ◌∷◌, length, get_or, refl, sym, ap, ◌∙◌, inl, inr}
use Rattle.std.specs.Prelude.{Ok, Err, Some, slice_get, ◌==◌, ◌&&◌}
use Rattle.std.specs.List.{remove, list_all}
use Rattle.std.proofs.lemmas.Bool.{cases_Bool, cond-true, cond-false}
use Rattle.std.proofs.lemmas.Option.{slice_get_read}
use Rattle.sector.specs.declared.refusal.Refusal.TheVariants.{NotQuiet}
use Rattle.device.specs.Layers.{is_loud}
use Rattle.layers.specs.declared.stack.Stack.{Stack}
use Rattle.layers.specs.Stack.{stack_contents, stack_layers}
use Rattle.snapshot.specs.declared.opening.StoreDev.{StoreDev}
use Rattle.whole_commands.specs.Attaching.{detached}
use Rattle.volume_commands.specs.Rested.{Attached, Rested, snap_at as first_snap}
use Rattle.volume_commands.specs.Leaving.{IsDetachedAs}
use Rattle.command_semantics.specs.Stacks.{device_of}
use Rattle.command_semantics.specs.State.{Stacked, Names, Volume}
use Rattle.command_semantics.specs.Origins.{still}
use Rattle.command_semantics.specs.Snapshots.{parted}
use Rattle.device_list.specs.Held.{settled_in, IsSettledIn}
use Rattle.device_list.proofs.Places.{here, at_place}
use Rattle.volume.proofs.Shown.{loud_but}

pub no_both : (b : Bool) → b ≡ true → b ≡ false → ⊥
no_both b is isnt = absurd (cc)

-- The snapshot of this place leaves.
module _ (k : ℕ) (volume : Volume) (before after : Rested Stack) (number : ℕ) (names : Names) (given : StoreDev Stack) (state : volume.state ≡ settled_in before) (lt : k < length volume.snaps) (quiet : volume.quiet ≡ true) (names_is : names ≡ get_or volume.snaps k names) (within : k < length before.snaps) (is : (d : Attached Stack) → number ≡ (get_or before.snaps k d).number) (out : IsDetachedAs stack_contents stack_layers number given before after) where
  pub parted_is : (stacked : Stacked) (new : Volume) → stacked ≡ record { names = names.store; device = device_of given.device; stale = given.stale }
      → new ≡ record volume { snaps = remove volume.snaps k; state = settled_in after }
      → parted k volume ≡ Ok (stacked, new)
  unfolding parted
  parted_is stacked new stacked_is new_is =
      let at = at_place before k within in
      let named : slice_get volume.snaps k ≡ Some names = slice_get_read volume.snaps (length volume.snaps) k names refl lt names_is in
      let same : number ≡ at.0.number = is at.0 ∙ ap (λ (s : Attached Stack). s.number) (at.1.is at.0) in
      let left : settled_in after ≡ record { origin = (settled_in before).origin; snaps = detached number (settled_in before).snaps } =
      rw out.origin (rw out.left refl) in
      let goes : still volume ≡ Ok tt = rw quiet refl in
      rw named (rw state (rw at.1.seen (rw goes (rw (sym same) (rw out.back (rw stacked_is (rw new_is (rw left refl))))))))

-- nor does one leave a volume with requests in flight
pub parted_not : (k : ℕ) (volume : Volume) (before : Rested Stack) → volume.state ≡ settled_in before → k < length volume.snaps → k < length before.snaps → volume.quiet ≡ false → parted k volume ≡ Err NotQuiet
unfolding parted
parted_not k volume before state lt within busy =
    let at = at_place before k within in
    let names = here volume.snaps k lt in
    let named : slice_get volume.snaps k ≡ Some names.0 = slice_get_read volume.snaps (length volume.snaps) k names.0 refl lt (sym (names.1 names.0)) in
    rw named (rw state (rw at.1.seen (rw busy refl)))

-- one of devices that drop no writes drops none
loud_at : (number : ℕ) (xs : List (Attached Stack)) (s : Attached Stack) → first_snap number xs ≡ Some s → list_all (λ (x : Attached Stack). is_loud (stack_layers x.store)) xs ≡ true → is_loud (stack_layers s.store) ≡ true
loud_at number [] s is loud = absurd (cc)
loud_at number (x ∷ xs) s is loud = elim (cases_Bool (x.number == number)) [
  | inl this ↦ (let same : x ≡ s = some_same x s (sym (cond-true _ _ _ this) ∙ is) in rw (sym same) (both_left (is_loud (stack_layers x.store)) _ loud))
  | inr other ↦ loud_at number xs s (sym (cond-false _ _ _ other) ∙ is) (both_right (is_loud (stack_layers x.store)) _ loud)
]
  where
    some_same : (a b : Attached Stack) → Some a ≡ Some b → a ≡ b
    some_same a b e = cc

    both_left : (a b : Bool) → (a && b) ≡ true → a ≡ true
    both_left true b h = refl
    both_left false b h = absurd (cc)

    both_right : (a b : Bool) → (a && b) ≡ true → b ≡ true
    both_right true b h = h
    both_right false b h = absurd (cc)

-- the store that is given back drops no writes
pub given_loud : (number : ℕ) (given : StoreDev Stack) (before after : Rested Stack) → IsDetachedAs stack_contents stack_layers number given before after → IsSettledIn before → is_loud (stack_layers given.device) ≡ true
given_loud number given before after out settled = rw out.device (loud_at number before.snaps out.snap out.found (both_right (is_loud (stack_layers before.origin)) (list_all (λ (x : Attached Stack). is_loud (stack_layers x.store)) before.snaps)
    (loud_but stack_layers before.events.merge (is_loud (stack_layers before.origin) && list_all (λ (x : Attached Stack). is_loud (stack_layers x.store)) before.snaps) settled.loud)))
  where
    both_right : (a b : Bool) → (a && b) ≡ true → b ≡ true
    both_right true b h = h
    both_right false b h = absurd (cc)
