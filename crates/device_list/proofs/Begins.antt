-- The merge of the snapshot at a place begins, or does not.
use Rattle.std.proofs.Common.{◌≡◌, ◌⊎◌, ℕ, ◌<◌, Bool, true, false, List, [], ◌∷◌, length, get_or, map, refl, sym, ap, ◌∙◌, inl, inr}
use Rattle.std.specs.Prelude.{Option, Ok, Err, Some, None, slice_get, is_some, ◌==◌, if◌then◌else◌}
use Rattle.std.specs.List.{remove, list_any}
use Rattle.std.proofs.lemmas.Bool.{cases_Bool, cond-true, cond-false}
use Rattle.std.proofs.lemmas.List.{get_or-map}
use Rattle.std.proofs.lemmas.List.Quantifiers.{position-Some}
use Rattle.std.proofs.lemmas.Option.{slice_get_read}
use Rattle.sector.specs.declared.refusal.Refusal.{Refusal}
use Rattle.sector.specs.declared.refusal.Refusal.TheVariants.{Invalid, NotQuiet, MergeInProgress}
use Rattle.layers.specs.declared.stack.Stack.{Stack}
use Rattle.layers.specs.Stack.{stack_contents, stack_layers}
use Rattle.whole_commands.specs.Attaching.{detached}
use Rattle.whole_commands.specs.Merges.{Merged, begun as begun_in_big_steps, merge_of, snap_named}
use Rattle.snapshot.specs.Kept.{Kept}
use Rattle.snapshot_list.specs.Finding.{place_of_snap}
use Rattle.snapshot_list.proofs.Finds.{position_none}
use Rattle.merge.specs.Merging.{Merging}
use Rattle.volume.specs.Beginning.{begin_refusal, begin_with, place_refusal}
use Rattle.volume.specs.Causes.{lives_of}
use Rattle.volume.specs.Leaving.{is_quiet_of}
use Rattle.volume_commands.specs.Flying.{IsWhole}
use Rattle.volume_commands.specs.Merging.{IsAlike, IsBegunAs}
use Rattle.volume_commands.proofs.Leaves.{at_place as first_at}
use Rattle.volume_commands.specs.Rested.{Attached, Rested, attached_of, is_loud_in, snap_at as first_snap}
use Rattle.command_semantics.specs.State.{Names, Volume}
use Rattle.command_semantics.specs.Merging.{begun}
use Rattle.device_list.specs.Held.{flying_in, merged_inside, merging_with, settled_in, with_names}
use Rattle.device_list.proofs.Merges.{merge_by}
use Rattle.device_list.proofs.Places.{at_place, stack_snap}

-- one that is begun is begun once
pub begun_once : (k : ℕ) (volume : Volume) → is_some volume.merging ≡ true → begun k volume ≡ Err MergeInProgress
unfolding begun
begun_once k volume there = rw there refl

some_same : {X : Type 0} (a b : X) → Some a ≡ Some b → a ≡ b
some_same a b e = cc

-- the first snapshot with a number, as the settled machine has it
named_of : (number : ℕ) (xs : List (Attached Stack)) (s : Attached Stack) → first_snap number xs ≡ Some s → snap_named number (map stack_snap xs) ≡ Some (stack_snap s)
named_of number [] s is = absurd (cc)
named_of number (x ∷ xs) s is = elim (cases_Bool (x.number == number)) [
  | inl this ↦ (let same : x ≡ s = some_same x s (sym (cond-true _ _ _ this) ∙ is) in cond-true _ _ _ this ∙ ap (λ (a : Attached Stack). Some (stack_snap a)) same)
  | inr other ↦ cond-false _ _ _ other ∙ named_of number xs s (sym (cond-false _ _ _ other) ∙ is)
]

-- it is there
some_passes : (number : ℕ) (xs : List (Kept Stack)) (s : Attached Stack) → first_snap number (map attached_of xs) ≡ Some s → list_any (λ x. x.number == number) xs ≡ true
some_passes number [] s is = absurd (cc)
some_passes number (x ∷ xs) s is = elim (cases_Bool (x.number == number)) [
  | inl this ↦ rw this refl
  | inr other ↦ rw other (some_passes number xs s (sym (cond-false _ _ _ other) ∙ is))
]

-- its place, and whether it is live there
placed : (number : ℕ) (xs : List (Kept Stack)) (s : Attached Stack) → first_snap number (map attached_of xs) ≡ Some s
    → (j : ℕ) × (place_of_snap number xs ≡ Some j) × (get_or (map (λ (x : Kept Stack). x.live) xs) j false ≡ s.live)
placed number [] s is = absurd (cc)
placed number (x ∷ xs) s is = by_place (place_of_snap number (x ∷ xs)) refl
  where
    by_place : (o : Option ℕ) → place_of_snap number (x ∷ xs) ≡ o → (j : ℕ) × (place_of_snap number (x ∷ xs) ≡ Some j) × (get_or (map (λ (y : Kept Stack). y.live) (x ∷ xs)) j false ≡ s.live)
    by_place None none = absurd (let clash : false ≡ true = sym (position_none (λ y. y.number == number) (x ∷ xs) none) ∙ some_passes number (x ∷ xs) s is in cc)
    by_place (Some j) found =
        let at = position-Some (λ (y : Kept Stack). y.number == number) (x ∷ xs) j x found in
        let one = first_at number x (x ∷ xs) j at.0 at.1 at.2 in
        let same : attached_of (get_or (x ∷ xs) j x) ≡ s = some_same (attached_of (get_or (x ∷ xs) j x)) s (sym one.0 ∙ is) in
        (j, found, get_or-map (λ (y : Kept Stack). y.live) (x ∷ xs) j x false at.0 ∙ ap (λ (a : Attached Stack). a.live) same)

-- why none begins at a place
reasons : (live quiet : Bool) (e : Refusal) → (if live then (if quiet then None else Some NotQuiet) else Some Invalid) ≡ Some e
    → ((live ≡ false) × (e ≡ Invalid)) ⊎ ((live ≡ true) × (quiet ≡ false) × (e ≡ NotQuiet))
reasons false quiet e is = inl (refl, sym (some_same Invalid e is))
reasons true false e is = inr (refl, refl, sym (some_same NotQuiet e is))
reasons true true e is = absurd (cc)

-- The snapshot at a place, by its number.
module _ (k : ℕ) (volume : Volume) (before : Rested Stack) (number : ℕ) (names : Names) (state : volume.state ≡ settled_in before) (unmerged : is_some volume.merging ≡ false) (lt : k < length volume.snaps) (names_is : names ≡ get_or volume.snaps k names) (within : k < length before.snaps) (is : (d : Attached Stack) → number ≡ (get_or before.snaps k d).number) (first : (d : Attached Stack) → first_snap number before.snaps ≡ Some (get_or before.snaps k d)) where
  abbrev one : Attached Stack
  one = (at_place before k within).0

  found : first_snap number before.snaps ≡ Some one
  found = first one ∙ ap (λ (s : Attached Stack). Some s) ((at_place before k within).1.is one)

  number_is : number ≡ one.number
  number_is = is one ∙ ap (λ (s : Attached Stack). s.number) ((at_place before k within).1.is one)

  named : slice_get volume.snaps k ≡ Some names
  named = slice_get_read volume.snaps (length volume.snaps) k names refl lt names_is

  module _ (after : Rested Stack) (out : IsBegunAs number before after) (merged : begun_in_big_steps number (merged_inside before) ≡ merged_inside after) (quiet : volume.quiet ≡ true) where
    live : one.live ≡ true
    live = (let same : out.snap ≡ one = some_same out.snap one (sym out.found ∙ found) in ap (λ (s : Attached Stack). s.live) (sym same) ∙ out.live)

    whole : merged_inside after ≡ record { volume = record { origin = (settled_in before).origin; snaps = detached number (settled_in before).snaps }; merge = Some (merge_of (stack_snap one)) }
    whole =
        let none : (merged_inside before).merge ≡ None = ap merge_by out.alone in
        sym merged ∙ rw none (rw (named_of number before.snaps one found) (rw live refl))

    pub begun_is : (new : Volume) → new ≡ record volume { snaps = remove volume.snaps k; merging = with_names names (merged_inside after).merge; state = settled_in after } → begun k volume ≡ Ok new
    unfolding begun
    begun_is new new_is =
        let seen = (at_place before k within).1.seen in
        let left : settled_in after ≡ record { origin = (settled_in before).origin; snaps = detached number (settled_in before).snaps } = ap (λ (m : Merged). m.volume) whole in
        let merge : (merged_inside after).merge ≡ Some (merge_of (stack_snap one)) = ap (λ (m : Merged). m.merge) whole in
        rw new_is (rw left (rw merge (rw unmerged (rw named (rw state (rw seen (rw live (rw (sym number_is) (rw quiet refl)))))))))

  -- why it does not begin
  module _ (all : IsWhole before) (quiet : volume.quiet ≡ is_quiet_of before.events) (alone : before.events.merge ≡ None) (e : Refusal) (why : begin_refusal number before.events ≡ Some e) where
    place : (j : ℕ) × (place_of_snap number before.events.snaps ≡ Some j) × (get_or (lives_of before.events) j false ≡ one.live)
    place = placed number before.events.snaps one (ap (λ (v : Rested Stack). first_snap number v.snaps) (sym all) ∙ found)

    because : ((one.live ≡ false) × (e ≡ Invalid)) ⊎ ((one.live ≡ true) × (is_quiet_of before.events ≡ false) × (e ≡ NotQuiet))
    because = reasons one.live (is_quiet_of before.events) e
        (ap (λ b. if b then (if is_quiet_of before.events then None else Some NotQuiet) else Some Invalid) (sym place.2)
        ∙ ap (place_refusal (lives_of before.events) (is_quiet_of before.events)) (sym place.1)
        ∙ ap (λ (o : Option (Merging Stack)). begin_with o number before.events) (sym alone) ∙ why)

    pub not_begun : begun k volume ≡ Err e
    unfolding begun
    not_begun =
        let seen = (at_place before k within).1.seen in
        elim because [
          | inl dead ↦ rw unmerged (rw named (rw state (rw seen (rw dead.0 (rw dead.1 refl)))))
          | inr busy ↦ rw unmerged (rw named (rw state (rw seen (rw busy.0 (rw quiet (rw busy.1 (rw busy.2 refl)))))))
        ]

-- nothing where none is
pub none_of : {X : Type 0} (o : Option X) → is_some o ≡ false → o ≡ None
none_of None e = refl
none_of (Some x) e = absurd (cc)

-- where nothing that is seen changed, nothing of the volume with names did
module _ (before after : Rested Stack) (same : IsAlike stack_contents stack_layers before after) where
  pub alike_state : settled_in after ≡ settled_in before
  alike_state = rw same.origin (rw same.snaps refl)

  pub alike_merging : (names : Option Names) → merging_with names after ≡ merging_with names before
  alike_merging None = refl
  alike_merging (Some names) = ap (λ (o : Option (Merging Stack)). with_names names (merge_by o)) same.merge

  pub alike_flying : flying_in after.events ≡ flying_in before.events
  alike_flying = rw same.quiet (rw same.flying refl)

  pub alike_loud : is_loud_in stack_layers after ≡ is_loud_in stack_layers before
  alike_loud = rw same.origin (rw same.snaps (rw same.merge refl))
