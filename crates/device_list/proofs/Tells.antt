-- A message to a layer of a volume, as the volume takes it.
use Rattle.std.proofs.Common.{◌≡◌, ℕ, ◌<◌, length, get_or, refl, sym, ap, ◌∙◌, subst, inl, inr}
use Rattle.std.specs.Prelude.{Option, Some, None, Result, Ok, Err, IfOk, IfErr}
use Rattle.sector.specs.declared.refusal.Refusal.{Refusal}
use Rattle.layers.specs.declared.stack.Stack.{Stack}
use Rattle.layers.specs.Stack.{stack_contents, stack_layers}
use Rattle.layers.specs.declared.message.Message.{Message}
use Rattle.layers.specs.declared.message.Answer.{Answer}
use Rattle.layers.specs.Messages.{Answered, Refused, told}
use Rattle.whole_commands.specs.Merges.{Merge, Merged}
use Rattle.whole_commands.specs.Snaps.{Volume as Settled}
use Rattle.volume_commands.specs.Rested.{Attached, Rested}
use Rattle.volume_commands.specs.Telling.{IsMergingTold, IsMergingUntold, IsOriginTold, IsStoreTold, IsTellRefused, place_relayered}
use Rattle.command_semantics.specs.declared.place.Role.{Role}
use Rattle.command_semantics.specs.State.{Volume, merged_in, with_merged}
use Rattle.command_semantics.specs.Changes.{Steps}
use Rattle.command_semantics.specs.Messages.{told_in, told_under, told_snap, told_store, told_role, told_mounted, told_beside, told_merge, told_merging}
use Rattle.device_list.specs.Held.{merged_inside, settled_in}
use Rattle.command_semantics.proofs.Begun.{merged_same}
use Rattle.device_list.proofs.Merges.{machine_merge, merge_by}
use Rattle.device_list.proofs.Places.{at_place}

-- to the stack under the origin
pub under_told : (depth : ℕ) (message : Message) (before after : Rested Stack) (r : Result Answer Refusal) → IfOk r (λ a. IsOriginTold stack_contents stack_layers depth message a before after)
    → IfErr r (λ e. IsTellRefused (stack_layers before.origin) depth message e × (settled_in after ≡ settled_in before))
    → Steps r (settled_in before) (settled_in after) (told_under depth message (settled_in before))
unfolding told_under told_in
under_told depth message before after (Ok a) ok err = rw ok.told_is (rw ok.moved refl)
under_told depth message before after (Err e) ok err = (
  err.1,
  λ other. elim err.0 [
    | inl why ↦ rw why refl
    | inr none ↦ absurd (other none.0)
  ],
)

-- to the store of a snapshot
pub store_told : (k depth : ℕ) (message : Message) (before after : Rested Stack) (r : Result Answer Refusal) → k < length before.snaps → IfOk r (λ a. IsStoreTold stack_contents stack_layers k depth message a before after)
    → IfErr r (λ e. ((d : Attached Stack) → IsTellRefused (stack_layers (get_or before.snaps k d).store) depth message e) × (settled_in after ≡ settled_in before))
    → Steps r (settled_in before) (settled_in after) (told_store k depth message (settled_in before))
unfolding told_store told_snap told_in
store_told k depth message before after (Ok a) lt ok err =
    let at = at_place before k lt in
    let is = at.1.is at.0 in
    let here : told (stack_layers at.0.store) depth message ≡ Answered a ok.after = ap (λ (s : Attached Stack). told (stack_layers s.store) depth message) (sym is) ∙ ok.told_is at.0 in
    let moved : settled_in after ≡ place_relayered stack_contents stack_layers k at.0 ok.after (settled_in before) = ok.moved at.0 ∙ ap (λ (s : Attached Stack). place_relayered stack_contents stack_layers k s ok.after (settled_in before)) is in
    rw at.1.seen (rw here (rw moved refl))
store_told k depth message before after (Err e) lt ok err =
    let at = at_place before k lt in (
      err.1,
      λ other. elim (subst (λ (s : Attached Stack). IsTellRefused (stack_layers s.store) depth message e) (at.1.is at.0) (err.0 at.0)) [
        | inl why ↦ (let here : told (stack_layers at.0.store) depth message ≡ Refused e = why in rw at.1.seen (rw here refl))
        | inr none ↦ absurd (other none.0)
      ],
    )

-- the devices beside a merge that stays
beside : (before after : Rested Stack) (s : Settled) → settled_in after ≡ s → (merged_inside after).merge ≡ (merged_inside before).merge → merged_inside after ≡ record { volume = s; merge = (merged_inside before).merge }
beside before after s moved same =
    ap (λ (v : Settled). let m : Merged = record { volume = v; merge = (merged_inside after).merge } in m) moved
    ∙ ap (λ (g : Option Merge). let m : Merged = record { volume = s; merge = g } in m) same

pub told_apart : (before after : Rested Stack) (r : Result Answer Refusal) (rule : Result (Answer × Settled) Refusal) → (merged_inside after).merge ≡ (merged_inside before).merge → Steps r (settled_in before) (settled_in after) rule → Steps r (merged_inside before) (merged_inside after) (told_beside (merged_inside before).merge rule)
told_apart before after (Ok a) rule same h =
    rw h (ap (λ (m : Merged). let r : Result (Answer × Merged) Refusal = Ok (a, m) in r) (sym (beside before after (settled_in after) refl same)))
told_apart before after (Err e) rule same h = (beside before after (settled_in before) h.0 same, λ other. rw (h.1 other) refl)

-- to the merging store
pub merging_told : (depth : ℕ) (message : Message) (before after : Rested Stack) (r : Result Answer Refusal) → IfOk r (λ a. IsMergingTold stack_contents stack_layers depth message a before after)
    → IfErr r (λ e. IsMergingUntold stack_layers depth message e before × (merged_inside after ≡ merged_inside before))
    → Steps r (merged_inside before) (merged_inside after) (told_merging depth message (merged_inside before).merge (settled_in before))
unfolding told_merging told_merge told_in
merging_told depth message before after (Ok a) ok err =
    let was : (merged_inside before).merge ≡ Some (machine_merge ok.merge) = ap merge_by ok.begun in
    rw ok.moved (rw was (rw ok.told_is refl))
merging_told depth message before after (Err e) ok err = (
  err.1,
  λ other. elim err.0 [
    | inl none ↦ (let was : (merged_inside before).merge ≡ None = ap merge_by none.1 in rw was (rw none.0 refl))
    | inr some ↦ (let was : (merged_inside before).merge ≡ Some (machine_merge some.0) = ap merge_by some.1 in elim some.2 [
      | inl why ↦ rw was (rw why refl)
      | inr room ↦ absurd (other room.0)
    ])
  ],
)

-- a message to a volume is one to its devices
pub mounted : (role : Role) (message : Message) (r : Result Answer Refusal) (volume new : Volume) (m : Merged) → new ≡ with_merged m volume → Steps r (merged_in volume) m (told_role role message (merged_in volume)) → Steps r volume new (told_mounted role message volume)
unfolding told_mounted
mounted role message (Ok a) volume new m is h = rw h (rw is refl)
mounted role message (Err e) volume new m is h = (is ∙ ap (λ (k : Merged). with_merged k volume) h.0 ∙ merged_same volume, λ other. rw (h.1 other) refl)
