-- What a status line says of a snapshot, by what its volume tells.
use Rattle.std.proofs.Common.{◌≡◌, ℕ, ◌<◌, List, length, get_or, true, false, refl, sym, ap, ◌∙◌}
use Rattle.std.specs.Prelude.{Option, Some, None, Result, Ok, IfOk}
use Rattle.std.proofs.lemmas.Result.{IfOk-at_ok}
use Rattle.std.specs.declared.alloc.AllocError.{AllocError}
use Rattle.layers.specs.declared.stack.Stack.{Stack}
use Rattle.layers.specs.Stack.{stack_contents, stack_size}
use Rattle.chunk_alloc.specs.declared.usage.Usage.{Usage}
use Rattle.plain_machine.specs.Plain.{did_overflow}
use Rattle.table.specs.declared.status.StatusState.{StatusState}
use Rattle.table.specs.declared.status.StatusState.TheVariants.{Invalid, Failed, Overflow, Used}
use Rattle.table.specs.Lines.{merge_text, origin_text, snapshot_text}
use Rattle.whole_commands.specs.Devices.{sectors_of as size_of}
use Rattle.whole_commands.specs.Snaps.{Snap}
use Rattle.volume_commands.specs.Rested.{Attached, Rested}
use Rattle.volume_commands.specs.Using.{IsUsed}
use Rattle.whole_commands.specs.Merges.{Merge}
use Rattle.merge.specs.Merging.{Merging}
use Rattle.volume.specs.Asking.{merging_usage}
use Rattle.volume.specs.Stepping.{has_failed}
use Rattle.command_semantics.specs.declared.place.Role.TheVariants.{Origin, Snapshot, Merging as Merging'}
use Rattle.command_semantics.specs.Stacks.{device_of}
use Rattle.command_semantics.specs.State.{Volume, Merging as Named}
use Rattle.command_semantics.specs.Messages.{snap_at}
use Rattle.command_semantics.specs.Status.{merge_state, state_of, state_at, status_in}
use Rattle.device_stacks.proofs.StackSizes.{size_of as size_of_stack}
use Rattle.device_list.specs.Held.{merged_inside, settled_in}
use Rattle.device_list.proofs.Merges.{machine_merge, merge_by}
use Rattle.device_list.proofs.Places.{at_place, stack_snap}

-- one that is spoiled
pub invalid_is : (s : Attached Stack) → false ≡ s.live → Invalid ≡ state_of (stack_snap s)
invalid_is s dead = rw (sym dead) refl

-- one whose store overflowed
pub overflow_is : (s : Attached Stack) → true ≡ s.live → did_overflow s.overflow ≡ true → Overflow ≡ state_of (stack_snap s)
overflow_is s live did = rw (sym live) (rw did refl)

-- one that is live
pub used_is : (s : Attached Stack) (usage : Usage) → true ≡ s.live → did_overflow s.overflow ≡ false → IsUsed stack_contents stack_size s usage → Used usage.allocated usage.total usage.metadata ≡ state_of (stack_snap s)
used_is s usage live room used = rw (sym live) (rw room (rw used.allocated (rw used.metadata (rw (used.total ∙ sym (size_of_stack s.store)) refl))))

-- one that failed while it was merged
pub failed_is : (v : Rested Stack) (m : Merging Stack) → v.events.merge ≡ Some m → has_failed v.events.merge ≡ true → (g : Merge) × ((merged_inside v).merge ≡ Some g) × (Failed ≡ merge_state g)
failed_is v m is failed =
    let mine : m.failed ≡ true = sym (ap (λ (o : Option (Merging Stack)). has_failed o) is) ∙ failed in
    (machine_merge m, ap merge_by is, rw mine refl)

-- and one that is merged
pub merged_is : (v : Rested Stack) (store : Stack) (usage : Usage) (total : ℕ) (a : (m : Merging Stack) × (v.events.merge ≡ Some m) × (usage ≡ merging_usage m)) (b : (m : Merging Stack) × (v.events.merge ≡ Some m) × (store ≡ m.device))
    → has_failed v.events.merge ≡ false → total ≡ size_of (device_of store) → (g : Merge) × ((merged_inside v).merge ≡ Some g) × (Used usage.allocated total usage.metadata ≡ merge_state g)
merged_is v store usage total a b failed size =
    let mine : a.0.failed ≡ false = sym (ap (λ (o : Option (Merging Stack)). has_failed o) a.1) ∙ failed in
    let same : b.0 ≡ a.0 = (let both : Some b.0 ≡ Some a.0 = sym b.1 ∙ a.1 in cc) in
    let sectors : total ≡ size_of (device_of a.0.device) = size ∙ ap (λ (s : Stack). size_of (device_of s)) b.2 ∙ ap (λ (m : Merging Stack). size_of (device_of m.device)) same in
    (machine_merge a.0, ap merge_by a.1, rw mine (rw sectors (rw a.2 refl)))

-- the status line of an origin
pub origin_says : (sectors : ℕ) (text : List ℕ) (volume : Volume) (r : Result (List ℕ) AllocError) → volume.merging ≡ None → r ≡ Ok text → IfOk r (λ t. t ≡ origin_text sectors) → sectors ≡ size_of volume.state.origin → status_in Origin volume ≡ Ok text
unfolding status_in
origin_says sectors text volume r alone is says size = rw (sym size) (rw alone (rw (IfOk-at_ok (λ (t : List ℕ). t ≡ origin_text sectors) is says) refl))

-- of one while a merge is begun
pub merge_says : (sectors : ℕ) (state : StatusState) (text : List ℕ) (volume : Volume) (r : Result (List ℕ) AllocError) (h : Named) → volume.merging ≡ Some h → state ≡ merge_state h.merge → r ≡ Ok text → IfOk r (λ t. t ≡ merge_text sectors state) → sectors ≡ size_of volume.state.origin → status_in Origin volume ≡ Ok text
unfolding status_in
merge_says sectors state text volume r h begun of is says size = rw (sym size) (rw begun (rw (sym of) (rw (IfOk-at_ok (λ (t : List ℕ). t ≡ merge_text sectors state) is says) refl)))

-- of a snapshot that is being merged
pub merging_says : (sectors : ℕ) (text : List ℕ) (volume : Volume) (r : Result (List ℕ) AllocError) → r ≡ Ok text → IfOk r (λ t. t ≡ snapshot_text sectors Invalid) → sectors ≡ size_of volume.state.origin → status_in Merging' volume ≡ Ok text
unfolding status_in
merging_says sectors text volume r is says size = rw (sym size) (rw (IfOk-at_ok (λ (t : List ℕ). t ≡ snapshot_text sectors Invalid) is says) refl)

-- and of a snapshot
pub snapshot_says : (k sectors : ℕ) (state : StatusState) (text : List ℕ) (volume : Volume) (before : Rested Stack) (r : Result (List ℕ) AllocError) → volume.state ≡ settled_in before → k < length before.snaps → ((d : Snap) → state ≡ state_of (get_or (settled_in before).snaps k d)) → r ≡ Ok text → IfOk r (λ t. t ≡ snapshot_text sectors state) → sectors ≡ size_of volume.state.origin → status_in (Snapshot k) volume ≡ Ok text
unfolding status_in state_at
snapshot_says k sectors state text volume before r in_state lt of is says size =
    let at = at_place before k lt in
    let seen : snap_at k volume.state ≡ Ok (stack_snap at.0) = ap (snap_at k) in_state ∙ at.1.seen in
    let same : state ≡ state_of (stack_snap at.0) = of (stack_snap at.0) ∙ ap state_of (at.1.held (stack_snap at.0)) in
    rw seen (rw (sym size) (rw (sym same) (rw (IfOk-at_ok (λ (t : List ℕ). t ≡ snapshot_text sectors state) is says) refl)))
