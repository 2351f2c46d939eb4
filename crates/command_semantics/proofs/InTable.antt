-- Messages and layers at a place of the table.
use Rattle.std.proofs.Common.{◌≡◌, ℕ, ◌<◌, List, length, get_or, set, refl, sym, ap, ◌∙◌, subst}
use Rattle.std.specs.Prelude.{Result, Ok, Err, Option, Some, None, is_some, slice_get}
use Rattle.std.proofs.lemmas.List.{length-set}
use Rattle.std.proofs.lemmas.Option.{slice_get_read}
use Rattle.sector.specs.declared.refusal.Refusal.{Refusal}
use Rattle.sector.specs.declared.refusal.Refusal.TheVariants.{BadTable, NoSuchDevice}
use Rattle.device.specs.Layers.{Layer}
use Rattle.layers.specs.declared.message.Message.{Message}
use Rattle.layers.specs.declared.message.Answer.{Answer}
use Rattle.whole_commands.specs.Snaps.{Snap, Volume as Settled}
use Rattle.whole_commands.specs.Merges.{Merge, Merged}
use Rattle.command_semantics.specs.declared.place.Role.{Role}
use Rattle.command_semantics.specs.declared.place.Role.TheVariants.{Origin, Under, Snapshot, Store, Merging, MergingStore}
use Rattle.command_semantics.specs.declared.place.Place.TheVariants.{Free, In}
use Rattle.command_semantics.specs.State.{Stacked, Volume, Table}
use Rattle.command_semantics.specs.Changes.{Changes, Steps}
use Rattle.command_semantics.specs.Layers.{layered, laid, top, put}
use Rattle.command_semantics.specs.Messages.{told_in, told_free, told_snap, told_store, told_under, told_beside, told_merge, told_merging, told_role, snap_at, told_mounted, told_at, put_volume}
use Rattle.command_semantics.specs.Raw.{loaded_free, loaded_at}
use Rattle.command_semantics.proofs.AtPlace.{stack_here, volume_here, changes_at, steps_at}
use Rattle.command_semantics.proofs.Keeping.{came_by, same_ok, not_ok}

pub laid_at : (name : List ℕ) (layer : Layer) (first count : ℕ) (below : List ℕ) (table : Table) (i : ℕ) (old new : Stacked) (r : Result (Unit {0}) Refusal) → top below table ≡ Ok i → i < length table.stacks → old ≡ get_or table.stacks i old → Changes r old new (layered name layer first count old) → Changes r table (put i new table) (laid name layer first count below table)
unfolding laid
laid_at name layer first count below table i old new r is lt at h =
    let there = stack_here table i old lt at in
    rw is (rw there (changes_at (λ (stacks : List Stacked). record { stacks = stacks; volumes = table.volumes }) table.stacks i old new r (layered name layer first count old) at h))

pub told_free_at : (i depth : ℕ) (message : Message) (table : Table) (old new : Stacked) (r : Result Answer Refusal) → i < length table.stacks → old ≡ get_or table.stacks i old → Steps r old new (told_free depth message old) → Steps r table (put i new table) (told_at (Free i depth) message table)
unfolding told_at
told_free_at i depth message table old new r lt at h =
    let there = stack_here table i old lt at in
    rw there (steps_at (λ (stacks : List Stacked). record { stacks = stacks; volumes = table.volumes }) table.stacks i old new r (told_free depth message old) at h)

pub told_in_at : (v : ℕ) (role : Role) (message : Message) (table : Table) (old new : Volume) (r : Result Answer Refusal) → v < length table.volumes → old ≡ get_or table.volumes v old → Steps r old new (told_mounted role message old) → Steps r table (put_volume v new table) (told_at (In v role) message table)
unfolding told_at
told_in_at v role message table old new r lt at h =
    let there = volume_here table v old lt at in
    rw there (steps_at (λ (volumes : List Volume). record { stacks = table.stacks; volumes = volumes }) table.volumes v old new r (told_mounted role message old) at h)

pub told_store_at : (k depth : ℕ) (message : Message) (state : Settled) (old new : Snap) (r : Result Answer Refusal) → k < length state.snaps → old ≡ get_or state.snaps k old → Steps r old new (told_snap depth message old) → Steps r state (record { origin = state.origin; snaps = set state.snaps k new }) (told_store k depth message state)
unfolding told_store
told_store_at k depth message state old new r lt at h =
    let here : slice_get state.snaps k ≡ Some old = slice_get_read state.snaps (length state.snaps) k old refl lt at in
    rw here (steps_at (λ (snaps : List Snap). record { origin = state.origin; snaps = snaps }) state.snaps k old new r (told_snap depth message old) at h)

pub loaded_at_free : (i depth first count : ℕ) (bytes : List ℕ) (table : Table) (old new : Stacked) (r : Result (Unit {0}) Refusal) → i < length table.stacks → old ≡ get_or table.stacks i old → Changes r old new (loaded_free depth first count bytes old) → Changes r table (put i new table) (loaded_at (Free i depth) first count bytes table)
unfolding loaded_at
loaded_at_free i depth first count bytes table old new r lt at h =
    let there = stack_here table i old lt at in
    rw there (changes_at (λ (stacks : List Stacked). record { stacks = stacks; volumes = table.volumes }) table.stacks i old new r (loaded_free depth first count bytes old) at h)

-- A merge is begun or not as before, and there are as many snapshots.
pub record KeepsCounts (old new : Merged) : Type 0 where
  pub snaps : length new.volume.snaps ≡ length old.volume.snaps
  pub begun : is_some new.merge ≡ is_some old.merge

beside_keeps : (old : Merged) (told : Result (Answer × Settled) Refusal) (done : Answer × Merged) → ((one : Answer × Settled) → told ≡ Ok one → length one.1.snaps ≡ length old.volume.snaps) → told_beside old.merge told ≡ Ok done → KeepsCounts old done.1
beside_keeps old told done keeps h =
    let a = came_by told _ done h in
    subst (λ (d : Answer × Merged). KeepsCounts old d.1) (same_ok _ done a.2) (record { snaps = keeps a.0 a.1; begun = refl })

under_keeps : (depth : ℕ) (message : Message) (old : Settled) (done : Answer × Settled) → told_under depth message old ≡ Ok done → length done.1.snaps ≡ length old.snaps
unfolding told_under
under_keeps depth message old done h =
    let a = came_by (told_in old.origin depth message) _ done h in ap (λ (d : Answer × Settled). length d.1.snaps) (sym (same_ok _ done a.2))

store_keeps : (k depth : ℕ) (message : Message) (old : Settled) (done : Answer × Settled) → told_store k depth message old ≡ Ok done → length done.1.snaps ≡ length old.snaps
unfolding told_store
store_keeps k depth message old done h =
    let a = came_by (snap_at k old) _ done h in
    let b = came_by (told_snap depth message a.0) _ done a.2 in
    ap (λ (d : Answer × Settled). length d.1.snaps) (sym (same_ok _ done b.2)) ∙ length-set old.snaps k b.0.1

merging_keeps : (depth : ℕ) (message : Message) (merge : Option Merge) (state : Settled) (done : Answer × Merged) → told_merging depth message merge state ≡ Ok done → KeepsCounts (record { volume = state; merge = merge }) done.1
unfolding told_merging
merging_keeps depth message None state done h = absurd (not_ok NoSuchDevice done h)
merging_keeps depth message (Some g) state done h =
    let a = came_by (told_merge depth message g) _ done h in
    subst (λ (d : Answer × Merged). KeepsCounts (record { volume = state; merge = Some g }) d.1) (same_ok _ done a.2) (record { snaps = refl; begun = refl })

told_keeps : (role : Role) (message : Message) (old : Merged) (done : Answer × Merged) → told_role role message old ≡ Ok done → KeepsCounts old done.1
told_keeps Origin message old done h = absurd (not_ok BadTable done h)
told_keeps (Under depth) message old done h = beside_keeps old (told_under depth message old.volume) done (under_keeps depth message old.volume) h
told_keeps (Snapshot k) message old done h = absurd (not_ok BadTable done h)
told_keeps (Store k depth) message old done h = beside_keeps old (told_store k depth message old.volume) done (store_keeps k depth message old.volume) h
told_keeps Merging message old done h = absurd (not_ok BadTable done h)
told_keeps (MergingStore depth) message old done h = merging_keeps depth message old.merge old.volume done h

-- a message keeps the number of snapshots, and the merge
pub told_count : (r : Result Answer Refusal) (role : Role) (message : Message) (old new : Merged) → Steps r old new (told_role role message old) → KeepsCounts old new
told_count (Ok answer) role message old new h = told_keeps role message old (answer, new) h
told_count (Err e) role message old new h = subst (KeepsCounts old) (sym h.0) (record { snaps = refl; begun = refl })
