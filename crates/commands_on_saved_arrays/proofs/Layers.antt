-- The time and messages change layers, and nothing that is shown.
use Rattle.std.proofs.Common.{◌≡◌, ℕ, List, [], ◌∷◌, map, refl, ap, ◌∙◌, sym}
use Rattle.std.specs.Prelude.{Option, Some, None, Ok}
use Rattle.sector.specs.declared.refusal.Refusal.TheVariants.{BadTable, NoSuchDevice}
use Rattle.device.specs.Layers.{Layer}
use Rattle.layers.specs.declared.message.Message.{Message}
use Rattle.layers.specs.declared.message.Answer.{Answer}
use Rattle.layers.specs.Messages.{Told, Refused, Answered, told}
use Rattle.layers.specs.Ticks.{layers_ticked}
use Rattle.plain_machine.specs.Plain.{Saved}
use Rattle.whole_commands.specs.Devices.{Device}
use Rattle.whole_commands.specs.Snaps.{Snap, Volume as Settled, shown}
use Rattle.whole_commands.specs.Merges.{Merge, Merged}
use Rattle.whole_commands.specs.MergeShown.{array_of}
use Rattle.whole_commands.specs.Moments.{store_relayered}
use Rattle.whole_commands.specs.MergedMoments.{store_relayered as merging_relayered}
use Rattle.command_semantics.specs.declared.place.Role.{Role}
use Rattle.command_semantics.specs.declared.place.Role.TheVariants.{Origin, Under, Snapshot, Store, Merging, MergingStore}
use Rattle.command_semantics.specs.State.{Names, Merging as Begun, Volume, Table, merge_in, merged_in, with_merge}
use Rattle.command_semantics.specs.Messages.{with_layers, told_in, told_snap, told_store, told_under, told_merge, told_merging, told_role, snap_at, told_mounted, volume_ticked, ticked, with_store}
use Rattle.command_semantics.proofs.Keeping.{came_by, same_ok, not_ok}
use Rattle.commands_on_saved_arrays.specs.Arrays.{Named, Arrays, named_by, arrays_of, arrays_in}
use Rattle.commands_on_saved_arrays.proofs.Lists.{snap_there}
use Rattle.commands_on_saved_arrays.proofs.Tables.{named_same}
use Rattle.command_semantics.proofs.InTable.{told_count}
use Rattle.commands_on_saved_arrays.proofs.Writes.{arrays_at, after_arrays}

-- snapshots with other layers
relayered_named : (f : List Layer → List Layer) (disk : List ℕ) (names : List Names) (snaps : List Snap) → named_by disk names (map (store_relayered f) snaps) ≡ named_by disk names snaps
relayered_named f disk [] snaps = refl
relayered_named f disk (n ∷ names) [] = refl
relayered_named f disk (n ∷ names) (s ∷ snaps) = ap (λ xs. let e : Named = record { name = n.snapshot; saved = shown disk s } in e ∷ xs) (relayered_named f disk names snaps)

relayered_array : (f : List Layer → List Layer) (disk : List ℕ) (g : Option Begun) → array_of disk (merge_in (with_merge g (merging_relayered f (merge_in g)))) ≡ array_of disk (merge_in g)
relayered_array f disk None = refl
relayered_array f disk (Some g) = refl

volume_ticks : (seconds : ℕ) (volume : Volume) → arrays_of (volume_ticked seconds volume) ≡ arrays_of volume
volume_ticks seconds volume =
    let disk : List ℕ = volume.state.origin.bytes in
    let f : List Layer → List Layer = layers_ticked seconds in
    ap (λ a. let r : Arrays = record { name = volume.origin; array = a; snaps = named_by disk volume.snaps (map (store_relayered f) volume.state.snaps) } in r) (relayered_array f disk volume.merging)
    ∙ ap (λ ns. let r : Arrays = record { name = volume.origin; array = array_of disk (merge_in volume.merging); snaps = ns } in r) (relayered_named f disk volume.snaps volume.state.snaps)

-- the time
pub ticked_shows : (seconds : ℕ) (table : Table) → arrays_in (ticked seconds table) ≡ arrays_in table
unfolding ticked
ticked_shows seconds table = all table.volumes
  where
    all : (volumes : List Volume) → map arrays_of (map (volume_ticked seconds) volumes) ≡ map arrays_of volumes
    all [] = refl
    all (v ∷ volumes) = ap (λ a. a ∷ map arrays_of (map (volume_ticked seconds) volumes)) (volume_ticks seconds v) ∙ ap (λ xs. arrays_of v ∷ xs) (all volumes)

-- a message leaves the bytes of its device
told_bytes : (device : Device) (depth : ℕ) (message : Message) (done : Answer × Device) → told_in device depth message ≡ Ok done → done.1.bytes ≡ device.bytes
unfolding told_in
told_bytes device depth message done is = by (told device.layers depth message) is
  where
    by : (t : Told (List Layer)) → with_layers device t ≡ Ok done → done.1.bytes ≡ device.bytes
    by (Refused refusal) h = absurd (not_ok refusal done h)
    by (Answered answer layers) h = ap (λ (d : Answer × Device). d.1.bytes) (sym (same_ok _ done h))

-- what a volume with its merge shows under names
shows_told : (name : List ℕ) (names : List Names) (role : Role) (message : Message) (m : Merged) (done : Answer × Merged) → told_role role message m ≡ Ok done → arrays_at name names done.1 ≡ arrays_at name names m
unfolding told_under told_store told_snap told_merging told_merge
shows_told name names Origin message m done is = absurd (not_ok BadTable done is)
shows_told name names (Under depth) message m done is =
    let a = came_by (told_under depth message m.volume) _ done is in
    ap (λ (d : Answer × Merged). arrays_at name names d.1) (sym (same_ok _ done a.2)) ∙ under a.0 a.1
  where
    under : (done : Answer × Settled) → told_under depth message m.volume ≡ Ok done → (let after : Merged = record { volume = done.1; merge = m.merge } in arrays_at name names after ≡ arrays_at name names m)
    under done h =
        let a = came_by (told_in m.volume.origin depth message) _ done h in
        let over : List ℕ → Arrays = λ disk. record { name = name; array = array_of disk m.merge; snaps = named_by disk names m.volume.snaps } in
        ap (λ (d : Answer × Settled). let after : Merged = record { volume = d.1; merge = m.merge } in arrays_at name names after) (sym (same_ok _ done a.2)) ∙ ap over (told_bytes m.volume.origin depth message a.0 a.1)
shows_told name names (Snapshot k) message m done is = absurd (not_ok BadTable done is)
shows_told name names (Store k depth) message m done is =
    let a = came_by (told_store k depth message m.volume) _ done is in
    ap (λ (d : Answer × Merged). arrays_at name names d.1) (sym (same_ok _ done a.2)) ∙ store a.0 a.1
  where
    store : (done : Answer × Settled) → told_store k depth message m.volume ≡ Ok done → (let after : Merged = record { volume = done.1; merge = m.merge } in arrays_at name names after ≡ arrays_at name names m)
    store done h =
        let a = came_by (snap_at k m.volume) _ done h in
        let b = came_by (told_snap depth message a.0) _ done a.2 in
        let c = came_by (told_in a.0.store depth message) _ b.0 b.1 in
        let disk : List ℕ = m.volume.origin.bytes in
        let with : List ℕ → Saved = λ bytes. shown disk (with_store (record { bytes = bytes; layers = c.0.1.layers }) a.0) in
        let same : shown disk b.0.1 ≡ shown disk a.0 = ap (λ (d : Answer × Snap). shown disk d.1) (sym (same_ok _ b.0 c.2)) ∙ ap with (told_bytes a.0.store depth message c.0 c.1) in
        let over : List Named → Arrays = λ ns. record { name = name; array = array_of disk m.merge; snaps = ns } in
        ap (λ (d : Answer × Settled). let after : Merged = record { volume = d.1; merge = m.merge } in arrays_at name names after) (sym (same_ok _ done b.2))
        ∙ ap over (named_same disk k names m.volume.snaps a.0 b.0.1 (snap_there k m.volume a.0 a.1) same)
shows_told name names Merging message m done is = absurd (not_ok BadTable done is)
shows_told name names (MergingStore depth) message m done is = merging m.merge refl is
  where
    merging : (o : Option Merge) → m.merge ≡ o → told_merging depth message o m.volume ≡ Ok done → arrays_at name names done.1 ≡ arrays_at name names m
    merging None e h = absurd (not_ok NoSuchDevice done h)
    merging (Some g) e h =
        let a = came_by (told_merge depth message g) _ done h in
        let b = came_by (told_in g.store depth message) _ a.0 a.1 in
        let disk : List ℕ = m.volume.origin.bytes in
        let snaps : List Named = named_by disk names m.volume.snaps in
        let over : Option Merge → Arrays = λ o. record { name = name; array = array_of disk o; snaps = snaps } in
        let with : List ℕ → Arrays = λ bytes. over (Some (record g { store = record { bytes = bytes; layers = b.0.1.layers } })) in
        ap (λ (d : Answer × Merged). arrays_at name names d.1) (sym (same_ok _ done a.2)) ∙ ap (λ (d : Answer × Merge). over (Some d.1)) (sym (same_ok _ a.0 b.2)) ∙ ap with (told_bytes g.store depth message b.0 b.1) ∙ ap over (sym e)

-- a message to a device of a volume
pub told_shows : (role : Role) (message : Message) (volume : Volume) (done : Answer × Volume) → told_mounted role message volume ≡ Ok done → arrays_of done.1 ≡ arrays_of volume
unfolding told_mounted
told_shows role message volume done is =
    let a = came_by (told_role role message (merged_in volume)) _ done is in
    let keeps = told_count (Ok a.0.0) role message (merged_in volume) a.0.1 a.1 in
    ap (λ (d : Answer × Volume). arrays_of d.1) (sym (same_ok _ done a.2)) ∙ after_arrays volume 0 a.0.1 keeps.begun ∙ shows_told volume.origin volume.snaps role message (merged_in volume) a.0 a.1
