-- Where a command's rule speaks: of its own volume, and so of each volume of a sound table.
use Rattle.std.proofs.Common.{◌≡◌, ℕ, ◌<◌, true, List, length, get_or, refl, sym, ap, ◌∙◌}
use Rattle.std.specs.Prelude.{Result, Ok, Err}
use Rattle.sector.specs.declared.refusal.Refusal.{Refusal}
use Rattle.device.specs.Layers.{is_loud}
use Rattle.table.specs.declared.lines.Target.{Target}
use Rattle.table.specs.declared.lines.Target.TheVariants.{Origin, Snapshot, Merge, Flakey, Dust, Error}
use Rattle.command_semantics.specs.declared.place.Place.{Place}
use Rattle.command_semantics.specs.declared.place.Place.TheVariants.{Free, In}
use Rattle.command_semantics.specs.State.{Stacked, Volume, Table}
use Rattle.command_semantics.specs.Places.{place_of, found, volume_at}
use Rattle.command_semantics.specs.Snapshots.{Named, named_in}
use Rattle.command_semantics.specs.Sound.{is_sound, is_sound_stack, is_sound_volume}
use Rattle.command_semantics.proofs.AtPlace.{stack_here, volume_here}
use Rattle.command_semantics.proofs.Keeping.{volume_there}
use Rattle.command_semantics.proofs.NamedRules.{AreThere, named_there}
use Rattle.command_semantics.proofs.SoundFrames.{both, of_both, stack_sound, volume_whole}
use Rattle.device_commands.specs.Devices.{named_at}
use Rattle.device_commands.specs.Ruled.{volume_with, volume_for, is_loud_in, is_quiet_in, is_sound_in, is_sound_for, is_sound_target}

-- the volume at a place, of which no device drops writes, and in which nothing is in flight
pub sound_here : (table : Table) (v : ℕ) (old : Volume) → is_sound_in (volume_at v table) ≡ true → v < length table.volumes → old ≡ get_or table.volumes v old → (old.sound ≡ true) × (old.quiet ≡ true)
sound_here table v old sound lt at = both old.sound old.quiet (sym (ap is_sound_in (volume_here table v old lt at)) ∙ sound)

pub quiet_here : (table : Table) (v : ℕ) (old : Volume) → is_quiet_in (volume_at v table) ≡ true → v < length table.volumes → old ≡ get_or table.volumes v old → old.quiet ≡ true
quiet_here table v old quiet lt at = sym (ap is_quiet_in (volume_here table v old lt at)) ∙ quiet

-- and of which no device drops writes
pub loud_here : (table : Table) (v : ℕ) (old : Volume) → is_loud_in (volume_at v table) ≡ true → v < length table.volumes → old ≡ get_or table.volumes v old → old.sound ≡ true
loud_here table v old loud lt at = sym (ap is_loud_in (volume_here table v old lt at)) ∙ loud

-- a volume and a stack that are there
pub both_here : (table : Table) (v i : ℕ) (old : Volume) (stacked : Stacked) → is_sound_for (named_at v i table) ≡ true → v < length table.volumes → old ≡ get_or table.volumes v old → i < length table.stacks → stacked ≡ get_or table.stacks i stacked → (old.sound ≡ true) × (old.quiet ≡ true) × (is_loud stacked.device.layers ≡ true)
both_here table v i old stacked sound v_lt v_at i_lt i_at =
    let below = stack_here table i stacked i_lt i_at in
    let here = volume_here table v old v_lt v_at in
    let named : named_at v i table ≡ Ok (record { v = v; i = i; stacked = stacked; volume = old }) = rw below (rw here refl) in
    let h = both (is_sound_volume old) (is_sound_stack stacked) (sym (ap is_sound_for named) ∙ sound) in
    let w = both old.sound old.quiet h.0 in (w.0, w.1, h.1)

-- where no device drops writes and nothing is in flight at all
volume_ruled : (table : Table) (v : ℕ) (r : Result Volume Refusal) → volume_at v table ≡ r → is_sound table ≡ true → is_sound_in r ≡ true
volume_ruled table v (Err e) is sound = refl
volume_ruled table v (Ok old) is sound = let there = volume_there v table old is in volume_whole table v old sound there.0 there.1

place_ruled : (table : Table) (place : Result Place Refusal) → is_sound table ≡ true → is_sound_in (volume_with table place) ≡ true
place_ruled table (Err e) sound = refl
place_ruled table (Ok (Free i depth)) sound = refl
place_ruled table (Ok (In v role)) sound = volume_ruled table v (volume_at v table) refl sound

pub name_ruled : (name : List ℕ) (table : Table) → is_sound table ≡ true → is_sound_in (volume_for name table) ≡ true
name_ruled name table sound = place_ruled table (found (place_of name table)) sound

quiet_where_sound : (r : Result Volume Refusal) → is_sound_in r ≡ true → is_quiet_in r ≡ true
quiet_where_sound (Err e) sound = refl
quiet_where_sound (Ok volume) sound = (both volume.sound volume.quiet sound).1

pub name_still : (name : List ℕ) (table : Table) → is_sound table ≡ true → is_quiet_in (volume_for name table) ≡ true
name_still name table sound = quiet_where_sound (volume_for name table) (name_ruled name table sound)

loud_where_sound : (r : Result Volume Refusal) → is_sound_in r ≡ true → is_loud_in r ≡ true
loud_where_sound (Err e) sound = refl
loud_where_sound (Ok volume) sound = (both volume.sound volume.quiet sound).0

pub name_loud : (name : List ℕ) (table : Table) → is_sound table ≡ true → is_loud_in (volume_for name table) ≡ true
name_loud name table sound = loud_where_sound (volume_for name table) (name_ruled name table sound)

named_ruled : (table : Table) (r : Result Named Refusal) → ((n : Named) → r ≡ Ok n → AreThere table n) → is_sound table ≡ true → is_sound_for r ≡ true
named_ruled table (Err e) there sound = refl
named_ruled table (Ok n) there sound =
    let at = there n refl in
    of_both (is_sound_volume n.volume) (is_sound_stack n.stacked) (volume_whole table n.v n.volume sound at.v_lt at.v_at) (stack_sound table n.i n.stacked sound at.i_lt at.i_at)

pub target_ruled : (sectors : ℕ) (target : Target) (table : Table) → is_sound table ≡ true → is_sound_target sectors target table ≡ true
target_ruled sectors (Snapshot device store chunk overflow) table sound = named_ruled table (named_in sectors device store table) (named_there sectors device store table) sound
target_ruled sectors (Origin device) table sound = refl
target_ruled sectors (Merge device store chunk overflow) table sound = refl
target_ruled sectors (Flakey device offset up down features) table sound = refl
target_ruled sectors (Dust device block) table sound = refl
target_ruled sectors Error table sound = refl
