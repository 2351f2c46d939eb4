-- In what order the snapshots of a volume stand, and its stores. This project's own.
use Rattle.std.specs.Prelude.{◌≡◌, ◌<◌, ℕ, true, List, length, map, AllPairs, Option, Some, None, Result, Ok, Err}
use Rattle.sector.specs.declared.refusal.Refusal.{Refusal}
use Rattle.table.specs.declared.lines.Target.{Target}
use Rattle.table.specs.declared.lines.Target.TheVariants as targets
use Rattle.command_semantics.specs.declared.place.Place.{Place}
use Rattle.command_semantics.specs.declared.place.Place.TheVariants.{Free, In}
use Rattle.volume_commands.specs.Ordered.{IsOrdered}
use Rattle.command_semantics.specs.State.{Volume, Table, merged_in}
use Rattle.command_semantics.specs.Places.{place_of, volume_at}
use Rattle.command_semantics.specs.Sound.{is_sound_volume}
use Rattle.device_list.specs.Tables.{table_of}
use Rattle.device_list.specs.declared.held.Devices.{Devices}

-- Whatever is in flight, each snapshot has its name, and a number above those before it. Where no device drops writes and nothing
-- is left to do, the stores of those that are live, and that of a merge, are in order.
pub record IsInOrder (volume : Volume) : Type 0 where
  pub named : length volume.snaps ≡ length volume.state.snaps
  pub numbers : AllPairs (λ m n. m < n) (map (λ s. s.number) volume.state.snaps)
  pub ordered : is_sound_volume volume ≡ true → IsOrdered (merged_in volume)

abbrev pub IsInOrderIn : Result Volume Refusal → Type 0
IsInOrderIn (Err refusal) = Unit {0}
IsInOrderIn (Ok volume) = IsInOrder volume

-- the volume that has the device at a place
abbrev pub IsInOrderAt : Table → Option Place → Type 0
IsInOrderAt table None = Unit {0}
IsInOrderAt table (Some (Free i depth)) = Unit {0}
IsInOrderAt table (Some (In v role)) = IsInOrderIn (volume_at v table)

-- and the device of a name
abbrev pub IsInOrderFor : List ℕ → Table → Type 0
IsInOrderFor name table = IsInOrderAt table (place_of name table)

abbrev pub IsOrderedFor : List ℕ → Devices → Type 0
IsOrderedFor name held = IsInOrderFor name (table_of held)

-- if there is a name
abbrev pub IsLookedAt : Table → Option (List ℕ) → Type 0
IsLookedAt table None = Unit {0}
IsLookedAt table (Some name) = IsInOrderFor name table

-- the name on whose volume a target's snapshot is made
abbrev pub changed_under : Target → Option (List ℕ)
changed_under (targets.Snapshot device store chunk overflow) = Some device
changed_under (targets.Origin device) = None
changed_under (targets.Merge device store chunk overflow) = None
changed_under (targets.Flakey device offset up down features) = None
changed_under (targets.Dust device block) = None
changed_under targets.Error = None
