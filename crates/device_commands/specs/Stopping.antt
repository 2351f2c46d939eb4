-- What stopping does to the volume at a place.
use Rattle.std.specs.Prelude.{◌≡◌, ◌≢◌, ℕ, List, ◌++◌, Result, Ok, Err, Some, length, map, slice_get, take}
use Rattle.std.specs.List.{remove}
use Rattle.sector.specs.declared.refusal.Refusal.{Refusal}
use Rattle.sector.specs.declared.refusal.Refusal.TheVariants.{NoMemory}
use Rattle.layers.specs.Stack.{stack_durable}
use Rattle.volume.specs.Stopped.{devices_of}
use Rattle.words.specs.Given.{◌>>=◌}
use Rattle.command_semantics.specs.State.{Stacked, Table}
use Rattle.command_semantics.specs.Places.{volume_at}
use Rattle.command_semantics.specs.Events.{origin_by}
use Rattle.command_semantics.specs.Losing.{HaveLost, lasting}
use Rattle.command_semantics.specs.Stopping.{stopped}
use Rattle.device_list.specs.Backed.{Backed, Left}
use Rattle.device_list.specs.Tables.{table_of}
use Rattle.device_list.specs.declared.held.Devices.{Devices}

-- it is none of the volumes any more, and its stacks are left
abbrev pub stopped_at : ℕ → Table → Result Table Refusal
stopped_at v table = do
  volume ← volume_at v table
  Ok (record { stacks = table.stacks ++ stopped volume; volumes = remove table.volumes v })

-- The stacks that were left of a volume stand behind the others, with their names and their layers, and the bytes of each are what
-- was durable in its device.
pub record AreFreedLost (left : Left) (old new : List Stacked) : Type 0 where
  pub others : take (length old) new ≡ old
  pub lasts : map lasting new ≡ map lasting old ++ map lasting left.shown
  pub bytes : map (λ s. s.device.bytes) new ≡ map (λ s. s.device.bytes) old ++ map stack_durable left.devices

-- the volume is stopped, and the stacks that are left of it lose; a refusal changes nothing
abbrev pub StopsLosingAt : Result (Unit {0}) Refusal → ℕ → Table → Table → Type 0
StopsLosingAt (Ok _) v old new = (left : Table) × (stopped_at v old ≡ Ok left) × HaveLost (length old.stacks) left new
StopsLosingAt (Err e) v old new = (new ≡ old) × (e ≢ NoMemory → stopped_at v old ≡ Err e)

-- The bytes of the stacks that are left of the volume at a place are what was durable in its devices: in that of the origin, and then
-- in those of the stores, in order of attaching. They stand behind those of the others, which are as they were.
pub record IsLeftDurable (v : ℕ) (volumes : List Backed) (old new : List Stacked) : Type 0 where
  pub volume : Backed
  pub there : slice_get volumes v ≡ Some volume
  pub bytes : map (λ s. s.device.bytes) new ≡ map (λ s. s.device.bytes) old ++ map stack_durable (devices_of volume.events)

-- the same of the volume of a name
abbrev pub IsLeftDurableOf : List ℕ → Devices → Devices → Type 0
IsLeftDurableOf name old new = (v : ℕ) × (origin_by name (table_of old) ≡ Ok v) × IsLeftDurable v old.volumes.items old.stacks.items new.stacks.items
