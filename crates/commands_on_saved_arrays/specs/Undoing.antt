-- To be believed: what lines do to what volumes show is said in these words.
-- A snapshot that no command writes, from when it is made until it is merged.
use Rattle.std.specs.Prelude.{◌≡◌, ◌≢◌, ◌⊎◌, ℕ, List, slice_get, Some, Ok}
use Rattle.std.specs.List.{All}
use Rattle.sector.specs.Bytes.{sector_at}
use Rattle.cow_header.specs.HeaderText.{found_in}
use Rattle.cow_header.specs.declared.found.Found.TheVariants.{Fresh}
use Rattle.command.specs.declared.grammar.Command.{Command}
use Rattle.command.specs.declared.grammar.Command.TheVariants as commands
use Rattle.plain_machine.specs.Plain.{Live, Invalid}
use Rattle.command_semantics.specs.Events.{origin_by}
use Rattle.command_semantics.specs.Places.{place_of, volume_at}
use Rattle.command_semantics.specs.Snapshots.{over}
use Rattle.command_semantics.specs.State.{Stacked, Table, Volume}
use Rattle.commands_on_saved_arrays.specs.Arrays.{Arrays, arrays_in, arrays_of}
use Rattle.commands_on_saved_arrays.specs.Commands.{stack_named}

-- no snapshot has this name
abbrev pub HasNone : List ℕ → List Arrays → Type 0
HasNone name shown = All (λ a. All (λ s. s.name ≢ name) a.snaps) shown

-- a snapshot of this name is one of the origin of that name, and shows this array, or is lost for good
abbrev pub ShowsStill : List ℕ → List ℕ → List ℕ → List Arrays → Type 0
ShowsStill name origin array shown = All (λ a. All (λ s. s.name ≡ name → (a.name ≡ origin) × ((s.saved ≡ Live array) ⊎ (s.saved ≡ Invalid))) a.snaps) shown

-- the origin of this name shows this array
pub record OriginShows (origin array : List ℕ) (shown : List Arrays) : Type 0 where
  pub place : ℕ
  pub volume : Arrays
  pub there : slice_get shown place ≡ Some volume
  pub name : volume.name ≡ origin
  pub shows : volume.array ≡ array

-- the stack of this name, which nothing uses, is a store without a header
abbrev pub IsFreshIn : List ℕ → Table → Type 0
IsFreshIn store table = (under : Stacked) → stack_named store table ≡ Ok under → found_in (sector_at under.device.bytes 0) ≡ Ok Fresh

-- this is what the volume shows whose origin stands on the device of this name
pub record IsOver (device : List ℕ) (table : Table) (shown : Arrays) : Type 0 where
  pub place : ℕ
  pub over_it : over (place_of device table) ≡ Ok place
  pub there : slice_get (arrays_in table) place ≡ Some shown

-- What the origin of this name shows stands on its device: no merge is begun in its volume.
pub record IsOnDisk (name : List ℕ) (old new : Table) : Type 0 where
  pub place : ℕ
  pub volume : Volume
  pub origin : origin_by name old ≡ Ok place
  pub there : volume_at place new ≡ Ok volume
  pub disk : (arrays_of volume).array ≡ volume.state.origin.bytes

-- a command that makes no device of this name, and writes none
abbrev pub Spares : List ℕ → Command → Type 0
Spares name (commands.Create device line) = device ≢ name
Spares name (commands.Write device first bytes) = device ≢ name
Spares name (commands.Remove device) = Unit {0}
Spares name (commands.Settle volume) = Unit {0}
Spares name (commands.Merge device) = Unit {0}
Spares name (commands.Disk device sectors) = Unit {0}
Spares name (commands.Load disk first bytes) = Unit {0}
Spares name (commands.Save disk first count) = Unit {0}
Spares name (commands.Copy from first to count) = Unit {0}
Spares name commands.List = Unit {0}
Spares name (commands.Message device message) = Unit {0}
Spares name (commands.Tick seconds) = Unit {0}
Spares name (commands.Read device first count) = Unit {0}
Spares name (commands.Flush device) = Unit {0}
Spares name (commands.StartRead device first count) = Unit {0}
Spares name (commands.StartWrite device first bytes) = Unit {0}
Spares name (commands.Step volume event) = Unit {0}
Spares name (commands.Resume volume) = Unit {0}
Spares name (commands.Finish volume) = Unit {0}
Spares name (commands.Checkpoint volume) = Unit {0}
Spares name (commands.Stop volume) = Unit {0}
Spares name (commands.StopLosing volume) = Unit {0}
Spares name (commands.Status device) = Unit {0}
Spares name (commands.Table device) = Unit {0}
Spares name (commands.Map device) = Unit {0}
