-- A volume is stopped, and each of its disks loses what was not flushed: its sectors go back to their values at the last flush.
-- Which bytes these are is said where the disks are (`layers::Stack::lose`); here they are some bytes, as many as before. The
-- command is this project's own.
use Rattle.std.specs.Prelude.{◌≡◌, ◌≢◌, ℕ, List, length, take, map, Bool, Result, Ok, Err}
use Rattle.sector.specs.declared.refusal.Refusal.{Refusal}
use Rattle.sector.specs.declared.refusal.Refusal.TheVariants.{NoMemory}
use Rattle.device.specs.Layers.{Layer}
use Rattle.layers.specs.Windows.{without_windows}
use Rattle.command_semantics.specs.State.{Stacked, Table}
use Rattle.command_semantics.specs.Stopping.{volume_stopped}

-- what a stack has left after a loss: its names, its layers, how many bytes it has, and whether there is a mark
pub record Lasting : Type 0 where
  pub names : List (List ℕ)
  pub layers : List Layer
  pub bytes : ℕ
  pub stale : Bool

abbrev pub lasting : Stacked → Lasting
lasting s = record { names = s.names; layers = without_windows s.device.layers; bytes = length s.device.bytes; stale = s.stale }

-- the stacks after so many others lost what was not flushed; those and the volumes are as they were
pub record HaveLost (count : ℕ) (old new : Table) : Type 0 where
  pub volumes : new.volumes ≡ old.volumes
  pub others : take count new.stacks ≡ take count old.stacks
  pub lost : map lasting new.stacks ≡ map lasting old.stacks

-- `stop VOL lose`: the volume is stopped, and the stacks that are left of it lose. A refusal changes nothing.
abbrev pub StopsLosing : Result (Unit {0}) Refusal → List ℕ → Table → Table → Type 0
StopsLosing (Ok _) name old new = (stopped : Table) × (volume_stopped name old ≡ Ok stopped) × HaveLost (length old.stacks) stopped new
StopsLosing (Err e) name old new = (new ≡ old) × (e ≢ NoMemory → volume_stopped name old ≡ Err e)
