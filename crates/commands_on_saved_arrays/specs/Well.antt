-- What holds of any volume of the program, and of one over which no device drops writes and in which nothing is in flight: the
-- premises of the laws of this crate. This project's own.
use Rattle.std.specs.Prelude.{◌≡◌, ℕ, ◌<◌, List, length, map, AllPairs, Some, Ok}
use Rattle.volume_commands.specs.Ordered.{IsOrdered}
use Rattle.table.specs.declared.lines.Target.{Target}
use Rattle.table.specs.declared.lines.Target.TheVariants as targets
use Rattle.command.specs.declared.grammar.Command.{Command}
use Rattle.command.specs.declared.grammar.Command.TheVariants as commands
use Rattle.command_semantics.specs.declared.place.Role.{Role}
use Rattle.command_semantics.specs.declared.place.Place.TheVariants.{In}
use Rattle.command_semantics.specs.State.{Volume, Table, merged_in}
use Rattle.command_semantics.specs.Places.{place_of, volume_at}

-- Of any volume: each snapshot has its name, and a number above those before it.
pub record IsNumbered (volume : Volume) : Type 0 where
  pub named : length volume.snaps ≡ length volume.state.snaps
  pub numbers : AllPairs (λ m n. m < n) (map (λ s. s.number) volume.state.snaps)

-- The stores of live snapshots and that of a merge are in order, too.
pub record IsWell (volume : Volume) : Type 0 where
  pub numbered : IsNumbered volume
  pub ordered : IsOrdered (merged_in volume)

-- this holds of the volume that has the device of a name
abbrev pub HoldsFor : (Volume → Type 0) → List ℕ → Table → Type 0
HoldsFor holds name table = (v : ℕ) (role : Role) (volume : Volume) → place_of name table ≡ Some (In v role) → volume_at v table ≡ Ok volume → holds volume

abbrev pub IsNumberedFor : List ℕ → Table → Type 0
IsNumberedFor name table = HoldsFor IsNumbered name table

abbrev pub IsWellFor : List ℕ → Table → Type 0
IsWellFor name table = HoldsFor IsWell name table

-- the volume that a snapshot's line names is numbered
abbrev pub IsNumberedTarget : Target → Table → Type 0
IsNumberedTarget (targets.Snapshot device store chunk overflow) table = IsNumberedFor device table
IsNumberedTarget (targets.Origin device) table = Unit {0}
IsNumberedTarget (targets.Merge device store chunk overflow) table = Unit {0}
IsNumberedTarget (targets.Flakey device offset up down features) table = Unit {0}
IsNumberedTarget (targets.Dust device block) table = Unit {0}
IsNumberedTarget targets.Error table = Unit {0}

-- The volume that a command changes, if it changes what one shows: one that is written, or whose merge goes on, is well.
abbrev pub IsWellOf : Command → Table → Type 0
IsWellOf (commands.Create name line) table = IsNumberedTarget line.target table
IsWellOf (commands.Remove name) table = IsNumberedFor name table
IsWellOf (commands.Write name first bytes) table = IsWellFor name table
IsWellOf (commands.Settle name) table = IsWellFor name table
IsWellOf (commands.Merge name) table = IsNumberedFor name table
IsWellOf (commands.Disk name sectors) table = Unit {0}
IsWellOf (commands.Load disk first bytes) table = Unit {0}
IsWellOf (commands.Save disk first count) table = Unit {0}
IsWellOf (commands.Copy from first to count) table = Unit {0}
IsWellOf commands.List table = Unit {0}
IsWellOf (commands.Message device message) table = Unit {0}
IsWellOf (commands.Tick seconds) table = Unit {0}
IsWellOf (commands.Read device first count) table = Unit {0}
IsWellOf (commands.Flush device) table = Unit {0}
IsWellOf (commands.StartRead device first count) table = Unit {0}
IsWellOf (commands.StartWrite device first bytes) table = Unit {0}
IsWellOf (commands.Step volume event) table = Unit {0}
IsWellOf (commands.Resume volume) table = Unit {0}
IsWellOf (commands.Finish volume) table = Unit {0}
IsWellOf (commands.Checkpoint volume) table = Unit {0}
IsWellOf (commands.Stop volume) table = Unit {0}
IsWellOf (commands.StopLosing volume) table = Unit {0}
IsWellOf (commands.Status device) table = Unit {0}
IsWellOf (commands.Table device) table = Unit {0}
IsWellOf (commands.Map device) table = Unit {0}
