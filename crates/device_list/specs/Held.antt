-- What holds of a volume with the names of its devices. This project's own.
use Rattle.std.specs.Prelude.{◌≡◌, ◌≤◌, ℕ, Bool, true, List, length, Option, Some, None, IfNone, is_some, if◌then◌else◌}
use Rattle.layers.specs.declared.stack.Stack.{Stack}
use Rattle.layers.specs.Stack.{stack_contents, stack_layers}
use Rattle.event_machine.specs.Held.{Moving}
use Rattle.whole_commands.specs.Snaps.{Volume as Settled}
use Rattle.volume.specs.Volumed.{Volumed}
use Rattle.volume.specs.Leaving.{is_quiet_of}
use Rattle.volume_commands.specs.Flying.{flying_of}
use Rattle.volume_commands.specs.Rested.{Rested, settled_of, merged_of, is_loud_in, IsSettled}
use Rattle.whole_commands.specs.Merges.{Merge, Merged}
use Rattle.command_semantics.specs.State.{Names, Merging}

-- the settled machine's volume of a volume over stacks
abbrev pub settled_in : Rested Stack → Settled
settled_in volume = settled_of stack_contents stack_layers volume

-- the same with the merge, if one is begun
abbrev pub merged_inside : Rested Stack → Merged
merged_inside volume = merged_of stack_contents stack_layers volume

-- the names of a merge with what is merged
abbrev pub with_names : Names → Option Merge → Option Merging
with_names names None = None
with_names names (Some merge) = Some (record { names = names; merge = merge })

abbrev pub merging_with : Option Names → Rested Stack → Option Merging
merging_with None volume = None
merging_with (Some names) volume = with_names names (merged_inside volume).merge

-- what is in flight in a volume of events over stacks, if anything is
abbrev pub flying_in : Volumed Stack → Option Moving
flying_in events = if is_quiet_of events then None else Some (flying_of stack_contents stack_layers events)

abbrev pub IsSettledIn : Rested Stack → Type 0
IsSettledIn volume = IsSettled stack_layers volume

-- There is a name for each snapshot, and names for the merge exactly where one is begun; the numbers of requests are bounded by the sectors that were asked for; and where the
-- volume is said to be sound, no device drops writes.
pub record IsHeld (names : List Names) (merging : Option Names) (volume : Rested Stack) (asked : ℕ) (sound : Bool) : Type 0 where
  pub many : length names ≡ length volume.snaps
  pub begun : is_some merging ≡ is_some volume.events.merge
  pub requests : volume.requests ≤ asked
  pub loud : sound ≡ true → is_loud_in stack_layers volume ≡ true

-- nothing is told of a merge only where none is begun
abbrev pub HasNoMerge : {A : Type 0} → Option A → Rested Stack → Type 0
HasNoMerge told volume = IfNone told ((merged_inside volume).merge ≡ None)
