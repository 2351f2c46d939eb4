-- To be believed: `run`'s output, a volume's steps or its attach are said in these words.
-- What the command program holds: stacks of devices that nothing uses, and volumes, each of which owns the stacks that it
-- stands on. The shape is this project's own.
use Rattle.std.specs.Prelude.{ℕ, Bool, List, Option, Some, None}
use Rattle.whole_commands.specs.Devices.{Device}
use Rattle.event_machine.specs.Held.{Moving}
use Rattle.whole_commands.specs.Snaps.{Volume as Settled}
use Rattle.whole_commands.specs.Merges.{Merge, Merged}

-- A stack that nothing uses: the names of its layers from the top, and of the disk or the error layer at the bottom; its
-- bytes and layers; and whether a mark stands with the disk at the bottom that an invalid mark could not be written to it.
pub record Stacked : Type 0 where
  pub names : List (List ℕ)
  pub device : Device
  pub stale : Bool

-- the name of a snapshot, those of its store's stack from the top, and whether its line says that the store may overflow
pub record Names : Type 0 where
  pub snapshot : List ℕ
  pub store : List (List ℕ)
  pub overflow : Bool

-- A snapshot that is being merged into its origin: its name and those of its store's stack, and the merge, which has the bytes
-- and layers of that store.
pub record Merging : Type 0 where
  pub names : Names
  pub merge : Merge

-- An origin, the names of the stack under it from the top, the mark of the disk at its bottom, and the names of its
-- snapshots in order of attaching, without the one that is being merged, which stands in `merging`. The state has the bytes
-- and layers of the devices under the origin and under those snapshots, and which of them are live. `given` counts the
-- attaches that were done, `asked` the sectors of the reads and writes that it was asked for, a flush counted as one; `sound` tells that none of its
-- devices, nor of those that have left it, drops writes; `quiet`, that no request is in flight, no copy is under way, no
-- invalid mark is wanted and no group of a merge is formed. `flying` is what is in flight while it is not quiet, and what is
-- in memory of its snapshots and of its merge then: the event machine without its devices, which the state and the merge have.
pub record Volume : Type 0 where
  pub origin : List ℕ
  pub under : List (List ℕ)
  pub stale : Bool
  pub snaps : List Names
  pub merging : Option Merging
  pub state : Settled
  pub given : ℕ
  pub asked : ℕ
  pub sound : Bool
  pub quiet : Bool
  pub flying : Option Moving

-- all devices
pub record Table : Type 0 where
  pub stacks : List Stacked
  pub volumes : List Volume

-- the merge of a volume, if one is begun, and the names of the snapshot that is merged
abbrev pub merge_in : Option Merging → Option Merge
merge_in None = None
merge_in (Some g) = Some g.merge

abbrev pub names_in : Option Merging → Option Names
names_in None = None
names_in (Some g) = Some g.names

-- the settled machine's volume with its merge
abbrev pub merged_in : Volume → Merged
merged_in volume = record { volume = volume.state; merge = merge_in volume.merging }

-- a merge that went on, under the names that it has
abbrev pub with_merge : Option Merging → Option Merge → Option Merging
with_merge None merge = None
with_merge (Some g) None = Some g
with_merge (Some g) (Some merge) = Some (record { names = g.names; merge = merge })

-- a volume whose devices and merge are these: all names stay
abbrev pub with_merged : Merged → Volume → Volume
with_merged m volume = record volume { state = m.volume; merging = with_merge volume.merging m.merge }
