-- To be believed: what commands do to what volumes show is said in these words.
-- What volumes show: the array of each origin and of each snapshot, by names. The kernel's admin-guide page on snapshots says
-- in words what a snapshot keeps.
use Rattle.std.specs.Prelude.{ℕ, List, [], ◌∷◌, map}
use Rattle.plain_machine.specs.Plain.{Saved}
use Rattle.whole_commands.specs.Snaps.{Snap, shown}
use Rattle.whole_commands.specs.MergeShown.{origin_shown}
use Rattle.command_semantics.specs.State.{Names, Volume, Table, merged_in}

-- a snapshot's name, and what it shows: an array, or nothing any more
pub record Named : Type 0 where
  pub name : List ℕ
  pub saved : Saved

-- an origin's name and its array, and its snapshots in order of attaching, without one that is being merged
pub record Arrays : Type 0 where
  pub name : List ℕ
  pub array : List ℕ
  pub snaps : List Named

-- over an origin disk with these bytes
abbrev pub named_by : List ℕ → List Names → List Snap → List Named
named_by disk [] snaps = []
named_by disk (n ∷ names) [] = []
named_by disk (n ∷ names) (s ∷ snaps) = record { name = n.snapshot; saved = shown disk s } ∷ named_by disk names snaps

-- While a merge is begun the origin's array is its disk with the chunks of the merging store in place.
abbrev pub arrays_of : Volume → Arrays
arrays_of volume = record {
  name = volume.origin;
  array = origin_shown (merged_in volume);
  snaps = named_by volume.state.origin.bytes volume.snaps volume.state.snaps;
}

-- those of all volumes
abbrev pub arrays_in : Table → List Arrays
arrays_in table = map arrays_of table.volumes
