-- A volume with a merge between two requests, and between two groups of its merge.
use Rattle.std.specs.Prelude.{◌≡◌, ℕ, ◌*◌, [], length, map, Option, Some, None}
use Rattle.std.specs.List.{All}
use Rattle.cow_format.specs.Pairs.{pairs_of}
use Rattle.whole_commands.specs.Merges.{Merge, Merged, Merging}
use Rattle.event_machine.specs.Held.{SnapHeld, MergeHeld, Moving}
use Rattle.event_machine.specs.MergeStepping.{without_group}
use Rattle.event_machine.specs.Requests.{volume_of}
use Rattle.event_machine.specs.Rest.{IsResting}

-- the merge, if one is begun
abbrev pub merge_in : Option MergeHeld → Option Merge
merge_in None = None
merge_in (Some m) = Some m.merge

-- the volume's devices and snapshots with its merge; and with one that is begun
abbrev pub merged_of : Moving → Merged
merged_of v = record { volume = volume_of v; merge = merge_in v.merge }

abbrev pub in_big_steps : MergeHeld → Moving → Merging
in_big_steps m v = record { volume = record { origin = v.origin; snaps = map (λ (h : SnapHeld). h.snap) v.snaps }; merge = m.merge }

-- A merge of which nothing is under way: its pairs are those of the store's bytes, and no group is formed.
pub record IsMergeResting (m : MergeHeld) : Type 0 where
  pub pairs : pairs_of m.merge.chunk m.merge.store.bytes ≡ m.pairs
  pub free : without_group m ≡ m

-- a volume of so many sectors with no request in flight, and with a merge of which nothing is under way
pub record IsMergedAtRest (sectors : ℕ) (m : MergeHeld) (v : Moving) : Type 0 where
  pub whole : length v.origin.bytes ≡ 512 * sectors
  pub snaps : All (IsResting sectors) v.snaps
  pub requests : v.requests ≡ []
  pub is : v.merge ≡ Some m
  pub merge : IsMergeResting m

-- the same, whether a merge is begun or not
pub record IsBetween (sectors : ℕ) (v : Moving) : Type 0 where
  pub whole : length v.origin.bytes ≡ 512 * sectors
  pub snaps : All (IsResting sectors) v.snaps
  pub requests : v.requests ≡ []
  pub merge : (m : MergeHeld) → v.merge ≡ Some m → IsMergeResting m
