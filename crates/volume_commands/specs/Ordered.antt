-- What holds of the settled machine's volume, with its merge if one is begun, where no device drops writes and nothing is in
-- flight. This project's own.
use Rattle.std.specs.Prelude.{◌≡◌, ℕ, ◌<◌, ◌≤◌, map, AllPairs, Some}
use Rattle.whole_commands.specs.Merges.{Merge, Merged, Merging}
use Rattle.whole_commands.specs.MergeShown.{IsMerging}
use Rattle.whole_command_laws.specs.Undone.{IsVolume}
use Rattle.whole_commands.specs.Beside.{chunk_beside}

-- Each snapshot has a number above those before it, the stores of live snapshots and that of a merge are in order, and no
-- chunk is smaller than a piece.
pub record IsOrdered (m : Merged) : Type 0 where
  pub sectors : ℕ
  pub numbers : AllPairs (λ a b. a < b) (map (λ s. s.number) m.volume.snaps)
  pub is : IsVolume sectors (chunk_beside m) m.volume
  pub merge : (g : Merge) → m.merge ≡ Some g → (chunk_beside m ≤ g.chunk) × (let with : Merging = record { volume = m.volume; merge = g } in IsMerging sectors with)
