-- A volume with its merge: what goes on keeps its names.
use Rattle.std.proofs.Common.{◌≡◌, refl, ap}
use Rattle.std.specs.Prelude.{Option, Some, None, is_some}
use Rattle.whole_commands.specs.Merges.{Merge, Merged}
use Rattle.command_semantics.specs.State.{Merging, Volume, merge_in, names_in, merged_in, with_merge, with_merged}

-- the names stay
pub names_stay : (g : Option Merging) (merge : Option Merge) → names_in (with_merge g merge) ≡ names_in g
names_stay None merge = refl
names_stay (Some g) None = refl
names_stay (Some g) (Some merge) = refl

-- a merge as it is leaves all as it is
pub merge_same : (g : Option Merging) → with_merge g (merge_in g) ≡ g
merge_same None = refl
merge_same (Some g) = refl

pub merged_same : (volume : Volume) → with_merged (merged_in volume) volume ≡ volume
merged_same volume = ap (λ (g : Option Merging). record volume { merging = g }) (merge_same volume.merging)

-- a merge is begun where its names are there
pub begun_same : (g : Option Merging) → is_some (merge_in g) ≡ is_some (names_in g)
begun_same None = refl
begun_same (Some g) = refl

-- a merge that went on is that of the volume then
pub merge_is : (g : Option Merging) (merge : Option Merge) → is_some merge ≡ is_some g → merge_in (with_merge g merge) ≡ merge
merge_is None None same = refl
merge_is None (Some merge) same = absurd (cc)
merge_is (Some g) None same = absurd (cc)
merge_is (Some g) (Some merge) same = refl

pub merged_is : (m : Merged) (volume : Volume) → is_some m.merge ≡ is_some volume.merging → merged_in (with_merged m volume) ≡ m
merged_is m volume same = ap (λ (g : Option Merge). let r : Merged = record { volume = m.volume; merge = g } in r) (merge_is volume.merging m.merge same)
