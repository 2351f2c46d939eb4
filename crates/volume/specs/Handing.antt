-- The values that are open for a sector of the origin's array when a merge begins, and once it is taken out. holds: what a device
-- may hold in a sector after a stop. This project's own.
use Rattle.std.specs.Prelude.{◌≡◌, ℕ, ◌<◌, List, Some, slice_index_or}
use Rattle.sector.specs.Bytes.{sector_at}
use Rattle.crash_laws.specs.Stop.{MayLeave}
use Rattle.crash_laws.specs.Again.{IsOpen}
use Rattle.snapshot.specs.Kept.{Kept}
use Rattle.snapshot_list.specs.Finding.{place_of_snap}
use Rattle.merge.specs.Merging.{Merging}
use Rattle.volume.specs.Volumed.{Volumed}

-- no value is open for the origin but those that were open for the snapshot that is merged
abbrev pub HandsOver : {B : Type 0} → (B → ℕ → List ℕ → Type 0) → (B → ℕ) → ℕ → Volumed B → Volumed B → Type 0
HandsOver holds size number old new =
    (k : ℕ) (s : Kept _) (m : Merging _) → place_of_snap number old.snaps ≡ Some k → s ≡ slice_index_or old.snaps k s → new.merge ≡ Some m → (x : ℕ) (v : List ℕ) →
    IsOpen m.state.chunk (holds new.origin) (holds m.device) (size new.origin) (size m.device) x v → IsOpen s.state.chunk (holds old.origin) (holds s.device) (size old.origin) (size s.device) x v

-- the origin disk may be left with no value but those that were open for the origin, over it and the store that was merged
abbrev pub OpensTaken : {B : Type 0} → (B → ℕ → List ℕ → Type 0) → (B → ℕ) → Volumed B → Volumed B → Type 0
OpensTaken holds size old new =
    (m : Merging _) → old.merge ≡ Some m → (o : List ℕ) → MayLeave (holds new.origin) (size new.origin) o → (x : ℕ) → x < size new.origin →
    IsOpen m.state.chunk (holds old.origin) (holds m.device) (size old.origin) (size m.device) x (sector_at o x)
