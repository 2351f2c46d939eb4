-- What a call adds to what a volume's devices may hold after a stop, and that it adds nothing. holds: what a device may hold in a
-- sector after a stop. This project's own.
use Rattle.std.specs.Prelude.{ℕ, ◌<◌, List, Option, Some, None, length, slice_index_or}
use Rattle.crash_laws.specs.Firm.{AddsNow}
use Rattle.snapshot.specs.Kept.{Kept}
use Rattle.merge.specs.Merging.{Merging}
use Rattle.volume.specs.Volumed.{Volumed}

-- to the merging store, where a merge is begun
abbrev pub AddsMerge : {B : Type 0} → (B → ℕ → List ℕ → Type 0) → (B → List ℕ) → Option (Merging B) → Option (Merging B) → Type 0
AddsMerge holds contents None after = Unit {0}
AddsMerge holds contents (Some m) None = ⊥
AddsMerge holds contents (Some m) (Some m') = AddsNow (holds m.device) (holds m'.device) (contents m'.device)

-- A device may be left with nothing in its sectors but what it might be left with before.
abbrev pub LeavesNoMore : {B : Type 0} → (B → ℕ → List ℕ → Type 0) → (B → ℕ) → B → B → Type 0
LeavesNoMore holds size old new = (s : ℕ) (x : List ℕ) → s < size old → holds new s x → holds old s x

abbrev pub MergeLeavesNoMore : {B : Type 0} → (B → ℕ → List ℕ → Type 0) → (B → ℕ) → Option (Merging B) → Option (Merging B) → Type 0
MergeLeavesNoMore holds size None after = Unit {0}
MergeLeavesNoMore holds size (Some m) None = ⊥
MergeLeavesNoMore holds size (Some m) (Some m') = LeavesNoMore holds size m.device m'.device

-- nor any device of a volume: a call that opens nothing
pub record OpensNothing {B : Type 0} (holds : B → ℕ → List ℕ → Type 0) (size : B → ℕ) (old new : Volumed B) : Type 0 where
  pub origin : LeavesNoMore holds size old.origin new.origin
  pub snaps : (k : ℕ) (d : Kept B) → k < length old.snaps → LeavesNoMore holds size (slice_index_or old.snaps k d).device (slice_index_or new.snaps k d).device
  pub merge : MergeLeavesNoMore holds size old.merge new.merge
