-- To be believed: `run`'s output, a volume's steps or its attach are said in these words.
-- What callers may ask of a merge that may be begun, and of a snapshot whether it is being merged or not. The numbers are those
-- of the kernel's status lines.
use Rattle.std.specs.Prelude.{◌≡◌, ◌⊎◌, ℕ, ◌+◌, ◌*◌, Bool, true, false, List, Option, Some, None, slice_index_or}
use Rattle.device.specs.Layers.{Layer}
use Rattle.chunk_alloc.specs.declared.usage.Usage.{Usage}
use Rattle.snapshot.specs.Kept.{Kept}
use Rattle.snapshot_list.specs.Finding.{place_of_snap}
use Rattle.merge.specs.Due.{is_finished_of}
use Rattle.merge.specs.InStep.{IsInStep}
use Rattle.merge.specs.Merging.{Merging}
use Rattle.volume.specs.Volumed.{Volumed}
use Rattle.volume.specs.Submitting.{is_merging}

-- the number of the snapshot that is being merged
abbrev pub merging_number : {B : Type 0} → Option (Merging B) → Option ℕ
merging_number None = None
merging_number (Some m) = Some m.number

-- the sectors of its chunks
abbrev pub merging_chunk_of : {B : Type 0} → Option (Merging B) → Option ℕ
merging_chunk_of None = None
merging_chunk_of (Some m) = Some m.state.chunk

-- a merge is begun that has no pair left, and no group
abbrev pub is_finished_in : {B : Type 0} → Option (Merging B) → Bool
is_finished_in None = false
is_finished_in (Some m) = is_finished_of m

-- A merge that may be begun does nothing by itself any more: no group is formed, and it stopped at a fault, or no pair is left.
abbrev pub IsMergeStill : {B : Type 0} → Option (Merging B) → Type 0
IsMergeStill None = Unit {0}
IsMergeStill (Some m) = (m.group ≡ None) × ((m.failed ≡ true) ⊎ (is_finished_of m ≡ true))

-- the merging store is in step with its merge
abbrev pub IsMergeInStep : {B : Type 0} → (B → List ℕ) → (B → List Layer) → (B → ℕ) → Option (Merging B) → Type 0
IsMergeInStep contents layers size None = Unit {0}
IsMergeInStep contents layers size (Some m) = IsInStep contents layers size m

-- the numbers of the status line of the snapshot that is being merged, in sectors
abbrev pub merging_usage : {B : Type 0} → Merging B → Usage
merging_usage m = record { allocated = m.next * m.state.chunk; total = m.state.size; metadata = (m.state.current + 2) * m.state.chunk }

-- What holds of the snapshot with a number: of the one that is being merged, or else of another, which is the first with it.
abbrev pub HoldsOf : {B : Type 0} → (Merging B → Type 0) → (Kept B → Type 0) → ℕ → Volumed B → Type 0
HoldsOf {B = B} of_merge of_snap number v =
    ((m : Merging B) × (v.merge ≡ Some m) × (m.number ≡ number) × of_merge m)
    ⊎ ((is_merging number v.merge ≡ false) × ((k : ℕ) × (d : Kept B) × (place_of_snap number v.snaps ≡ Some k) × of_snap (slice_index_or v.snaps k d)))

-- no snapshot has the number
pub record HasNone {B : Type 0} (number : ℕ) (v : Volumed B) : Type 0 where
  pub merge : is_merging number v.merge ≡ false
  pub snaps : place_of_snap number v.snaps ≡ None
