-- When a merge begins, and when it goes on after a fault. The order of the refusals is this project's own.
use Rattle.std.specs.Prelude.{◌≡◌, ◌⊎◌, ◌==◌, ℕ, Bool, false, List, length, map, Option, Some, None, if◌then◌else◌, slice_index_or}
use Rattle.std.specs.List.{remove}
use Rattle.sector.specs.declared.refusal.Refusal.{Refusal}
use Rattle.sector.specs.declared.refusal.Refusal.TheVariants.{NoSuchDevice, NotQuiet, NoMemory, Invalid, MergeInProgress}
use Rattle.snapshot.specs.Kept.{Kept}
use Rattle.snapshot_list.specs.Finding.{place_of_snap}
use Rattle.merge.specs.Merging.{Merging}
use Rattle.snapshot_list.specs.Keeping.{unkept, kept_for}
use Rattle.volume.specs.Volumed.{Volumed}
use Rattle.volume.specs.Causes.{lives_of}
use Rattle.volume.specs.Leaving.{is_quiet_of}

-- why the snapshot at a place is not merged, where no merge is begun
abbrev pub place_refusal : List Bool → Bool → Option ℕ → Option Refusal
place_refusal lives quiet None = Some NoSuchDevice
place_refusal lives quiet (Some k) = if slice_index_or lives k false then (if quiet then None else Some NotQuiet) else Some Invalid

-- and where one is: mine says whether it is of the number that is asked for
abbrev pub beside_refusal : Bool → Option ℕ → Refusal
beside_refusal mine None = if mine then MergeInProgress else NoSuchDevice
beside_refusal mine (Some k) = MergeInProgress

abbrev pub begin_with : {B : Type 0} → Option (Merging B) → ℕ → Volumed B → Option Refusal
begin_with None number v = place_refusal (lives_of v) (is_quiet_of v) (place_of_snap number v.snaps)
begin_with (Some m) number v = Some (beside_refusal (m.number == number) (place_of_snap number v.snaps))

-- the first reason why the merge of the snapshot with a number does not begin; want of memory comes after it
abbrev pub begin_refusal : {B : Type 0} → ℕ → Volumed B → Option Refusal
begin_refusal number v = begin_with v.merge number v

-- the merge of a snapshot, with a buffer
abbrev pub merging_from : {B : Type 0} → Kept B → List ℕ → Merging B
merging_from s buffer = record { number = s.number; device = s.device; state = s.state; next = s.next; pairs = s.pairs; group = None; buffer = buffer; failed = false }

-- The snapshot with a number is none of the others any more, and is merged; each other live one keeps back room for as
-- many copies as it has chunks that the pairs of the merged one touch, each pair's counted for itself.
pub record IsMergeBegun {B : Type 0} (number : ℕ) (old new : Volumed B) : Type 0 where
  pub place : ℕ
  pub snap : Kept B
  pub buffer : List ℕ
  pub found : place_of_snap number old.snaps ≡ Some place
  pub is : snap ≡ slice_index_or old.snaps place snap
  pub becomes : new ≡ record old { snaps = map (kept_for number (length snap.pairs) snap.state.chunk) (remove old.snaps place); merge = Some (merging_from snap buffer) }

-- nothing is changed, but that snapshots may keep nothing back for a merge any more
pub record SameButKept {B : Type 0} (old new : Volumed B) : Type 0 where
  pub kept : (new.snaps ≡ old.snaps) ⊎ (new.snaps ≡ map unkept old.snaps)
  pub becomes : new ≡ record old { snaps = new.snaps }

-- a merge does not begin: for the first reason, and nothing changed, or for want of memory
abbrev pub IsNotBegun : {B : Type 0} → ℕ → Refusal → Volumed B → Volumed B → Type 0
IsNotBegun number refusal old new =
    ((begin_refusal number old ≡ Some refusal) × (new ≡ old)) ⊎ ((begin_refusal number old ≡ None) × (refusal ≡ NoMemory) × SameButKept old new)

-- the merge is not failed any more
pub record IsResumed {B : Type 0} (old new : Volumed B) : Type 0 where
  pub merge : Merging B
  pub was : old.merge ≡ Some merge
  pub becomes : new ≡ record old { merge = Some (record merge { failed = false }) }
