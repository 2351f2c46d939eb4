-- A merge begins, goes on after a fault, and is taken out of a volume. This project's own.
use Rattle.std.specs.Prelude.{◌≡◌, ◌⊎◌, ℕ, ◌<◌, true, false, List, length, Some, None}
use Rattle.device.specs.Layers.{Layer}
use Rattle.sector.specs.declared.refusal.Refusal.{Refusal}
use Rattle.sector.specs.declared.refusal.Refusal.TheVariants.{JournalFull, NoMemory, NotFinished}
use Rattle.whole_commands.specs.Merges.{Merge, pairs_in}
use Rattle.snapshot.specs.declared.opening.StoreDev.{StoreDev}
use Rattle.merge.specs.Merging.{Merging}
use Rattle.volume.specs.Beginning.{begin_refusal}
use Rattle.volume.specs.Leaving.{is_quiet_of}
use Rattle.volume_commands.specs.Rested.{Attached, Rested, merged_of, snap_at, without}
use Rattle.volume_commands.specs.Flying.{flying_of}

-- Nothing that callers see has changed.
pub record IsAlike {B : Type 0} (contents : B → List ℕ) (layers : B → List Layer) (old new : Rested B) : Type 0 where
  pub origin : new.origin ≡ old.origin
  pub snaps : new.snaps ≡ old.snaps
  pub merge : new.events.merge ≡ old.events.merge
  pub requests : new.requests ≡ old.requests
  pub copies : new.copies ≡ old.copies
  pub attached : new.attached ≡ old.attached
  pub quiet : is_quiet_of new.events ≡ is_quiet_of old.events
  pub flying : flying_of contents layers new.events ≡ flying_of contents layers old.events

-- The snapshot with a number is none of the others any more, and is merged.
pub record IsBegunAs {B : Type 0} (number : ℕ) (old new : Rested B) : Type 0 where
  pub snap : Attached B
  pub merge : Merging B
  pub found : snap_at number old.snaps ≡ Some snap
  pub live : snap.live ≡ true
  pub alone : old.events.merge ≡ None
  pub begun : new.events.merge ≡ Some merge
  pub number_is : merge.number ≡ number
  pub chunk_is : merge.state.chunk ≡ snap.chunk
  pub store : merge.device ≡ snap.store
  pub origin : new.origin ≡ old.origin
  pub snaps : new.snaps ≡ without number old.snaps
  pub requests : new.requests ≡ old.requests
  pub copies : new.copies ≡ old.copies
  pub attached : new.attached ≡ old.attached

-- a merge does not begin: for the first reason, or for want of memory; or the journal is full
abbrev pub IsNotBegun : {B : Type 0} → (B → List ℕ) → (B → List Layer) → ℕ → Refusal → Rested B → Rested B → Type 0
IsNotBegun contents layers number refusal old new =
    ((begin_refusal number old.events ≡ Some refusal) × (new ≡ old))
    ⊎ ((begin_refusal number old.events ≡ None) × (refusal ≡ NoMemory) × IsAlike contents layers old new)
    ⊎ ((refusal ≡ JournalFull) × (new ≡ old))

-- The merge is taken out, and its store, which is not stale, is given back.
pub record IsTakenOutAs {B : Type 0} (store : StoreDev B) (old new : Rested B) : Type 0 where
  pub merge : Merging B
  pub was : old.events.merge ≡ Some merge
  pub device : store.device ≡ merge.device
  pub stale : store.stale ≡ false
  pub origin : new.origin ≡ old.origin
  pub snaps : new.snaps ≡ old.snaps
  pub ended : new.events.merge ≡ None
  pub requests : new.requests ≡ old.requests
  pub copies : new.copies ≡ old.copies
  pub attached : new.attached ≡ old.attached

-- why the merge of a settled volume is not taken out: none is begun, or a pair is left
abbrev pub IsUnfinished : {B : Type 0} → (B → List ℕ) → (B → List Layer) → Refusal → Rested B → Type 0
IsUnfinished contents layers refusal v =
    (refusal ≡ NotFinished) × ((v.events.merge ≡ None) ⊎ ((g : Merge) × ((merged_of contents layers v).merge ≡ Some g) × (0 < length (pairs_in g))))
