-- A snapshot leaves a volume between two commands. This project's own.
use Rattle.std.specs.Prelude.{◌≡◌, ℕ, List, Some}
use Rattle.device.specs.Layers.{Layer}
use Rattle.whole_commands.specs.Attaching.{detached, given_back}
use Rattle.snapshot.specs.declared.opening.StoreDev.{StoreDev}
use Rattle.volume.specs.Attached.{store_of}
use Rattle.volume_commands.specs.Rested.{Attached, Rested, settled_of, merged_of, snap_at, without}

-- The snapshot with a number left, and its store was given back; and so it is of the settled machine.
pub record IsDetachedAs {B : Type 0} (contents : B → List ℕ) (layers : B → List Layer) (number : ℕ) (store : StoreDev B) (old new : Rested B) : Type 0 where
  pub snap : Attached B
  pub found : snap_at number old.snaps ≡ Some snap
  pub device : store.device ≡ snap.store
  pub stale : store.stale ≡ snap.stale
  pub origin : new.origin ≡ old.origin
  pub snaps : new.snaps ≡ without number old.snaps
  pub requests : new.requests ≡ old.requests
  pub copies : new.copies ≡ old.copies
  pub attached : new.attached ≡ old.attached
  pub left : (settled_of contents layers new).snaps ≡ detached number (settled_of contents layers old).snaps
  pub back : given_back number (settled_of contents layers old).snaps ≡ Some (store_of contents layers store)
  pub merge : (merged_of contents layers new).merge ≡ (merged_of contents layers old).merge
