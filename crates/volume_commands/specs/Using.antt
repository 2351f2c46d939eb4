-- What is used of a live snapshot's store, in sectors, as the kernel's status line tells it. That the numbers are those of
-- the store's next place and of its areas is this project's own.
use Rattle.std.specs.Prelude.{◌≡◌, ℕ, ◌+◌, ◌*◌, ◌/◌, List, length}
use Rattle.chunk_alloc.specs.declared.usage.Usage.{Usage}
use Rattle.cow_format.specs.Pairs.{pairs_of}
use Rattle.whole_commands.specs.Saves.{next_of}
use Rattle.snapshot.specs.Kept.{Kept}
use Rattle.volume_commands.specs.Rested.{Attached}

-- all up to the next place; and the header and the areas, which hold no copies
pub record IsUsed {B : Type 0} (contents : B → List ℕ) (size : B → ℕ) (snap : Attached B) (usage : Usage) : Type 0 where
  pub allocated : usage.allocated ≡ snap.chunk * next_of snap.chunk (pairs_of snap.chunk (contents snap.store))
  pub total : usage.total ≡ size snap.store
  pub metadata : usage.metadata ≡ snap.chunk * (length (pairs_of snap.chunk (contents snap.store)) / (32 * snap.chunk) + 2)

-- the same by what is in memory of the snapshot, whatever is in flight
pub record IsInUse {B : Type 0} (size : B → ℕ) (snap : Kept B) (usage : Usage) : Type 0 where
  pub allocated : usage.allocated ≡ snap.state.chunk * snap.next
  pub total : usage.total ≡ size snap.device
  pub metadata : usage.metadata ≡ snap.state.chunk * (length snap.pairs / (32 * snap.state.chunk) + 2)
