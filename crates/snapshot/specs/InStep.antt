-- A snapshot and its store in step: what the store's bytes say is what the snapshot has in memory, after every call. The bytes
-- are those of dm-snap-persistent.c; which pairs are accepted, and that an invalid header is refused, are this project's own.
use Rattle.std.specs.Prelude.{◌≡◌, not, ℕ, true, false, List, ◌++◌, map, Result}
use Rattle.sector.specs.Bytes.{sector_at}
use Rattle.sector.specs.declared.refusal.Refusal.{Refusal}
use Rattle.device.specs.Layers.{Layer, is_loud}
use Rattle.cow_format.specs.Pairs.{pairs_of, AreWellFormed}
use Rattle.cow_format.specs.NextPlace.{IsNextPlace}
use Rattle.cow_header.specs.HeaderText.{found_in}
use Rattle.cow_header.specs.declared.found.Found.{Found}
use Rattle.store.specs.Headed.{marked_as}
use Rattle.store.specs.Stored.{new_of}
use Rattle.snapshot.specs.Kept.{Kept}

-- what its store's first sector says: a good header with its chunk size, until the mark that it is invalid is written
abbrev pub header_of : {B : Type 0} → Kept B → Result Found Refusal
header_of s = marked_as (not s.marked) s.state.chunk

-- What is said of the bytes is said where the store's stack is loud; the rest always.
pub record IsInStep {B : Type 0} (contents : B → List ℕ) (layers : B → List Layer) (size : B → ℕ) (s : Kept B) : Type 0 where
  pub sized : s.state.size ≡ size s.device
  -- its pairs are such as a load accepts: the area that the next pair goes to lies in the store
  pub formed : AreWellFormed s.state.chunk s.state.origin s.state.size s.pairs
  -- while it is live its next place is the least one that is free
  pub next : s.live ≡ true → IsNextPlace s.state.chunk (map new_of (s.pairs ++ s.begun)) s.next
  -- the mark that its store is invalid is written of a spoiled one; once that was tried and did not fail, it is there
  pub dead : s.marked ≡ true → s.live ≡ false
  pub tried : s.live ≡ false → s.untried ≡ false → s.stale ≡ false → s.marked ≡ true
  pub header : is_loud (layers s.device) ≡ true → found_in (sector_at (contents s.device) 0) ≡ header_of s
  pub pairs : is_loud (layers s.device) ≡ true → pairs_of s.state.chunk (contents s.device) ≡ s.pairs
