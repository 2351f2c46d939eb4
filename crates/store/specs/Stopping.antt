-- A stop within an operation of a load, on a disk with a cache: what is left of the store's bytes. A stop leaves in each sector
-- what the disk may hold there, each by itself; what a load accepts is this project's own rule, after the kernel's format.
use Rattle.std.specs.Prelude.{◌≡◌, ◌⊎◌, ℕ, ◌≤◌, List, [], ◌++◌, length, take, Ok}
use Rattle.sector.specs.declared.pair.Pair.{Pair}
use Rattle.sector.specs.Bytes.{sector_at}
use Rattle.cow_format.specs.Pairs.{pairs_of}
use Rattle.cow_header.specs.HeaderText.{found_in}
use Rattle.cow_header.specs.declared.found.Found.TheVariants.{Fresh}
use Rattle.store.specs.declared.state.Left.{Left}
use Rattle.store.specs.declared.state.Left.TheVariants.{FirstArea, HeaderChunk, Tail, Nothing}
use Rattle.crash_laws.specs.Stop.{MayLeave, Within}
use Rattle.crash_laws.specs.Again.{LoadsAgain}

-- bytes that are loaded again, with these pairs and the first few of the others
pub record LoadsFirst (chunk origin size : ℕ) (kept more : List Pair) (bytes : List ℕ) : Type 0 where
  pub again : LoadsAgain chunk origin size bytes
  pub count : ℕ
  pub few : count ≤ length more
  pub pairs : pairs_of chunk bytes ≡ kept ++ take count more

-- its first sector says that the store is fresh
abbrev pub IsFreshAgain : List ℕ → Type 0
IsFreshAgain bytes = found_in (sector_at bytes 0) ≡ Ok Fresh

-- While a store is made ready, by what is left of that: it is fresh still; then fresh, or loaded again with its pairs, of
-- which a fresh one has none; a store that was written is loaded again with its pairs.
abbrev pub MayPrepare : Left → ℕ → ℕ → ℕ → List Pair → List ℕ → Type 0
MayPrepare FirstArea chunk origin size ps bytes = IsFreshAgain bytes
MayPrepare HeaderChunk chunk origin size ps bytes = IsFreshAgain bytes ⊎ LoadsFirst chunk origin size ps [] bytes
MayPrepare Tail chunk origin size ps bytes = LoadsFirst chunk origin size ps [] bytes
MayPrepare Nothing chunk origin size ps bytes = LoadsFirst chunk origin size ps [] bytes

-- Whatever may be left before, within or after one of the load's flushes and writes might be left before, or is such as its
-- write leaves.
abbrev pub LeavesPreparing : (ℕ → List ℕ → Type 0) → (ℕ → List ℕ → Type 0) → Left → ℕ → ℕ → ℕ → List Pair → Type 0
LeavesPreparing old new left chunk origin size ps = (c : List ℕ) → MayLeave (Within old new) size c → MayLeave old size c ⊎ MayPrepare left chunk origin size ps c
