-- A merge and its store in step: what the store's bytes say is what the merge has in memory, after every call. The bytes are
-- those of dm-snap-persistent.c; which pairs are accepted is this project's own rule.
use Rattle.std.specs.Prelude.{◌≡◌, ℕ, ◌+◌, ◌*◌, ◌≤◌, true, List, length, Ok}
use Rattle.sector.specs.Bytes.{sector_at}
use Rattle.device.specs.Layers.{Layer, is_loud}
use Rattle.cow_format.specs.Pairs.{pairs_of, AreWellFormed}
use Rattle.cow_header.specs.HeaderText.{found_in}
use Rattle.cow_header.specs.declared.found.Found.TheVariants.{Header}
use Rattle.merge.specs.Merging.{Merging}

-- What is said of the bytes is said where the store's stack is loud; the rest always.
pub record IsInStep {B : Type 0} (contents : B → List ℕ) (layers : B → List Layer) (size : B → ℕ) (m : Merging B) : Type 0 where
  pub sized : m.state.size ≡ size m.device
  -- its pairs are such as a load accepts
  pub formed : AreWellFormed m.state.chunk m.state.origin m.state.size m.pairs
  -- they fill the areas below the current one and its first slots
  pub count : length m.pairs ≡ m.state.current * (32 * m.state.chunk) + m.state.filled
  pub fits : m.state.filled ≤ 32 * m.state.chunk
  pub header : is_loud (layers m.device) ≡ true → found_in (sector_at (contents m.device) 0) ≡ Ok (Header m.state.chunk)
  pub pairs : is_loud (layers m.device) ≡ true → pairs_of m.state.chunk (contents m.device) ≡ m.pairs
