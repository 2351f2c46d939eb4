-- A live snapshot of which nothing is under way: what its store's bytes say of it. This project's own.
use Rattle.std.specs.Prelude.{◌≡◌, ℕ, false, List}
use Rattle.cow_format.specs.Pairs.{pairs_of}
use Rattle.whole_commands.specs.Saves.{next_of}
use Rattle.whole_commands.specs.Order.{IsInOrder}
use Rattle.snapshot.specs.Kept.{Kept}

-- its store is in order, its pairs and its next place are those of the store's bytes, no area is zeroed ahead, and the mark
-- that the store is invalid was not written
pub record IsStill {B : Type 0} (contents : B → List ℕ) (s : Kept B) : Type 0 where
  pub order : IsInOrder s.state.chunk s.state.origin s.state.size (contents s.device)
  pub pairs : pairs_of s.state.chunk (contents s.device) ≡ s.pairs
  pub next : s.next ≡ next_of s.state.chunk s.pairs
  pub zeroed : s.state.zeroed ≡ false
  pub firm : s.state.firm ≡ false
  pub unmarked : s.marked ≡ false
