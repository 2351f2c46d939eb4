-- What a caller sees of a list of pairs.
use Rattle.std.specs.Prelude.{ℕ, List}
use Rattle.sector.specs.declared.pair.Pair.{Pair}
use Rattle.exception_arena.specs.declared.begun.Begun.{Begun}

-- the committed pairs, in the order of their slots; the pending ones, in the order in which they began; how many more
-- may begin; and for how many elements each list in memory has room
pub record Kept : Type 0 where
  pub committed : List Pair
  pub pending : List Begun
  pub reserved : ℕ
  pub memory : List ℕ
