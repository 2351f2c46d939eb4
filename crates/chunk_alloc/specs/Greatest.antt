-- The greatest place in use.
use Rattle.std.specs.Prelude.{ℕ, ◌<◌, ◌≤◌, List}
use Rattle.std.specs.List.{All}

-- The greatest of these new chunks, or 1, the place of area 0, where no chunk is in use: none is greater, and whatever is
-- greater than each of them and than 1 is greater than it.
pub record IsGreatest (taken : List ℕ) (greatest : ℕ) : Type 0 where
  pub low : 1 ≤ greatest
  pub all : All (λ k. k ≤ greatest) taken
  pub one : (m : ℕ) → 2 ≤ m → All (λ k. k < m) taken → greatest < m
