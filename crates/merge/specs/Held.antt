-- What a merge keeps true of itself. This project's own.
use Rattle.std.specs.Prelude.{◌≡◌, ℕ, ◌+◌, ◌*◌, ◌^◌, ◌<◌, ◌≤◌, Bool, true, false, List, length, Option, Some, None}
use Rattle.std.specs.List.{All}
use Rattle.sector.specs.declared.pair.Pair.{Pair}
use Rattle.chunk.specs.Sizes.{is_chunk}
use Rattle.cow_format.specs.Pairs.{IsInside}
use Rattle.store.specs.Grouping.{EndsWithRun}
use Rattle.store.specs.declared.state.Left.TheVariants.{Nothing}
use Rattle.store.specs.declared.state.State.{State}
use Rattle.merge.specs.declared.group.Group.{Group}
use Rattle.merge.specs.Lists.{total, all_in, is_flushed, is_committed}

-- A group: until the area is written its pairs are the last ones, and stand in the current area.
pub record IsGroupOf (s : State) (pairs : List Pair) (g : Group) : Type 0 where
  pub some : 0 < total g
  pub inside : All (IsInside s.chunk s.origin s.size) (all_in g)
  pub done : is_flushed g.progress ≡ true → g.waiting ≡ 0
  pub fits : is_committed g.progress ≡ false → total g ≤ s.filled
  pub ends : is_committed g.progress ≡ false → EndsWithRun pairs g.first (total g)

-- no pair of the group overflows
pub record IsSmall (g : Group) : Type 0 where
  pub old : g.first.old + total g < 2 ^ 64
  pub new : g.first.new + total g < 2 ^ 64

-- its store's state, how many pairs the store began, its committed pairs, its group, and its buffer
pub record IsMerging (s : State) (begun : ℕ) (pairs : List Pair) (group : Option Group) (buffer : List ℕ) (failed : Bool) : Type 0 where
  pub allowed : is_chunk s.chunk ≡ true
  -- the origin's sectors are counted in 64 bits
  pub counted : s.origin < 2 ^ 64
  pub ready : s.left ≡ Nothing
  pub idle : begun ≡ 0
  pub room : length buffer ≡ 512 * s.chunk
  pub present : (g : Group) → group ≡ Some g → IsGroupOf s pairs g
  pub alone : failed ≡ true → group ≡ None
  -- a pair is left to a merge that failed
  pub unfinished : failed ≡ true → 0 < length pairs
  pub valid : s.valid ≡ true
