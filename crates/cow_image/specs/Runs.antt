-- Chunks in a row.
use Rattle.std.specs.Prelude.{◌≡◌, ℕ, ◌+◌, ◌<◌, ◌≤◌, List, length, slice_index_or, Option, Some, None}
use Rattle.sector.specs.declared.pair.Pair.{Pair}
use Rattle.cow_format.specs.Picture.{place_of}

-- the place so many chunks after one, if there is one
abbrev pub place_after : Option ℕ → ℕ → Option ℕ
place_after None q = None
place_after (Some place) q = Some (place + q)

-- so many chunks from one on have no copies, or copies in a row from a place on
abbrev pub IsRun : List Pair → ℕ → Option ℕ → ℕ → Type 0
IsRun pairs number place chunks = (q : ℕ) → q < chunks → place_of pairs (number + q) ≡ place_after place q

-- so many pairs from one on, whose chunks go up by one
pub record IsRow (pairs : List Pair) (low count : ℕ) : Type 0 where
  pub inside : low + count ≤ length pairs
  pub old : (q : ℕ) (d : Pair) → q < count → (slice_index_or pairs (low + q) d).old ≡ (slice_index_or pairs low d).old + q
  pub new : (q : ℕ) (d : Pair) → q < count → (slice_index_or pairs (low + q) d).new ≡ (slice_index_or pairs low d).new + q
