-- To be believed: what `map --over` tells is said in these words.
-- Where the bytes of a snapshot's array stand: in ranges of the origin, at the same bytes as in the array, or of the store. This
-- project's own words.
use Rattle.std.specs.Prelude.{◌≡◌, ◌==◌, ℕ, ◌+◌, ◌*◌, ◌<◌, ◌≤◌, Bool, true, false, List, [], ◌∷◌, length, take, drop, Option, Some, None, if◌then◌else◌}
use Rattle.std.specs.List.{All}
use Rattle.sector.specs.declared.pair.Pair.{Pair}
use Rattle.cow_image.specs.Shown.{shown}
use Rattle.snapshot_extents.specs.declared.range.Range.{Range}

-- the bytes of a range, from both images
abbrev pub bytes_from : ℕ → ℕ → List ℕ → List ℕ → Option ℕ → List ℕ
bytes_from start count origin store None = take count (drop start origin)
bytes_from start count origin store (Some copy) = take count (drop copy store)

-- the image that a range names has them
abbrev pub Has : ℕ → ℕ → List ℕ → List ℕ → Option ℕ → Type 0
Has start count origin store None = start + count ≤ length origin
Has start count origin store (Some copy) = copy + count ≤ length store

-- whatever both images hold, they are the bytes that the snapshot shows there by these pairs
abbrev pub IsShown : ℕ → List Pair → Range → Type 0
IsShown chunk pairs range = (origin store : List ℕ) → Has range.start range.count origin store range.copy → bytes_from range.start range.count origin store range.copy ≡ shown chunk origin store pairs range.start range.count

-- ranges from a byte on up to an end: each begins where the one before it ends, and none is empty
abbrev pub Cover : ℕ → ℕ → List Range → Type 0
Cover from end [] = from ≡ end
Cover from end (range ∷ ranges) = (range.start ≡ from) × (0 < range.count) × Cover (from + range.count) end ranges

-- whether a copy that has so many bytes, or a part of the origin, goes on in another that comes behind it
abbrev pub goes_on_from : Option ℕ → ℕ → Option ℕ → Bool
goes_on_from None count None = true
goes_on_from None count (Some next) = false
goes_on_from (Some copy) count None = false
goes_on_from (Some copy) count (Some next) = next == copy + count

abbrev pub goes_on : Range → Range → Bool
goes_on range next = goes_on_from range.copy range.count next.copy

-- none of them goes on with the one before it
abbrev pub AreCut : List Range → Type 0
AreCut [] = Unit {0}
AreCut (range ∷ []) = Unit {0}
AreCut (range ∷ next ∷ ranges) = (goes_on range next ≡ false) × AreCut (next ∷ ranges)

-- The ranges of so many bytes that a snapshot shows by these pairs.
pub record AreRanges (chunk : ℕ) (pairs : List Pair) (end : ℕ) (ranges : List Range) : Type 0 where
  pub cover : Cover 0 end ranges
  pub cut : AreCut ranges
  pub shown : All (IsShown chunk pairs) ranges

-- a range more: joined to the last one, where it goes on with that
abbrev pub joined : Range → Range → List Range
joined last range = if goes_on last range then record { start = last.start; count = last.count + range.count; copy = last.copy } ∷ [] else last ∷ range ∷ []

abbrev pub with_range : List Range → Range → List Range
with_range [] range = range ∷ []
with_range (last ∷ []) range = joined last range
with_range (first ∷ next ∷ ranges) range = first ∷ with_range (next ∷ ranges) range

-- the byte of the store where a place begins
abbrev pub byte_of_place : ℕ → Option ℕ → Option ℕ
byte_of_place chunk None = None
byte_of_place chunk (Some place) = Some (512 * (chunk * place))
