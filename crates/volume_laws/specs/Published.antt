-- To be believed: `run`'s output, a volume's steps or its attach are said in these words.
-- When a snapshot has a chunk of its own: its reads go to the store from the commit on, and from the publication on origin writes need
-- not wait for it. This project's own; the kernel's admin-guide page on snapshots has one step for all of it.
use Rattle.std.specs.Prelude.{◌≡◌, ◌≢◌, ◌==◌, ◌⊎◌, ◌&&◌, ◌||◌, not, ℕ, ◌+◌, ◌*◌, ◌/◌, ◌<◌, ◌≤◌, Bool, true, List, Option, None, Any}
use Rattle.std.specs.List.{All, list_any, list_all}
use Rattle.std.specs.Option.{is_some, unwrap_or}
use Rattle.sector.specs.declared.pair.Pair.{Pair}
use Rattle.sector.specs.declared.range.Range.{Range}
use Rattle.cow_format.specs.Picture.{place_of}
use Rattle.chunk.specs.Pieces.{chunks_over}
use Rattle.in_flight.specs.Due.{first_by}
use Rattle.in_flight.specs.declared.copies.Mark.{Mark}
use Rattle.in_flight.specs.declared.flights.Flight.{Flight}
use Rattle.volume_laws.specs.Books.{SnapBooks}

-- the chunk of a request, in chunks of so many sectors
abbrev pub chunk_of : ℕ → Flight → ℕ
chunk_of chunk r = r.request.range.first / chunk

-- a range lies inside one chunk
pub record IsPiece (chunk : ℕ) (range : Range) : Type 0 where
  pub within : range.first + range.count ≤ chunk * (range.first / chunk) + chunk

-- the chunk is published
pub record IsPublished (pairs : List Pair) (marks : List Mark) (c : ℕ) : Type 0 where
  pub placed : place_of pairs c ≢ None
  pub unmarked : All (λ m. m.chunk ≢ c) marks

-- it is not
abbrev pub IsUnpublished : List Pair → List Mark → ℕ → Type 0
IsUnpublished pairs marks c = (place_of pairs c ≡ None) ⊎ Any (λ m. m.chunk ≡ c) marks

-- the test
abbrev pub is_published : List Pair → List Mark → ℕ → Bool
is_published pairs marks c = is_some (place_of pairs c) && not (list_any (λ m. m.chunk == c) marks)

-- the chunk of the origin's sector `first` is published in a snapshot, if that is live
abbrev pub IsSaved : ℕ → SnapBooks → Type 0
IsSaved first v = v.live ≡ true → IsPublished v.pairs v.marks (first / v.chunk)

-- and so is each chunk that touches so many sectors from there on
abbrev pub IsSavedOver : ℕ → ℕ → SnapBooks → Type 0
IsSavedOver first count v = (i : ℕ) → i < count → IsSaved (first + i) v

abbrev pub is_saved : ℕ → SnapBooks → Bool
is_saved first v = not v.live || is_published v.pairs v.marks (first / v.chunk)

-- An origin write may go to the origin disk: each live snapshot has published the chunk, and no invalid mark is untried.
abbrev pub is_clear : List SnapBooks → ℕ → Bool
is_clear snaps first = list_all (is_saved first) snaps && not (list_any (λ v. v.untried) snaps)

-- the first chunk that a snapshot has not published, of those that so many sectors touch from this one on
abbrev pub unpublished_in : ℕ → ℕ → SnapBooks → Option ℕ
unpublished_in first count v = first_by (λ c. not (is_published v.pairs v.marks c)) (λ c. c) (chunks_over v.chunk first count)

-- and the one that these sectors begin in, where all are published
abbrev pub next_over : ℕ → ℕ → SnapBooks → ℕ
next_over first count v = unwrap_or (unpublished_in first count v) (first / v.chunk)

-- each chunk that touches these sectors is published in a snapshot, if that is live
abbrev pub is_saved_over : ℕ → ℕ → SnapBooks → Bool
is_saved_over first count v = not v.live || not (is_some (unpublished_in first count v))

-- A merged chunk of so many sectors may be written to the origin disk: each live snapshot has published all that it touches,
-- and no invalid mark is untried.
abbrev pub is_clear_over : List SnapBooks → ℕ → ℕ → Bool
is_clear_over snaps first count = list_all (is_saved_over first count) snaps && not (list_any (λ v. v.untried) snaps)
