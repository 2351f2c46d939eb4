-- What accepting a request does to a volume: copies are started, snapshots whose stores are full are spoiled, and then the
-- request is in flight. This project's own.
use Rattle.std.specs.Prelude.{◌≡◌, ◌≢◌, ℕ, ◌<◌, true, List, Option, Some, map, slice_index_or}
use Rattle.std.specs.List.{All}
use Rattle.plain_machine.specs.declared.request.Request.{Request}
use Rattle.plain_machine.specs.Legal.{Spoils, IsSubmitted}
use Rattle.in_flight.specs.Kinds.{kind_of, in_flight}
use Rattle.in_flight.specs.declared.flights.Flight.{Flight}
use Rattle.in_flight.specs.declared.flights.Kind.TheVariants.{SnapRead, SnapWrite, SnapFlush}
use Rattle.volume_laws.specs.Books.{SnapBooks, MergeBooks, Books}
use Rattle.volume_laws.specs.Published.{IsPiece}
use Rattle.volume_laws.specs.Whole.{Holds, IsLoud, plain_of}
use Rattle.volume_laws.specs.Waits.{Waits, IsSaving}

-- copies were started, and these snapshots spoiled
pub record IsPrepared (which : List ℕ) (v w : Books) : Type 0 where
  pub holds : Holds w
  pub waits : Waits w
  pub step : IsLoud v → Spoils which (plain_of v) (plain_of w)
  pub loud : IsLoud v → IsLoud w
  pub origin : w.origin ≡ v.origin
  pub sectors : w.sectors ≡ v.sectors
  pub merge : w.merge ≡ v.merge
  pub requests : map in_flight w.requests ≡ map in_flight v.requests

-- and the request is in flight
pub record IsTakenIn (which : List ℕ) (number : ℕ) (request : Request) (v w : Books) : Type 0 where
  pub holds : Holds w
  pub waits : Waits w
  pub step : IsLoud v → IsSubmitted which (plain_of v) number request (plain_of w)
  pub loud : IsLoud v → IsLoud w

-- What a merge asks of a request: it lies inside one chunk of the merged snapshot, and is none of that snapshot's.
pub record IsBeside (f : Flight) (m : MergeBooks) : Type 0 where
  pub piece : IsPiece m.chunk f.request.range
  pub no_read : kind_of f.request ≢ SnapRead m.number
  pub no_write : kind_of f.request ≢ SnapWrite m.number
  pub no_flush : kind_of f.request ≢ SnapFlush m.number

-- the merged snapshot's number is none of the others'
abbrev pub IsNumberedApart : Option MergeBooks → List SnapBooks → Type 0
IsNumberedApart merge snaps = (m : MergeBooks) → merge ≡ Some m → All (λ s. s.number ≢ m.number) snaps

-- each of the first snapshots that is live has the chunk, or a copy of it is under way
pub record AreSaving (c i : ℕ) (snaps : List SnapBooks) : Type 0 where
  pub each : (j : ℕ) (d : SnapBooks) → j < i → (slice_index_or snaps j d).live ≡ true → IsSaving c (slice_index_or snaps j d)

-- each of the first snapshots that is live has the chunk that is wanted of it, or a copy of it is under way
pub record AreSavingAt (at : SnapBooks → ℕ) (i : ℕ) (snaps : List SnapBooks) : Type 0 where
  pub each : (j : ℕ) (d : SnapBooks) → j < i → (slice_index_or snaps j d).live ≡ true → IsSaving (at (slice_index_or snaps j d)) (slice_index_or snaps j d)
