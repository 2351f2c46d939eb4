-- Held origin writes are routed again: after a publication, a tried mark, a merge's release or its fault.
use Rattle.std.specs.Prelude.{◌≡◌, ◌==◌, ℕ, ◌<◌, Bool, false, List, length, Option, Some, None, map, if◌then◌else◌, slice_index_or}
use Rattle.std.specs.List.{list_any}
use Rattle.sector.specs.declared.pair.Pair.{Pair}
use Rattle.cow_format.specs.Picture.{place_of}
use Rattle.in_flight.specs.Kinds.{kind_of}
use Rattle.in_flight.specs.Routes.{write_route_of, again_route_of, placed_route_of}
use Rattle.in_flight.specs.declared.flights.Flight.{Flight}
use Rattle.in_flight.specs.declared.flights.Route.{Route}
use Rattle.in_flight.specs.declared.copies.Mark.{Mark}
use Rattle.volume_laws.specs.Books.{SnapBooks, MergeBooks, Books, group_of}
use Rattle.volume_laws.specs.Published.{chunk_of, is_published}

-- whether a chunk is in a group
abbrev pub has_chunk : List Pair → ℕ → Bool
has_chunk group c = list_any (λ q. q.old == c) group

-- where the store that is being merged has a request's chunk
abbrev pub merged_place : Option MergeBooks → Flight → Option ℕ
merged_place None f = None
merged_place (Some m) f = place_of m.pairs (chunk_of m.chunk f)

-- The route of an origin write. clear: whether a write at this first sector may go to the origin disk.
abbrev pub new_route : Option MergeBooks → (ℕ → Bool) → Flight → Route
new_route None clear r = write_route_of false None (clear r.request.range.first)
new_route (Some m) clear r = write_route_of (has_chunk (group_of m) (chunk_of m.chunk r)) (place_of m.pairs (chunk_of m.chunk r)) (clear r.request.range.first)

abbrev pub again_of : Option MergeBooks → (ℕ → Bool) → Flight → Flight
again_of merge clear r = record r { route = again_route_of (kind_of r.request) r.route (new_route merge clear r) }

-- held origin writes are routed again, and nothing else changes
pub record Reroutes (clear : ℕ → Bool) (v w : Books) : Type 0 where
  pub requests : w.requests ≡ map (again_of v.merge clear) v.requests
  pub origin : w.origin ≡ v.origin
  pub sectors : w.sectors ≡ v.sectors
  pub loud : w.loud ≡ v.loud
  pub snaps : w.snaps ≡ v.snaps
  pub merge : w.merge ≡ v.merge

-- the place of a chunk that is published
abbrev pub published_place : List Pair → List Mark → ℕ → Option ℕ
published_place pairs marks c = if is_published pairs marks c then place_of pairs c else None

-- a held write of this snapshot goes to its chunk's place, if that is published
abbrev pub placed_of : SnapBooks → Flight → Flight
placed_of s r = record r { route = placed_route_of s.number (kind_of r.request) r.route (published_place s.pairs s.marks (chunk_of s.chunk r)) }

-- held writes of snapshot k are routed again, and nothing else changes
pub record Places (k : ℕ) (s : SnapBooks) (v w : Books) : Type 0 where
  pub within : k < length v.snaps
  pub was : s ≡ slice_index_or v.snaps k s
  pub requests : w.requests ≡ map (placed_of s) v.requests
  pub origin : w.origin ≡ v.origin
  pub sectors : w.sectors ≡ v.sectors
  pub loud : w.loud ≡ v.loud
  pub snaps : w.snaps ≡ v.snaps
  pub merge : w.merge ≡ v.merge
