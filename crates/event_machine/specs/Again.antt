-- How requests are routed, and those in flight routed again, as `in_flight` has it.
use Rattle.std.specs.Prelude.{◌&&◌, ◌||◌, not, ℕ, ◌/◌, Bool, false, List, [], ◌∷◌, Option, Some, None, map}
use Rattle.std.specs.List.{list_any, list_all}
use Rattle.std.specs.Option.{is_some, unwrap_or}
use Rattle.chunk.specs.Pieces.{chunks_over}
use Rattle.cow_format.specs.Picture.{place_of}
use Rattle.in_flight.specs.Due.{first_by}
use Rattle.in_flight.specs.Kinds.{kind_of}
use Rattle.in_flight.specs.Routes.{write_route_of, again_route_of, placed_route_of, refused_route_of}
use Rattle.in_flight.specs.declared.flights.Route.{Route}
use Rattle.volume_laws.specs.Published.{is_published}
use Rattle.volume_laws.specs.Again.{has_chunk, published_place}
use Rattle.event_machine.specs.Held.{SnapHeld, Going, MergeHeld, Moving, is_untried, group_in}

-- the chunk of the origin's sector `first` is published in a snapshot, if that is live
abbrev pub is_saved : ℕ → SnapHeld → Bool
is_saved first h = not h.snap.live || is_published h.pairs h.marks (first / h.snap.chunk)

-- an origin write may go to the origin disk
abbrev pub is_clear : List SnapHeld → ℕ → Bool
is_clear snaps first = list_all (is_saved first) snaps && not (list_any is_untried snaps)

-- the first chunk that a snapshot has not published, of those that so many sectors touch from this one on
abbrev pub unpublished_in : ℕ → ℕ → SnapHeld → Option ℕ
unpublished_in first count h = first_by (λ c. not (is_published h.pairs h.marks c)) (λ c. c) (chunks_over h.snap.chunk first count)

-- and the one that these sectors begin in, where all are published
abbrev pub next_over : ℕ → ℕ → SnapHeld → ℕ
next_over first count h = unwrap_or (unpublished_in first count h) (first / h.snap.chunk)

-- each chunk that touches these sectors is published in a snapshot, if that is live
abbrev pub is_saved_over : ℕ → ℕ → SnapHeld → Bool
is_saved_over first count h = not h.snap.live || not (is_some (unpublished_in first count h))

-- a merged chunk of so many sectors may be written to the origin disk
abbrev pub is_clear_over : List SnapHeld → ℕ → ℕ → Bool
is_clear_over snaps first count = list_all (is_saved_over first count) snaps && not (list_any is_untried snaps)

-- whether the chunk of the origin's sector `first` is in the present group, and its place on the merging store
abbrev pub is_grouped : Option MergeHeld → ℕ → Bool
is_grouped None first = false
is_grouped (Some m) first = has_chunk (group_in m) (first / m.merge.chunk)

abbrev pub merged_place : Option MergeHeld → ℕ → Option ℕ
merged_place None first = None
merged_place (Some m) first = place_of m.pairs (first / m.merge.chunk)

-- the route of an origin write
abbrev pub write_route : Option MergeHeld → List SnapHeld → ℕ → Route
write_route merge snaps first = write_route_of (is_grouped merge first) (merged_place merge first) (is_clear snaps first)

-- a held origin write
abbrev pub again : Option MergeHeld → List SnapHeld → Going → Going
again merge snaps r = record r { route = again_route_of (kind_of r.request) r.route (write_route merge snaps r.request.range.first) }

-- a held write of this snapshot
abbrev pub placed : SnapHeld → Going → Going
placed h r = record r { route = placed_route_of h.snap.number (kind_of r.request) r.route (published_place h.pairs h.marks (r.request.range.first / h.snap.chunk)) }

-- a request of a snapshot that was spoiled
abbrev pub refused : ℕ → Going → Going
refused number r = record r { route = refused_route_of (number ∷ []) (kind_of r.request) r.route }

abbrev pub rerouted : Moving → Moving
rerouted v = record v { requests = map (again v.merge v.snaps) v.requests }
