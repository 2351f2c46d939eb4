-- Requests of the origin are accepted beside a merge that has their chunk.
use Rattle.std.proofs.Common.{◌≡◌, ℕ, ◌+◌, Bool, true, false, List, [], Option, None, Some, length, map, refl, sym, ◌∙◌, ap}
use Rattle.std.specs.Prelude.{if◌then◌else◌, count_by, is_some}
use Rattle.device.specs.Layers.{Layer, is_loud}
use Rattle.plain_machine.specs.declared.request.Request.{Request}
use Rattle.in_flight.specs.Kinds.{kind_of, room_of}
use Rattle.in_flight.specs.Routes.{flush_route_of, read_route_of, write_route_of}
use Rattle.in_flight.specs.declared.flights.Flight.{Flight}
use Rattle.in_flight.specs.declared.flights.Kind.TheVariants.{OriginRead, OriginWrite, OriginFlush}
use Rattle.plain_machine.specs.Kept.{kept}
use Rattle.in_flight.specs.declared.flights.Route.{Route}
use Rattle.volume_laws.specs.Accepting.{IsPrepared, IsTakenIn}
use Rattle.volume_laws.specs.Published.{is_clear}
use Rattle.volume_laws.proofs.Preparing.{prepared_none}
use Rattle.merge.specs.Merging.{Merging}
use Rattle.snapshot_list.specs.Rooms.{merge_books}
use Rattle.snapshot_list.specs.Routing.{is_grouped_at, place_at, is_merged_at}
use Rattle.snapshot.specs.Kept.{Kept, books_of as snap_books}
use Rattle.snapshot_list.specs.Starting.{own_of, starts, overflows, overflowing}
use Rattle.volume.specs.Volumed.{Volumed, books_of, piece_with}
use Rattle.volume.specs.Whole.{IsWhole}
use Rattle.volume.specs.Submitting.{IsAsked, IsEntered, IsAcceptedAs, entered_of, starting}
use Rattle.volume.proofs.Unflushed.{unflushed}
use Rattle.volume.proofs.Accepts.{entered_accepted}
use Rattle.volume.proofs.ByKind.{origin_flush_enters, origin_read_enters, origin_write_enters}
use Rattle.volume.proofs.MergeRoutes.{grouped_is, place_is, route_is, merged_route_is, merged_apart}
use Rattle.volume.proofs.MovedLists.{if_true, if_false}
use Rattle.volume.proofs.Submitted.{merged_write_submitted}

module _ {B : Type 0} (contents : B → List ℕ) (layers : B → List Layer) (size : B → ℕ) (v : Volumed B) (h : IsWhole contents layers size v) (f : Flight) (number : f.number ≡ v.requests + 1)
    (asked : IsAsked (size v.origin) (piece_with v.merge v.snaps) f.request) (room : length f.room.items ≡ room_of f.request) where
  none : IsPrepared [] (books_of contents layers size v) (books_of contents layers size v)
  none = prepared_none (books_of contents layers size v) h.holds h.waits

  -- a read goes where the merging store has its chunk, or to the origin disk
  pub origin_read_goes : kind_of f.request ≡ OriginRead → f.route ≡ read_route_of (place_at f.request.range.first v.merge) → IsTakenIn [] f.number f.request (books_of contents layers size v) (books_of contents layers size (entered_of f v))
  origin_read_goes kind route = origin_read_enters contents layers size v v [] none h f number asked room kind
      (route ∙ ap read_route_of (sym (place_is contents layers (is_loud (layers v.origin)) v.merge f)))

  -- a flush goes to the merging store first, where a merge is begun
  pub origin_flush_goes : kept f.request ≡ f.request → kind_of f.request ≡ OriginFlush → f.route ≡ flush_route_of (is_some v.merge) → IsTakenIn [] f.number f.request (books_of contents layers size v) (books_of contents layers size (entered_of f v))
  origin_flush_goes whole kind route = origin_flush_enters contents layers size v v [] none h f number asked room whole kind (route ∙ ap flush_route_of (sym (begun_is v.merge)))
    where
      begun_is : (o : Option (Merging B)) → is_some (merge_books contents layers (is_loud (layers v.origin)) o) ≡ is_some o
      begun_is None = refl
      begun_is (Some m) = refl

  -- a write that is the merge's waits for no copy
  pub merged_write_goes : kind_of f.request ≡ OriginWrite → is_merged_at f.request.range.first v.merge ≡ true → f.route ≡ write_route_of (is_grouped_at f.request.range.first v.merge) (place_at f.request.range.first v.merge) false
      → IsTakenIn [] f.number f.request (books_of contents layers size v) (books_of contents layers size (entered_of f v))
  merged_write_goes kind merged route =
      let first : ℕ = f.request.range.first in
      let clear : ℕ → Bool = is_clear (map (snap_books contents layers) v.snaps) in
      let loud : Bool = is_loud (layers v.origin) in
      origin_write_enters contents layers size v v [] none h f number asked room kind
      (route ∙ merged_route_is first v.merge merged false (clear first) ∙ sym (route_is contents layers loud v.merge clear f))
      (λ free unplaced. absurd (merged_apart first v.merge merged (sym (grouped_is contents layers loud v.merge f) ∙ free) (sym (place_is contents layers loud v.merge f) ∙ unplaced)))

-- and it starts no copies and spoils none
pub merged_accepted : {B : Type 0} (contents : B → List ℕ) (layers : B → List Layer) (size : B → ℕ) (request : Request) (route : Route) (number : ℕ) (v w : Volumed B) → IsWhole contents layers size v → kind_of request ≡ OriginWrite → is_merged_at request.range.first v.merge ≡ true
    → route ≡ write_route_of (is_grouped_at request.range.first v.merge) (place_at request.range.first v.merge) false → IsEntered contents layers request route number v w → IsAcceptedAs contents layers request number v w
merged_accepted {B = B} contents layers size request route number v w h kind merged to e =
    let first : ℕ = request.range.first in
    entered_accepted contents layers request route number v w OriginWrite kind (unflushed request OriginWrite kind tt)
    (if_true (is_merged_at first v.merge) [] (overflowing (own_of first) v.snaps) merged)
    (sym (if_true (is_merged_at first v.merge) (map (λ (s : Kept B). s.live) v.snaps) (map (λ (s : Kept B). if overflows first s then false else s.live) v.snaps) merged))
    e (merged_write_submitted contents layers size v h request route number w e kind merged to)

-- any other one starts those that are lacking
pub starting_unmerged : {B : Type 0} (first : ℕ) (v : Volumed B) → is_merged_at first v.merge ≡ false → starting OriginWrite first v.merge v.snaps ≡ count_by (starts first) v.snaps
starting_unmerged first v unmerged = if_false (is_merged_at first v.merge) 0 (count_by (starts first) v.snaps) unmerged
