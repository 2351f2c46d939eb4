-- A request of each kind is in flight: where it goes, and why it waits.
use Rattle.std.proofs.Common.{◌≡◌, ◌≢◌, ℕ, ◌+◌, ◌<◌, true, false, List, Option, Some, None, length, get_or, map, sym, ◌∙◌}
use Rattle.std.specs.List.{All}
use Rattle.std.specs.Prelude.{is_some}
use Rattle.device.specs.Layers.{Layer, is_loud}
use Rattle.cow_format.specs.Picture.{place_of}
use Rattle.plain_machine.specs.Plain.{did_overflow}
use Rattle.in_flight.specs.Kinds.{kind_of, room_of}
use Rattle.in_flight.specs.Routes.{flush_route_of, read_route_of}
use Rattle.in_flight.specs.declared.flights.Flight.{Flight}
use Rattle.in_flight.specs.declared.flights.Kind.TheVariants.{OriginRead, OriginWrite, OriginFlush, SnapRead, SnapWrite, SnapFlush}
use Rattle.in_flight.specs.declared.flights.Route.TheVariants.{Store, Held, Whole}
use Rattle.plain_machine.specs.Kept.{kept}
use Rattle.volume_laws.specs.Held.{RequestHolds}
use Rattle.volume_laws.specs.Books.{MergeBooks}
use Rattle.volume_laws.specs.Again.{merged_place, new_route}
use Rattle.volume_laws.specs.Published.{chunk_of, is_clear, IsPiece, IsPublished}
use Rattle.volume_laws.specs.Waits.{IsSaving, IsCopying, is_grouped}
use Rattle.volume_laws.specs.Accepting.{IsPrepared, IsTakenIn, IsBeside}
use Rattle.volume_laws.proofs.Entries.{origin_flush_is, snap_flush_is}
use Rattle.volume_laws.proofs.Wholes.{new_whole}
use Rattle.plain_machine.specs.declared.request.Op.TheVariants.{Flush}
use Rattle.volume_laws.proofs.Beside.{beside_origin_read, beside_origin_write, beside_origin_flush, beside_snap_read, beside_snap_write, beside_snap_flush}
use Rattle.volume_laws.proofs.Accepted.{origin_read_taken, origin_write_taken, origin_flush_taken, snap_flush_taken, snap_read_taken, snap_write_held_taken, snap_write_placed_taken}
use Rattle.snapshot.specs.Kept.{Kept, books_of as snap_books}
use Rattle.volume.specs.Volumed.{Volumed, books_of, piece_with}
use Rattle.volume.specs.Whole.{IsWhole}
use Rattle.volume.specs.Submitting.{IsAsked, entered_of}
use Rattle.volume.proofs.Changing.{books_within, books_is}
use Rattle.volume.proofs.Enters.{accepts, fresh, pieces_all}
use Rattle.volume.proofs.Least.{piece_in_merge}
use Rattle.volume.proofs.MergeRoutes.{piece_beside_is, numbered_apart}
use Rattle.volume.proofs.Unflushed.{IsUnflushed, kept_is, unflushed}
use Rattle.in_flight.specs.declared.flights.Kind.{Kind}

-- no other request goes to a whole store
read_whole : (place : Option ℕ) → read_route_of place ≢ Whole
read_whole (Some n) e = cc
read_whole None e = cc

held_whole : Held ≢ Whole
held_whole e = cc

store_whole : (place : ℕ) → Store place ≢ Whole
store_whole place e = cc

module _ {B : Type 0} (contents : B → List ℕ) (layers : B → List Layer) (size : B → ℕ) (v0 u : Volumed B) (which : List ℕ) (p : IsPrepared which (books_of contents layers size v0) (books_of contents layers size u)) (h : IsWhole contents layers size u)
    (f : Flight) (number : f.number ≡ u.requests + 1) (asked : IsAsked (size u.origin) (piece_with u.merge u.snaps) f.request) (room : length f.room.items ≡ room_of f.request) where
  one : (f.route ≡ Whole → f.request.op ≡ Flush) → RequestHolds (size u.origin) f
  one whole = record { some = asked.some; inside = asked.inside; room = room; bytes = asked.bytes; whole = whole }

  -- a read and a write are kept as they are
  keeps : (k : Kind) → kind_of f.request ≡ k → IsUnflushed k → kept f.request ≡ f.request
  keeps k is u = kept_is f.request (unflushed f.request k is u)

  -- a merge, as the books have it
  piece_in : (m : MergeBooks) → (books_of contents layers size u).merge ≡ Some m → IsPiece m.chunk f.request.range
  piece_in m is = piece_beside_is contents layers (is_loud (layers u.origin)) u.merge f.request.range (piece_in_merge contents layers size u h f.request.range asked.piece) m is

  pub origin_read_enters : kind_of f.request ≡ OriginRead → f.route ≡ read_route_of (merged_place (books_of contents layers size u).merge f) → IsTakenIn which f.number f.request (books_of contents layers size v0) (books_of contents layers size (entered_of f u))
  origin_read_enters kind route = origin_read_taken which f (books_of contents layers size v0) (books_of contents layers size u) (books_of contents layers size (entered_of f u)) p (accepts contents layers size u f h number) (one (λ e. absurd (read_whole (merged_place (books_of contents layers size u).merge f) (sym route ∙ e)))) (keeps OriginRead kind tt)
      (fresh contents layers size u f h number) (λ m is. beside_origin_read f m kind (piece_in m is)) (pieces_all contents layers size u f h number asked.piece) kind route

  pub origin_flush_enters : kept f.request ≡ f.request → kind_of f.request ≡ OriginFlush → f.route ≡ flush_route_of (is_some (books_of contents layers size u).merge) → IsTakenIn which f.number f.request (books_of contents layers size v0) (books_of contents layers size (entered_of f u))
  origin_flush_enters whole kind route = origin_flush_taken which f (books_of contents layers size v0) (books_of contents layers size u) (books_of contents layers size (entered_of f u)) p (accepts contents layers size u f h number) (one (λ _. (origin_flush_is f.request.dev f.request.op kind).1)) whole
      (fresh contents layers size u f h number) (λ m is. beside_origin_flush f m kind (piece_in m is)) (pieces_all contents layers size u f h number asked.piece) kind route

  pub origin_write_enters : kind_of f.request ≡ OriginWrite → f.route ≡ new_route (books_of contents layers size u).merge (is_clear (map (snap_books contents layers) u.snaps)) f
      → (is_grouped (books_of contents layers size u).merge f ≡ false → merged_place (books_of contents layers size u).merge f ≡ None → All (λ s. s.live ≡ true → IsSaving (chunk_of s.chunk f) s) (map (snap_books contents layers) u.snaps))
      → IsTakenIn which f.number f.request (books_of contents layers size v0) (books_of contents layers size (entered_of f u))
  origin_write_enters kind route saving = origin_write_taken which f (books_of contents layers size v0) (books_of contents layers size u) (books_of contents layers size (entered_of f u)) p (accepts contents layers size u f h number) (one (λ e. absurd (new_whole (books_of contents layers size u).merge (is_clear (map (snap_books contents layers) u.snaps)) f (sym route ∙ e)))) (keeps OriginWrite kind tt)
      (fresh contents layers size u f h number) (λ m is. beside_origin_write f m kind (piece_in m is)) (pieces_all contents layers size u f h number asked.piece) kind route saving

  -- of the live snapshot at place k
  module _ (k : ℕ) (s : Kept B) (within : k < length u.snaps) (is : s ≡ get_or u.snaps k s) (live : s.live ≡ true) where
    beside_read : kind_of f.request ≡ SnapRead s.number → (m : MergeBooks) → (books_of contents layers size u).merge ≡ Some m → IsBeside f m
    beside_read kind m at = beside_snap_read (books_of contents layers size u).merge (books_of contents layers size u).snaps (numbered_apart contents layers size (is_loud (layers u.origin)) u.merge u h.merge) f m at k (snap_books contents layers s)
        (books_within contents layers size u u.origin k s s within is) (books_is contents layers size u u.origin k s s within is) (piece_in m at) kind

    beside_flush : kind_of f.request ≡ SnapFlush s.number → (m : MergeBooks) → (books_of contents layers size u).merge ≡ Some m → IsBeside f m
    beside_flush kind m at = beside_snap_flush (books_of contents layers size u).merge (books_of contents layers size u).snaps (numbered_apart contents layers size (is_loud (layers u.origin)) u.merge u h.merge) f m at k (snap_books contents layers s)
        (books_within contents layers size u u.origin k s s within is) (books_is contents layers size u u.origin k s s within is) (piece_in m at) kind

    pub snap_flush_enters : kept f.request ≡ f.request → kind_of f.request ≡ SnapFlush s.number → f.route ≡ Whole → IsTakenIn which f.number f.request (books_of contents layers size v0) (books_of contents layers size (entered_of f u))
    snap_flush_enters whole kind route = snap_flush_taken which f (books_of contents layers size v0) (books_of contents layers size u) (books_of contents layers size (entered_of f u)) p (accepts contents layers size u f h number) (one (λ _. (snap_flush_is f.request.dev f.request.op s.number kind).1)) whole
        (fresh contents layers size u f h number) (beside_flush kind) (pieces_all contents layers size u f h number asked.piece)
        k (snap_books contents layers s) (books_within contents layers size u u.origin k s s within is) (books_is contents layers size u u.origin k s s within is) live kind route

    beside_write : kind_of f.request ≡ SnapWrite s.number → (m : MergeBooks) → (books_of contents layers size u).merge ≡ Some m → IsBeside f m
    beside_write kind m at = beside_snap_write (books_of contents layers size u).merge (books_of contents layers size u).snaps (numbered_apart contents layers size (is_loud (layers u.origin)) u.merge u h.merge) f m at k (snap_books contents layers s)
        (books_within contents layers size u u.origin k s s within is) (books_is contents layers size u u.origin k s s within is) (piece_in m at) kind

    pub snap_read_enters : kind_of f.request ≡ SnapRead s.number → f.route ≡ read_route_of (place_of s.pairs (chunk_of s.state.chunk f)) → IsTakenIn which f.number f.request (books_of contents layers size v0) (books_of contents layers size (entered_of f u))
    snap_read_enters kind route = snap_read_taken which f (books_of contents layers size v0) (books_of contents layers size u) (books_of contents layers size (entered_of f u)) p (accepts contents layers size u f h number) (one (λ e. absurd (read_whole (place_of s.pairs (chunk_of s.state.chunk f)) (sym route ∙ e)))) (keeps (SnapRead s.number) kind tt)
        (fresh contents layers size u f h number) (beside_read kind) (pieces_all contents layers size u f h number asked.piece)
        k (snap_books contents layers s) (books_within contents layers size u u.origin k s s within is) (books_is contents layers size u u.origin k s s within is) live kind route

    pub snap_write_held_enters : kind_of f.request ≡ SnapWrite s.number → did_overflow s.overflow ≡ false → f.route ≡ Held → IsCopying (chunk_of s.state.chunk f) (snap_books contents layers s) → IsTakenIn which f.number f.request (books_of contents layers size v0) (books_of contents layers size (entered_of f u))
    snap_write_held_enters kind did route copying = snap_write_held_taken which f (books_of contents layers size v0) (books_of contents layers size u) (books_of contents layers size (entered_of f u)) p (accepts contents layers size u f h number) (one (λ e. absurd (held_whole (sym route ∙ e)))) (keeps (SnapWrite s.number) kind tt)
        (fresh contents layers size u f h number) (beside_write kind) (pieces_all contents layers size u f h number asked.piece)
        k (snap_books contents layers s) (books_within contents layers size u u.origin k s s within is) (books_is contents layers size u u.origin k s s within is) live kind did route copying

    pub snap_write_placed_enters : (place : ℕ) → kind_of f.request ≡ SnapWrite s.number → did_overflow s.overflow ≡ false → f.route ≡ Store place → place_of s.pairs (chunk_of s.state.chunk f) ≡ Some place → IsPublished s.pairs s.marks (chunk_of s.state.chunk f)
        → IsTakenIn which f.number f.request (books_of contents layers size v0) (books_of contents layers size (entered_of f u))
    snap_write_placed_enters place kind did route named published = snap_write_placed_taken which f (books_of contents layers size v0) (books_of contents layers size u) (books_of contents layers size (entered_of f u)) p (accepts contents layers size u f h number) (one (λ e. absurd (store_whole place (sym route ∙ e)))) (keeps (SnapWrite s.number) kind tt)
        (fresh contents layers size u f h number) (beside_write kind) (pieces_all contents layers size u f h number asked.piece)
        k (snap_books contents layers s) (books_within contents layers size u u.origin k s s within is) (books_is contents layers size u u.origin k s s within is) live place kind did route named published
