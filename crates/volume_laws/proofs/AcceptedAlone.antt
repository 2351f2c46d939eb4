-- A request is in flight, once its copies are started, in a volume without a merge.
use Rattle.std.proofs.Common.{◌≡◌, ◌≢◌, ℕ, ◌<◌, true, false, List, Option, Some, None, length, get_or, sym, ◌∙◌, ap}
use Rattle.std.specs.List.{All}
use Rattle.cow_format.specs.Picture.{place_of}
use Rattle.plain_machine.specs.Kept.{kept}
use Rattle.plain_machine.specs.Plain.{did_overflow}
use Rattle.in_flight.specs.Kinds.{kind_of}
use Rattle.in_flight.specs.Routes.{read_route_of, write_route_of}
use Rattle.in_flight.specs.declared.flights.Flight.{Flight}
use Rattle.in_flight.specs.declared.flights.Kind.TheVariants.{OriginRead, OriginWrite, SnapRead, SnapWrite}
use Rattle.in_flight.specs.declared.flights.Route.TheVariants.{Held, Store}
use Rattle.volume_laws.specs.Books.{SnapBooks, MergeBooks, Books}
use Rattle.volume_laws.specs.Published.{chunk_of, IsPublished, is_clear}
use Rattle.volume_laws.specs.Held.{RequestHolds}
use Rattle.volume_laws.specs.Waits.{IsSaving, IsCopying}
use Rattle.volume_laws.specs.Again.{merged_place, new_route}
use Rattle.volume_laws.specs.Steps.{Accepts}
use Rattle.volume_laws.specs.Accepting.{IsPrepared, IsTakenIn, IsBeside}
use Rattle.volume_laws.proofs.Routed.{ArePieces}
use Rattle.volume_laws.proofs.Accepted.{origin_read_taken as read_taken, origin_write_taken as write_taken, snap_read_taken as snap_taken, snap_write_held_taken as held_taken, snap_write_placed_taken as placed_taken}

none_beside : (f : Flight) (merge : Option MergeBooks) → merge ≡ None → (m : MergeBooks) → merge ≡ Some m → IsBeside f m
none_beside f merge none m is = absurd (none_ne_some m (sym none ∙ is))
  where
    none_ne_some : (x : MergeBooks) → None ≢ Some x
    none_ne_some x e = cc

module _ (which : List ℕ) (f : Flight) (v u w : Books) (h : IsPrepared which v u) (e : Accepts f u w) (one : RequestHolds u.sectors f) (keeps : kept f.request ≡ f.request) (fresh : All (λ (g : Flight). g.number ≢ f.number) u.requests) (alone : u.merge ≡ None) (pieces : ArePieces f u.snaps) where
  pub origin_read_taken : kind_of f.request ≡ OriginRead → f.route ≡ read_route_of None → IsTakenIn which f.number f.request v w
  origin_read_taken kind route = read_taken which f v u w h e one keeps fresh (none_beside f u.merge alone) pieces kind (route ∙ ap (λ m. read_route_of (merged_place m f)) (sym alone))

  pub origin_write_taken : kind_of f.request ≡ OriginWrite → f.route ≡ write_route_of false None (is_clear u.snaps f.request.range.first) → All (λ s. s.live ≡ true → IsSaving (chunk_of s.chunk f) s) u.snaps → IsTakenIn which f.number f.request v w
  origin_write_taken kind route saving = write_taken which f v u w h e one keeps fresh (none_beside f u.merge alone) pieces kind (route ∙ ap (λ m. new_route m (is_clear u.snaps) f) (sym alone)) (λ _ _. saving)

  -- of the live snapshot s, which stands at place j
  module _ (j : ℕ) (s : SnapBooks) (within : j < length u.snaps) (was : s ≡ get_or u.snaps j s) (live : s.live ≡ true) where
    pub snap_read_taken : kind_of f.request ≡ SnapRead s.number → f.route ≡ read_route_of (place_of s.pairs (chunk_of s.chunk f)) → IsTakenIn which f.number f.request v w
    snap_read_taken = snap_taken which f v u w h e one keeps fresh (none_beside f u.merge alone) pieces j s within was live

    pub snap_write_held_taken : kind_of f.request ≡ SnapWrite s.number → did_overflow s.overflow ≡ false → f.route ≡ Held → IsCopying (chunk_of s.chunk f) s → IsTakenIn which f.number f.request v w
    snap_write_held_taken = held_taken which f v u w h e one keeps fresh (none_beside f u.merge alone) pieces j s within was live

    pub snap_write_placed_taken : (place : ℕ) → kind_of f.request ≡ SnapWrite s.number → did_overflow s.overflow ≡ false → f.route ≡ Store place → place_of s.pairs (chunk_of s.chunk f) ≡ Some place → IsPublished s.pairs s.marks (chunk_of s.chunk f) → IsTakenIn which f.number f.request v w
    snap_write_placed_taken = placed_taken which f v u w h e one keeps fresh (none_beside f u.merge alone) pieces j s within was live
