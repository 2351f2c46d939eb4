-- A request that was put in flight is the event machine's: the facts of a whole volume, with what its calls promise.
use Rattle.std.proofs.Common.{◌≡◌, ℕ, ◌/◌, ◌<◌, Bool, true, false, List, None, length, get_or, refl, ◌∙◌, ap}
use Rattle.std.specs.Prelude.{◌==◌, ◌&&◌, not, is_some}
use Rattle.std.specs.List.{All, list_any}
use Rattle.std.proofs.lemmas.Bool.{eqb-true, eq-eqb, false≢true}
use Rattle.std.proofs.lemmas.List.{get_or_default}
use Rattle.device.specs.Layers.{Layer}
use Rattle.cow_format.specs.Picture.{place_of}
use Rattle.sector.specs.declared.pair.Pair.{Pair}
use Rattle.plain_machine.specs.declared.request.Request.{Request}
use Rattle.plain_machine.specs.Plain.{did_overflow}
use Rattle.in_flight.specs.Kinds.{kind_of}
use Rattle.in_flight.specs.Routes.{flush_route_of, read_route_of, write_route_of}
use Rattle.in_flight.specs.declared.copies.Mark.{Mark}
use Rattle.in_flight.specs.declared.flights.Kind.TheVariants.{OriginRead, OriginWrite, OriginFlush, SnapRead, SnapWrite, SnapFlush}
use Rattle.in_flight.specs.declared.flights.Route.{Route}
use Rattle.in_flight.specs.declared.flights.Route.TheVariants.{Held, Whole}
use Rattle.plain_machine.specs.Kept.{kept}
use Rattle.volume_laws.specs.Again.{published_place}
use Rattle.volume_laws.specs.Published.{is_published}
use Rattle.snapshot.specs.Kept.{Kept}
use Rattle.snapshot_list.specs.Routing.{is_grouped_at, place_at, is_merged_at}
use Rattle.volume.specs.Volumed.{Volumed}
use Rattle.volume.specs.Whole.{IsWhole}
use Rattle.snapshot_list.specs.Starting.{lacks}
use Rattle.volume.specs.Submitting.{IsEntered}
use Rattle.volume.specs.Exact.{IsSubmittedAs}
use Rattle.volume.proofs.Exactly.{holds_live}
use Rattle.volume.proofs.MovedAccepts.{origin_flush_is, snap_flush_is, origin_read_is, merged_write_is, snap_read_is, snap_write_placed_is, snap_write_waits_is}
use Rattle.volume.proofs.MovedFound.{snap_first}
use Rattle.volume.proofs.MovedLists.{IsFirst, if_true, if_false}
use Rattle.volume.proofs.MovedSubmits.{IsSized}
use Rattle.volume.proofs.Named.{IsNamed, place_published}

-- the place of a chunk that is published, and of one that is not
pub published_some : (pairs : List Pair) (marks : List Mark) (c : ℕ) → is_published pairs marks c ≡ true → published_place pairs marks c ≡ place_of pairs c
published_some pairs marks c e = if_true (is_published pairs marks c) (place_of pairs c) None e

pub published_none : (pairs : List Pair) (marks : List Mark) (c : ℕ) → is_published pairs marks c ≡ false → published_place pairs marks c ≡ None
published_none pairs marks c e = if_false (is_published pairs marks c) (place_of pairs c) None e

-- a chunk that is lacking at a sector is not published
pub lacking_unpublished : {B : Type 0} (first : ℕ) (s : Kept B) → lacks first s ≡ true → published_place s.pairs s.marks (first / s.state.chunk) ≡ None
lacking_unpublished first s e =
    let c = first / s.state.chunk in
    published_none s.pairs s.marks c (nowhere s.live (is_some (place_of s.pairs c)) (not (list_any (λ p. p.pair.old == c) s.copies)) (not (list_any (λ m. m.chunk == c) s.marks)) e)
  where
    nowhere : (live has other free : Bool) → (live && not has && other) ≡ true → (has && free) ≡ false
    nowhere live false other free e = refl
    nowhere true true other free e = absurd (false≢true e)
    nowhere false true other free e = absurd (false≢true e)

module _ {B : Type 0} (contents : B → List ℕ) (layers : B → List Layer) (size : B → ℕ) (v : Volumed B) (h : IsWhole contents layers size v) where
  pub sized_at : (k : ℕ) (s : Kept B) → k < length v.snaps → s ≡ get_or v.snaps k s → IsSized contents s
  sized_at k s within is = record { sized = λ live. (holds_live contents layers size v h 0 k s within is live).text.whole }

  pub sized_all : All (IsSized contents) v.snaps
  sized_all k d lt = sized_at k (get_or v.snaps k d) lt (get_or_default v.snaps k d (get_or v.snaps k d) lt)

  -- no snapshot before the one that is named has its number
  pub named_first : (id k : ℕ) (s : Kept B) → IsNamed v id k s → IsFirst (λ (x : Kept B). x.number == id) k s v.snaps
  named_first id k s n = snap_first contents layers size v h id k s n.within n.is (λ (x : Kept B). x.number == id) (λ x e. eqb-true x.number id e) (eq-eqb s.number id n.number)

  module _ (request : Request) (route : Route) (number : ℕ) (w : Volumed B) (e : IsEntered contents layers request route number v w) where
    pub origin_read_submitted : kind_of request ≡ OriginRead → route ≡ read_route_of (place_at request.range.first v.merge) → IsSubmittedAs contents layers request number v w
    origin_read_submitted kind is replied = origin_read_is contents layers replied number request e.flight e.number_is e.request_is v w kind (e.route_is ∙ is) e.becomes

    pub origin_flush_submitted : kept request ≡ request → kind_of request ≡ OriginFlush → route ≡ flush_route_of (is_some v.merge) → IsSubmittedAs contents layers request number v w
    origin_flush_submitted whole kind is replied = origin_flush_is contents layers replied number request e.flight e.number_is e.request_is v w whole kind (e.route_is ∙ is) e.becomes

    -- a write of the origin that is the merge's
    pub merged_write_submitted : kind_of request ≡ OriginWrite → is_merged_at request.range.first v.merge ≡ true → route ≡ write_route_of (is_grouped_at request.range.first v.merge) (place_at request.range.first v.merge) false → IsSubmittedAs contents layers request number v w
    merged_write_submitted kind merged is replied = merged_write_is contents layers replied number request e.flight e.number_is e.request_is v w kind merged (e.route_is ∙ is) e.becomes

    -- of the snapshot that is named
    module _ (id k : ℕ) (s : Kept B) (n : IsNamed v id k s) where
      abbrev c : ℕ
      c = request.range.first / s.state.chunk

      pub snap_read_submitted : kind_of request ≡ SnapRead id → route ≡ read_route_of (place_of s.pairs (request.range.first / s.state.chunk)) → IsSubmittedAs contents layers request number v w
      snap_read_submitted kind is replied = snap_read_is contents layers replied number request e.flight e.number_is e.request_is v w id k s (named_first id k s n) kind n.live
          (e.route_is ∙ is) e.becomes

      pub snap_flush_submitted : kept request ≡ request → kind_of request ≡ SnapFlush id → route ≡ Whole → IsSubmittedAs contents layers request number v w
      snap_flush_submitted whole kind is replied = snap_flush_is contents layers replied number request e.flight e.number_is e.request_is v w id k s (named_first id k s n) whole kind n.live
          (e.route_is ∙ is) e.becomes

      -- a write of a chunk that is published
      pub snap_placed_submitted : kind_of request ≡ SnapWrite id → did_overflow s.overflow ≡ false → lacks request.range.first s ≡ false → is_published s.pairs s.marks (request.range.first / s.state.chunk) ≡ true → route ≡ read_route_of (place_of s.pairs (request.range.first / s.state.chunk))
          → IsSubmittedAs contents layers request number v w
      snap_placed_submitted kind did has published is replied =
          let (place, at) = place_published s.pairs s.marks (request.range.first / s.state.chunk) published in
          snap_write_placed_is contents layers replied number request e.flight e.number_is e.request_is v w id k s (named_first id k s n) place kind n.live did has
          (published_some s.pairs s.marks c published ∙ at) (e.route_is ∙ is ∙ ap read_route_of at) e.becomes

      -- of one whose copy is under way
      pub snap_waits_submitted : kind_of request ≡ SnapWrite id → did_overflow s.overflow ≡ false → is_published s.pairs s.marks (request.range.first / s.state.chunk) ≡ false → lacks request.range.first s ≡ false → route ≡ Held → IsSubmittedAs contents layers request number v w
      snap_waits_submitted kind did unpublished has is replied =
          snap_write_waits_is contents layers replied number request e.flight e.number_is e.request_is v w id k s (named_first id k s n) kind n.live did
          (published_none s.pairs s.marks c unpublished) has (e.route_is ∙ is) e.becomes
