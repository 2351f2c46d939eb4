-- No new route is that to a whole store: a request that has it after it was routed again had it before.
use Rattle.std.proofs.Common.{◌≡◌, ◌≢◌, ℕ, Bool, true, false, List, Option, None, Some}
use Rattle.std.specs.Prelude.{◌==◌, if◌then◌else◌}
use Rattle.plain_machine.specs.Plain.{is_in}
use Rattle.in_flight.specs.Routes.{write_route_of, again_route_of, placed_route_of, refused_route_of}
use Rattle.in_flight.specs.declared.flights.Flight.{Flight}
use Rattle.in_flight.specs.declared.flights.Kind.{Kind}
use Rattle.in_flight.specs.declared.flights.Kind.TheVariants.{OriginRead, OriginWrite, OriginFlush, SnapRead, SnapWrite, SnapFlush}
use Rattle.in_flight.specs.declared.flights.Route.{Route}
use Rattle.in_flight.specs.declared.flights.Route.TheVariants.{Held, Origin, Store, Whole, Refused}
use Rattle.volume_laws.specs.Again.{has_chunk, new_route}
use Rattle.volume_laws.specs.Books.{MergeBooks, group_of}
use Rattle.volume_laws.specs.Published.{chunk_of}
use Rattle.cow_format.specs.Picture.{place_of}

write_whole : (grouped : Bool) (place : Option ℕ) (clear : Bool) → write_route_of grouped place clear ≢ Whole
write_whole true place clear e = cc
write_whole false (Some p) clear e = cc
write_whole false None true e = cc
write_whole false None false e = cc

pub new_whole : (merge : Option MergeBooks) (clear : ℕ → Bool) (r : Flight) → new_route merge clear r ≢ Whole
new_whole None clear r e = write_whole false None (clear r.request.range.first) e
new_whole (Some m) clear r e = write_whole (has_chunk (group_of m) (chunk_of m.chunk r)) (place_of m.pairs (chunk_of m.chunk r)) (clear r.request.range.first) e

pub again_whole : (kind : Kind) (route new : Route) → new ≢ Whole → again_route_of kind route new ≡ Whole → route ≡ Whole
again_whole kind Origin new other e = e
again_whole kind (Store place) new other e = e
again_whole kind Whole new other e = e
again_whole kind Refused new other e = e
again_whole OriginRead Held new other e = e
again_whole OriginWrite Held new other e = absurd (other e)
again_whole OriginFlush Held new other e = e
again_whole (SnapRead n) Held new other e = e
again_whole (SnapWrite n) Held new other e = e
again_whole (SnapFlush n) Held new other e = e

if_whole : (b : Bool) (x y : Route) → x ≢ Whole → (if b then x else y) ≡ Whole → y ≡ Whole
if_whole true x y other e = absurd (other e)
if_whole false x y other e = e

store_whole : (p : ℕ) → Store p ≢ Whole
store_whole p e = cc

refused_whole_not : Refused ≢ Whole
refused_whole_not e = cc

pub placed_whole : (snap : ℕ) (kind : Kind) (route : Route) (place : Option ℕ) → placed_route_of snap kind route place ≡ Whole → route ≡ Whole
placed_whole snap OriginRead route place e = e
placed_whole snap OriginWrite route place e = e
placed_whole snap OriginFlush route place e = e
placed_whole snap (SnapRead n) route place e = e
placed_whole snap (SnapFlush n) route place e = e
placed_whole snap (SnapWrite n) Origin place e = e
placed_whole snap (SnapWrite n) (Store p) place e = e
placed_whole snap (SnapWrite n) Whole place e = e
placed_whole snap (SnapWrite n) Refused place e = e
placed_whole snap (SnapWrite n) Held None e = e
placed_whole snap (SnapWrite n) Held (Some p) e = if_whole (n == snap) (Store p) Held (store_whole p) e

pub refused_whole : (which : List ℕ) (kind : Kind) (route : Route) → refused_route_of which kind route ≡ Whole → route ≡ Whole
refused_whole which OriginRead route e = e
refused_whole which OriginWrite route e = e
refused_whole which OriginFlush route e = e
refused_whole which (SnapRead n) route e = if_whole (is_in which n) Refused route refused_whole_not e
refused_whole which (SnapWrite n) route e = if_whole (is_in which n) Refused route refused_whole_not e
refused_whole which (SnapFlush n) route e = if_whole (is_in which n) Refused route refused_whole_not e
