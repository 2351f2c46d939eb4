-- Requests of spoiled snapshots are refused: what that leaves of the others' routes.
use Rattle.std.proofs.Common.{Bool, ◌≡◌, ℕ, true, false, List, [], ◌∷◌, Option, Some, None, get_or, map, take, inl, inr, refl, sym, ◌∙◌, ap, if◌then◌else◌}
use Rattle.std.specs.List.{All}
use Rattle.std.proofs.lemmas.List.Elements.{All-weaker, All-map}
use Rattle.sector.specs.declared.pair.Pair.{Pair}
use Rattle.plain_machine.specs.Plain.{is_in}
use Rattle.in_flight.specs.Kinds.{kind_of, in_flight}
use Rattle.in_flight.specs.Routes.{refused_of, refused_route_of}
use Rattle.in_flight.specs.declared.flights.Flight.{Flight}
use Rattle.in_flight.specs.declared.flights.Kind.{Kind}
use Rattle.in_flight.specs.declared.flights.Kind.TheVariants.{OriginRead, OriginWrite, OriginFlush, SnapRead, SnapWrite, SnapFlush}
use Rattle.in_flight.specs.declared.flights.Route.{Route}
use Rattle.in_flight.specs.declared.flights.Route.TheVariants.{Refused}
use Rattle.volume_laws.specs.Books.{SnapBooks, MergeBooks, listed, taken}
use Rattle.volume_laws.specs.Held.{LiveHolds, SnapHolds, RouteHolds, RefusedHolds, UntriedHolds, RequestHolds}
use Rattle.volume_laws.specs.Merging.{MergeHolds, MergeRouteHolds}
use Rattle.volume_laws.specs.Whole.{UnmergedHolds, OriginHolds}
use Rattle.volume_laws.proofs.Wholes.{refused_whole}

-- the routes that are left
same_origin_read : (which : List ℕ) (kind : Kind) (route : Route) → kind ≡ OriginRead → refused_route_of which kind route ≡ route
same_origin_read which kind route e = rw e refl

same_origin_write : (which : List ℕ) (kind : Kind) (route : Route) → kind ≡ OriginWrite → refused_route_of which kind route ≡ route
same_origin_write which kind route e = rw e refl

same_origin_flush : (which : List ℕ) (kind : Kind) (route : Route) → kind ≡ OriginFlush → refused_route_of which kind route ≡ route
same_origin_flush which kind route e = rw e refl

same_read : (which : List ℕ) (n : ℕ) (kind : Kind) (route : Route) → is_in which n ≡ false → kind ≡ SnapRead n → refused_route_of which kind route ≡ route
same_read which n kind route none e = rw e (rw none refl)

same_write : (which : List ℕ) (n : ℕ) (kind : Kind) (route : Route) → is_in which n ≡ false → kind ≡ SnapWrite n → refused_route_of which kind route ≡ route
same_write which n kind route none e = rw e (rw none refl)

same_flush : (which : List ℕ) (n : ℕ) (kind : Kind) (route : Route) → is_in which n ≡ false → kind ≡ SnapFlush n → refused_route_of which kind route ≡ route
same_flush which n kind route none e = rw e (rw none refl)

refused_read : (which : List ℕ) (n : ℕ) (kind : Kind) (route : Route) → is_in which n ≡ true → kind ≡ SnapRead n → refused_route_of which kind route ≡ Refused
refused_read which n kind route one e = rw e (rw one refl)

refused_write : (which : List ℕ) (n : ℕ) (kind : Kind) (route : Route) → is_in which n ≡ true → kind ≡ SnapWrite n → refused_route_of which kind route ≡ Refused
refused_write which n kind route one e = rw e (rw one refl)

refused_flush : (which : List ℕ) (n : ℕ) (kind : Kind) (route : Route) → is_in which n ≡ true → kind ≡ SnapFlush n → refused_route_of which kind route ≡ Refused
refused_flush which n kind route one e = rw e (rw one refl)

-- refused stays refused
still_refused : (which : List ℕ) (kind : Kind) (route : Route) → route ≡ Refused → refused_route_of which kind route ≡ Refused
still_refused which OriginRead route e = e
still_refused which OriginWrite route e = e
still_refused which OriginFlush route e = e
still_refused which (SnapRead n) route e = elim (is_in which n) as (λ b. (if b then Refused else route) ≡ Refused) [ true ↦ refl | false ↦ e ]
still_refused which (SnapWrite n) route e = elim (is_in which n) as (λ b. (if b then Refused else route) ≡ Refused) [ true ↦ refl | false ↦ e ]
still_refused which (SnapFlush n) route e = elim (is_in which n) as (λ b. (if b then Refused else route) ≡ Refused) [ true ↦ refl | false ↦ e ]

-- of a merge, other requests whose routes hold
pub merge_requests : (o : List ℕ) (rs rs' : List Flight) (m : MergeBooks) → MergeHolds o rs m → All (MergeRouteHolds m.number m.chunk m.pairs (listed m) (taken m)) rs' → MergeHolds o rs' m
merge_requests o rs rs' m h routes = record { text = h.text; stored = h.stored; fits = h.fits; ending = h.ending; room = h.room; buffered = h.buffered; back = h.back; routes = routes }

-- of a live snapshot
pub live_requests : {l : Bool} (o : List ℕ) (rs rs' : List Flight) (v : SnapBooks) → LiveHolds l o rs v → All (RouteHolds v.number v.chunk v.pairs v.marks) rs' → LiveHolds l o rs' v
live_requests o rs rs' v h routes = record { text = h.text; stored = h.stored; fits = h.fits; tried = h.tried; agree = h.agree; few = h.few; link = h.link; copies = h.copies; unpublished = h.unpublished; routes = routes }

merge_route_kept : (which : List ℕ) (m : MergeBooks) (r : Flight) → MergeRouteHolds m.number m.chunk m.pairs (listed m) (taken m) r → MergeRouteHolds m.number m.chunk m.pairs (listed m) (taken m) (refused_of which r)
merge_route_kept which m r h = let kind : Kind = kind_of r.request in record {
  piece = h.piece;
  read = λ is route. h.read is (sym (same_origin_read which kind r.route is) ∙ route);
  read_stored = λ place is route. h.read_stored place is (sym (same_origin_read which kind r.route is) ∙ route);
  write = λ is route. h.write is (sym (same_origin_write which kind r.route is) ∙ route);
  write_stored = λ place is route. h.write_stored place is (sym (same_origin_write which kind r.route is) ∙ route);
  untaken = λ place is route. h.untaken place is (sym (same_origin_write which kind r.route is) ∙ route);
  no_read = h.no_read;
  no_write = h.no_write;
  flush = λ is. (let same = same_origin_flush which kind r.route is in elim (h.flush is) [ inl whole ↦ inl (same ∙ whole) | inr disk ↦ inr (same ∙ disk) ]);
  no_flush = h.no_flush;
}

unmerged_kept : (which : List ℕ) (r : Flight) → UnmergedHolds r → UnmergedHolds (refused_of which r)
unmerged_kept which r h = record {
  read = λ place is route. h.read place is (sym (same_origin_read which (kind_of r.request) r.route is) ∙ route);
  write = λ place is route. h.write place is (sym (same_origin_write which (kind_of r.request) r.route is) ∙ route);
  flush = λ is. same_origin_flush which (kind_of r.request) r.route is ∙ h.flush is;
}

pub origin_refused : (which : List ℕ) (o : List ℕ) (rs : List Flight) (merge : Option MergeBooks) → OriginHolds o rs merge → OriginHolds o (map (refused_of which) rs) merge
origin_refused which o rs None h = All-map UnmergedHolds (refused_of which) rs (All-weaker UnmergedHolds (λ r. UnmergedHolds (refused_of which r)) (unmerged_kept which) rs h)
origin_refused which o rs (Some m) h =
    let P = MergeRouteHolds m.number m.chunk m.pairs (listed m) (taken m) in
    merge_requests o rs (map (refused_of which) rs) m h (All-map P (refused_of which) rs (All-weaker P (λ r. P (refused_of which r)) (merge_route_kept which m) rs h.routes))

-- another live snapshot's requests
route_kept : (which : List ℕ) (v : SnapBooks) (r : Flight) → is_in which v.number ≡ false → RouteHolds v.number v.chunk v.pairs v.marks r → RouteHolds v.number v.chunk v.pairs v.marks (refused_of which r)
route_kept which v r none h = let kind : Kind = kind_of r.request in record {
  piece = h.piece;
  origin_write = λ is route. h.origin_write is (sym (same_origin_write which kind r.route is) ∙ route);
  read = λ is route. h.read is (sym (same_read which v.number kind r.route none is) ∙ route);
  read_stored = λ place is route. h.read_stored place is (sym (same_read which v.number kind r.route none is) ∙ route);
  write = λ is route. h.write is (sym (same_write which v.number kind r.route none is) ∙ route);
  write_stored = λ place is route. h.write_stored place is (sym (same_write which v.number kind r.route none is) ∙ route);
  read_alive = λ is route. h.read_alive is (sym (same_read which v.number kind r.route none is) ∙ route);
  write_alive = λ is route. h.write_alive is (sym (same_write which v.number kind r.route none is) ∙ route);
  flush = λ is. same_flush which v.number kind r.route none is ∙ h.flush is;
}

-- a spoiled snapshot's requests
pub refuses : (which : List ℕ) (n : ℕ) (rs : List Flight) → is_in which n ≡ true → All (RefusedHolds n) (map (refused_of which) rs)
refuses which n rs one = All-map (RefusedHolds n) (refused_of which) rs (λ k d lt. (let r = get_or rs k d in
    record { read = refused_read which n (kind_of r.request) r.route one; write = refused_write which n (kind_of r.request) r.route one; flush = refused_flush which n (kind_of r.request) r.route one }))

refused_kept : (which : List ℕ) (n : ℕ) (r : Flight) → RefusedHolds n r → RefusedHolds n (refused_of which r)
refused_kept which n r h = record { read = λ is. still_refused which (kind_of r.request) r.route (h.read is); write = λ is. still_refused which (kind_of r.request) r.route (h.write is); flush = λ is. still_refused which (kind_of r.request) r.route (h.flush is) }

-- one whose mark is untried
untried_kept : (which : List ℕ) (chunk : ℕ) (pairs : List Pair) (r : Flight) → UntriedHolds chunk pairs r → UntriedHolds chunk pairs (refused_of which r)
untried_kept which chunk pairs r h = let kind : Kind = kind_of r.request in record {
  piece = λ is route. h.piece is (sym (same_origin_write which kind r.route is) ∙ route);
  placed = λ is route. h.placed is (sym (same_origin_write which kind r.route is) ∙ route);
}

pub untried_refused : (which : List ℕ) (chunk : ℕ) (pairs : List Pair) (rs : List Flight) → All (UntriedHolds chunk pairs) rs → All (UntriedHolds chunk pairs) (map (refused_of which) rs)
untried_refused which chunk pairs rs all = (let P = UntriedHolds chunk pairs in All-map P (refused_of which) rs (All-weaker P (λ r. P (refused_of which r)) (untried_kept which chunk pairs) rs all))

-- a snapshot that is not among the spoiled
pub snap_refused : {l : Bool} (which : List ℕ) (o : List ℕ) (rs : List Flight) (v : SnapBooks) → is_in which v.number ≡ false → SnapHolds l o rs v → SnapHolds l o (map (refused_of which) rs) v
snap_refused which o rs v none h = record {
  alive = λ live. (let P = RouteHolds v.number v.chunk v.pairs v.marks in
      live_requests o rs (map (refused_of which) rs) v (h.alive live) (All-map P (refused_of which) rs (All-weaker P (λ r. P (refused_of which r)) (λ r. route_kept which v r none) rs (h.alive live).routes)));
  spoilt = λ dead. (let old = h.spoilt dead in record {
    copies = old.copies;
    unpublished = old.unpublished;
    routes = All-map (RefusedHolds v.number) (refused_of which) rs (All-weaker (RefusedHolds v.number) (λ r. RefusedHolds v.number (refused_of which r)) (refused_kept which v.number) rs old.routes);
    waited = λ waits. untried_refused which v.chunk (take v.sure v.pairs) rs (old.waited waits);
  });
}

pub requests_refused : (which : List ℕ) (sectors : ℕ) (rs : List Flight) → All (RequestHolds sectors) rs → All (RequestHolds sectors) (map (refused_of which) rs)
requests_refused which sectors rs all = All-map (RequestHolds sectors) (refused_of which) rs
    (All-weaker (RequestHolds sectors) (λ r. RequestHolds sectors (refused_of which r)) (λ r old. record { some = old.some; inside = old.inside; room = old.room; bytes = old.bytes; whole = λ e. old.whole (refused_whole which (kind_of r.request) r.route e) }) rs all)

-- callers see no route
pub refused_in_flight : (which : List ℕ) (rs : List Flight) → map in_flight (map (refused_of which) rs) ≡ map in_flight rs
refused_in_flight which [] = refl
refused_in_flight which (r ∷ rs) = ap (λ x. in_flight r ∷ x) (refused_in_flight which rs)
