-- Held writes of a snapshot whose chunk is published now are routed to its place, in a whole volume.
use Rattle.std.proofs.Common.{◌≡◌, ◌≢◌, ◌⊎◌, inl, inr, ℕ, ◌<◌, true, List, [], ◌∷◌, Option, Some, None, length, get_or, map, take, refl, sym, ◌∙◌, ap, subst, nat_eq}
use Rattle.std.specs.List.{All}
use Rattle.std.proofs.lemmas.Bool.{cases_Bool, cases_eq, eqb-true, false≢true}
use Rattle.std.proofs.lemmas.List.{get_or_default}
use Rattle.std.proofs.lemmas.List.Elements.{All-weaker, All-map}
use Rattle.sector.specs.declared.pair.Pair.{Pair}
use Rattle.cow_format.specs.Picture.{place_of}
use Rattle.in_flight.specs.Kinds.{kind_of, in_flight}
use Rattle.in_flight.specs.Routes.{placed_route_of}
use Rattle.in_flight.specs.declared.copies.Mark.{Mark}
use Rattle.in_flight.specs.declared.flights.Flight.{Flight}
use Rattle.in_flight.specs.declared.flights.Kind.{Kind}
use Rattle.in_flight.specs.declared.flights.Kind.TheVariants.{OriginRead, OriginWrite, OriginFlush, SnapRead, SnapWrite, SnapFlush}
use Rattle.in_flight.specs.declared.flights.Route.{Route}
use Rattle.in_flight.specs.declared.flights.Route.TheVariants.{Held, Origin, Store, Whole, Refused}
use Rattle.volume_laws.specs.Books.{SnapBooks, MergeBooks, Books, listed, taken}
use Rattle.volume_laws.specs.Published.{chunk_of, IsPublished, is_published}
use Rattle.volume_laws.specs.Held.{SnapHolds, RouteHolds, RefusedHolds, UntriedHolds, RequestHolds}
use Rattle.volume_laws.specs.Merging.{MergeRouteHolds}
use Rattle.volume_laws.specs.Whole.{Holds, plain_of, entry_of, origin_of, begun_of, UnmergedHolds, OriginHolds}
use Rattle.volume_laws.specs.Again.{published_place, placed_of, Places}
use Rattle.volume_laws.specs.Outcomes.{IsSilent}
use Rattle.volume_laws.proofs.Wholes.{placed_whole}
use Rattle.volume_laws.proofs.Same.{same_volume, plain}
use Rattle.volume_laws.proofs.Clear.{published_true}
use Rattle.volume_laws.proofs.Refusing.{merge_requests, live_requests}
use Rattle.volume_laws.proofs.Routing.{snap_write_placed, snap_write_other, refused_other_write, unmerged_snap_write, merge_snap_write, origin_write_ne_write}
use Rattle.volume_laws.proofs.Untried.{untried_other}
use Rattle.volume_laws.proofs.Spoiling.{numbers_differ}
use Rattle.volume_laws.proofs.WholeOne.{silent_step, snap_holds}

-- a held write of the snapshot goes to the place, and every other request keeps its route
pub record IsPlaced (snap : ℕ) (kind : Kind) (route : Route) (place : Option ℕ) : Type 0 where
  pub mine : kind ≡ SnapWrite snap
  pub held : route ≡ Held
  pub found : ℕ
  pub placed : place ≡ Some found
  pub goes : placed_route_of snap kind route place ≡ Store found

pub placed_cases : (snap : ℕ) (kind : Kind) (route : Route) (place : Option ℕ) → (placed_route_of snap kind route place ≡ route) ⊎ IsPlaced snap kind route place
placed_cases snap OriginRead route place = inl refl
placed_cases snap OriginWrite route place = inl refl
placed_cases snap OriginFlush route place = inl refl
placed_cases snap (SnapRead n) route place = inl refl
placed_cases snap (SnapFlush n) route place = inl refl
placed_cases snap (SnapWrite n) Origin place = inl refl
placed_cases snap (SnapWrite n) (Store p) place = inl refl
placed_cases snap (SnapWrite n) Whole place = inl refl
placed_cases snap (SnapWrite n) Refused place = inl refl
placed_cases snap (SnapWrite n) Held None = inl refl
placed_cases snap (SnapWrite n) Held (Some p) = elim (cases_Bool (nat_eq n snap)) [
  | inl same ↦ inr (record { mine = ap SnapWrite (eqb-true n snap same); held = refl; found = p; placed = refl; goes = rw same refl })
  | inr other ↦ inl (rw other refl)
]

-- what holds of a request, and of each write that is placed, holds again
placed_holds : (P : Flight → Type 0) (s : SnapBooks) (r : Flight) → P r → (IsPlaced s.number (kind_of r.request) r.route (published_place s.pairs s.marks (chunk_of s.chunk r)) → P (placed_of s r)) → P (placed_of s r)
placed_holds P s r old new = elim (placed_cases s.number (kind_of r.request) r.route (published_place s.pairs s.marks (chunk_of s.chunk r))) [
  | inl same ↦ (let Q : Route → Type 0 = λ x. P (record r { route = x }) in subst Q (sym same) old)
  | inr goes ↦ new goes
]

all_placed : (P : Flight → Type 0) (s : SnapBooks) (rs : List Flight) → All P rs → ((r : Flight) → P r → IsPlaced s.number (kind_of r.request) r.route (published_place s.pairs s.marks (chunk_of s.chunk r)) → P (placed_of s r)) → All P (map (placed_of s) rs)
all_placed P s rs all new = All-map P (placed_of s) rs (λ k d lt. placed_holds P s (get_or rs k d) (all k d lt) (new (get_or rs k d) (all k d lt)))

-- a place that is published
pub place_is : (ps : List Pair) (ms : List Mark) (c p : ℕ) → published_place ps ms c ≡ Some p → (place_of ps c ≡ Some p) × IsPublished ps ms c
place_is ps ms c p e = elim (cases_Bool (is_published ps ms c)) [
  | inl here ↦ (rw here at e, published_true ps ms c here)
  | inr none ↦ (let no : None ≡ Some p = rw none at e in absurd (cc))
]

module _ (k : ℕ) (s : SnapBooks) (v w : Books) (h : Holds v) (e : Places k s v w) (live : s.live ≡ true) where
  abbrev moved : List Flight
  moved = map (placed_of s) v.requests

  origin_moved : (merge : Option MergeBooks) → OriginHolds v.origin v.requests merge → OriginHolds v.origin moved merge
  origin_moved None old = all_placed UnmergedHolds s v.requests old (λ r _ goes. unmerged_snap_write (placed_of s r) s.number goes.mine)
  origin_moved (Some m) old = merge_requests v.origin v.requests moved m old
      (all_placed (MergeRouteHolds m.number m.chunk m.pairs (listed m) (taken m)) s v.requests old.routes
      (λ r was goes. merge_snap_write m (placed_of s r) s.number goes.mine (λ same. was.no_write (goes.mine ∙ ap SnapWrite same)) was.piece))

  mine_moved : All (RouteHolds s.number s.chunk s.pairs s.marks) v.requests → All (RouteHolds s.number s.chunk s.pairs s.marks) moved
  mine_moved old = all_placed (RouteHolds s.number s.chunk s.pairs s.marks) s v.requests old
      (λ r was goes. (let at = place_is s.pairs s.marks (chunk_of s.chunk r) goes.found goes.placed in
      snap_write_placed s (placed_of s r) goes.found goes.mine was.piece goes.goes at.0 at.1))

  snap_moved : (j : ℕ) (d : SnapBooks) → j < length v.snaps → SnapHolds v.loud v.origin moved (get_or v.snaps j d)
  snap_moved j d lt =
      let x = get_or v.snaps j d in
      let old = h.snaps j d lt in
      elim (cases_eq j k) [
        | inl same ↦
            (let is : s ≡ x = e.was ∙ ap (λ i. get_or v.snaps i s) (sym same) ∙ get_or_default v.snaps j s d lt in
            subst (SnapHolds v.loud v.origin moved) is (record {
              alive = λ l. (let here = (snap_holds v k s h e.within e.was).alive l in live_requests v.origin v.requests moved s here (mine_moved here.routes));
              spoilt = λ dead. absurd (false≢true (sym dead ∙ live));
            }))
        | inr other ↦
            (let ne : s.number ≢ x.number = λ q. numbers_differ v.snaps j k x s h.numbers lt e.within (get_or_default v.snaps j d x lt) e.was other (sym q) in
            record {
              alive = λ l. live_requests v.origin v.requests moved x (old.alive l)
                  (all_placed (RouteHolds x.number x.chunk x.pairs x.marks) s v.requests (old.alive l).routes (λ r was goes. snap_write_other x (placed_of s r) s.number goes.mine ne was.piece));
              spoilt = λ dead. (let gone = old.spoilt dead in record {
                copies = gone.copies;
                unpublished = gone.unpublished;
                routes = all_placed (RefusedHolds x.number) s v.requests gone.routes (λ r _ goes. refused_other_write x.number s.number (placed_of s r) goes.mine ne);
                waited = λ waits. all_placed (UntriedHolds x.chunk (take x.sure x.pairs)) s v.requests (gone.waited waits) (λ r _ goes. untried_other x.chunk (take x.sure x.pairs) (placed_of s r) (λ e. origin_write_ne_write s.number (sym e ∙ goes.mine)));
              });
            })
      ]

  placed_in_flight : (rs : List Flight) → map in_flight (map (placed_of s) rs) ≡ map in_flight rs
  placed_in_flight [] = refl
  placed_in_flight (r ∷ rs) = ap (λ x. in_flight r ∷ x) (placed_in_flight rs)

  pub place_event : IsSilent v w
  place_event =
      let after : Books = record v { requests = moved } in
      let now : w ≡ after = same_volume w after e.origin e.sectors e.loud e.snaps e.merge e.requests in
      record {
        holds = subst Holds (sym now) (record {
          whole = h.whole;
          merge = origin_moved v.merge h.merge;
          snaps = snap_moved;
          requests = All-map (RequestHolds v.sectors) (placed_of s) v.requests
              (All-weaker (RequestHolds v.sectors) (λ r. RequestHolds v.sectors (placed_of s r)) (λ r old. record { some = old.some; inside = old.inside; room = old.room; bytes = old.bytes; whole = λ e. old.whole (placed_whole s.number (kind_of r.request) r.route (published_place s.pairs s.marks (chunk_of s.chunk r)) e) }) v.requests h.requests);
          numbers = h.numbers;
        });
        step = λ _. silent_step (plain_of v) (plain_of w)
            (ap plain_of now ∙ ap (λ x. plain (origin_of v.origin v.merge) (begun_of v.merge) (map (entry_of v.origin) v.snaps) x) (placed_in_flight v.requests));
      }
