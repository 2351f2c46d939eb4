-- Held origin writes are routed again, and an invalid mark is tried, in a whole volume.
use Rattle.std.proofs.Common.{◌≡◌, ◌⊎◌, inl, inr, ℕ, Bool, true, false, List, [], ◌∷◌, Option, Some, None, get_or, map, take, refl, sym, ◌∙◌, ap, subst}
use Rattle.std.specs.List.{All}
use Rattle.std.proofs.lemmas.Bool.{false≢true}
use Rattle.std.proofs.lemmas.List.Elements.{All-weaker, All-map}
use Rattle.in_flight.specs.Kinds.{kind_of, in_flight}
use Rattle.in_flight.specs.Routes.{again_route_of}
use Rattle.in_flight.specs.declared.flights.Flight.{Flight}
use Rattle.in_flight.specs.declared.flights.Kind.{Kind}
use Rattle.in_flight.specs.declared.flights.Kind.TheVariants.{OriginRead, OriginWrite, OriginFlush, SnapRead, SnapWrite, SnapFlush}
use Rattle.in_flight.specs.declared.flights.Route.{Route}
use Rattle.in_flight.specs.declared.flights.Route.TheVariants.{Held, Origin, Store, Whole, Refused}
use Rattle.cow_format.specs.Picture.{place_of, picture}
use Rattle.volume_laws.specs.Books.{SnapBooks, MergeBooks, Books, listed, taken, group_of}
use Rattle.volume_laws.specs.Published.{chunk_of, IsPublished, IsSaved, is_clear}
use Rattle.volume_laws.specs.Held.{SnapHolds, RouteHolds, RefusedHolds, UntriedHolds, RequestHolds}
use Rattle.volume_laws.specs.Merging.{MergeRouteHolds}
use Rattle.volume_laws.specs.Whole.{Holds, plain_of, entry_of, origin_of, begun_of, UnmergedHolds, OriginHolds}
use Rattle.volume_laws.specs.Steps.{ChangesSnap, WritesMark, TriesMark}
use Rattle.volume_laws.specs.Again.{has_chunk, new_route, again_of, Reroutes}
use Rattle.volume_laws.specs.Outcomes.{IsSilent}
use Rattle.volume_laws.proofs.Wholes.{new_whole, again_whole}
use Rattle.volume_laws.proofs.Same.{same_volume, plain}
use Rattle.volume_laws.proofs.Clear.{clear_saved, clear_tried}
use Rattle.volume_laws.proofs.Refusing.{merge_requests, live_requests}
use Rattle.volume_laws.proofs.Routing.{unmerged_write, merge_write_routed, origin_write_snap, refused_origin_write}
use Rattle.volume_laws.proofs.Untried.{untried_write}
use Rattle.volume_laws.proofs.WholeOne.{silent_step, one_holds, one_plain, snap_holds, shown}

-- a request keeps its route, or it is an origin write with the new one
again_cases : (kind : Kind) (route new : Route) → (again_route_of kind route new ≡ route) ⊎ ((kind ≡ OriginWrite) × (again_route_of kind route new ≡ new))
again_cases kind Origin new = inl refl
again_cases kind (Store place) new = inl refl
again_cases kind Whole new = inl refl
again_cases kind Refused new = inl refl
again_cases OriginRead Held new = inl refl
again_cases OriginWrite Held new = inr (refl, refl)
again_cases OriginFlush Held new = inl refl
again_cases (SnapRead snap) Held new = inl refl
again_cases (SnapWrite snap) Held new = inl refl
again_cases (SnapFlush snap) Held new = inl refl

-- what holds of a request and of each routed origin write holds again
again_holds : (P : Flight → Type 0) (merge : Option MergeBooks) (clear : ℕ → Bool) (r : Flight) → P r
    → (kind_of r.request ≡ OriginWrite → again_route_of (kind_of r.request) r.route (new_route merge clear r) ≡ new_route merge clear r → P (again_of merge clear r)) → P (again_of merge clear r)
again_holds P merge clear r old routed =
    elim (again_cases (kind_of r.request) r.route (new_route merge clear r)) [
      | inl same ↦ (let Q : Route → Type 0 = λ x. P (record r { route = x }) in subst Q (sym same) old)
      | inr new ↦ routed new.0 new.1
    ]

-- the same of all, where something more is known of each
all_again : (P R : Flight → Type 0) (merge : Option MergeBooks) (clear : ℕ → Bool) (rs : List Flight) → All P rs → All R rs
    → ((r : Flight) → R r → kind_of r.request ≡ OriginWrite → again_route_of (kind_of r.request) r.route (new_route merge clear r) ≡ new_route merge clear r → P (again_of merge clear r)) → All P (map (again_of merge clear) rs)
all_again P R merge clear rs all more routed = All-map P (again_of merge clear) rs (λ k d lt. again_holds P merge clear (get_or rs k d) (all k d lt) (routed (get_or rs k d) (more k d lt)))

again_origin : (o : List ℕ) (rs : List Flight) (merge : Option MergeBooks) (clear : ℕ → Bool) → OriginHolds o rs merge → OriginHolds o (map (again_of merge clear) rs) merge
again_origin o rs None clear h = all_again UnmergedHolds UnmergedHolds None clear rs h h (λ r _ kind new. unmerged_write (again_of None clear r) (clear r.request.range.first) kind new)
again_origin o rs (Some m) clear h =
    let P = MergeRouteHolds m.number m.chunk m.pairs (listed m) (taken m) in
    merge_requests o rs (map (again_of (Some m) clear) rs) m h
    (all_again P P (Some m) clear rs h.routes h.routes (λ r old kind new. merge_write_routed m (again_of (Some m) clear r) (clear r.request.range.first) kind old.piece new))

-- the new route as to another live snapshot
again_write : (v : SnapBooks) (merge : Option MergeBooks) (clear : ℕ → Bool) (r : Flight) → (clear r.request.range.first ≡ true → IsPublished v.pairs v.marks (chunk_of v.chunk r)) → RouteHolds v.number v.chunk v.pairs v.marks r → kind_of r.request ≡ OriginWrite
    → again_route_of (kind_of r.request) r.route (new_route merge clear r) ≡ new_route merge clear r → RouteHolds v.number v.chunk v.pairs v.marks (again_of merge clear r)
again_write v None clear r published old kind new = origin_write_snap v (again_of None clear r) false None (clear r.request.range.first) kind old.piece new published
again_write v (Some m) clear r published old kind new =
    origin_write_snap v (again_of (Some m) clear r) (has_chunk (group_of m) (chunk_of m.chunk r)) (place_of m.pairs (chunk_of m.chunk r)) (clear r.request.range.first) kind old.piece new published

-- and as to a spoiled one whose mark is untried
again_untried : (v : SnapBooks) (merge : Option MergeBooks) (clear : ℕ → Bool) (r : Flight) → (clear r.request.range.first ≡ true → v.untried ≡ false) → v.untried ≡ true → again_route_of (kind_of r.request) r.route (new_route merge clear r) ≡ new_route merge clear r
    → UntriedHolds v.chunk (take v.sure v.pairs) (again_of merge clear r)
again_untried v None clear r tried waits new = untried_write v (again_of None clear r) false None (clear r.request.range.first) new tried waits
again_untried v (Some m) clear r tried waits new = untried_write v (again_of (Some m) clear r) (has_chunk (group_of m) (chunk_of m.chunk r)) (place_of m.pairs (chunk_of m.chunk r)) (clear r.request.range.first) new tried waits

again_snap : {l : Bool} (o : List ℕ) (rs : List Flight) (merge : Option MergeBooks) (clear : ℕ → Bool) (v : SnapBooks) → SnapHolds l o rs v → ((first : ℕ) → clear first ≡ true → IsSaved first v) → ((first : ℕ) → clear first ≡ true → v.untried ≡ false) → SnapHolds l o (map (again_of merge clear) rs) v
again_snap o rs merge clear v h published tried = record {
  alive = λ live. (let old = h.alive live in let P = RouteHolds v.number v.chunk v.pairs v.marks in
      live_requests o rs (map (again_of merge clear) rs) v old
      (all_again P P merge clear rs old.routes old.routes (λ r was kind new. again_write v merge clear r (λ e. published r.request.range.first e live) was kind new)));
  spoilt = λ dead. (let old = h.spoilt dead in record {
    copies = old.copies;
    unpublished = old.unpublished;
    routes = all_again (RefusedHolds v.number) (RefusedHolds v.number) merge clear rs old.routes old.routes (λ r _ kind new. refused_origin_write v.number (again_of merge clear r) kind);
    waited = λ waits. (let P = UntriedHolds v.chunk (take v.sure v.pairs) in
        all_again P P merge clear rs (old.waited waits) (old.waited waits) (λ r _ kind new. again_untried v merge clear r (tried r.request.range.first) waits new));
  });
}

again_in_flight : (merge : Option MergeBooks) (clear : ℕ → Bool) (rs : List Flight) → map in_flight (map (again_of merge clear) rs) ≡ map in_flight rs
again_in_flight merge clear [] = refl
again_in_flight merge clear (r ∷ rs) = ap (λ x. in_flight r ∷ x) (again_in_flight merge clear rs)

-- held origin writes are routed again, and nothing is seen of it
pub reroute_by : (clear : ℕ → Bool) (v w : Books) → Holds v → Reroutes clear v w → ((first : ℕ) → clear first ≡ true → All (IsSaved first) v.snaps) → ((first : ℕ) → clear first ≡ true → All (λ s. s.untried ≡ false) v.snaps) → IsSilent v w
reroute_by clear v w h e published tried =
    let after : Books = record v { requests = map (again_of v.merge clear) v.requests } in
    let now : w ≡ after = same_volume w after e.origin e.sectors e.loud e.snaps e.merge e.requests in
    record {
      holds = subst Holds (sym now) (record {
        whole = h.whole;
        merge = again_origin v.origin v.requests v.merge clear h.merge;
        snaps = λ k d lt. again_snap v.origin v.requests v.merge clear (get_or v.snaps k d) (h.snaps k d lt) (λ first is. published first is k d lt) (λ first is. tried first is k d lt);
        requests = All-map (RequestHolds v.sectors) (again_of v.merge clear) v.requests
            (All-weaker (RequestHolds v.sectors) (λ r. RequestHolds v.sectors (again_of v.merge clear r)) (λ r old. record { some = old.some; inside = old.inside; room = old.room; bytes = old.bytes; whole = λ e. old.whole (again_whole (kind_of r.request) r.route (new_route v.merge clear r) (new_whole v.merge clear r) e) }) v.requests h.requests);
        numbers = h.numbers;
      });
      step = λ _. silent_step (plain_of v) (plain_of w)
          (ap plain_of now ∙ ap (λ x. plain (origin_of v.origin v.merge) (begun_of v.merge) (map (entry_of v.origin) v.snaps) x) (again_in_flight v.merge clear v.requests));
    }

-- by the table's test
pub reroute : (v w : Books) → Holds v → Reroutes (is_clear v.snaps) v w → IsSilent v w
reroute v w h e = reroute_by (is_clear v.snaps) v w h e (clear_saved v.snaps) (clear_tried v.snaps)

-- a spoiled snapshot shows nothing, whatever its store has
dead_entry : (o : List ℕ) (s s' : SnapBooks) → s'.number ≡ s.number → s.live ≡ false → s'.live ≡ false → s'.overflow ≡ s.overflow → entry_of o s' ≡ entry_of o s
dead_entry o s s' number was live overflow =
    ap (λ n. shown n s'.overflow s'.live (picture s'.chunk o s'.store)) number ∙ ap (λ b. shown s.number s'.overflow b (picture s'.chunk o s'.store)) live
    ∙ ap (λ x. shown s.number x false (picture s'.chunk o s'.store)) overflow ∙ sym (ap (λ b. shown s.number s.overflow b (picture s.chunk o s.store)) was)

-- WriteInvalid, where the mark is written
pub mark_event : (k : ℕ) (s s' : SnapBooks) (v w : Books) → Holds v → ChangesSnap k s s' v w → WritesMark s s' → IsSilent v w
mark_event k s s' v w h e t =
    let old = (snap_holds v k s h e.within e.was).spoilt t.was in
    record {
      holds = one_holds k s s' v w h e t.number (record {
        alive = λ live. absurd (false≢true (sym t.live ∙ live));
        spoilt = λ _. record {
          copies = t.copies ∙ old.copies;
          unpublished = t.marks ∙ old.unpublished;
          routes = subst (λ n. All (RefusedHolds n) v.requests) (sym t.number) old.routes;
          waited = λ waits. subst (λ n. All (UntriedHolds n (take s'.sure s'.pairs)) v.requests) (sym t.chunk)
              (subst (λ n. All (UntriedHolds s.chunk (take n s'.pairs)) v.requests) (sym t.sure)
              (subst (λ ps. All (UntriedHolds s.chunk (take s.sure ps)) v.requests) (sym t.pairs) (old.waited (sym t.untried ∙ waits))));
        };
      });
      step = λ _. silent_step (plain_of v) (plain_of w) (one_plain k s s' v w e (dead_entry v.origin s s' t.number t.was t.live t.overflow));
    }

-- a mark is tried, before held writes are routed again
pub tried_event : (k : ℕ) (s s' : SnapBooks) (v w : Books) → Holds v → ChangesSnap k s s' v w → TriesMark s s' → IsSilent v w
tried_event k s s' v w h e t =
    let old = (snap_holds v k s h e.within e.was).spoilt t.was in
    record {
      holds = one_holds k s s' v w h e t.number (record {
        alive = λ live. absurd (false≢true (sym t.live ∙ live));
        spoilt = λ _. record {
          copies = t.copies ∙ old.copies;
          unpublished = t.marks ∙ old.unpublished;
          routes = subst (λ n. All (RefusedHolds n) v.requests) (sym t.number) old.routes;
          waited = λ waits. absurd (false≢true (sym t.tried ∙ waits));
        };
      });
      step = λ _. silent_step (plain_of v) (plain_of w) (one_plain k s s' v w e (dead_entry v.origin s s' t.number t.was t.live t.overflow));
    }
