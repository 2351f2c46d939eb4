-- A request is accepted, in a whole volume.
use Rattle.std.proofs.Common.{Bool, ◌≡◌, ℕ, false, List, [], ◌∷◌, ◌++◌, Option, Some, None, get_or, map, take, refl, sym, ◌∙◌, ap, subst}
use Rattle.std.specs.List.{All}
use Rattle.std.proofs.lemmas.List.{map_push}
use Rattle.std.proofs.lemmas.List.Elements.{All-push}
use Rattle.plain_machine.specs.Plain.{Entry, spoiled_entry}
use Rattle.plain_machine.specs.Kept.{kept}
use Rattle.plain_machine.specs.Legal.{is_shut}
use Rattle.in_flight.specs.Kinds.{in_flight}
use Rattle.in_flight.specs.declared.flights.Flight.{Flight}
use Rattle.volume_laws.specs.Books.{SnapBooks, MergeBooks, Books, listed, taken}
use Rattle.volume_laws.specs.Held.{SnapHolds, RouteHolds, RefusedHolds, UntriedHolds, RequestHolds}
use Rattle.volume_laws.specs.Merging.{MergeRouteHolds}
use Rattle.volume_laws.specs.Whole.{Holds, plain_of, entry_of, origin_of, begun_of, UnmergedHolds, OriginHolds}
use Rattle.volume_laws.specs.Steps.{Accepts, FitsSnap, FitsMerge}
use Rattle.volume_laws.specs.Outcomes.{IsAccepted}
use Rattle.volume_laws.proofs.Same.{same_volume, plain}
use Rattle.volume_laws.proofs.Refusing.{merge_requests, live_requests}

origin_more : (o : List ℕ) (rs : List Flight) (f : Flight) (merge : Option MergeBooks) → OriginHolds o rs merge → FitsMerge f merge → OriginHolds o (rs ++ f ∷ []) merge
origin_more o rs f None h fits = All-push UnmergedHolds rs f h fits
origin_more o rs f (Some m) h fits = merge_requests o rs (rs ++ f ∷ []) m h (All-push (MergeRouteHolds m.number m.chunk m.pairs (listed m) (taken m)) rs f h.routes fits)

snap_more : {l : Bool} (o : List ℕ) (rs : List Flight) (f : Flight) (s : SnapBooks) → SnapHolds l o rs s → FitsSnap f s → SnapHolds l o (rs ++ f ∷ []) s
snap_more o rs f s h fits = record {
  alive = λ live. live_requests o rs (rs ++ f ∷ []) s (h.alive live) (All-push (RouteHolds s.number s.chunk s.pairs s.marks) rs f (h.alive live).routes (fits.alive live));
  spoilt = λ dead. (let old = h.spoilt dead in record {
    copies = old.copies;
    unpublished = old.unpublished;
    routes = All-push (RefusedHolds s.number) rs f old.routes (fits.spoilt dead);
    waited = λ waits. All-push (UntriedHolds s.chunk (take s.sure s.pairs)) rs f (old.waited waits) (fits.waited waits);
  });
}

spoiled_none : (es : List Entry) → map (spoiled_entry []) es ≡ es
spoiled_none [] = refl
spoiled_none (e ∷ es) = ap (λ x. e ∷ x) (spoiled_none es)

pub accept_event : (f : Flight) (v w : Books) → Holds v → Accepts f v w → is_shut f.request.dev f.request.op (plain_of v).saved ≡ false → RequestHolds v.sectors f → kept f.request ≡ f.request → FitsMerge f v.merge → All (FitsSnap f) v.snaps → IsAccepted [] f.number f.request v w
accept_event f v w h e writable one keeps merge snaps =
    let after : Books = record v { requests = v.requests ++ f ∷ [] } in
    let now : w ≡ after = same_volume w after e.origin e.sectors e.loud e.snaps e.merge e.requests in
    record {
      holds = subst Holds (sym now) (record {
        whole = h.whole;
        merge = origin_more v.origin v.requests f v.merge h.merge merge;
        snaps = λ k d lt. snap_more v.origin v.requests f (get_or v.snaps k d) (h.snaps k d lt) (snaps k d lt);
        requests = All-push (RequestHolds v.sectors) v.requests f h.requests one;
        numbers = h.numbers;
      });
      step = λ _. record {
        writable = writable;
        becomes = ap plain_of now
            ∙ ap (λ x. plain (origin_of v.origin v.merge) (begun_of v.merge) (map (entry_of v.origin) v.snaps) x) (map_push in_flight v.requests f)
            ∙ ap (λ x. plain (origin_of v.origin v.merge) (begun_of v.merge) x (map in_flight v.requests ++ in_flight f ∷ [])) (sym (spoiled_none (map (entry_of v.origin) v.snaps)))
            ∙ ap (λ x. plain (origin_of v.origin v.merge) (begun_of v.merge) (map (spoiled_entry []) (map (entry_of v.origin) v.snaps)) (map in_flight v.requests ++ record { number = f.number; request = x } ∷ [])) (sym keeps);
      };
    }
