-- Flushes of a whole store are issued, in a whole volume: a snapshot's, which is answered, and the merging store's, after which
-- the request goes on to the origin disk.
use Rattle.std.proofs.Common.{Bool, ◌≡◌, ◌≢◌, inl, inr, ℕ, ◌<◌, true, false, List, Option, Some, None, length, get_or, set, map, take, refl, sym, ◌∙◌, ap, subst, arith}
use Rattle.std.specs.List.{All, remove}
use Rattle.std.specs.Prelude.{AllPairs, sum_by}
use Rattle.std.proofs.lemmas.Bool.{cases_Bool, cases_eq, false≢true}
use Rattle.std.proofs.lemmas.List.{map-set, length-map, get_or-map, length-set, get_or-set_same, get_or-set_other, get_or_default}
use Rattle.std.proofs.lemmas.List.Elements.{All-set}
use Rattle.std.proofs.lemmas.List.Sums.{sum_by-set}
use Rattle.std.proofs.Math.Seq.{map-set_same}
use Rattle.cow_format.specs.Picture.{picture}
use Rattle.plain_machine.specs.declared.request.Dev.TheVariants.{Snap}
use Rattle.plain_machine.specs.declared.request.Op.TheVariants.{Flush}
use Rattle.plain_machine.specs.declared.request.Reply.TheVariants.{Flushed}
use Rattle.plain_machine.specs.Legal.{IsBegunFlush}
use Rattle.in_flight.specs.Kinds.{kind_of, in_flight}
use Rattle.in_flight.specs.declared.flights.Flight.{Flight}
use Rattle.in_flight.specs.declared.flights.Kind.TheVariants.{OriginFlush, SnapFlush}
use Rattle.in_flight.specs.declared.flights.Route.{Route}
use Rattle.in_flight.specs.declared.flights.Route.TheVariants.{Origin, Whole, Refused}
use Rattle.volume_laws.specs.Books.{SnapBooks, MergeBooks, Books, listed, taken}
use Rattle.volume_laws.specs.Held.{SnapHolds, RouteHolds, RefusedHolds, UntriedHolds, RequestHolds}
use Rattle.volume_laws.specs.Merging.{MergeRouteHolds}
use Rattle.volume_laws.specs.Whole.{Holds, IsLoud, plain_of, entry_of, origin_of, begun_of, UnmergedHolds, OriginHolds}
use Rattle.volume_laws.specs.Steps.{FlushesSnapOut, RoutesOn}
use Rattle.volume_laws.specs.Waits.{Waits, WaitsHolds}
use Rattle.volume_laws.specs.Outcomes.{IsReply}
use Rattle.volume_laws.specs.Due.{weight_of, weight_at}
use Rattle.volume_laws.proofs.Lists.{All-remove}
use Rattle.volume_laws.proofs.Same.{same_volume, plain}
use Rattle.volume_laws.proofs.Refusing.{merge_requests, live_requests}
use Rattle.volume_laws.proofs.Routing.{origin_flush_snap, refused_origin_flush, unmerged_flush}
use Rattle.volume_laws.proofs.Untried.{untried_other}
use Rattle.volume_laws.proofs.Requests.{asked, gone, asked_first, found_first, found_holds, origin_out, snap_out, live_out}
use Rattle.volume_laws.proofs.Entries.{saved_at, origin_flush_is, snap_flush_is, serves_as}
use Rattle.volume_laws.proofs.Flushing.{flush}
use Rattle.volume_laws.proofs.WholeOne.{same_numbers, set_same, same_entry, same_array, snap_holds, shown}
use Rattle.volume_laws.proofs.Routed.{waits_origin_flush}

-- a snapshot's store was flushed for a request
module _ (number k : ℕ) (r : Flight) (j : ℕ) (s s' : SnapBooks) (v w : Books) (h : Holds v) (e : FlushesSnapOut number k r j s s' v w) (kind : kind_of r.request ≡ SnapFlush s.number) (route : r.route ≡ Whole) where
  abbrev left : List Flight
  left = remove v.requests k

  whole_ne_refused : Whole ≢ Refused
  whole_ne_refused c = cc

  this : SnapHolds v.loud v.origin v.requests s
  this = snap_holds v j s h e.within e.was

  pub flushed_live : s.live ≡ true
  flushed_live = elim (cases_Bool s.live) [
    | inl is ↦ is
    | inr dead ↦ absurd (whole_ne_refused (sym route ∙ (found_holds (RefusedHolds s.number) number k r v w e.out (this.spoilt dead).routes).flush kind))
  ]

  one_now : SnapHolds v.loud v.origin left s'
  one_now = record {
    alive = λ _. flush v.origin left s s' (live_out v.origin v.requests s k (this.alive flushed_live)) e.flush;
    spoilt = λ dead. absurd (false≢true (sym dead ∙ e.flush.same.live ∙ flushed_live));
  }

  abbrev now : Books
  now = record v { snaps = set v.snaps j s'; requests = left }

  now_is : w ≡ now
  now_is = (let t = e.out in same_volume w now e.origin t.sectors t.loud e.snaps t.merge t.requests)

  now_holds : Holds now
  now_holds = record {
    whole = h.whole;
    merge = origin_out v.origin v.requests k v.merge h.merge;
    snaps = All-set (SnapHolds v.loud v.origin left) v.snaps j s' one_now (λ i d lt. snap_out v.origin v.requests (get_or v.snaps i d) k (h.snaps i d lt));
    requests = All-remove (RequestHolds v.sectors) v.requests k h.requests;
    numbers = subst (AllPairs (λ m n. m ≢ n)) (sym (same_numbers v.snaps j s s' e.was e.flush.same.number)) h.numbers;
  }

  saved_now : map (entry_of v.origin) (set v.snaps j s') ≡ map (entry_of v.origin) v.snaps
  saved_now = map-set (entry_of v.origin) v.snaps j s' ∙ set_same (map (entry_of v.origin) v.snaps) j (entry_of v.origin s') (omega (arith, e.within, length-map v.snaps (entry_of v.origin)))
      (same_entry v.origin v.origin s s' e.flush.same.number e.flush.same.live e.flush.same.overflow (λ _. same_array v.origin s s' e.flush.same e.flush.store)
      ∙ ap (entry_of v.origin) e.was ∙ sym (get_or-map (entry_of v.origin) v.snaps j s (entry_of v.origin s') e.within))

  pub snap_flush_event : IsReply number Flushed v w
  snap_flush_event = (let is = snap_flush_is r.request.dev r.request.op s.number kind in record {
    holds = subst Holds (sym now_is) now_holds;
    step = λ _. record {
      request = r.request;
      asked = asked number k r v w e.out;
      gone = gone number k r v w e.out;
      served = serves_as (plain_of v) (plain_of w) Flushed r.request (Snap s.number) Flush is.0 is.1 (
        record {
          origin = ap (λ (x : Books). origin_of x.origin x.merge) now_is;
          begun = ap (λ (x : Books). begun_of x.merge) now_is;
          saved = ap (λ (x : Books). map (entry_of x.origin) x.snaps) now_is ∙ saved_now;
        },
        (picture s.chunk v.origin s.store, saved_at v.origin v.snaps j s h.numbers e.within e.was ∙ ap (λ b. Some (shown s.number s.overflow b (picture s.chunk v.origin s.store)).saved) flushed_live),
      );
    };
  })

-- one request gets another route: the numbers stay
number_set : (rs : List Flight) (k : ℕ) (r : Flight) (route : Route) (i : ℕ) (d : Flight) → i < length rs → k < length rs → r ≡ get_or rs k r → (get_or (set rs k (record r { route = route })) i d).number ≡ (get_or rs i d).number
number_set rs k r route i d lt within is = elim (cases_eq i k) [
  | inl same ↦ ap (λ x. (get_or (set rs k (record r { route = route })) x d).number) same ∙ ap (λ (f : Flight). f.number) (get_or-set_same rs k (record r { route = route }) d within)
      ∙ ap (λ (f : Flight). f.number) (is ∙ get_or_default rs k r d within) ∙ sym (ap (λ x. (get_or rs x d).number) same)
  | inr other ↦ ap (λ (f : Flight). f.number) (get_or-set_other rs k i (record r { route = route }) d other)
]

-- the merging store was flushed for a request of the origin
module _ (number k : ℕ) (r : Flight) (v w : Books) (e : RoutesOn number k r v w) (kind : kind_of r.request ≡ OriginFlush) where
  abbrev on : Flight
  on = record r { route = Origin }

  origin_ne_whole : Origin ≢ Whole
  origin_ne_whole c = cc

  abbrev rs' : List Flight
  rs' = set v.requests k on

  within : k < length v.requests
  within = (found_first number k r v.requests e.found e.was).within

  of_it : (P : Flight → Type 0) → All P v.requests → P r
  of_it P all = subst P (sym e.was) (all k r within)

  origin_on : (o : List ℕ) (merge : Option MergeBooks) → OriginHolds o v.requests merge → OriginHolds o rs' merge
  origin_on o None old = All-set UnmergedHolds v.requests k on (unmerged_flush on kind refl) old
  origin_on o (Some m) old =
      let P = MergeRouteHolds m.number m.chunk m.pairs (listed m) (taken m) in
      let was : MergeRouteHolds m.number m.chunk m.pairs (listed m) (taken m) r = of_it P old.routes in
      merge_requests o v.requests rs' m old (All-set P v.requests k on (record {
        piece = was.piece;
        read = λ is _. absurd (let no : ⊥ = cc in no);
        read_stored = λ place is _. absurd (let no : ⊥ = cc in no);
        write = λ is _. absurd (let no : ⊥ = cc in no);
        write_stored = λ place is _. absurd (let no : ⊥ = cc in no);
        untaken = λ place is _. absurd (let no : ⊥ = cc in no);
        no_read = was.no_read;
        no_write = was.no_write;
        flush = λ _. inr refl;
        no_flush = was.no_flush;
      }) old.routes)

  snap_on : {l : Bool} (o : List ℕ) (x : SnapBooks) → SnapHolds l o v.requests x → SnapHolds l o rs' x
  snap_on o x old = record {
    alive = λ live. (let here = old.alive live in let P = RouteHolds x.number x.chunk x.pairs x.marks in
        live_requests o v.requests rs' x here (All-set P v.requests k on (origin_flush_snap x on kind (of_it P here.routes).piece) here.routes));
    spoilt = λ dead. (let here = old.spoilt dead in record {
      copies = here.copies;
      unpublished = here.unpublished;
      routes = All-set (RefusedHolds x.number) v.requests k on (refused_origin_flush x.number on kind) here.routes;
      waited = λ waits. All-set (UntriedHolds x.chunk (take x.sure x.pairs)) v.requests k on (untried_other x.chunk (take x.sure x.pairs) on (λ c. cc)) (here.waited waits);
    });
  }

  abbrev goes_on : Books
  goes_on = record v { requests = rs' }

  goes_on_is : w ≡ goes_on
  goes_on_is = same_volume w goes_on e.origin e.sectors e.loud e.snaps e.merge e.requests

  same_in_flight : map in_flight rs' ≡ map in_flight v.requests
  same_in_flight = map-set_same in_flight v.requests k on r (ap in_flight e.was)

  pub routed_on_event : Holds v → Holds w × (plain_of w ≡ plain_of v)
  routed_on_event h = (
    subst Holds (sym goes_on_is) (record {
      whole = h.whole;
      merge = origin_on v.origin v.merge h.merge;
      snaps = λ i d lt. snap_on v.origin (get_or v.snaps i d) (h.snaps i d lt);
      requests = (let was = of_it (RequestHolds v.sectors) h.requests in
          All-set (RequestHolds v.sectors) v.requests k on (record { some = was.some; inside = was.inside; room = was.room; bytes = was.bytes; whole = λ c. absurd (origin_ne_whole c) }) h.requests);
      numbers = h.numbers;
    }),
    ap plain_of goes_on_is ∙ ap (λ x. plain (origin_of v.origin v.merge) (begun_of v.merge) (map (entry_of v.origin) v.snaps) x) same_in_flight,
  )

  pub routed_on_loud : IsLoud v → IsLoud w
  routed_on_loud l = subst IsLoud (sym goes_on_is) (record { origin = l.origin; snaps = l.snaps; merge = l.merge })

  pub routed_on_waits : Waits v → Waits w
  routed_on_waits h = subst Waits (sym goes_on_is) (record {
    numbers = λ i j d lt inside. (let len : length rs' ≡ length v.requests = length-set v.requests k on in let j_in : j < length v.requests = omega (arith, inside, len) in
        let i_in : i < length v.requests = omega (arith, lt, j_in) in
        λ same. h.numbers i j d lt j_in (sym (number_set v.requests k r Origin i d i_in within e.was) ∙ same ∙ number_set v.requests k r Origin j d j_in within e.was));
    held = All-set (WaitsHolds v.merge v.snaps) v.requests k on (waits_origin_flush on v.merge v.snaps false kind refl) h.held;
  })

  -- it goes to the merging store before
  module _ (route : r.route ≡ Whole) where
    weight_was : weight_of r ≡ 2
    weight_was = ap (λ x. weight_at x r.route) kind ∙ ap (weight_at OriginFlush) route

    weight_is : weight_of on ≡ 1
    weight_is = ap (λ x. weight_at x Origin) kind

    pub routed_on_weight : sum_by weight_of w.requests < sum_by weight_of v.requests
    routed_on_weight =
        let sum = sum_by-set weight_of v.requests k on r within in
        let at : weight_of (get_or v.requests k r) ≡ 2 = ap weight_of (sym e.was) ∙ weight_was in
        let now : sum_by weight_of w.requests ≡ sum_by weight_of rs' = ap (sum_by weight_of) e.requests in
        omega (arith, sum, at, now, weight_is)

    whole_ne_origin : Whole ≢ Origin
    whole_ne_origin c = cc

    pub routed_on_merging : Holds v → v.merge ≢ None
    routed_on_merging h none = alone v.merge h.merge none
      where
        alone : (merge : Option MergeBooks) → OriginHolds v.origin v.requests merge → merge ≡ None → ⊥
        alone None old is = whole_ne_origin (sym route ∙ (of_it UnmergedHolds old).flush kind)
        alone (Some m) old is = cc

    pub routed_on_begun : Holds v → IsBegunFlush number (plain_of v)
    routed_on_begun h = (let is = origin_flush_is r.request.dev r.request.op kind in record {
      request = r.request;
      asked = asked_first number k r v.requests e.found e.was;
      origin = is.0;
      flush = is.1;
      begun = λ none. routed_on_merging h (unbegun v.merge none);
    })
      where
        unbegun : (merge : Option MergeBooks) → begun_of merge ≡ None → merge ≡ None
        unbegun None is = refl
        unbegun (Some m) is = cc
