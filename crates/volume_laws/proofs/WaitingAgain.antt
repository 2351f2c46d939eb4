-- Each held request keeps its reason where requests are routed again: over a publication, a tried mark and a spoil.
use Rattle.std.proofs.Common.{◌≡◌, ◌≢◌, ◌⊎◌, inl, inr, ℕ, zero, suc, ◌<◌, Bool, true, false, List, [], ◌∷◌, Option, Some, None, length, get_or, set, map, refl, sym, ◌∙◌, ap, subst, arith, nat_eq, eq-eqb}
use Rattle.std.specs.Prelude.{◌&&◌, ◌||◌, AllPairs, Any}
use Rattle.std.specs.List.{All, list_any, list_all}
use Rattle.std.proofs.lemmas.Bool.{cases_Bool, cases_eq, false≢true, eqb-true, eqb-false}
use Rattle.std.proofs.lemmas.List.{get_or-set_same, get_or-set_other, length-set, get_or_default, get_or-map, length-map}
use Rattle.std.proofs.lemmas.List.Elements.{All-set, All-weaker, All-map}
use Rattle.std.proofs.lemmas.List.Folds.{Any-from_list_any}
use Rattle.cow_format.specs.Picture.{place_of}
use Rattle.plain_machine.specs.Plain.{is_in}
use Rattle.in_flight.specs.Kinds.{kind_of}
use Rattle.in_flight.specs.Routes.{again_route_of, write_route_of, placed_route_of, refused_of, refused_route_of}
use Rattle.in_flight.specs.declared.copies.Mark.{Mark}
use Rattle.in_flight.specs.declared.flights.Flight.{Flight}
use Rattle.in_flight.specs.declared.flights.Kind.{Kind}
use Rattle.in_flight.specs.declared.flights.Kind.TheVariants.{OriginRead, OriginWrite, OriginFlush, SnapRead, SnapWrite, SnapFlush}
use Rattle.in_flight.specs.declared.flights.Route.{Route}
use Rattle.in_flight.specs.declared.flights.Route.TheVariants.{Held, Origin, Store, Whole, Refused}
use Rattle.volume_laws.specs.Books.{SnapBooks, MergeBooks, Books, group_of}
use Rattle.volume_laws.specs.Published.{chunk_of, IsPublished, is_saved, is_clear}
use Rattle.volume_laws.specs.Steps.{ChangesSnap, Unmarks, TriesMark, SpoilsOne}
use Rattle.volume_laws.specs.Again.{has_chunk, new_route, again_of, Reroutes, published_place, placed_of, Places}
use Rattle.volume_laws.specs.Waits.{IsSaving, IsCopying, WaitsFor, WaitsHolds, Waits, is_grouped}
use Rattle.volume_laws.proofs.Lists.{All-from_list_any}
use Rattle.volume_laws.proofs.Keeping.{published_test}
use Rattle.volume_laws.proofs.Placing.{placed_cases}
use Rattle.volume_laws.proofs.Spoiling.{alone_in}

-- All but that an origin write is not clear. What saves its chunk is asked only where the new route holds it again.
pub record HalfWaits (merge : Option MergeBooks) (snaps : List SnapBooks) (f : Flight) : Type 0 where
  pub origin_read : kind_of f.request ≡ OriginRead → f.route ≢ Held
  pub snap_read : (n : ℕ) → kind_of f.request ≡ SnapRead n → f.route ≢ Held
  pub saving : kind_of f.request ≡ OriginWrite → f.route ≡ Held → is_grouped merge f ≡ false → new_route merge (is_clear snaps) f ≡ Held → All (λ s. s.live ≡ true → IsSaving (chunk_of s.chunk f) s) snaps
  pub snap_write : (n : ℕ) → kind_of f.request ≡ SnapWrite n → f.route ≡ Held → Any (WaitsFor n f) snaps
  pub read_goes : kind_of f.request ≡ OriginRead → f.route ≢ Refused
  pub write_goes : kind_of f.request ≡ OriginWrite → f.route ≢ Refused
  pub read_attached : (n : ℕ) → kind_of f.request ≡ SnapRead n → Any (λ s. s.number ≡ n) snaps
  pub write_attached : (n : ℕ) → kind_of f.request ≡ SnapWrite n → Any (λ s. s.number ≡ n) snaps
  pub origin_flush : kind_of f.request ≡ OriginFlush → f.route ≢ Held
  pub snap_flush : (n : ℕ) → kind_of f.request ≡ SnapFlush n → f.route ≢ Held
  pub flush_goes : kind_of f.request ≡ OriginFlush → f.route ≢ Refused
  pub flush_attached : (n : ℕ) → kind_of f.request ≡ SnapFlush n → Any (λ s. s.number ≡ n) snaps

-- a request is in the group by its range
same_group : (merge : Option MergeBooks) (f : Flight) (route : Route) → is_grouped merge f ≡ is_grouped merge (record f { route = route })
same_group None f route = refl
same_group (Some m) f route = refl

-- a request that is held after held writes were routed again
again_held : (kind : Kind) (route new : Route) → again_route_of kind route new ≡ Held → (route ≡ Held) × (kind ≡ OriginWrite → new ≡ Held)
again_held kind Origin new e = cc
again_held kind (Store place) new e = cc
again_held kind Whole new e = cc
again_held kind Refused new e = cc
again_held OriginRead Held new e = (refl, λ k. absurd (read_ne_write k))
  where
    read_ne_write : OriginRead ≢ OriginWrite
    read_ne_write k = cc
again_held OriginWrite Held new e = (refl, λ _. e)
again_held OriginFlush Held new e = (refl, λ k. absurd (flush_ne k))
  where
    flush_ne : OriginFlush ≢ OriginWrite
    flush_ne k = cc
again_held (SnapFlush n) Held new e = (refl, λ k. absurd (snap_ne k))
  where
    snap_ne : SnapFlush n ≢ OriginWrite
    snap_ne k = cc
again_held (SnapRead n) Held new e = (refl, λ k. absurd (snap_ne k))
  where
    snap_ne : SnapRead n ≢ OriginWrite
    snap_ne k = cc
again_held (SnapWrite n) Held new e = (refl, λ k. absurd (snap_ne k))
  where
    snap_ne : SnapWrite n ≢ OriginWrite
    snap_ne k = cc

write_ne_refused : (grouped : Bool) (found : Option ℕ) (clear : Bool) → write_route_of grouped found clear ≢ Refused
write_ne_refused true found clear e = cc
write_ne_refused false (Some n) clear e = cc
write_ne_refused false None true e = cc
write_ne_refused false None false e = cc

new_ne_refused : (merge : Option MergeBooks) (clear : ℕ → Bool) (f : Flight) → new_route merge clear f ≢ Refused
new_ne_refused None clear f = write_ne_refused false None (clear f.request.range.first)
new_ne_refused (Some m) clear f = write_ne_refused (has_chunk (group_of m) (chunk_of m.chunk f)) (place_of m.pairs (chunk_of m.chunk f)) (clear f.request.range.first)

again_refused : (kind : Kind) (route new : Route) → new ≢ Refused → again_route_of kind route new ≡ Refused → route ≡ Refused
again_refused kind Origin new ne e = cc
again_refused kind (Store place) new ne e = cc
again_refused kind Whole new ne e = cc
again_refused kind Refused new ne e = refl
again_refused OriginRead Held new ne e = cc
again_refused OriginWrite Held new ne e = absurd (ne e)
again_refused OriginFlush Held new ne e = cc
again_refused (SnapRead n) Held new ne e = cc
again_refused (SnapFlush n) Held new ne e = cc
again_refused (SnapWrite n) Held new ne e = cc

-- a write that is held by the table, and is in no group, is not clear
write_held : (grouped : Bool) (found : Option ℕ) (clear : Bool) → write_route_of grouped found clear ≡ Held → grouped ≡ false → clear ≡ false
write_held true found clear e free = absurd (false≢true (sym free))
write_held false (Some n) clear e free = cc
write_held false None true e free = cc
write_held false None false e free = refl

new_held : (merge : Option MergeBooks) (clear : ℕ → Bool) (f : Flight) → new_route merge clear f ≡ Held → is_grouped merge f ≡ false → clear f.request.range.first ≡ false
new_held None clear f e free = write_held false None (clear f.request.range.first) e refl
new_held (Some m) clear f e free = write_held (has_chunk (group_of m) (chunk_of m.chunk f)) (place_of m.pairs (chunk_of m.chunk f)) (clear f.request.range.first) e free

again_waits : (merge : Option MergeBooks) (snaps : List SnapBooks) (f : Flight) → HalfWaits merge snaps f → WaitsHolds merge snaps (again_of merge (is_clear snaps) f)
again_waits merge snaps f h =
    let new : Route = new_route merge (is_clear snaps) f in
    let was : again_route_of (kind_of f.request) f.route (new_route merge (is_clear snaps) f) ≡ Held → (f.route ≡ Held) × (kind_of f.request ≡ OriginWrite → new_route merge (is_clear snaps) f ≡ Held) =
    again_held (kind_of f.request) f.route (new_route merge (is_clear snaps) f) in
    let refused = again_refused (kind_of f.request) f.route (new_route merge (is_clear snaps) f) (new_ne_refused merge (is_clear snaps) f) in
    record {
      origin_read = λ kind held. h.origin_read kind (was held).0;
      snap_read = λ n kind held. h.snap_read n kind (was held).0;
      origin_write = λ kind held free. new_held merge (is_clear snaps) f ((was held).1 kind) (same_group merge f (again_route_of (kind_of f.request) f.route (new_route merge (is_clear snaps) f)) ∙ free);
      saving = λ kind held free. h.saving kind (was held).0 (same_group merge f (again_route_of (kind_of f.request) f.route (new_route merge (is_clear snaps) f)) ∙ free) ((was held).1 kind);
      snap_write = λ n kind held. any_same n f (h.snap_write n kind (was held).0);
      read_goes = λ kind e. h.read_goes kind (refused e);
      write_goes = λ kind e. h.write_goes kind (refused e);
      read_attached = h.read_attached;
      write_attached = h.write_attached;
      origin_flush = λ kind held. h.origin_flush kind (was held).0;
      snap_flush = λ n kind held. h.snap_flush n kind (was held).0;
      flush_goes = λ kind e. h.flush_goes kind (refused e);
      flush_attached = h.flush_attached;
    }
  where
    any_same : (n : ℕ) (f : Flight) → Any (WaitsFor n f) snaps → Any (WaitsFor n (again_of merge (is_clear snaps) f)) snaps
    any_same n f (k, s, lt, is, w) = (k, s, lt, is, record { mine = w.mine; live = w.live; copying = w.copying })

-- numbers stay apart where a map keeps them
numbers_mapped : (g : Flight → Flight) (rs : List Flight) → ((f : Flight) → (g f).number ≡ f.number) → AllPairs (λ (x y : Flight). x.number ≢ y.number) rs → AllPairs (λ (x y : Flight). x.number ≢ y.number) (map g rs)
numbers_mapped g rs same apart i j d lt within =
    let j_in : j < length rs = omega (arith, within, length-map rs g) in
    let one : (get_or (map g rs) i d).number ≡ (get_or rs i d).number = ap (λ (x : Flight). x.number) (get_or-map g rs i d d (omega (arith, lt, j_in))) ∙ same (get_or rs i d) in
    let two : (get_or (map g rs) j d).number ≡ (get_or rs j d).number = ap (λ (x : Flight). x.number) (get_or-map g rs j d d j_in) ∙ same (get_or rs j d) in
    λ e. apart i j d lt j_in (sym one ∙ e ∙ two)

-- held writes are routed again, which clears those that may go
pub waits_rerouted : (v w : Books) → AllPairs (λ (x y : Flight). x.number ≢ y.number) v.requests → All (HalfWaits v.merge v.snaps) v.requests → Reroutes (is_clear v.snaps) v w → Waits w
waits_rerouted v w numbers half e = record {
  numbers = subst (AllPairs (λ (x y : Flight). x.number ≢ y.number)) (sym e.requests) (numbers_mapped (again_of v.merge (is_clear v.snaps)) v.requests (λ f. refl) numbers);
  held = subst (λ (snaps : List SnapBooks). All (WaitsHolds w.merge snaps) w.requests) (sym e.snaps)
      (subst (λ m. All (WaitsHolds m v.snaps) w.requests) (sym e.merge)
      (subst (All (WaitsHolds v.merge v.snaps)) (sym e.requests)
      (All-map (WaitsHolds v.merge v.snaps) (again_of v.merge (is_clear v.snaps)) v.requests (λ k d lt. again_waits v.merge v.snaps (get_or v.requests k d) (half k d lt)))));
}

-- what one snapshot has, another element of the list having changed
any_other : (P : SnapBooks → Type 0) (snaps : List SnapBooks) (k : ℕ) (s s' : SnapBooks) → k < length snaps → s ≡ get_or snaps k s → (P s → P s') → Any P snaps → Any P (set snaps k s')
any_other P snaps k s s' within is keeps (j, x, lt, x_is, holds) = elim (cases_eq j k) [
  | inl same ↦ (let at : x ≡ s = sym x_is ∙ ap (λ i. get_or snaps i x) same ∙ get_or_default snaps k x s within ∙ sym is in
      (k, s', omega (arith, within, length-set snaps k s'), get_or-set_same snaps k s' s' within, keeps (subst P at holds)))
  | inr other ↦ (j, x, omega (arith, lt, length-set snaps k s'), get_or-set_other snaps k j s' x other ∙ x_is, holds)
]

-- of a spoiled snapshot, whose mark is tried
pub waits_tried : (k : ℕ) (s s' : SnapBooks) (v u w : Books) → Waits v → ChangesSnap k s s' v u → TriesMark s s' → Reroutes (is_clear u.snaps) u w → Waits w
waits_tried k s s' v u w h e t again = waits_rerouted u w
    (subst (AllPairs (λ (x y : Flight). x.number ≢ y.number)) (sym e.requests) h.numbers)
    (subst (λ (snaps : List SnapBooks). All (HalfWaits u.merge snaps) u.requests) (sym e.snaps)
    (subst (λ m. All (HalfWaits m (set v.snaps k s')) u.requests) (sym e.merge)
    (subst (All (HalfWaits v.merge (set v.snaps k s'))) (sym e.requests)
    (λ j d lt. half (get_or v.requests j d) (h.held j d lt)))))
    again
  where
    half : (f : Flight) → WaitsHolds v.merge v.snaps f → HalfWaits v.merge (set v.snaps k s') f
    half f old = record {
      origin_read = old.origin_read;
      snap_read = old.snap_read;
      saving = λ kind held free _. All-set (λ x. x.live ≡ true → IsSaving (chunk_of x.chunk f) x) v.snaps k s' (λ live. absurd (false≢true (sym t.live ∙ live))) (old.saving kind held free);
      snap_write = λ n kind held. any_other (WaitsFor n f) v.snaps k s s' e.within e.was (λ waits. absurd (false≢true (sym t.was ∙ waits.live))) (old.snap_write n kind held);
      read_goes = old.read_goes;
      write_goes = old.write_goes;
      read_attached = λ n kind. any_other (λ x. x.number ≡ n) v.snaps k s s' e.within e.was (λ m. t.number ∙ m) (old.read_attached n kind);
      write_attached = λ n kind. any_other (λ x. x.number ≡ n) v.snaps k s s' e.within e.was (λ m. t.number ∙ m) (old.write_attached n kind);
      origin_flush = old.origin_flush;
      snap_flush = old.snap_flush;
      flush_goes = old.flush_goes;
      flush_attached = λ n kind. any_other (λ x. x.number ≡ n) v.snaps k s s' e.within e.was (λ m. t.number ∙ m) (old.flush_attached n kind);
    }

-- the routes after a spoil
refused_held : (which : List ℕ) (kind : Kind) (route : Route) → refused_route_of which kind route ≡ Held → route ≡ Held
refused_held which OriginRead route e = e
refused_held which OriginWrite route e = e
refused_held which OriginFlush route e = e
refused_held which (SnapRead n) route e = elim (cases_Bool (is_in which n)) [
  | inl one ↦ (let got : Refused ≡ Held = rw one at e in absurd (cc))
  | inr none ↦ rw none at e
]
refused_held which (SnapWrite n) route e = elim (cases_Bool (is_in which n)) [
  | inl one ↦ (let got : Refused ≡ Held = rw one at e in absurd (cc))
  | inr none ↦ rw none at e
]
refused_held which (SnapFlush n) route e = elim (cases_Bool (is_in which n)) [
  | inl one ↦ (let got : Refused ≡ Held = rw one at e in absurd (cc))
  | inr none ↦ rw none at e
]

-- a held write of a snapshot is none of a spoiled one
held_not_in : (which : List ℕ) (n : ℕ) (kind : Kind) (route : Route) → kind ≡ SnapWrite n → refused_route_of which kind route ≡ Held → is_in which n ≡ false
held_not_in which n kind route is e = elim (cases_Bool (is_in which n)) [
  | inr none ↦ none
  | inl one ↦ (let got : Refused ≡ Held = sym (rw is (rw one refl)) ∙ e in absurd (cc))
]

refused_origin : (which : List ℕ) (kind : Kind) (route : Route) → (kind ≡ OriginRead) ⊎ (kind ≡ OriginWrite) → refused_route_of which kind route ≡ route
refused_origin which kind route (inl is) = rw is refl
refused_origin which kind route (inr is) = rw is refl

refused_flush : (which : List ℕ) (kind : Kind) (route : Route) → kind ≡ OriginFlush → refused_route_of which kind route ≡ route
refused_flush which kind route is = rw is refl

not_clear : (first : ℕ) (snaps : List SnapBooks) (k : ℕ) (s' : SnapBooks) → k < length snaps → s'.untried ≡ true → is_clear (set snaps k s') first ≡ false
not_clear first snaps k s' within untried = rw (one snaps k within) (right_false (list_all (is_saved first) (set snaps k s')))
  where
    one : (xs : List SnapBooks) (k : ℕ) → k < length xs → list_any (λ v. v.untried) (set xs k s') ≡ true
    one [] k lt = absurd (omega (arith, lt))
    one (x ∷ xs) zero lt = ap (λ b. b || list_any (λ v. v.untried) xs) untried
    one (x ∷ xs) (suc k) lt = ap (λ b. x.untried || b) (one xs k (omega (arith, lt))) ∙ or_right x.untried
      where
        or_right : (b : Bool) → (b || true) ≡ true
        or_right true = refl
        or_right false = refl

    right_false : (b : Bool) → (b && false) ≡ false
    right_false true = refl
    right_false false = refl

-- a spoil, whose mark is not tried yet
pub waits_spoiled : (k : ℕ) (s s' : SnapBooks) (v w : Books) → Waits v → SpoilsOne k s s' v w → s'.untried ≡ true → Waits w
waits_spoiled k s s' v w h e untried = record {
  numbers = subst (AllPairs (λ (x y : Flight). x.number ≢ y.number)) (sym e.requests) (numbers_mapped (refused_of (s.number ∷ [])) v.requests (λ f. refl) h.numbers);
  held = subst (λ (snaps : List SnapBooks). All (WaitsHolds w.merge snaps) w.requests) (sym e.snaps)
      (subst (λ m. All (WaitsHolds m (set v.snaps k s')) w.requests) (sym e.merge)
      (subst (All (WaitsHolds v.merge (set v.snaps k s'))) (sym e.requests)
      (All-map (WaitsHolds v.merge (set v.snaps k s')) (refused_of which) v.requests (λ j d lt. one (get_or v.requests j d) (h.held j d lt)))));
}
  where
    which : List ℕ
    which = s.number ∷ []

    one : (f : Flight) → WaitsHolds v.merge v.snaps f → WaitsHolds v.merge (set v.snaps k s') (refused_of (s.number ∷ []) f)
    one f old =
        let kind : Kind = kind_of f.request in
        let was = refused_held (s.number ∷ []) (kind_of f.request) f.route in
        record {
          origin_read = λ is held. old.origin_read is (was held);
          snap_read = λ n is held. old.snap_read n is (was held);
          origin_write = λ is held free. not_clear f.request.range.first v.snaps k s' e.within untried;
          saving = λ is held free. All-set (λ x. x.live ≡ true → IsSaving (chunk_of x.chunk f) x) v.snaps k s' (λ live. absurd (false≢true (sym e.spoils.live ∙ live))) (old.saving is (was held) (same_group v.merge f (refused_route_of (s.number ∷ []) (kind_of f.request) f.route) ∙ free));
          snap_write = λ n is held. (let out : is_in (s.number ∷ []) n ≡ false = held_not_in (s.number ∷ []) n (kind_of f.request) f.route is held in
              any_other (WaitsFor n (refused_of (s.number ∷ []) f)) v.snaps k s s' e.within e.was
              (λ waits. absurd (false≢true (sym out ∙ ap (is_in (s.number ∷ [])) (sym waits.mine) ∙ alone_in s.number)))
              (same_waits n f (old.snap_write n is (was held))));
          read_goes = λ is goes. old.read_goes is (sym (refused_origin (s.number ∷ []) (kind_of f.request) f.route (inl is)) ∙ goes);
          write_goes = λ is goes. old.write_goes is (sym (refused_origin (s.number ∷ []) (kind_of f.request) f.route (inr is)) ∙ goes);
          read_attached = λ n is. any_other (λ x. x.number ≡ n) v.snaps k s s' e.within e.was (λ m. e.spoils.number ∙ m) (old.read_attached n is);
          write_attached = λ n is. any_other (λ x. x.number ≡ n) v.snaps k s s' e.within e.was (λ m. e.spoils.number ∙ m) (old.write_attached n is);
          origin_flush = λ is held. old.origin_flush is (was held);
          snap_flush = λ n is held. old.snap_flush n is (was held);
          flush_goes = λ is goes. old.flush_goes is (sym (refused_flush (s.number ∷ []) (kind_of f.request) f.route is) ∙ goes);
          flush_attached = λ n is. any_other (λ x. x.number ≡ n) v.snaps k s s' e.within e.was (λ m. e.spoils.number ∙ m) (old.flush_attached n is);
        }
      where
        same_waits : (n : ℕ) (f : Flight) → Any (WaitsFor n f) v.snaps → Any (WaitsFor n (refused_of (s.number ∷ []) f)) v.snaps
        same_waits n f (j, x, lt, is, waits) = (j, x, lt, is, record { mine = waits.mine; live = waits.live; copying = waits.copying })

-- a publication: the mark is taken away, the snapshot's held writes of the chunk are placed, and then held origin writes
-- are routed again
pub waits_published : (k j : ℕ) (m : Mark) (s s' : SnapBooks) (v u x w : Books) → Waits v → ChangesSnap k s s' v u → Unmarks j m s s' → Places k s' u x → Reroutes (is_clear x.snaps) x w → Waits w
waits_published k j m s s' v u x w h e t places again = waits_rerouted x w
    (subst (AllPairs (λ (a b : Flight). a.number ≢ b.number)) (sym places.requests)
    (numbers_mapped (placed_of s') u.requests (λ f. refl) (subst (AllPairs (λ (a b : Flight). a.number ≢ b.number)) (sym e.requests) h.numbers)))
    (subst (λ (snaps : List SnapBooks). All (HalfWaits x.merge snaps) x.requests) (sym (places.snaps ∙ e.snaps))
    (subst (λ n. All (HalfWaits n (set v.snaps k s')) x.requests) (sym (places.merge ∙ e.merge))
    (subst (All (HalfWaits v.merge (set v.snaps k s'))) (sym (places.requests ∙ ap (map (placed_of s')) e.requests))
    (All-map (HalfWaits v.merge (set v.snaps k s')) (placed_of s') v.requests (λ i d lt. half (get_or v.requests i d) (h.held i d lt))))))
    again
  where
    -- a request that is held after the placing
    was_held : (f : Flight) → (placed_of s' f).route ≡ Held → f.route ≡ Held
    was_held f held = elim (placed_cases s'.number (kind_of f.request) f.route (published_place s'.pairs s'.marks (chunk_of s'.chunk f))) [
      | inl same ↦ sym same ∙ held
      | inr goes ↦ goes.held
    ]

    store_ne_refused : (p : ℕ) → Store p ≢ Refused
    store_ne_refused p c = cc

    was_refused : (f : Flight) → (placed_of s' f).route ≡ Refused → f.route ≡ Refused
    was_refused f refused = elim (placed_cases s'.number (kind_of f.request) f.route (published_place s'.pairs s'.marks (chunk_of s'.chunk f))) [
      | inl same ↦ sym same ∙ refused
      | inr goes ↦ absurd (store_ne_refused goes.found (sym goes.goes ∙ refused))
    ]

    -- the snapshot still saves what it saved
    saves : (c : ℕ) → IsSaving c s → IsSaving c s'
    saves c (inl named) = inl (λ none. named (ap (λ ps. place_of ps c) (sym t.store.pairs) ∙ none))
    saves c (inr any) = inr (subst (λ cs. Any (λ p. p.pair.old ≡ c) cs) (sym t.copies) any)

    -- a held write of it waits still
    held_ne_store : (p : ℕ) → Store p ≢ Held
    held_ne_store p c = cc

    place_here : (c : ℕ) → place_of s'.pairs c ≢ None → list_any (λ (n : Mark). nat_eq n.chunk c) s'.marks ≡ false → (p : ℕ) × (published_place s'.pairs s'.marks c ≡ Some p)
    place_here c named unmarked = at (place_of s'.pairs c) refl
      where
        published : IsPublished s'.pairs s'.marks c
        published = record {
          placed = named;
          unmarked = All-weaker (λ (n : Mark). nat_eq n.chunk c ≡ false) (λ (n : Mark). n.chunk ≢ c) (λ n ne. eqb-false n.chunk c ne) s'.marks
              (All-from_list_any (λ (n : Mark). nat_eq n.chunk c) s'.marks unmarked);
        }

        at : (r : Option ℕ) → place_of s'.pairs c ≡ r → (p : ℕ) × (published_place s'.pairs s'.marks c ≡ Some p)
        at None is = absurd (named is)
        at (Some p) is = (p, rw (published_test s'.pairs s'.marks c published) is)

    mine_held : (n : ℕ) (f : Flight) → kind_of f.request ≡ SnapWrite n → (placed_of s' f).route ≡ Held → WaitsFor n f s → WaitsFor n (placed_of s' f) s'
    mine_held n f kind held waits = record {
      mine = t.same.number ∙ waits.mine;
      live = t.same.live ∙ waits.live;
      copying = subst (λ c. IsCopying (chunk_of c f) s') (sym t.same.chunk) (still (chunk_of s.chunk f) refl waits.copying);
    }
      where
        still : (c : ℕ) → c ≡ chunk_of s.chunk f → IsCopying c s → IsCopying c s'
        still c c_is (inl any) = inl (subst (λ cs. Any (λ p. p.pair.old ≡ c) cs) (sym t.copies) any)
        still c c_is (inr (named, any)) = elim (cases_Bool (list_any (λ (n : Mark). nat_eq n.chunk c) s'.marks)) [
          | inl marked ↦ inr ((λ none. named (ap (λ ps. place_of ps c) (sym t.store.pairs) ∙ none)), marks_of marked)
          | inr unmarked ↦ absurd (gone unmarked)
        ]
          where
            named' : place_of s'.pairs c ≢ None
            named' none = named (ap (λ ps. place_of ps c) (sym t.store.pairs) ∙ none)

            marks_of : list_any (λ (n : Mark). nat_eq n.chunk c) s'.marks ≡ true → Any (λ (n : Mark). n.chunk ≡ c) s'.marks
            marks_of marked = (let (i, y, lt, is, same) = Any-from_list_any (λ (n : Mark). nat_eq n.chunk c) s'.marks marked in (i, y, lt, is, eqb-true y.chunk c same))

            gone : list_any (λ (n : Mark). nat_eq n.chunk c) s'.marks ≡ false → ⊥
            gone unmarked =
                let (p, at) = place_here c named' unmarked in
                let here : published_place s'.pairs s'.marks (chunk_of s'.chunk f) ≡ Some p = ap (λ y. published_place s'.pairs s'.marks (chunk_of y f)) t.same.chunk ∙ ap (published_place s'.pairs s'.marks) (sym c_is) ∙ at in
                let same : nat_eq n s'.number ≡ true = eq-eqb n s'.number (sym (t.same.number ∙ waits.mine)) in
                let goes : placed_route_of s'.number (kind_of f.request) f.route (published_place s'.pairs s'.marks (chunk_of s'.chunk f)) ≡ Store p =
                ap (λ y. placed_route_of s'.number y f.route (published_place s'.pairs s'.marks (chunk_of s'.chunk f))) kind
                ∙ ap (λ y. placed_route_of s'.number (SnapWrite n) y (published_place s'.pairs s'.marks (chunk_of s'.chunk f))) (was_held f held)
                ∙ ap (placed_route_of s'.number (SnapWrite n) Held) here ∙ (rw same refl) in
                held_ne_store p (sym goes ∙ held)

    other_held : (n : ℕ) (f : Flight) → kind_of f.request ≡ SnapWrite n → (placed_of s' f).route ≡ Held → Any (WaitsFor n f) v.snaps → Any (WaitsFor n (placed_of s' f)) (set v.snaps k s')
    other_held n f kind held (i, y, lt, is, waits) = elim (cases_eq i k) [
      | inl same ↦ (let at : y ≡ s = sym is ∙ ap (λ q. get_or v.snaps q y) same ∙ get_or_default v.snaps k y s e.within ∙ sym e.was in
          (k, s', omega (arith, e.within, length-set v.snaps k s'), get_or-set_same v.snaps k s' s' e.within, mine_held n f kind held (subst (WaitsFor n f) at waits)))
      | inr other ↦ (i, y, omega (arith, lt, length-set v.snaps k s'), get_or-set_other v.snaps k i s' y other ∙ is, record { mine = waits.mine; live = waits.live; copying = waits.copying })
    ]

    free_before : (f : Flight) → is_grouped v.merge (placed_of s' f) ≡ false → is_grouped v.merge f ≡ false
    free_before f free = same_group v.merge f (placed_route_of s'.number (kind_of f.request) f.route (published_place s'.pairs s'.marks (chunk_of s'.chunk f))) ∙ free

    half : (f : Flight) → WaitsHolds v.merge v.snaps f → HalfWaits v.merge (set v.snaps k s') (placed_of s' f)
    half f old = record {
      origin_read = λ is held. old.origin_read is (was_held f held);
      snap_read = λ n is held. old.snap_read n is (was_held f held);
      saving = λ is held free _. All-set (λ y. y.live ≡ true → IsSaving (chunk_of y.chunk f) y) v.snaps k s'
          (λ live. (let before : IsSaving (chunk_of s.chunk f) s = subst (λ (y : SnapBooks). y.live ≡ true → IsSaving (chunk_of y.chunk f) y) (sym e.was) (old.saving is (was_held f held) (free_before f free) k s e.within) (sym t.same.live ∙ live) in
          subst (λ c. IsSaving (chunk_of c f) s') (sym t.same.chunk) (saves (chunk_of s.chunk f) before)))
          (old.saving is (was_held f held) (free_before f free));
      snap_write = λ n is held. other_held n f is held (old.snap_write n is (was_held f held));
      read_goes = λ is goes. old.read_goes is (was_refused f goes);
      write_goes = λ is goes. old.write_goes is (was_refused f goes);
      read_attached = λ n is. any_other (λ y. y.number ≡ n) v.snaps k s s' e.within e.was (λ q. t.same.number ∙ q) (old.read_attached n is);
      write_attached = λ n is. any_other (λ y. y.number ≡ n) v.snaps k s s' e.within e.was (λ q. t.same.number ∙ q) (old.write_attached n is);
      origin_flush = λ is held. old.origin_flush is (was_held f held);
      snap_flush = λ n is held. old.snap_flush n is (was_held f held);
      flush_goes = λ is goes. old.flush_goes is (was_refused f goes);
      flush_attached = λ n is. any_other (λ y. y.number ≡ n) v.snaps k s s' e.within e.was (λ q. t.same.number ∙ q) (old.flush_attached n is);
    }
