-- Each held request keeps its reason over each event of a merge.
use Rattle.std.proofs.Common.{◌≡◌, ◌≢◌, inl, inr, ℕ, ◌+◌, ◌*◌, ◌/◌, ◌%◌, ◌<◌, Bool, true, false, List, [], ◌∷◌, ◌++◌, Option, Some, None, length, get_or, refl, sym, ◌∙◌, ap, subst, append_assoc, append-nil, nat_eq, arith}
use Rattle.std.specs.Prelude.{AllPairs, Any}
use Rattle.std.specs.List.{All, remove}
use Rattle.std.proofs.lemmas.Nat.{mod_below, div-add-mod'}
use Rattle.std.proofs.lemmas.Bool.{cases_Bool, eqb-true}
use Rattle.std.proofs.lemmas.List.Elements.{All-weaker}
use Rattle.std.proofs.lemmas.List.Folds.{Any-from_list_any}
use Rattle.sector.specs.declared.pair.Pair.{Pair}
use Rattle.cow_format.specs.Picture.{place_of}
use Rattle.in_flight.specs.Copies.{count_of}
use Rattle.in_flight.specs.Routes.{write_route_of}
use Rattle.in_flight.specs.declared.flights.Flight.{Flight}
use Rattle.in_flight.specs.declared.flights.Route.TheVariants.{Held}
use Rattle.volume_laws.specs.Books.{SnapBooks, MergeBooks, Books, group_of}
use Rattle.volume_laws.specs.Published.{chunk_of, IsPublished, is_clear}
use Rattle.volume_laws.specs.Again.{has_chunk, new_route, Reroutes}
use Rattle.volume_laws.specs.Waits.{IsSaving, WaitsHolds, Waits, is_grouped}
use Rattle.volume_laws.specs.MergeDue.{DueMerge}
use Rattle.volume_laws.specs.MergeWaits.{IsSavedIn, MergeGoes}
use Rattle.volume_laws.specs.MergeSteps.{FormsGroup, ReadsBack, WritesBack, FlushesBack, CommitsGroup, ReleasesGroup, ReadsArea, FailsMerge, Resumes, WritesStore, ChangesMerge}
use Rattle.volume_laws.proofs.Keeping.{placed_behind}
use Rattle.volume_laws.proofs.Pairs.{unnamed}
use Rattle.volume_laws.proofs.Lists.{All-back}
use Rattle.volume_laws.proofs.Waiting.{waits_out}
use Rattle.volume_laws.proofs.WaitingAgain.{HalfWaits, waits_rerouted}

-- A chunk in the group stays there.
grouped_still : (m m' : MergeBooks) (snaps : List SnapBooks) (f : Flight) → (is_grouped (Some m') f ≡ false → is_grouped (Some m) f ≡ false) → WaitsHolds (Some m) snaps f → WaitsHolds (Some m') snaps f
grouped_still m m' snaps f free h = record {
  origin_read = h.origin_read;
  snap_read = h.snap_read;
  origin_write = λ kind held none. h.origin_write kind held (free none);
  saving = λ kind held none. h.saving kind held (free none);
  snap_write = h.snap_write;
  read_goes = h.read_goes;
  write_goes = h.write_goes;
  read_attached = h.read_attached;
  write_attached = h.write_attached;
  origin_flush = h.origin_flush;
  snap_flush = h.snap_flush;
  flush_goes = h.flush_goes;
  flush_attached = h.flush_attached;
}

waits_merge : (m m' : MergeBooks) (v w : Books) → Waits v → ChangesMerge m m' v w → ((f : Flight) → is_grouped (Some m') f ≡ false → is_grouped (Some m) f ≡ false) → Waits w
waits_merge m m' v w h e free = record {
  numbers = subst (AllPairs (λ (f g : Flight). f.number ≢ g.number)) (sym e.requests) h.numbers;
  held = subst (λ (x : List SnapBooks). All (WaitsHolds w.merge x) w.requests) (sym e.snaps)
      (subst (λ x. All (WaitsHolds x v.snaps) w.requests) (sym e.merge)
      (subst (All (WaitsHolds (Some m') v.snaps)) (sym e.requests)
      (All-weaker (WaitsHolds (Some m) v.snaps) (WaitsHolds (Some m') v.snaps) (λ f. grouped_still m m' v.snaps f (free f)) v.requests
      (subst (λ x. All (WaitsHolds x v.snaps) v.requests) e.was h.held))));
}

-- where the group is the same list, of the same chunks
waits_same : (m m' : MergeBooks) (v w : Books) → Waits v → ChangesMerge m m' v w → m'.chunk ≡ m.chunk → group_of m' ≡ group_of m → Waits w
waits_same m m' v w h e chunk group = waits_merge m m' v w h e (λ f none.
    ap (λ x. has_chunk x (chunk_of m.chunk f)) (sym group) ∙ ap (λ n. has_chunk (group_of m') (chunk_of n f)) (sym chunk) ∙ none)

module _ (d d' : DueMerge) (v w : Books) (h : Waits v) (e : ChangesMerge d.books d'.books v w) where
  abbrev m : MergeBooks
  m = d.books

  pub waits_grouped : (kept group : List Pair) → FormsGroup kept group d d' → Waits w
  waits_grouped kept group s = waits_merge m d'.books v w h e (λ f none. ap (λ x. has_chunk x (chunk_of m.chunk f)) s.none)

  pub waits_read : (rest : List Pair) (q : Pair) (bytes : List ℕ) → ReadsBack rest q bytes d d' → Waits w
  waits_read rest q bytes s = waits_same m d'.books v w h e (ap (λ (x : MergeBooks). x.chunk) s.books)
      (ap group_of s.books ∙ sym (append_assoc rest (q ∷ []) (m.copied ++ m.released)) ∙ ap (λ x. x ++ (m.copied ++ m.released)) (sym s.last) ∙ ap (λ x. m.waiting ++ (x ++ (m.copied ++ m.released))) (sym s.empty))

  pub waits_written : (q : Pair) → WritesBack q d d' → Waits w
  waits_written q s = waits_same m d'.books v w h e (ap (λ (x : MergeBooks). x.chunk) s.books)
      (ap group_of s.books ∙ ap (λ x. m.waiting ++ (x ++ (m.copied ++ m.released))) (sym s.full))

  pub waits_flushed : FlushesBack d d' → Waits w
  waits_flushed s = waits_same m d'.books v w h e (ap (λ (x : MergeBooks). x.chunk) s.books) (ap group_of s.books)

  pub waits_committed : (kept : List Pair) (store : List ℕ) → CommitsGroup kept store d d' → Waits w
  waits_committed kept store s = waits_same m d'.books v w h e (ap (λ (x : MergeBooks). x.chunk) s.books) (ap group_of s.books)

  pub waits_area : ReadsArea d d' → Waits w
  waits_area s = waits_same m d'.books v w h e (ap (λ (x : MergeBooks). x.chunk) s.books) (ap group_of s.books)

-- the pair of a chunk that is in a group
pair_of_chunk : (group : List Pair) (c : ℕ) → has_chunk group c ≡ true → Any (λ (q : Pair). q.old ≡ c) group
pair_of_chunk group c e = (let (k, q, lt, is, same) = Any-from_list_any (λ (q : Pair). nat_eq q.old c) group e in (k, q, lt, is, eqb-true q.old c same))

-- what is published, or has a pair, is being saved
published_saving : (s : SnapBooks) (c : ℕ) → IsPublished s.pairs s.marks c → IsSaving c s
published_saving s c h = inl h.placed

-- a released group's chunks are saved in each live snapshot, where a request begins in one of them
released_saving : (chunk sectors : ℕ) (snaps : List SnapBooks) (released : List Pair) (f : Flight) → 0 < chunk → f.request.range.first < sectors → All (IsSavedIn chunk sectors snaps) released → has_chunk released (chunk_of chunk f) ≡ true
    → All (λ s. s.live ≡ true → IsSaving (chunk_of s.chunk f) s) snaps
released_saving chunk sectors snaps released f some inside saved e k d lt live =
    let (j, q, within, is, old) = pair_of_chunk released (chunk_of chunk f) e in
    let whole : chunk * (f.request.range.first / chunk) + f.request.range.first % chunk ≡ f.request.range.first = grind (arith, div-add-mod' f.request.range.first chunk) in
    let at : chunk * q.old + f.request.range.first % chunk ≡ f.request.range.first = ap (λ n. chunk * n + f.request.range.first % chunk) old ∙ whole in
    let off : f.request.range.first % chunk < count_of chunk sectors q.old = (let low = mod_below f.request.range.first chunk some in omega (arith, low, at, inside)) in
    let one : IsPublished (get_or snaps k d).pairs (get_or snaps k d).marks ((chunk * q.old + f.request.range.first % chunk) / (get_or snaps k d).chunk) =
    subst (IsSavedIn chunk sectors snaps) is (saved j q within) k d lt (f.request.range.first % chunk) off live in
    published_saving (get_or snaps k d) (chunk_of (get_or snaps k d).chunk f) (subst (λ n. IsPublished (get_or snaps k d).pairs (get_or snaps k d).marks (n / (get_or snaps k d).chunk)) at one)

-- the group is gone: a request that was held for it waits for copies now, if its new route holds it
half_of : (m m' : MergeBooks) (snaps : List SnapBooks) (f : Flight) → (is_grouped (Some m) f ≡ true → new_route (Some m') (is_clear snaps) f ≡ Held → All (λ s. s.live ≡ true → IsSaving (chunk_of s.chunk f) s) snaps)
    → WaitsHolds (Some m) snaps f → HalfWaits (Some m') snaps f
half_of m m' snaps f saves h = record {
  origin_read = h.origin_read;
  snap_read = h.snap_read;
  saving = λ kind held _ again. elim (cases_Bool (is_grouped (Some m) f)) [
    | inl grouped ↦ saves grouped again
    | inr free ↦ h.saving kind held free
  ];
  snap_write = h.snap_write;
  read_goes = h.read_goes;
  write_goes = h.write_goes;
  read_attached = h.read_attached;
  write_attached = h.write_attached;
  origin_flush = h.origin_flush;
  snap_flush = h.snap_flush;
  flush_goes = h.flush_goes;
  flush_attached = h.flush_attached;
}

waits_again : (m m' : MergeBooks) (v u w : Books) → Waits v → ChangesMerge m m' v u
    → All (λ f. is_grouped (Some m) f ≡ true → new_route (Some m') (is_clear v.snaps) f ≡ Held → All (λ s. s.live ≡ true → IsSaving (chunk_of s.chunk f) s) v.snaps) v.requests
    → Reroutes (is_clear u.snaps) u w → Waits w
waits_again m m' v u w h e saves again = waits_rerouted u w
    (subst (AllPairs (λ (x y : Flight). x.number ≢ y.number)) (sym e.requests) h.numbers)
    (subst (λ (x : List SnapBooks). All (HalfWaits u.merge x) u.requests) (sym e.snaps)
    (subst (λ x. All (HalfWaits x v.snaps) u.requests) (sym e.merge)
    (subst (All (HalfWaits (Some m') v.snaps)) (sym e.requests)
    (λ k d lt. half_of m m' v.snaps (get_or v.requests k d) (saves k d lt) (subst (λ x. All (WaitsHolds x v.snaps) v.requests) e.was h.held k d lt)))))
    again

-- MergeRelease, and then held writes are routed again
pub waits_released : (d d' : DueMerge) (v u w : Books) → Waits v → MergeGoes v.snaps d → ReleasesGroup d d' → ChangesMerge d.books d'.books v u → 0 < d.books.chunk → All (λ f. f.request.range.first < d.books.sectors) v.requests
    → Reroutes (is_clear u.snaps) u w → Waits w
waits_released d d' v u w h goes s e some inside again =
    let only : group_of d.books ≡ d.books.released =
    ap (λ x. x ++ (d.books.reading ++ (d.books.copied ++ d.books.released))) (goes.staged.over s.some) ∙ ap (λ x. x ++ (d.books.copied ++ d.books.released)) (goes.staged.out s.some)
    ∙ ap (λ x. x ++ d.books.released) (goes.staged.copied s.some) in
    waits_again d.books d'.books v u w h e (λ k f lt grouped _. released_saving d.books.chunk d.books.sectors v.snaps d.books.released (get_or v.requests k f) some (inside k f lt)
    (All-back (IsSavedIn d.books.chunk d.books.sectors v.snaps) d.books.copied d.books.released goes.saved)
    (ap (λ x. has_chunk x (chunk_of d.books.chunk (get_or v.requests k f))) (sym only) ∙ grouped)) again

-- a chunk with a pair goes to its place
placed_ne_held : (found : Option ℕ) (clear : Bool) → found ≢ None → write_route_of false found clear ≢ Held
placed_ne_held None clear some e = some refl
placed_ne_held (Some n) clear some e = cc

named_in : (group : List Pair) (c : ℕ) → has_chunk group c ≡ true → place_of group c ≢ None
named_in group c e none = (let (k, q, lt, is, same) = pair_of_chunk group c e in subst (λ (x : Pair). x.old ≢ c) is (unnamed group c none k q lt) same)

-- a fault, and then held writes are routed again: those of the group go to their places
pub waits_failed : (d d' : DueMerge) (v u w : Books) → Waits v → MergeGoes v.snaps d → FailsMerge d d' → ChangesMerge d.books d'.books v u → Reroutes (is_clear u.snaps) u w → Waits w
waits_failed d d' v u w h goes s e again = waits_again d.books d'.books v u w h e (λ k f lt grouped held. absurd (goes_there (get_or v.requests k f) grouped held)) again
  where
    group_is : group_of d.books ≡ d.books.waiting ++ (d.books.reading ++ d.books.copied)
    group_is = ap (λ x. d.books.waiting ++ (d.books.reading ++ (d.books.copied ++ x))) s.uncommitted ∙ ap (λ x. d.books.waiting ++ (d.books.reading ++ x)) (append-nil d.books.copied)

    named : (f : Flight) → is_grouped (Some d.books) f ≡ true → place_of d.books.pairs (chunk_of d.books.chunk f) ≢ None
    named f grouped none = placed_behind goes.ending.0 (d.books.waiting ++ (d.books.reading ++ d.books.copied)) (chunk_of d.books.chunk f)
        (named_in (d.books.waiting ++ (d.books.reading ++ d.books.copied)) (chunk_of d.books.chunk f) (ap (λ x. has_chunk x (chunk_of d.books.chunk f)) (sym group_is) ∙ grouped))
        (ap (λ ps. place_of ps (chunk_of d.books.chunk f)) (sym goes.ending.1) ∙ none)

    goes_there : (f : Flight) → is_grouped (Some d.books) f ≡ true → new_route (Some d'.books) (is_clear v.snaps) f ≡ Held → ⊥
    goes_there f grouped held = placed_ne_held (place_of d.books.pairs (chunk_of d.books.chunk f)) (is_clear v.snaps f.request.range.first) (named f grouped)
        (ap (λ x. new_route (Some x) (is_clear v.snaps) f) (sym s.books) ∙ held)

-- a failed merge runs again
pub waits_resumed : (d d' : DueMerge) (v w : Books) → Waits v → Resumes d d' → ChangesMerge d.books d'.books v w → Waits w
waits_resumed d d' v w h s e = waits_same d.books d'.books v w h e (ap (λ (x : MergeBooks). x.chunk) s.books) (ap group_of s.books)

-- an origin write at its chunk's place is answered
pub waits_stored : (k : ℕ) (store : List ℕ) (d d' : DueMerge) (v w : Books) → Waits v → WritesStore store d d' → k < length v.requests → v.merge ≡ Some d.books → w.merge ≡ Some d'.books → w.requests ≡ remove v.requests k → w.snaps ≡ v.snaps → w.sectors ≡ v.sectors → w.loud ≡ v.loud → Waits w
waits_stored k store d d' v w h s within was merge requests snaps sectors loud =
    waits_same d.books d'.books (record v { requests = remove v.requests k }) w (waits_out k v (record v { requests = remove v.requests k }) h within refl refl refl)
    (record { was = was; merge = merge; snaps = snaps; requests = requests; sectors = sectors; loud = loud }) (ap (λ (x : MergeBooks). x.chunk) s.books) (ap group_of s.books)
