-- The origin's array over each event: what lasts of the merge, where one is begun, and what a stop before, within or after the event
-- leaves of the array.
use Rattle.std.proofs.Common.{◌≡◌, ◌≢◌, ◌⊎◌, inl, inr, ℕ, ◌+◌, ◌-◌, ◌*◌, ◌/◌, ◌%◌, ◌<◌, ◌≤◌, Bool, true, false, List, [], ◌∷◌, ◌++◌, Option, None, Some, length, get_or, replicate, refl, sym, ◌∙◌, ap, subst, arith}
use Rattle.std.specs.List.{All}
use Rattle.std.proofs.Math.ListN.{get_or-append}
use Rattle.std.proofs.Math.Nat.{mul-le-mul_left, mul-le-mul_right}
use Rattle.std.proofs.lemmas.Bool.{cases_Bool, cases_lt, false≢true}
use Rattle.std.proofs.lemmas.List.{length-append, get_or-append-add}
use Rattle.std.proofs.lemmas.Nat.{div-mul-add, div-add-mod', le-div}
use Rattle.sector.specs.Bytes.{sector_at, with_sectors, with_part}
use Rattle.sector.proofs.Sectors.{length-with_sectors, byte_outside}
use Rattle.sector.specs.declared.pair.Pair.{Pair}
use Rattle.device.specs.Layers.{Layer, is_loud}
use Rattle.cow_format.specs.Places.{area_place}
use Rattle.cow_format.specs.Picture.{place_of}
use Rattle.in_flight.specs.Copies.{count_of}
use Rattle.in_flight.specs.Kinds.{kind_at, kind_of}
use Rattle.in_flight.specs.declared.flights.Flight.{Flight}
use Rattle.in_flight.specs.declared.flights.Kind.TheVariants.{OriginWrite, SnapWrite}
use Rattle.in_flight.specs.declared.flights.Route.TheVariants.{Origin, Store, Refused}
use Rattle.plain_machine.specs.declared.request.Dev.{Dev}
use Rattle.plain_machine.specs.declared.request.Dev.TheVariants.{Origin as AtOrigin, Snap}
use Rattle.plain_machine.specs.declared.request.Op.TheVariants.{Write}
use Rattle.crash_laws.specs.Firm.{IsFirm}
use Rattle.crash_laws.specs.Clauses.{Given, Gives}
use Rattle.crash_laws.proofs.Sectors.{sectors_same}
use Rattle.cache_loss_laws.proofs.Clauses.{place_given}
use Rattle.cache_loss_laws.proofs.Places.{place_behind}
use Rattle.cache_loss_laws.proofs.Premises.{disk_given}
use Rattle.cache_loss_laws.proofs.Slots.{cleared_only, cleared_sectors, cleared_zero, cleared_others}
use Rattle.volume_laws.specs.Books.{Books}
use Rattle.volume_laws.specs.Held.{SnapHolds, RequestHolds}
use Rattle.volume_laws.specs.Merging.{MergeRouteHolds}
use Rattle.volume_laws.specs.MergeSteps.{CommitsGroup}
use Rattle.volume_laws.specs.Steps.{WritesDisk}
use Rattle.volume_laws.proofs.Pairs.{unnamed, place_of-none, place_of-front_kept}
use Rattle.store.specs.Slots.{slot_start}
use Rattle.store.proofs.Groups.{length-run}
use Rattle.merge.specs.declared.group.Group.{Group}
use Rattle.merge.specs.declared.group.Progress.{Progress}
use Rattle.merge.specs.declared.group.Progress.TheVariants.{Open, Full, Flushed, Committed}
use Rattle.merge.specs.Due.{can_commit_of, commit_at}
use Rattle.merge.specs.InStep.{IsInStep as IsMergingInStep}
use Rattle.merge.specs.Lists.{waiting_of, reading_of, copied_of, released_of, copied_count}
use Rattle.merge.specs.Merging.{Merging, flushed_of, books_of as merging_books, due_of as merging_due}
use Rattle.merge.specs.Steps.{WritesArea}
use Rattle.volume.specs.Volumed.{Volumed, books_of}
use Rattle.volume.specs.Whole.{IsWhole}
use Rattle.volume.specs.Stopping.{given_as}
use Rattle.volume.specs.MergeLasting.{MergeLasting, StopsOriginOn}
use Rattle.volume.proofs.LastOne.{IsSameDevice, IsCalled, same_device, called}
use Rattle.volume.proofs.MergeLasts.{IsKeptMerge, kept_merge, GoesMerge, disk_goes, flush_goes, still_goes, place_goes, commit_goes, plain_stops}

-- a sector that a write of the disk does not reach is as it was
sector_beside : (first count s : ℕ) (old new : List ℕ) → WritesDisk first count old new → (s < first) ⊎ (first + count ≤ s) → sector_at new s ≡ sector_at old s
sector_beside first count s old new w side = sectors_same new old s w.len (λ r small lt. w.rest (512 * s + r) (elim side [ inl lo ↦ inl (omega (arith, lo, small)) | inr hi ↦ inr (omega (arith, hi)) ]))

disk_written : (first count size : ℕ) (old new bytes : List ℕ) → new ≡ with_sectors old first bytes → length old ≡ 512 * size → first + count ≤ size → length bytes ≡ 512 * count → WritesDisk first count old new
disk_written first count size old new bytes is whole inside long = record {
  len = ap length is ∙ length-with_sectors old first bytes (omega (arith, long, inside, whole));
  rest = λ i side. ap (λ z. get_or z i 0) is ∙ byte_outside old first bytes i (omega (arith, long, inside, whole)) (elim side [ inl lo ↦ inl lo | inr hi ↦ inr (omega (arith, hi, long)) ]);
}

-- a sector of a chunk
in_chunk : (chunk n s : ℕ) → chunk * n ≤ s → s < chunk * n + chunk → s / chunk ≡ n
in_chunk chunk n s lo hi =
    let e : chunk * n ≡ n * chunk = grind arith in
    let at : s ≡ n * chunk + (s - chunk * n) = omega (arith, e, lo) in
    ap (λ x. x / chunk) at ∙ div-mul-add n chunk (s - chunk * n) (omega (arith, lo, hi))

all_left : {X : Type 0} (P : X → Type 0) (xs ys : List X) → All P (xs ++ ys) → All P xs
all_left P xs ys all = λ k d lt. subst P (get_or-append xs ys d k lt) (all k d (omega (arith, lt, length-append xs ys)))

all_right : {X : Type 0} (P : X → Type 0) (xs ys : List X) → All P (xs ++ ys) → All P ys
all_right P xs ys all = λ k d lt. subst P (get_or-append-add xs ys k d) (all (length xs + k) d (omega (arith, lt, length-append xs ys)))

-- what is said of all pairs of a merge is said of those of its group
of_group : (P : Pair → Type 0) (ps waiting reading copied : List Pair) → (kept : List Pair) × (ps ≡ kept ++ (waiting ++ (reading ++ copied))) → All P ps → All P reading × All P copied
of_group P ps waiting reading copied (kept, is) all =
    let group : All P (reading ++ copied) = all_right P waiting (reading ++ copied) (all_right P kept (waiting ++ (reading ++ copied)) (subst (All P) is all)) in
    (all_left P reading copied group, all_right P reading copied group)

-- a place by all pairs is one by the first, where none of the others is of that chunk
pub front_place : (xs ys : List Pair) (c n : ℕ) → place_of (xs ++ ys) c ≡ Some n → All (λ q. q.old ≢ c) ys → place_of xs c ≡ Some n
front_place xs ys c n at out = by (place_of xs c) refl
  where
    by : (o : Option ℕ) → place_of xs c ≡ o → place_of xs c ≡ Some n
    by (Some m) e = e ∙ sym (place_of-front_kept xs ys c m e) ∙ at
    by None e = absurd (let gone : None ≡ Some n = sym (place_of-none ys c out) ∙ sym (place_behind xs ys c e) ∙ at in cc)

-- the copied pairs of a group that may be committed
copied_long : (group : Option Group) → can_commit_of group ≡ true → (length (copied_of group) ≡ copied_count group) × (flushed_of group ≡ true)
copied_long None e = absurd (false≢true e)
copied_long (Some g) e = by g.progress e
  where
    by : (p : Progress) → commit_at p ≡ true → (length (copied_of (Some (record g { progress = p }))) ≡ g.copied) × (flushed_of (Some (record g { progress = p })) ≡ true)
    by Open e = absurd (false≢true e)
    by Full e = absurd (false≢true e)
    by Flushed e = (length-run g.first g.waiting g.copied, refl)
    by Committed e = absurd (false≢true e)

-- the area that pairs stand in lies inside the store
pub area_room : (chunk size n a : ℕ) → 0 < chunk → a * (32 * chunk) ≤ n → chunk * (area_place chunk (n / (32 * chunk)) + 1) ≤ size → chunk * (area_place chunk a + 1) ≤ size
area_room chunk size n a pos low fits =
    let its : a ≤ n / (32 * chunk) = le-div a n (32 * chunk) (omega arith) low in
    let rows : a * (32 * chunk + 1) ≤ n / (32 * chunk) * (32 * chunk + 1) = mul-le-mul_right (32 * chunk + 1) its in
    let up : chunk * (area_place chunk a + 1) ≤ chunk * (area_place chunk (n / (32 * chunk)) + 1) = mul-le-mul_left chunk (omega arith) in
    omega (arith, up, fits)

module _ {B : Type 0} (holds : B → ℕ → List ℕ → Type 0) (contents : B → List ℕ) (layers : B → List Layer) (size : B → ℕ) (whole : (d : B) → length (contents d) ≡ 512 * size d) (here : (d : B) (s : ℕ) → s < size d → holds d s (sector_at (contents d) s)) where
  -- What a stop leaves of the origin's array, and what lasts of its merge, after a call.
  pub record GoesBy (given : Option Given) (o o' : B) (m m' : Option (Merging B)) : Type 0 where
    pub stops : StopsOriginOn holds layers size given o o' m m'
    pub lasts : MergeLasting holds contents layers size o' m'

  pub of_merge : (given : Option Given) (o o' : B) (m m' : Merging B) → GoesMerge holds contents layers size whole here given o o' m m' → GoesBy given o o' (Some m) (Some m')
  of_merge given o o' m m' goes = record { stops = goes.stops; lasts = goes.lasts }

  module _ (v : Volumed B) (h : IsWhole contents layers size v) (l : MergeLasting holds contents layers size v.origin v.merge) where
    abbrev vb : Books
    vb = books_of contents layers size v

    kept_at : (m : Merging B) → v.merge ≡ Some m → IsKeptMerge contents layers size v.origin v.flights m
    kept_at m was = kept_merge contents layers size v m h was

    lasting_at : (m : Merging B) → v.merge ≡ Some m → MergeLasting holds contents layers size v.origin (Some m)
    lasting_at m was = subst (MergeLasting holds contents layers size v.origin) was l

    -- The origin's device is met, or nothing is, and the merge is as it was.
    pub origin_kept : (given : Option Given) (o' : B) → IsSameDevice holds contents layers size v.origin o' → GoesBy given v.origin o' v.merge v.merge
    origin_kept given o' disk = by v.merge refl
      where
        by : (x : Option (Merging B)) → v.merge ≡ x → GoesBy given v.origin o' v.merge v.merge
        by None e = subst (λ z. GoesBy given v.origin o' z z) (sym e)
            (record { stops = plain_stops holds contents layers size whole here given v.origin o' None (called holds contents layers size whole here v.origin o' disk) (λ lo s lt. inl (ap (λ z. sector_at z s) disk.bytes)); lasts = tt })
        by (Some m) e = subst (λ z. GoesBy given v.origin o' z z) (sym e)
            (of_merge given v.origin o' m m (still_goes holds contents layers size whole here v.origin v.flights m (kept_at m e) (lasting_at m e) given o' m refl disk (same_device holds contents layers size whole here m.device) refl (λ f. (f, refl))))

    pub origin_met : (given : Option Given) (w : Volumed B) → IsSameDevice holds contents layers size v.origin w.origin → w.merge ≡ v.merge → GoesBy given v.origin w.origin v.merge w.merge
    origin_met given w disk same = subst (λ z. GoesBy given v.origin w.origin v.merge z) (sym same) (origin_kept given w.origin disk)

    pub origin_same : (given : Option Given) → GoesBy given v.origin v.origin v.merge v.merge
    origin_same given = origin_kept given v.origin (same_device holds contents layers size whole here v.origin)

    -- a request in flight
    module _ (place : ℕ) (f : Flight) (within : place < length v.flights) (at : f ≡ get_or v.flights place f) (bytes : List ℕ) (op : f.request.op ≡ Write bytes) where
      fits : RequestHolds (size v.origin) f
      fits = subst (RequestHolds (size v.origin)) (sym at) (h.holds.requests place f within)

      long : length bytes ≡ 512 * f.request.range.count
      long = fits.bytes bytes op

      abbrev write_of : Dev → Given
      write_of dev = record { array = None; first = f.request.range.first; count = f.request.range.count; bytes = bytes }

      given_is : f.request.dev ≡ AtOrigin → given_as f.request.dev f.request.range f.request.op ≡ Some (write_of AtOrigin)
      given_is dev = ap (λ d. given_as d f.request.range f.request.op) dev ∙ ap (given_as AtOrigin f.request.range) op

      -- a write of a snapshot does not go to the origin disk
      pub disk_dev : f.route ≡ Origin → f.request.dev ≡ AtOrigin
      disk_dev route = by f.request.dev refl
        where
          off : (n : ℕ) → kind_of f.request ≡ SnapWrite n → f.request.dev ≡ AtOrigin
          off n kind =
              let waiting = h.waits.held place f within in
              let any = waiting.write_attached n (ap (λ (x : Flight). kind_of x.request) (sym at) ∙ kind) in
              let s = any.1 in
              let mine : kind_of f.request ≡ SnapWrite s.number = kind ∙ ap SnapWrite (sym any.4) in
              let its : SnapHolds vb.loud vb.origin vb.requests s = subst (SnapHolds vb.loud vb.origin vb.requests) any.3 (h.holds.snaps any.0 s any.2) in
              let kind_at' : kind_of (get_or v.flights place f).request ≡ SnapWrite s.number = ap (λ (x : Flight). kind_of x.request) (sym at) ∙ mine in
              let route_at : (get_or v.flights place f).route ≡ Origin = ap (λ (x : Flight). x.route) (sym at) ∙ route in
              elim (cases_Bool s.live) [
                | inl live ↦ absurd (((its.alive live).routes place f within).write kind_at' route_at)
                | inr dead ↦ absurd (let refused : Refused ≡ Origin = sym (((its.spoilt dead).routes place f within).write kind_at') ∙ route_at in cc)
              ]

          by : (dev : Dev) → f.request.dev ≡ dev → f.request.dev ≡ AtOrigin
          by AtOrigin e = e
          by (Snap n) e = off n (ap (λ d. kind_at d f.request.op) e ∙ ap (kind_at (Snap n)) op)

      origin_kind : f.request.dev ≡ AtOrigin → kind_of f.request ≡ OriginWrite
      origin_kind dev = ap (λ d. kind_at d f.request.op) dev ∙ ap (kind_at AtOrigin) op

      -- what the write gives
      module _ (o' : B) (written : is_loud (layers v.origin) ≡ true → contents o' ≡ with_sectors (contents v.origin) f.request.range.first bytes) where
        writes : is_loud (layers v.origin) ≡ true → WritesDisk f.request.range.first f.request.range.count (contents v.origin) (contents o')
        writes lo = disk_written f.request.range.first f.request.range.count (size v.origin) (contents v.origin) (contents o') bytes (written lo) (whole v.origin) fits.inside long

        cases : is_loud (layers v.origin) ≡ true → (s : ℕ) → s < size v.origin → (sector_at (contents o') s ≡ sector_at (contents v.origin) s) ⊎ Gives (Some (write_of AtOrigin)) None s (sector_at (contents o') s)
        cases lo s lt = elim (cases_lt s f.request.range.first) [
          | inl below ↦ inl (sector_beside f.request.range.first f.request.range.count s (contents v.origin) (contents o') (writes lo) (inl below))
          | inr from ↦ elim (cases_lt s (f.request.range.first + f.request.range.count)) [
            | inl reached ↦ inr (disk_given (contents v.origin) (contents o') bytes f.request.range.first f.request.range.count None s (sector_at (contents o') s) (written lo) (let i = fits.inside in omega (arith, i, long, whole v.origin)) long from reached refl)
            | inr past ↦ inl (sector_beside f.request.range.first f.request.range.count s (contents v.origin) (contents o') (writes lo) (inr past))
          ]
        ]

        -- It goes to the origin disk.
        pub disk_issued : f.route ≡ Origin → IsCalled holds contents layers size v.origin o' → GoesBy (given_as f.request.dev f.request.range f.request.op) v.origin o' v.merge v.merge
        disk_issued route disk = subst (λ g. GoesBy g v.origin o' v.merge v.merge) (sym (given_is (disk_dev route))) (by v.merge refl)
          where
            by : (x : Option (Merging B)) → v.merge ≡ x → GoesBy (Some (write_of AtOrigin)) v.origin o' v.merge v.merge
            by None e = subst (λ z. GoesBy (Some (write_of AtOrigin)) v.origin o' z z) (sym e) (record { stops = plain_stops holds contents layers size whole here (Some (write_of AtOrigin)) v.origin o' None disk cases; lasts = tt })
            by (Some m) e =
                let k = kept_at m e in
                let r : MergeRouteHolds m.number m.state.chunk m.pairs (m.pairs ++ released_of m.group) (reading_of m.group ++ (copied_of m.group ++ released_of m.group)) f =
                subst (MergeRouteHolds m.number m.state.chunk m.pairs (m.pairs ++ released_of m.group) (reading_of m.group ++ (copied_of m.group ++ released_of m.group))) (sym at) (k.holds.routes place f within) in
                let none : place_of (m.pairs ++ released_of m.group) (f.request.range.first / m.state.chunk) ≡ None = r.write (origin_kind (disk_dev route)) route in
                let out : All (λ q. q.old ≢ f.request.range.first / m.state.chunk) m.pairs =
                all_left (λ q. q.old ≢ f.request.range.first / m.state.chunk) m.pairs (released_of m.group) (unnamed (m.pairs ++ released_of m.group) (f.request.range.first / m.state.chunk) none) in
                let out_copied : All (λ q. q.old ≢ f.request.range.first / m.state.chunk) (copied_of m.group) =
                (of_group (λ q. q.old ≢ f.request.range.first / m.state.chunk) m.pairs (waiting_of m.group) (reading_of m.group) (copied_of m.group) k.holds.ending out).1 in
                let piece = r.piece.within in
                let low : m.state.chunk * (f.request.range.first / m.state.chunk) ≤ f.request.range.first = chunk_low m.state.chunk f.request.range.first in
                subst (λ z. GoesBy (Some (write_of AtOrigin)) v.origin o' z z) (sym e)
                (of_merge (Some (write_of AtOrigin)) v.origin o' m m
                (disk_goes holds contents layers size whole here v.origin v.flights m k (lasting_at m e) (Some (write_of AtOrigin)) o' m refl disk (same_device holds contents layers size whole here m.device) refl (λ lo lm s lt no. cases lo s lt)
                (λ lo lm was. (
                  was,
                  refl,
                  λ i d below s lt its. sector_beside f.request.range.first f.request.range.count s (contents v.origin) (contents o') (writes lo) (elim (cases_lt s f.request.range.first) [
                    | inl before ↦ inl before
                    | inr from ↦ elim (cases_lt s (f.request.range.first + f.request.range.count)) [
                      | inl reached ↦ absurd (out_copied i d below (sym its ∙ in_chunk m.state.chunk (f.request.range.first / m.state.chunk) s (omega (arith, low, from)) (omega (arith, piece, reached))))
                      | inr past ↦ inr past
                    ]
                  ]),
                ))))
              where
                chunk_low : (chunk first : ℕ) → chunk * (first / chunk) ≤ first
                chunk_low chunk first = (let parts = div-add-mod' first chunk in let e : first / chunk * chunk ≡ chunk * (first / chunk) = grind arith in omega (arith, parts, e))

      -- It goes to its chunk's place on the merging store.
      pub merging_issued : (n : ℕ) → f.route ≡ Store n → f.request.dev ≡ AtOrigin → (m m' : Merging B) → v.merge ≡ Some m → IsCalled holds contents layers size m.device m'.device → m' ≡ record m { device = m'.device }
          → (is_loud (layers m.device) ≡ true → contents m'.device ≡ with_sectors (contents m.device) (m.state.chunk * n + f.request.range.first % m.state.chunk) bytes) → GoesBy (given_as f.request.dev f.request.range f.request.op) v.origin v.origin v.merge (Some m')
      merging_issued n route dev m m' was store fields written =
          let k = kept_at m was in
          let r : MergeRouteHolds m.number m.state.chunk m.pairs (m.pairs ++ released_of m.group) (reading_of m.group ++ (copied_of m.group ++ released_of m.group)) f =
          subst (MergeRouteHolds m.number m.state.chunk m.pairs (m.pairs ++ released_of m.group) (reading_of m.group ++ (copied_of m.group ++ released_of m.group))) (sym at) (k.holds.routes place f within) in
          let all_at : place_of (m.pairs ++ released_of m.group) (f.request.range.first / m.state.chunk) ≡ Some n = r.write_stored n (origin_kind dev) route in
          let out : All (λ q. q.old ≢ f.request.range.first / m.state.chunk) (reading_of m.group ++ (copied_of m.group ++ released_of m.group)) = r.untaken n (origin_kind dev) route in
          let gone : All (λ q. q.old ≢ f.request.range.first / m.state.chunk) (released_of m.group) =
          all_right (λ q. q.old ≢ f.request.range.first / m.state.chunk) (copied_of m.group) (released_of m.group) (all_right (λ q. q.old ≢ f.request.range.first / m.state.chunk) (reading_of m.group) (copied_of m.group ++ released_of m.group) out) in
          let placed : place_of m.pairs (f.request.range.first / m.state.chunk) ≡ Some n = front_place m.pairs (released_of m.group) (f.request.range.first / m.state.chunk) n all_at gone in
          let parts : f.request.range.first / m.state.chunk * m.state.chunk + f.request.range.first % m.state.chunk ≡ f.request.range.first = div-add-mod' f.request.range.first m.state.chunk in
          let turned : f.request.range.first / m.state.chunk * m.state.chunk ≡ m.state.chunk * (f.request.range.first / m.state.chunk) = grind arith in
          let first_is : f.request.range.first ≡ m.state.chunk * (f.request.range.first / m.state.chunk) + f.request.range.first % m.state.chunk = omega (arith, parts, turned) in
          let piece = r.piece.within in
          subst (λ g. GoesBy g v.origin v.origin v.merge (Some m')) (sym (given_is dev))
          (subst (λ z. GoesBy (Some (write_of AtOrigin)) v.origin v.origin z (Some m')) (sym was)
          (of_merge (Some (write_of AtOrigin)) v.origin v.origin m m'
          (place_goes holds contents layers size whole here v.origin v.flights m k (lasting_at m was) (Some (write_of AtOrigin)) v.origin m' (ap (λ x. x.state.chunk) fields) (same_device holds contents layers size whole here v.origin) store (ap (λ x. x.pairs) fields)
          (ap (λ x. copied_of x.group) fields) (ap (λ x. flushed_of x.group) fields) (f.request.range.first / m.state.chunk) n (f.request.range.first % m.state.chunk) f.request.range.count bytes placed (omega (arith, piece, first_is)) long written
          (λ s w lt g. place_given m.state.chunk (f.request.range.first / m.state.chunk) (f.request.range.first % m.state.chunk) f.request.range.count f.request.range.first bytes None s w first_is g))))

    -- the merge's own events, and requests that its store answers
    module _ (m : Merging B) (was : v.merge ≡ Some m) where
      -- The merging store is met, and the group is as it was.
      pub merging_met : (given : Option Given) (m' : Merging B) → IsSameDevice holds contents layers size m.device m'.device → m' ≡ record m { device = m'.device } → GoesBy given v.origin v.origin v.merge (Some m')
      merging_met given m' store fields = subst (λ z. GoesBy given v.origin v.origin z (Some m')) (sym was)
          (of_merge given v.origin v.origin m m' (still_goes holds contents layers size whole here v.origin v.flights m (kept_at m was) (lasting_at m was) given v.origin m' (ap (λ x. x.state.chunk) fields) (same_device holds contents layers size whole here v.origin) store (ap (λ x. x.pairs) fields)
          (λ f. (ap (λ x. flushed_of x.group) (sym fields) ∙ f, ap (λ x. copied_of x.group) fields))))

      -- No byte is written, and nothing is said to be flushed: MergeGroup, MergeAreaRead, MergeRead, MergeRelease, and each fault.
      pub merge_still : (o' : B) (m' : Merging B) → IsSameDevice holds contents layers size v.origin o' → IsSameDevice holds contents layers size m.device m'.device → m'.state.chunk ≡ m.state.chunk → m'.pairs ≡ m.pairs → flushed_of m'.group ≡ false
          → GoesBy None v.origin o' v.merge (Some m')
      merge_still o' m' disk store chunk pairs unflushed = subst (λ z. GoesBy None v.origin o' z (Some m')) (sym was)
          (of_merge None v.origin o' m m' (still_goes holds contents layers size whole here v.origin v.flights m (kept_at m was) (lasting_at m was) None o' m' chunk disk store pairs (λ f. absurd (false≢true (sym unflushed ∙ f)))))

      -- MergeWrite: a chunk that the store still has is copied back.
      pub merge_written : (q : Pair) (o' : B) (m' : Merging B) → reading_of m.group ≡ q ∷ [] → IsCalled holds contents layers size v.origin o' → (is_loud (layers v.origin) ≡ true → WritesDisk (m.state.chunk * q.old) (count_of m.state.chunk m.state.origin q.old) (contents v.origin) (contents o'))
          → count_of m.state.chunk m.state.origin q.old ≤ m.state.chunk → m'.device ≡ m.device → m'.state.chunk ≡ m.state.chunk → m'.pairs ≡ m.pairs → flushed_of m'.group ≡ false → GoesBy None v.origin o' v.merge (Some m')
      merge_written q o' m' reading disk back few device chunk pairs unflushed = subst (λ z. GoesBy None v.origin o' z (Some m')) (sym was)
          (of_merge None v.origin o' m m'
          (disk_goes holds contents layers size whole here v.origin v.flights m (kept_at m was) (lasting_at m was) None o' m' chunk disk (subst (IsSameDevice holds contents layers size m.device) (sym device) (same_device holds contents layers size whole here m.device)) pairs gives
          (λ lo lm f. absurd (false≢true (sym unflushed ∙ f)))))
        where
          gives : is_loud (layers v.origin) ≡ true → is_loud (layers m.device) ≡ true → (s : ℕ) → s < size v.origin → place_of m.pairs (s / m.state.chunk) ≡ None → (sector_at (contents o') s ≡ sector_at (contents v.origin) s) ⊎ Gives None None s (sector_at (contents o') s)
          gives lo lm s lt none =
              let other : All (λ p. p.old ≢ s / m.state.chunk) (reading_of m.group) =
              (of_group (λ p. p.old ≢ s / m.state.chunk) m.pairs (waiting_of m.group) (reading_of m.group) (copied_of m.group) (kept_at m was).holds.ending (unnamed m.pairs (s / m.state.chunk) none)).0 in
              let it : All (λ p. p.old ≢ s / m.state.chunk) (q ∷ []) = subst (All (λ p. p.old ≢ s / m.state.chunk)) reading other in
              inl (sector_beside (m.state.chunk * q.old) (count_of m.state.chunk m.state.origin q.old) s (contents v.origin) (contents o') (back lo) (elim (cases_lt s (m.state.chunk * q.old)) [
                | inl below ↦ inl below
                | inr from ↦ elim (cases_lt s (m.state.chunk * q.old + count_of m.state.chunk m.state.origin q.old)) [
                  | inl reached ↦ absurd (it 0 q (omega arith) (sym (in_chunk m.state.chunk q.old s from (omega (arith, few, reached)))))
                  | inr past ↦ inr past
                ]
              ]))

      -- MergeFlush: the origin's device is flushed.
      pub merge_flushed : (o' : B) (m' : Merging B) → IsSameDevice holds contents layers size v.origin o' → (is_loud (layers v.origin) ≡ true → IsFirm (holds o') (contents o') (size o')) → m'.device ≡ m.device → m'.state.chunk ≡ m.state.chunk → m'.pairs ≡ m.pairs
          → copied_of m'.group ≡ copied_of m.group → flushed_of m'.group ≡ true → GoesBy None v.origin o' v.merge (Some m')
      merge_flushed o' m' disk firm device chunk pairs copied flushed = subst (λ z. GoesBy None v.origin o' z (Some m')) (sym was)
          (of_merge None v.origin o' m m'
          (flush_goes holds contents layers size whole here v.origin v.flights m (kept_at m was) (lasting_at m was) None o' m' chunk (called holds contents layers size whole here v.origin o' disk)
          (subst (IsSameDevice holds contents layers size m.device) (sym device) (same_device holds contents layers size whole here m.device)) pairs disk.bytes firm copied flushed))

      -- MergeCommit: the area is written without the group's slots.
      pub merge_committed : (m' : Merging B) → IsCalled holds contents layers size m.device m'.device → can_commit_of m.group ≡ true → IsMergingInStep contents layers size m
          → ((loud : Bool) → (loud ≡ true → is_loud (layers m.device) ≡ true) → CommitsGroup m'.pairs (contents m'.device) (merging_due contents loud m) (merging_due contents loud m') × WritesArea m.state.current (merging_books contents loud m) (merging_books contents loud m'))
          → (is_loud (layers m.device) ≡ true → contents m'.device ≡ with_part (contents m.device) (slot_start m.state.chunk m.state.current (m.state.filled - copied_count m.group)) (replicate (16 * copied_count m.group) 0))
          → GoesBy None v.origin v.origin v.merge (Some m')
      merge_committed m' store can step commits written = subst (λ z. GoesBy None v.origin v.origin z (Some m')) (sym was)
          (of_merge None v.origin v.origin m m'
          (commit_goes holds contents layers size whole here v.origin v.flights m k (lasting_at m was) None v.origin m' (ap (λ x. x.chunk) told.books) (same_device holds contents layers size whole here v.origin) store m'.pairs m.state.current told.ends (copied_long m.group can).1 refl (ap (λ x. x.copied) told.books)
          (λ lm. cleared_only m.state.chunk (size m.device) m.state.current (m.state.filled - copied_count m.group) (copied_count m.group) (contents m.device) (contents m'.device) m'.pairs (copied_of m.group) pos some fit (whole m.device) room at_kept many (written lm))
          (λ lo lm. (commits true (λ _. lm)).1.stored refl)
          (λ lm. cleared_zero m.state.chunk (size m.device) m.state.current (m.state.filled - copied_count m.group) (copied_count m.group) (contents m.device) (contents m'.device) m'.pairs (copied_of m.group) pos some fit (whole m.device) room at_kept many (written lm))
          (λ lm. cleared_others m.state.chunk (size m.device) m.state.current (m.state.filled - copied_count m.group) (copied_count m.group) (contents m.device) (contents m'.device) m'.pairs (copied_of m.group) pos some fit (whole m.device) room at_kept many (written lm))
          (λ lm. cleared_sectors m.state.chunk (size m.device) m.state.current (m.state.filled - copied_count m.group) (copied_count m.group) (contents m.device) (contents m'.device) m'.pairs (copied_of m.group) pos some fit (whole m.device) room at_kept many (written lm))))
        where
          k : IsKeptMerge contents layers size v.origin v.flights m
          k = kept_at m was

          told : CommitsGroup m'.pairs (contents m'.device) (merging_due contents false m) (merging_due contents false m')
          told = (commits false (λ e. absurd (false≢true e))).0

          pos : 0 < m.state.chunk
          pos = k.holds.text.some

          many : length (copied_of m.group) ≡ copied_count m.group
          many = (copied_long m.group can).0

          some : 0 < copied_count m.group
          some = by (copied_of m.group) refl
            where
              by : (xs : List Pair) → copied_of m.group ≡ xs → 0 < copied_count m.group
              by [] e = absurd (told.some e)
              by (x ∷ xs) e = omega (arith, ap length e, many)

          fill : copied_count m.group ≤ m.state.filled
          fill = let t = told.filled in omega (arith, t, many)

          fit : m.state.filled - copied_count m.group + copied_count m.group ≤ 32 * m.state.chunk
          fit = let f = step.fits in omega (arith, f, fill)

          room : m.state.chunk * (area_place m.state.chunk m.state.current + 1) ≤ size m.device
          room = subst (λ n. m.state.chunk * (area_place m.state.chunk m.state.current + 1) ≤ n) step.sized (area_room m.state.chunk m.state.size (length m.pairs) m.state.current pos (let c = step.count in omega (arith, c)) step.formed.room)

          at_kept : length m'.pairs ≡ m.state.current * (32 * m.state.chunk) + (m.state.filled - copied_count m.group)
          at_kept = let c = step.count in omega (arith, c, ap length told.ends, length-append m'.pairs (copied_of m.group), many, fill)
