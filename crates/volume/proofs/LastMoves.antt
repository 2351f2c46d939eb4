-- What each call of a volume does to its snapshots: what lasts of them afterwards, and what a stop leaves of their stores.
use Rattle.std.proofs.Common.{◌≡◌, ◌≢◌, ◌⊎◌, inl, inr, ℕ, ◌+◌, ◌-◌, ◌*◌, ◌/◌, ◌%◌, ◌<◌, ◌≤◌, Bool, true, false, List, ◌++◌, Option, None, Some, length, take, drop, get_or, set, map, replicate, refl, sym, ◌∙◌, ap, subst, arith}
use Rattle.std.specs.Prelude.{Any, not}
use Rattle.std.specs.List.{All}
use Rattle.std.proofs.lemmas.Bool.{cases_Bool, cases_lt, true≢false, false≢true}
use Rattle.std.proofs.lemmas.Nat.{div-add-mod'}
use Rattle.sector.specs.Bytes.{sector_at, with_part, with_sectors}
use Rattle.sector.specs.declared.pair.Pair.{Pair}
use Rattle.sector.proofs.Sectors.{sectors_apart}
use Rattle.device.specs.Layers.{Layer, is_loud}
use Rattle.cow_format.specs.Picture.{place_of}
use Rattle.cow_format.specs.Places.{area_place, ChangesOnly}
use Rattle.in_flight.specs.Kinds.{kind_of}
use Rattle.in_flight.specs.Flushed.{flushed_copy, safe_mark}
use Rattle.in_flight.specs.declared.copies.ChunkCopy.{ChunkCopy}
use Rattle.in_flight.specs.declared.copies.Mark.{Mark}
use Rattle.in_flight.specs.declared.copies.Stage.TheVariants.{Flushed}
use Rattle.in_flight.specs.declared.flights.Flight.{Flight}
use Rattle.in_flight.specs.declared.flights.Kind.TheVariants.{OriginWrite, SnapWrite}
use Rattle.in_flight.specs.declared.flights.Route.TheVariants.{Origin, Store}
use Rattle.crash_laws.specs.Clauses.{Given}
use Rattle.crash_laws.specs.Firm.{IsFirm}
use Rattle.cache_loss_laws.proofs.Premises.{published_sure}
use Rattle.volume_laws.specs.Held.{RouteHolds, UntriedHolds, IsLinked}
use Rattle.volume_laws.specs.Published.{IsPublished, IsSavedOver}
use Rattle.volume_laws.specs.Steps.{WritesDisk, ZeroesArea, Commits, mark_of}
use Rattle.volume_laws.proofs.Bytes.{sector_in}
use Rattle.store.specs.Slots.{pairs_bytes, slot_start}
use Rattle.store.specs.Stored.{after_commit}
use Rattle.snapshot.specs.Kept.{Kept, books_of as snap_books, spare_after}
use Rattle.snapshot.specs.Calls.{WritesAt}
use Rattle.snapshot.specs.InStep.{IsInStep}
use Rattle.snapshot_list.specs.Starting.{spoilt_of}
use Rattle.volume.specs.SnapLasting.{IsReady, SnapLasting}
use Rattle.volume.specs.Volumed.{Volumed}
use Rattle.volume.specs.Whole.{IsWhole, IsCounted}
use Rattle.volume.proofs.Changing.{changed}
use Rattle.volume.proofs.LastOne.{IsKeptSnap, IsSameDevice, IsCalled, IsLeft, Stays, Spoils, Goes, same_device, left_goes}
use Rattle.volume.proofs.LastEvents.{ready_set, copy_write_goes, zero_next_goes, commit_goes, flush_goes, own_write_goes, mark_goes, tries_goes, flushed_refuses, disk_goes}
use Rattle.volume.proofs.LastAll.{GoesAll, kept_at, lasting_at, all_go, one_goes}
use Rattle.volume.proofs.Lefts.{LeftBy, AllLeft, left_spoilt, all_same}

-- a sector whose chunk is not one of those that are written is as it was
pub disk_beside : (chunk first count : ℕ) (old new : List ℕ) (ps : List Pair) → WritesDisk first count old new → ((j : ℕ) → j < count → place_of ps ((first + j) / chunk) ≢ None) → (x : ℕ) → place_of ps (x / chunk) ≡ None → sector_at new x ≡ sector_at old x
disk_beside chunk first count old new ps w placed x none = elim (cases_lt x first) [
  | inl below ↦ sectors_apart new old first count x 1 w.len (λ i side. w.rest i side) (inl (omega (arith, below)))
  | inr from ↦ elim (cases_lt x (first + count)) [
    | inl inside ↦ (let at : first + (x - first) ≡ x = omega (arith, from) in absurd (placed (x - first) (omega (arith, inside, from)) (ap (λ n. place_of ps (n / chunk)) at ∙ none)))
    | inr past ↦ sectors_apart new old first count x 1 w.len (λ i side. w.rest i side) (inr past)
  ]
]

-- A published chunk's pair is surely in the list: each that was not flushed bears a mark.
pub sure_place : (pairs : List Pair) (marks : List Mark) (sure c n : ℕ) → All (IsLinked marks) (drop sure pairs) → IsPublished pairs marks c → place_of pairs c ≡ Some n → place_of (take sure pairs) c ≡ Some n
sure_place pairs marks sure c n link free at = published_sure (λ x. Any (λ m. (m.chunk ≡ x) × (m.safe ≡ false)) marks) sure pairs c n link (λ late. (let (i, m, lt, is, mine) = late in free.unmarked i m lt (ap (λ (z : Mark). z.chunk) is ∙ mine.0))) at

pub sure_some : (pairs : List Pair) (marks : List Mark) (sure c : ℕ) → All (IsLinked marks) (drop sure pairs) → IsPublished pairs marks c → place_of (take sure pairs) c ≢ None
sure_some pairs marks sure c link free none = by (place_of pairs c) refl where
  by : (x : Option ℕ) → place_of pairs c ≡ x → ⊥
  by None e = free.placed e
  by (Some n) e = (let there : Some n ≡ None = sym (sure_place pairs marks sure c n link free e) ∙ none in cc)

module _ {B : Type 0} (holds : B → ℕ → List ℕ → Type 0) (contents : B → List ℕ) (layers : B → List Layer) (size : B → ℕ) (whole : (d : B) → length (contents d) ≡ 512 * size d) (here : (d : B) (s : ℕ) → s < size d → holds d s (sector_at (contents d) s))
    (v : Volumed B) (h : IsWhole contents layers size v) (l : All (SnapLasting holds contents layers size v.origin) v.snaps) where
  -- the device of one that is left is the same
  left_device : (s t : Kept B) → LeftBy s t → IsSameDevice holds contents layers size s.device t.device
  left_device s t e = subst (IsSameDevice holds contents layers size s.device) (sym e.0) (same_device holds contents layers size whole here s.device)

  -- No snapshot is written, and no byte of the origin disk.
  pub all_left_by : (given : Option Given) (w : Volumed B) → IsSameDevice holds contents layers size v.origin w.origin → AllLeft v.snaps w.snaps → GoesAll holds contents layers size whole here given v w
  all_left_by given w disk left = all_go holds contents layers size whole here v h l given w left.0 (λ k s t within is are. (let e : LeftBy s t = subst (LeftBy s) (sym are) (subst (λ z. LeftBy z (get_or w.snaps k t)) (sym is) (left.1 k s t within)) in
      left_goes holds contents layers size whole here v.origin v.flights s (kept_at holds contents layers size whole here v h l k s within is) (lasting_at holds contents layers size whole here v h l k s within is) given w.origin t disk (left_device s t e) e.1 e.2))

  -- No snapshot is written, and the origin disk only in chunks that each surely has, as long as it may be loaded again.
  pub all_disk : (given : Option Given) (w : Volumed B) → IsCalled holds contents layers size v.origin w.origin → AllLeft v.snaps w.snaps
      → ((k : ℕ) (s : Kept B) → k < length v.snaps → s ≡ get_or v.snaps k s → (s.live ≡ true) ⊎ (s.untried ≡ true) → (x : ℕ) → x < size v.origin → place_of (take s.state.sure s.pairs) (x / s.state.chunk) ≡ None → sector_at (contents w.origin) x ≡ sector_at (contents v.origin) x)
      → GoesAll holds contents layers size whole here given v w
  all_disk given w disk left beside = all_go holds contents layers size whole here v h l given w left.0 (λ k s t within is are. (let e : LeftBy s t = subst (LeftBy s) (sym are) (subst (λ z. LeftBy z (get_or w.snaps k t)) (sym is) (left.1 k s t within)) in
      disk_goes holds contents layers size whole here v.origin v.flights s (kept_at holds contents layers size whole here v h l k s within is) (lasting_at holds contents layers size whole here v h l k s within is) given w.origin t disk (left_device s t e) e.1 e.2 (beside k s within is)))

  -- a request of the origin that goes to its disk writes such chunks alone
  pub request_beside : (place : ℕ) (r : Flight) (new : List ℕ) → place < length v.flights → r ≡ get_or v.flights place r → kind_of r.request ≡ OriginWrite → r.route ≡ Origin → WritesDisk r.request.range.first r.request.range.count (contents v.origin) new
      → (k : ℕ) (s : Kept B) → k < length v.snaps → s ≡ get_or v.snaps k s → (s.live ≡ true) ⊎ (s.untried ≡ true) → (x : ℕ) → x < size v.origin → place_of (take s.state.sure s.pairs) (x / s.state.chunk) ≡ None → sector_at new x ≡ sector_at (contents v.origin) x
  request_beside place r new lt at kind route written k s within is side x below none =
      let kept = kept_at holds contents layers size whole here v h l k s within is in
      let first : ℕ = r.request.range.first in
      let count : ℕ = r.request.range.count in
      disk_beside s.state.chunk first count (contents v.origin) new (take s.state.sure s.pairs) written
      (λ j few. elim (cases_Bool s.live) [
        | inl live ↦ (let a = kept.holds.alive live in
            let goes : RouteHolds s.number s.state.chunk s.pairs s.marks r = subst (RouteHolds s.number s.state.chunk s.pairs s.marks) (sym at) (a.routes place r lt) in
            let its : (first + j) / s.state.chunk ≡ first / s.state.chunk = sector_in s.state.chunk first j kept.some (let inside = goes.piece.within in omega (arith, inside, few)) in
            λ e. sure_some s.pairs s.marks s.state.sure (first / s.state.chunk) a.link (goes.origin_write kind route) (ap (place_of (take s.state.sure s.pairs)) (sym its) ∙ e))
        | inr dead ↦ (let waits : s.untried ≡ true = elim side [ inl live ↦ absurd (false≢true (sym dead ∙ live)) | inr untried ↦ untried ] in
            let goes : UntriedHolds s.state.chunk (take s.state.sure s.pairs) r = subst (UntriedHolds s.state.chunk (take s.state.sure s.pairs)) (sym at) ((kept.holds.spoilt dead).waited waits place r lt) in
            let its : (first + j) / s.state.chunk ≡ first / s.state.chunk = sector_in s.state.chunk first j kept.some (let inside = (goes.piece kind route).within in omega (arith, inside, few)) in
            λ e. goes.placed kind route (ap (place_of (take s.state.sure s.pairs)) (sym its) ∙ e))
      ]) x none

  -- and so does a merge's write of a chunk that each live one has published, while no mark is untried
  pub merged_beside : (first count : ℕ) (new : List ℕ) → WritesDisk first count (contents v.origin) new → ((k : ℕ) (s : Kept B) → k < length v.snaps → s ≡ get_or v.snaps k s → IsSavedOver first count (snap_books contents layers s) × (s.untried ≡ false))
      → (k : ℕ) (s : Kept B) → k < length v.snaps → s ≡ get_or v.snaps k s → (s.live ≡ true) ⊎ (s.untried ≡ true) → (x : ℕ) → x < size v.origin → place_of (take s.state.sure s.pairs) (x / s.state.chunk) ≡ None → sector_at new x ≡ sector_at (contents v.origin) x
  merged_beside first count new written saved k s within is side x below none =
      let kept = kept_at holds contents layers size whole here v h l k s within is in
      let (over, tried) = saved k s within is in
      let live : s.live ≡ true = elim side [ inl live ↦ live | inr waits ↦ absurd (false≢true (sym tried ∙ waits)) ] in
      disk_beside s.state.chunk first count (contents v.origin) new (take s.state.sure s.pairs) written (λ j few. sure_some s.pairs s.marks s.state.sure ((first + j) / s.state.chunk) (kept.holds.alive live).link (over j few live)) x none

  -- One snapshot changes, and the others are as they were.
  module _ (given : Option Given) (k : ℕ) (s s' : Kept B) (flights : List Flight) (within : k < length v.snaps) (is : s ≡ get_or v.snaps k s) where
    kept : IsKeptSnap contents layers size v.origin v.flights s
    kept = kept_at holds contents layers size whole here v h l k s within is

    lasts : SnapLasting holds contents layers size v.origin s
    lasts = lasting_at holds contents layers size whole here v h l k s within is

    one : (o' : B) → IsSameDevice holds contents layers size v.origin o' → Goes holds contents layers size whole here given v.origin o' s s' → GoesAll holds contents layers size whole here given v (changed v o' k s' flights)
    one o' disk goes = one_goes holds contents layers size whole here v h l given k s s' o' flights within is disk goes

    own : Goes holds contents layers size whole here given v.origin v.origin s s' → GoesAll holds contents layers size whole here given v (changed v v.origin k s' flights)
    own goes = one v.origin (same_device holds contents layers size whole here v.origin) goes

    -- it is not written: it is as it was, or is spoiled, or loses copies; its store or the origin's device is met
    pub left_moves : (o' : B) → IsSameDevice holds contents layers size v.origin o' → IsSameDevice holds contents layers size s.device s'.device → IsLeft s s' → Stays s s' ⊎ Spoils s s' → GoesAll holds contents layers size whole here given v (changed v o' k s' flights)
    left_moves o' disk store i turn = one o' disk (left_goes holds contents layers size whole here v.origin v.flights s kept lasts given o' s' disk store i turn)

    -- it is spoiled, after a read into one of its copies that failed, or an operation of its store
    pub spoils_moves : (u : Kept B) (o' : B) → IsSameDevice holds contents layers size v.origin o' → IsSameDevice holds contents layers size s.device u.device → IsLeft s u → s.live ≡ true → u.live ≡ true → s' ≡ spoilt_of u → GoesAll holds contents layers size whole here given v (changed v o' k s' flights)
    spoils_moves u o' disk store i live lives f =
        let e = left_spoilt u s' lives f in
        let j = e.1 in
        left_moves o' disk (subst (IsSameDevice holds contents layers size s.device) (sym e.0) store) (record { chunk = j.chunk ∙ i.chunk; current = j.current ∙ i.current; zeroed = j.zeroed ∙ i.zeroed; firm = j.firm ∙ i.firm; sure = j.sure ∙ i.sure; marked = j.marked ∙ i.marked; pairs = j.pairs ∙ i.pairs })
        (elim e.2 [ inl st ↦ absurd (false≢true (ap (λ (x : Kept B). x.live) (sym f) ∙ st.0 ∙ lives)) | inr sp ↦ inr (live, sp.1, sp.2, sp.3) ])

    pub spoils_device : (u : Kept B) → u ≡ record s { device = u.device } → IsSameDevice holds contents layers size s.device u.device → s.live ≡ true → s' ≡ spoilt_of u → GoesAll holds contents layers size whole here given v (changed v v.origin k s' flights)
    spoils_device u f store live e = spoils_moves u v.origin (same_device holds contents layers size whole here v.origin) store
        (subst (IsLeft s) (sym f) (record { chunk = refl; current = refl; zeroed = refl; firm = refl; sure = refl; marked = refl; pairs = refl })) live (ap (λ (x : Kept B). x.live) f ∙ live) e

    pub spoils_copies : (u : Kept B) (cs : List ChunkCopy) (o' : B) → IsSameDevice holds contents layers size v.origin o' → u ≡ record s { copies = cs } → s.live ≡ true → s' ≡ spoilt_of u → GoesAll holds contents layers size whole here given v (changed v o' k s' flights)
    spoils_copies u cs o' disk f live e = spoils_moves u o' disk (subst (λ (x : Kept B). IsSameDevice holds contents layers size s.device x.device) (sym f) (same_device holds contents layers size whole here s.device))
        (subst (IsLeft s) (sym f) (record { chunk = refl; current = refl; zeroed = refl; firm = refl; sure = refl; marked = refl; pairs = refl })) live (ap (λ (x : Kept B). x.live) f ∙ live) e

    -- its store is met, and nothing else of it changes
    pub device_moves : s' ≡ record s { device = s'.device } → IsSameDevice holds contents layers size s.device s'.device → GoesAll holds contents layers size whole here given v (changed v v.origin k s' flights)
    device_moves f store = left_moves v.origin (same_device holds contents layers size whole here v.origin) store (subst (IsLeft s) (sym f) (record { chunk = refl; current = refl; zeroed = refl; firm = refl; sure = refl; marked = refl; pairs = refl }))
        (inl (ap (λ (x : Kept B). x.live) f, ap (λ (x : Kept B). x.untried) f, ap (λ (x : Kept B). x.stale) f, λ q r. subst (λ cs. IsReady cs q) (ap (λ (x : Kept B). x.copies) f) r))

    -- a copy is read from the origin disk
    pub read_moves : (o' : B) (j : ℕ) (p q : ChunkCopy) → IsSameDevice holds contents layers size v.origin o' → q.stage ≢ Flushed → s' ≡ record s { copies = set s.copies j q } → GoesAll holds contents layers size whole here given v (changed v o' k s' flights)
    read_moves o' j p q disk late f = left_moves o' disk (subst (λ (x : Kept B). IsSameDevice holds contents layers size s.device x.device) (sym f) (same_device holds contents layers size whole here s.device))
        (subst (IsLeft s) (sym f) (record { chunk = refl; current = refl; zeroed = refl; firm = refl; sure = refl; marked = refl; pairs = refl }))
        (inl (ap (λ (x : Kept B). x.live) f, ap (λ (x : Kept B). x.untried) f, ap (λ (x : Kept B). x.stale) f, λ x r. ready_set s.copies j q x late (subst (λ cs. IsReady cs x) (ap (λ (y : Kept B). y.copies) f) r)))

    pub write_moves : (j : ℕ) (p q : ChunkCopy) → s.live ≡ true → j < length s.copies → WritesAt contents layers j p q s s' → IsCalled holds contents layers size s.device s'.device → GoesAll holds contents layers size whole here given v (changed v v.origin k s' flights)
    write_moves j p q live below e store = own (copy_write_goes holds contents layers size whole here v.origin v.flights s kept lasts given s' live (ap (λ (x : Kept B). x.live) e.fields ∙ live) j p q below e store)

    pub zero_moves : s.live ≡ true → s' ≡ record s { device = s'.device; state = record s.state { zeroed = true; firm = false } } → ZeroesArea (s.state.current + 1) (snap_books contents layers s) (snap_books contents layers s')
        → (is_loud (layers s.device) ≡ true → contents s'.device ≡ with_sectors (contents s.device) (s.state.chunk * area_place s.state.chunk (s.state.current + 1)) (replicate (512 * s.state.chunk) 0)) → s.state.firm ≡ false
        → s.state.chunk * (area_place s.state.chunk (s.state.current + 1) + 1) ≤ s.state.size → IsCalled holds contents layers size s.device s'.device → GoesAll holds contents layers size whole here given v (changed v v.origin k s' flights)
    zero_moves live f e written loose fits store = own (zero_next_goes holds contents layers size whole here v.origin v.flights s kept lasts given s' live (ap (λ (x : Kept B). x.live) f ∙ live) f e written loose fits store)

    counts : IsCounted s
    counts = subst IsCounted (sym is) (h.counted k s within)

    pub commit_moves : (count : ℕ) → s.live ≡ true → count ≤ length s.copies → All (λ (p : ChunkCopy). p.stage ≡ Flushed) (take count s.copies) → (1 < count → s.state.filled + count ≤ 32 * s.state.chunk) → (s.state.filled + count ≡ 32 * s.state.chunk → s.state.firm ≡ true)
        → s' ≡ record s { device = s'.device; state = after_commit s.state count; pairs = s.pairs ++ take count s.begun; begun = drop count s.begun; copies = drop count s.copies; marks = s.marks ++ map mark_of (take count s.copies); spare = spare_after count s }
        → Commits count s.state.current (snap_books contents layers s) (snap_books contents layers s') → (is_loud (layers s.device) ≡ true → contents s'.device ≡ with_part (contents s.device) (slot_start s.state.chunk s.state.current s.state.filled) (pairs_bytes (take count s.begun))) → IsInStep contents layers size s'
        → IsCalled holds contents layers size s.device s'.device → GoesAll holds contents layers size whole here given v (changed v v.origin k s' flights)
    commit_moves count live few ready fits next f e written step store =
        own (commit_goes holds contents layers size whole here v.origin v.flights s kept lasts given s' live (ap (λ (x : Kept B). x.live) f ∙ live) count few ready counts.count (counts.fits live) (elim (cases_lt 1 count) [ inl more ↦ fits more | inr le ↦ (let part = counts.fits live in omega (arith, part, le)) ]) next f e written step store)

    pub flush_moves : s.live ≡ true → s' ≡ record s { device = s'.device; state = record s.state { firm = s.state.zeroed; sure = length s.pairs }; copies = map flushed_copy s.copies; marks = map safe_mark s.marks } → IsSameDevice holds contents layers size s.device s'.device
        → (is_loud (layers s.device) ≡ true → IsFirm (holds s'.device) (contents s'.device) (size s'.device)) → GoesAll holds contents layers size whole here given v (changed v v.origin k s' flights)
    flush_moves live f store firm = own (flush_goes holds contents layers size whole here v.origin v.flights s kept lasts given s' live (ap (λ (x : Kept B). x.live) f ∙ live) f counts.count (counts.fits live) store firm)

    -- one whose mark is untried is spoiled
    dead_of : s.untried ≡ true → s.live ≡ false
    dead_of waits = elim (cases_Bool s.live) [ inl live ↦ absurd (false≢true (sym (kept.holds.alive live).tried ∙ waits)) | inr dead ↦ dead ]

    pub mark_moves : s.untried ≡ true → s' ≡ record s { device = s'.device; marked = true; state = record s.state { valid = false } } → ChangesOnly s.state.chunk 0 (contents s.device) (contents s'.device) → IsInStep contents layers size s' → IsCalled holds contents layers size s.device s'.device
        → GoesAll holds contents layers size whole here given v (changed v v.origin k s' flights)
    mark_moves waits f only step store = own (mark_goes holds contents layers size whole here v.origin v.flights s kept lasts given s' waits (dead_of waits) f only step store)

    -- the mark was not written, and the store is stale
    pub fails_moves : s.untried ≡ true → s' ≡ record s { device = s'.device; untried = false; stale = true } → IsSameDevice holds contents layers size s.device s'.device → GoesAll holds contents layers size whole here given v (changed v v.origin k s' flights)
    fails_moves waits f store = own (tries_goes holds contents layers size whole here v.origin v.flights s kept lasts given s' waits (dead_of waits) (ap (λ (x : Kept B). x.live) f ∙ dead_of waits) (ap (λ (x : Kept B). x.untried) f)
        (subst (IsLeft s) (sym f) (record { chunk = refl; current = refl; zeroed = refl; firm = refl; sure = refl; marked = refl; pairs = refl })) (λ q r. subst (λ cs. IsReady cs q) (ap (λ (x : Kept B). x.copies) f) r) store
        (λ ls fresh. absurd (false≢true (sym fresh ∙ ap (λ (x : Kept B). x.stale) f))))

    -- it was flushed, or its flush failed
    pub tries_moves : (ok : Bool) → s.untried ≡ true → s.live ≡ false → s.marked ≡ true → s' ≡ record s { device = s'.device; untried = false; stale = not ok } → IsInStep contents layers size s' → IsSameDevice holds contents layers size s.device s'.device
        → (ok ≡ true → is_loud (layers s.device) ≡ true → IsFirm (holds s'.device) (contents s'.device) (size s'.device)) → GoesAll holds contents layers size whole here given v (changed v v.origin k s' flights)
    tries_moves ok waits dead marked f step store firm = own (tries_goes holds contents layers size whole here v.origin v.flights s kept lasts given s' waits dead (ap (λ (x : Kept B). x.live) f ∙ dead) (ap (λ (x : Kept B). x.untried) f)
        (subst (IsLeft s) (sym f) (record { chunk = refl; current = refl; zeroed = refl; firm = refl; sure = refl; marked = refl; pairs = refl })) (λ q r. subst (λ cs. IsReady cs q) (ap (λ (x : Kept B). x.copies) f) r) store
        (λ ls fresh. flushed_refuses holds contents layers size whole here v.origin v.flights s kept lasts s' marked (ap (λ (x : Kept B). x.marked) f) step store (firm (ok_of ok (ap (λ (x : Kept B). x.stale) (sym f) ∙ fresh)) ls) ls))
      where
        ok_of : (b : Bool) → not b ≡ false → b ≡ true
        ok_of true e = refl
        ok_of false e = absurd (true≢false e)

  -- A write of a snapshot's own array at its chunk's place.
  pub own_moves : (k : ℕ) (s s' : Kept B) (flights : List Flight) (place : ℕ) (r : Flight) (at : ℕ) (bytes : List ℕ) → k < length v.snaps → s ≡ get_or v.snaps k s → s.live ≡ true → place < length v.flights → r ≡ get_or v.flights place r → kind_of r.request ≡ SnapWrite s.number → r.route ≡ Store at → length bytes ≡ 512 * r.request.range.count
      → s' ≡ record s { device = s'.device } → ChangesOnly s.state.chunk at (contents s.device) (contents s'.device) → (is_loud (layers s.device) ≡ true → contents s'.device ≡ with_sectors (contents s.device) (s.state.chunk * at + r.request.range.first % s.state.chunk) bytes)
      → IsCalled holds contents layers size s.device s'.device
      → GoesAll holds contents layers size whole here (Some (record { array = Some s.number; first = r.request.range.first; count = r.request.range.count; bytes = bytes })) v (changed v v.origin k s' flights)
  own_moves k s s' flights place r at bytes within is live lt found kind route long f only written store =
      let kept = kept_at holds contents layers size whole here v h l k s within is in
      let a = kept.holds.alive live in
      let first : ℕ = r.request.range.first in
      let count : ℕ = r.request.range.count in
      let goes : RouteHolds s.number s.state.chunk s.pairs s.marks r = subst (RouteHolds s.number s.state.chunk s.pairs s.marks) (sym found) (a.routes place r lt) in
      let stored = goes.write_stored at kind route in
      let sure = sure_place s.pairs s.marks s.state.sure (first / s.state.chunk) at a.link stored.1 stored.0 in
      let parts : s.state.chunk * (first / s.state.chunk) + first % s.state.chunk ≡ first = div_parts first s.state.chunk in
      let inside : first % s.state.chunk + count ≤ s.state.chunk = (let w = goes.piece.within in omega (arith, w, parts)) in
      one_goes holds contents layers size whole here v h l (Some (record { array = Some s.number; first = first; count = count; bytes = bytes })) k s s' v.origin flights within is (same_device holds contents layers size whole here v.origin)
      (own_write_goes holds contents layers size whole here v.origin v.flights s kept (lasting_at holds contents layers size whole here v h l k s within is) s' (first / s.state.chunk) at (first % s.state.chunk) count first bytes live f sure inside long (sym parts) only written store)
    where
      div_parts : (a b : ℕ) → b * (a / b) + a % b ≡ a
      div_parts a b = (let e = div-add-mod' a b in let c : b * (a / b) ≡ a / b * b = grind arith in omega (arith, e, c))

  -- Requests come and go; the origin's device is met; copies are started, or snapshots spoiled.
  pub none_moves : (given : Option Given) (flights : List Flight) → GoesAll holds contents layers size whole here given v (record v { flights = flights })
  none_moves given flights = all_left_by given (record v { flights = flights }) (same_device holds contents layers size whole here v.origin) (all_same v.snaps v.snaps refl)

  pub met_moves : (given : Option Given) (o' : B) (flights : List Flight) → IsSameDevice holds contents layers size v.origin o' → GoesAll holds contents layers size whole here given v (record v { origin = o'; flights = flights })
  met_moves given o' flights disk = all_left_by given (record v { origin = o'; flights = flights }) disk (all_same v.snaps v.snaps refl)

  pub list_moves : (given : Option Given) (ss : List (Kept B)) → AllLeft v.snaps ss → GoesAll holds contents layers size whole here given v (record v { snaps = ss })
  list_moves given ss left = all_left_by given (record v { snaps = ss }) (same_device holds contents layers size whole here v.origin) left

  -- a write of the origin that goes to its disk
  pub disk_moves : (given : Option Given) (place : ℕ) (r : Flight) (o' : B) (flights : List Flight) → place < length v.flights → r ≡ get_or v.flights place r → kind_of r.request ≡ OriginWrite → r.route ≡ Origin → WritesDisk r.request.range.first r.request.range.count (contents v.origin) (contents o')
      → IsCalled holds contents layers size v.origin o' → GoesAll holds contents layers size whole here given v (record v { origin = o'; flights = flights })
  disk_moves given place r o' flights lt at kind route written disk = all_disk given (record v { origin = o'; flights = flights }) disk (all_same v.snaps v.snaps refl) (request_beside place r (contents o') lt at kind route written)
