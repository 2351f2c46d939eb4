-- A request is issued at the origin disk.
use Rattle.std.proofs.Common.{◌≡◌, ◌≢◌, ◌⊎◌, inl, inr, ℕ, ◌*◌, ◌<◌, true, List, ◌∷◌, Some, length, get_or, map, refl, sym, ◌∙◌, ap, subst, arith, nat_eq}
use Rattle.std.specs.Prelude.{◌&&◌}
use Rattle.std.specs.List.{list_all, remove, position}
use Rattle.std.proofs.lemmas.Bool.{cases_Bool, eqb-true}
use Rattle.std.proofs.lemmas.List.Quantifiers.{position-Some}
use Rattle.sector.specs.Bytes.{sectors_at, with_sectors, next_count}
use Rattle.device.specs.Layers.{Layer, is_loud}
use Rattle.plain_machine.specs.declared.event.Event.TheVariants.{Issue}
use Rattle.plain_machine.specs.declared.event.Outcome.TheVariants.{Reply as Replied}
use Rattle.plain_machine.specs.declared.request.Dev.{Dev}
use Rattle.plain_machine.specs.declared.request.Dev.TheVariants.{Origin as AtOrigin, Snap}
use Rattle.plain_machine.specs.declared.request.Op.{Op}
use Rattle.plain_machine.specs.declared.request.Op.TheVariants.{Read, Write, Flush}
use Rattle.plain_machine.specs.declared.request.Reply.{Reply}
use Rattle.plain_machine.specs.declared.request.Reply.TheVariants.{Data, Written as IsWritten, Flushed as IsFlushed, Refused as IsRefused}
use Rattle.plain_machine.specs.declared.request.Failure.TheVariants.{Io}
use Rattle.in_flight.specs.Kinds.{kind_at, kind_of}
use Rattle.in_flight.specs.declared.flights.Flight.{Flight}
use Rattle.in_flight.specs.declared.flights.Kind.TheVariants.{OriginRead, OriginWrite, OriginFlush, SnapRead, SnapWrite, SnapFlush}
use Rattle.in_flight.specs.declared.flights.Route.TheVariants.{Origin, Whole, Refused}
use Rattle.volume_laws.specs.Books.{Books}
use Rattle.volume_laws.specs.Held.{SnapHolds, RouteHolds, RefusedHolds}
use Rattle.volume_laws.specs.Steps.{OnlyTakesOut, TakesOut, WritesDisk}
use Rattle.volume_laws.specs.Waits.{WaitsHolds, Waits}
use Rattle.volume_laws.specs.Outcomes.{IsReply}
use Rattle.volume_laws.proofs.Requests.{found_holds}
use Rattle.volume_laws.proofs.Waiting.{waits_out}
use Rattle.volume_laws.proofs.Issuing.{flush_disk_event, io_flush_event, io_read_event, io_write_event, io_snap_read_event, snap_disk_event}
use Rattle.snapshot.specs.Kept.{Kept}
use Rattle.snapshot_list.specs.Rooms.{merge_books}
use Rattle.volume.specs.Volumed.{Volumed, books_of, is_loud_with}
use Rattle.volume.specs.Whole.{IsWhole}
use Rattle.volume.specs.Causes.{HasReplied, IsFaultless, FailsAlone, GoesTo, IsOneAtMost, counts_of, counts_with, counted}
use Rattle.snapshot_list.proofs.Finds.{position_within}
use Rattle.volume.specs.Flying.{Fits}
use Rattle.volume.proofs.Changing.{goes_same, snaps_fit}
use Rattle.volume.proofs.Good.{IsGood}
use Rattle.volume.proofs.IssueEvents.{no_more, reply_good, taken_out, fits_flush, fits_read, fits_write}
use Rattle.volume.proofs.MergeIssues.{any_read_disk, any_write_disk}
use Rattle.volume.proofs.Counting.{counted_among, within_among}

-- what a request is, by its device
pub read_kinds : (dev : Dev) (op : Op) → op ≡ Read → (kind_at dev op ≡ OriginRead) ⊎ ((n : ℕ) × (kind_at dev op ≡ SnapRead n))
read_kinds AtOrigin op is = inl (ap (kind_at AtOrigin) is)
read_kinds (Snap n) op is = inr (n, ap (kind_at (Snap n)) is)

pub write_kinds : (dev : Dev) (op : Op) (bytes : List ℕ) → op ≡ Write bytes → (kind_at dev op ≡ OriginWrite) ⊎ ((n : ℕ) × (kind_at dev op ≡ SnapWrite n))
write_kinds AtOrigin op bytes is = inl (ap (kind_at AtOrigin) is)
write_kinds (Snap n) op bytes is = inr (n, ap (kind_at (Snap n)) is)

pub flush_kinds : (dev : Dev) (op : Op) → op ≡ Flush → (kind_at dev op ≡ OriginFlush) ⊎ ((n : ℕ) × (kind_at dev op ≡ SnapFlush n))
flush_kinds AtOrigin op is = inl (ap (kind_at AtOrigin) is)
flush_kinds (Snap n) op is = inr (n, ap (kind_at (Snap n)) is)

origin_ne_whole : Origin ≢ Whole
origin_ne_whole c = cc

origin_ne_refused : Origin ≢ Refused
origin_ne_refused c = cc

module _ {B : Type 0} (contents : B → List ℕ) (layers : B → List Layer) (size faults done : B → ℕ) (v : Volumed B) (h : IsWhole contents layers size v) (number place : ℕ) (r : Flight)
    (found : position (λ (f : Flight). nat_eq f.number number) v.flights ≡ Some place) (was : r ≡ get_or v.flights place r) (route : r.route ≡ Origin) (o' : B) (same_size : size o' ≡ size v.origin) (same_loud : is_loud (layers o') ≡ is_loud (layers v.origin)) where
  abbrev vb : Books
  vb = books_of contents layers size v

  -- the volume afterwards
  abbrev issued : Volumed B
  issued = record v { origin = o'; flights = remove v.flights place }

  abbrev wb : Books
  wb = books_of contents layers size issued

  in_list : place < length v.flights
  in_list = position_within (λ (f : Flight). nat_eq f.number number) v.flights place found

  out : TakesOut number place r vb wb
  out = record { found = found; was = was; requests = refl; sectors = same_size; loud = same_loud; merge = ap (λ l. merge_books contents layers l v.merge) same_loud }

  waits : Waits wb
  waits = waits_out place vb wb h.waits in_list refl refl (ap (λ l. merge_books contents layers l v.merge) same_loud)

  waiting : WaitsHolds vb.merge vb.snaps r
  waiting = found_holds (WaitsHolds vb.merge vb.snaps) number place r vb wb out h.waits.held

  mine : r.number ≡ number
  mine = (let p = position-Some (λ (f : Flight). nat_eq f.number number) v.flights place r found in eqb-true r.number number (ap (λ (f : Flight). nat_eq f.number number) was ∙ p.1))

  good : (reply : Reply) → IsReply number reply vb wb → HasReplied faults number reply v issued → IsOneAtMost done v issued → Fits r.request.op r.request.range reply → IsGood contents layers size faults done (Issue number) (Replied number reply) v issued
  good reply answered cause one fits = reply_good contents layers size faults done v issued h number place reply in_list refl refl refl refl (snaps_fit contents layers size v (size o') h same_size)
      (goes_same contents layers size v issued v.merge same_size refl refl h.merge) refl (no_more _) (no_more _)
      (ap (λ b. is_loud_with layers v.merge (b && list_all (λ (s : Kept B). is_loud (layers s.device)) v.snaps)) same_loud)
      (record { attached = refl; numbers = refl; chunks = refl; merged = refl; sizes = ap (λ n. counts_with size v.merge (n ∷ map (λ (s : Kept B). size s.device) v.snaps)) same_size }) refl answered waits cause one (taken_out number place reply r vb wb out fits)

  faultless : faults o' ≡ faults v.origin → IsFaultless faults v issued
  faultless same = record { counts = ap (λ n. counts_with faults v.merge (n ∷ map (λ (s : Kept B). faults s.device) v.snaps)) same; lives = refl }

  -- the origin disk counted
  disk_counted : (count : B → ℕ) → count o' ≡ next_count (count v.origin) → counts_of count issued ≡ counted 0 (counts_of count v)
  disk_counted count more = ap (λ n. counts_with count v.merge (n ∷ map (λ (s : Kept B). count s.device) v.snaps)) more
      ∙ counted_among count v.merge 0 (count v.origin ∷ map (λ (s : Kept B). count s.device) v.snaps) (omega arith)

  failed : faults o' ≡ next_count (faults v.origin) → (device : ℕ) × GoesTo number device v × FailsAlone faults device v issued
  failed more = (
    0,
    record { place = place; flight = r; within = in_list; is = was; mine = mine; route = inl (route, refl) },
    record { counts = disk_counted faults more; lives = refl },
  )

  one_done : done o' ≡ next_count (done v.origin) → IsOneAtMost done v issued
  one_done more = inr (0, within_among done v.merge 0 (done v.origin ∷ map (λ (s : Kept B). done s.device) v.snaps) (omega arith), disk_counted done more)

  only : contents o' ≡ contents v.origin → OnlyTakesOut number place r vb wb
  only same = record { out = out; origin = same; snaps = refl }

  -- a read
  module _ (op : r.request.op ≡ Read) (same : contents o' ≡ contents v.origin) (counted : done o' ≡ next_count (done v.origin)) where
    pub disk_read : (bytes : List ℕ) → length bytes ≡ 512 * r.request.range.count → bytes ≡ sectors_at (contents v.origin) r.request.range.first r.request.range.count → faults o' ≡ faults v.origin → IsGood contents layers size faults done (Issue number) (Replied number (Data bytes)) v issued
    disk_read bytes len read faulty = good (Data bytes) reply (faultless faulty) (one_done counted) (fits_read r.request.op r.request.range bytes op len)
      where
        reply : IsReply number (Data bytes) vb wb
        reply = elim (read_kinds r.request.dev r.request.op op) [
          | inl kind ↦ any_read_disk number place r vb wb h.holds (only same) kind bytes route read
          | inr k ↦ (let any = waiting.read_attached k.0 k.1 in
              snap_disk_event number place r vb wb h.holds (only same) any.0 any.1 any.2 (sym any.3) bytes (k.1 ∙ ap SnapRead (sym any.4)) route read)
        ]

    pub disk_read_io : faults o' ≡ next_count (faults v.origin) → IsGood contents layers size faults done (Issue number) (Replied number (IsRefused Io)) v issued
    disk_read_io faulty = good (IsRefused Io) reply (failed faulty) (one_done counted) tt
      where
        reply : IsReply number (IsRefused Io) vb wb
        reply = elim (read_kinds r.request.dev r.request.op op) [
          | inl kind ↦ io_read_event number place r vb wb h.holds (only same) kind
          | inr k ↦ (let any = waiting.read_attached k.0 k.1 in
              io_snap_read_event number place r vb wb h.holds (only same) any.0 any.1 any.2 (sym any.3) (k.1 ∙ ap SnapRead (sym any.4)) (λ e. origin_ne_refused (sym route ∙ e)))
        ]

  -- a write is one of the origin
  is_origin : (bytes : List ℕ) → r.request.op ≡ Write bytes → kind_of r.request ≡ OriginWrite
  is_origin bytes op = elim (write_kinds r.request.dev r.request.op bytes op) [
    | inl kind ↦ kind
    | inr k ↦ (let any = waiting.write_attached k.0 k.1 in
        let s = any.1 in
        let kind : kind_of r.request ≡ SnapWrite s.number = k.1 ∙ ap SnapWrite (sym any.4) in
        let here : SnapHolds vb.loud vb.origin vb.requests s = subst (SnapHolds vb.loud vb.origin vb.requests) any.3 (h.holds.snaps any.0 s any.2) in
        elim (cases_Bool s.live) [
          | inl live ↦ absurd ((found_holds (RouteHolds s.number s.chunk s.pairs s.marks) number place r vb wb out (here.alive live).routes).write kind route)
          | inr dead ↦ absurd (origin_ne_refused (sym route ∙ (found_holds (RefusedHolds s.number) number place r vb wb out (here.spoilt dead).routes).write kind))
        ])
  ]

  module _ (bytes : List ℕ) (op : r.request.op ≡ Write bytes) (counted : done o' ≡ next_count (done v.origin)) where
    pub disk_write : WritesDisk r.request.range.first r.request.range.count (contents v.origin) (contents o') → (is_loud (layers v.origin) ≡ true → contents o' ≡ with_sectors (contents v.origin) r.request.range.first bytes) → faults o' ≡ faults v.origin
        → IsGood contents layers size faults done (Issue number) (Replied number IsWritten) v issued
    disk_write disk written faulty = good IsWritten
        (any_write_disk number place r vb wb h.holds bytes (record { out = out; op = op; snaps = refl; disk = disk; written = written }) (is_origin bytes op) route)
        (faultless faulty) (one_done counted) (fits_write r.request.op r.request.range bytes op)

    pub disk_write_io : contents o' ≡ contents v.origin → faults o' ≡ next_count (faults v.origin) → IsGood contents layers size faults done (Issue number) (Replied number (IsRefused Io)) v issued
    disk_write_io same faulty = good (IsRefused Io) (io_write_event number place r vb wb h.holds (only same) (is_origin bytes op)) (failed faulty) (one_done counted) tt

  -- so is a flush, which of a snapshot goes to its store
  pub is_origin_flush : r.request.op ≡ Flush → kind_of r.request ≡ OriginFlush
  is_origin_flush op = elim (flush_kinds r.request.dev r.request.op op) [
    | inl kind ↦ kind
    | inr k ↦ (let any = waiting.flush_attached k.0 k.1 in
        let s = any.1 in
        let kind : kind_of r.request ≡ SnapFlush s.number = k.1 ∙ ap SnapFlush (sym any.4) in
        let here : SnapHolds vb.loud vb.origin vb.requests s = subst (SnapHolds vb.loud vb.origin vb.requests) any.3 (h.holds.snaps any.0 s any.2) in
        elim (cases_Bool s.live) [
          | inl live ↦ absurd (origin_ne_whole (sym route ∙ (found_holds (RouteHolds s.number s.chunk s.pairs s.marks) number place r vb wb out (here.alive live).routes).flush kind))
          | inr dead ↦ absurd (origin_ne_refused (sym route ∙ (found_holds (RefusedHolds s.number) number place r vb wb out (here.spoilt dead).routes).flush kind))
        ])
  ]

  module _ (op : r.request.op ≡ Flush) (same : contents o' ≡ contents v.origin) (counted : done o' ≡ next_count (done v.origin)) where
    pub disk_flush : faults o' ≡ faults v.origin → IsGood contents layers size faults done (Issue number) (Replied number IsFlushed) v issued
    disk_flush faulty = good IsFlushed (flush_disk_event number place r vb wb h.holds (only same) (is_origin_flush op)) (faultless faulty) (one_done counted) (fits_flush r.request.op r.request.range op)

    pub disk_flush_io : faults o' ≡ next_count (faults v.origin) → IsGood contents layers size faults done (Issue number) (Replied number (IsRefused Io)) v issued
    disk_flush_io faulty = good (IsRefused Io) (io_flush_event number place r vb wb h.holds (only same) (is_origin_flush op)) (failed faulty) (one_done counted) tt
