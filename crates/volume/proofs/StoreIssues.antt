-- A request is issued at the store of its snapshot, or answered Invalid.
use Rattle.std.proofs.Common.{◌≡◌, ◌≢◌, ◌⊎◌, inl, inr, ℕ, suc, ◌+◌, ◌*◌, ◌/◌, ◌%◌, ◌<◌, ◌≤◌, true, List, Some, length, get_or, set, map, refl, sym, ◌∙◌, ap, subst, arith, nat_eq, eq-eqb}
use Rattle.std.specs.Prelude.{Any, sum_by}
use Rattle.std.specs.List.{list_any, remove, position}
use Rattle.std.proofs.lemmas.Bool.{cases_Bool, eqb-true}
use Rattle.std.proofs.lemmas.Nat.{div-add-mod'}
use Rattle.std.proofs.lemmas.List.{length-map, map-set, get_or-map}
use Rattle.std.proofs.lemmas.List.Sums.{sum_by-set}
use Rattle.std.proofs.lemmas.List.Quantifiers.{position-Some}
use Rattle.std.proofs.Math.Seq.{map-set_same}
use Rattle.sector.specs.Bytes.{sectors_at, next_count}
use Rattle.device.specs.Layers.{Layer, is_loud}
use Rattle.cow_format.specs.Picture.{place_of}
use Rattle.plain_machine.specs.declared.event.Event.TheVariants.{Issue}
use Rattle.plain_machine.specs.declared.event.Outcome.TheVariants.{Reply as Replied}
use Rattle.plain_machine.specs.declared.request.Dev.{Dev}
use Rattle.plain_machine.specs.declared.request.Dev.TheVariants.{Origin as AtOrigin, Snap}
use Rattle.plain_machine.specs.declared.request.Op.{Op}
use Rattle.plain_machine.specs.declared.request.Op.TheVariants.{Read, Write, Flush}
use Rattle.plain_machine.specs.declared.request.Reply.{Reply}
use Rattle.plain_machine.specs.declared.request.Reply.TheVariants.{Data, Written as IsWritten, Refused as IsRefused}
use Rattle.plain_machine.specs.declared.request.Failure.TheVariants.{Io, Invalid as IsInvalid}
use Rattle.in_flight.specs.Kinds.{kind_at, kind_of}
use Rattle.in_flight.specs.declared.flights.Flight.{Flight}
use Rattle.in_flight.specs.declared.flights.Kind.TheVariants.{SnapFlush, SnapRead, SnapWrite}
use Rattle.in_flight.specs.declared.flights.Route.TheVariants.{Store, Whole, Refused}
use Rattle.volume_laws.specs.Books.{SnapBooks, Books}
use Rattle.volume_laws.specs.Published.{chunk_of}
use Rattle.volume_laws.specs.Held.{SnapHolds, RouteHolds, RefusedHolds}
use Rattle.volume_laws.specs.Due.{left_in}
use Rattle.volume_laws.specs.Steps.{OnlyTakesOut, TakesOut, WritesPlace}
use Rattle.volume_laws.specs.Waits.{WaitsHolds, Waits}
use Rattle.volume_laws.specs.Outcomes.{IsReply}
use Rattle.volume_laws.proofs.Same.{same_books}
use Rattle.volume_laws.proofs.Waiting.{KeepsWaiting, waits_out, waits_changed}
use Rattle.volume_laws.proofs.WholeOne.{snap_holds}
use Rattle.volume_laws.proofs.MergeRooms.{KeepsRoom}
use Rattle.volume_laws.proofs.MergeSaved.{KeepsSaved}
use Rattle.volume_laws.proofs.Issuing.{io_snap_read_event, io_snap_write_event, snap_place_event, refused_flush_event, refused_read_event, refused_write_event}
use Rattle.volume_laws.proofs.IssuingWrites.{snap_write_event}
use Rattle.snapshot.specs.Kept.{Kept, books_of as snap_books, due_of_kept}
use Rattle.snapshot_list.specs.Rooms.{room_of}
use Rattle.volume.specs.Flying.{Fits}
use Rattle.volume.specs.Volumed.{Volumed, books_of, dues_of, merge_due}
use Rattle.snapshot_list.specs.Numbers.{numbers_in}
use Rattle.volume.specs.Whole.{IsWhole, IsCounted}
use Rattle.volume.specs.Causes.{HasReplied, IsFaultless, FailsAlone, GoesTo}
use Rattle.std.proofs.lemmas.List.Folds.{list_any-from_Any}
use Rattle.snapshot_list.proofs.Finds.{position_within, any_of}
use Rattle.volume.proofs.Changing.{same_disk, StaysAttached, few_same, changed, beside_changed, books_within, books_is, changes, goes_changed, goes_same, snaps_changed, snaps_fit, loud_changed}
use Rattle.volume.proofs.Counting.{counts_same, counts_store, store_within, lives_same, kept_changed}
use Rattle.volume.proofs.Good.{IsGood}
use Rattle.volume.proofs.IssueEvents.{no_more, reply_good, taken_out, fits_read, fits_write}
use Rattle.volume.proofs.DiskIssues.{flush_kinds, read_kinds, write_kinds}
use Rattle.volume.proofs.StartsLeft.{left_same}
use Rattle.volume.proofs.MovedCounts.{counted_device}

store_ne_refused : (place : ℕ) → Store place ≢ Refused
store_ne_refused place c = cc

pub snap_reads : (dev : Dev) (op : Op) (n : ℕ) → dev ≡ Snap n → op ≡ Read → kind_at dev op ≡ SnapRead n
snap_reads dev op n d o = ap (λ x. kind_at x op) d ∙ ap (kind_at (Snap n)) o

pub snap_writes : (dev : Dev) (op : Op) (n : ℕ) (bytes : List ℕ) → dev ≡ Snap n → op ≡ Write bytes → kind_at dev op ≡ SnapWrite n
snap_writes dev op n bytes d o = ap (λ x. kind_at x op) d ∙ ap (kind_at (Snap n)) o

pub snap_flushes : (dev : Dev) (op : Op) (n : ℕ) → dev ≡ Snap n → op ≡ Flush → kind_at dev op ≡ SnapFlush n
snap_flushes dev op n d o = ap (λ x. kind_at x op) d ∙ ap (kind_at (Snap n)) o

-- a piece lies in its chunk
pub piece_part : (chunk first count : ℕ) → first + count ≤ chunk * (first / chunk) + chunk → first % chunk + count ≤ chunk
piece_part chunk first count piece = (let begins : chunk * (first / chunk) + first % chunk ≡ first = grind (arith, div-add-mod' first chunk) in omega (arith, piece, begins))

module _ {B : Type 0} (contents : B → List ℕ) (layers : B → List Layer) (size faults done : B → ℕ) (v : Volumed B) (h : IsWhole contents layers size v) (number place : ℕ) (r : Flight)
    (found : position (λ (f : Flight). nat_eq f.number number) v.flights ≡ Some place) (was : r ≡ get_or v.flights place r) where
  abbrev vb : Books
  vb = books_of contents layers size v

  in_list : place < length v.flights
  in_list = position_within (λ (f : Flight). nat_eq f.number number) v.flights place found

  mine : r.number ≡ number
  mine = (let p = position-Some (λ (f : Flight). nat_eq f.number number) v.flights place r found in eqb-true r.number number (ap (λ (f : Flight). nat_eq f.number number) was ∙ p.1))

  waiting : WaitsHolds vb.merge vb.snaps r
  waiting = subst (WaitsHolds vb.merge vb.snaps) (sym was) (h.waits.held place r in_list)

  -- a request that is not of the origin is of a snapshot that is there
  pub is_snap : r.request.dev ≢ AtOrigin → (n : ℕ) × (r.request.dev ≡ Snap n) × Any (λ (s : SnapBooks). s.number ≡ n) vb.snaps
  is_snap other = by r.request.dev refl
    where
      at : (n : ℕ) → r.request.dev ≡ Snap n → (op : Op) → r.request.op ≡ op → Any (λ (s : SnapBooks). s.number ≡ n) vb.snaps
      at n of Read is = waiting.read_attached n (snap_reads r.request.dev r.request.op n of is)
      at n of (Write bytes) is = waiting.write_attached n (snap_writes r.request.dev r.request.op n bytes of is)
      at n of Flush is = waiting.flush_attached n (snap_flushes r.request.dev r.request.op n of is)

      by : (dev : Dev) → r.request.dev ≡ dev → (n : ℕ) × (r.request.dev ≡ Snap n) × Any (λ (s : SnapBooks). s.number ≡ n) vb.snaps
      by AtOrigin of = absurd (other of)
      by (Snap n) of = (n, of, at n of r.request.op refl)

  -- it is answered Invalid
  pub refused_good : r.route ≡ Refused → IsGood contents layers size faults done (Issue number) (Replied number (IsRefused IsInvalid)) v (record v { flights = remove v.flights place })
  refused_good route = reply_good contents layers size faults done v w h number place (IsRefused IsInvalid) in_list refl refl refl refl (snaps_fit contents layers size v (size v.origin) h refl)
      (goes_same contents layers size v w v.merge refl refl refl h.merge) refl (no_more _) (no_more _) refl (record { attached = refl; numbers = refl; chunks = refl; merged = refl; sizes = refl }) refl (by r.request.op refl)
      (waits_out place vb wb h.waits in_list refl refl refl) (record { counts = refl; lives = refl }) (inl refl) (taken_out number place (IsRefused IsInvalid) r vb wb only.out tt)
    where
      w : Volumed B
      w = record v { flights = remove v.flights place }

      wb : Books
      wb = books_of contents layers size w

      only : OnlyTakesOut number place r vb wb
      only = record { out = record { found = found; was = was; requests = refl; sectors = refl; loud = refl; merge = refl }; origin = refl; snaps = refl }

      by : (op : Op) → r.request.op ≡ op → IsReply number (IsRefused IsInvalid) vb wb
      by Read is = elim (read_kinds r.request.dev r.request.op is) [
        | inl kind ↦ absurd (waiting.read_goes kind route)
        | inr k ↦ (let any = waiting.read_attached k.0 k.1 in refused_read_event number place r vb wb h.holds only any.0 any.1 any.2 (sym any.3) (k.1 ∙ ap SnapRead (sym any.4)) route)
      ]
      by (Write bytes) is = elim (write_kinds r.request.dev r.request.op bytes is) [
        | inl kind ↦ absurd (waiting.write_goes kind route)
        | inr k ↦ (let any = waiting.write_attached k.0 k.1 in refused_write_event number place r vb wb h.holds only any.0 any.1 any.2 (sym any.3) (k.1 ∙ ap SnapWrite (sym any.4)) route)
      ]
      by Flush is = elim (flush_kinds r.request.dev r.request.op is) [
        | inl kind ↦ absurd (waiting.flush_goes kind route)
        | inr k ↦ (let any = waiting.flush_attached k.0 k.1 in refused_flush_event number place r vb wb h.holds only any.0 any.1 any.2 (sym any.3) (k.1 ∙ ap SnapFlush (sym any.4)) route)
      ]

  -- at the store of snapshot k
  module _ (at k : ℕ) (s : Kept B) (route : r.route ≡ Store at) (within : k < length v.snaps) (is : s ≡ get_or v.snaps k s) (dev : r.request.dev ≡ Snap s.number) where
    sb_is : snap_books contents layers s ≡ get_or (map (snap_books contents layers) v.snaps) k (snap_books contents layers s)
    sb_is = books_is contents layers size v v.origin k s s within is

    sb_in : k < length (map (snap_books contents layers) v.snaps)
    sb_in = books_within contents layers size v v.origin k s s within is

    here : SnapHolds (is_loud (layers v.origin)) (contents v.origin) v.flights (snap_books contents layers s)
    here = snap_holds vb k (snap_books contents layers s) h.holds sb_in sb_is

    -- it is live
    pub alive : (kind_of r.request ≡ SnapRead s.number) ⊎ (kind_of r.request ≡ SnapWrite s.number) → s.live ≡ true
    alive kind = elim (cases_Bool s.live) [
      | inl live ↦ live
      | inr dead ↦
          (let old : RefusedHolds s.number r = subst (RefusedHolds s.number) (sym was) ((here.spoilt dead).routes place r in_list) in
          elim kind [ inl e ↦ absurd (store_ne_refused at (sym route ∙ old.read e)) | inr e ↦ absurd (store_ne_refused at (sym route ∙ old.write e)) ])
    ]

    routed : (kind_of r.request ≡ SnapRead s.number) ⊎ (kind_of r.request ≡ SnapWrite s.number) → RouteHolds s.number s.state.chunk s.pairs s.marks r
    routed kind = subst (RouteHolds s.number s.state.chunk s.pairs s.marks) (sym was) ((here.alive (alive kind)).routes place r in_list)

    store_ne_whole : Store at ≢ Whole
    store_ne_whole c = cc

    -- no flush goes there
    pub unflushed : r.request.op ≡ Flush → ⊥
    unflushed op =
        let kind = snap_flushes r.request.dev r.request.op s.number dev op in
        elim (cases_Bool s.live) [
          | inl live ↦ (let held : RouteHolds s.number s.state.chunk s.pairs s.marks r = subst (RouteHolds s.number s.state.chunk s.pairs s.marks) (sym was) ((here.alive live).routes place r in_list) in store_ne_whole (sym route ∙ held.flush kind))
          | inr dead ↦ (let old : RefusedHolds s.number r = subst (RefusedHolds s.number) (sym was) ((here.spoilt dead).routes place r in_list) in store_ne_refused at (sym route ∙ old.flush kind))
        ]

    pub read_placed : r.request.op ≡ Read → (c : ℕ) × (place_of s.pairs c ≡ Some at)
    read_placed op = (let kind = snap_reads r.request.dev r.request.op s.number dev op in (chunk_of s.state.chunk r, (routed (inl kind)).read_stored at kind route))

    pub read_part : r.request.op ≡ Read → r.request.range.first % s.state.chunk + r.request.range.count ≤ s.state.chunk
    read_part op = piece_part s.state.chunk r.request.range.first r.request.range.count (routed (inl (snap_reads r.request.dev r.request.op s.number dev op))).piece.within

    pub write_placed : (bytes : List ℕ) → r.request.op ≡ Write bytes → (c : ℕ) × (place_of s.pairs c ≡ Some at)
    write_placed bytes op = (let kind = snap_writes r.request.dev r.request.op s.number bytes dev op in (chunk_of s.state.chunk r, ((routed (inr kind)).write_stored at kind route).0))

    pub write_part : (bytes : List ℕ) → r.request.op ≡ Write bytes → r.request.range.first % s.state.chunk + r.request.range.count ≤ s.state.chunk
    write_part bytes op = piece_part s.state.chunk r.request.range.first r.request.range.count (routed (inr (snap_writes r.request.dev r.request.op s.number bytes dev op))).piece.within

    module _ (s' : Kept B) (d : B) (f : s' ≡ record s { device = d }) (loud : is_loud (layers d) ≡ is_loud (layers s.device)) (sized : size d ≡ size s.device) (more : done d ≡ next_count (done s.device)) where
      abbrev issued : Volumed B
      issued = changed v v.origin k s' (remove v.flights place)

      abbrev wb : Books
      wb = books_of contents layers size issued

      abbrev ub : Books
      ub = books_of contents layers size (changed v v.origin k s' v.flights)

      device : s'.device ≡ d
      device = ap (λ (x : Kept B). x.device) f

      loud_now : is_loud (layers s'.device) ≡ is_loud (layers s.device)
      loud_now = ap (λ x. is_loud (layers x)) device ∙ loud

      stays : StaysAttached s s'
      stays = record { number = ap (λ (x : Kept B). x.number) f; chunk_is = ap (λ (x : Kept B). x.state.chunk) f; origin = ap (λ (x : Kept B). x.state.origin) f; numbers = inl (ap (λ (x : Kept B). numbers_in x) f); few = few_same s s' (ap (λ (x : Kept B). numbers_in x) f) (ap (λ (x : Kept B). x.merging) f); counted = λ counts. subst IsCounted (sym f) (counted_device s counts d); left = left_same s s' (ap (λ (x : Kept B). x.live) f) (ap (λ (x : Kept B). x.state.size) f) (ap (λ (x : Kept B). x.next) f) }

      keeps : KeepsWaiting (snap_books contents layers s) (snap_books contents layers s')
      keeps = subst (λ (x : Kept B). KeepsWaiting (snap_books contents layers s) (snap_books contents layers x)) (sym f)
          (record { number = refl; live = refl; untried = refl; chunk = refl; unsaved = λ first e. e; saving = λ c e. e; copying = λ c e. e })

      rooms : KeepsRoom (room_of contents layers s) (room_of contents layers s')
      rooms = subst (λ (x : Kept B). KeepsRoom (room_of contents layers s) (room_of contents layers x)) (sym f)
          (record {
            space = record { saved = kept_saved; kept_back = λ _. omega arith; merging = λ _ n e. e; mine = λ _ n c same e. e; spare = λ _ none there _. there none };
            next = record { saved = kept_saved; same = λ _ c. refl };
          })
        where
          kept_saved : KeepsSaved (snap_books contents layers s) (snap_books contents layers (let x : Kept B = record s { device = d } in x))
          kept_saved = record { live = λ e. e; chunk = λ _. refl; saving = λ _ c e. e; published = λ _ c e. e }

      waits : Waits wb
      waits = waits_out place ub wb
          (waits_changed k (snap_books contents layers s) (snap_books contents layers s') vb ub h.waits (changes contents layers size v v.origin k s s' within is (same_disk contents layers size v.origin)) keeps) in_list refl refl refl

      out : TakesOut number place r vb wb
      out = record { found = found; was = was; requests = refl; sectors = refl; loud = refl; merge = refl }

      lefts : sum_by left_in (dues_of contents layers issued) ≤ sum_by left_in (dues_of contents layers v)
      lefts =
          let due = due_of_kept contents layers in
          let e = sum_by-set left_in (map due v.snaps) k (due s') (due s) (omega (arith, within, length-map v.snaps due)) in
          let at_k : left_in (get_or (map due v.snaps) k (due s)) ≡ left_in (due s) = ap left_in (get_or-map due v.snaps k s (due s) within ∙ ap due (sym is)) in
          let same : left_in (due s') ≡ left_in (due s) = ap (λ (x : Kept B). left_in (due_of_kept contents layers x)) f in
          let now : sum_by left_in (map due (set v.snaps k s')) ≡ sum_by left_in (set (map due v.snaps) k (due s')) = ap (sum_by left_in) (map-set due v.snaps k s') in
          omega (arith, e, at_k, same, now)

      good : (reply : Reply) → IsReply number reply vb wb → HasReplied faults number reply v issued → Fits r.request.op r.request.range reply → IsGood contents layers size faults done (Issue number) (Replied number reply) v issued
      good reply answered cause fits = reply_good contents layers size faults done v issued h number place reply in_list refl refl refl refl
          (snaps_changed contents layers size v v.origin k s s' within is h (same_disk contents layers size v.origin) stays)
          (goes_changed contents layers size v issued v.merge k s s' within is refl refl refl stays.number rooms h.merge) refl (beside_changed contents layers size v v.origin k s s' within is rooms.space.saved (merge_due contents v.merge)) lefts
          (loud_changed contents layers size v v.origin k s s' within is (remove v.flights place) (same_disk contents layers size v.origin) loud_now)
          (kept_changed size v v.origin k s s' (remove v.flights place) within is refl (ap size device ∙ sized) stays.number stays.chunk_is)
          (map-set_same (λ (x : Kept B). x.overflow) v.snaps k s' s (ap (λ (x : Kept B). x.overflow) f ∙ ap (λ (x : Kept B). x.overflow) is)) answered waits cause
          (inr (suc k, store_within v v.origin k s s' (remove v.flights place) within is done, counts_store v v.origin k s s' (remove v.flights place) within is done refl (ap done device ∙ more))) (taken_out number place reply r vb wb out fits)

      faultless : faults d ≡ faults s.device → IsFaultless faults v issued
      faultless same = record {
        counts = counts_same v v.origin k s s' (remove v.flights place) within is faults refl (ap faults device ∙ same);
        lives = lives_same v v.origin k s s' (remove v.flights place) within is (ap (λ (x : Kept B). x.live) f);
      }

      failed : (kind_of r.request ≡ SnapRead s.number) ⊎ (kind_of r.request ≡ SnapWrite s.number) → faults d ≡ next_count (faults s.device) → (n : ℕ) × GoesTo number n v × FailsAlone faults n v issued
      failed kind one_more = (
        suc k,
        record { place = place; flight = r; within = in_list; is = was; mine = mine; route = inr (inl (at, k, s, route, record { within = within; is = is }, refl, kind)) },
        record { counts = counts_store v v.origin k s s' (remove v.flights place) within is faults refl (ap faults device ∙ one_more); lives = lives_same v v.origin k s s' (remove v.flights place) within is (ap (λ (x : Kept B). x.live) f) },
      )

      -- the store's bytes are as before
      only : contents d ≡ contents s.device → OnlyTakesOut number place r vb wb
      only same = record { out = out; origin = refl; snaps = map-set_same (snap_books contents layers) v.snaps k s' s (same_now ∙ ap (snap_books contents layers) is) }
        where
          same_now : snap_books contents layers s' ≡ snap_books contents layers s
          same_now = ap (snap_books contents layers) f
              ∙ same_books (snap_books contents layers (record s { device = d })) (snap_books contents layers s) refl refl refl refl loud refl refl refl refl same refl refl refl refl refl

      pub store_read : r.request.op ≡ Read → (bytes : List ℕ) → length bytes ≡ 512 * r.request.range.count → contents d ≡ contents s.device → bytes ≡ sectors_at (contents s.device) (s.state.chunk * at + r.request.range.first % s.state.chunk) r.request.range.count → faults d ≡ faults s.device
          → IsGood contents layers size faults done (Issue number) (Replied number (Data bytes)) v issued
      store_read op bytes len same read faulty = good (Data bytes)
          (snap_place_event number place r vb wb h.holds (only same) k (snap_books contents layers s) sb_in sb_is bytes at (snap_reads r.request.dev r.request.op s.number dev op) route read) (faultless faulty) (fits_read r.request.op r.request.range bytes op len)

      pub store_read_io : r.request.op ≡ Read → contents d ≡ contents s.device → faults d ≡ next_count (faults s.device) → IsGood contents layers size faults done (Issue number) (Replied number (IsRefused Io)) v issued
      store_read_io op same faulty = (let kind = snap_reads r.request.dev r.request.op s.number dev op in good (IsRefused Io)
          (io_snap_read_event number place r vb wb h.holds (only same) k (snap_books contents layers s) sb_in sb_is kind (λ e. store_ne_refused at (sym route ∙ e))) (failed (inl kind) faulty) tt)

      pub store_write : (bytes : List ℕ) → r.request.op ≡ Write bytes → WritesPlace (r.request.range.first / s.state.chunk) at (r.request.range.first % s.state.chunk) bytes (snap_books contents layers s) (snap_books contents layers s') → faults d ≡ faults s.device
          → IsGood contents layers size faults done (Issue number) (Replied number IsWritten) v issued
      store_write bytes op wrote faulty = good IsWritten
          (snap_write_event number place r bytes k at (snap_books contents layers s) (snap_books contents layers s') vb wb h.holds
          (record { out = out; op = op; origin = refl; within = sb_in; was = sb_is; snaps = map-set (snap_books contents layers) v.snaps k s'; store = wrote }) (snap_writes r.request.dev r.request.op s.number bytes dev op) route) (faultless faulty) (fits_write r.request.op r.request.range bytes op)

      pub store_write_io : (bytes : List ℕ) → r.request.op ≡ Write bytes → contents d ≡ contents s.device → faults d ≡ next_count (faults s.device) → IsGood contents layers size faults done (Issue number) (Replied number (IsRefused Io)) v issued
      store_write_io bytes op same faulty = (let kind = snap_writes r.request.dev r.request.op s.number bytes dev op in good (IsRefused Io)
          (io_snap_write_event number place r vb wb h.holds (only same) k (snap_books contents layers s) sb_in sb_is kind (λ e. store_ne_refused at (sym route ∙ e))) (failed (inr kind) faulty) tt)

-- the snapshot of a number is found
pub held_any : {B : Type 0} (contents : B → List ℕ) (layers : B → List Layer) (n : ℕ) (snaps : List (Kept B)) → Any (λ (s : SnapBooks). s.number ≡ n) (map (snap_books contents layers) snaps) → list_any (λ (s : Kept B). nat_eq s.number n) snaps ≡ true
held_any contents layers n snaps any =
    sym (any_of (λ (s : SnapBooks). nat_eq s.number n) (snap_books contents layers) snaps)
    ∙ list_any-from_Any (λ (s : SnapBooks). nat_eq s.number n) (map (snap_books contents layers) snaps) (any.0, any.1, any.2, any.3, eq-eqb any.1.number n any.4)
