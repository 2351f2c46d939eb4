-- A request of the origin is issued at the merging store.
use Rattle.std.proofs.Common.{◌≡◌, ◌≢◌, ◌⊎◌, inl, inr, ℕ, ◌+◌, ◌*◌, ◌%◌, ◌<◌, ◌≤◌, Bool, true, List, ◌++◌, None, Some, length, get_or, map, refl, sym, ◌∙◌, ap, subst, arith, nat_eq}
use Rattle.std.specs.Prelude.{◌&&◌}
use Rattle.std.specs.List.{remove, position}
use Rattle.std.proofs.lemmas.Bool.{eqb-true}
use Rattle.std.proofs.lemmas.List.Quantifiers.{position-Some}
use Rattle.sector.specs.Bytes.{sectors_at, next_count}
use Rattle.device.specs.Layers.{Layer, is_loud}
use Rattle.cow_format.specs.Picture.{place_of}
use Rattle.plain_machine.specs.declared.event.Event.TheVariants.{Issue}
use Rattle.plain_machine.specs.declared.event.Outcome.TheVariants.{Reply as Replied}
use Rattle.plain_machine.specs.declared.request.Dev.{Dev}
use Rattle.plain_machine.specs.declared.request.Dev.TheVariants.{Origin as AtOrigin}
use Rattle.plain_machine.specs.declared.request.Op.{Op}
use Rattle.plain_machine.specs.declared.request.Op.TheVariants.{Read, Write, Flush}
use Rattle.plain_machine.specs.declared.request.Reply.{Reply}
use Rattle.plain_machine.specs.declared.request.Reply.TheVariants.{Data, Written as IsWritten, Refused as IsRefused}
use Rattle.plain_machine.specs.declared.request.Failure.TheVariants.{Io}
use Rattle.in_flight.specs.Kinds.{kind_at, kind_of}
use Rattle.in_flight.specs.declared.flights.Flight.{Flight}
use Rattle.in_flight.specs.declared.flights.Kind.TheVariants.{OriginFlush, OriginRead, OriginWrite}
use Rattle.in_flight.specs.declared.flights.Route.TheVariants.{Origin, Store, Whole}
use Rattle.volume_laws.specs.Books.{MergeBooks, Books, listed, taken}
use Rattle.volume_laws.specs.Due.{books_of as due_in}
use Rattle.volume_laws.specs.MergeDue.{left_beside, left_in_merge}
use Rattle.volume_laws.specs.Published.{chunk_of}
use Rattle.volume_laws.specs.Merging.{MergeHolds, MergeRouteHolds}
use Rattle.volume_laws.specs.MergeSteps.{WritesStore}
use Rattle.volume_laws.specs.Outcomes.{IsReply}
use Rattle.volume_laws.specs.Steps.{OnlyTakesOut, TakesOut}
use Rattle.volume_laws.specs.Waits.{Waits}
use Rattle.volume_laws.specs.Whole.{UnmergedHolds, OriginHolds}
use Rattle.volume_laws.proofs.Issuing.{io_read_event, io_write_event}
use Rattle.volume_laws.proofs.MergeLeft.{stored_left}
use Rattle.volume_laws.proofs.MergeSaved.{goes_stored}
use Rattle.volume_laws.proofs.MergeWaiting.{waits_stored}
use Rattle.merge.specs.Lists.{released_of}
use Rattle.merge.specs.Merging.{Merging, books_of as merging_books, due_of as merging_due}
use Rattle.merge.specs.Steps.{WritesPlaceOf}
use Rattle.snapshot_list.specs.Rooms.{merge_books}
use Rattle.snapshot.specs.Kept.{books_of as snap_books}
use Rattle.snapshot_list.proofs.Finds.{position_within}
use Rattle.volume.specs.Volumed.{Volumed, books_of, dues_of, is_loud_in_all, merge_due, left_by}
use Rattle.volume.specs.Whole.{IsMerged, IsWhole}
use Rattle.volume.specs.Causes.{HasReplied, IsFaultless, FailsAlone, GoesTo, merging_device}
use Rattle.volume.specs.Flying.{Fits}
use Rattle.volume.specs.Stepping.{KeepsAll, has_failed}
use Rattle.volume.proofs.Changing.{SnapsFit}
use Rattle.volume.proofs.Good.{IsGood}
use Rattle.volume.proofs.IssueEvents.{no_more, reply_good, taken_out, fits_read, fits_write}
use Rattle.volume.proofs.MergeIssues.{read_merging, write_merging}
use Rattle.volume.proofs.MergeChanging.{StaysMerged, disk_stays, merged_in, books_merged, loud_merged, kept_merged}
use Rattle.volume.proofs.MergeCounting.{merged_same, merged_store, store_within}
use Rattle.volume.proofs.Shown.{and_right}
use Rattle.volume.proofs.StoreIssues.{piece_part}

origin_reads : (dev : Dev) (op : Op) → dev ≡ AtOrigin → op ≡ Read → kind_at dev op ≡ OriginRead
origin_reads dev op d o = ap (λ x. kind_at x op) d ∙ ap (kind_at AtOrigin) o

origin_writes : (dev : Dev) (op : Op) (bytes : List ℕ) → dev ≡ AtOrigin → op ≡ Write bytes → kind_at dev op ≡ OriginWrite
origin_writes dev op bytes d o = ap (λ x. kind_at x op) d ∙ ap (kind_at AtOrigin) o

pub origin_flushes : (dev : Dev) (op : Op) → dev ≡ AtOrigin → op ≡ Flush → kind_at dev op ≡ OriginFlush
origin_flushes dev op d o = ap (λ x. kind_at x op) d ∙ ap (kind_at AtOrigin) o

store_ne_origin : (place : ℕ) → Store place ≢ Origin
store_ne_origin place c = cc

store_ne_whole : (place : ℕ) → Store place ≢ Whole
store_ne_whole place c = cc

-- the merge as it was, but for its device
abbrev pub on_device : {B : Type 0} → Merging B → B → Merging B
on_device m d = record m { device = d }

module _ {B : Type 0} (contents : B → List ℕ) (layers : B → List Layer) (size : B → ℕ) where
  -- of what is due of it the store's bytes alone change
  pub stores : (loud : Bool) (m : Merging B) (d : B) → WritesStore (contents d) (merging_due contents loud m) (merging_due contents loud (on_device m d))
  stores loud m d = record { books = refl; failed = refl; flushed = refl; filled = refl; current = refl }

  -- a device that does the same: the books are the same, whatever writes are done
  pub same_merge : (loud : Bool) (m : Merging B) (d : B) → contents d ≡ contents m.device → is_loud (layers d) ≡ is_loud (layers m.device) → merge_books contents layers loud (Some (on_device m d)) ≡ merge_books contents layers loud (Some m)
  same_merge loud m d bytes same =
      ap (λ b. Some (merging_books contents (loud && b) (on_device m d))) same ∙ ap (λ xs. Some (record (merging_books contents (loud && is_loud (layers m.device)) m) { store = xs })) bytes

module _ {B : Type 0} (contents : B → List ℕ) (layers : B → List Layer) (size faults done : B → ℕ) (v : Volumed B) (h : IsWhole contents layers size v) (number place : ℕ) (r : Flight)
    (found : position (λ (f : Flight). nat_eq f.number number) v.flights ≡ Some place) (was : r ≡ get_or v.flights place r) (at : ℕ) (route : r.route ≡ Store at) (dev : r.request.dev ≡ AtOrigin) where
  abbrev vb : Books
  vb = books_of contents layers size v

  in_list : place < length v.flights
  in_list = position_within (λ (f : Flight). nat_eq f.number number) v.flights place found

  mine : r.number ≡ number
  mine = (let p = position-Some (λ (f : Flight). nat_eq f.number number) v.flights place r found in eqb-true r.number number (ap (λ (f : Flight). nat_eq f.number number) was ∙ p.1))

  unmerged : v.merge ≡ None → UnmergedHolds r
  unmerged none = subst UnmergedHolds (sym was) ((subst (OriginHolds (contents v.origin) v.flights) (ap (merge_books contents layers (is_loud (layers v.origin))) none) h.holds.merge) place r in_list)

  -- a merge is begun
  pub is_begun : v.merge ≢ None
  is_begun none = by r.request.op refl
    where
      by : (op : Op) → r.request.op ≡ op → ⊥
      by Read is = (unmerged none).read at (origin_reads r.request.dev r.request.op dev is) route
      by (Write bytes) is = (unmerged none).write at (origin_writes r.request.dev r.request.op bytes dev is) route
      by Flush is = store_ne_origin at (sym route ∙ (unmerged none).flush (origin_flushes r.request.dev r.request.op dev is))

  module _ (m : Merging B) (begun : v.merge ≡ Some m) where
    abbrev mb : MergeBooks
    mb = merging_books contents (is_loud (layers v.origin) && is_loud (layers m.device)) m

    begun_books : vb.merge ≡ Some mb
    begun_books = books_merged contents layers size v m begun

    here : MergeHolds (contents v.origin) v.flights mb
    here = subst (OriginHolds (contents v.origin) v.flights) begun_books h.holds.merge

    routed : MergeRouteHolds m.number m.state.chunk m.pairs (listed mb) (taken mb) r
    routed = subst (MergeRouteHolds m.number m.state.chunk m.pairs (listed mb) (taken mb)) (sym was) (here.routes place r in_list)

    -- no flush goes there
    pub unflushed : r.request.op ≡ Flush → ⊥
    unflushed op = elim (routed.flush (origin_flushes r.request.dev r.request.op dev op)) [
      | inl whole ↦ store_ne_whole at (sym route ∙ whole)
      | inr origin ↦ store_ne_origin at (sym route ∙ origin)
    ]

    pub read_placed : r.request.op ≡ Read → (c : ℕ) × (place_of (m.pairs ++ released_of m.group) c ≡ Some at)
    read_placed op = (chunk_of m.state.chunk r, routed.read_stored at (origin_reads r.request.dev r.request.op dev op) route)

    pub write_placed : (bytes : List ℕ) → r.request.op ≡ Write bytes → (c : ℕ) × (place_of (m.pairs ++ released_of m.group) c ≡ Some at)
    write_placed bytes op = (chunk_of m.state.chunk r, routed.write_stored at (origin_writes r.request.dev r.request.op bytes dev op) route)

    pub lies_within : r.request.range.first % m.state.chunk + r.request.range.count ≤ m.state.chunk
    lies_within = piece_part m.state.chunk r.request.range.first r.request.range.count routed.piece.within

    module _ (m' : Merging B) (d : B) (f : m' ≡ on_device m d) (loud : is_loud (layers d) ≡ is_loud (layers m.device)) (sized : size d ≡ size m.device) (more : done d ≡ next_count (done m.device)) where
      -- the volume afterwards, written out
      abbrev pub issued : Volumed B
      issued = record v { merge = Some (on_device m d); flights = remove v.flights place }

      abbrev wb : Books
      wb = books_of contents layers size issued

      stays : StaysMerged layers size m (on_device m d)
      stays = record { number = refl; chunk_is = refl; origin = refl; loud = loud; sized = sized }

      fit : SnapsFit v.copies v.attached (size v.origin) v.snaps
      fit = record {
        snaps = h.snaps;
        counted = h.counted;
        apart = h.apart;
        numbers = h.numbers;
        few = h.few;
        few_copies = h.few_copies;
        numbers_left = h.numbers_left;
      }

      goes : IsMerged contents layers size (on_device m d) issued
      goes =
          let one : IsMerged contents layers size m v = merged_in contents layers size v m begun h in
          record {
            origin = one.origin;
            allowed = one.allowed;
            apart = one.apart;
            given = one.given;
            few = one.few;
            goes = λ l. goes_stored (map (snap_books contents layers) v.snaps) (contents d) (merging_due contents l m) (merging_due contents l (on_device m d)) (stores contents layers size l m d) (one.goes l);
            rooms = one.rooms;
          }

      left : left_by (dues_of contents layers v) (merge_due contents (Some (on_device m d))) ≤ left_by (dues_of contents layers v) (merge_due contents v.merge)
      left =
          let same = stored_left (contents d) (merging_due contents true m) (merging_due contents true (on_device m d)) (stores contents layers size true m d) in
          let at : left_by (dues_of contents layers v) (merge_due contents v.merge) ≡ left_in_merge (merging_due contents true m) + left_beside (map due_in (dues_of contents layers v)) (merging_due contents true m) =
          ap (λ x. left_by (dues_of contents layers v) (merge_due contents x)) begun in
          let beside : left_beside (map due_in (dues_of contents layers v)) (merging_due contents true (on_device m d)) ≡ left_beside (map due_in (dues_of contents layers v)) (merging_due contents true m) = refl in
          omega (arith, same, at, beside)

      loud_now : is_loud_in_all layers issued ≡ is_loud_in_all layers v
      loud_now = loud_merged contents layers size v m begun v.origin (on_device m d) stays (disk_stays layers size v.origin) (remove v.flights place)

      kept : KeepsAll size v issued
      kept = kept_merged contents layers size v m begun v.origin (on_device m d) stays (disk_stays layers size v.origin) (remove v.flights place)

      -- the books, with the merge's as they were but for the store
      store_is : merge_books contents layers (is_loud (layers v.origin)) (Some (on_device m d)) ≡ Some (record mb { store = contents d })
      store_is = ap (λ b. Some (merging_books contents (is_loud (layers v.origin) && b) (on_device m d))) loud

      waits : Waits wb
      waits =
          let l : Bool = is_loud (layers v.origin) && is_loud (layers m.device) in
          waits_stored place (contents d) (merging_due contents l m) (merging_due contents l (on_device m d)) vb wb h.waits (stores contents layers size l m d) in_list begun_books store_is refl refl refl refl

      faultless : faults d ≡ faults m.device → IsFaultless faults v issued
      faultless same = record { counts = merged_same v m (on_device m d) begun v.origin (remove v.flights place) faults refl same; lives = refl }

      failed : (kind_of r.request ≡ OriginRead) ⊎ (kind_of r.request ≡ OriginWrite) → faults d ≡ next_count (faults m.device) → (n : ℕ) × GoesTo number n v × FailsAlone faults n v issued
      failed kind one_more = (
        merging_device v,
        record { place = place; flight = r; within = in_list; is = was; mine = mine; route = inr (inr (inl (at, m, route, begun, refl, kind))) },
        record { counts = merged_store v m (on_device m d) begun v.origin (remove v.flights place) faults refl one_more; lives = refl },
      )

      -- the request is taken out, where the store's bytes are as before
      only : contents d ≡ contents m.device → OnlyTakesOut number place r vb wb
      only same = record {
        out = record {
          found = found;
          was = was;
          requests = refl;
          sectors = refl;
          loud = refl;
          merge = same_merge contents layers size (is_loud (layers v.origin)) m d same loud ∙ sym begun_books;
        };
        origin = refl;
        snaps = refl;
      }

      out : TakesOut number place r vb (record wb { merge = vb.merge })
      out = record { found = found; was = was; requests = refl; sectors = refl; loud = refl; merge = refl }

      -- what a reply promises of the volume that comes out
      good : (reply : Reply) → IsReply number reply vb wb → HasReplied faults number reply v issued → Fits r.request.op r.request.range reply
          → IsGood contents layers size faults done (Issue number) (Replied number reply) v (record v { merge = Some m'; flights = remove v.flights place })
      good reply answered cause fits =
          subst (λ (x : Merging B). IsGood contents layers size faults done (Issue number) (Replied number reply) v (record v { merge = Some x; flights = remove v.flights place })) (sym f)
          (reply_good contents layers size faults done v issued h number place reply in_list refl refl refl refl fit goes (ap has_failed (sym begun)) left (no_more _) loud_now kept refl answered waits cause
          (inr (merging_device v, store_within v m (on_device m d) begun v.origin (remove v.flights place) done, merged_store v m (on_device m d) begun v.origin (remove v.flights place) done refl more))
          (taken_out number place reply r vb (record wb { merge = vb.merge }) out fits))

      pub merging_read : r.request.op ≡ Read → (bytes : List ℕ) → length bytes ≡ 512 * r.request.range.count → contents d ≡ contents m.device → bytes ≡ sectors_at (contents m.device) (m.state.chunk * at + r.request.range.first % m.state.chunk) r.request.range.count
          → faults d ≡ faults m.device → IsGood contents layers size faults done (Issue number) (Replied number (Data bytes)) v (record v { merge = Some m'; flights = remove v.flights place })
      merging_read op bytes len same read faulty = good (Data bytes)
          (read_merging number place r vb wb h.holds (only same) (origin_reads r.request.dev r.request.op dev op) bytes mb begun_books at route read) (faultless faulty) (fits_read r.request.op r.request.range bytes op len)

      pub merging_read_io : r.request.op ≡ Read → contents d ≡ contents m.device → faults d ≡ next_count (faults m.device)
          → IsGood contents layers size faults done (Issue number) (Replied number (IsRefused Io)) v (record v { merge = Some m'; flights = remove v.flights place })
      merging_read_io op same faulty = (let kind = origin_reads r.request.dev r.request.op dev op in good (IsRefused Io) (io_read_event number place r vb wb h.holds (only same) kind) (failed (inl kind) faulty) tt)

      pub merging_write : (bytes : List ℕ) → r.request.op ≡ Write bytes → ((l : Bool) → (l ≡ true → is_loud (layers m.device) ≡ true) → WritesPlaceOf at (r.request.range.first % m.state.chunk) bytes (merging_books contents l m) (merging_books contents l m'))
          → faults d ≡ faults m.device → IsGood contents layers size faults done (Issue number) (Replied number IsWritten) v (record v { merge = Some m'; flights = remove v.flights place })
      merging_write bytes op wrote faulty =
          let l : Bool = is_loud (layers v.origin) && is_loud (layers m.device) in
          let place_written : WritesPlaceOf at (r.request.range.first % m.state.chunk) bytes (merging_books contents l m) (merging_books contents l (on_device m d)) =
          subst (λ (x : Merging B). WritesPlaceOf at (r.request.range.first % m.state.chunk) bytes (merging_books contents l m) (merging_books contents l x)) f (wrote l (and_right (is_loud (layers v.origin)) (is_loud (layers m.device)))) in
          good IsWritten
          (write_merging number place r vb wb h.holds mb begun_books at bytes (contents d) found was op (origin_writes r.request.dev r.request.op bytes dev op) route place_written.only place_written.written
          (ap (λ x. record wb { merge = x }) store_is)) (faultless faulty) (fits_write r.request.op r.request.range bytes op)

      pub merging_write_io : (bytes : List ℕ) → r.request.op ≡ Write bytes → contents d ≡ contents m.device → faults d ≡ next_count (faults m.device)
          → IsGood contents layers size faults done (Issue number) (Replied number (IsRefused Io)) v (record v { merge = Some m'; flights = remove v.flights place })
      merging_write_io bytes op same faulty = (let kind = origin_writes r.request.dev r.request.op bytes dev op in good (IsRefused Io) (io_write_event number place r vb wb h.holds (only same) kind) (failed (inr kind) faulty) tt)
