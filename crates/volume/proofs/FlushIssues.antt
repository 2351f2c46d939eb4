-- A flush is issued at the whole store of its snapshot; or, one of the origin beside a merge, at the merging store, and goes on
-- to the origin disk then.
use Rattle.std.proofs.Common.{◌≡◌, ◌≢◌, inl, inr, ℕ, suc, ◌+◌, ◌<◌, ◌≤◌, Bool, true, List, None, Some, length, get_or, set, map, refl, sym, ◌∙◌, ap, subst, arith, nat_eq}
use Rattle.std.specs.Prelude.{◌&&◌, sum_by}
use Rattle.std.specs.List.{remove, position}
use Rattle.std.proofs.lemmas.Bool.{cases_Bool, eqb-true}
use Rattle.std.proofs.lemmas.List.{length-map, length-set, map-set, get_or-map}
use Rattle.std.proofs.lemmas.List.Sums.{sum_by-set}
use Rattle.std.proofs.lemmas.List.Quantifiers.{position-Some}
use Rattle.std.proofs.Math.Seq.{map-set_same}
use Rattle.sector.specs.Bytes.{next_count}
use Rattle.device.specs.Layers.{Layer, is_loud}
use Rattle.plain_machine.specs.Legal.{IsBegunFlush}
use Rattle.plain_machine.specs.declared.event.Event.TheVariants.{Issue}
use Rattle.plain_machine.specs.declared.event.Outcome.TheVariants.{Done, Reply as Replied}
use Rattle.plain_machine.specs.declared.request.Dev.TheVariants.{Origin as AtOrigin, Snap}
use Rattle.plain_machine.specs.declared.request.Op.TheVariants.{Flush}
use Rattle.plain_machine.specs.declared.request.Reply.{Reply}
use Rattle.plain_machine.specs.declared.request.Reply.TheVariants.{Flushed as IsFlushed, Refused as IsRefused}
use Rattle.plain_machine.specs.declared.request.Failure.TheVariants.{Io}
use Rattle.in_flight.specs.Due.{number_of_flight}
use Rattle.in_flight.specs.Flushed.{flushed_copy, safe_mark}
use Rattle.in_flight.specs.Kinds.{in_flight, kind_of}
use Rattle.in_flight.specs.declared.flights.Flight.{Flight}
use Rattle.in_flight.specs.declared.flights.Kind.TheVariants.{OriginFlush, SnapFlush}
use Rattle.in_flight.specs.declared.flights.Route.TheVariants.{Origin, Whole, Refused}
use Rattle.volume_laws.specs.Books.{MergeBooks, SnapBooks, Books}
use Rattle.volume_laws.specs.Due.{left_in, weight_of}
use Rattle.volume_laws.specs.Held.{RefusedHolds, SnapHolds}
use Rattle.volume_laws.specs.MergeDue.{left_beside, left_in_merge}
use Rattle.volume_laws.specs.Due.{books_of as due_in}
use Rattle.volume_laws.specs.Outcomes.{IsReply}
use Rattle.volume_laws.specs.Steps.{FlushesStore, OnlyTakesOut, RoutesOn, TakesOut}
use Rattle.volume_laws.specs.Waits.{Waits}
use Rattle.volume_laws.specs.Whole.{OriginHolds, UnmergedHolds}
use Rattle.volume_laws.proofs.FlushLeft.{flush_no_more}
use Rattle.volume_laws.proofs.Issuing.{io_flush_event, io_snap_flush_event}
use Rattle.volume_laws.proofs.IssuingFlushes.{routed_on_begun, routed_on_event, routed_on_waits, routed_on_weight, snap_flush_event}
use Rattle.volume_laws.proofs.Keeping.{flush_keeps}
use Rattle.volume_laws.proofs.MergeLeft.{stored_left}
use Rattle.volume_laws.proofs.MergeRoomEvents.{flush_room}
use Rattle.volume_laws.proofs.MergeRooms.{KeepsRoom}
use Rattle.volume_laws.proofs.MergeSaved.{KeepsSaved, goes_stored}
use Rattle.volume_laws.proofs.Requests.{asked_first}
use Rattle.volume_laws.proofs.Same.{same_books}
use Rattle.volume_laws.proofs.Waiting.{KeepsWaiting, waits_out, waits_changed}
use Rattle.volume_laws.proofs.WholeOne.{snap_holds}
use Rattle.snapshot.specs.Kept.{Kept, books_of as snap_books, due_of_kept}
use Rattle.merge.specs.Merging.{Merging, books_of as merging_books, due_of as merging_due}
use Rattle.snapshot_list.specs.Rooms.{merge_books, room_of}
use Rattle.snapshot_list.specs.Numbers.{numbers_in}
use Rattle.snapshot_list.proofs.Finds.{position_within}
use Rattle.volume.specs.Flying.{Fits}
use Rattle.volume.specs.Volumed.{Volumed, books_of, dues_of, is_loud_in_all, left_by, merge_due, plain_of}
use Rattle.volume.specs.Whole.{AreNumbers, IsCounted, IsMerged, IsWhole}
use Rattle.volume.specs.Causes.{HasReplied, merging_device}
use Rattle.volume.specs.Stepping.{KeepsAll, has_failed}
use Rattle.volume.proofs.Changing.{SnapsFit, StaysAttached, beside_changed, books_is, books_within, changed, changes, few_same, goes_changed, loud_changed, same_disk, snaps_changed}
use Rattle.volume.proofs.Counting.{counts_same, counts_store, kept_changed, lives_same, store_within as snap_within}
use Rattle.volume.proofs.Good.{IsGood}
use Rattle.volume.proofs.IssueEvents.{no_more, reply_good, request_at, taken_out, fits_flush}
use Rattle.volume.proofs.MergeChanging.{StaysMerged, books_merged, disk_stays, kept_merged, loud_merged, merged_in}
use Rattle.volume.proofs.MergeCounting.{merged_same, merged_store, store_within}
use Rattle.volume.proofs.MergingIssues.{on_device, origin_flushes, same_merge, stores}
use Rattle.volume.proofs.MovedCounts.{counted_device, counted_flushed}
use Rattle.volume.proofs.Shown.{shown}
use Rattle.volume.proofs.StartsLeft.{left_same}
use Rattle.volume.proofs.StoreEvents.{flushed_numbers}
use Rattle.volume.proofs.StoreIssues.{snap_flushes}

whole_ne_refused : Whole ≢ Refused
whole_ne_refused c = cc

whole_ne_origin : Whole ≢ Origin
whole_ne_origin c = cc

module _ {B : Type 0} (contents : B → List ℕ) (layers : B → List Layer) (size faults done : B → ℕ) (v : Volumed B) (h : IsWhole contents layers size v) (number place : ℕ) (r : Flight)
    (found : position (λ (f : Flight). nat_eq f.number number) v.flights ≡ Some place) (was : r ≡ get_or v.flights place r) (route : r.route ≡ Whole) where
  abbrev vb : Books
  vb = books_of contents layers size v

  in_list : place < length v.flights
  in_list = position_within (λ (f : Flight). nat_eq f.number number) v.flights place found

  mine : r.number ≡ number
  mine = (let p = position-Some (λ (f : Flight). nat_eq f.number number) v.flights place r found in eqb-true r.number number (ap (λ (f : Flight). nat_eq f.number number) was ∙ p.1))

  -- only a flush goes to a whole store
  pub whole_flush : r.request.op ≡ Flush
  whole_flush = (request_at contents layers size v h place r in_list was).whole route

  -- of snapshot k
  module _ (k : ℕ) (s : Kept B) (within : k < length v.snaps) (is : s ≡ get_or v.snaps k s) (dev : r.request.dev ≡ Snap s.number) where
    abbrev sb : Kept B → SnapBooks
    sb = snap_books contents layers

    sb_is : snap_books contents layers s ≡ get_or (map (snap_books contents layers) v.snaps) k (snap_books contents layers s)
    sb_is = books_is contents layers size v v.origin k s s within is

    sb_in : k < length (map (snap_books contents layers) v.snaps)
    sb_in = books_within contents layers size v v.origin k s s within is

    here : SnapHolds (is_loud (layers v.origin)) (contents v.origin) v.flights (snap_books contents layers s)
    here = snap_holds vb k (snap_books contents layers s) h.holds sb_in sb_is

    kind : kind_of r.request ≡ SnapFlush s.number
    kind = snap_flushes r.request.dev r.request.op s.number dev whole_flush

    -- it is live
    pub whole_alive : s.live ≡ true
    whole_alive = elim (cases_Bool s.live) [
      | inl live ↦ live
      | inr dead ↦ (let old : RefusedHolds s.number r = subst (RefusedHolds s.number) (sym was) ((here.spoilt dead).routes place r in_list) in absurd (whole_ne_refused (sym route ∙ old.flush kind)))
    ]

    -- it goes on as s'
    module _ (s' : Kept B) (d : B) (device : s'.device ≡ d) (live_is : s'.live ≡ s.live) (overflow_is : s'.overflow ≡ s.overflow) (stays : StaysAttached s s') (keeps : KeepsWaiting (snap_books contents layers s) (snap_books contents layers s'))
        (rooms : KeepsRoom (room_of contents layers s) (room_of contents layers s')) (less : left_in (due_of_kept contents layers s') ≤ left_in (due_of_kept contents layers s)) (loud : is_loud (layers d) ≡ is_loud (layers s.device)) (sized : size d ≡ size s.device) (more : done d ≡ next_count (done s.device)) where
      abbrev issued : Volumed B
      issued = changed v v.origin k s' (remove v.flights place)

      abbrev wb : Books
      wb = books_of contents layers size issued

      abbrev ub : Books
      ub = books_of contents layers size (changed v v.origin k s' v.flights)

      waits : Waits wb
      waits = waits_out place ub wb
          (waits_changed k (snap_books contents layers s) (snap_books contents layers s') vb ub h.waits (changes contents layers size v v.origin k s s' within is (same_disk contents layers size v.origin)) keeps) in_list refl refl refl

      out : TakesOut number place r vb wb
      out = record { found = found; was = was; requests = refl; sectors = refl; loud = refl; merge = refl }

      lefts : sum_by left_in (dues_of contents layers issued) ≤ sum_by left_in (dues_of contents layers v)
      lefts =
          let due = due_of_kept contents layers in
          let e = sum_by-set left_in (map due v.snaps) k (due s') (due s) (omega (arith, within, length-map v.snaps due)) in
          let at_k : left_in (get_or (map due v.snaps) k (due s)) ≡ left_in (due s) = ap left_in (get_or-map due v.snaps k s (due s) within ∙ ap due (sym is)) in
          let now : sum_by left_in (map due (set v.snaps k s')) ≡ sum_by left_in (set (map due v.snaps) k (due s')) = ap (sum_by left_in) (map-set due v.snaps k s') in
          omega (arith, e, at_k, less, now)

      good : (reply : Reply) → IsReply number reply vb wb → HasReplied faults number reply v issued → Fits r.request.op r.request.range reply → IsGood contents layers size faults done (Issue number) (Replied number reply) v issued
      good reply answered cause fits = reply_good contents layers size faults done v issued h number place reply in_list refl refl refl refl
          (snaps_changed contents layers size v v.origin k s s' within is h (same_disk contents layers size v.origin) stays)
          (goes_changed contents layers size v issued v.merge k s s' within is refl refl refl stays.number rooms h.merge) refl (beside_changed contents layers size v v.origin k s s' within is rooms.space.saved (merge_due contents v.merge)) lefts
          (loud_changed contents layers size v v.origin k s s' within is (remove v.flights place) (same_disk contents layers size v.origin) (ap (λ x. is_loud (layers x)) device ∙ loud))
          (kept_changed size v v.origin k s s' (remove v.flights place) within is refl (ap size device ∙ sized) stays.number stays.chunk_is)
          (map-set_same (λ (x : Kept B). x.overflow) v.snaps k s' s (overflow_is ∙ ap (λ (x : Kept B). x.overflow) is)) answered waits cause
          (inr (suc k, snap_within v v.origin k s s' (remove v.flights place) within is done, counts_store v v.origin k s s' (remove v.flights place) within is done refl (ap done device ∙ more))) (taken_out number place reply r vb wb out fits)

      -- it was flushed
      flushed_reply : FlushesStore (snap_books contents layers s) (snap_books contents layers s') → faults d ≡ faults s.device → IsGood contents layers size faults done (Issue number) (Replied number IsFlushed) v issued
      flushed_reply flush faulty = good IsFlushed
          (snap_flush_event number place r k (snap_books contents layers s) (snap_books contents layers s') vb wb h.holds
          (record { out = out; origin = refl; within = sb_in; was = sb_is; snaps = map-set (snap_books contents layers) v.snaps k s'; flush = flush }) kind route)
          (record {
            counts = counts_same v v.origin k s s' (remove v.flights place) within is faults refl (ap faults device ∙ faulty);
            lives = lives_same v v.origin k s s' (remove v.flights place) within is live_is;
          })
          (fits_flush r.request.op r.request.range whole_flush)

      -- its store failed
      failed_reply : snap_books contents layers s' ≡ snap_books contents layers s → faults d ≡ next_count (faults s.device) → IsGood contents layers size faults done (Issue number) (Replied number (IsRefused Io)) v issued
      failed_reply same faulty = good (IsRefused Io)
          (io_snap_flush_event number place r vb wb h.holds (record { out = out; origin = refl; snaps = map-set_same (snap_books contents layers) v.snaps k s' s (same ∙ ap (snap_books contents layers) is) })
          k (snap_books contents layers s) sb_in sb_is kind (λ e. whole_ne_refused (sym route ∙ e))) (
            suc k,
            record { place = place; flight = r; within = in_list; is = was; mine = mine; route = inr (inr (inr (inl (k, s, route, record { within = within; is = is }, refl, kind)))) },
            record { counts = counts_store v v.origin k s s' (remove v.flights place) within is faults refl (ap faults device ∙ faulty); lives = lives_same v v.origin k s s' (remove v.flights place) within is live_is },
          )
          tt

    module _ (s' : Kept B) (d : B) (loud : is_loud (layers d) ≡ is_loud (layers s.device)) (sized : size d ≡ size s.device) (more : done d ≡ next_count (done s.device)) where
      pub whole_done : (s.state.firm ≡ true → s.state.zeroed ≡ true)
          → s' ≡ record s { device = d; state = record s.state { firm = s.state.zeroed; sure = length s.pairs }; copies = map flushed_copy s.copies; marks = map safe_mark s.marks }
          → FlushesStore (snap_books contents layers s) (snap_books contents layers s') → faults d ≡ faults s.device → IsGood contents layers size faults done (Issue number) (Replied number IsFlushed) v (changed v v.origin k s' (remove v.flights place))
      whole_done ahead f flush faulty =
          let same : numbers_in s' ≡ numbers_in s = ap (λ (x : Kept B). numbers_in x) f ∙ flushed_numbers s.marks s.copies in
          let stays : StaysAttached s s' = record {
            number = ap (λ (x : Kept B). x.number) f;
            chunk_is = ap (λ (x : Kept B). x.state.chunk) f;
            origin = ap (λ (x : Kept B). x.state.origin) f;
            numbers = inl same;
            few = few_same s s' same (ap (λ (x : Kept B). x.merging) f);
            counted = λ counts. subst IsCounted (sym f) (counted_flushed s counts d s.state.zeroed (length s.pairs) (map flushed_copy s.copies) (map safe_mark s.marks) (λ e. ap (map flushed_copy) e));
            left = left_same s s' (ap (λ (x : Kept B). x.live) f) (ap (λ (x : Kept B). x.state.size) f) (ap (λ (x : Kept B). x.next) f);
          } in
          flushed_reply s' d (ap (λ (x : Kept B). x.device) f) (ap (λ (x : Kept B). x.live) f) (ap (λ (x : Kept B). x.overflow) f) stays (flush_keeps (sb s) (sb s') flush)
          (flush_room (room_of contents layers s) (room_of contents layers s') flush (record { kept_back = ap (λ (x : Kept B). x.kept_back) f; spare = ap (λ (x : Kept B). x.spare) f; merging = ap (λ (x : Kept B). x.merging) f }))
          (flush_no_more (due_of_kept contents layers s) (due_of_kept contents layers s') flush whole_alive (ap (λ (x : Kept B). x.state.zeroed) f) (ap (λ (x : Kept B). x.state.firm) f) ahead)
          loud sized more flush faulty

      pub whole_io : s' ≡ record s { device = d } → contents d ≡ contents s.device → faults d ≡ next_count (faults s.device) → IsGood contents layers size faults done (Issue number) (Replied number (IsRefused Io)) v (changed v v.origin k s' (remove v.flights place))
      whole_io f same faulty =
          let numbers : numbers_in s' ≡ numbers_in s = ap (λ (x : Kept B). numbers_in x) f in
          let stays : StaysAttached s s' = record {
            number = ap (λ (x : Kept B). x.number) f;
            chunk_is = ap (λ (x : Kept B). x.state.chunk) f;
            origin = ap (λ (x : Kept B). x.state.origin) f;
            numbers = inl numbers;
            few = few_same s s' numbers (ap (λ (x : Kept B). x.merging) f);
            counted = λ counts. subst IsCounted (sym f) (counted_device s counts d);
            left = left_same s s' (ap (λ (x : Kept B). x.live) f) (ap (λ (x : Kept B). x.state.size) f) (ap (λ (x : Kept B). x.next) f);
          } in
          let keeps : KeepsWaiting (snap_books contents layers s) (snap_books contents layers s') =
          subst (λ (x : Kept B). KeepsWaiting (snap_books contents layers s) (snap_books contents layers x)) (sym f)
          (record { number = refl; live = refl; untried = refl; chunk = refl; unsaved = λ first e. e; saving = λ c e. e; copying = λ c e. e }) in
          let kept_saved : KeepsSaved (snap_books contents layers s) (snap_books contents layers (let x : Kept B = record s { device = d } in x)) =
          record { live = λ e. e; chunk = λ _. refl; saving = λ _ c e. e; published = λ _ c e. e } in
          let rooms : KeepsRoom (room_of contents layers s) (room_of contents layers s') =
          subst (λ (x : Kept B). KeepsRoom (room_of contents layers s) (room_of contents layers x)) (sym f)
          (record {
            space = record { saved = kept_saved; kept_back = λ _. omega arith; merging = λ _ n e. e; mine = λ _ n c same e. e; spare = λ _ none there _. there none };
            next = record { saved = kept_saved; same = λ _ c. refl };
          }) in
          let less : left_in (due_of_kept contents layers s') ≤ left_in (due_of_kept contents layers s) = omega (arith, ap (λ (x : Kept B). left_in (due_of_kept contents layers x)) f) in
          failed_reply s' d (ap (λ (x : Kept B). x.device) f) (ap (λ (x : Kept B). x.live) f) (ap (λ (x : Kept B). x.overflow) f) stays keeps rooms less loud sized more
          (ap (snap_books contents layers) f
          ∙ same_books (snap_books contents layers (record s { device = d })) (snap_books contents layers s) refl refl refl refl loud refl refl refl refl same refl refl refl refl refl)
          faulty

  -- of the origin, at the merging store
  module _ (dev : r.request.dev ≡ AtOrigin) where
    kind_merging : kind_of r.request ≡ OriginFlush
    kind_merging = origin_flushes r.request.dev r.request.op dev whole_flush

    -- a merge is begun
    pub whole_begun : v.merge ≢ None
    whole_begun none =
        let unmerged : UnmergedHolds r = subst UnmergedHolds (sym was) ((subst (OriginHolds (contents v.origin) v.flights) (ap (merge_books contents layers (is_loud (layers v.origin))) none) h.holds.merge) place r in_list) in
        whole_ne_origin (sym route ∙ unmerged.flush kind_merging)

    module _ (m : Merging B) (begun : v.merge ≡ Some m) where
      abbrev mb : MergeBooks
      mb = merging_books contents (is_loud (layers v.origin) && is_loud (layers m.device)) m

      begun_books : vb.merge ≡ Some mb
      begun_books = books_merged contents layers size v m begun

      -- the merge on another device, with these requests in flight
      module _ (d : B) (fs : List Flight) (bytes : contents d ≡ contents m.device) (loud : is_loud (layers d) ≡ is_loud (layers m.device)) (sized : size d ≡ size m.device) (more : done d ≡ next_count (done m.device)) where
        abbrev issued_on : Volumed B
        issued_on = record v { merge = Some (on_device m d); flights = fs }

        abbrev after : Books
        after = books_of contents layers size issued_on

        stays : StaysMerged layers size m (on_device m d)
        stays = record { number = refl; chunk_is = refl; origin = refl; loud = loud; sized = sized }

        fit : SnapsFit v.copies v.attached (size v.origin) v.snaps
        fit = record {
          snaps = h.snaps;
          counted = h.counted;
          apart = h.apart;
          numbers = h.numbers;
          few = h.few;
          few_copies = h.few_copies;
          numbers_left = h.numbers_left;
        }

        goes : IsMerged contents layers size (on_device m d) issued_on
        goes =
            let one : IsMerged contents layers size m v = merged_in contents layers size v m begun h in
            record {
              origin = one.origin;
              allowed = one.allowed;
              apart = one.apart;
              given = one.given;
              few = one.few;
              goes = λ l. goes_stored (map (snap_books contents layers) v.snaps) (contents d) (merging_due contents l m) (merging_due contents l (on_device m d)) (stores contents layers size l m d) (one.goes l);
              rooms = one.rooms;
            }

        left : left_by (dues_of contents layers v) (merge_due contents (Some (on_device m d))) ≤ left_by (dues_of contents layers v) (merge_due contents v.merge)
        left =
            let same = stored_left (contents d) (merging_due contents true m) (merging_due contents true (on_device m d)) (stores contents layers size true m d) in
            let at : left_by (dues_of contents layers v) (merge_due contents v.merge) ≡ left_in_merge (merging_due contents true m) + left_beside (map due_in (dues_of contents layers v)) (merging_due contents true m) =
            ap (λ x. left_by (dues_of contents layers v) (merge_due contents x)) begun in
            let beside : left_beside (map due_in (dues_of contents layers v)) (merging_due contents true (on_device m d)) ≡ left_beside (map due_in (dues_of contents layers v)) (merging_due contents true m) = refl in
            omega (arith, same, at, beside)

        loud_now : is_loud_in_all layers issued_on ≡ is_loud_in_all layers v
        loud_now = loud_merged contents layers size v m begun v.origin (on_device m d) stays (disk_stays layers size v.origin) fs

        kept : KeepsAll size v issued_on
        kept = kept_merged contents layers size v m begun v.origin (on_device m d) stays (disk_stays layers size v.origin) fs

        merge_is : after.merge ≡ vb.merge
        merge_is = same_merge contents layers size (is_loud (layers v.origin)) m d bytes loud ∙ sym begun_books

      -- it failed: the request is answered
      module _ (m' : Merging B) (d : B) (f : m' ≡ on_device m d) (bytes : contents d ≡ contents m.device) (loud : is_loud (layers d) ≡ is_loud (layers m.device)) (sized : size d ≡ size m.device) (more : done d ≡ next_count (done m.device)) where
        pub merging_flush_io : faults d ≡ next_count (faults m.device) → IsGood contents layers size faults done (Issue number) (Replied number (IsRefused Io)) v (record v { merge = Some m'; flights = remove v.flights place })
        merging_flush_io faulty =
            let fs : List Flight = remove v.flights place in
            let w : Volumed B = record v { merge = Some (on_device m d); flights = fs } in
            let wb : Books = books_of contents layers size w in
            let l : Bool = is_loud (layers v.origin) && is_loud (layers m.device) in
            let only : OnlyTakesOut number place r vb wb = record {
              out = record { found = found; was = was; requests = refl; sectors = refl; loud = refl; merge = merge_is d fs bytes loud sized more };
              origin = refl;
              snaps = refl;
            } in
            let waits : Waits wb = waits_out place vb wb h.waits in_list refl refl (merge_is d fs bytes loud sized more) in
            let cause : HasReplied faults number (IsRefused Io) v w = (
              merging_device v,
              record { place = place; flight = r; within = in_list; is = was; mine = mine; route = inr (inr (inr (inr (m, route, begun, refl, kind_merging)))) },
              record { counts = merged_store v m (on_device m d) begun v.origin fs faults refl faulty; lives = refl },
            ) in
            subst (λ (x : Merging B). IsGood contents layers size faults done (Issue number) (Replied number (IsRefused Io)) v (record v { merge = Some x; flights = remove v.flights place })) (sym f)
            (reply_good contents layers size faults done v w h number place (IsRefused Io) in_list refl refl refl refl (fit d fs bytes loud sized more) (goes d fs bytes loud sized more) (ap has_failed (sym begun)) (left d fs bytes loud sized more) (no_more _)
            (loud_now d fs bytes loud sized more) (kept d fs bytes loud sized more) refl (io_flush_event number place r vb wb h.holds only kind_merging) waits cause
            (inr (merging_device v, store_within v m (on_device m d) begun v.origin fs done, merged_store v m (on_device m d) begun v.origin fs done refl more))
            (taken_out number place (IsRefused Io) r vb wb only.out tt))

        -- it was flushed: the request goes on to the origin disk
        abbrev on : Flight
        on = record r { route = Origin }

        pub merging_flush : faults d ≡ faults m.device → IsGood contents layers size faults done (Issue number) Done v (record v { merge = Some m'; flights = set v.flights place on })
        merging_flush faulty =
            let fs : List Flight = set v.flights place on in
            let w : Volumed B = record v { merge = Some (on_device m d); flights = fs } in
            let wb : Books = books_of contents layers size w in
            let e : RoutesOn number place r vb wb = record { found = found; was = was; requests = refl; origin = refl; sectors = refl; loud = refl; snaps = refl; merge = merge_is d fs bytes loud sized more } in
            let event = routed_on_event number place r vb wb e kind_merging h.holds in
            let numbers : map number_of_flight fs ≡ map number_of_flight v.flights = map-set_same number_of_flight v.flights place on r (ap number_of_flight was) in
            let flown : map in_flight fs ≡ map in_flight v.flights = map-set_same in_flight v.flights place on r (ap in_flight was) in
            let lighter : sum_by weight_of fs < sum_by weight_of v.flights = routed_on_weight number place r vb wb e kind_merging route in
            let less = left d fs bytes loud sized more in
            let plain : plain_of contents layers w ≡ plain_of contents layers v = shown contents layers size w ∙ event.1 ∙ sym (shown contents layers size v) in
            subst (λ (x : Merging B). IsGood contents layers size faults done (Issue number) Done v (record v { merge = Some x; flights = set v.flights place on })) (sym f)
            (record {
              whole = record {
                holds = event.0;
                waits = routed_on_waits number place r vb wb e kind_merging h.waits;
                merge = goes d fs bytes loud sized more;
                snaps = h.snaps;
                counted = h.counted;
                apart = h.apart;
                numbers = h.numbers;
                requests = subst (AreNumbers v.requests) (sym numbers) h.requests;
                few = h.few;
                few_copies = h.few_copies;
                numbers_left = h.numbers_left;
                few_requests = omega (arith, h.few_requests, length-set v.flights place on);
              };
              stepped = record {
                legal = λ _. (plain, subst (IsBegunFlush number) (sym (shown contents layers size v)) (routed_on_begun number place r vb wb e kind_merging route h.holds));
                lower = omega (arith, less, lighter);
                loud = loud_now d fs bytes loud sized more;
                cause = record { counts = merged_same v m (on_device m d) begun v.origin fs faults refl faulty; lives = refl };
                failed = ap has_failed (sym begun);
                flown = record { request = r.request; asked = asked_first number place r v.flights found was; flush = whole_flush; same = flown };
                one = inr (merging_device v, store_within v m (on_device m d) begun v.origin fs done, merged_store v m (on_device m d) begun v.origin fs done refl more);
                kept = kept d fs bytes loud sized more;
                requests = refl;
                copies = omega arith;
                given = omega arith;
                overflows = refl;
              };
            })
