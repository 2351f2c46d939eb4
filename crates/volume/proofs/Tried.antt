-- A spoiled snapshot's mark is written, and tried once its store is flushed, or once one of the two failed.
use Rattle.std.proofs.Common.{◌≡◌, ℕ, suc, ◌<◌, Bool, true, false, List, length, get_or, set, map, refl, ◌∙◌, ap, sym, subst, arith, inl, inr}
use Rattle.std.proofs.lemmas.List.{map-set, get_or-set_same, length-map}
use Rattle.sector.specs.Bytes.{next_count}
use Rattle.device.specs.Layers.{Layer, is_loud}
use Rattle.plain_machine.specs.declared.event.Event.TheVariants.{FlushStore, WriteInvalid}
use Rattle.plain_machine.specs.declared.event.Outcome.TheVariants.{Done, Fault}
use Rattle.in_flight.specs.declared.flights.Flight.{Flight}
use Rattle.volume_laws.specs.Published.{is_clear}
use Rattle.volume_laws.specs.Again.{again_of}
use Rattle.volume_laws.specs.Steps.{TriesMark, WritesMark}
use Rattle.volume_laws.proofs.Rerouting.{mark_event}
use Rattle.volume_laws.proofs.Keeping.{mark_keeps}
use Rattle.volume_laws.proofs.Waiting.{waits_changed}
use Rattle.volume_laws.proofs.Left.{mark_left}
use Rattle.volume_laws.proofs.MergeRoomEvents.{mark_room}
use Rattle.snapshot.specs.Kept.{Kept, books_of as snap_books, due_of_kept}
use Rattle.snapshot_list.specs.Rooms.{merge_books, room_of}
use Rattle.volume.specs.Causes.{MarkFails}
use Rattle.volume.specs.Volumed.{Volumed, books_of}
use Rattle.volume.specs.Whole.{IsWhole, IsCounted}
use Rattle.snapshot_list.specs.Finding.{is_flushing, is_trying}
use Rattle.snapshot_list.specs.Numbers.{numbers_in}
use Rattle.volume.proofs.Changing.{StaysAttached, same_disk, changed, changes, few_same}
use Rattle.volume.proofs.Counting.{counts_same, counts_store, lives_same, store_within}
use Rattle.volume.proofs.Good.{IsGood, silent_good}
use Rattle.volume.proofs.StartsLeft.{left_same}
use Rattle.volume.proofs.AgainEvents.{tried_good, trying_number, trying_untried, trying_unmarked}
use Rattle.volume.proofs.StoreEvents.{flushing_number}
use Rattle.volume.proofs.MovedCounts.{counted_marked, counted_tried}

module _ {B : Type 0} (contents : B → List ℕ) (layers : B → List Layer) (size faults done : B → ℕ) (v : Volumed B) (h : IsWhole contents layers size v) (number : ℕ)
    (k : ℕ) (s s' : Kept B) (within : k < length v.snaps) (is : s ≡ get_or v.snaps k s) where
  -- the mark was written
  pub marked_done : is_trying number s ≡ true → (d : B) → s' ≡ record s { device = d; marked = true; state = record s.state { valid = false } } → WritesMark (snap_books contents layers s) (snap_books contents layers s')
      → is_loud (layers d) ≡ is_loud (layers s.device) → size d ≡ size s.device → done d ≡ next_count (done s.device) → faults d ≡ faults s.device → IsGood contents layers size faults done (WriteInvalid number) Done v (changed v v.origin k s' v.flights)
  marked_done found d f r loud sized counted faulty =
      let sb = snap_books contents layers in
      let w = changed v v.origin k s' v.flights in
      let disk = same_disk contents layers size v.origin in
      let e_is = changes contents layers size v v.origin k s s' within is disk in
      let device : s'.device ≡ d = ap (λ (x : Kept B). x.device) f in
      let stays : StaysAttached s s' = record {
        number = ap (λ (x : Kept B). x.number) f;
        chunk_is = ap (λ (x : Kept B). x.state.chunk) f;
        origin = ap (λ (x : Kept B). x.state.origin) f;
        numbers = inl (ap (λ (x : Kept B). numbers_in x) f);
        few = few_same s s' (ap (λ (x : Kept B). numbers_in x) f) (ap (λ (x : Kept B). x.merging) f);
        counted = λ counts. subst IsCounted (sym f) (counted_marked s counts d);
        left = left_same s s' (ap (λ (x : Kept B). x.live) f) (ap (λ (x : Kept B). x.state.size) f) (ap (λ (x : Kept B). x.next) f);
      } in
      silent_good contents layers size faults done v h (WriteInvalid number) Done (λ p q x. x) (λ xs ys e. e) (λ b. refl) v.origin k s s' within is disk (ap (λ x. is_loud (layers x)) device ∙ loud) (ap size device ∙ sized) v.flights refl refl stays (ap (λ (x : Kept B). x.overflow) f)
      (mark_event k (sb s) (sb s') (books_of contents layers size v) (books_of contents layers size w) h.holds e_is r)
      (waits_changed k (sb s) (sb s') (books_of contents layers size v) (books_of contents layers size w) h.waits e_is (mark_keeps (sb s) (sb s') r))
      (mark_left (due_of_kept contents layers s) (due_of_kept contents layers s') (trying_untried contents layers size faults done v h number k s s' within is found) (trying_unmarked contents layers size faults done v h number k s s' within is found) r)
      (record { counts = counts_same v v.origin k s s' v.flights within is faults refl (ap faults device ∙ faulty); lives = lives_same v v.origin k s s' v.flights within is (ap (λ (x : Kept B). x.live) f) })
      (inr (suc k, store_within v v.origin k s s' v.flights within is done, counts_store v v.origin k s s' v.flights within is done refl (ap done device ∙ counted)))
      (mark_room (room_of contents layers s) (room_of contents layers s') r)

  -- the mark was tried: the snapshot differs in its device and in what is said of the mark
  module _ (d : B) (stale : Bool) (f : s' ≡ record s { device = d; untried = false; stale = stale })
      (t : TriesMark (snap_books contents layers s) (snap_books contents layers s')) (loud : is_loud (layers d) ≡ is_loud (layers s.device)) (sized : size d ≡ size s.device) (counted : done d ≡ next_count (done s.device)) where
    abbrev flights : List Flight
    flights = map (again_of (merge_books contents layers true v.merge) (is_clear (map (snap_books contents layers) (set v.snaps k s')))) v.flights

    device : s'.device ≡ d
    device = ap (λ (x : Kept B). x.device) f

    abbrev Kept-parts : Type 0
    Kept-parts = (s'.number ≡ s.number) × (s'.live ≡ s.live) × ((s'.state.chunk ≡ s.state.chunk) × (s'.state.origin ≡ s.state.origin)) × (s'.copies ≡ s.copies) × (s'.marks ≡ s.marks) × (s'.merging ≡ s.merging)

    parts : Kept-parts
    parts = (
      ap (λ (x : Kept B). x.number) f,
      ap (λ (x : Kept B). x.live) f,
      (ap (λ (x : Kept B). x.state.chunk) f, ap (λ (x : Kept B). x.state.origin) f),
      ap (λ (x : Kept B). x.copies) f,
      ap (λ (x : Kept B). x.marks) f,
      ap (λ (x : Kept B). x.merging) f,
    )

    counted_so : IsCounted s → IsCounted s'
    counted_so was = subst IsCounted (sym f) (counted_tried s was d stale)

    lives : map (λ (x : Kept B). x.live) (set v.snaps k s') ≡ map (λ (x : Kept B). x.live) v.snaps
    lives = lives_same v v.origin k s s' flights within is parts.1

    -- the failure of its write, or of the flush after it
    fails : s.number ≡ number → s.untried ≡ true → stale ≡ true → faults d ≡ next_count (faults s.device) → MarkFails faults number v (changed v v.origin k s' flights)
    fails mine untried now faulty = record {
      place = k;
      snap = s;
      at = record { within = within; is = is };
      mine = mine;
      untried = untried;
      stale = ap (λ xs. get_or xs k false) (map-set (λ (x : Kept B). x.stale) v.snaps k s') ∙ get_or-set_same (map (λ (x : Kept B). x.stale) v.snaps) k s'.stale false (omega (arith, within, length-map v.snaps (λ (x : Kept B). x.stale)))
          ∙ ap (λ (x : Kept B). x.stale) f ∙ now;
      fails = record { counts = counts_store v v.origin k s s' flights within is faults refl (ap faults device ∙ faulty); lives = lives };
    }

    pub marked_fault : is_trying number s ≡ true → stale ≡ true → faults d ≡ next_count (faults s.device) → IsGood contents layers size faults done (WriteInvalid number) Fault v (changed v v.origin k s' flights)
    marked_fault found now faulty = tried_good contents layers size faults done v h number k s s' within is (WriteInvalid number) Fault (λ p q x. x) (λ xs ys e. e) (λ b. refl) parts t (trying_untried contents layers size faults done v h number k s s' within is found)
        (ap (λ x. is_loud (layers x)) device ∙ loud) (ap size device ∙ sized) (ap done device ∙ counted) counted_so (fails (trying_number contents layers size faults done v h number k s s' within is found) (trying_untried contents layers size faults done v h number k s s' within is found) now faulty)

    pub tried_done : is_flushing number s ≡ true → s.untried ≡ true → faults d ≡ faults s.device → IsGood contents layers size faults done (FlushStore number) Done v (changed v v.origin k s' flights)
    tried_done found untried faulty = tried_good contents layers size faults done v h number k s s' within is (FlushStore number) Done (λ p q x. x) (λ xs ys e. e) (λ b. refl) parts t untried
        (ap (λ x. is_loud (layers x)) device ∙ loud) (ap size device ∙ sized) (ap done device ∙ counted) counted_so (record { counts = counts_same v v.origin k s s' flights within is faults refl (ap faults device ∙ faulty); lives = lives })

    pub tried_fault : is_flushing number s ≡ true → s.untried ≡ true → stale ≡ true → faults d ≡ next_count (faults s.device) → IsGood contents layers size faults done (FlushStore number) Fault v (changed v v.origin k s' flights)
    tried_fault found untried now faulty = tried_good contents layers size faults done v h number k s s' within is (FlushStore number) Fault (λ p q x. x) (λ xs ys e. e) (λ b. refl) parts t untried
        (ap (λ x. is_loud (layers x)) device ∙ loud) (ap size device ∙ sized) (ap done device ∙ counted) counted_so (inr (fails (flushing_number number s found) untried now faulty))
