-- The events of one store: an area is zeroed, the first copies are committed, and it is flushed.
use Rattle.std.proofs.Common.{◌≡◌, inl, inr, ℕ, zero, suc, ◌+◌, ◌-◌, ◌*◌, ◌<◌, ◌≤◌, Bool, true, false, List, [], ◌∷◌, ◌++◌, length, get_or, map, take, drop, refl, ◌∙◌, ap, arith, nat_eq, eq-eqb, append_assoc, sym, subst}
use Rattle.std.specs.Prelude.{◌&&◌, ◌||◌, not, if◌then◌else◌}
use Rattle.std.specs.List.{list_any}
use Rattle.std.proofs.lemmas.Bool.{cases_Bool, false≢true, eqb-true}
use Rattle.std.proofs.lemmas.List.{map-append}
use Rattle.sector.specs.Bytes.{next_count}
use Rattle.device.specs.Layers.{Layer, is_loud}
use Rattle.cow_format.specs.NextPlace.{LacksArea}
use Rattle.cow_format.specs.Places.{area_place}
use Rattle.plain_machine.specs.declared.event.Event.TheVariants.{FlushStore, ZeroNext, WriteArea}
use Rattle.plain_machine.specs.declared.event.Outcome.TheVariants.{Done, Fault}
use Rattle.in_flight.specs.Due.{number_of_copy, number_of_mark, front_ready, front_unflushed}
use Rattle.in_flight.specs.Flushed.{flushed_copy, safe_mark}
use Rattle.in_flight.specs.Routes.{refused_of}
use Rattle.in_flight.proofs.Batches.{batch_some}
use Rattle.in_flight.specs.declared.copies.ChunkCopy.{ChunkCopy}
use Rattle.in_flight.specs.declared.copies.Mark.{Mark}
use Rattle.store.specs.declared.state.State.{State}
use Rattle.store.specs.Stored.{after_commit}
use Rattle.volume_laws.specs.Held.{LiveHolds}
use Rattle.volume_laws.specs.Steps.{ChangesSnap, ZeroesArea, Commits, FlushesStore, mark_of}
use Rattle.volume_laws.specs.Due.{is_unsafe}
use Rattle.volume_laws.proofs.WholeOne.{snap_holds, live_by_copy, zero_event, commit_event, flush_event}
use Rattle.volume_laws.proofs.Keeping.{zero_keeps, commit_keeps, flush_keeps}
use Rattle.volume_laws.proofs.Waiting.{waits_changed}
use Rattle.volume_laws.proofs.FlushLeft.{flush_left, flush_spoil_left}
use Rattle.volume_laws.proofs.Left.{zero_left, commit_left}
use Rattle.volume_laws.proofs.MergeRoomEvents.{zero_room, commit_room, flush_room}
use Rattle.snapshot_list.specs.Rooms.{room_of}
use Rattle.snapshot.specs.Kept.{Kept, books_of as snap_books, due_of_kept, batch_of, fills_area, needs_area, waits_area, spare_after}
use Rattle.volume.specs.Volumed.{Volumed, books_of}
use Rattle.snapshot_list.specs.Numbers.{numbers_in}
use Rattle.volume.specs.Whole.{IsWhole, IsCounted}
use Rattle.snapshot_list.specs.Finding.{is_committing, is_flushing, is_zeroing, waits_for_flush}
use Rattle.volume.proofs.Changing.{SameDisk, same_disk, StaysAttached, few_same, changed, books_within, books_is, changes}
use Rattle.volume.proofs.Counting.{counts_same, counts_store, store_within, lives_same, lives_spoiled, lived}
use Rattle.volume.proofs.CopyEvents.{both_left, both_right}
use Rattle.volume.proofs.Good.{IsGood, SpoiltTo, silent_good, spoilt_good, spoilt_with}
use Rattle.volume.proofs.StartsLeft.{left_same}
use Rattle.volume.proofs.MovedCounts.{counted_zeroed, counted_first, counted_flushed}

-- the first copy may be committed
pub first_some : (copies : List ChunkCopy) → front_ready copies ≡ true → 0 < length copies
first_some [] e = absurd (false≢true e)
first_some (p ∷ ps) e = omega arith

unnot : (b : Bool) → not b ≡ true → b ≡ false
unnot true e = absurd (false≢true e)
unnot false e = refl

-- what a test of a snapshot found
module _ {B : Type 0} (number : ℕ) (s : Kept B) where
  pub zeroing_number : is_zeroing number s ≡ true → s.number ≡ number
  zeroing_number e = eqb-true s.number number (both_left (nat_eq s.number number) (front_ready s.copies && needs_area s.state s.copies) e)

  pub zeroing_front : is_zeroing number s ≡ true → front_ready s.copies ≡ true
  zeroing_front e = both_left (front_ready s.copies) (needs_area s.state s.copies) (both_right (nat_eq s.number number) (front_ready s.copies && needs_area s.state s.copies) e)

  pub zeroing_due : is_zeroing number s ≡ true → needs_area s.state s.copies ≡ true
  zeroing_due e = both_right (front_ready s.copies) (needs_area s.state s.copies) (both_right (nat_eq s.number number) (front_ready s.copies && needs_area s.state s.copies) e)

  pub zeroing_needs : is_zeroing number s ≡ true → s.state.zeroed ≡ false
  zeroing_needs e = not_true s.state.zeroed (both_right (nat_eq (s.state.filled + batch_of s.state s.copies) (32 * s.state.chunk)) (not s.state.zeroed)
      (both_right (front_ready s.copies) (needs_area s.state s.copies) (both_right (nat_eq s.number number) (front_ready s.copies && needs_area s.state s.copies) e)))
    where
      not_true : (b : Bool) → not b ≡ true → b ≡ false
      not_true true h = absurd (false≢true h)
      not_true false h = refl

  pub committing_number : is_committing number s ≡ true → s.number ≡ number
  committing_number e = eqb-true s.number number (both_left (nat_eq s.number number) (front_ready s.copies && not (waits_area s.state s.copies)) e)

  pub committing_front : is_committing number s ≡ true → front_ready s.copies ≡ true
  committing_front e = both_left (front_ready s.copies) (not (waits_area s.state s.copies)) (both_right (nat_eq s.number number) (front_ready s.copies && not (waits_area s.state s.copies)) e)

  -- a full area's next one is firm
  pub committing_next : is_committing number s ≡ true → s.state.filled + batch_of s.state s.copies ≡ 32 * s.state.chunk → s.state.firm ≡ true
  committing_next e full =
      let kept : not (waits_area s.state s.copies) ≡ true = both_right (front_ready s.copies) (not (waits_area s.state s.copies)) (both_right (nat_eq s.number number) (front_ready s.copies && not (waits_area s.state s.copies)) e) in
      at (nat_eq (s.state.filled + batch_of s.state s.copies) (32 * s.state.chunk)) s.state.firm (eq-eqb (s.state.filled + batch_of s.state s.copies) (32 * s.state.chunk) full) kept
    where
      at : (a b : Bool) → a ≡ true → not (a && not b) ≡ true → b ≡ true
      at true true f k = refl
      at true false f k = absurd (false≢true k)
      at false b f k = absurd (false≢true f)

  pub flushing_number : is_flushing number s ≡ true → s.number ≡ number
  flushing_number e = eqb-true s.number number (both_left (nat_eq s.number number) (waits_for_flush s) e)

  pub flushing_due : is_flushing number s ≡ true → waits_for_flush s ≡ true
  flushing_due e = both_right (nat_eq s.number number) (waits_for_flush s) e

-- the area that a snapshot's first copies fill, and which is not firm yet
module _ {B : Type 0} (s : Kept B) where
  pub waits_unfirm : waits_area s.state s.copies ≡ true → s.state.firm ≡ false
  waits_unfirm e = unnot s.state.firm (both_right (fills_area s.state s.copies) (not s.state.firm) e)

  pub waits_zeroed : waits_area s.state s.copies ≡ true → needs_area s.state s.copies ≡ false → s.state.zeroed ≡ true
  waits_zeroed e needless = zeroed_by (fills_area s.state s.copies) s.state.zeroed (both_left (fills_area s.state s.copies) (not s.state.firm) e) needless
    where
      zeroed_by : (a b : Bool) → a ≡ true → (a && not b) ≡ false → b ≡ true
      zeroed_by true true f k = refl
      zeroed_by true false f k = absurd (false≢true (sym k))
      zeroed_by false b f k = absurd (false≢true f)

-- a live snapshot's mark is not written: it is not over a call that keeps both
pub live_unmarked : {B : Type 0} (s t : Kept B) → t.marked ≡ s.marked → t.live ≡ s.live → s.live ≡ true → (t.marked ≡ true → t.live ≡ false) → s.marked ≡ false
live_unmarked s t marked same live dead = elim (cases_Bool s.marked) [
  | inl there ↦ absurd (false≢true (sym (dead (marked ∙ there)) ∙ same ∙ live))
  | inr not_there ↦ not_there
]

-- the numbers of copies and marks over a flush
pub flushed_numbers : (marks : List Mark) (copies : List ChunkCopy) → map number_of_mark (map safe_mark marks) ++ map number_of_copy (map flushed_copy copies) ≡ map number_of_mark marks ++ map number_of_copy copies
flushed_numbers [] [] = refl
flushed_numbers [] (p ∷ ps) = ap (λ ns. p.number ∷ ns) (flushed_numbers [] ps)
flushed_numbers (m ∷ ms) copies = ap (λ ns. m.number ∷ ns) (flushed_numbers ms copies)

or_false : (b rest : Bool) → (b || false || (false && rest) || false) ≡ b
or_false true rest = refl
or_false false rest = refl

-- a commit keeps the store's sizes
state_parts : (b : Bool) (s x y : State) → x.chunk ≡ s.chunk → y.chunk ≡ s.chunk → x.origin ≡ s.origin → y.origin ≡ s.origin → x.size ≡ s.size → y.size ≡ s.size → ((if b then x else y).chunk ≡ s.chunk) × ((if b then x else y).origin ≡ s.origin) × ((if b then x else y).size ≡ s.size)
state_parts true s x y xc yc xo yo xs ys = (xc, xo, xs)
state_parts false s x y xc yc xo yo xs ys = (yc, yo, ys)

commit_sizes : (s : State) (count : ℕ) → ((after_commit s count).chunk ≡ s.chunk) × ((after_commit s count).origin ≡ s.origin) × ((after_commit s count).size ≡ s.size)
commit_sizes s count = state_parts (nat_eq (s.filled + count) (32 * s.chunk)) s (record s { current = s.current + 1; filled = 0; zeroed = false; firm = false }) (record s { filled = s.filled + count }) refl refl refl refl refl refl

-- and the copies' numbers
commit_front : (count : ℕ) (copies : List ChunkCopy) → map number_of_mark (map mark_of (take count copies)) ++ map number_of_copy (drop count copies) ≡ map number_of_copy copies
commit_front zero copies = refl
commit_front (suc count) [] = refl
commit_front (suc count) (p ∷ ps) = ap (λ ns. p.number ∷ ns) (commit_front count ps)

commit_numbers : (count : ℕ) (marks : List Mark) (copies : List ChunkCopy) → map number_of_mark (marks ++ map mark_of (take count copies)) ++ map number_of_copy (drop count copies) ≡ map number_of_mark marks ++ map number_of_copy copies
commit_numbers count marks copies =
    ap (λ ns. ns ++ map number_of_copy (drop count copies)) (map-append number_of_mark marks (map mark_of (take count copies)))
    ∙ append_assoc (map number_of_mark marks) (map number_of_mark (map mark_of (take count copies))) (map number_of_copy (drop count copies))
    ∙ ap (λ ns. map number_of_mark marks ++ ns) (commit_front count copies)

module _ {B : Type 0} (contents : B → List ℕ) (layers : B → List Layer) (size faults done : B → ℕ) (v : Volumed B) (h : IsWhole contents layers size v) (number : ℕ)
    (k : ℕ) (s s' : Kept B) (within : k < length v.snaps) (is : s ≡ get_or v.snaps k s) where
  abbrev o' : B
  o' = v.origin

  disk : SameDisk contents layers size v.origin v.origin
  disk = same_disk contents layers size v.origin

  sb_is : snap_books contents layers s ≡ get_or (map (snap_books contents layers) v.snaps) k (snap_books contents layers s)
  sb_is = books_is contents layers size v v.origin k s s' within is

  sb_in : k < length (map (snap_books contents layers) v.snaps)
  sb_in = books_within contents layers size v v.origin k s s' within is

  -- one whose first copy may be committed is live
  pub front_live : front_ready s.copies ≡ true → s.live ≡ true
  front_live e = live_by_copy (contents v.origin) v.flights (snap_books contents layers s) 0 (snap_holds (books_of contents layers size v) k (snap_books contents layers s) h.holds sb_in sb_is) (first_some s.copies e)

  e_is : ChangesSnap k (snap_books contents layers s) (snap_books contents layers s') (books_of contents layers size v) (books_of contents layers size (changed v v.origin k s' v.flights))
  e_is = changes contents layers size v v.origin k s s' within is disk

  holds_live : (live : s.live ≡ true) → LiveHolds (is_loud (layers v.origin)) (contents v.origin) v.flights (snap_books contents layers s)
  holds_live live = (snap_holds (books_of contents layers size v) k (snap_books contents layers s) h.holds sb_in sb_is).alive live

  pub zero_good : is_zeroing number s ≡ true → (s.state.firm ≡ true → s.state.zeroed ≡ true) → (d : B) → s' ≡ record s { device = d; state = record s.state { zeroed = true; firm = false } } → ZeroesArea (s.state.current + 1) (snap_books contents layers s) (snap_books contents layers s')
      → is_loud (layers d) ≡ is_loud (layers s.device) → size d ≡ size s.device → faults d ≡ faults s.device → done d ≡ next_count (done s.device) → IsGood contents layers size faults done (ZeroNext number) Done v (changed v v.origin k s' v.flights)
  zero_good found ahead d f r loud sized faulty counted =
      let sb = snap_books contents layers in
      let w = changed v v.origin k s' v.flights in
      let live = front_live (zeroing_front number s found) in
      let device : s'.device ≡ d = ap (λ (x : Kept B). x.device) f in
      let stays : StaysAttached s s' = record {
        number = ap (λ (x : Kept B). x.number) f;
        chunk_is = ap (λ (x : Kept B). x.state.chunk) f;
        origin = ap (λ (x : Kept B). x.state.origin) f;
        numbers = inl (ap (λ (x : Kept B). numbers_in x) f);
        few = few_same s s' (ap (λ (x : Kept B). numbers_in x) f) (ap (λ (x : Kept B). x.merging) f);
        counted = λ counts. subst IsCounted (sym f) (counted_zeroed s counts d);
        left = left_same s s' (ap (λ (x : Kept B). x.live) f) (ap (λ (x : Kept B). x.state.size) f) (ap (λ (x : Kept B). x.next) f);
      } in
      silent_good contents layers size faults done v h (ZeroNext number) Done (λ a b x. x) (λ xs ys e. e) (λ b. refl) v.origin k s s' within is disk (ap (λ x. is_loud (layers x)) device ∙ loud) (ap size device ∙ sized) v.flights refl refl stays (ap (λ (x : Kept B). x.overflow) f)
      (zero_event k (sb s) (sb s') (books_of contents layers size v) (books_of contents layers size w) h.holds e_is (s.state.current + 1) live r)
      (waits_changed k (sb s) (sb s') (books_of contents layers size v) (books_of contents layers size w) h.waits e_is (zero_keeps (s.state.current + 1) (sb s) (sb s') r))
      (zero_left (s.state.current + 1) (due_of_kept contents layers s) (due_of_kept contents layers s') r live (zeroing_needs number s found) (unfirm ahead) (ap (λ (x : Kept B). x.state.zeroed) f) (ap (λ (x : Kept B). x.state.firm) f))
      (inl (record { counts = counts_same v v.origin k s s' v.flights within is faults refl (ap faults device ∙ faulty); lives = lives_same v v.origin k s s' v.flights within is (ap (λ (x : Kept B). x.live) f) }))
      (inr (suc k, store_within v v.origin k s s' v.flights within is done, counts_store v v.origin k s s' v.flights within is done refl (ap done device ∙ counted)))
      (zero_room (s.state.current + 1) (room_of contents layers s) (room_of contents layers s') r (record { kept_back = ap (λ (x : Kept B). x.kept_back) f; spare = ap (λ (x : Kept B). x.spare) f; merging = ap (λ (x : Kept B). x.merging) f }))
    where
      unfirm : (s.state.firm ≡ true → s.state.zeroed ≡ true) → s.state.firm ≡ false
      unfirm ahead = elim (cases_Bool s.state.firm) [
        | inl there ↦ absurd (false≢true (sym (zeroing_needs number s found) ∙ ahead there))
        | inr not_there ↦ not_there
      ]

  -- the store failed
  pub zero_fault : is_zeroing number s ≡ true → s.state.chunk * (area_place s.state.chunk (s.state.current + 1) + 1) ≤ s.state.size → SpoiltTo s s' → is_loud (layers s'.device) ≡ is_loud (layers s.device) → size s'.device ≡ size s.device → faults s'.device ≡ next_count (faults s.device) → done s'.device ≡ next_count (done s.device)
      → IsGood contents layers size faults done (ZeroNext number) Fault v (changed v v.origin k s' (map (refused_of (s.number ∷ [])) v.flights))
  zero_fault found there t loud sized faulty counted =
      let flights = map (refused_of (s.number ∷ [])) v.flights in
      let live = front_live (zeroing_front number s found) in
      spoilt_good contents layers size faults done v h (ZeroNext number) Fault (λ a b x. x) (λ xs ys e. e) (λ b. refl) v.origin k s s' within is disk loud sized live (first_some s.copies (zeroing_front number s found)) t
      (record {
        place = k;
        snap = s;
        at = record { within = within; is = is };
        mine = zeroing_number number s found;
        there = there;
        spoils = record { counts = counts_store v v.origin k s s' flights within is faults refl faulty; was = lived v v.origin k s s' flights within is live; lives = lives_spoiled v v.origin k s s' flights within is t.live };
      })
      (inr (suc k, store_within v v.origin k s s' flights within is done, counts_store v v.origin k s s' flights within is done refl counted))

  -- the store has no room for the area
  pub zero_lacks : is_zeroing number s ≡ true → SpoiltTo s s' → s'.device ≡ s.device → LacksArea s.state.chunk s.state.size (s.state.current + 1)
      → IsGood contents layers size faults done (ZeroNext number) Done v (changed v v.origin k s' (map (refused_of (s.number ∷ [])) v.flights))
  zero_lacks found t device lacks =
      let flights = map (refused_of (s.number ∷ [])) v.flights in
      let live = front_live (zeroing_front number s found) in
      spoilt_good contents layers size faults done v h (ZeroNext number) Done (λ a b x. x) (λ xs ys e. e) (λ b. refl) v.origin k s s' within is disk (ap (λ x. is_loud (layers x)) device) (ap size device) live (first_some s.copies (zeroing_front number s found)) t
      (inr (record {
        place = k;
        snap = s;
        at = record { within = within; is = is };
        mine = zeroing_number number s found;
        lacks = lacks;
        counts = counts_same v v.origin k s s' flights within is faults refl (ap faults device);
        lives = lives_spoiled v v.origin k s s' flights within is t.live;
      }))
      (inl (counts_same v v.origin k s s' flights within is done refl (ap done device)))

  pub commit_good : is_committing number s ≡ true → (d : B) (count : ℕ) → count ≡ batch_of s.state s.copies
      → s' ≡ record s { device = d; state = after_commit s.state count; pairs = s.pairs ++ take count s.begun; begun = drop count s.begun; copies = drop count s.copies; marks = s.marks ++ map mark_of (take count s.copies); spare = spare_after count s }
      → Commits count s.state.current (snap_books contents layers s) (snap_books contents layers s')
      → is_loud (layers d) ≡ is_loud (layers s.device) → size d ≡ size s.device → faults d ≡ faults s.device → done d ≡ next_count (done s.device) → IsGood contents layers size faults done (WriteArea number) Done v (changed v v.origin k s' v.flights)
  commit_good found d count batched f r loud sized faulty counted =
      let sb = snap_books contents layers in
      let w = changed v v.origin k s' v.flights in
      let live = front_live (committing_front number s found) in
      let device : s'.device ≡ d = ap (λ (x : Kept B). x.device) f in
      let counts : IsCounted s = subst IsCounted (sym is) (h.counted k s within) in
      let below = counts.fits live in
      let many = batch_some (32 * s.state.chunk - s.state.filled) s.copies (committing_front number s found) (omega (arith, below)) in
      let sizes = commit_sizes s.state count in
      let stays : StaysAttached s s' = record {
        number = ap (λ (x : Kept B). x.number) f;
        chunk_is = ap (λ (x : Kept B). x.state.chunk) f ∙ sizes.0;
        origin = ap (λ (x : Kept B). x.state.origin) f ∙ sizes.1;
        numbers = inl (ap (λ (x : Kept B). numbers_in x) f ∙ commit_numbers count s.marks s.copies);
        few = few_same s s' (ap (λ (x : Kept B). numbers_in x) f ∙ commit_numbers count s.marks s.copies) (ap (λ (x : Kept B). x.merging) f);
        counted = λ counts. subst IsCounted (sym f) (counted_first s counts live d count batched (holds_live live).agree);
        left = left_same s s' (ap (λ (x : Kept B). x.live) f) (ap (λ (x : Kept B). x.state.size) f ∙ sizes.2) (ap (λ (x : Kept B). x.next) f);
      } in
      silent_good contents layers size faults done v h (WriteArea number) Done (λ a b x. x) (λ xs ys e. e) (λ b. refl) v.origin k s s' within is disk (ap (λ x. is_loud (layers x)) device ∙ loud) (ap size device ∙ sized) v.flights refl refl stays (ap (λ (x : Kept B). x.overflow) f)
      (commit_event k (sb s) (sb s') (books_of contents layers size v) (books_of contents layers size w) h.holds e_is count s.state.current live r)
      (waits_changed k (sb s) (sb s') (books_of contents layers size v) (books_of contents layers size w) h.waits e_is (commit_keeps (contents v.origin) v.flights count s.state.current (sb s) (sb s') (holds_live live) r))
      (commit_left count s.state.current (due_of_kept contents layers s) (due_of_kept contents layers s') r (omega (arith, batched, many)))
      (record { counts = counts_same v v.origin k s s' v.flights within is faults refl (ap faults device ∙ faulty); lives = lives_same v v.origin k s s' v.flights within is (ap (λ (x : Kept B). x.live) f) })
      (inr (suc k, store_within v v.origin k s s' v.flights within is done, counts_store v v.origin k s s' v.flights within is done refl (ap done device ∙ counted)))
      (commit_room (contents v.origin) v.flights count s.state.current (room_of contents layers s) (room_of contents layers s') (holds_live live) r (record { kept_back = ap (λ (x : Kept B). x.kept_back) f; spare = ap (λ (x : Kept B). x.spare) f; merging = ap (λ (x : Kept B). x.merging) f }))

  -- the store failed
  pub commit_fault : is_committing number s ≡ true → SpoiltTo s s' → is_loud (layers s'.device) ≡ is_loud (layers s.device) → size s'.device ≡ size s.device → faults s'.device ≡ next_count (faults s.device) → done s'.device ≡ next_count (done s.device)
      → IsGood contents layers size faults done (WriteArea number) Fault v (changed v v.origin k s' (map (refused_of (s.number ∷ [])) v.flights))
  commit_fault found t loud sized faulty counted =
      let flights = map (refused_of (s.number ∷ [])) v.flights in
      let live = front_live (committing_front number s found) in
      spoilt_good contents layers size faults done v h (WriteArea number) Fault (λ a b x. x) (λ xs ys e. e) (λ b. refl) v.origin k s s' within is disk loud sized live (first_some s.copies (committing_front number s found)) t
      (record {
        place = k;
        snap = s;
        at = record { within = within; is = is };
        mine = committing_number number s found;
        spoils = record { counts = counts_store v v.origin k s s' flights within is faults refl faulty; was = lived v v.origin k s s' flights within is live; lives = lives_spoiled v v.origin k s s' flights within is t.live };
      })
      (inr (suc k, store_within v v.origin k s s' flights within is done, counts_store v v.origin k s s' flights within is done refl counted))

  -- a live snapshot's store was flushed
  pub flush_good : is_flushing number s ≡ true → s.live ≡ true → (s.state.firm ≡ true → s.state.zeroed ≡ true) → (d : B)
      → s' ≡ record s { device = d; state = record s.state { firm = s.state.zeroed; sure = length s.pairs }; copies = map flushed_copy s.copies; marks = map safe_mark s.marks }
      → FlushesStore (snap_books contents layers s) (snap_books contents layers s')
      → is_loud (layers d) ≡ is_loud (layers s.device) → size d ≡ size s.device → faults d ≡ faults s.device → done d ≡ next_count (done s.device) → IsGood contents layers size faults done (FlushStore number) Done v (changed v v.origin k s' v.flights)
  flush_good found live ahead d f r loud sized faulty counted =
      let sb = snap_books contents layers in
      let w = changed v v.origin k s' v.flights in
      let device : s'.device ≡ d = ap (λ (x : Kept B). x.device) f in
      let same : numbers_in s' ≡ numbers_in s = ap (λ (x : Kept B). numbers_in x) f ∙ flushed_numbers s.marks s.copies in
      let stays : StaysAttached s s' = record {
        number = ap (λ (x : Kept B). x.number) f;
        chunk_is = ap (λ (x : Kept B). x.state.chunk) f;
        origin = ap (λ (x : Kept B). x.state.origin) f;
        numbers = inl same;
        few = few_same s s' same (ap (λ (x : Kept B). x.merging) f);
        counted = λ counts. subst IsCounted (sym f) (counted_flushed s counts d s.state.zeroed (length s.pairs) (map flushed_copy s.copies) (map safe_mark s.marks) (λ e. ap (map flushed_copy) e));
        left = left_same s s' (ap (λ (x : Kept B). x.live) f) (ap (λ (x : Kept B). x.state.size) f) (ap (λ (x : Kept B). x.next) f);
      } in
      silent_good contents layers size faults done v h (FlushStore number) Done (λ a b x. x) (λ xs ys e. e) (λ b. refl) v.origin k s s' within is disk (ap (λ x. is_loud (layers x)) device ∙ loud) (ap size device ∙ sized) v.flights refl refl stays (ap (λ (x : Kept B). x.overflow) f)
      (flush_event k (sb s) (sb s') (books_of contents layers size v) (books_of contents layers size w) h.holds e_is live r)
      (waits_changed k (sb s) (sb s') (books_of contents layers size v) (books_of contents layers size w) h.waits e_is (flush_keeps (sb s) (sb s') r))
      (flush_left (due_of_kept contents layers s) (due_of_kept contents layers s') r live (holds_live live).tried (ap (λ (x : Kept B). x.state.zeroed) f) (ap (λ (x : Kept B). x.state.firm) f) ahead (waits_unfirm s) (waits_zeroed s) (flushing_due number s found))
      (record { counts = counts_same v v.origin k s s' v.flights within is faults refl (ap faults device ∙ faulty); lives = lives_same v v.origin k s s' v.flights within is (ap (λ (x : Kept B). x.live) f) })
      (inr (suc k, store_within v v.origin k s s' v.flights within is done, counts_store v v.origin k s s' v.flights within is done refl (ap done device ∙ counted)))
      (flush_room (room_of contents layers s) (room_of contents layers s') r (record { kept_back = ap (λ (x : Kept B). x.kept_back) f; spare = ap (λ (x : Kept B). x.spare) f; merging = ap (λ (x : Kept B). x.merging) f }))

  -- its flush failed
  pub flush_fault : is_flushing number s ≡ true → s.live ≡ true → SpoiltTo s s' → is_loud (layers s'.device) ≡ is_loud (layers s.device) → size s'.device ≡ size s.device → faults s'.device ≡ next_count (faults s.device) → done s'.device ≡ next_count (done s.device)
      → IsGood contents layers size faults done (FlushStore number) Fault v (changed v v.origin k s' (map (refused_of (s.number ∷ [])) v.flights))
  flush_fault found live t loud sized faulty counted =
      let flights = map (refused_of (s.number ∷ [])) v.flights in
      spoilt_with contents layers size faults done v h (FlushStore number) Fault (λ a b x. x) (λ xs ys e. e) (λ b. refl) v.origin k s s' within is disk loud sized live
      (λ spoils. flush_spoil_left (due_of_kept contents layers s) (due_of_kept contents layers s') spoils (holds_live live).tried (flushing_due number s found)) t
      (inl (record {
        place = k;
        snap = s;
        at = record { within = within; is = is };
        mine = flushing_number number s found;
        spoils = record { counts = counts_store v v.origin k s s' flights within is faults refl faulty; was = lived v v.origin k s s' flights within is live; lives = lives_spoiled v v.origin k s s' flights within is t.live };
      }))
      (inr (suc k, store_within v v.origin k s s' flights within is done, counts_store v v.origin k s s' flights within is done refl counted))

  -- one that is spoiled waits for the flush after its mark
  pub flush_marked : is_flushing number s ≡ true → s.live ≡ false → (s.untried ≡ true) × (s.marked ≡ true)
  flush_marked found dead =
      let counts : IsCounted s = subst IsCounted (sym is) (h.counted k s within) in
      let gone = (snap_holds (books_of contents layers size v) k (snap_books contents layers s) h.holds sb_in sb_is).spoilt dead in
      let rest : Bool = waits_area s.state s.copies && not (needs_area s.state s.copies) in
      let tried : (s.untried && s.marked) ≡ true =
      sym (or_false (s.untried && s.marked) rest) ∙ sym (ap (λ (cs : List ChunkCopy). (s.untried && s.marked) || front_unflushed cs || (front_ready cs && rest) || list_any is_unsafe s.marks) gone.copies
      ∙ ap (λ (ms : List Mark). (s.untried && s.marked) || false || (false && rest) || list_any is_unsafe ms) gone.unpublished) ∙ flushing_due number s found in
      (both_left s.untried s.marked tried, both_right s.untried s.marked tried)
