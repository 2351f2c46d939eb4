-- The events of one copy: it is read from the origin disk, and written to its place.
use Rattle.std.proofs.Common.{◌≡◌, inl, inr, ℕ, suc, ◌<◌, Bool, true, false, List, [], ◌∷◌, ◌++◌, Some, length, get_or, set, map, refl, ◌∙◌, ap, arith, nat_eq, sym, subst}
use Rattle.std.specs.Prelude.{◌&&◌, Any}
use Rattle.std.specs.List.{position}
use Rattle.std.proofs.lemmas.Bool.{false≢true, eqb-true}
use Rattle.std.proofs.lemmas.List.Quantifiers.{position-Some}
use Rattle.std.proofs.lemmas.List.{get_or_default}
use Rattle.std.proofs.lemmas.List.Folds.{Any-from_list_any}
use Rattle.std.proofs.Math.Seq.{map-set_same}
use Rattle.sector.specs.Bytes.{next_count}
use Rattle.device.specs.Layers.{Layer, is_loud}
use Rattle.plain_machine.specs.declared.event.Event.TheVariants.{CopyRead, CopyWrite}
use Rattle.plain_machine.specs.declared.event.Outcome.TheVariants.{Done, Fault}
use Rattle.in_flight.specs.Due.{number_of_copy, number_of_mark, is_stage}
use Rattle.in_flight.specs.Routes.{refused_of}
use Rattle.in_flight.specs.declared.copies.ChunkCopy.{ChunkCopy}
use Rattle.in_flight.specs.declared.copies.Stage.{Stage}
use Rattle.in_flight.specs.declared.copies.Stage.TheVariants.{Waiting, Read, Written, Flushed}
use Rattle.volume_laws.specs.Steps.{ChangesSnap}
use Rattle.volume_laws.proofs.WholeOne.{snap_holds, live_by_copy, copy_read_event, copy_write_event}
use Rattle.volume_laws.proofs.Keeping.{copy_read_keeps, copy_write_keeps}
use Rattle.volume_laws.proofs.Waiting.{waits_changed}
use Rattle.volume_laws.proofs.Left.{copy_read_left, copy_write_left}
use Rattle.volume_laws.proofs.MergeRoomEvents.{read_room, write_room}
use Rattle.snapshot_list.specs.Rooms.{room_of}
use Rattle.snapshot.specs.Kept.{Kept, books_of as snap_books, due_of_kept}
use Rattle.snapshot.specs.Calls.{ReadsAt, WritesAt}
use Rattle.volume.specs.Volumed.{Volumed, books_of}
use Rattle.snapshot_list.specs.Numbers.{numbers_in}
use Rattle.volume.specs.Whole.{IsWhole, IsCounted}
use Rattle.snapshot_list.specs.Finding.{is_copy_of}
use Rattle.volume.proofs.Changing.{SameDisk, StaysAttached, few_same, changed, books_within, books_is, changes}
use Rattle.volume.proofs.Counting.{counts_same, counts_origin, counts_store, store_within, lives_same, lives_spoiled, lived, origin_within}
use Rattle.snapshot_list.proofs.Finds.{position_within, position_any}
use Rattle.volume.proofs.Good.{IsGood, SpoiltTo, silent_good, spoilt_good}
use Rattle.volume.proofs.StartsLeft.{left_same}
use Rattle.volume.proofs.MovedCounts.{counted_copies}

-- a stage by its test
pub stage_by : (stage other : Stage) → is_stage stage other ≡ true → other ≡ stage
stage_by Waiting Waiting e = refl
stage_by Waiting Read e = absurd (false≢true e)
stage_by Waiting Written e = absurd (false≢true e)
stage_by Waiting Flushed e = absurd (false≢true e)
stage_by Read Waiting e = absurd (false≢true e)
stage_by Read Read e = refl
stage_by Read Written e = absurd (false≢true e)
stage_by Read Flushed e = absurd (false≢true e)
stage_by Written Waiting e = absurd (false≢true e)
stage_by Written Read e = absurd (false≢true e)
stage_by Written Written e = refl
stage_by Written Flushed e = absurd (false≢true e)
stage_by Flushed Waiting e = absurd (false≢true e)
stage_by Flushed Read e = absurd (false≢true e)
stage_by Flushed Written e = absurd (false≢true e)
stage_by Flushed Flushed e = refl

pub both_left : (a b : Bool) → (a && b) ≡ true → a ≡ true
both_left true b e = refl
both_left false b e = e

pub both_right : (a b : Bool) → (a && b) ≡ true → b ≡ true
both_right true b e = e
both_right false b e = absurd (false≢true e)

-- the copy that a search found
module _ (stage : Stage) (number : ℕ) (copies : List ChunkCopy) (j : ℕ) (found : position (is_copy_of stage number) copies ≡ Some j) where
  pub copy_stage : (p : ChunkCopy) → p ≡ get_or copies j p → p.stage ≡ stage
  copy_stage p is =
      let h = position-Some (is_copy_of stage number) copies j p found in
      stage_by stage p.stage (both_right (nat_eq p.number number) (is_stage stage p.stage) (ap (is_copy_of stage number) is ∙ h.1))

  pub copy_mine : Any (λ (p : ChunkCopy). p.number ≡ number) copies
  copy_mine =
      let (i, p, lt, is, passes) = Any-from_list_any (is_copy_of stage number) copies (position_any (is_copy_of stage number) copies j found) in
      (i, p, lt, is, eqb-true p.number number (both_left (nat_eq p.number number) (is_stage stage p.stage) passes))

  -- the element itself
  pub copy_is : (p : ChunkCopy) × (p ≡ get_or copies j p)
  copy_is =
      let (i, d, lt, at, passes) = copy_mine in
      (get_or copies j d, get_or_default copies j d (get_or copies j d) (position_within (is_copy_of stage number) copies j found))

  pub copy_some : 0 < length copies
  copy_some = (let lt = position_within (is_copy_of stage number) copies j found in omega (arith, lt))

-- the numbers of the copies
same_numbers : {B : Type 0} (s s' : Kept B) (j : ℕ) (p q : ChunkCopy) → p ≡ get_or s.copies j p → q.number ≡ p.number → s'.marks ≡ s.marks → s'.copies ≡ set s.copies j q → numbers_in s' ≡ numbers_in s
same_numbers s s' j p q is number marks copies =
    ap (λ ms. map number_of_mark ms ++ map number_of_copy s'.copies) marks
    ∙ ap (λ ns. map number_of_mark s.marks ++ ns) (ap (map number_of_copy) copies ∙ map-set_same number_of_copy s.copies j q p (number ∙ ap number_of_copy is))

module _ {B : Type 0} (contents : B → List ℕ) (layers : B → List Layer) (size faults done : B → ℕ) (v : Volumed B) (h : IsWhole contents layers size v) (number : ℕ)
    (o' : B) (k : ℕ) (s s' : Kept B) (j : ℕ) (within : k < length v.snaps) (is : s ≡ get_or v.snaps k s) (same : SameDisk contents layers size v.origin o') where
  sb_is : snap_books contents layers s ≡ get_or (map (snap_books contents layers) v.snaps) k (snap_books contents layers s)
  sb_is = books_is contents layers size v o' k s s' within is

  sb_in : k < length (map (snap_books contents layers) v.snaps)
  sb_in = books_within contents layers size v o' k s s' within is

  pub copy_lives : j < length s.copies → s.live ≡ true
  copy_lives lt = live_by_copy (contents v.origin) v.flights (snap_books contents layers s) j (snap_holds (books_of contents layers size v) k (snap_books contents layers s) h.holds sb_in sb_is) lt

  e_is : ChangesSnap k (snap_books contents layers s) (snap_books contents layers s') (books_of contents layers size v) (books_of contents layers size (changed v o' k s' v.flights))
  e_is = changes contents layers size v o' k s s' within is same

  module _ (p q : ChunkCopy) where
    pub read_good : position (is_copy_of Waiting number) s.copies ≡ Some j → ReadsAt contents layers (contents v.origin) j p q s s' → faults o' ≡ faults v.origin → done o' ≡ next_count (done v.origin)
        → IsGood contents layers size faults done (CopyRead number) Done v (changed v o' k s' v.flights)
    read_good found e faulty counted =
        let sb = snap_books contents layers in
        let w = changed v o' k s' v.flights in
        let r = e.event in
        let f = e.fields in
        let device : s'.device ≡ s.device = ap (λ (x : Kept B). x.device) f in
        let stays : StaysAttached s s' = record {
          number = ap (λ (x : Kept B). x.number) f;
          chunk_is = ap (λ (x : Kept B). x.state.chunk) f;
          origin = ap (λ (x : Kept B). x.state.origin) f;
          numbers = inl (same_numbers s s' j p q r.copy.was e.copy.number r.marks r.copy.copies);
          few = few_same s s' (same_numbers s s' j p q r.copy.was e.copy.number r.marks r.copy.copies) (ap (λ (x : Kept B). x.merging) f);
          counted = λ counts. subst IsCounted (sym f) (counted_copies s counts s.device j q);
          left = left_same s s' (ap (λ (x : Kept B). x.live) f) (ap (λ (x : Kept B). x.state.size) f) (ap (λ (x : Kept B). x.next) f);
        } in
        silent_good contents layers size faults done v h (CopyRead number) Done (λ a b x. x) (λ xs ys e. e) (λ b. refl) o' k s s' within is same (ap (λ d. is_loud (layers d)) device) (ap size device) v.flights refl refl stays (ap (λ (x : Kept B). x.overflow) f)
        (copy_read_event k (sb s) (sb s') (books_of contents layers size v) (books_of contents layers size w) h.holds e_is j p q r)
        (waits_changed k (sb s) (sb s') (books_of contents layers size v) (books_of contents layers size w) h.waits e_is (copy_read_keeps (contents v.origin) j p q (sb s) (sb s') r))
        (copy_read_left (contents v.origin) j p q (due_of_kept contents layers s) (due_of_kept contents layers s') r (copy_stage Waiting number s.copies j found p r.copy.was) (ap (λ (x : Kept B). x.state.zeroed) f) (ap (λ (x : Kept B). x.state.firm) f))
        (record { counts = counts_same v o' k s s' v.flights within is faults faulty (ap faults device); lives = lives_same v o' k s s' v.flights within is (ap (λ (x : Kept B). x.live) f) })
        (inr (0, origin_within v o' k s s' v.flights within is done, counts_origin v o' k s s' v.flights within is done counted (ap done device)))
        (read_room (contents v.origin) j p q (room_of contents layers s) (room_of contents layers s') r e.copy.number (record { kept_back = ap (λ (x : Kept B). x.kept_back) f; spare = ap (λ (x : Kept B). x.spare) f; merging = ap (λ (x : Kept B). x.merging) f }))

    pub write_good : position (is_copy_of Read number) s.copies ≡ Some j → WritesAt contents layers j p q s s' → is_loud (layers s'.device) ≡ is_loud (layers s.device) → size s'.device ≡ size s.device → faults o' ≡ faults v.origin → done o' ≡ done v.origin
        → faults s'.device ≡ faults s.device → done s'.device ≡ next_count (done s.device) → IsGood contents layers size faults done (CopyWrite number) Done v (changed v o' k s' v.flights)
    write_good found e loud sized faulty counted faulty' counted' =
        let sb = snap_books contents layers in
        let w = changed v o' k s' v.flights in
        let r = e.event in
        let f = e.fields in
        let stays : StaysAttached s s' = record {
          number = ap (λ (x : Kept B). x.number) f;
          chunk_is = ap (λ (x : Kept B). x.state.chunk) f;
          origin = ap (λ (x : Kept B). x.state.origin) f;
          numbers = inl (same_numbers s s' j p q r.copy.was e.copy.number r.marks r.copy.copies);
          few = few_same s s' (same_numbers s s' j p q r.copy.was e.copy.number r.marks r.copy.copies) (ap (λ (x : Kept B). x.merging) f);
          counted = λ counts. subst IsCounted (sym f) (counted_copies s counts s'.device j q);
          left = left_same s s' (ap (λ (x : Kept B). x.live) f) (ap (λ (x : Kept B). x.state.size) f) (ap (λ (x : Kept B). x.next) f);
        } in
        silent_good contents layers size faults done v h (CopyWrite number) Done (λ a b x. x) (λ xs ys e. e) (λ b. refl) o' k s s' within is same loud sized v.flights refl refl stays (ap (λ (x : Kept B). x.overflow) f)
        (copy_write_event k (sb s) (sb s') (books_of contents layers size v) (books_of contents layers size w) h.holds e_is j p q r)
        (waits_changed k (sb s) (sb s') (books_of contents layers size v) (books_of contents layers size w) h.waits e_is (copy_write_keeps j p q (sb s) (sb s') r))
        (copy_write_left j p q (due_of_kept contents layers s) (due_of_kept contents layers s') r (ap (λ (x : Kept B). x.state.zeroed) f) (ap (λ (x : Kept B). x.state.firm) f))
        (record { counts = counts_same v o' k s s' v.flights within is faults faulty faulty'; lives = lives_same v o' k s s' v.flights within is (ap (λ (x : Kept B). x.live) f) })
        (inr (suc k, store_within v o' k s s' v.flights within is done, counts_store v o' k s s' v.flights within is done counted counted'))
        (write_room j p q (room_of contents layers s) (room_of contents layers s') r e.copy.number (record { kept_back = ap (λ (x : Kept B). x.kept_back) f; spare = ap (λ (x : Kept B). x.spare) f; merging = ap (λ (x : Kept B). x.merging) f }))

  -- the origin disk failed
  pub read_fault : position (is_copy_of Waiting number) s.copies ≡ Some j → SpoiltTo s s' → s'.device ≡ s.device → faults o' ≡ next_count (faults v.origin) → done o' ≡ next_count (done v.origin)
      → IsGood contents layers size faults done (CopyRead number) Fault v (changed v o' k s' (map (refused_of (s.number ∷ [])) v.flights))
  read_fault found t device faulty counted =
      let flights = map (refused_of (s.number ∷ [])) v.flights in
      let live = copy_lives (position_within (is_copy_of Waiting number) s.copies j found) in
      spoilt_good contents layers size faults done v h (CopyRead number) Fault (λ a b x. x) (λ xs ys e. e) (λ b. refl) o' k s s' within is same (ap (λ d. is_loud (layers d)) device) (ap size device) live (copy_some Waiting number s.copies j found) t
      (record {
        place = k;
        snap = s;
        at = record { within = within; is = is };
        mine = copy_mine Waiting number s.copies j found;
        spoils = record { counts = counts_origin v o' k s s' flights within is faults faulty (ap faults device); was = lived v o' k s s' flights within is live; lives = lives_spoiled v o' k s s' flights within is t.live };
      })
      (inr (0, origin_within v o' k s s' flights within is done, counts_origin v o' k s s' flights within is done counted (ap done device)))

  -- the snapshot's store failed
  pub write_fault : position (is_copy_of Read number) s.copies ≡ Some j → SpoiltTo s s' → is_loud (layers s'.device) ≡ is_loud (layers s.device) → size s'.device ≡ size s.device → faults o' ≡ faults v.origin → done o' ≡ done v.origin
      → faults s'.device ≡ next_count (faults s.device) → done s'.device ≡ next_count (done s.device)
      → IsGood contents layers size faults done (CopyWrite number) Fault v (changed v o' k s' (map (refused_of (s.number ∷ [])) v.flights))
  write_fault found t loud sized faulty counted faulty' counted' =
      let flights = map (refused_of (s.number ∷ [])) v.flights in
      let live = copy_lives (position_within (is_copy_of Read number) s.copies j found) in
      spoilt_good contents layers size faults done v h (CopyWrite number) Fault (λ a b x. x) (λ xs ys e. e) (λ b. refl) o' k s s' within is same loud sized live (copy_some Read number s.copies j found) t
      (record {
        place = k;
        snap = s;
        at = record { within = within; is = is };
        mine = copy_mine Read number s.copies j found;
        spoils = record { counts = counts_store v o' k s s' flights within is faults faulty faulty'; was = lived v o' k s s' flights within is live; lives = lives_spoiled v o' k s s' flights within is t.live };
      })
      (inr (suc k, store_within v o' k s s' flights within is done, counts_store v o' k s s' flights within is done counted counted'))
