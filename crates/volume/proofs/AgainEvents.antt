-- The events after which held writes are routed again: a mark is taken away, and a spoiled store's mark is tried.
use Rattle.std.proofs.Common.{◌≡◌, ◌≢◌, inl, inr, ℕ, zero, suc, ◌+◌, ◌<◌, Bool, true, false, List, [], ◌∷◌, ◌++◌, Some, None, length, get_or, set, map, refl, sym, ◌∙◌, ap, arith, nat_eq, length-append, subst, Option}
use Rattle.std.specs.Prelude.{◌&&◌, AllPairs, not, sum_by}
use Rattle.std.specs.List.{All, list_any, position, remove}
use Rattle.std.proofs.lemmas.Bool.{false≢true, eqb-true}
use Rattle.std.proofs.lemmas.List.{length-map, length-set, map-set, get_or-map, get_or-set_same, get_or_append_left, get_or-append-add}
use Rattle.std.proofs.lemmas.List.Edits.{length-remove}
use Rattle.std.proofs.lemmas.List.Quantifiers.{position-Some}
use Rattle.sector.specs.Bytes.{next_count}
use Rattle.device.specs.Layers.{Layer, is_loud}
use Rattle.plain_machine.specs.declared.event.Event.{Event}
use Rattle.plain_machine.specs.declared.event.Outcome.{Outcome}
use Rattle.in_flight.specs.Due.{number_of_copy, number_of_mark, is_publishable}
use Rattle.in_flight.specs.Kinds.{in_flight}
use Rattle.in_flight.specs.Routes.{is_reading}
use Rattle.in_flight.specs.declared.copies.ChunkCopy.{ChunkCopy}
use Rattle.in_flight.specs.declared.copies.Mark.{Mark}
use Rattle.in_flight.specs.declared.flights.Flight.{Flight}
use Rattle.volume_laws.specs.Books.{SnapBooks, MergeBooks}
use Rattle.volume_laws.specs.Published.{is_clear}
use Rattle.volume_laws.specs.Again.{again_of, placed_of, Reroutes, Places}
use Rattle.volume_laws.specs.Steps.{ChangesSnap, Unmarks, TriesMark}
use Rattle.volume_laws.specs.Outcomes.{IsSilent}
use Rattle.volume_laws.specs.Due.{left_in, weight_of}
use Rattle.volume_laws.specs.Waits.{Waits}
use Rattle.volume_laws.specs.Whole.{IsLoud}
use Rattle.volume_laws.proofs.WholeOne.{snap_holds, live_by_mark, unmark_event}
use Rattle.volume_laws.proofs.Placing.{place_event}
use Rattle.volume_laws.proofs.Rerouting.{reroute, tried_event}
use Rattle.volume_laws.proofs.Composing.{silent_then, loud_one}
use Rattle.volume_laws.proofs.WaitingAgain.{waits_published, waits_tried}
use Rattle.volume_laws.proofs.Left.{unmark_left, tried_left}
use Rattle.volume_laws.proofs.Lists.{map-remove}
use Rattle.snapshot.specs.Kept.{Kept, books_of as snap_books, due_of_kept, unpublished}
use Rattle.snapshot_list.specs.Rooms.{merge_books, room_of}
use Rattle.volume_laws.specs.MergeRooms.{unpublished as unpublished_room}
use Rattle.volume_laws.proofs.MergeRooms.{KeepsSpace}
use Rattle.volume_laws.proofs.MergeRoomEvents.{publish_room, tried_room}
use Rattle.volume.specs.Volumed.{Volumed, books_of}
use Rattle.snapshot_list.specs.Numbers.{numbers_in}
use Rattle.volume.specs.Whole.{IsWhole, IsCounted}
use Rattle.snapshot_list.specs.Finding.{is_trying, is_mark_of}
use Rattle.volume.specs.Causes.{HasCause}
use Rattle.volume.proofs.Changing.{SameDisk, same_disk, StaysAttached, changed, books_within, books_is, changes, few_less, few_same}
use Rattle.volume.proofs.Counting.{counts_store, store_within}
use Rattle.volume.proofs.CopyEvents.{both_left, both_right}
use Rattle.volume.proofs.Good.{IsGood, Spoiling, Staying, Calm, silent_good}
use Rattle.volume.proofs.StartsLeft.{left_same, left_spoilt}
use Rattle.volume.proofs.MovedCounts.{counted_marks}
use Rattle.volume.proofs.Weights.{again_weights, placed_weights}
use Rattle.merge.specs.Merging.{Merging}

-- A mark of snapshot s was taken away, which is s' then, and held writes were routed again: nothing is seen of it, and less is
-- left. What a merge waits for next may be another copy then.
pub record IsUnmarked {B : Type 0} (contents : B → List ℕ) (layers : B → List Layer) (size : B → ℕ) (v : Volumed B) (k : ℕ) (s s' : Kept B) (flights : List Flight) : Type 0 where
  pub silent : IsSilent (books_of contents layers size v) (books_of contents layers size (changed v v.origin k s' flights))
  pub waits : Waits (books_of contents layers size (changed v v.origin k s' flights))
  pub loud : IsLoud (books_of contents layers size v) → IsLoud (books_of contents layers size (changed v v.origin k s' flights))
  pub stays : StaysAttached s s'
  pub less : left_in (due_of_kept contents layers s') < left_in (due_of_kept contents layers s)
  pub flown : map in_flight flights ≡ map in_flight v.flights
  pub weights : sum_by weight_of flights ≡ sum_by weight_of v.flights
  pub room : KeepsSpace (room_of contents layers s) (room_of contents layers s')
  pub device : s'.device ≡ s.device
  pub live : s'.live ≡ s.live
  pub overflow : s'.overflow ≡ s.overflow

-- the same requests are in flight
pub again_flown : (merge : Option MergeBooks) (clear : ℕ → Bool) (rs : List Flight) → map in_flight (map (again_of merge clear) rs) ≡ map in_flight rs
again_flown merge clear [] = refl
again_flown merge clear (r ∷ rs) = ap (λ xs. in_flight r ∷ xs) (again_flown merge clear rs)

-- whether what a merge writes is done decides no route
again_loud : {B : Type 0} (contents : B → List ℕ) (layers : B → List Layer) (loud : Bool) (m : Option (Merging B)) (clear : ℕ → Bool) (rs : List Flight) → map (again_of (merge_books contents layers true m) clear) rs ≡ map (again_of (merge_books contents layers loud m) clear) rs
again_loud contents layers loud None clear rs = refl
again_loud contents layers loud (Some m) clear rs = refl

placed_flown : (s : SnapBooks) (rs : List Flight) → map in_flight (map (placed_of s) rs) ≡ map in_flight rs
placed_flown s [] = refl
placed_flown s (r ∷ rs) = ap (λ xs. in_flight r ∷ xs) (placed_flown s rs)

remove_front : (xs ys : List ℕ) (k : ℕ) → k < length xs → remove (xs ++ ys) k ≡ remove xs k ++ ys
remove_front [] ys k lt = absurd (omega (arith, lt))
remove_front (x ∷ xs) ys zero lt = refl
remove_front (x ∷ xs) ys (suc k) lt = ap (λ zs. x ∷ zs) (remove_front xs ys k (omega (arith, lt)))

-- no copy has the number of a mark
marks_apart : (marks : List Mark) (copies : List ChunkCopy) (j : ℕ) (m : Mark) → AllPairs (λ a b. a < b) (map number_of_mark marks ++ map number_of_copy copies) → j < length marks → m ≡ get_or marks j m → All (λ (p : ChunkCopy). p.number ≢ m.number) copies
marks_apart marks copies j m up lt is i d within same =
    let front : List ℕ = map number_of_mark marks in
    let back : List ℕ = map number_of_copy copies in
    let first : get_or (front ++ back) j 0 ≡ m.number = get_or_append_left front back 0 j (omega (arith, lt, length-map marks number_of_mark)) ∙ get_or-map number_of_mark marks j m 0 lt ∙ ap number_of_mark (sym is) in
    let second : get_or (front ++ back) (length front + i) 0 ≡ (get_or copies i d).number = get_or-append-add front back i 0 ∙ get_or-map number_of_copy copies i d 0 within in
    let less : get_or (front ++ back) j 0 < get_or (front ++ back) (length front + i) 0 =
    up j (length front + i) 0 (omega (arith, lt, length-map marks number_of_mark)) (omega (arith, within, length-append front back, length-map copies number_of_copy)) in
    omega (arith, first, second, less, same)

-- what a snapshot keeps of the merge's copy, as the laws have it
unpublished_alike : (n : ℕ) (merging : Option ℕ) → unpublished n merging ≡ unpublished_room n merging
unpublished_alike n None = refl
unpublished_alike n (Some k) = refl

not_true : (b : Bool) → not b ≡ true → b ≡ false
not_true true e = absurd (false≢true e)
not_true false e = refl

-- a mark that a search found
module _ {B : Type 0} (s : Kept B) (flights : List Flight) (number j : ℕ) (found : position (is_mark_of s flights number) s.marks ≡ Some j) (m : Mark) (is : m ≡ get_or s.marks j m) where
  pub mark_unread : list_any (is_reading s.number s.state.chunk m.chunk) flights ≡ false
  mark_unread =
      let h = position-Some (is_mark_of s flights number) s.marks j m found in
      let reads : Bool = list_any (is_reading s.number s.state.chunk m.chunk) flights in
      not_true reads (both_right m.safe (not reads) (both_right (nat_eq m.number number) (is_publishable s.number s.state.chunk flights m) (ap (is_mark_of s flights number) is ∙ h.1)))

  pub mark_safe : m.safe ≡ true
  mark_safe =
      let h = position-Some (is_mark_of s flights number) s.marks j m found in
      both_left m.safe (not (list_any (is_reading s.number s.state.chunk m.chunk) flights)) (both_right (nat_eq m.number number) (is_publishable s.number s.state.chunk flights m) (ap (is_mark_of s flights number) is ∙ h.1))

module _ {B : Type 0} (contents : B → List ℕ) (layers : B → List Layer) (size faults done : B → ℕ) (v : Volumed B) (h : IsWhole contents layers size v) (number : ℕ)
    (k : ℕ) (s s' : Kept B) (within : k < length v.snaps) (is : s ≡ get_or v.snaps k s) where
  disk : SameDisk contents layers size v.origin v.origin
  disk = same_disk contents layers size v.origin

  abbrev sb : Kept B → SnapBooks
  sb = snap_books contents layers

  sb_is : snap_books contents layers s ≡ get_or (map (snap_books contents layers) v.snaps) k (snap_books contents layers s)
  sb_is = books_is contents layers size v v.origin k s s' within is

  sb_in : k < length (map (snap_books contents layers) v.snaps)
  sb_in = books_within contents layers size v v.origin k s s' within is

  -- the volume with the snapshot changed, and its books
  abbrev mid : Volumed B
  mid = changed v v.origin k s' v.flights

  e_is : ChangesSnap k (snap_books contents layers s) (snap_books contents layers s') (books_of contents layers size v) (books_of contents layers size mid)
  e_is = changes contents layers size v v.origin k s s' within is disk

  -- where an origin write is clear then
  abbrev clear : ℕ → Bool
  clear = is_clear (map (snap_books contents layers) (set v.snaps k s'))

  abbrev again : List Flight → List Flight
  again fs = map (again_of (merge_books contents layers true v.merge) clear) fs

  reroutes : (fs : List Flight) → Reroutes clear (books_of contents layers size (changed v v.origin k s' fs)) (books_of contents layers size (changed v v.origin k s' (again fs)))
  reroutes fs = record { requests = again_loud contents layers (is_loud (layers v.origin)) v.merge clear fs; origin = refl; sectors = refl; loud = refl; snaps = refl; merge = refl }

  same_loud : (fs gs : List Flight) → IsLoud (books_of contents layers size (changed v v.origin k s' fs)) → IsLoud (books_of contents layers size (changed v v.origin k s' gs))
  same_loud fs gs l = record { origin = l.origin; snaps = l.snaps; merge = l.merge }

  -- a spoiled snapshot's mark was tried
  module _ (event : Event) (outcome : Outcome) (told : Spoiling event outcome) (still : Staying event outcome) (calm : Calm event outcome) (f : (s'.number ≡ s.number) × (s'.live ≡ s.live) × ((s'.state.chunk ≡ s.state.chunk) × (s'.state.origin ≡ s.state.origin)) × (s'.copies ≡ s.copies) × (s'.marks ≡ s.marks) × (s'.merging ≡ s.merging))
      (t : TriesMark (snap_books contents layers s) (snap_books contents layers s')) (untried : s.untried ≡ true) (loud : is_loud (layers s'.device) ≡ is_loud (layers s.device)) (sized : size s'.device ≡ size s.device) (counted : done s'.device ≡ next_count (done s.device)) (counts : IsCounted s → IsCounted s') where
    pub tried_good : HasCause faults event outcome v (changed v v.origin k s' (again v.flights)) → IsGood contents layers size faults done event outcome v (changed v v.origin k s' (again v.flights))
    tried_good cause =
        let vb = books_of contents layers size v in
        let ub = books_of contents layers size mid in
        let wb = books_of contents layers size (changed v v.origin k s' (again v.flights)) in
        let one : IsSilent vb ub = tried_event k (snap_books contents layers s) (snap_books contents layers s') vb ub h.holds e_is t in
        let two : IsSilent ub wb = reroute ub wb one.holds (reroutes v.flights) in
        let same : numbers_in s' ≡ numbers_in s = ap (λ ms. map number_of_mark ms ++ map number_of_copy s'.copies) f.4 ∙ ap (λ cs. map number_of_mark s.marks ++ map number_of_copy cs) f.3 in
        let stays : StaysAttached s s' = record {
          number = f.0;
          chunk_is = f.2.0;
          origin = f.2.1;
          numbers = inl same;
          few = few_same s s' same f.5;
          counted = counts;
          left = left_spoilt s s' (f.1 ∙ t.was);
        } in
        silent_good contents layers size faults done v h event outcome told still calm v.origin k s s' within is disk loud sized (again v.flights) (again_flown (merge_books contents layers true v.merge) clear v.flights) (again_weights (merge_books contents layers true v.merge) clear v.flights) stays t.overflow
        (silent_then vb ub wb one two (loud_one k (snap_books contents layers s) (snap_books contents layers s') vb ub e_is loud))
        (waits_tried k (snap_books contents layers s) (snap_books contents layers s') vb ub wb h.waits e_is t (reroutes v.flights))
        (tried_left (due_of_kept contents layers s) (due_of_kept contents layers s') untried t)
        cause
        (inr (suc k, store_within v v.origin k s s' (again v.flights) within is done, counts_store v v.origin k s s' (again v.flights) within is done refl counted))
        (tried_room (room_of contents layers s) (room_of contents layers s') t)

  -- what a test of a snapshot found whose mark is to be written
  pub trying_untried : is_trying number s ≡ true → s.untried ≡ true
  trying_untried found = both_left s.untried (not s.marked) (both_right (nat_eq s.number number) (s.untried && not s.marked) found)

  pub trying_unmarked : is_trying number s ≡ true → s.marked ≡ false
  trying_unmarked found = not_true s.marked (both_right s.untried (not s.marked) (both_right (nat_eq s.number number) (s.untried && not s.marked) found))

  pub trying_number : is_trying number s ≡ true → s.number ≡ number
  trying_number found = eqb-true s.number number (both_left (nat_eq s.number number) (s.untried && not s.marked) found)

  -- a mark was taken away
  module _ (j : ℕ) (m : Mark) (found : position (is_mark_of s v.flights number) s.marks ≡ Some j) (f : s' ≡ record s { marks = remove s.marks j; merging = unpublished m.number s.merging }) (r : Unmarks j m (snap_books contents layers s) (snap_books contents layers s')) where
    abbrev placed : List Flight
    placed = map (placed_of (snap_books contents layers s')) v.flights

    pub unmarked : IsUnmarked contents layers size v k s s' (again placed)
    unmarked =
        let vb = books_of contents layers size v in
        let ub = books_of contents layers size mid in
        let xb = books_of contents layers size (changed v v.origin k s' placed) in
        let wb = books_of contents layers size (changed v v.origin k s' (again placed)) in
        let a = snap_books contents layers s in
        let b = snap_books contents layers s' in
        let live : s.live ≡ true = live_by_mark (contents v.origin) v.flights (snap_books contents layers s) j (snap_holds vb k a h.holds sb_in sb_is) r.within in
        let device : s'.device ≡ s.device = ap (λ (x : Kept B). x.device) f in
        let loud : is_loud (layers s'.device) ≡ is_loud (layers s.device) = ap (λ d. is_loud (layers d)) device in
        let one : IsSilent vb ub = unmark_event k a b vb ub h.holds e_is j m r (mark_unread s v.flights number j found m r.was) in
        let places : Places k b ub xb = record {
          within = omega (arith, sb_in, e_is.within, ap length e_is.snaps, length-set vb.snaps k b);
          was = sym (get_or-set_at k);
          requests = refl;
          origin = refl;
          sectors = refl;
          loud = refl;
          snaps = refl;
          merge = refl;
        } in
        let two : IsSilent ub xb = place_event k b ub xb one.holds places (ap (λ (x : Kept B). x.live) f ∙ live) in
        let three : IsSilent xb wb = reroute xb wb two.holds (reroutes placed) in
        record {
          silent = silent_then vb ub wb one (silent_then ub xb wb two three (same_loud v.flights placed)) (loud_one k a b vb ub e_is loud);
          waits = waits_published k j m a b vb ub xb wb h.waits e_is r places (reroutes placed);
          loud = λ l. same_loud v.flights (again placed) (loud_one k a b vb ub e_is loud l);
          stays = record {
            number = ap (λ (x : Kept B). x.number) f;
            chunk_is = ap (λ (x : Kept B). x.state.chunk) f;
            origin = ap (λ (x : Kept B). x.state.origin) f;
            numbers = inr (inl (
              j,
              marks_in,
              ap (λ (x : Kept B). numbers_in x) f ∙ ap (λ ns. ns ++ map number_of_copy s.copies) (map-remove number_of_mark s.marks j)
                  ∙ sym (remove_front (map number_of_mark s.marks) (map number_of_copy s.copies) j (omega (arith, r.within, length-map s.marks number_of_mark))),
            ));
            few = few_less s s' fewer;
            counted = λ counts. subst IsCounted (sym f) (counted_marks s counts (remove s.marks j) (unpublished m.number s.merging));
            left = left_same s s' (ap (λ (x : Kept B). x.live) f) (ap (λ (x : Kept B). x.state.size) f) (ap (λ (x : Kept B). x.next) f);
          };
          less = unmark_left j m (due_of_kept contents layers s) (due_of_kept contents layers s') r (ap (λ (x : Kept B). x.state.zeroed) f) (ap (λ (x : Kept B). x.state.firm) f);
          flown = again_flown (merge_books contents layers true v.merge) clear placed ∙ placed_flown b v.flights;
          weights = again_weights (merge_books contents layers true v.merge) clear placed ∙ placed_weights b v.flights;
          room = publish_room j m (room_of contents layers s) (room_of contents layers s') r
              (record { kept_back = ap (λ (x : Kept B). x.kept_back) f; spare = ap (λ (x : Kept B). x.spare) f; merging = ap (λ (x : Kept B). x.merging) f ∙ unpublished_alike m.number s.merging })
              (marks_apart s.marks s.copies j m (subst (λ (x : Kept B). AllPairs (λ a b. a < b) (numbers_in x)) (sym is) (h.snaps k s within).numbers.ascending) r.within r.was);
          device = device;
          live = ap (λ (x : Kept B). x.live) f;
          overflow = ap (λ (x : Kept B). x.overflow) f;
        }
      where
        get_or-set_at : (i : ℕ) → get_or (map (snap_books contents layers) (set v.snaps k s')) k (snap_books contents layers s') ≡ snap_books contents layers s'
        get_or-set_at i = ap (λ xs. get_or xs k (snap_books contents layers s')) (map-set (snap_books contents layers) v.snaps k s') ∙ get_or-set_same (map (snap_books contents layers) v.snaps) k (snap_books contents layers s') (snap_books contents layers s') sb_in

        fewer : length (numbers_in s') < length (numbers_in s)
        fewer =
            let less = length-remove s.marks j r.within in
            let old = length-append (map number_of_mark s.marks) (map number_of_copy s.copies) in
            let new = length-append (map number_of_mark s'.marks) (map number_of_copy s'.copies) in
            omega (arith, r.within, less, old, new, ap (λ (x : Kept B). length x.marks) f, ap (λ (x : Kept B). length x.copies) f, length-map s.marks number_of_mark, length-map s'.marks number_of_mark, length-map s.copies number_of_copy, length-map s'.copies number_of_copy)

        marks_in : j < length (numbers_in s)
        marks_in = omega (arith, r.within, length-append (map number_of_mark s.marks) (map number_of_copy s.copies), length-map s.marks number_of_mark)
