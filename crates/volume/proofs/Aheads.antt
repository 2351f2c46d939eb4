-- Devices of a volume did operations ahead: the volume stays whole, what lasts of it lasts, and what is seen of it stays as it was.
use Rattle.std.proofs.Common.{◌≡◌, ◌≢◌, inl, inr, set, ℕ, zero, suc, ◌+◌, ◌*◌, ◌<◌, ◌≤◌, Bool, true, List, [], ◌∷◌, ◌++◌, length, get_or, map, refl, sym, ◌∙◌, ap, subst, arith}
use Rattle.std.specs.Prelude.{sum_by, Option, Some, None, ◌&&◌}
use Rattle.std.specs.List.{list_all, sum}
use Rattle.std.proofs.lemmas.List.{length-map, get_or-set_same, get_or-set_other, get_or_default}
use Rattle.std.proofs.lemmas.Bool.{cases_eq}
use Rattle.std.proofs.lemmas.List.Sums.{sum-map}
use Rattle.chunk.specs.Sizes.{is_chunk}
use Rattle.device.specs.Ahead.{IsAhead}
use Rattle.device.specs.Layers.{Layer, is_loud}
use Rattle.cow_format.specs.Pairs.{pairs_of, AreWellFormed}
use Rattle.plain_machine.specs.declared.event.Event.{Event}
use Rattle.in_flight.specs.Due.{number_of_flight}
use Rattle.in_flight.specs.declared.flights.Flight.{Flight}
use Rattle.cache_loss_laws.specs.Kept.{Kept as Lost, SnapLasts}
use Rattle.cache_loss_laws.specs.Merging.{Merging as LostMerge, MergeLasts}
use Rattle.cache_loss_laws.proofs.Fewer.{snap_fewer, refused_fewer, merge_fewer}
use Rattle.volume_laws.specs.Books.{Books, SnapBooks}
use Rattle.volume_laws.specs.Due.{books_of as due_books, left_of}
use Rattle.volume_laws.specs.MergeDue.{DueMerge, left_in_merge, left_beside}
use Rattle.volume_laws.specs.MergeRooms.{KeepBack}
use Rattle.volume_laws.specs.MergeWaits.{MergeGoes}
use Rattle.volume_laws.specs.Whole.{plain_of as plain_books}
use Rattle.volume_laws.proofs.Ahead.{IsKeptBytes, IsSnapAhead as IsBooksAhead, IsMergingAhead, AreAhead as AreBooksAhead, ahead_holds, ahead_waits}
use Rattle.volume_laws.proofs.AheadDue.{forget_due, forget_merge, same_due, same_due_with, same_left, same_left_in, same_beside, goes_ahead, back_ahead, IsOtherRoom}
use Rattle.volume_laws.proofs.Heard.{heard_first, store_loud, both_loud}
use Rattle.snapshot.specs.Kept.{Kept, books_of as snap_books, due_of_kept}
use Rattle.merge.specs.Merging.{Merging, books_of as merging_books, due_of as merging_due}
use Rattle.snapshot_list.specs.Rooms.{merge_books, room_of}
use Rattle.snapshot_list.specs.Numbers.{number_of_snap, count_in}
use Rattle.volume.specs.Adding.{OpensNothing, MergeLeavesNoMore}
use Rattle.volume.specs.Causes.{counts_of, counts_with}
use Rattle.volume.specs.DoesAhead.{IsSnapAhead, IsMergeAhead, AreAhead, DoesAhead}
use Rattle.volume.specs.Lasting.{IsKept, IsLasting}
use Rattle.volume.specs.MergeLasting.{MergeLasting, merging_of}
use Rattle.volume.specs.SnapLasting.{SnapLasting, SnapLastsOn, lost_of, IsReady}
use Rattle.volume.specs.Stepping.{merged_of}
use Rattle.volume.specs.Volumed.{Volumed, books_of, dues_of, merge_due, is_due_by, is_due_of, left_by, left_in_all, is_loud_with, is_loud_in_all}
use Rattle.volume.specs.Whole.{IsWhole, IsAttached, IsCounted, IsMerged, GoesOn, SharesNone, AreNumbers, starts_left}
use Rattle.volume.proofs.Relayered.{map_at, map_twice, IsAlike, IsMergeAlike, IsVolumeAlike, books_of_alike}
use Rattle.volume.proofs.Shown.{shown, and_left, and_right, loud_but}

-- a fact of each element, of maps
map_each : {A C : Type 0} (f : A → C) (R : C → C → Type 0) (xs ys : List A) → length ys ≡ length xs → ((k : ℕ) (d : A) → k < length xs → R (f (get_or xs k d)) (f (get_or ys k d)))
    → (k : ℕ) (e : C) → k < length (map f xs) → R (get_or (map f xs) k e) (get_or (map f ys) k e)
map_each f R [] ys len each k e lt = absurd (omega (arith, lt))
map_each f R (x ∷ xs) [] len each k e lt = absurd (omega (arith, len))
map_each f R (x ∷ xs) (y ∷ ys) len each zero e lt = each 0 x (omega arith)
map_each f R (x ∷ xs) (y ∷ ys) len each (suc k) e lt = map_each f R xs ys (omega (arith, len)) (λ j d within. each (suc j) d (omega (arith, within))) k e (omega (arith, lt))

-- a test that each element passed which passes it now
all_before : {A : Type 0} (p : A → Bool) (xs ys : List A) → length ys ≡ length xs → ((k : ℕ) (d : A) → k < length xs → p (get_or ys k d) ≡ true → p (get_or xs k d) ≡ true) → list_all p ys ≡ true → list_all p xs ≡ true
all_before p [] ys len each all = refl
all_before p (x ∷ xs) [] len each all = absurd (omega (arith, len))
all_before p (x ∷ xs) (y ∷ ys) len each all =
    both_loud (p x) (list_all p xs) (each 0 x (omega arith) (and_left (p y) (list_all p ys) all))
    (all_before p xs ys (omega (arith, len)) (λ k d lt. each (suc k) d (omega (arith, lt))) (and_right (p y) (list_all p ys) all))

-- and each passes it where all do
all_each : {A : Type 0} (p : A → Bool) (ys : List A) → list_all p ys ≡ true → (k : ℕ) (d : A) → k < length ys → p (get_or ys k d) ≡ true
all_each p [] all k d lt = absurd (omega (arith, lt))
all_each p (y ∷ ys) all zero d lt = and_left (p y) (list_all p ys) all
all_each p (y ∷ ys) all (suc k) d lt = all_each p ys (and_right (p y) (list_all p ys) all) k d (omega (arith, lt))

module _ {B : Type 0} (holds : B → ℕ → List ℕ → Type 0) (contents : B → List ℕ) (layers : B → List Layer) (size faults done : B → ℕ) where
  -- a device that did nothing
  pub ahead_none : (d : B) → IsAhead holds contents layers size faults done d d
  ahead_none d = record { loud = λ e. e; same = λ e. refl; stop = λ e s x there. there; sized = refl; faulty = refl; counted = refl }

  pub ahead_none_merge : (m : Option (Merging B)) → IsMergeAhead holds contents layers size faults done m m
  ahead_none_merge None = tt
  ahead_none_merge (Some m) = (ahead_none m.device, refl)

  -- of a list, one snapshot's store did something
  pub snap_one : (snaps : List (Kept B)) (k : ℕ) (s t : Kept B) → k < length snaps → IsSnapAhead holds contents layers size faults done (get_or snaps k s) t
      → (j : ℕ) (d : Kept B) → j < length snaps → IsSnapAhead holds contents layers size faults done (get_or snaps j d) (get_or (set snaps k t) j d)
  snap_one snaps k s t within is j d lt = elim (cases_eq j k) [
    | inl same ↦
        subst (λ (x : Kept B). IsSnapAhead holds contents layers size faults done (get_or snaps j d) x) (sym (ap (λ i. get_or (set snaps k t) i d) same ∙ get_or-set_same snaps k t d within))
        (subst (λ (x : Kept B). IsSnapAhead holds contents layers size faults done x t) (get_or_default snaps k s d within ∙ ap (λ i. get_or snaps i d) (sym same)) is)
    | inr other ↦
        subst (λ (x : Kept B). IsSnapAhead holds contents layers size faults done (get_or snaps j d) x) (sym (get_or-set_other snaps k j t d other)) (record { store = ahead_none (get_or snaps j d).device; same = refl })
  ]

  module _ (whole : (d : B) → length (contents d) ≡ 512 * size d) where
    -- its bytes
    bytes_ahead : (d d' : B) → IsAhead holds contents layers size faults done d d' → IsKeptBytes (is_loud (layers d)) (is_loud (layers d')) (contents d) (contents d')
    bytes_ahead d d' a = record { long = whole d' ∙ ap (λ n. 512 * n) a.sized ∙ sym (whole d); was = a.loud; same = a.same }

    snap_ahead : (s t : Kept B) → IsSnapAhead holds contents layers size faults done s t → IsBooksAhead (snap_books contents layers s) (snap_books contents layers t)
    snap_ahead s t h = record { store = bytes_ahead s.device t.device h.store; becomes = ap (snap_books contents layers) h.same }

    room_ahead : (s t : Kept B) → IsSnapAhead holds contents layers size faults done s t → IsOtherRoom (room_of contents layers s) (room_of contents layers t)
    room_ahead s t h = ap (room_of contents layers) h.same

    module _ (v w : Volumed B) (h : AreAhead holds contents layers size faults done v w) where
      merge_ahead : (x y : Option (Merging B)) → IsMergeAhead holds contents layers size faults done x y
          → IsMergingAhead (contents v.origin) (contents w.origin) (merge_books contents layers (is_loud (layers v.origin)) x) (merge_books contents layers (is_loud (layers w.origin)) y)
      merge_ahead None None a = tt
      merge_ahead None (Some y) a = absurd a
      merge_ahead (Some x) None a = absurd a
      merge_ahead (Some x) (Some y) a =
          let lo : Bool = is_loud (layers v.origin) in
          let lo' : Bool = is_loud (layers w.origin) in
          let ls : Bool = is_loud (layers x.device) in
          let ls' : Bool = is_loud (layers y.device) in
          record {
            store = record {
              long = whole y.device ∙ ap (λ n. 512 * n) a.0.sized ∙ sym (whole x.device);
              was = λ both. both_loud lo ls (h.origin.loud (heard_first lo' ls' both)) (a.0.loud (store_loud lo' ls' both));
              same = λ both. a.0.same (store_loud lo' ls' both);
            };
            origin = λ both. h.origin.same (heard_first lo' ls' both);
            becomes = ap (merging_books contents (lo' && ls')) a.1;
          }

      snaps_ahead : (k : ℕ) (e : SnapBooks) → k < length (map (snap_books contents layers) v.snaps) → IsBooksAhead (get_or (map (snap_books contents layers) v.snaps) k e) (get_or (map (snap_books contents layers) w.snaps) k e)
      snaps_ahead = map_each (snap_books contents layers) IsBooksAhead v.snaps w.snaps h.count (λ k d lt. snap_ahead (get_or v.snaps k d) (get_or w.snaps k d) (h.snaps k d lt))

      books_long : length (map (snap_books contents layers) w.snaps) ≡ length (map (snap_books contents layers) v.snaps)
      books_long = length-map w.snaps (snap_books contents layers) ∙ h.count ∙ sym (length-map v.snaps (snap_books contents layers))

      books_ahead : AreBooksAhead (books_of contents layers size v) (books_of contents layers size w)
      books_ahead = record {
        origin = bytes_ahead v.origin w.origin h.origin;
        count = books_long;
        snaps = snaps_ahead;
        merge = merge_ahead v.merge w.merge h.merge;
        becomes = (let mk : ℕ → List Flight → Books = λ n rs. record (books_of contents layers size w) { sectors = n; requests = rs } in
            ap (λ rs. mk (size w.origin) rs) (ap (λ (x : Volumed B). x.flights) h.becomes) ∙ ap (λ n. mk n v.flights) h.origin.sized);
      }

      -- a merge goes on
      module _ (x y : Merging B) (near : IsAhead holds contents layers size faults done x.device y.device) (same : y ≡ record x { device = y.device }) (g : IsMerged contents layers size x v) where
        goes : (loud : Bool) → MergeGoes (map (snap_books contents layers) w.snaps) (merging_due contents loud y)
        goes loud = subst (MergeGoes (map (snap_books contents layers) w.snaps)) (sym (ap (merging_due contents loud) same))
            (goes_ahead (map (snap_books contents layers) v.snaps) (map (snap_books contents layers) w.snaps) books_long (λ k e lt. (snaps_ahead k e lt).becomes) (merging_due contents loud x) (contents y.device) (g.goes loud))

        rooms : KeepBack y.state.chunk y.state.origin y.pairs (map (room_of contents layers) w.snaps)
        rooms =
            subst (λ (z : Merging B). KeepBack z.state.chunk z.state.origin z.pairs (map (room_of contents layers) w.snaps)) (sym same)
            (back_ahead x.state.chunk x.state.origin x.pairs (map (room_of contents layers) v.snaps) (map (room_of contents layers) w.snaps)
            (length-map w.snaps (room_of contents layers) ∙ h.count ∙ sym (length-map v.snaps (room_of contents layers)))
            (map_each (room_of contents layers) IsOtherRoom v.snaps w.snaps h.count (λ k d lt. room_ahead (get_or v.snaps k d) (get_or w.snaps k d) (h.snaps k d lt))) g.rooms)

        other_number : (k : ℕ) (d : Kept B) → k < length w.snaps → (get_or w.snaps k d).number ≢ y.number
        other_number k d lt =
            let within : k < length v.snaps = omega (arith, lt, h.count) in
            subst (λ (n : ℕ). n ≢ y.number) (sym (ap number_of_snap (h.snaps k d within).same))
            (subst (λ (n : ℕ). (get_or v.snaps k d).number ≢ n) (sym (ap (λ (z : Merging B). z.number) same)) (g.apart k d within))

        merged : IsMerged contents layers size y w
        merged = record {
          origin = ap (λ (z : Merging B). z.state.origin) same ∙ g.origin ∙ sym h.origin.sized;
          allowed = ap (λ (z : Merging B). is_chunk z.state.chunk) same ∙ g.allowed;
          apart = other_number;
          given = omega (arith, ap (λ (z : Merging B). z.number) same, ap (λ (z : Volumed B). z.attached) h.becomes, g.given);
          few = omega (arith, h.count, g.few);
          goes = goes;
          rooms = rooms;
        }

      goes_on : (x y : Option (Merging B)) → IsMergeAhead holds contents layers size faults done x y → GoesOn contents layers size x v → GoesOn contents layers size y w
      goes_on None None a g = tt
      goes_on None (Some y) a g = absurd a
      goes_on (Some x) None a g = absurd a
      goes_on (Some x) (Some y) a g = merged x y a.0 a.1 g

      within_old : (k : ℕ) → k < length w.snaps → k < length v.snaps
      within_old k lt = omega (arith, lt, h.count)

      snap_is : (k : ℕ) (d : Kept B) → k < length w.snaps → get_or w.snaps k d ≡ record (get_or v.snaps k d) { device = (get_or w.snaps k d).device }
      snap_is k d lt = (h.snaps k d (within_old k lt)).same

      -- a map that looks at no device
      same_map : {C : Type 0} (f : Kept B → C) → ((s : Kept B) (d : B) → f (record s { device = d }) ≡ f s) → map f w.snaps ≡ map f v.snaps
      same_map f blind = map_at f f v.snaps w.snaps h.count (λ k d lt. ap f (h.snaps k d lt).same ∙ blind (get_or v.snaps k d) (get_or w.snaps k d).device)

      same_sum : (f : Kept B → ℕ) → ((s : Kept B) (d : B) → f (record s { device = d }) ≡ f s) → sum_by f w.snaps ≡ sum_by f v.snaps
      same_sum f blind = sym (sum-map f w.snaps) ∙ ap sum (same_map f blind) ∙ sum-map f v.snaps

      pub whole_ahead : IsWhole contents layers size v → IsWhole contents layers size w
      whole_ahead old = record {
        merge = goes_on v.merge w.merge h.merge old.merge;
        holds = ahead_holds (books_of contents layers size v) (books_of contents layers size w) books_ahead old.holds;
        waits = ahead_waits (books_of contents layers size v) (books_of contents layers size w) books_ahead old.waits;
        snaps = λ k d lt. (let a = old.snaps k d (within_old k lt) in
            subst (λ (n : ℕ). IsAttached n (size w.origin) (get_or w.snaps k d)) (sym (ap (λ (x : Volumed B). x.copies) h.becomes))
            (subst (λ (n : ℕ). IsAttached v.copies n (get_or w.snaps k d)) (sym h.origin.sized)
            (subst (IsAttached v.copies (size v.origin)) (sym (snap_is k d lt)) (record { origin = a.origin; allowed = a.allowed; some = a.some; numbers = a.numbers }))));
        counted = λ k d lt. (let c = old.counted k d (within_old k lt) in subst IsCounted (sym (snap_is k d lt)) (record { some = c.some; count = c.count; fits = c.fits; idle = c.idle }));
        apart = λ i j d lt within.
            subst (λ (x : Kept B). SharesNone x (get_or w.snaps j d)) (sym (snap_is i d (omega (arith, lt, within))))
            (subst (SharesNone (record (get_or v.snaps i d) { device = (get_or w.snaps i d).device })) (sym (snap_is j d within)) (old.apart i j d lt (within_old j within)));
        numbers = subst (AreNumbers w.attached) (sym (same_map number_of_snap (λ s d. refl))) (subst (λ (n : ℕ). AreNumbers n (map number_of_snap v.snaps)) (sym (ap (λ (x : Volumed B). x.attached) h.becomes)) old.numbers);
        requests = subst (λ (x : Volumed B). AreNumbers x.requests (map number_of_flight x.flights)) (sym h.becomes) old.requests;
        few = omega (arith, h.count, old.few);
        few_copies = omega (arith, same_sum count_in (λ s d. refl), old.few_copies);
        few_requests = subst (λ (x : Volumed B). length x.flights ≤ 64) (sym h.becomes) old.few_requests;
        numbers_left = omega (arith, same_sum starts_left (λ s d. refl), ap (λ (x : Volumed B). x.copies) h.becomes, ap (λ (x : Volumed B). x.attached) h.becomes, old.numbers_left);
      }

      -- what lasts of a snapshot
      module _ (s : Kept B) (d : B) (e : IsAhead holds contents layers size faults done s.device d) (l : SnapLasting holds contents layers size v.origin s) where
        lasts_on : is_loud (layers w.origin) ≡ true → is_loud (layers d) ≡ true → SnapLastsOn holds contents size v.origin s → SnapLastsOn holds contents size w.origin (record s { device = d })
        lasts_on lo ls was =
            let mk : ℕ → ℕ → Lost = λ n m. record (lost_of size v.origin s) { sectors = n; size = m } in
            let lost : lost_of size w.origin (record s { device = d }) ≡ lost_of size v.origin s = ap (λ n. mk n (size d)) h.origin.sized ∙ ap (mk (size v.origin)) e.sized in
            subst (SnapLasts (holds w.origin) (holds d) (contents w.origin) (contents d) (IsReady s.copies)) (sym lost)
            (snap_fewer (holds v.origin) (holds s.device) (holds w.origin) (holds d) (contents v.origin) (contents s.device) (contents w.origin) (contents d) (IsReady s.copies) (lost_of size v.origin s) (h.origin.stop lo) (e.stop ls) (h.origin.same lo) (e.same ls) was)

        snap_lasts : SnapLasting holds contents layers size w.origin (record s { device = d })
        snap_lasts = record {
          unmarked = l.unmarked;
          formed = subst (λ n. AreWellFormed s.state.chunk n (size d) s.pairs) (sym h.origin.sized) (subst (λ n. AreWellFormed s.state.chunk (size v.origin) n s.pairs) (sym e.sized) l.formed);
          listed = λ ls. ap (pairs_of s.state.chunk) (e.same ls) ∙ l.listed (e.loud ls);
          live = λ lo ls lives. lasts_on lo ls (l.live (h.origin.loud lo) (e.loud ls) lives);
          untried = λ lo ls dead waits. lasts_on lo ls (l.untried (h.origin.loud lo) (e.loud ls) dead waits);
          tried = λ lo ls dead tried fresh. refused_fewer (holds s.device) (holds d) (e.stop ls) (l.tried (h.origin.loud lo) (e.loud ls) dead tried fresh);
        }

      -- and of a merge
      merge_lasts : (x y : Option (Merging B)) → IsMergeAhead holds contents layers size faults done x y → MergeLasting holds contents layers size v.origin x → MergeLasting holds contents layers size w.origin y
      merge_lasts None None a l = tt
      merge_lasts None (Some y) a l = absurd a
      merge_lasts (Some x) None a l = absurd a
      merge_lasts (Some x) (Some y) a l = λ lo ls.
          (let mk : ℕ → ℕ → LostMerge = λ n m. record (merging_of size v.origin x) { sectors = n; size = m } in
          let lost : merging_of size w.origin y ≡ merging_of size v.origin x = ap (λ (z : Merging B). record (merging_of size w.origin z) { size = size y.device }) a.1 ∙ ap (λ n. mk n (size y.device)) h.origin.sized ∙ ap (mk (size v.origin)) a.0.sized in
          subst (MergeLasts (holds w.origin) (holds y.device) (contents w.origin) (contents y.device)) (sym lost)
          (merge_fewer (holds v.origin) (holds x.device) (holds w.origin) (holds y.device) (contents v.origin) (contents x.device) (contents w.origin) (contents y.device) (merging_of size v.origin x) (h.origin.stop lo) (a.0.stop ls) (h.origin.same lo) (a.0.same ls) (l (h.origin.loud lo) (a.0.loud ls))))

      lasting_ahead : IsLasting holds contents layers size v → IsLasting holds contents layers size w
      lasting_ahead l = record {
        snaps = λ k d lt. subst (SnapLasting holds contents layers size w.origin) (sym (snap_is k d lt)) (snap_lasts (get_or v.snaps k d) (get_or w.snaps k d).device (h.snaps k d (within_old k lt)).store (l.snaps k d (within_old k lt)));
        merge = merge_lasts v.merge w.merge h.merge l.merge;
      }

      pub kept_ahead : IsKept holds contents layers size v → IsKept holds contents layers size w
      kept_ahead k = record { whole = whole_ahead k.whole; lasting = lasting_ahead k.lasting }

      -- where all stacks are loud now, they were
      loud_with : (x y : Option (Merging B)) → IsMergeAhead holds contents layers size faults done x y → (b b' : Bool) → (b' ≡ true → b ≡ true) → is_loud_with layers y b' ≡ true → is_loud_with layers x b ≡ true
      loud_with None None a b b' before all = before all
      loud_with None (Some y) a b b' before all = absurd a
      loud_with (Some x) None a b b' before all = absurd a
      loud_with (Some x) (Some y) a b b' before all = both_loud b (is_loud (layers x.device)) (before (and_left b' (is_loud (layers y.device)) all)) (a.0.loud (and_right b' (is_loud (layers y.device)) all))

      loud_before : is_loud_in_all layers w ≡ true → is_loud_in_all layers v ≡ true
      loud_before = loud_with v.merge w.merge h.merge (is_loud (layers v.origin) && list_all (λ s. is_loud (layers s.device)) v.snaps) (is_loud (layers w.origin) && list_all (λ s. is_loud (layers s.device)) w.snaps) (λ now.
          both_loud (is_loud (layers v.origin)) (list_all (λ s. is_loud (layers s.device)) v.snaps) (h.origin.loud (and_left (is_loud (layers w.origin)) (list_all (λ s. is_loud (layers s.device)) w.snaps) now))
          (all_before (λ s. is_loud (layers s.device)) v.snaps w.snaps h.count (λ k d lt. (h.snaps k d lt).store.loud) (and_right (is_loud (layers w.origin)) (list_all (λ s. is_loud (layers s.device)) w.snaps) now)))

      device_alike : (d d' : B) → IsAhead holds contents layers size faults done d d' → is_loud (layers d') ≡ true → IsAlike contents layers size d d'
      device_alike d d' a loud = record { bytes = a.same loud; sectors = a.sized; loud = loud ∙ sym (a.loud loud) }

      merge_alike : (x y : Option (Merging B)) → IsMergeAhead holds contents layers size faults done x y → (others : Bool) → is_loud_with layers y others ≡ true → IsMergeAlike contents layers size x y
      merge_alike None None a others all = tt
      merge_alike None (Some y) a others all = absurd a
      merge_alike (Some x) None a others all = absurd a
      merge_alike (Some x) (Some y) a others all = (device_alike x.device y.device a.0 (and_right others (is_loud (layers y.device)) all), a.1)

      -- and each device holds what it held
      module _ (all : is_loud_in_all layers w ≡ true) where
        now : (is_loud (layers w.origin) && list_all (λ s. is_loud (layers s.device)) w.snaps) ≡ true
        now = loud_but layers w.merge (is_loud (layers w.origin) && list_all (λ s. is_loud (layers s.device)) w.snaps) all

        origin_now : is_loud (layers w.origin) ≡ true
        origin_now = and_left (is_loud (layers w.origin)) (list_all (λ s. is_loud (layers s.device)) w.snaps) now

        store_now : (k : ℕ) (d : Kept B) → k < length v.snaps → is_loud (layers (get_or w.snaps k d).device) ≡ true
        store_now k d lt = all_each (λ s. is_loud (layers s.device)) w.snaps (and_right (is_loud (layers w.origin)) (list_all (λ s. is_loud (layers s.device)) w.snaps) now) k d (omega (arith, lt, h.count))

        alike : IsVolumeAlike contents layers size v w
        alike = record {
          origin = device_alike v.origin w.origin h.origin origin_now;
          count = h.count;
          snaps = λ k d lt. record { store = device_alike (get_or v.snaps k d).device (get_or w.snaps k d).device (h.snaps k d lt).store (store_now k d lt); same = (h.snaps k d lt).same };
          merge = merge_alike v.merge w.merge h.merge (is_loud (layers w.origin) && list_all (λ s. is_loud (layers s.device)) w.snaps) all;
          becomes = h.becomes;
        }

        same_books : books_of contents layers size w ≡ books_of contents layers size v
        same_books = books_of_alike contents layers size v w alike

        merge_opens : (x y : Option (Merging B)) → IsMergeAhead holds contents layers size faults done x y → (others : Bool) → is_loud_with layers y others ≡ true → MergeLeavesNoMore holds size x y
        merge_opens None None a others loud = tt
        merge_opens None (Some y) a others loud = absurd a
        merge_opens (Some x) None a others loud = absurd a
        merge_opens (Some x) (Some y) a others loud = λ s bytes lt there. a.0.stop (and_right others (is_loud (layers y.device)) loud) s bytes there

        opens : OpensNothing holds size v w
        opens = record {
          origin = λ s bytes lt there. h.origin.stop origin_now s bytes there;
          snaps = λ k d lt s bytes inside there. (h.snaps k d lt).store.stop (store_now k d lt) s bytes there;
          merge = merge_opens v.merge w.merge h.merge (is_loud (layers w.origin) && list_all (λ s. is_loud (layers s.device)) w.snaps) all;
        }

      -- loud or not, what is due and how much is left
      dues : map forget_due (dues_of contents layers w) ≡ map forget_due (dues_of contents layers v)
      dues =
          map_twice (due_of_kept contents layers) forget_due w.snaps
          ∙ same_map (λ s. forget_due (due_of_kept contents layers s)) (λ s d. refl)
          ∙ sym (map_twice (due_of_kept contents layers) forget_due v.snaps)

      flights : w.flights ≡ v.flights
      flights = ap (λ (x : Volumed B). x.flights) h.becomes

      due_by_merge : (x y : Option (Merging B)) → IsMergeAhead holds contents layers size faults done x y → (event : Event) → is_due_by (dues_of contents layers w) v.flights (merge_due contents y) event ≡ is_due_by (dues_of contents layers v) v.flights (merge_due contents x) event
      due_by_merge None None a event = same_due (dues_of contents layers v) (dues_of contents layers w) v.flights dues event
      due_by_merge None (Some y) a event = absurd a
      due_by_merge (Some x) None a event = absurd a
      due_by_merge (Some x) (Some y) a event =
          same_due_with (dues_of contents layers v) (dues_of contents layers w) v.flights dues (merging_due contents true x) (merging_due contents true y) (ap (λ (z : Merging B). forget_merge (merging_due contents true z)) a.1) event

      due : (event : Event) → is_due_of contents layers w event ≡ is_due_of contents layers v event
      due event = ap (λ rs. is_due_by (dues_of contents layers w) rs (merge_due contents w.merge) event) flights ∙ due_by_merge v.merge w.merge h.merge event

      left_by_merge : (x y : Option (Merging B)) → IsMergeAhead holds contents layers size faults done x y → left_by (dues_of contents layers w) (merge_due contents y) ≡ left_by (dues_of contents layers v) (merge_due contents x)
      left_by_merge None None a = refl
      left_by_merge None (Some y) a = absurd a
      left_by_merge (Some x) None a = absurd a
      left_by_merge (Some x) (Some y) a =
          let d : DueMerge = merging_due contents true x in
          let d' : DueMerge = merging_due contents true y in
          let same : forget_merge d' ≡ forget_merge d = ap (λ (z : Merging B). forget_merge (merging_due contents true z)) a.1 in
          ap (λ n. n + left_beside (map due_books (dues_of contents layers w)) d') (same_left_in (dues_of contents layers v) (dues_of contents layers w) v.flights dues d d' same)
          ∙ ap (λ n. left_in_merge d + n) (same_beside (dues_of contents layers v) (dues_of contents layers w) v.flights dues d d' same)

      left : left_in_all contents layers w ≡ left_in_all contents layers v
      left =
          ap (λ rs. left_of (dues_of contents layers w) rs + left_by (dues_of contents layers w) (merge_due contents w.merge)) flights
          ∙ ap (λ n. n + left_by (dues_of contents layers w) (merge_due contents w.merge)) (same_left (dues_of contents layers v) (dues_of contents layers w) v.flights dues)
          ∙ ap (λ n. left_of (dues_of contents layers v) v.flights + n) (left_by_merge v.merge w.merge h.merge)

      -- what devices count
      module _ (count : B → ℕ) (same : (d d' : B) → IsAhead holds contents layers size faults done d d' → count d' ≡ count d) where
        counts_merge : (x y : Option (Merging B)) → IsMergeAhead holds contents layers size faults done x y → (counts : List ℕ) → counts_with count y counts ≡ counts_with count x counts
        counts_merge None None a counts = refl
        counts_merge None (Some y) a counts = absurd a
        counts_merge (Some x) None a counts = absurd a
        counts_merge (Some x) (Some y) a counts = ap (λ n. counts ++ n ∷ []) (same x.device y.device a.0)

        counts_same : counts_of count w ≡ counts_of count v
        counts_same =
            let one : Kept B → ℕ = λ s. count s.device in
            counts_merge v.merge w.merge h.merge (count w.origin ∷ map one w.snaps)
            ∙ ap (λ n. counts_with count v.merge (n ∷ map one w.snaps)) (same v.origin w.origin h.origin)
            ∙ ap (λ ns. counts_with count v.merge (count v.origin ∷ ns)) (map_at one one v.snaps w.snaps h.count (λ k d lt. same (get_or v.snaps k d).device (get_or w.snaps k d).device (h.snaps k d lt).store))

      merged_same : (x y : Option (Merging B)) → IsMergeAhead holds contents layers size faults done x y → merged_of y ≡ merged_of x
      merged_same None None a = refl
      merged_same None (Some y) a = absurd a
      merged_same (Some x) None a = absurd a
      merged_same (Some x) (Some y) a = ap (λ (z : Merging B). Some (z.number, z.state.chunk)) a.1

      pub does_ahead : DoesAhead holds contents layers size faults done v w
      does_ahead = record {
        devices = h;
        loud = loud_before;
        books = same_books;
        plain = λ all. shown contents layers size w ∙ ap plain_books (same_books all) ∙ sym (shown contents layers size v);
        opens = opens;
        due = due;
        left = left;
        kept = record {
          attached = ap (λ (x : Volumed B). x.attached) h.becomes;
          numbers = same_map number_of_snap (λ s d. refl);
          chunks = same_map (λ s. s.state.chunk) (λ s d. refl);
          merged = merged_same v.merge w.merge h.merge;
          sizes = counts_same size (λ d d' a. a.sized);
        };
        counted = record { operations = counts_same done (λ d d' a. a.counted); faults_are = counts_same faults (λ d d' a. a.faulty) };
      }

    -- nothing is done, or something by one device
    module _ (v : Volumed B) where
      none_of : (k : ℕ) (d : Kept B) → k < length v.snaps → IsSnapAhead holds contents layers size faults done (get_or v.snaps k d) (get_or v.snaps k d)
      none_of k d lt = record { store = ahead_none (get_or v.snaps k d).device; same = refl }

      are_none : AreAhead holds contents layers size faults done v v
      are_none = record { origin = ahead_none v.origin; count = refl; snaps = none_of; merge = ahead_none_merge v.merge; becomes = refl }

      are_origin : (o : B) → IsAhead holds contents layers size faults done v.origin o → AreAhead holds contents layers size faults done v (record v { origin = o })
      are_origin o a = record { origin = a; count = refl; snaps = none_of; merge = ahead_none_merge v.merge; becomes = refl }

      are_snaps : (snaps : List (Kept B)) → length snaps ≡ length v.snaps → ((k : ℕ) (d : Kept B) → k < length v.snaps → IsSnapAhead holds contents layers size faults done (get_or v.snaps k d) (get_or snaps k d))
          → AreAhead holds contents layers size faults done v (record v { snaps = snaps })
      are_snaps snaps count each = record { origin = ahead_none v.origin; count = count; snaps = each; merge = ahead_none_merge v.merge; becomes = refl }

      are_merge : (m : Option (Merging B)) → IsMergeAhead holds contents layers size faults done v.merge m → AreAhead holds contents layers size faults done v (record v { merge = m })
      are_merge m a = record { origin = ahead_none v.origin; count = refl; snaps = none_of; merge = a; becomes = refl }

      pub none_does : DoesAhead holds contents layers size faults done v v
      none_does = does_ahead v v are_none

      pub origin_does : (o : B) → IsAhead holds contents layers size faults done v.origin o → DoesAhead holds contents layers size faults done v (record v { origin = o })
      origin_does o a = does_ahead v (record v { origin = o }) (are_origin o a)

      pub origin_keeps : (o : B) → IsAhead holds contents layers size faults done v.origin o → IsKept holds contents layers size v → IsKept holds contents layers size (record v { origin = o })
      origin_keeps o a = kept_ahead v (record v { origin = o }) (are_origin o a)

      pub snaps_does : (snaps : List (Kept B)) → length snaps ≡ length v.snaps → ((k : ℕ) (d : Kept B) → k < length v.snaps → IsSnapAhead holds contents layers size faults done (get_or v.snaps k d) (get_or snaps k d))
          → DoesAhead holds contents layers size faults done v (record v { snaps = snaps })
      snaps_does snaps count each = does_ahead v (record v { snaps = snaps }) (are_snaps snaps count each)

      pub snaps_keeps : (snaps : List (Kept B)) → length snaps ≡ length v.snaps → ((k : ℕ) (d : Kept B) → k < length v.snaps → IsSnapAhead holds contents layers size faults done (get_or v.snaps k d) (get_or snaps k d))
          → IsKept holds contents layers size v → IsKept holds contents layers size (record v { snaps = snaps })
      snaps_keeps snaps count each = kept_ahead v (record v { snaps = snaps }) (are_snaps snaps count each)

      pub merge_does : (m : Option (Merging B)) → IsMergeAhead holds contents layers size faults done v.merge m → DoesAhead holds contents layers size faults done v (record v { merge = m })
      merge_does m a = does_ahead v (record v { merge = m }) (are_merge m a)

      pub merge_keeps : (m : Option (Merging B)) → IsMergeAhead holds contents layers size faults done v.merge m → IsKept holds contents layers size v → IsKept holds contents layers size (record v { merge = m })
      merge_keeps m a = kept_ahead v (record v { merge = m }) (are_merge m a)
