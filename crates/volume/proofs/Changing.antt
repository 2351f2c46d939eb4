-- One snapshot of a volume changes, and with it maybe what its requests wait for.
use Rattle.std.proofs.Common.{◌≡◌, ◌≢◌, Option, None, Some, Bool, ℕ, zero, suc, ◌+◌, ◌*◌, ◌<◌, ◌≤◌, List, [], ◌∷◌, length, get_or, set, map, refl, sym, ◌∙◌, ap, subst, arith}
use Rattle.std.specs.Prelude.{◌&&◌, AllPairs, min, sum_by}
use Rattle.std.specs.List.{All, list_all}
use Rattle.std.proofs.lemmas.List.{map-set, length-map, get_or-map, length-set}
use Rattle.std.proofs.lemmas.List.Elements.{All-set, All-weaker}
use Rattle.std.proofs.lemmas.List.Sums.{sum_by-set}
use Rattle.std.proofs.Math.Seq.{map-set_same}
use Rattle.chunk.specs.Sizes.{is_chunk}
use Rattle.device.specs.Layers.{Layer, is_loud}
use Rattle.in_flight.specs.Due.{number_of_flight}
use Rattle.in_flight.specs.Routes.{refused_of}
use Rattle.in_flight.specs.declared.flights.Flight.{Flight}
use Rattle.volume_laws.specs.Books.{SnapBooks}
use Rattle.volume_laws.specs.Due.{left_in, left_of, weight_of, books_of as due_in}
use Rattle.volume_laws.specs.MergeDue.{DueMerge, left_beside}
use Rattle.volume_laws.specs.Steps.{ChangesSnap, SpoilsOne, SpoilsSnap}
use Rattle.volume_laws.specs.Whole.{Holds}
use Rattle.volume_laws.specs.Waits.{Waits}
use Rattle.volume_laws.specs.MergeRooms.{RoomSnap, KeepBack}
use Rattle.volume_laws.specs.MergeWaits.{MergeGoes}
use Rattle.volume_laws.proofs.Left.{one_left}
use Rattle.volume_laws.proofs.MergeBeside.{beside_set}
use Rattle.volume_laws.proofs.MergeRooms.{KeepsRoom}
use Rattle.volume_laws.proofs.MergeRoomEvents.{rooms_changed}
use Rattle.volume_laws.proofs.MergeSaved.{KeepsSaved, goes_changed as goes_set}
use Rattle.merge.specs.Merging.{Merging, due_of as merging_due}
use Rattle.snapshot.specs.Kept.{Kept, books_of as snap_books, due_of_kept}
use Rattle.snapshot_list.specs.Rooms.{merge_books, room_of}
use Rattle.volume.specs.Volumed.{Volumed, books_of, piece_of, piece_with, is_loud_in_all, left_by, left_in_all, merge_due, dues_of, is_loud_with}
use Rattle.snapshot_list.specs.Numbers.{number_of_snap, numbers_in, count_in, merged_count}
use Rattle.volume.specs.Whole.{AreNumbers, SharesNone, IsAttached, IsWhole, GoesOn, IsCounted, starts_left}
use Rattle.volume.proofs.Lists.{all_pairs_set, list_all_set, IsFewer, fewer_all, fewer_pairs}
use Rattle.volume.proofs.Shown.{due_books}

-- an origin disk that holds the same
pub record SameDisk {B : Type 0} (contents : B → List ℕ) (layers : B → List Layer) (size : B → ℕ) (o o' : B) : Type 0 where
  pub bytes : contents o' ≡ contents o
  pub sectors : size o' ≡ size o
  pub loud : is_loud (layers o') ≡ is_loud (layers o)

pub same_disk : {B : Type 0} (contents : B → List ℕ) (layers : B → List Layer) (size : B → ℕ) (o : B) → SameDisk contents layers size o o
same_disk contents layers size o = record { bytes = refl; sectors = refl; loud = refl }

-- no more copies wait than before: the same, one less, or none
pub few_same : {B : Type 0} (s s' : Kept B) → numbers_in s' ≡ numbers_in s → s'.merging ≡ s.merging → count_in s' ≤ count_in s
few_same s s' numbers merging = omega (arith, ap length numbers, ap merged_count merging)

pub few_less : {B : Type 0} (s s' : Kept B) → length (numbers_in s') < length (numbers_in s) → count_in s' ≤ count_in s
few_less s s' less = (let one = at_most_one s.merging in omega (arith, less, one))
  where
    at_most_one : (merging : Option ℕ) → merged_count merging ≤ 1
    at_most_one None = omega arith
    at_most_one (Some n) = omega arith

pub few_none : {B : Type 0} (s s' : Kept B) → numbers_in s' ≡ [] → count_in s' ≤ count_in s
few_none s s' none = omega (arith, ap length none)

-- what an event leaves of a snapshot's place in its volume
pub record StaysAttached {B : Type 0} (s s' : Kept B) : Type 0 where
  pub number : s'.number ≡ s.number
  pub chunk_is : s'.state.chunk ≡ s.state.chunk
  pub origin : s'.state.origin ≡ s.state.origin
  pub numbers : IsFewer (numbers_in s) (numbers_in s')
  pub few : count_in s' ≤ count_in s
  pub counted : IsCounted s → IsCounted s'
  pub left : starts_left s' ≤ starts_left s

abbrev pub changed : {B : Type 0} → Volumed B → B → ℕ → Kept B → List Flight → Volumed B
changed v o k s flights = record v { origin = o; snaps = set v.snaps k s; flights = flights }

pub piece_set : {B : Type 0} (snaps : List (Kept B)) (k : ℕ) (s s' : Kept B) → s ≡ get_or snaps k s → s'.state.chunk ≡ s.state.chunk → piece_of (set snaps k s') ≡ piece_of snaps
piece_set [] k s s' is same = refl
piece_set (x ∷ xs) zero s s' is same = ap (λ n. min n (piece_of xs)) (same ∙ ap (λ (y : Kept _). y.state.chunk) is)
piece_set (x ∷ xs) (suc k) s s' is same = ap (min x.state.chunk) (piece_set xs k s s' is same)

-- beside a merge
pub piece_beside : {B : Type 0} (merge : Option (Merging B)) (snaps : List (Kept B)) (k : ℕ) (s s' : Kept B) → s ≡ get_or snaps k s → s'.state.chunk ≡ s.state.chunk → piece_with merge (set snaps k s') ≡ piece_with merge snaps
piece_beside None snaps k s s' is same = piece_set snaps k s s' is same
piece_beside (Some m) snaps k s s' is same = ap (min m.state.chunk) (piece_set snaps k s s' is same)

-- what a volume's snapshots keep among themselves
pub record SnapsFit {B : Type 0} (copies attached sectors : ℕ) (all : List (Kept B)) : Type 0 where
  pub snaps : All (IsAttached copies sectors) all
  pub counted : All IsCounted all
  pub apart : AllPairs SharesNone all
  pub numbers : AreNumbers attached (map number_of_snap all)
  pub few : length all ≤ 8
  pub few_copies : sum_by count_in all ≤ 256
  pub numbers_left : copies + sum_by starts_left all ≤ 2_147_483_648 * attached

pub snaps_fit : {B : Type 0} (contents : B → List ℕ) (layers : B → List Layer) (size : B → ℕ) (v : Volumed B) (sectors : ℕ) → IsWhole contents layers size v → sectors ≡ size v.origin → SnapsFit v.copies v.attached sectors v.snaps
snaps_fit contents layers size v sectors h same = record {
  snaps = subst (λ n. All (IsAttached v.copies n) v.snaps) (sym same) h.snaps;
  counted = h.counted;
  apart = h.apart;
  numbers = h.numbers;
  few = h.few;
  few_copies = h.few_copies;
  numbers_left = h.numbers_left;
}

-- The merge goes on in a volume that has the same snapshots, on a disk of as many sectors.
pub goes_same : {B : Type 0} (contents : B → List ℕ) (layers : B → List Layer) (size : B → ℕ) (v w : Volumed B) (merge : Option (Merging B)) → size w.origin ≡ size v.origin → w.snaps ≡ v.snaps → w.attached ≡ v.attached
    → GoesOn contents layers size merge v → GoesOn contents layers size merge w
goes_same contents layers size v w None sectors snaps attached h = h
goes_same contents layers size v w (Some m) sectors snaps attached h = record {
  origin = h.origin ∙ sym sectors;
  allowed = h.allowed;
  apart = subst (λ (xs : List (Kept _)). All (λ x. x.number ≢ m.number) xs) (sym snaps) h.apart;
  given = subst (λ n. m.number ≤ n) (sym attached) h.given;
  few = subst (λ (xs : List (Kept _)). length xs ≤ 7) (sym snaps) h.few;
  goes = λ loud. subst (λ (xs : List (Kept _)). MergeGoes (map (snap_books contents layers) xs) (merging_due contents loud m)) (sym snaps) (h.goes loud);
  rooms = subst (λ (xs : List (Kept _)). KeepBack m.state.chunk m.state.origin m.pairs (map (room_of contents layers) xs)) (sym snaps) h.rooms;
}

-- And where one snapshot changes that keeps back what it has to.
pub goes_changed : {B : Type 0} (contents : B → List ℕ) (layers : B → List Layer) (size : B → ℕ) (v w : Volumed B) (merge : Option (Merging B)) (k : ℕ) (s s' : Kept B) → k < length v.snaps → s ≡ get_or v.snaps k s
    → size w.origin ≡ size v.origin → w.snaps ≡ set v.snaps k s' → w.attached ≡ v.attached → s'.number ≡ s.number → KeepsRoom (room_of contents layers s) (room_of contents layers s')
    → GoesOn contents layers size merge v → GoesOn contents layers size merge w
goes_changed contents layers size v w None k s s' within is sectors snaps attached number keeps h = h
goes_changed {B = B} contents layers size v w (Some m) k s s' within is sectors snaps attached number keeps h =
    let sb : Kept B → SnapBooks = snap_books contents layers in
    let room : Kept B → RoomSnap = room_of contents layers in
    let mine : s'.number ≡ (get_or v.snaps k s).number = number ∙ ap number_of_snap is in
    let apart : All (λ (x : Kept B). x.number ≢ m.number) (set v.snaps k s') =
    All-set (λ (x : Kept B). x.number ≢ m.number) v.snaps k s' (subst (λ n. n ≢ m.number) (sym mine) (h.apart k s within)) h.apart in
    let goes : (loud : Bool) → MergeGoes (map sb (set v.snaps k s')) (merging_due contents loud m) = λ loud.
    subst (λ xs. MergeGoes xs (merging_due contents loud m)) (sym (map-set sb v.snaps k s'))
    (goes_set (map sb v.snaps) k (sb s) (sb s') (omega (arith, within, length-map v.snaps sb)) (ap sb is ∙ sym (get_or-map sb v.snaps k s (sb s) within)) keeps.next (merging_due contents loud m) (h.goes loud)) in
    let rooms : KeepBack m.state.chunk m.state.origin m.pairs (map room (set v.snaps k s')) =
    subst (KeepBack m.state.chunk m.state.origin m.pairs) (sym (map-set room v.snaps k s'))
    (rooms_changed m.state.chunk m.state.origin m.pairs (map room v.snaps) k (room s) (room s') (omega (arith, within, length-map v.snaps room)) (ap room is ∙ sym (get_or-map room v.snaps k s (room s) within)) keeps.space h.rooms) in
    record {
      origin = h.origin ∙ sym sectors;
      allowed = h.allowed;
      apart = subst (λ (xs : List (Kept B)). All (λ x. x.number ≢ m.number) xs) (sym snaps) apart;
      given = subst (λ n. m.number ≤ n) (sym attached) h.given;
      few = omega (arith, h.few, ap length snaps, length-set v.snaps k s');
      goes = λ loud. subst (λ (xs : List (Kept B)). MergeGoes (map sb xs) (merging_due contents loud m)) (sym snaps) (goes loud);
      rooms = subst (λ (xs : List (Kept B)). KeepBack m.state.chunk m.state.origin m.pairs (map room xs)) (sym snaps) rooms;
    }

module _ {B : Type 0} (contents : B → List ℕ) (layers : B → List Layer) (size : B → ℕ) (v : Volumed B) (o' : B) (k : ℕ) (s s' : Kept B) (within : k < length v.snaps) (is : s ≡ get_or v.snaps k s) where
  abbrev sb : Kept B → SnapBooks
  sb = snap_books contents layers

  pub books_within : k < length (books_of contents layers size v).snaps
  books_within = omega (arith, within, length-map v.snaps (snap_books contents layers))

  pub books_is : snap_books contents layers s ≡ get_or (map (snap_books contents layers) v.snaps) k (snap_books contents layers s)
  books_is = ap (snap_books contents layers) is ∙ sym (get_or-map (snap_books contents layers) v.snaps k s (snap_books contents layers s) within)

  pub changes : SameDisk contents layers size v.origin o' → ChangesSnap k (snap_books contents layers s) (snap_books contents layers s') (books_of contents layers size v) (books_of contents layers size (changed v o' k s' v.flights))
  changes same = record {
    within = books_within;
    was = books_is;
    snaps = map-set (snap_books contents layers) v.snaps k s';
    origin = same.bytes;
    sectors = same.sectors;
    loud = same.loud;
    merge = ap (λ l. merge_books contents layers l v.merge) same.loud;
    requests = refl;
  }

  pub spoils_one : SameDisk contents layers size v.origin o' → SpoilsSnap (snap_books contents layers s) (snap_books contents layers s')
      → SpoilsOne k (snap_books contents layers s) (snap_books contents layers s') (books_of contents layers size v) (books_of contents layers size (changed v o' k s' (map (refused_of (s.number ∷ [])) v.flights)))
  spoils_one same spoils = record {
    within = books_within;
    was = books_is;
    spoils = spoils;
    snaps = map-set (snap_books contents layers) v.snaps k s';
    origin = same.bytes;
    sectors = same.sectors;
    loud = same.loud;
    merge = ap (λ l. merge_books contents layers l v.merge) same.loud;
    requests = refl;
  }

  -- the snapshots fit the volume again
  pub snaps_changed : IsWhole contents layers size v → SameDisk contents layers size v.origin o' → StaysAttached s s' → SnapsFit v.copies v.attached (size o') (set v.snaps k s')
  snaps_changed h same stays =
      let old : IsAttached v.copies (size v.origin) s = subst (IsAttached v.copies (size v.origin)) (sym is) (h.snaps k s within) in
      let mine : IsAttached v.copies (size v.origin) s' = record {
        origin = stays.origin ∙ old.origin;
        allowed = ap is_chunk stays.chunk_is ∙ old.allowed;
        some = subst (λ n. 0 < n) (sym stays.chunk_is) old.some;
        numbers = record {
          given = fewer_all (λ n. n ≤ v.copies) (numbers_in s) (numbers_in s') stays.numbers old.numbers.given;
          ascending = fewer_pairs (λ m n. m < n) (numbers_in s) (numbers_in s') stays.numbers old.numbers.ascending;
        };
      } in
      let sums = sum_by-set count_in v.snaps k s' s within in
      let at : count_in (get_or v.snaps k s) ≡ count_in s = ap count_in (sym is) in
      let less = stays.few in
      let lefts = sum_by-set starts_left v.snaps k s' s within in
      let left : starts_left (get_or v.snaps k s) ≡ starts_left s = ap starts_left (sym is) in
      record {
        snaps = subst (λ n. All (IsAttached v.copies n) (set v.snaps k s')) (sym same.sectors) (All-set (IsAttached v.copies (size v.origin)) v.snaps k s' mine h.snaps);
        counted = All-set IsCounted v.snaps k s' (stays.counted (subst IsCounted (sym is) (h.counted k s within))) h.counted;
        apart = all_pairs_set SharesNone v.snaps k s s' within is
            (λ t none. fewer_all (λ m. All (λ n. m ≢ n) (numbers_in t)) (numbers_in s) (numbers_in s') stays.numbers none)
            (λ t none. All-weaker (λ m. All (λ n. m ≢ n) (numbers_in s)) (λ m. All (λ n. m ≢ n) (numbers_in s')) (λ m all. fewer_all (λ n. m ≢ n) (numbers_in s) (numbers_in s') stays.numbers all) (numbers_in t) none)
            h.apart;
        numbers = subst (AreNumbers v.attached) (sym (map-set_same number_of_snap v.snaps k s' s (stays.number ∙ ap number_of_snap is))) h.numbers;
        few = omega (arith, h.few, length-set v.snaps k s');
        few_copies = omega (arith, sums, at, less, h.few_copies);
        numbers_left = omega (arith, lefts, left, stays.left, h.numbers_left);
      }

  -- the volume is whole again, where its merge goes on
  pub whole_with : (flights : List Flight) → IsWhole contents layers size v → SameDisk contents layers size v.origin o' → StaysAttached s s' → map number_of_flight flights ≡ map number_of_flight v.flights
      → Holds (books_of contents layers size (changed v o' k s' flights)) → Waits (books_of contents layers size (changed v o' k s' flights)) → GoesOn contents layers size v.merge (changed v o' k s' flights) → IsWhole contents layers size (changed v o' k s' flights)
  whole_with flights h same stays numbers holds waits goes =
      let fit = snaps_changed h same stays in
      record {
        holds = holds;
        waits = waits;
        merge = goes;
        snaps = fit.snaps;
        counted = fit.counted;
        apart = fit.apart;
        numbers = fit.numbers;
        requests = subst (AreNumbers v.requests) (sym numbers) h.requests;
        few = fit.few;
        few_copies = fit.few_copies;
        numbers_left = fit.numbers_left;
        few_requests = omega (arith, h.few_requests, ap length numbers, length-map flights number_of_flight, length-map v.flights number_of_flight);
      }

  pub whole_changed : (flights : List Flight) → IsWhole contents layers size v → SameDisk contents layers size v.origin o' → StaysAttached s s' → map number_of_flight flights ≡ map number_of_flight v.flights
      → Holds (books_of contents layers size (changed v o' k s' flights)) → Waits (books_of contents layers size (changed v o' k s' flights)) → KeepsRoom (room_of contents layers s) (room_of contents layers s') → IsWhole contents layers size (changed v o' k s' flights)
  whole_changed flights h same stays numbers holds waits keeps =
      whole_with flights h same stays numbers holds waits (goes_changed contents layers size v (changed v o' k s' flights) v.merge k s s' within is same.sectors refl refl stays.number keeps h.merge)

  -- the copies that a merge is to start are no more
  pub beside_changed : KeepsSaved (snap_books contents layers s) (snap_books contents layers s') → (d : Option DueMerge) → left_by (map (due_of_kept contents layers) (set v.snaps k s')) d ≤ left_by (map (due_of_kept contents layers) v.snaps) d
  beside_changed keeps None = omega arith
  beside_changed keeps (Some d) =
      let sb : Kept B → SnapBooks = snap_books contents layers in
      let old : left_beside (map due_in (map (due_of_kept contents layers) v.snaps)) d ≡ left_beside (map sb v.snaps) d = ap (λ xs. left_beside xs d) (due_books contents layers v.snaps) in
      let new : left_beside (map due_in (map (due_of_kept contents layers) (set v.snaps k s'))) d ≡ left_beside (set (map sb v.snaps) k (sb s')) d =
      ap (λ xs. left_beside xs d) (due_books contents layers (set v.snaps k s') ∙ map-set sb v.snaps k s') in
      let less = beside_set (map sb v.snaps) k (sb s) (sb s') d books_within books_is keeps in
      omega (arith, old, new, less)

  pub lower_changed : (flights : List Flight) → sum_by weight_of flights ≡ sum_by weight_of v.flights → left_in (due_of_kept contents layers s') < left_in (due_of_kept contents layers s) → KeepsSaved (snap_books contents layers s) (snap_books contents layers s')
      → left_in_all contents layers (changed v o' k s' flights) < left_in_all contents layers v
  lower_changed flights same less keeps =
      let due = due_of_kept contents layers in
      let e = one_left (map due v.snaps) k (due s) (due s') v.flights (omega (arith, within, length-map v.snaps due)) (ap due is ∙ sym (get_or-map due v.snaps k s (due s) within)) less in
      let at : left_of (dues_of contents layers (changed v o' k s' flights)) flights ≡ left_of (set (map due v.snaps) k (due s')) v.flights =
      ap (λ xs. sum_by left_in xs + sum_by weight_of flights) (map-set due v.snaps k s') ∙ ap (λ n. sum_by left_in (set (map due v.snaps) k (due s')) + n) same in
      let beside = beside_changed keeps (merge_due contents v.merge) in
      omega (arith, e, at, beside)

  pub loud_changed : (flights : List Flight) → SameDisk contents layers size v.origin o' → is_loud (layers s'.device) ≡ is_loud (layers s.device) → is_loud_in_all layers (changed v o' k s' flights) ≡ is_loud_in_all layers v
  loud_changed flights same loud = ap (is_loud_with layers v.merge) (ap (λ b. b && list_all (λ x. is_loud (layers x.device)) (set v.snaps k s')) same.loud
      ∙ ap (λ b. is_loud (layers v.origin) && b) (list_all_set (λ x. is_loud (layers x.device)) v.snaps k s s' within is loud))
