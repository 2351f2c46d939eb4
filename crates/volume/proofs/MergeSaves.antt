-- A merge changes, and starts the copies that it waits for next: the volume is whole again, and the event does what a step
-- promises.
use Rattle.std.proofs.Common.{◌≡◌, ◌≢◌, inl, inr, ℕ, ◌+◌, ◌*◌, ◌<◌, ◌≤◌, Bool, true, false, List, [], ◌∷◌, ◌++◌, Option, None, Some, length, get_or, map, refl, sym, ◌∙◌, ap, subst, arith, if◌then◌else◌}
use Rattle.std.specs.Prelude.{◌&&◌, sum_by}
use Rattle.std.specs.List.{All, list_all}
use Rattle.std.proofs.lemmas.List.{length-map, get_or-map}
use Rattle.std.proofs.lemmas.List.Elements.{All-nil, All-cons}
use Rattle.sector.specs.declared.pair.Pair.{Pair}
use Rattle.device.specs.Layers.{Layer, is_loud}
use Rattle.plain_machine.specs.declared.event.Event.{Event}
use Rattle.plain_machine.specs.declared.event.Outcome.TheVariants.{Done}
use Rattle.in_flight.specs.Copies.{count_of}
use Rattle.in_flight.specs.Due.{number_of_flight}
use Rattle.in_flight.specs.Kinds.{in_flight}
use Rattle.in_flight.specs.declared.flights.Flight.{Flight}
use Rattle.volume_laws.specs.Books.{MergeBooks, SnapBooks}
use Rattle.volume_laws.specs.Due.{left_in, weight_of, books_of as due_in}
use Rattle.volume_laws.specs.MergeDue.{last_of, lacking_in, lacking_of, left_beside, left_in_merge, per_copy}
use Rattle.volume_laws.specs.MergeRooms.{KeepBack, room_books}
use Rattle.volume_laws.specs.Published.{next_over}
use Rattle.volume_laws.specs.MergeWaits.{IsSavedSoon, next_pairs}
use Rattle.volume_laws.specs.Waits.{Waits}
use Rattle.volume_laws.specs.Whole.{Holds}
use Rattle.volume_laws.proofs.MergeBeside.{spoil_weighs, start_weighs, weigh, weigh_sum}
use Rattle.volume_laws.proofs.MergeRoomStarts.{HaveRoom}
use Rattle.volume_laws.proofs.MergeSaved.{keeps_all_same}
use Rattle.volume_laws.proofs.MergeStarts.{AreStarting, starting_none, starting_done}
use Rattle.volume_laws.proofs.MergeSteps.{IsMergeStart, StartsCopies, starts_by}
use Rattle.volume_laws.proofs.Preparing.{prepared_none}
use Rattle.snapshot.specs.Kept.{Kept, books_of as snap_books, due_of_kept}
use Rattle.snapshot_list.specs.Numbers.{number_of_snap}
use Rattle.snapshot_list.specs.Starting.{spoilt_of}
use Rattle.merge.specs.Lists.{waiting_of}
use Rattle.merge.specs.Merging.{Merging, books_of as merging_books, due_of as merging_due}
use Rattle.merge.specs.declared.group.Group.{Group}
use Rattle.snapshot_list.specs.Rooms.{room_of}
use Rattle.snapshot_list.specs.MergeStarting.{IsNextSaved, AreNextSavedIn, next_for}
use Rattle.volume.specs.Volumed.{Volumed, books_of, plain_of, is_loud_with, is_loud_in_all, left_in_all, left_by, dues_of, merge_due}
use Rattle.volume.specs.Whole.{AreNumbers, IsMerged, IsWhole}
use Rattle.volume.specs.Causes.{HasCause, IsOneAtMost, SavesNext, counts_of, lives_saved}
use Rattle.volume.specs.Stepping.{merged_of, has_failed, failed_by, starts_by as copies_by}
use Rattle.volume.proofs.Changing.{SnapsFit, snaps_fit}
use Rattle.volume.proofs.Good.{IsGood, Spoiling, Staying, same_numbers, legal_by}
use Rattle.volume.proofs.MergeChanging.{DiskStays, merged_to, loudness, merged_in, goes_any}
use Rattle.volume.proofs.NextFit.{AreNext, next_all}
use Rattle.volume.proofs.NextSaved.{IsWeighed, losing, lacking_books, lacking_live, next_few, next_given, next_left, next_lives, next_same}
use Rattle.volume.proofs.Shown.{due_books}
use Rattle.volume.proofs.Weights.{next_weights}

-- the merge with another group
abbrev pub regrouped : {B : Type 0} → Merging B → Option Group → Merging B
regrouped m g = record m { group = g }

-- what starting the copies that the next pair waits for makes of the snapshots, of the numbers and of the requests
pub record IsNextDone {B : Type 0} (contents : B → List ℕ) (layers : B → List Layer) (size : B → ℕ) (m : Merging B) (o : Option Pair) (u w : Volumed B) : Type 0 where
  pub which : List ℕ
  pub starts : StartsCopies which (books_of contents layers size u) (books_of contents layers size w)
  pub soon : All (IsSavedSoon m.state.chunk m.state.origin (map (snap_books contents layers) w.snaps)) (next_pairs [] o)
  pub fit : SnapsFit w.copies w.attached (size w.origin) w.snaps
  pub rooms : KeepBack m.state.chunk m.state.origin m.pairs (map (room_of contents layers) w.snaps)
  pub flights : map in_flight w.flights ≡ map in_flight u.flights
  pub weights : sum_by weight_of w.flights ≡ sum_by weight_of u.flights
  pub numbers : map number_of_snap w.snaps ≡ map number_of_snap u.snaps
  pub overflows : map (λ (s : Kept B). s.overflow) w.snaps ≡ map (λ (s : Kept B). s.overflow) u.snaps
  pub chunks : map (λ (s : Kept B). s.state.chunk) w.snaps ≡ map (λ (s : Kept B). s.state.chunk) u.snaps
  pub counts : (count : B → ℕ) → map (λ (s : Kept B). count s.device) w.snaps ≡ map (λ (s : Kept B). count s.device) u.snaps
  pub loud : map (λ (s : Kept B). is_loud (layers s.device)) w.snaps ≡ map (λ (s : Kept B). is_loud (layers s.device)) u.snaps
  pub lives : map (λ (s : Kept B). s.live) w.snaps ≡ lives_saved m.state.chunk m.state.origin o u.snaps
  pub left : sum_by left_in (dues_of contents layers w) + left_beside (map (snap_books contents layers) w.snaps) (merging_due contents true m) ≤ sum_by left_in (dues_of contents layers u) + left_beside (map (snap_books contents layers) u.snaps) (merging_due contents true m)
  pub few : w.copies ≤ u.copies + length u.snaps
  pub given : u.copies ≤ w.copies

-- Where pair q comes next, the copy that is started in a snapshot, and the loss of one, leave no more than before.
all_weighed : {B : Type 0} (contents : B → List ℕ) (layers : B → List Layer) (m : Merging B) (q : Pair) (snaps : List (Kept B)) → All (λ (s : Kept B). 0 < s.state.chunk) snaps → HaveRoom m.state.chunk m.state.origin m.pairs q (map (room_of contents layers) snaps)
    → All (IsWeighed contents layers (next_for m.state.chunk m.state.origin q) m.state.chunk m.state.origin m.pairs) snaps
all_weighed {B = B} contents layers m q snaps some room k d lt =
    let s : Kept B = get_or snaps k d in
    let books : List SnapBooks = map room_books (map (room_of contents layers) snaps) in
    let c : ℕ = next_for m.state.chunk m.state.origin q s in
    record {
      start = λ lacks p t e old zeroed firm. start_weighs m.state.chunk m.state.origin m.pairs books q room.next (due_of_kept contents layers s) (due_of_kept contents layers t) (lacking_live c s lacks) (some k d lt) (lacking_books contents layers c s lacks) p e old zeroed firm;
      spoil = λ lacks e. spoil_weighs m.state.chunk m.state.origin m.pairs books q room.next (due_of_kept contents layers s) (due_of_kept contents layers (spoilt_of s)) (lacking_live c s lacks) (some k d lt) (lacking_books contents layers c s lacks) e;
    }

-- what is left beside a merge that runs
beside_is : {B : Type 0} (contents : B → List ℕ) (layers : B → List Layer) (m : Merging B) (snaps : List (Kept B)) → m.failed ≡ false
    → sum_by (weigh m.state.chunk m.state.origin m.pairs) (map (due_of_kept contents layers) snaps) ≡ sum_by left_in (map (due_of_kept contents layers) snaps) + left_beside (map (snap_books contents layers) snaps) (merging_due contents true m)
beside_is {B = B} contents layers m snaps running =
    let g : MergeBooks = merging_books contents true m in
    let all = weigh_sum m.state.chunk m.state.origin m.pairs (map (due_of_kept contents layers) snaps) in
    let seen : sum_by (lacking_of m.state.chunk m.state.origin m.pairs) (map due_in (map (due_of_kept contents layers) snaps)) ≡ sum_by (lacking_in (merging_books contents true m)) (map (snap_books contents layers) snaps) =
    ap (sum_by (lacking_of m.state.chunk m.state.origin m.pairs)) (due_books contents layers snaps) in
    let beside : left_beside (map (snap_books contents layers) snaps) (merging_due contents true m) ≡ per_copy * sum_by (lacking_in (merging_books contents true m)) (map (snap_books contents layers) snaps) =
    ap (λ (b : Bool). if b then 0 else per_copy * sum_by (lacking_in (merging_books contents true m)) (map (snap_books contents layers) snaps)) running in
    omega (arith, all, seen, beside)

module _ {B : Type 0} (contents : B → List ℕ) (layers : B → List Layer) (size : B → ℕ) (m : Merging B) (u : Volumed B) (holds : Holds (books_of contents layers size u)) (waits : Waits (books_of contents layers size u))
    (fit : SnapsFit u.copies u.attached (size u.origin) u.snaps) (kept : KeepBack m.state.chunk m.state.origin m.pairs (map (room_of contents layers) u.snaps)) where
  next_none : IsNextDone contents layers size m None u u
  next_none = record {
    which = [];
    starts = starts_by [] (books_of contents layers size u) (books_of contents layers size u) (prepared_none (books_of contents layers size u) holds waits) (keeps_all_same (map (snap_books contents layers) u.snaps));
    soon = All-nil (IsSavedSoon m.state.chunk m.state.origin (map (snap_books contents layers) u.snaps));
    fit = fit;
    rooms = kept;
    flights = refl;
    weights = refl;
    numbers = refl;
    overflows = refl;
    chunks = refl;
    counts = λ count. refl;
    loud = refl;
    lives = refl;
    left = omega arith;
    few = omega arith;
    given = omega arith;
  }

  next_some : (q : Pair) → m.failed ≡ false → HaveRoom m.state.chunk m.state.origin m.pairs q (map (room_of contents layers) u.snaps) → (ts : List (Kept B)) (n : ℕ) (gs : List Flight) → AreNextSavedIn contents layers (next_for m.state.chunk m.state.origin q) u.snaps ts u.copies n u.flights gs
      → IsNextDone contents layers size m (Some q) u (record u { snaps = ts; copies = n; flights = gs })
  next_some q running room ts n gs saved =
      let at : Kept B → ℕ = next_for m.state.chunk m.state.origin q in
      let want : SnapBooks → ℕ = next_over (m.state.chunk * q.old) (count_of m.state.chunk m.state.origin q.old) in
      let w : Volumed B = record u { snaps = ts; copies = n; flights = gs } in
      let begin : AreNext contents layers size m.state.chunk m.state.origin m.pairs q u 0 [] u = record { fit = fit; starting = starting_none want (books_of contents layers size u) holds waits; room = room } in
      let all = next_all contents layers size m.state.chunk m.state.origin m.pairs q u u.snaps ts [] u [] n gs refl saved begin in
      let len : length ts ≡ length u.snaps = sym (length-map ts number_of_snap) ∙ ap length (next_same contents layers at number_of_snap (λ s a b c d e f. refl) (λ s. refl) u.snaps ts u.copies n u.flights gs saved) ∙ length-map u.snaps number_of_snap in
      let long : 0 + length u.snaps ≡ length (map (snap_books contents layers) ts) = omega (arith, len, length-map ts (snap_books contents layers)) in
      let done = starting_done (losing at u.snaps) (books_of contents layers size u) (books_of contents layers size w) m.state.chunk m.state.origin q
      (subst (λ i. AreStarting want i (losing at u.snaps) (books_of contents layers size u) (books_of contents layers size w)) long all.starting) in
      let some : All (λ (s : Kept B). 0 < s.state.chunk) u.snaps = λ k d lt. (fit.snaps k d lt).some in
      let less = next_left contents layers at m.state.chunk m.state.origin m.pairs u.snaps ts u.copies n u.flights gs (all_weighed contents layers m q u.snaps some room) saved in
      let before = beside_is contents layers m u.snaps running in
      let after = beside_is contents layers m ts running in
      record {
        which = losing at u.snaps;
        starts = done.0;
        soon = All-cons (IsSavedSoon m.state.chunk m.state.origin (map (snap_books contents layers) ts)) q [] done.1 (All-nil (IsSavedSoon m.state.chunk m.state.origin (map (snap_books contents layers) ts)));
        fit = all.fit;
        rooms = all.room.kept;
        flights = all.starting.prepared.requests;
        weights = next_weights contents layers at u.snaps ts u.copies n u.flights gs saved;
        numbers = next_same contents layers at number_of_snap (λ s a b c d e f. refl) (λ s. refl) u.snaps ts u.copies n u.flights gs saved;
        overflows = next_same contents layers at (λ (s : Kept B). s.overflow) (λ s a b c d e f. refl) (λ s. refl) u.snaps ts u.copies n u.flights gs saved;
        chunks = next_same contents layers at (λ (s : Kept B). s.state.chunk) (λ s a b c d e f. refl) (λ s. refl) u.snaps ts u.copies n u.flights gs saved;
        counts = λ count. next_same contents layers at (λ (s : Kept B). count s.device) (λ s a b c d e f. refl) (λ s. refl) u.snaps ts u.copies n u.flights gs saved;
        loud = next_same contents layers at (λ (s : Kept B). is_loud (layers s.device)) (λ s a b c d e f. refl) (λ s. refl) u.snaps ts u.copies n u.flights gs saved;
        lives = next_lives contents layers at u.snaps ts u.copies n u.flights gs saved;
        left = omega (arith, less, before, after);
        few = next_few contents layers at u.snaps ts u.copies n u.flights gs saved;
        given = next_given contents layers at u.snaps ts u.copies n u.flights gs saved;
      }

  pub next_done : (o : Option Pair) → ((q : Pair) → o ≡ Some q → m.failed ≡ false) → ((q : Pair) → o ≡ Some q → HaveRoom m.state.chunk m.state.origin m.pairs q (map (room_of contents layers) u.snaps)) → (ts : List (Kept B)) (n : ℕ) (gs : List Flight)
      → IsNextSaved contents layers m.state.chunk m.state.origin o u.snaps ts u.copies n u.flights gs
      → IsNextDone contents layers size m o u (record u { snaps = ts; copies = n; flights = gs })
  next_done None running room ts n gs (same, count, requests) =
      subst (λ (x : List (Kept B)). IsNextDone contents layers size m None u (record u { snaps = x; copies = n; flights = gs })) (sym same)
      (subst (λ (x : ℕ). IsNextDone contents layers size m None u (record u { snaps = u.snaps; copies = x; flights = gs })) (sym count)
      (subst (λ (x : List Flight). IsNextDone contents layers size m None u (record u { snaps = u.snaps; copies = u.copies; flights = x })) (sym requests) next_none))
  next_done (Some q) running room ts n gs saved = next_some q (running q refl) (room q refl) ts n gs saved

-- snapshots of the same numbers are apart from the merged one as well
pub still_apart : {B : Type 0} (n : ℕ) (ss ts : List (Kept B)) → map number_of_snap ts ≡ map number_of_snap ss → All (λ s. s.number ≢ n) ss → All (λ s. s.number ≢ n) ts
still_apart n ss ts same apart k d lt =
    let len : length ts ≡ length ss = sym (length-map ts number_of_snap) ∙ ap length same ∙ length-map ss number_of_snap in
    let within : k < length ss = omega (arith, lt, len) in
    let at : (get_or ts k d).number ≡ (get_or ss k d).number = sym (get_or-map number_of_snap ts k d 0 lt) ∙ ap (λ xs. get_or xs k 0) same ∙ get_or-map number_of_snap ss k d 0 within in
    subst (λ x. x ≢ n) (sym at) (apart k d within)

pub all_mapped : {X : Type 0} (f : X → Bool) (xs : List X) → list_all f xs ≡ list_all (λ b. b) (map f xs)
all_mapped f [] = refl
all_mapped f (x ∷ xs) = ap (λ b. f x && b) (all_mapped f xs)

-- merge m of volume v gets another group, on this disk, and starts copies; m' is with that group
module _ {B : Type 0} (contents : B → List ℕ) (layers : B → List Layer) (size : B → ℕ) (v : Volumed B) (h : IsWhole contents layers size v) (m : Merging B) (was : v.merge ≡ Some m) (o' : B) (disk : DiskStays layers size v.origin o') (g : Option Group) where
  abbrev pub grouped : Volumed B
  grouped = merged_to v o' (regrouped m g) v.flights

  abbrev sound : Bool
  sound = loudness contents layers size v m was

  pub grouped_fit : SnapsFit v.copies v.attached (size o') v.snaps
  grouped_fit = snaps_fit contents layers size v (size o') h disk.sectors

  module _ (ts : List (Kept B)) (n : ℕ) (gs : List Flight) where
    abbrev pub saved_to : Volumed B
    saved_to = record grouped { snaps = ts; copies = n; flights = gs }

    module _ (o : Option Pair) (done : IsNextDone contents layers size m o grouped saved_to) where
      pub counts_saved : (count : B → ℕ) → counts_of count saved_to ≡ counts_of count grouped
      counts_saved count = ap (λ xs. count o' ∷ (xs ++ count m.device ∷ [])) (done.counts count)

      length_saved : length ts ≡ length v.snaps
      length_saved = sym (length-map ts number_of_snap) ∙ ap length done.numbers ∙ length-map v.snaps number_of_snap

      pub whole_saved : IsMergeStart done.which (books_of contents layers size v) (books_of contents layers size saved_to) (merging_due contents sound m) (merging_due contents sound (regrouped m g)) → IsWhole contents layers size saved_to
      whole_saved start =
          let one = merged_in contents layers size v m was h in
          let numbers : map number_of_flight gs ≡ map number_of_flight v.flights = same_numbers v.flights gs done.flights in
          let merge : IsMerged contents layers size (regrouped m g) saved_to = record {
            origin = one.origin ∙ sym disk.sectors;
            allowed = one.allowed;
            apart = still_apart m.number v.snaps ts done.numbers one.apart;
            given = one.given;
            few = omega (arith, one.few, length_saved);
            goes = λ loud. goes_any contents (map (snap_books contents layers) ts) (regrouped m g) sound loud start.goes;
            rooms = done.rooms;
          } in
          record {
            holds = start.spoil.holds;
            waits = start.waits;
            merge = merge;
            snaps = done.fit.snaps;
            counted = done.fit.counted;
            apart = done.fit.apart;
            numbers = done.fit.numbers;
            requests = subst (AreNumbers v.requests) (sym numbers) h.requests;
            few = done.fit.few;
            few_copies = done.fit.few_copies;
            few_requests = omega (arith, h.few_requests, ap length numbers, length-map gs number_of_flight, length-map v.flights number_of_flight);
            numbers_left = done.fit.numbers_left;
          }

      lower_saved : left_in_merge (merging_due contents sound (regrouped m g)) < left_in_merge (merging_due contents sound m) → left_in_all contents layers saved_to < left_in_all contents layers v
      lower_saved less =
          let same : sum_by weight_of gs ≡ sum_by weight_of v.flights = done.weights in
          let at : left_by (dues_of contents layers v) (merge_due contents v.merge) ≡ left_in_merge (merging_due contents true m) + left_beside (map due_in (dues_of contents layers v)) (merging_due contents true m) =
          ap (λ (x : Option (Merging B)). left_by (dues_of contents layers v) (merge_due contents x)) was in
          let old : left_beside (map due_in (dues_of contents layers v)) (merging_due contents true m) ≡ left_beside (map (snap_books contents layers) v.snaps) (merging_due contents true m) =
          ap (λ xs. left_beside xs (merging_due contents true m)) (due_books contents layers v.snaps) in
          let new : left_beside (map due_in (dues_of contents layers saved_to)) (merging_due contents true m) ≡ left_beside (map (snap_books contents layers) ts) (merging_due contents true m) =
          ap (λ xs. left_beside xs (merging_due contents true m)) (due_books contents layers ts) in
          let before : left_in_merge (merging_due contents true m) ≡ left_in_merge (merging_due contents sound m) = refl in
          let after : left_in_merge (merging_due contents true (regrouped m g)) ≡ left_in_merge (merging_due contents sound (regrouped m g)) = refl in
          let beside : left_beside (map due_in (dues_of contents layers saved_to)) (merging_due contents true (regrouped m g)) ≡ left_beside (map due_in (dues_of contents layers saved_to)) (merging_due contents true m) = refl in
          omega (arith, done.left, same, at, old, new, before, after, beside, less)

      loud_saved : is_loud_in_all layers saved_to ≡ is_loud_in_all layers v
      loud_saved =
          let every : list_all (λ (s : Kept B). is_loud (layers s.device)) ts ≡ list_all (λ (s : Kept B). is_loud (layers s.device)) v.snaps =
          all_mapped (λ (s : Kept B). is_loud (layers s.device)) ts ∙ ap (list_all (λ b. b)) done.loud ∙ sym (all_mapped (λ (s : Kept B). is_loud (layers s.device)) v.snaps) in
          ap (λ b. (b && list_all (λ (s : Kept B). is_loud (layers s.device)) ts) && is_loud (layers m.device)) disk.loud
          ∙ ap (λ b. (is_loud (layers v.origin) && b) && is_loud (layers m.device)) every
          ∙ sym (ap (λ (x : Option (Merging B)). is_loud_with layers x (is_loud (layers v.origin) && list_all (λ (s : Kept B). is_loud (layers s.device)) v.snaps)) was)

      -- what the event does, as a step promises
      module _ (faults did : B → ℕ) (event : Event) (told : Spoiling event Done) (still : Staying event Done) (steady : (b : Bool) → failed_by event Done b ≡ b) (seven : copies_by event ≡ 7)
          (start : IsMergeStart done.which (books_of contents layers size v) (books_of contents layers size saved_to) (merging_due contents sound m) (merging_due contents sound (regrouped m g))) where
        pub saved_good : (SavesNext faults v saved_to → HasCause faults event Done v saved_to) → o ≡ last_of (waiting_of g) → counts_of faults grouped ≡ counts_of faults v → IsOneAtMost did v grouped → IsGood contents layers size faults did event Done v saved_to
        saved_good cause next calm one = record {
          whole = whole_saved start;
          stepped = record {
            legal = λ l. told (plain_of contents layers v) (plain_of contents layers saved_to) (legal_by contents layers size v saved_to done.which start.spoil.step l);
            lower = lower_saved start.less;
            loud = loud_saved;
            cause = cause (record {
              merge = regrouped m g;
              is = refl;
              counts = counts_saved faults ∙ calm;
              lives = done.lives ∙ ap (λ x. lives_saved m.state.chunk m.state.origin x v.snaps) next;
            });
            failed = sym (steady (has_failed v.merge) ∙ ap has_failed was);
            flown = still (map in_flight v.flights) (map in_flight gs) done.flights;
            one = by_counts one;
            kept = record {
              attached = refl;
              numbers = done.numbers;
              chunks = done.chunks;
              merged = sym (ap merged_of was);
              sizes = counts_saved size ∙ ap (λ k. k ∷ (map (λ (s : Kept B). size s.device) v.snaps ++ size m.device ∷ [])) disk.sectors ∙ sym (ap (λ (x : Option (Merging B)). counts_of size (record v { merge = x })) was);
            };
            requests = refl;
            copies = (let one = merged_in contents layers size v m was h in omega (arith, done.few, one.few, seven));
            given = done.given;
            overflows = done.overflows;
          };
        }
          where
            by_counts : IsOneAtMost did v grouped → IsOneAtMost did v saved_to
            by_counts (inl same) = inl (counts_saved did ∙ same)
            by_counts (inr (device, within, at)) = inr (device, within, counts_saved did ∙ at)
