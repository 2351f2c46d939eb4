-- The chunks of a merge's group, one after another: each is read and written by a step, over devices that may be any without layers.
use Rattle.std.proofs.Common.{◌≡◌, inl, inr, ℕ, zero, suc, ◌+◌, ◌-◌, ◌*◌, ◌^◌, ◌<◌, ◌≤◌, Bool, true, false, List, [], ◌∷◌, Option, None, Some, length, map, take, drop, get_or, length-drop, refl, sym, ◌∙◌, ap, subst, arith}
use Rattle.std.proofs.lemmas.Bool.{cases_lt, cond-true, false≢true}
use Rattle.std.specs.Prelude.{Ok, nat_lt, not, ◌&&◌, ◌==◌}
use Rattle.std.proofs.lemmas.List.{length-take-le, take_all}
use Rattle.std.proofs.lemmas.Grind.{same_number_lists}
use Rattle.sector.proofs.Sectors.{byte_inside, byte_outside, byte_read, length-with_sectors}
use Rattle.std.specs.List.{All}
use Rattle.sector.specs.Bytes.{next_count, sector_at, sectors_at, with_part, with_sectors}
use Rattle.sector.specs.declared.pair.Pair.{Pair}
use Rattle.device.specs.Bare.{HasLike, HoldsTwo, can_copy_run, count_after}
use Rattle.device.specs.Layers.{Layer, fate, is_answered, is_loud, layers_after}
use Rattle.device.specs.declared.operation.Operation.{Operation}
use Rattle.device.specs.declared.operation.Operation.TheVariants.{Reads, Writes}
use Rattle.plain_machine.specs.declared.event.Event.{Event}
use Rattle.plain_machine.specs.declared.event.Event.TheVariants.{MergeAreaRead, MergeCommit, MergeFlush, MergeGroup, MergeRead, MergeWrite}
use Rattle.plain_machine.specs.declared.event.Outcome.TheVariants.{Done}
use Rattle.in_flight.specs.Copies.{count_of}
use Rattle.in_flight.specs.declared.flights.Flight.{Flight}
use Rattle.snapshot.specs.Kept.{Kept, books_of as snap_books, due_of_kept}
use Rattle.snapshot_list.specs.MergeStarting.{AreNextSavedIn, IsNextSaved, next_for}
use Rattle.store.specs.Grouping.{run_at, shifted}
use Rattle.store.proofs.Groups.{get_or-run, length-run}
use Rattle.store.specs.Operations.{IsOneOperation}
use Rattle.cow_format.specs.Pairs.{IsInside, pairs_of}
use Rattle.crash_laws.specs.Firm.{AddsNow}
use Rattle.merge.specs.declared.group.Group.{Group}
use Rattle.merge.specs.declared.group.Progress.{Progress}
use Rattle.merge.specs.declared.group.Progress.TheVariants.{Open, Full}
use Rattle.merge.specs.Due.{can_copy_of, has_group_of, is_finished_of, next_read_of}
use Rattle.merge.specs.Steps.{IsWaiting, ReadsInto, WritesOrigin}
use Rattle.merge.specs.Lists.{copied_in, copied_of, waiting_of}
use Rattle.merge.specs.Merging.{Merging, books_of as merging_books, due_of as merging_due}
use Rattle.merge.proofs.Changes.{reads, writes}
use Rattle.merge.proofs.Stages.{CopiesAll, chunk_whole, copies_all, front_all, one_more, wrote_back}
use Rattle.volume_laws.specs.Due.{due_of}
use Rattle.volume_laws.specs.MergeDue.{can_group, can_read, can_read_area, can_write, is_none, is_readable, last_of, merge_due as due_of_merge, one_of}
use Rattle.volume_laws.specs.MergeSteps.{ReadsBack, WritesBack}
use Rattle.volume_laws.specs.Steps.{WritesDisk}
use Rattle.volume.specs.Copied.{AreCopied, IsDoneInTurn}
use Rattle.volume.specs.DoesStep.{DoesStep}
use Rattle.volume.specs.Lasting.{IsKept}
use Rattle.volume.specs.Volumed.{Volumed, is_due_of, next_of}
use Rattle.volume.proofs.Good.{IsGood}
use Rattle.volume.proofs.Lefts.{all_same}
use Rattle.volume.proofs.LastBoth.{GoesBoth, volume_stops}
use Rattle.volume.proofs.LastOne.{same_device}
use Rattle.volume.proofs.LastMoves.{merged_beside}
use Rattle.volume.proofs.MergeBoth.{count_few, saved_both, still_both, written_both}
use Rattle.volume.proofs.MergeChanging.{DiskStays, merged_in}
use Rattle.volume.proofs.MergeDue.{due_all_is, next_merge}
use Rattle.volume.proofs.MergeDues.{read_due}
use Rattle.volume.proofs.MergeOperations.{holds_merge, last_end, read_good}
use Rattle.volume.proofs.MergeWritten.{count_fits, write_due, written_exact, written_good}
use Rattle.volume.proofs.MovedMerges.{read_moved}
use Rattle.volume.specs.Stored.{is_finished_on}
use Rattle.volume.proofs.Shown.{and_left, and_right}
use Rattle.volume.proofs.Stepped.{stepped_by}

-- a group whose chunks wait, so many of them
abbrev pub open_at : Pair → ℕ → ℕ → Group
open_at first waiting copied = record { first = first; waiting = waiting; copied = copied; progress = Open }

-- and one with a chunk in the buffer besides
abbrev pub full_at : Pair → ℕ → ℕ → Group
full_at first waiting copied = record { first = first; waiting = waiting; copied = copied; progress = Full }

-- a device without layers after one operation, with these bytes
pub record IsNext {B : Type 0} (contents durable : B → List ℕ) (layers : B → List Layer) (size faults done : B → ℕ) (bytes : List ℕ) (d e : B) : Type 0 where
  pub bytes_are : contents e ≡ bytes
  pub flushed : durable e ≡ durable d
  pub bare : layers e ≡ []
  pub sized : size e ≡ size d
  pub calm : faults e ≡ faults d
  pub counted : done e ≡ next_count (done d)

and_false : (x : Bool) → (x && false) ≡ false
and_false true = refl
and_false false = refl

none_loud : (xs ys : List Layer) → xs ≡ [] → ys ≡ [] → is_loud ys ≡ is_loud xs
none_loud xs ys x y = ap is_loud y ∙ sym (ap is_loud x)

less : (n : ℕ) → suc n - 1 ≡ n
less n = omega arith

-- a run is copied by devices that do so, without layers
run_copied : (copies_runs : Bool) (to from : List Layer) → can_copy_run copies_runs to from ≡ true → (copies_runs ≡ true) × (to ≡ []) × (from ≡ [])
run_copied true [] [] e = (refl, refl, refl)
run_copied true [] (l ∷ ls) e = absurd (false≢true e)
run_copied true (l ∷ ls) from e = absurd (false≢true e)
run_copied false to from e = absurd (false≢true e)

-- and a group besides where its chunks can be
pub group_copies : (o : Option Group) (chunk sectors : ℕ) (copies_runs : Bool) (to from : List Layer) → (can_copy_of o chunk sectors && can_copy_run copies_runs to from) ≡ true → (can_copy_of o chunk sectors ≡ true) × (copies_runs ≡ true) × (to ≡ []) × (from ≡ [])
group_copies o chunk sectors copies_runs to from e =
    let run = run_copied copies_runs to from (and_right (can_copy_of o chunk sectors) (can_copy_run copies_runs to from) e) in
    (and_left (can_copy_of o chunk sectors) (can_copy_run copies_runs to from) e, run.0, run.1, run.2)

-- a list is empty where it has no length
pub none_is : {A : Type 0} (xs : List A) → is_none xs ≡ (length xs == 0)
none_is [] = refl
none_is (x ∷ xs) = grind arith

pub none_of : {A : Type 0} (xs : List A) → (length xs == 0) ≡ true → xs ≡ []
none_of [] e = refl
none_of (x ∷ xs) e = absurd (grind arith)

-- a merge whose group is copied has one
pub copied_group : (o : Option Group) (chunk sectors : ℕ) → can_copy_of o chunk sectors ≡ true → (g : Group) × (o ≡ Some g)
copied_group None chunk sectors e = absurd (false≢true e)
copied_group (Some g) chunk sectors e = (g, refl)

-- each pair of a run lies inside
inside_run : (chunk origin store : ℕ) (first : Pair) (n : ℕ) → All (IsInside chunk origin store) (run_at first 0 n) → (k : ℕ) → k < n → IsInside chunk origin store (shifted first k)
inside_run chunk origin store first n inside k lt =
    let l = length-run first 0 n in
    let z : 0 + k ≡ k = omega arith in
    subst (IsInside chunk origin store) (get_or-run first 0 n k first lt ∙ ap (shifted first) z) (inside k first (omega (arith, l, lt)))

-- the last of the chunks that wait is read next
next_at : (first : Pair) (n copied : ℕ) → next_read_of (Some (open_at first (suc n) copied)) ≡ Some (shifted first n)
next_at first n copied =
    let here : nat_lt 0 (suc n) ≡ true = grind arith in
    cond-true _ _ _ here ∙ ap (λ k. Some (shifted first k)) (less n)

-- a merge with a group is not finished, in memory or on its store
unfinished_in : {B : Type 0} (contents : B → List ℕ) (m : Merging B) (g : Group) → m.group ≡ Some g → is_finished_of m ≡ is_finished_on contents (Some m)
unfinished_in contents m g is =
    let left : (x : Bool) → (x && not (has_group_of m.group)) ≡ false = λ x. ap (λ o. x && not (has_group_of o)) is ∙ and_false x in
    left (length m.pairs == 0) ∙ sym (left (length (pairs_of m.state.chunk (contents m.device)) == 0))

-- where nothing is beside a merge, its event is the one that is due first
alone_next : {B : Type 0} (contents : B → List ℕ) (layers : B → List Layer) (v : Volumed B) → v.snaps ≡ [] → v.flights ≡ [] → (m : Merging B) → v.merge ≡ Some m → next_of contents layers v ≡ due_of_merge [] [] (merging_due contents true m)
alone_next contents layers v snaps flights m was =
    next_merge contents layers v m was (ap (λ (ss : List (Kept _)). due_of (map (due_of_kept contents layers) ss) v.flights) snaps ∙ ap (λ (fs : List Flight). due_of [] fs) flights)
    ∙ ap (λ (ss : List (Kept _)). due_of_merge (map (snap_books contents layers) ss) v.flights (merging_due contents true m)) snaps
    ∙ ap (λ (fs : List Flight). due_of_merge [] fs (merging_due contents true m)) flights

-- and of a chunk in the buffer that is its write
write_turn : (none some : Bool) (rest : Option Event) → one_of (none && false && some && false) MergeCommit (one_of (none && false && some && true) MergeFlush (one_of true MergeWrite rest)) ≡ Some MergeWrite
write_turn true some rest = refl
write_turn false some rest = refl

-- where there is no snapshot, no copy is started
none_saved : {B : Type 0} (contents : B → List ℕ) (layers : B → List Layer) (chunk sectors : ℕ) (o : Option Pair) (ss : List (Kept B)) (n : ℕ) (fs : List Flight) → ss ≡ [] → IsNextSaved contents layers chunk sectors o ss ss n n fs fs
none_saved contents layers chunk sectors None ss n fs none = (refl, refl, refl)
none_saved contents layers chunk sectors (Some q) ss n fs none = subst (λ (xs : List (Kept _)). AreNextSavedIn contents layers (next_for chunk sectors q) xs xs n n fs fs) (sym none) (refl, refl)

-- a write changes no other bytes
writes_there : (old new : List ℕ) (first count : ℕ) → length new ≡ 512 * count → 512 * (first + count) ≤ length old → WritesDisk first count old (with_sectors old first new)
writes_there old new first count long inside = record {
  len = length-with_sectors old first new (omega (arith, long));
  rest = λ i outside. byte_outside old first new i (omega (arith, long)) (elim outside [ inl below ↦ inl below | inr past ↦ inr (omega (arith, long)) ]);
}

module _ {B : Type 0} (holds : B → ℕ → List ℕ → Type 0) (contents durable : B → List ℕ) (layers : B → List Layer) (size faults done : B → ℕ)
    (whole : (d : B) → length (contents d) ≡ 512 * size d) (here : (d : B) (s : ℕ) → s < size d → holds d s (sector_at (contents d) s)) (two : (d : B) → layers d ≡ [] → HoldsTwo (holds d) (contents d) (durable d)) where
  adds_next : (bytes : List ℕ) (d e : B) → layers d ≡ [] → IsNext contents durable layers size faults done bytes d e → AddsNow (holds d) (holds e) (contents e)
  adds_next bytes d e bare next s v held = elim ((two e next.bare).only s v held) [
    | inl now ↦ inr now
    | inr flushed ↦ inl (subst (holds d s) (sym (flushed ∙ ap (λ b. sector_at b s) next.flushed)) ((two d bare).holds_flushed s))
  ]

  one_next : (op : Operation) (bytes : List ℕ) (d e : B) → is_answered (fate [] op) ≡ true → layers_after [] op ≡ [] → layers d ≡ [] → IsNext contents durable layers size faults done bytes d e → IsOneOperation op true (layers d) (layers e) (faults d) (faults e) (done d) (done e)
  one_next op bytes d e answered after bare next = record {
    answer = sym (ap (λ ls. is_answered (fate ls op)) bare ∙ answered);
    layers = next.bare ∙ sym (ap (λ ls. layers_after ls op) bare ∙ after);
    loud = none_loud (layers d) (layers e) bare next.bare;
    faulty = next.calm;
    counted = next.counted;
  }

  module _ (v : Volumed B) (k : IsKept holds contents layers size v) (snaps : v.snaps ≡ []) (flights : v.flights ≡ []) (base : Merging B) (first : Pair) (n copied : ℕ) where
    abbrev m : Merging B
    m = record base { group = Some (open_at first (suc n) copied) }

    abbrev q : Pair
    q = shifted first n

    -- MergeRead
    module _ (was : v.merge ≡ Some m) (running : base.failed ≡ false) (room : length base.buffer ≡ 512 * base.state.chunk) (inside : IsInside base.state.chunk base.state.origin base.state.size q) (bare : layers base.device ≡ []) (d : B) (next : IsNext contents durable layers size faults done (contents base.device) base.device d) where
      abbrev got : List ℕ
      got = sectors_at (contents base.device) (base.state.chunk * q.new) (count_of base.state.chunk base.state.origin q.old)

      abbrev pub taken : Merging B
      taken = record m { device = d; group = Some (full_at first n copied); buffer = with_part base.buffer 0 got }

      abbrev pub read_to : Volumed B
      read_to = record v { merge = Some taken }

      step : (loud : Bool) → ReadsBack (waiting_of taken.group) q taken.buffer (merging_due contents loud m) (merging_due contents loud taken) × ReadsInto q (merging_books contents loud m) (merging_books contents loud taken)
      step loud = subst (λ (x : Merging B). ReadsBack (waiting_of x.group) q x.buffer (merging_due contents loud m) (merging_due contents loud x) × ReadsInto q (merging_books contents loud m) (merging_books contents loud x))
          (ap (λ (j : ℕ). record m { device = d; group = Some (full_at first j copied); buffer = with_part base.buffer 0 got }) (less n))
          (reads contents loud m q d got (λ failed. absurd (let no : false ≡ true = sym running ∙ failed in cc)) (next_at first n copied) next.bytes_are refl (holds_merge contents layers size faults done v k.whole m was).text.whole room inside)

      due_alone : can_read [] (merging_books contents true m) ≡ true
      due_alone = ap (is_readable []) (ap last_of (step true).0.last ∙ last_end (waiting_of taken.group) q)

      due : can_read v.flights (merging_books contents true m) ≡ true
      due = ap (λ fs. can_read fs (merging_books contents true m)) flights ∙ due_alone

      turn : next_of contents layers v ≡ Some MergeRead
      turn = alone_next contents layers v snaps flights m was ∙ ap (λ b. one_of b MergeRead (one_of (can_read_area (merging_due contents true m)) MergeAreaRead (one_of (can_group (merging_due contents true m)) MergeGroup None))) due_alone

      is_due : is_due_of contents layers v MergeRead ≡ true
      is_due = read_due contents layers v m was ∙ due

      one : IsOneOperation (Reads (base.state.chunk * q.new) (count_of base.state.chunk base.state.origin q.old)) true (layers base.device) (layers d) (faults base.device) (faults d) (done base.device) (done d)
      one = one_next (Reads (base.state.chunk * q.new) (count_of base.state.chunk base.state.origin q.old)) (contents base.device) base.device d refl refl bare next

      good : IsGood contents layers size faults done MergeRead Done v read_to
      good = read_good contents layers size faults done v k.whole m was taken (record { number = refl; chunk_is = refl; origin = refl; loud = none_loud (layers base.device) (layers d) bare next.bare; sized = next.sized })
          q (waiting_of taken.group) due step next.calm next.counted

      goes : GoesBoth holds contents layers size whole here None v read_to
      goes = still_both holds contents layers size whole here v k.whole k.lasting read_to taken refl m was (all_same v.snaps v.snaps refl) (same_device holds contents layers size whole here v.origin)
          (record { adds = λ _. adds_next (contents base.device) base.device d bare next; bytes = next.bytes_are; sectors = next.sized; loud = none_loud (layers base.device) (layers d) bare next.bare }) refl refl refl

      pub read_kept : IsKept holds contents layers size read_to
      read_kept = record { whole = good.whole; lasting = record { snaps = goes.lasts; merge = goes.merge } }

      read_does : DoesStep holds contents layers size faults done true MergeRead (Ok Done) v read_to
      read_does = stepped_by holds contents layers size faults done MergeRead (Ok Done) v read_to (sym is_due) (λ _. is_due) good.stepped
          (record {
            step = λ loud replied. read_moved contents layers replied v m was (faults base.device) (faults d) (done base.device) (done d) ((merged_in contents layers size v m was k.whole).goes true).staged taken q (waiting_of taken.group) due (step true).0 (step true).1
                (k.whole.holds.whole ∙ ap (λ n. 512 * n) (sym (merged_in contents layers size v m was k.whole).origin)) one next.bytes_are refl;
          })
          tt tt (λ loud. volume_stops holds contents layers size whole here None v read_to loud goes.stops_snaps goes.stops_origin) (record { snaps = goes.stops_snaps; origin = goes.stops_origin }) (λ loud. unfinished_in contents taken (full_at first n copied) refl) tt

      pub read_in_turn : IsDoneInTurn holds contents layers size faults done MergeRead v read_to
      read_in_turn = record { does = read_does; first = turn; machine = λ replied. due_all_is contents layers size v k.whole replied ∙ turn }

  -- MergeWrite
  module _ (v : Volumed B) (k : IsKept holds contents layers size v) (snaps : v.snaps ≡ []) (flights : v.flights ≡ []) (base : Merging B) (first : Pair) (n copied : ℕ) where
    abbrev full : Merging B
    full = record base { group = Some (full_at first n copied) }

    abbrev p : Pair
    p = shifted first n

    abbrev count : ℕ
    count = count_of base.state.chunk base.state.origin p.old

    abbrev front : List ℕ
    front = take (512 * count) base.buffer

    module _ (was : v.merge ≡ Some full) (running : base.failed ≡ false) (room : length base.buffer ≡ 512 * base.state.chunk) (inside : IsInside base.state.chunk base.state.origin base.state.size p) (bare : layers v.origin ≡ []) (o : B)
        (next : IsNext contents durable layers size faults done (with_sectors (contents v.origin) (base.state.chunk * p.old) front) v.origin o) where
      abbrev pub written : Merging B
      written = record base { group = Some (open_at first n (copied + 1)) }

      abbrev pub written_to : Volumed B
      written_to = record v { origin = o; merge = Some written }

      long : length front ≡ 512 * count
      long = length-take-le (512 * count) base.buffer (let few = count_few base.state.chunk base.state.origin p.old in omega (arith, room, few))

      fits : length (contents v.origin) ≡ 512 * base.state.origin
      fits = (holds_merge contents layers size faults done v k.whole full was).fits

      begins : base.state.chunk * p.old + count ≤ base.state.origin
      begins = count_fits base.state.chunk base.state.origin p.old inside.old

      disk : WritesDisk (base.state.chunk * p.old) count (contents v.origin) (contents o)
      disk = subst (WritesDisk (base.state.chunk * p.old) count (contents v.origin)) (sym next.bytes_are) (writes_there (contents v.origin) front (base.state.chunk * p.old) count long (omega (arith, fits, begins)))

      wrote : (loud : Bool) → (loud ≡ true → is_loud (layers v.origin) ≡ true) → WritesBack p (merging_due contents loud full) (merging_due contents loud written) × WritesOrigin p (contents v.origin) (contents o) (merging_books contents loud full)
      wrote loud louder = writes contents loud full p (contents v.origin) (contents o) (λ failed. absurd (let no : false ≡ true = sym running ∙ failed in cc)) refl disk
          (λ l. wrote_back (contents v.origin) (contents o) base.buffer base.state.chunk base.state.origin p.old fits inside.old room next.bytes_are)

      stays : DiskStays layers size v.origin o
      stays = record { sectors = next.sized; loud = none_loud (layers v.origin) (layers o) bare next.bare }

      can : can_write (map (snap_books contents layers) v.snaps) (merging_books contents true full) ≡ true
      can = ap (λ ss. can_write (map (snap_books contents layers) ss) (merging_books contents true full)) snaps

      is_due_too : is_due_of contents layers v MergeWrite ≡ true
      is_due_too = write_due contents layers size v k.whole full was ∙ can

      one_write : IsOneOperation (Writes (base.state.chunk * p.old) count) true (layers v.origin) (layers o) (faults v.origin) (faults o) (done v.origin) (done o)
      one_write = one_next (Writes (base.state.chunk * p.old) count) (with_sectors (contents v.origin) (base.state.chunk * p.old) front) v.origin o refl refl bare next

      saved : IsNextSaved contents layers base.state.chunk base.state.origin (last_of (waiting_of written.group)) v.snaps v.snaps v.copies v.copies v.flights v.flights
      saved = none_saved contents layers base.state.chunk base.state.origin (last_of (waiting_of written.group)) v.snaps v.copies v.flights snaps

      good_write : IsGood contents layers size faults done MergeWrite Done v written_to
      good_write = written_good contents layers size v k.whole full was o stays written.group p can wrote written refl faults done next.calm next.counted v.snaps v.copies v.flights saved

      goes_write : GoesBoth holds contents layers size whole here None v written_to
      goes_write = written_both holds contents layers size whole here v k.whole k.lasting written_to written refl full was (all_same v.snaps v.snaps refl) p
          (record { adds = λ _. adds_next (with_sectors (contents v.origin) (base.state.chunk * p.old) front) v.origin o bare next; sectors = next.sized; loud = stays.loud }) refl (λ _. disk) (count_few base.state.chunk base.state.origin p.old) refl refl refl refl
          (merged_beside holds contents layers size whole here v k.whole k.lasting.snaps (base.state.chunk * p.old) count (contents o) disk (saved_both holds contents layers size whole here v k.whole k.lasting written_to written refl full was (all_same v.snaps v.snaps refl) p refl can))

      pub written_kept : IsKept holds contents layers size written_to
      written_kept = record { whole = good_write.whole; lasting = record { snaps = goes_write.lasts; merge = goes_write.merge } }

      turn_write : next_of contents layers v ≡ Some MergeWrite
      turn_write = alone_next contents layers v snaps flights full was ∙ write_turn (is_none (waiting_of full.group)) (not (is_none (copied_of full.group))) (one_of (can_read [] (merging_books contents true full)) MergeRead (one_of (can_read_area (merging_due contents true full)) MergeAreaRead (one_of (can_group (merging_due contents true full)) MergeGroup None)))

      written_does : DoesStep holds contents layers size faults done true MergeWrite (Ok Done) v written_to
      written_does = stepped_by holds contents layers size faults done MergeWrite (Ok Done) v written_to (sym is_due_too) (λ _. is_due_too) good_write.stepped
          (written_exact contents layers size v k.whole full was o stays written.group p can wrote written refl refl (faults v.origin) (faults o) (done v.origin) (done o) one_write (λ _. next.bytes_are) v.snaps v.copies v.flights saved)
          tt tt (λ loud. volume_stops holds contents layers size whole here None v written_to loud goes_write.stops_snaps goes_write.stops_origin) (record { snaps = goes_write.stops_snaps; origin = goes_write.stops_origin }) (λ loud. unfinished_in contents written (open_at first n (copied + 1)) refl) tt

      pub written_in_turn : IsDoneInTurn holds contents layers size faults done MergeWrite v written_to
      written_in_turn = record { does = written_does; first = turn_write; machine = λ replied. due_all_is contents layers size v k.whole replied ∙ turn_write }

sectors_long : (b : List ℕ) (first count : ℕ) → 512 * (first + count) ≤ length b → length (sectors_at b first count) ≡ 512 * count
sectors_long b first count inside = (let l = length-drop (512 * first) b in length-take-le (512 * count) (drop (512 * first) b) (omega (arith, l, inside)))

-- sectors that are written before others that are written stand beside them
split_write : (b s : List ℕ) (f a k c : ℕ) → 512 * (f + (k + c)) ≤ length b → 512 * (a + (k + c)) ≤ length s → with_sectors (with_sectors b (f + k) (sectors_at s (a + k) c)) f (sectors_at s a k) ≡ with_sectors b f (sectors_at s a (k + c))
split_write b s f a k c fits there =
    let one : List ℕ = sectors_at s a k in
    let other : List ℕ = sectors_at s (a + k) c in
    let all : List ℕ = sectors_at s a (k + c) in
    let l1 : length one ≡ 512 * k = sectors_long s a k (omega (arith, there)) in
    let l2 : length other ≡ 512 * c = sectors_long s (a + k) c (omega (arith, there)) in
    let l3 : length all ≡ 512 * (k + c) = sectors_long s a (k + c) there in
    let inner : List ℕ = with_sectors b (f + k) other in
    let fits2 : 512 * (f + k) + length other ≤ length b = omega (arith, fits, l2) in
    let li : length inner ≡ length b = length-with_sectors b (f + k) other fits2 in
    let fits1 : 512 * f + length one ≤ length inner = omega (arith, fits, l1, li) in
    let fits3 : 512 * f + length all ≤ length b = omega (arith, fits, l3) in
    let lo : length (with_sectors inner f one) ≡ length inner = length-with_sectors inner f one fits1 in
    let lr : length (with_sectors b f all) ≡ length b = length-with_sectors b f all fits3 in
    same_number_lists _ _ (lo ∙ li ∙ sym lr) (λ i lt. elim (cases_lt i (512 * f)) [
      | inl low ↦ byte_outside inner f one i fits1 (inl low) ∙ byte_outside b (f + k) other i fits2 (inl (omega (arith, low))) ∙ sym (byte_outside b f all i fits3 (inl low))
      | inr from ↦ elim (cases_lt i (512 * (f + k))) [
        | inl near ↦
            (let j : ℕ = i - 512 * f in
            let at : 512 * f + j ≡ i = omega (arith, from) in
            ap (λ x. get_or (with_sectors inner f one) x 0) (sym at) ∙ byte_inside inner f one j fits1 (omega (arith, near, from, l1)) ∙ byte_read s a k j (omega (arith, near, from))
            ∙ sym (byte_read s a (k + c) j (omega (arith, near, from))) ∙ sym (byte_inside b f all j fits3 (omega (arith, near, from, l3))) ∙ ap (λ x. get_or (with_sectors b f all) x 0) at)
        | inr past ↦ elim (cases_lt i (512 * (f + (k + c)))) [
          | inl within ↦
              (let j : ℕ = i - 512 * f in
              let h : ℕ = i - 512 * (f + k) in
              let at : 512 * f + j ≡ i = omega (arith, from) in
              let here : 512 * (f + k) + h ≡ i = omega (arith, past) in
              let same : 512 * (a + k) + h ≡ 512 * a + j = omega (arith, past, from) in
              byte_outside inner f one i fits1 (inr (omega (arith, past, l1))) ∙ ap (λ x. get_or inner x 0) (sym here) ∙ byte_inside b (f + k) other h fits2 (omega (arith, within, past, l2)) ∙ byte_read s (a + k) c h (omega (arith, within, past))
              ∙ ap (λ x. get_or s x 0) same ∙ sym (byte_read s a (k + c) j (omega (arith, within, from))) ∙ sym (byte_inside b f all j fits3 (omega (arith, within, from, l3))) ∙ ap (λ x. get_or (with_sectors b f all) x 0) at)
          | inr out ↦ byte_outside inner f one i fits1 (inr (omega (arith, out, l1))) ∙ byte_outside b (f + k) other i fits2 (inr (omega (arith, out, l2))) ∙ sym (byte_outside b f all i fits3 (inr (omega (arith, out, l3))))
        ]
      ]
    ])

-- a device without layers after so many operations, with these bytes
pub record IsLater {B : Type 0} (contents durable : B → List ℕ) (layers : B → List Layer) (size faults done : B → ℕ) (bytes : List ℕ) (count : ℕ) (d e : B) : Type 0 where
  pub bytes_are : contents e ≡ bytes
  pub flushed : durable e ≡ durable d
  pub bare : layers e ≡ []
  pub sized : size e ≡ size d
  pub calm : faults e ≡ faults d
  pub counted : done e ≡ count_after (done d) count

later_next : {B : Type 0} (contents durable : B → List ℕ) (layers : B → List Layer) (size faults done : B → ℕ) (bytes : List ℕ) (d e : B) → IsLater contents durable layers size faults done bytes 1 d e → IsNext contents durable layers size faults done bytes d e
later_next contents durable layers size faults done bytes d e later = record { bytes_are = later.bytes_are; flushed = later.flushed; bare = later.bare; sized = later.sized; calm = later.calm; counted = later.counted }

next_of_like : {B : Type 0} (contents durable : B → List ℕ) (layers : B → List Layer) (size faults done : B → ℕ) (bytes : List ℕ) (d : B) (l : HasLike size contents durable layers faults done d bytes (next_count (done d))) → IsNext contents durable layers size faults done bytes d l.like
next_of_like contents durable layers size faults done bytes d l = record { bytes_are = l.bytes_are; flushed = l.flushed; bare = l.bare; sized = l.sized; calm = l.faulty; counted = l.counted }

-- the operations that are left after one
left_after : (x n : ℕ) → count_after x (suc (suc n)) ≡ count_after (next_count x) (suc n)
left_after x n = omega arith

later_then : {B : Type 0} (contents durable : B → List ℕ) (layers : B → List Layer) (size faults done : B → ℕ) (bytes all all' : List ℕ) (n : ℕ) (d e f : B) → all' ≡ all → IsNext contents durable layers size faults done bytes d e → IsLater contents durable layers size faults done all (suc (suc n)) d f → IsLater contents durable layers size faults done all' (suc n) e f
later_then contents durable layers size faults done bytes all all' n d e f same next later = record {
  bytes_are = later.bytes_are ∙ sym same;
  flushed = later.flushed ∙ sym next.flushed;
  bare = later.bare;
  sized = later.sized ∙ sym next.sized;
  calm = later.calm ∙ sym next.calm;
  counted = later.counted ∙ left_after (done d) n ∙ ap (λ x. count_after x (suc n)) (sym next.counted);
}

module _ {B : Type 0} (holds : B → ℕ → List ℕ → Type 0) (contents durable : B → List ℕ) (layers : B → List Layer) (size faults done : B → ℕ)
    (whole : (d : B) → length (contents d) ≡ 512 * size d) (here : (d : B) (s : ℕ) → s < size d → holds d s (sector_at (contents d) s)) (two : (d : B) → layers d ≡ [] → HoldsTwo (holds d) (contents d) (durable d))
    (likes : (d : B) (bytes : List ℕ) (count : ℕ) → layers d ≡ [] → length bytes ≡ 512 * size d → count < 2 ^ 64 → HasLike size contents durable layers faults done d bytes count) where
  -- chunk n of a group on the store, and the merge with it in the buffer, of which so many wait
  abbrev pub chunk_of : Merging B → Pair → ℕ → List ℕ
  chunk_of base first n = sectors_at (contents base.device) (base.state.chunk * (first.new + n)) base.state.chunk

  abbrev pub with_chunk : Merging B → B → Group → List ℕ → Merging B
  with_chunk base d g buffer = record base { device = d; group = Some g; buffer = buffer }

  -- what is known before a chunk is read
  pub record IsBefore (v : Volumed B) (base : Merging B) (first : Pair) (n copied : ℕ) : Type 0 where
    pub kept : IsKept holds contents layers size v
    pub snaps : v.snaps ≡ []
    pub flights : v.flights ≡ []
    pub was : v.merge ≡ Some (record base { group = Some (open_at first n copied) })
    pub running : base.failed ≡ false
    pub room : length base.buffer ≡ 512 * base.state.chunk
    pub inside : (k : ℕ) → k < n → IsInside base.state.chunk base.state.origin base.state.size (shifted first k)
    pub wholly : base.state.chunk * (first.old + n) ≤ base.state.origin
    pub sectors : size v.origin ≡ base.state.origin
    pub store : size base.device ≡ base.state.size
    pub disk : layers v.origin ≡ []
    pub bare : layers base.device ≡ []

  -- one of them is read and written
  pub record IsOneCopied (v : Volumed B) (base : Merging B) (first : Pair) (n copied : ℕ) (d o : B) : Type 0 where
    pub read : Volumed B
    pub reads_it : IsDoneInTurn holds contents layers size faults done MergeRead v read
    pub writes_it : IsDoneInTurn holds contents layers size faults done MergeWrite read (record v { origin = o; merge = Some (with_chunk base d (open_at first n (copied + 1)) (chunk_of base first n)) })
    pub kept : IsKept holds contents layers size (record v { origin = o; merge = Some (with_chunk base d (open_at first n (copied + 1)) (chunk_of base first n)) })

  chunk_long : (v : Volumed B) (base : Merging B) (first : Pair) (n copied : ℕ) → IsBefore v base first (suc n) copied → length (chunk_of base first n) ≡ 512 * base.state.chunk
  chunk_long v base first n copied b =
      let i = (b.inside n (omega arith)).new in
      let up = one_more base.state.chunk (first.new + n) in
      let w = whole base.device in
      sectors_long (contents base.device) (base.state.chunk * (first.new + n)) base.state.chunk (omega (arith, i, up, w, b.store))

  one_chunk : (v : Volumed B) (base : Merging B) (first : Pair) (n copied : ℕ) → IsBefore v base first (suc n) copied → (d o : B) → IsNext contents durable layers size faults done (contents base.device) base.device d
      → IsNext contents durable layers size faults done (with_sectors (contents v.origin) (base.state.chunk * (first.old + n)) (chunk_of base first n)) v.origin o → IsOneCopied v base first n copied d o
  one_chunk v base first n copied b d o nd wrote =
      let count : count_of base.state.chunk base.state.origin (first.old + n) ≡ base.state.chunk = chunk_whole base.state.chunk first.old n (suc n) base.state.origin (omega arith) b.wholly in
      let long = chunk_long v base first n copied b in
      let inside = b.inside n (omega arith) in
      let buffer : with_part base.buffer 0 (sectors_at (contents base.device) (base.state.chunk * (first.new + n)) (count_of base.state.chunk base.state.origin (first.old + n))) ≡ chunk_of base first n =
      ap (λ k. with_part base.buffer 0 (sectors_at (contents base.device) (base.state.chunk * (first.new + n)) k)) count ∙ front_all base.buffer (chunk_of base first n) (long ∙ sym b.room) in
      let middle : List ℕ → Volumed B = λ x. record v { merge = Some (with_chunk base d (full_at first n copied) x) } in
      let read : IsDoneInTurn holds contents layers size faults done MergeRead v (middle (chunk_of base first n)) =
      subst (λ x. IsDoneInTurn holds contents layers size faults done MergeRead v (middle x)) buffer (read_in_turn holds contents durable layers size faults done whole here two v b.kept b.snaps b.flights base first n copied b.was b.running b.room inside b.bare d nd) in
      let kept : IsKept holds contents layers size (middle (chunk_of base first n)) =
      subst (λ x. IsKept holds contents layers size (middle x)) buffer (read_kept holds contents durable layers size faults done whole here two v b.kept b.snaps b.flights base first n copied b.was b.running b.room inside b.bare d nd) in
      let held : Merging B = record base { device = d; buffer = chunk_of base first n } in
      let front : chunk_of base first n ≡ take (512 * count_of base.state.chunk base.state.origin (first.old + n)) (chunk_of base first n) = sym (take_all (512 * count_of base.state.chunk base.state.origin (first.old + n)) (chunk_of base first n) (omega (arith, long, count))) in
      let next : IsNext contents durable layers size faults done (with_sectors (contents v.origin) (base.state.chunk * (first.old + n)) (take (512 * count_of base.state.chunk base.state.origin (first.old + n)) (chunk_of base first n))) v.origin o =
      subst (λ x. IsNext contents durable layers size faults done (with_sectors (contents v.origin) (base.state.chunk * (first.old + n)) x) v.origin o) front wrote in
      record {
        read = middle (chunk_of base first n);
        reads_it = read;
        writes_it = written_in_turn holds contents durable layers size faults done whole here two (middle (chunk_of base first n)) kept b.snaps b.flights held first n copied refl b.running long inside b.disk o next;
        kept = written_kept holds contents durable layers size faults done whole here two (middle (chunk_of base first n)) kept b.snaps b.flights held first n copied refl b.running long inside b.disk o next;
      }

  -- the volume whose chunks are all read and written
  abbrev pub copied_to : Volumed B → Merging B → Pair → ℕ → B → B → List ℕ → Volumed B
  copied_to v base first copied d o buffer = record v { origin = o; merge = Some (with_chunk base d (open_at first 0 copied) buffer) }

  abbrev all_of : Merging B → Pair → ℕ → List ℕ
  all_of base first n = sectors_at (contents base.device) (base.state.chunk * first.new) (base.state.chunk * n)

  spread : (chunk a n : ℕ) → chunk * (a + n) ≡ chunk * a + chunk * n
  spread chunk a n = grind arith

  -- what is known after one
  before_next : (v : Volumed B) (base : Merging B) (first : Pair) (n copied : ℕ) (b : IsBefore v base first (suc n) copied) (d o : B) → IsNext contents durable layers size faults done (contents base.device) base.device d
      → IsNext contents durable layers size faults done (with_sectors (contents v.origin) (base.state.chunk * (first.old + n)) (chunk_of base first n)) v.origin o → IsOneCopied v base first n copied d o
      → IsBefore (record v { origin = o; merge = Some (with_chunk base d (open_at first n (copied + 1)) (chunk_of base first n)) }) (record base { device = d; buffer = chunk_of base first n }) first n (copied + 1)
  before_next v base first n copied b d o nd wrote one = record {
    kept = one.kept;
    snaps = b.snaps;
    flights = b.flights;
    was = refl;
    running = b.running;
    room = chunk_long v base first n copied b;
    inside = λ k lt. b.inside k (omega (arith, lt));
    wholly = (let up : base.state.chunk * (first.old + suc n) ≡ base.state.chunk * (first.old + n) + base.state.chunk = (let e : first.old + suc n ≡ first.old + n + 1 = omega arith in ap (λ k. base.state.chunk * k) e ∙ one_more base.state.chunk (first.old + n)) in
        let w = b.wholly in omega (arith, up, w));
    sectors = wrote.sized ∙ b.sectors;
    store = nd.sized ∙ b.store;
    disk = wrote.bare;
    bare = nd.bare;
  }

  few : (x : ℕ) → next_count x < 2 ^ 64
  few x = omega arith

  pub group_copied : (n : ℕ) (v : Volumed B) (base : Merging B) (first : Pair) (copied : ℕ) → IsBefore v base first (suc n) copied → (d o : B) → IsLater contents durable layers size faults done (contents base.device) (suc n) base.device d
      → IsLater contents durable layers size faults done (with_sectors (contents v.origin) (base.state.chunk * first.old) (all_of base first (suc n))) (suc n) v.origin o
      → AreCopied holds contents layers size faults done (suc n) v (copied_to v base first (copied + suc n) d o (chunk_of base first 0)) × IsKept holds contents layers size (copied_to v base first (copied + suc n) d o (chunk_of base first 0))
  group_copied zero v base first copied b d o later end =
      let nd = later_next contents durable layers size faults done (contents base.device) base.device d later in
      let old : base.state.chunk * first.old ≡ base.state.chunk * (first.old + 0) = (let e : first.old ≡ first.old + 0 = omega arith in ap (λ k. base.state.chunk * k) e) in
      let new : base.state.chunk * first.new ≡ base.state.chunk * (first.new + 0) = (let e : first.new ≡ first.new + 0 = omega arith in ap (λ k. base.state.chunk * k) e) in
      let once : base.state.chunk * 1 ≡ base.state.chunk = omega arith in
      let bytes : with_sectors (contents v.origin) (base.state.chunk * first.old) (all_of base first 1) ≡ with_sectors (contents v.origin) (base.state.chunk * (first.old + 0)) (chunk_of base first 0) =
      ap (λ k. with_sectors (contents v.origin) k (all_of base first 1)) old ∙ ap (λ k. with_sectors (contents v.origin) (base.state.chunk * (first.old + 0)) (sectors_at (contents base.device) k (base.state.chunk * 1))) new
      ∙ ap (λ k. with_sectors (contents v.origin) (base.state.chunk * (first.old + 0)) (sectors_at (contents base.device) (base.state.chunk * (first.new + 0)) k)) once in
      let next : IsNext contents durable layers size faults done (with_sectors (contents v.origin) (base.state.chunk * (first.old + 0)) (chunk_of base first 0)) v.origin o =
      subst (λ x. IsNext contents durable layers size faults done x v.origin o) bytes (later_next contents durable layers size faults done (with_sectors (contents v.origin) (base.state.chunk * first.old) (all_of base first 1)) v.origin o end) in
      let one = one_chunk v base first 0 copied b d o nd next in
      ((one.read, copied_to v base first (copied + 1) d o (chunk_of base first 0), one.reads_it, one.writes_it, refl), one.kept)
  group_copied (suc n) v base first copied b d o later wrote =
      let l = likes base.device (contents base.device) (next_count (done base.device)) b.bare (whole base.device) (few (done base.device)) in
      let nd = next_of_like contents durable layers size faults done (contents base.device) base.device l in
      let bytes : List ℕ = with_sectors (contents v.origin) (base.state.chunk * (first.old + suc n)) (chunk_of base first (suc n)) in
      let long = chunk_long v base first (suc n) copied b in
      let wd = whole v.origin in
      let ws = whole base.device in
      let up : base.state.chunk * (first.old + suc (suc n)) ≡ base.state.chunk * (first.old + suc n) + base.state.chunk = (let e : first.old + suc (suc n) ≡ first.old + suc n + 1 = omega arith in ap (λ k. base.state.chunk * k) e ∙ one_more base.state.chunk (first.old + suc n)) in
      let fits : 512 * (base.state.chunk * (first.old + suc n)) + length (chunk_of base first (suc n)) ≤ length (contents v.origin) = (let w = b.wholly in omega (arith, long, wd, up, w, b.sectors)) in
      let m = likes v.origin bytes (next_count (done v.origin)) b.disk (length-with_sectors (contents v.origin) (base.state.chunk * (first.old + suc n)) (chunk_of base first (suc n)) fits ∙ wd) (few (done v.origin)) in
      let no1 = next_of_like contents durable layers size faults done bytes v.origin m in
      let one = one_chunk v base first (suc n) copied b l.like m.like nd no1 in
      let held : Merging B = record base { device = l.like; buffer = chunk_of base first (suc n) } in
      let w : Volumed B = record v { origin = m.like; merge = Some (with_chunk base l.like (open_at first (suc n) (copied + 1)) (chunk_of base first (suc n))) } in
      let so = spread base.state.chunk first.old (suc n) in
      let sn = spread base.state.chunk first.new (suc n) in
      let more : base.state.chunk * suc (suc n) ≡ base.state.chunk * suc n + base.state.chunk = (let e : suc (suc n) ≡ suc n + 1 = omega arith in ap (λ k. base.state.chunk * k) e ∙ one_more base.state.chunk (suc n)) in
      let i = (b.inside (suc n) (omega arith)).new in
      let un = one_more base.state.chunk (first.new + suc n) in
      let split : with_sectors (contents m.like) (base.state.chunk * first.old) (sectors_at (contents l.like) (base.state.chunk * first.new) (base.state.chunk * suc n)) ≡ with_sectors (contents v.origin) (base.state.chunk * first.old) (all_of base first (suc (suc n))) =
      ap (λ x. with_sectors x (base.state.chunk * first.old) (sectors_at (contents l.like) (base.state.chunk * first.new) (base.state.chunk * suc n))) m.bytes_are
      ∙ ap (λ x. with_sectors bytes (base.state.chunk * first.old) (sectors_at x (base.state.chunk * first.new) (base.state.chunk * suc n))) l.bytes_are
      ∙ ap (λ k. with_sectors (with_sectors (contents v.origin) k (chunk_of base first (suc n))) (base.state.chunk * first.old) (all_of base first (suc n))) so
      ∙ ap (λ k. with_sectors (with_sectors (contents v.origin) (base.state.chunk * first.old + base.state.chunk * suc n) (sectors_at (contents base.device) k base.state.chunk)) (base.state.chunk * first.old) (all_of base first (suc n))) sn
      ∙ split_write (contents v.origin) (contents base.device) (base.state.chunk * first.old) (base.state.chunk * first.new) (base.state.chunk * suc n) base.state.chunk
      (let x = b.wholly in omega (arith, wd, up, so, x, b.sectors)) (omega (arith, ws, i, un, sn, b.store))
      ∙ ap (λ k. with_sectors (contents v.origin) (base.state.chunk * first.old) (sectors_at (contents base.device) (base.state.chunk * first.new) k)) (sym more) in
      let rest = group_copied n w held first (copied + 1) (before_next v base first (suc n) copied b l.like m.like nd no1 one) d o
      (later_then contents durable layers size faults done (contents base.device) (contents base.device) (contents l.like) n base.device l.like d l.bytes_are nd later)
      (later_then contents durable layers size faults done bytes (with_sectors (contents v.origin) (base.state.chunk * first.old) (all_of base first (suc (suc n)))) (with_sectors (contents m.like) (base.state.chunk * first.old) (sectors_at (contents l.like) (base.state.chunk * first.new) (base.state.chunk * suc n))) n v.origin m.like o split no1 wrote) in
      let end : copied_to w held first (copied + 1 + suc n) d o (sectors_at (contents l.like) (base.state.chunk * (first.new + 0)) base.state.chunk) ≡ copied_to v base first (copied + suc (suc n)) d o (chunk_of base first 0) =
      ap (λ x. copied_to v base first (copied + 1 + suc n) d o (sectors_at x (base.state.chunk * (first.new + 0)) base.state.chunk)) l.bytes_are
      ∙ ap (λ k. copied_to v base first k d o (chunk_of base first 0)) (let e : copied + 1 + suc n ≡ copied + suc (suc n) = omega arith in e) in
      ((one.read, w, one.reads_it, one.writes_it, subst (λ x. AreCopied holds contents layers size faults done (suc n) w x) end rest.0), subst (λ x. IsKept holds contents layers size x) end rest.1)

  -- The merge copied all chunks that wait, as its contract says.
  module _ (v : Volumed B) (k : IsKept holds contents layers size v) (snaps : v.snaps ≡ []) (flights : v.flights ≡ []) (m : Merging B) (was : v.merge ≡ Some m) (m' : Merging B) (o : B)
      (can : can_copy_of m.group m.state.chunk m.state.origin ≡ true) (disk_bare : layers v.origin ≡ []) (store_bare : layers m.device ≡ []) (g : Group) (grouped : m.group ≡ Some g) (waits : IsWaiting g m)
      (copied : contents o ≡ with_sectors (contents v.origin) (m.state.chunk * g.first.old) (sectors_at (contents m.device) (m.state.chunk * g.first.new) (m.state.chunk * g.waiting)))
      (fields : m' ≡ record m { device = m'.device; group = Some (copied_in g); buffer = sectors_at (contents m.device) (m.state.chunk * g.first.new) m.state.chunk })
      (same : contents m'.device ≡ contents m.device) (above : (layers o ≡ layers v.origin) × (layers m'.device ≡ layers m.device)) (kept : (durable o ≡ durable v.origin) × (durable m'.device ≡ durable m.device))
      (sized : (size o ≡ size v.origin) × (size m'.device ≡ size m.device)) (calm : (faults o ≡ faults v.origin) × (faults m'.device ≡ faults m.device)) (counts : (done o ≡ count_after (done v.origin) g.waiting) × (done m'.device ≡ count_after (done m.device) g.waiting)) where
    abbrev end : Volumed B
    end = record v { origin = o; merge = Some m' }

    may : CopiesAll g m.state.chunk m.state.origin
    may = copies_all g m.state.chunk m.state.origin (sym (ap (λ x. can_copy_of x m.state.chunk m.state.origin) grouped) ∙ can)

    by : (n : ℕ) → g.waiting ≡ n → AreCopied holds contents layers size faults done n v end × IsKept holds contents layers size end
    by zero e = absurd (let two = may.two in omega (arith, e))
    by (suc n) e =
        let is_open : g ≡ open_at g.first (suc n) g.copied = ap (λ (x : ℕ). record g { waiting = x }) e ∙ ap (λ (x : Progress). record { first = g.first; waiting = suc n; copied = g.copied; progress = x }) may.far in
        let origin = (merged_in contents layers size v m was k.whole).origin in
        let text = (holds_merge contents layers size faults done v k.whole m was).text.whole in
        let ws = whole m.device in
        let before : IsBefore v m g.first (suc n) g.copied = record {
          kept = k;
          snaps = snaps;
          flights = flights;
          was = was ∙ ap (λ x. Some (record m { group = x })) (grouped ∙ ap Some is_open);
          running = waits.running;
          room = waits.room;
          inside = λ j lt. inside_run m.state.chunk m.state.origin m.state.size g.first g.waiting waits.inside j (omega (arith, lt, e));
          wholly = subst (λ x. m.state.chunk * (g.first.old + x) ≤ m.state.origin) e may.whole;
          sectors = sym origin;
          store = omega (arith, text, ws);
          disk = disk_bare;
          bare = store_bare;
        } in
        let later : IsLater contents durable layers size faults done (contents m.device) (suc n) m.device m'.device = record { bytes_are = same; flushed = kept.1; bare = above.1 ∙ store_bare; sized = sized.1; calm = calm.1; counted = counts.1 ∙ ap (count_after (done m.device)) e } in
        let wrote : IsLater contents durable layers size faults done (with_sectors (contents v.origin) (m.state.chunk * g.first.old) (all_of m g.first (suc n))) (suc n) v.origin o = record {
          bytes_are = copied ∙ ap (λ x. with_sectors (contents v.origin) (m.state.chunk * g.first.old) (all_of m g.first x)) e;
          flushed = kept.0;
          bare = above.0 ∙ disk_bare;
          sized = sized.0;
          calm = calm.0;
          counted = counts.0 ∙ ap (count_after (done v.origin)) e;
        } in
        let all = group_copied n v m g.first g.copied before m'.device o later wrote in
        let ended : copied_to v m g.first (g.copied + suc n) m'.device o (chunk_of m g.first 0) ≡ end =
        ap (λ x. copied_to v m g.first (g.copied + suc n) m'.device o (sectors_at (contents m.device) (m.state.chunk * x) m.state.chunk)) (let z : g.first.new + 0 ≡ g.first.new = omega arith in z)
        ∙ ap (λ x. record v { origin = o; merge = Some (with_chunk m m'.device (record { first = g.first; waiting = 0; copied = g.copied + x; progress = Open }) (sectors_at (contents m.device) (m.state.chunk * g.first.new) m.state.chunk)) }) (sym e)
        ∙ ap (λ (x : Progress). record v { origin = o; merge = Some (with_chunk m m'.device (record { first = g.first; waiting = 0; copied = g.copied + g.waiting; progress = x }) (sectors_at (contents m.device) (m.state.chunk * g.first.new) m.state.chunk)) }) (sym may.far)
        ∙ ap (λ x. record v { origin = o; merge = Some x }) (sym fields) in
        (subst (λ x. AreCopied holds contents layers size faults done (suc n) v x) ended all.0, subst (λ x. IsKept holds contents layers size x) ended all.1)

    pub all_copied : AreCopied holds contents layers size faults done g.waiting v end
    all_copied = (by g.waiting refl).0

    pub all_kept : IsKept holds contents layers size end
    all_kept = (by g.waiting refl).1
