-- Where no device drops writes, and the device answers that an event asks, the event that was due counts no fault.
use Rattle.std.proofs.Common.{◌≡◌, inl, inr, ℕ, zero, suc, ◌+◌, ◌*◌, ◌/◌, ◌<◌, ◌≤◌, Bool, true, false, List, [], ◌∷◌, Option, Some, None, length, get_or, set, map, refl, sym, ◌∙◌, ap, subst, arith}
use Rattle.std.specs.Prelude.{◌==◌, ◌&&◌, ◌||◌, not, Ok, if◌then◌else◌}
use Rattle.std.proofs.lemmas.Bool.{cases_order, eqb-true, false≢true}
use Rattle.std.proofs.lemmas.Nat.{div-mul-add}
use Rattle.std.proofs.lemmas.List.{get_or-map, get_or_default, length-map}
use Rattle.device.specs.Layers.{Layer}
use Rattle.plain_machine.specs.declared.event.Event.{Event}
use Rattle.plain_machine.specs.declared.event.Event.TheVariants.{Issue, CopyRead, CopyWrite, ZeroNext, WriteArea, Publish, WriteInvalid, FlushStore, MergeGroup, MergeAreaRead, MergeRead, MergeWrite, MergeFlush, MergeCommit, MergeRelease}
use Rattle.plain_machine.specs.declared.event.Outcome.{Outcome}
use Rattle.plain_machine.specs.declared.event.Outcome.TheVariants.{Done, Fault, Reply as Replied}
use Rattle.plain_machine.specs.declared.request.Reply.{Reply}
use Rattle.plain_machine.specs.declared.request.Reply.TheVariants.{Data, Flushed, Written, Refused}
use Rattle.plain_machine.specs.declared.request.Failure.TheVariants.{Invalid, Io, Overflow}
use Rattle.volume_laws.specs.Due.{is_due, books_of as due_books}
use Rattle.volume_laws.specs.MergeDue.{is_merge_due}
use Rattle.cow_format.specs.Places.{area_place}
use Rattle.whole_commands.specs.Saving.{lacks_area}
use Rattle.event_machine.specs.Due.{can_zero, is_issuable}
use Rattle.event_machine.specs.Held.{Going, Moving, SnapHeld}
use Rattle.event_machine.specs.MergeSeen.{held_in}
use Rattle.event_machine.specs.MergeStepping.{stepped_all}
use Rattle.event_machine.specs.Stepping.{first_that}
use Rattle.snapshot.specs.Kept.{Kept, books_of as snap_books, due_of_kept}
use Rattle.merge.specs.Merging.{Merging, due_of as merging_due}
use Rattle.snapshot_list.specs.Numbers.{number_of_snap}
use Rattle.volume.specs.Answered.{if_some, area_of, answers_event, reads_many, route_answers, is_told}
use Rattle.volume.specs.Calm.{StepsCalmly, is_fault, is_io}
use Rattle.volume.specs.FreshMarks.{IsFresh, FreshFor}
use Rattle.volume.specs.Causes.{counts_of, lives_of, Spoils, MarkFails, ZeroFails, HasDone, HasFailed, HasReplied}
use Rattle.volume.specs.DoesAhead.{DoesAhead}
use Rattle.volume.specs.DoesStep.{DoesStep}
use Rattle.volume.specs.Moved.{held_of, merge_seen, moving_of}
use Rattle.volume.specs.Stepping.{has_failed}
use Rattle.volume.specs.Volumed.{Volumed, dues_of, is_due_of, is_loud_in_all}
use Rattle.volume.specs.Whole.{IsCounted, IsWhole}
use Rattle.volume.proofs.Answered.{lives_in, stale_in, failed_in, replies_io, write_invalid_calm, flush_stale_calm, flush_lives_calm, area_calm, copy_read_calm, copy_write_calm, zero_calm, area_read_calm, chunk_read_calm, chunk_write_calm, flush_calm, commit_calm, issue_calm}
use Rattle.volume.proofs.MergeDues.{due_beside}
use Rattle.volume.proofs.MergeOperations.{due_running}
use Rattle.volume.proofs.Peeked.{live_holds}
use Rattle.volume.proofs.Relayered.{map_twice}
use Rattle.volume.proofs.Shown.{and_left, and_right}

-- an event that is done counts no fault
done_counts : {B : Type 0} (faults : B → ℕ) (event : Event) (v w : Volumed B) → HasDone faults event v w → counts_of faults w ≡ counts_of faults v
done_counts faults (Issue n) v w done = done.counts
done_counts faults (CopyRead n) v w done = done.counts
done_counts faults (CopyWrite n) v w done = done.counts
done_counts faults (ZeroNext n) v w (inl done) = done.counts
done_counts faults (ZeroNext n) v w (inr lacks) = lacks.counts
done_counts faults (WriteArea n) v w done = done.counts
done_counts faults (Publish n) v w (inl done) = done.counts
done_counts faults (Publish n) v w (inr fills) = fills.counts
done_counts faults (WriteInvalid n) v w done = done.counts
done_counts faults (FlushStore n) v w done = done.counts
done_counts faults MergeGroup v w done = done.counts
done_counts faults MergeAreaRead v w done = done.counts
done_counts faults MergeRead v w done = done.counts
done_counts faults MergeWrite v w done = done.counts
done_counts faults MergeFlush v w done = done.counts
done_counts faults MergeCommit v w done = done.counts
done_counts faults MergeRelease v w done = done.counts

-- nor a request that is not answered by Io
replied_counts : {B : Type 0} (faults : B → ℕ) (n : ℕ) (reply : Reply) (v w : Volumed B) → is_io reply ≡ false → HasReplied faults n reply v w → counts_of faults w ≡ counts_of faults v
replied_counts faults n (Data bytes) v w other cause = cause.counts
replied_counts faults n Written v w other cause = cause.counts
replied_counts faults n Flushed v w other cause = cause.counts
replied_counts faults n (Refused Invalid) v w other cause = cause.counts
replied_counts faults n (Refused Io) v w other cause = absurd (false≢true (sym other))
replied_counts faults n (Refused Overflow) v w other cause = cause.counts

set_false : (xs : List Bool) (k : ℕ) → get_or (set xs k false) k false ≡ false
set_false [] k = refl
set_false (x ∷ xs) zero = refl
set_false (x ∷ xs) (suc k) = set_false xs k

-- no snapshot was spoiled where all live as before
unspoiled : {B : Type 0} (faults : B → ℕ) (device place : ℕ) (v w : Volumed B) → lives_of w ≡ lives_of v → Spoils faults device place v w → ⊥
unspoiled faults device place v w same spoils =
    false≢true (sym (set_false (lives_of v) place) ∙ ap (λ (xs : List Bool). get_or xs place false) (sym spoils.lives ∙ same) ∙ spoils.was)

-- the first of some that passes a test stands at a place of what they are seen of
first_found : {X Y : Type 0} (f : X → Y) (test : Y → Bool) (xs : List X) (y : Y) → first_that test (map f xs) ≡ Some y → (k : ℕ) × (x : X) × (k < length xs) × (x ≡ get_or xs k x) × (f x ≡ y) × (test y ≡ true)
first_found f test [] y e = absurd (cc)
first_found {X} {Y} f test (x ∷ xs) y e = by (test (f x)) refl e (first_found f test xs y)
  where
    by : (b : Bool) → test (f x) ≡ b → (if b then Some (f x) else first_that test (map f xs)) ≡ Some y → (first_that test (map f xs) ≡ Some y → (k : ℕ) × (z : X) × (k < length xs) × (z ≡ get_or xs k z) × (f z ≡ y) × (test y ≡ true))
        → (k : ℕ) × (z : X) × (k < length (x ∷ xs)) × (z ≡ get_or (x ∷ xs) k z) × (f z ≡ y) × (test y ≡ true)
    by true passes here tail = (let same : f x ≡ y = cc (here) in (0, x, omega arith, refl, same, ap test (sym same) ∙ passes))
    by false passes later tail = (let h = tail later in (suc h.0, h.1, omega (arith, h.2), h.3, h.4, h.5))

module _ {B : Type 0} (contents : B → List ℕ) (layers : B → List Layer) where
  lives_seen : (v : Volumed B) → lives_in (moving_of contents layers None v) ≡ lives_of v
  lives_seen v = map_twice (held_of contents layers) (λ h. h.snap.live) v.snaps

  failed_seen : (m : Option (Merging B)) → failed_in (held_in (merge_seen contents layers m)) ≡ has_failed m
  failed_seen None = refl
  failed_seen (Some m) = refl

  same_lives : (v w : Volumed B) (after : Moving) → after ≡ moving_of contents layers None w → lives_in after ≡ lives_in (moving_of contents layers None v) → lives_of w ≡ lives_of v
  same_lives v w after is same = sym (lives_seen w) ∙ ap lives_in (sym is) ∙ same ∙ lives_seen v

  same_failed : (v w : Volumed B) (after : Moving) → after ≡ moving_of contents layers None w → failed_in after.merge ≡ failed_in (moving_of contents layers None v).merge → has_failed w.merge ≡ has_failed v.merge
  same_failed v w after is same = sym (failed_seen w.merge) ∙ ap (λ (m : Moving). failed_in m.merge) (sym is) ∙ same ∙ failed_seen v.merge

  -- a mark that fails makes a store stale that was not
  unmarked : (faults : B → ℕ) (n : ℕ) (v w : Volumed B) (after : Moving) → after ≡ moving_of contents layers None w
      → ((k : ℕ) → get_or (stale_in after) k false ≡ true → get_or (stale_in (moving_of contents layers None v)) k false ≡ true) → IsFresh n v → MarkFails faults n v w → ⊥
  unmarked faults n v w after is less fresh fails =
      let k : ℕ = fails.place in
      let now : get_or (stale_in (moving_of contents layers None w)) k false ≡ true = ap (λ (xs : List Bool). get_or xs k false) (map_twice (held_of contents layers) (λ h. h.snap.stale) w.snaps) ∙ fails.stale in
      let was : get_or (stale_in (moving_of contents layers None v)) k false ≡ true = less k (ap (λ (m : Moving). get_or (stale_in m) k false) is ∙ now) in
      let stale : fails.snap.stale ≡ true =
      ap (λ (x : Kept B). x.stale) fails.at.is ∙ sym (get_or-map (λ (x : Kept B). x.stale) v.snaps k fails.snap false fails.at.within)
      ∙ sym (ap (λ (xs : List Bool). get_or xs k false) (map_twice (held_of contents layers) (λ h. h.snap.stale) v.snaps)) ∙ was in
      false≢true (sym (fresh k fails.snap fails.at fails.mine fails.untried) ∙ stale)

  module _ (size faults done : B → ℕ) (v w : Volumed B) (whole : IsWhole contents layers size v) where
    abbrev here : Moving
    here = moving_of contents layers None v

    -- two snapshots of one number stand at one place
    pub same_place : (i j : ℕ) (s t : Kept B) → i < length v.snaps → j < length v.snaps → s ≡ get_or v.snaps i s → t ≡ get_or v.snaps j t → s.number ≡ t.number → i ≡ j
    same_place i j s t i_in j_in s_is t_is same = elim (cases_order i j) [
      | inl e ↦ e
      | inr apart ↦ elim apart [
        | inl lt ↦ (let less = ascends i j s t lt i_in j_in s_is t_is in absurd (omega (arith, less, same)))
        | inr gt ↦ (let less = ascends j i t s gt j_in i_in t_is s_is in absurd (omega (arith, less, same)))
      ]
    ]
      where
        ascends : (a b : ℕ) (x y : Kept B) → a < b → a < length v.snaps → b < length v.snaps → x ≡ get_or v.snaps a x → y ≡ get_or v.snaps b y → x.number < y.number
        ascends a b x y lt a_in b_in x_is y_is =
            let up : get_or (map number_of_snap v.snaps) a 0 < get_or (map number_of_snap v.snaps) b 0 = whole.numbers.ascending a b 0 lt (omega (arith, b_in, length-map v.snaps number_of_snap)) in
            let low : get_or (map number_of_snap v.snaps) a 0 ≡ x.number = get_or-map number_of_snap v.snaps a x 0 a_in ∙ ap number_of_snap (sym x_is) in
            let high : get_or (map number_of_snap v.snaps) b 0 ≡ y.number = get_or-map number_of_snap v.snaps b y 0 b_in ∙ ap number_of_snap (sym y_is) in
            omega (arith, up, low, high)

    was_live : (k : ℕ) (s : Kept B) → k < length v.snaps → s ≡ get_or v.snaps k s → get_or (lives_of v) k false ≡ true → s.live ≡ true
    was_live k s within is live = ap (λ (x : Kept B). x.live) is ∙ sym (get_or-map (λ (x : Kept B). x.live) v.snaps k s false within) ∙ live

    -- a live snapshot's next area, as the machine has it
    area_there : (k : ℕ) (s : Kept B) → k < length v.snaps → s ≡ get_or v.snaps k s → s.live ≡ true → s.state.chunk * (area_place s.state.chunk (s.state.current + 1) + 1) ≤ s.state.size
        → lacks_area (area_of (held_of contents layers s) + 1) (held_of contents layers s).snap ≡ false
    area_there k s within is live there =
        let counted : IsCounted s = subst IsCounted (sym is) (whole.counted k s within) in
        let area : area_of (held_of contents layers s) ≡ s.state.current = ap (λ n. n / (32 * s.state.chunk)) counted.count ∙ div-mul-add s.state.current (32 * s.state.chunk) s.state.filled (counted.fits live) in
        let text = (live_holds contents layers size v whole k s within is live).text in
        let sized : length (contents s.device) ≡ 512 * s.state.size = text.whole in
        ap (λ a. lacks_area (a + 1) (held_of contents layers s).snap) area ∙ there_is s sized there
      where
        there_is : (x : Kept B) → length (contents x.device) ≡ 512 * x.state.size → x.state.chunk * (area_place x.state.chunk (x.state.current + 1) + 1) ≤ x.state.size → lacks_area (x.state.current + 1) (held_of contents layers x).snap ≡ false
        there_is x sized there =
            let le : 512 * (x.state.chunk * (area_place x.state.chunk (x.state.current + 1) + 1)) ≤ length (contents x.device) = omega (arith, sized, there) in
            search (arith, le)

    -- a merge that runs does not stop
    running : (event : Event) → ((m : Merging B) → v.merge ≡ Some m → is_merge_due (map (snap_books contents layers) v.snaps) v.flights (merging_due contents true m) event ≡ true) → has_failed v.merge ≡ false
    running event due = by v.merge refl
      where
        by : (o : Option (Merging B)) → v.merge ≡ o → has_failed o ≡ false
        by None e = refl
        by (Some m) e = due_running contents layers size faults done v whole m e event (due m e)

    unstopped : (event : Event) → ((m : Merging B) → v.merge ≡ Some m → is_merge_due (map (snap_books contents layers) v.snaps) v.flights (merging_due contents true m) event ≡ true)
        → stepped_all event here ≡ moving_of contents layers None w → failed_in (stepped_all event here).merge ≡ failed_in here.merge → has_failed w.merge ≡ true → ⊥
    unstopped event due exact same failed = false≢true (sym (running event due) ∙ sym (same_failed v w (stepped_all event here) exact same) ∙ failed)

    -- an event of a merge is due by what is due of it
    beside : (event : Event) (m : Merging B) → v.merge ≡ Some m → is_due_of contents layers v event ≡ (is_due (dues_of contents layers v) v.flights event || is_merge_due (map (snap_books contents layers) v.snaps) v.flights (merging_due contents true m) event)
    beside event m is =
        due_beside contents layers v m is event
        ∙ ap (λ xs. is_due (dues_of contents layers v) v.flights event || is_merge_due xs v.flights (merging_due contents true m) event) (map_twice (due_of_kept contents layers) due_books v.snaps)

    -- the next area of the store that is zeroed lies in it
    zero_there : (n : ℕ) (w : Volumed B) (fails : ZeroFails faults n v w) (h : SnapHeld) → first_that (λ x. (x.snap.number == n) && can_zero x) here.snaps ≡ Some h → lacks_area (area_of h + 1) h.snap ≡ false
    zero_there n w fails h e =
        let found = first_found (held_of contents layers) (λ x. (x.snap.number == n) && can_zero x) v.snaps h e in
        let s : Kept B = found.1 in
        let number : s.number ≡ n = ap (λ (x : SnapHeld). x.snap.number) found.4 ∙ eqb-true h.snap.number n (and_left (h.snap.number == n) (can_zero h) found.5) in
        let same : found.0 ≡ fails.place = same_place found.0 fails.place s fails.snap found.2 fails.at.within found.3 fails.at.is (number ∙ sym fails.mine) in
        let snap : s ≡ fails.snap = found.3 ∙ ap (λ k. get_or v.snaps k s) same ∙ get_or_default v.snaps fails.place s fails.snap fails.at.within ∙ sym fails.at.is in
        ap (λ (x : SnapHeld). lacks_area (area_of x + 1) x.snap) (sym found.4)
        ∙ ap (λ (x : Kept B). lacks_area (area_of (held_of contents layers x) + 1) (held_of contents layers x).snap) snap
        ∙ area_there fails.place fails.snap fails.at.within fails.at.is (was_live fails.place fails.snap fails.at.within fails.at.is fails.spoils.was) fails.there

    -- an event whose device answers does not fail
    unfailed : (event : Event) → FreshFor event v → is_due_of contents layers v event ≡ true → stepped_all event here ≡ moving_of contents layers None w → answers_event event here ≡ true → HasFailed faults event v w → ⊥
    unfailed (Issue n) fresh due exact told fails = fails
    unfailed (CopyRead n) fresh due exact told fails = unspoiled faults 0 fails.place v w (same_lives v w (stepped_all (CopyRead n) here) exact (copy_read_calm n here told)) fails.spoils
    unfailed (CopyWrite n) fresh due exact told fails = unspoiled faults (suc fails.place) fails.place v w (same_lives v w (stepped_all (CopyWrite n) here) exact (copy_write_calm n here told)) fails.spoils
    unfailed (ZeroNext n) fresh due exact told fails = unspoiled faults (suc fails.place) fails.place v w (same_lives v w (stepped_all (ZeroNext n) here) exact (zero_calm n here (λ h e. zero_there n w fails h e) told)) fails.spoils
    unfailed (WriteArea n) fresh due exact told fails = unspoiled faults (suc fails.place) fails.place v w (same_lives v w (stepped_all (WriteArea n) here) exact (area_calm n here told)) fails.spoils
    unfailed (Publish n) fresh due exact told fails = fails
    unfailed (WriteInvalid n) fresh due exact told fails = unmarked faults n v w (stepped_all (WriteInvalid n) here) exact (λ k now. write_invalid_calm n here k told now) fresh fails
    unfailed (FlushStore n) fresh due exact told (inl fails) = unspoiled faults (suc fails.place) fails.place v w (same_lives v w (stepped_all (FlushStore n) here) exact (flush_lives_calm n here told)) fails.spoils
    unfailed (FlushStore n) fresh due exact told (inr fails) = unmarked faults n v w (stepped_all (FlushStore n) here) exact (λ k now. flush_stale_calm n here k told now) fresh fails
    unfailed MergeGroup fresh due exact told fails = fails
    unfailed MergeAreaRead fresh due exact told fails = unstopped MergeAreaRead (λ m is. sym (beside MergeAreaRead m is) ∙ due) exact (area_read_calm here told) (ap has_failed fails.is ∙ fails.failed)
    unfailed MergeRead fresh due exact told fails = unstopped MergeRead (λ m is. sym (beside MergeRead m is) ∙ due) exact (chunk_read_calm here told) (ap has_failed fails.is ∙ fails.failed)
    unfailed MergeWrite fresh due exact told fails = unstopped MergeWrite (λ m is. sym (beside MergeWrite m is) ∙ due) exact (chunk_write_calm here told) (ap has_failed fails.is ∙ fails.failed)
    unfailed MergeFlush fresh due exact told fails = unstopped MergeFlush (λ m is. sym (beside MergeFlush m is) ∙ due) exact (flush_calm here told) (ap has_failed fails.is ∙ fails.failed)
    unfailed MergeCommit fresh due exact told fails = unstopped MergeCommit (λ m is. sym (beside MergeCommit m is) ∙ due) exact (commit_calm here told) (ap has_failed fails.is ∙ fails.failed)
    unfailed MergeRelease fresh due exact told fails = fails

  -- no request is answered by Io
  unrefused : (v w : Volumed B) (n : ℕ) (reply : Reply) → stepped_all (Issue n) (moving_of contents layers None v) ≡ moving_of contents layers (Some reply) w → answers_event (Issue n) (moving_of contents layers None v) ≡ true → is_io reply ≡ false
  unrefused v w n reply exact told = sym (ap (λ (m : Moving). replies_io m.replied) exact) ∙ issue_calm n (moving_of contents layers None v) refl told

  -- of all outcomes
  pub faultless : (holds : B → ℕ → List ℕ → Type 0) (size faults done : B → ℕ) (event : Event) (outcome : Outcome) (v w : Volumed B) → IsWhole contents layers size v → is_loud_in_all layers v ≡ true
      → FreshFor event v → answers_event event (moving_of contents layers None v) ≡ true → DoesStep holds contents layers size faults done true event (Ok outcome) v w → (is_fault outcome ≡ false) × (counts_of faults w ≡ counts_of faults v)
  faultless holds size faults done event Done v w whole loud fresh told does = (refl, done_counts faults event v w does.cause)
  faultless holds size faults done event Fault v w whole loud fresh told does =
      absurd (unfailed size faults done v w whole event fresh (sym does.due) (does.exact.step loud None) told does.cause)
  faultless holds size faults done event (Replied n reply) v w whole loud fresh told does =
      let is : event ≡ Issue n = (does.legal loud).0 in
      let other = unrefused v w n reply (subst (λ (e : Event). stepped_all e (moving_of contents layers None v) ≡ moving_of contents layers (Some reply) w) is (does.exact.step loud None))
      (subst (λ (e : Event). answers_event e (moving_of contents layers None v) ≡ true) is told) in
      (other, replied_counts faults n reply v w other does.cause)

  -- what is told ahead is whether it is answered, or that it is not
  told_answers : (event : Event) (m : Moving) → is_told event m ≡ true → answers_event event m ≡ true
  told_answers (Issue n) m told = by (first_that (λ r. (r.number == n) && is_issuable r) m.requests) told
    where
      by : (o : Option Going) → if_some o (λ r. not (reads_many r.request.op r.request.range.count) && route_answers r.route r m) ≡ true → if_some o (λ r. route_answers r.route r m) ≡ true
      by None e = refl
      by (Some r) e = and_right (not (reads_many r.request.op r.request.range.count)) (route_answers r.route r m) e
  told_answers (CopyRead n) m told = told
  told_answers (CopyWrite n) m told = told
  told_answers (ZeroNext n) m told = told
  told_answers (WriteArea n) m told = told
  told_answers (Publish n) m told = told
  told_answers (WriteInvalid n) m told = told
  told_answers (FlushStore n) m told = told
  told_answers MergeGroup m told = told
  told_answers MergeAreaRead m told = told
  told_answers MergeRead m told = told
  told_answers MergeWrite m told = told
  told_answers MergeFlush m told = told
  told_answers MergeCommit m told = told
  told_answers MergeRelease m told = told

  -- an event that was told ahead to be answered
  pub steps_calmly : (holds : B → ℕ → List ℕ → Type 0) (size faults done : B → ℕ) (event : Event) (v w : Volumed B) (told : Bool) → DoesAhead holds contents layers size faults done v w → IsWhole contents layers size w
      → (is_due_of contents layers v event ≡ true → FreshFor event w) → (is_due_of contents layers v event ≡ true → told ≡ is_told event (moving_of contents layers None w)) → told ≡ true → is_loud_in_all layers w ≡ true
      → StepsCalmly holds contents layers size faults done event w
  steps_calmly holds size faults done event v w told does whole fresh tells is loud outcome after step =
      let due : is_due_of contents layers v event ≡ true = sym (does.due event) ∙ sym step.due in
      faultless holds size faults done event outcome w after whole loud (fresh due) (told_answers event (moving_of contents layers None w) (sym (tells due) ∙ is)) step
