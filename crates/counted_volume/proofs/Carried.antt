-- What follows the read of a chunk that was due first: each event is first due then, or changes nothing.
use Rattle.std.proofs.Common.{◌≡◌, ◌⊎◌, inl, inr, ℕ, ◌*◌, Bool, true, false, List, [], ◌∷◌, ◌++◌, map, Option, Some, None, refl, ap, ◌∙◌, sym, subst, eqb-true}
use Rattle.std.specs.Prelude.{◌==◌, ◌&&◌, ◌||◌, not}
use Rattle.std.specs.List.{list_any}
use Rattle.std.proofs.lemmas.Bool.{cases_Bool, cond-true, cond-false, not-false, or_parts, true≢false}
use Rattle.sector.specs.Bytes.{sectors_at, with_sectors}
use Rattle.device.specs.declared.operation.Operation.{Operation}
use Rattle.device.specs.declared.operation.Operation.TheVariants.{Reads, Writes, Flushes}
use Rattle.plain_machine.specs.declared.event.Event.{Event}
use Rattle.plain_machine.specs.declared.event.Event.TheVariants.{Issue, CopyRead, CopyWrite, ZeroNext, WriteArea, Publish, WriteInvalid, FlushStore, MergeGroup, MergeAreaRead, MergeRead, MergeWrite, MergeFlush, MergeCommit, MergeRelease}
use Rattle.in_flight.specs.declared.copies.Mark.{Mark}
use Rattle.in_flight.specs.declared.copies.Stage.{Stage}
use Rattle.in_flight.specs.declared.copies.Stage.TheVariants.{Waiting, Read, Written, Flushed}
use Rattle.in_flight.specs.Copies.{count_of}
use Rattle.in_flight.specs.Due.{first_by, is_stage, number_of_mark}
use Rattle.in_flight.specs.Flushed.{flushed_stage, safe_mark}
use Rattle.volume_laws.specs.Due.{is_unsafe}
use Rattle.whole_commands.specs.Devices.{Device, sectors_of, answers, met, written_by}
use Rattle.whole_commands.proofs.Each.{Each, each_weaker}
use Rattle.event_machine.specs.Held.{Copying, SnapHeld, Going, Moving, number_of, with_store, spoiled, flushed_copying, flushed_held}
use Rattle.event_machine.specs.Due.{batch_of, can_mark, can_flush_store, can_commit, is_front_ready, is_front_unflushed, needs_area, waits_for_area, publishable_in, is_publishable, least_in, due}
use Rattle.event_machine.specs.Stepping.{for_some, first_that, with_first, put, spoil, store_write, read_copy, write_copy, commit, flush_store, is_copy, stepped}
use Rattle.event_machine.specs.Again.{rerouted}
use Rattle.event_machine.proofs.Found.{IsSplit, split_at, none_that}
use Rattle.event_machine.proofs.Lists.{here_that, here_with, here_by, nowhere_by, nowhere_least}
use Rattle.volume.specs.EventKinds.{is_of_merge}
use Rattle.counted_volume.specs.Following.{following}
use Rattle.counted_volume.proofs.Follows.{Follows, IsCalm, Chosen, all_unread, and_no, and_left, and_right, area_follows, each_done, each_here, each_join, each_rest, fails_by, flush_after_area, flush_calm, flush_follows, flush_nowhere, flush_test, has_read, lacks_by, now, publish_now, read_chosen, snaps_now, spoiled_own, unread, write_after_read, write_nowhere}

-- these events follow one another
abbrev pub AllFollow : List Event → Moving → Type 0
AllFollow [] m = Unit {0}
AllFollow (e ∷ events) m = Follows e m × (is_of_merge e ≡ false) × AllFollow events (stepped e m)

-- nothing of a snapshot is to be marked, flushed or committed
pub record IsIdle (h : SnapHeld) : Type 0 where
  pub mark : can_mark h ≡ false
  pub flush : can_flush_store h ≡ false
  pub commit : can_commit h ≡ false

all_idle : (snaps : List SnapHeld) → Each (λ h. can_mark h ≡ false) snaps → Each (λ h. can_flush_store h ≡ false) snaps → Each (λ h. can_commit h ≡ false) snaps → Each IsIdle snaps
all_idle [] a b c = tt
all_idle (h ∷ snaps) a b c = (record { mark = a.0; flush = b.0; commit = c.0 }, all_idle snaps a.1 b.1 c.1)

calm_idle : (snaps : List SnapHeld) → Each IsIdle snaps → IsCalm snaps
calm_idle snaps all = record {
  marks = each_weaker IsIdle (λ h. can_mark h ≡ false) snaps (λ h i. i.mark) all;
  flushes = each_weaker IsIdle (λ h. can_flush_store h ≡ false) snaps (λ h i. i.flush) all;
}

-- a mark is not to be written, or the store not to be flushed
abbrev IsOwn : SnapHeld → Type 0
IsOwn h = (can_mark h ≡ false) ⊎ (can_flush_store h ≡ false)

-- a snapshot without copies
abbrev IsLost : SnapHeld → Type 0
IsLost h = (h.copies ≡ []) × IsOwn h

-- one whose marks are safe, in a volume of which nothing can be published
pub record IsSound (m : Moving) (h : SnapHeld) : Type 0 where
  pub tried : h.untried ≡ false
  pub safe : list_any is_unsafe h.marks ≡ false
  pub held : least_in (publishable_in m.requests) m.snaps ≡ None

-- all snapshots but one are idle
pub record IsLone (m : Moving) : Type 0 where
  pub done : List SnapHeld
  pub here : SnapHeld
  pub rest : List SnapHeld
  pub is : m.snaps ≡ done ++ here ∷ rest
  pub before : Each IsIdle done
  pub later : Each IsIdle rest
  pub state : IsLost here ⊎ IsSound m here

-- the tests over plain truth values
no_flush : (a b c d : Bool) → (a || b || c || d) ≡ false → (a ≡ false) × (d ≡ false)
no_flush a b c d e =
    let most = or_parts (a || b || c) d e in
    let two = or_parts (a || b) c most.0 in
    ((or_parts a b two.0).0, most.1)

pub tried_by : (untried marked : Bool) → (untried && not marked) ≡ false → (untried && marked) ≡ false → untried ≡ false
tried_by false marked a b = refl
tried_by true false a b = absurd (true≢false a)
tried_by true true a b = absurd (true≢false b)

commit_no : (untried marked unflushed ready waits needs unsafe : Bool) → untried ≡ false → unsafe ≡ false → (unflushed ≡ true → ready ≡ false) → ((untried && marked) || unflushed || (ready && (waits && not needs)) || unsafe) ≡ true → (ready && not waits) ≡ false
commit_no untried marked unflushed false waits needs unsafe a b other e = refl
commit_no untried marked true true waits needs unsafe a b other e = absurd (true≢false (other refl))
commit_no untried marked false true true needs unsafe a b other e = refl
commit_no untried marked false true false needs unsafe a b other e =
    let flat : ((untried && marked) || false || (true && (false && not needs)) || unsafe) ≡ false = rw (a, b) refl in
    absurd (true≢false (sym e ∙ flat))

flush_done : (untried marked unflushed ready waits unsafe : Bool) → untried ≡ false → unflushed ≡ false → unsafe ≡ false → ((untried && marked) || unflushed || (ready && (waits && not waits)) || unsafe) ≡ false
flush_done untried marked unflushed true true unsafe a b c = rw (a, b, c) refl
flush_done untried marked unflushed true false unsafe a b c = rw (a, b, c) refl
flush_done untried marked unflushed false waits unsafe a b c = rw (a, b, c) refl

-- the first copy, before a flush of the store and after it
written_ready : (stage : Stage) → is_stage Written stage ≡ true → is_stage Flushed stage ≡ false
written_ready Waiting e = refl
written_ready Read e = refl
written_ready Written e = refl
written_ready Flushed e = absurd (true≢false (sym e))

front_one : (copies : List Copying) → is_front_unflushed copies ≡ true → is_front_ready copies ≡ false
front_one [] e = refl
front_one (p ∷ copies) e = written_ready p.stage e

flushed_never : (stage : Stage) → is_stage Written (flushed_stage stage) ≡ false
flushed_never Waiting = refl
flushed_never Read = refl
flushed_never Written = refl
flushed_never Flushed = refl

flushed_front : (copies : List Copying) → is_front_unflushed (map flushed_copying copies) ≡ false
flushed_front [] = refl
flushed_front (p ∷ copies) = flushed_never p.stage

safe_all : (marks : List Mark) → list_any is_unsafe (map safe_mark marks) ≡ false
safe_all [] = refl
safe_all (m ∷ marks) = safe_all marks

same_marks : (marks : List Mark) → list_any is_unsafe marks ≡ false → map safe_mark marks ≡ marks
same_marks [] e = refl
same_marks (m ∷ marks) e =
    let parts = or_parts (is_unsafe m) (list_any is_unsafe marks) e in
    let same : safe_mark m ≡ m = ap (λ (b : Bool). record m { safe = b }) (sym (not-false m.safe parts.0)) in
    ap (λ (x : Mark). x ∷ map safe_mark marks) same ∙ ap (λ (xs : List Mark). m ∷ xs) (same_marks marks parts.1)

-- so a snapshot whose store was flushed waits for no flush, and the same of it may be published
flushed_calm : (h : SnapHeld) → h.untried ≡ false → can_flush_store (flushed_held h) ≡ false
flushed_calm h tried =
    flush_done h.untried h.marked (is_front_unflushed (map flushed_copying h.copies)) (is_front_ready (map flushed_copying h.copies)) (needs_area (flushed_held h)) (list_any is_unsafe (map safe_mark h.marks)) tried
    (flushed_front h.copies) (safe_all h.marks)

flushed_held_back : (rs : List Going) (h : SnapHeld) (store : Device) → list_any is_unsafe h.marks ≡ false → publishable_in rs (flushed_held (with_store h store)) ≡ publishable_in rs h
flushed_held_back rs h store safe = ap (first_by (is_publishable rs h) number_of_mark) (same_marks h.marks safe)

-- another snapshot in the place of one, with the same number or none
swap_none : (f : SnapHeld → Option ℕ) (done rest : List SnapHeld) (h k : SnapHeld) → f k ≡ f h → least_in f (done ++ h ∷ rest) ≡ None → least_in f (done ++ k ∷ rest) ≡ None
swap_none f done rest h k same none =
    let all : Each (λ d. f d ≡ None) (done ++ h ∷ rest) = lacks_by f (done ++ h ∷ rest) none in
    nowhere_least f done rest k (each_done (λ d. f d ≡ None) done rest h all) (same ∙ each_here (λ d. f d ≡ None) done rest h all) (each_rest (λ d. f d ≡ None) done rest h all)

lost_commit : (h : SnapHeld) → h.copies ≡ [] → can_commit h ≡ false
lost_commit h none = ap (λ (cs : List Copying). is_front_ready cs && not (waits_for_area h)) none

module _ (s : ℕ) where
  abbrev commits : SnapHeld → Bool
  commits h = (h.snap.number == s) && can_commit h

  uncommitted : (snaps : List SnapHeld) → Each IsIdle snaps → Each (λ h. commits h ≡ false) snaps
  uncommitted snaps all = each_weaker IsIdle (λ h. commits h ≡ false) snaps (λ h i. and_no (h.snap.number == s) (can_commit h) i.commit) all

  unflushed : (snaps : List SnapHeld) → Each IsIdle snaps → Each (λ h. flush_test s h ≡ false) snaps
  unflushed snaps all = each_weaker IsIdle (λ h. flush_test s h ≡ false) snaps (λ h i. and_no (h.snap.number == s) (can_flush_store h) i.flush) all

  -- no area of that snapshot is to be written
  area_nowhere : (m : Moving) → Each (λ h. commits h ≡ false) m.snaps → stepped (WriteArea s) m ≡ m
  area_nowhere m none = ap (λ o. for_some o (λ h. commit (batch_of h) commits h m) m) (none_that commits m.snaps none)

  abbrev Last : Moving → Type 0
  Last m = AllFollow (FlushStore s ∷ []) m

  abbrev Two : Moving → Type 0
  Two m = AllFollow (WriteArea s ∷ FlushStore s ∷ []) m

  abbrev Three : Moving → Type 0
  Three m = AllFollow (FlushStore s ∷ WriteArea s ∷ FlushStore s ∷ []) m

  -- all snapshots are idle
  idle_follows : (m : Moving) → Each IsIdle m.snaps → Three m
  idle_follows m all =
      let flush : stepped (FlushStore s) m ≡ m = flush_calm s m (calm_idle m.snaps all) in
      let area : stepped (WriteArea s) m ≡ m = area_nowhere m (uncommitted m.snaps all) in
      let last : Last m = (inr flush, refl, tt) in
      let two : Two m = (inr area, refl, subst Last (sym area) last) in
      (inr flush, refl, subst Two (sym flush) two)

  -- nothing of a snapshot is to be marked or flushed, and nothing of the volume published
  abbrev IsFree : Moving → SnapHeld → Type 0
  IsFree m h = (can_mark h ≡ false) × (can_flush_store h ≡ false) × (least_in (publishable_in m.requests) m.snaps ≡ None)

  -- All snapshots but one are idle; that one's area is not to be written, or it is free for that.
  pub record IsPast (m : Moving) : Type 0 where
    pub done : List SnapHeld
    pub here : SnapHeld
    pub rest : List SnapHeld
    pub is : m.snaps ≡ done ++ here ∷ rest
    pub before : Each IsIdle done
    pub later : Each IsIdle rest
    pub own : IsOwn here
    pub state : (commits here ≡ false) ⊎ IsFree m here

  module _ (m : Moving) (p : IsPast m) where
    last_follows : Last m
    last_follows = (flush_follows s m p.done p.rest p.here p.is (calm_idle p.done p.before) (calm_idle p.rest p.later) p.own, refl, tt)

    past_none : commits p.here ≡ false → Two m
    past_none fail =
        let none : Each (λ h. commits h ≡ false) m.snaps = subst (Each (λ h. commits h ≡ false)) (sym p.is) (each_join (λ h. commits h ≡ false) p.done p.rest p.here (uncommitted p.done p.before) fail (uncommitted p.rest p.later)) in
        let area : stepped (WriteArea s) m ≡ m = area_nowhere m none in
        (inr area, refl, subst Last (sym area) last_follows)

    past_first : IsFree m p.here → commits p.here ≡ true → Two m
    past_first free pass =
        let front : IsCalm p.done = calm_idle p.done p.before in
        let back : IsCalm p.rest = calm_idle p.rest p.later in
        let calm : IsCalm m.snaps = record {
          marks = subst (Each (λ h. can_mark h ≡ false)) (sym p.is) (each_join (λ h. can_mark h ≡ false) p.done p.rest p.here front.marks free.0 back.marks);
          flushes = subst (Each (λ h. can_flush_store h ≡ false)) (sym p.is) (each_join (λ h. can_flush_store h ≡ false) p.done p.rest p.here front.flushes free.1 back.flushes);
        } in
        let unready : Each (λ h. can_commit h ≡ false) p.done = each_weaker IsIdle (λ h. can_commit h ≡ false) p.done (λ h i. i.commit) p.before in
        let no_mark : first_by can_mark number_of m.snaps ≡ None = ap (first_by can_mark number_of) p.is ∙ nowhere_by can_mark number_of p.done p.rest p.here front.marks free.0 back.marks in
        let no_flush_now : first_by can_flush_store number_of m.snaps ≡ None = ap (first_by can_flush_store number_of) p.is ∙ nowhere_by can_flush_store number_of p.done p.rest p.here front.flushes free.1 back.flushes in
        let area : first_by can_commit number_of m.snaps ≡ Some p.here.snap.number = ap (first_by can_commit number_of) p.is ∙ here_by can_commit number_of p.done p.rest p.here unready (and_right _ _ pass) in
        let same : p.here.snap.number ≡ s = eqb-true p.here.snap.number s (and_left _ _ pass) in
        let first : due m ≡ Some (WriteArea s) = rw (no_mark, no_flush_now, free.2, area) (ap (λ (n : ℕ). Some (WriteArea n)) same) in
        (inl first, refl, (area_follows s m calm, refl, tt))

    past_follows : Two m
    past_follows = elim p.state [
      | inl none ↦ past_none none
      | inr free ↦ elim (cases_Bool (commits p.here)) [
        | inl pass ↦ past_first free pass
        | inr fail ↦ past_none fail
      ]
    ]

  module _ (m : Moving) (l : IsLone m) where
    own_of : IsOwn l.here
    own_of = elim l.state [
      | inl lost ↦ lost.1
      | inr sound ↦ inl (ap (λ (b : Bool). b && not l.here.marked) sound.tried)
    ]

    -- the flush is not due
    past_same : flush_test s l.here ≡ false → IsPast m
    past_same fail = record {
      done = l.done;
      here = l.here;
      rest = l.rest;
      is = l.is;
      before = l.before;
      later = l.later;
      own = own_of;
      state = elim l.state [
        | inl lost ↦ inl (and_no (l.here.snap.number == s) (can_commit l.here) (lost_commit l.here lost.0))
        | inr sound ↦ elim (cases_Bool (l.here.snap.number == s)) [
          | inl mine ↦ inr (ap (λ (b : Bool). b && not l.here.marked) sound.tried, sym (ap (λ (b : Bool). b && can_flush_store l.here) mine) ∙ fail, sound.held)
          | inr other ↦ inl (ap (λ (b : Bool). b && can_commit l.here) other)
        ]
      ];
    }

    module _ (pass : flush_test s l.here ≡ true) where
      abbrev after : SnapHeld
      after = with_store l.here (met l.here.snap.store Flushes)

      flush_is : can_flush_store l.here ≡ true
      flush_is = and_right _ _ pass

      put_is : (h : SnapHeld) → with_first (flush_test s) h m.snaps ≡ l.done ++ h ∷ l.rest
      put_is h = ap (with_first (flush_test s) h) l.is ∙ here_with (flush_test s) h l.done l.rest l.here (unflushed l.done l.before) pass

      -- a store whose mark was written
      past_marked : (h : SnapHeld) → h.copies ≡ l.here.copies → can_mark h ≡ false → can_commit h ≡ can_commit l.here → IsPast (rerouted (put (flush_test s) h m))
      past_marked h copies unmarked commit_same = record {
        done = l.done;
        here = h;
        rest = l.rest;
        is = put_is h;
        before = l.before;
        later = l.later;
        own = inl unmarked;
        state = inl (and_no (h.snap.number == s) (can_commit h) (elim l.state [
          | inl lost ↦ lost_commit h (copies ∙ lost.0)
          | inr sound ↦ commit_same ∙ commit_no l.here.untried l.here.marked (is_front_unflushed l.here.copies) (is_front_ready l.here.copies) (waits_for_area l.here) (needs_area l.here) (list_any is_unsafe l.here.marks) sound.tried sound.safe
              (front_one l.here.copies) flush_is
        ]));
      }

      -- one that was flushed
      past_flushed : IsPast (put (flush_test s) (flushed_held after) m)
      past_flushed = record {
        done = l.done;
        here = flushed_held after;
        rest = l.rest;
        is = put_is (flushed_held after);
        before = l.before;
        later = l.later;
        own = elim own_of [
          | inl unmarked ↦ inl unmarked
          | inr dry ↦ absurd (true≢false (sym flush_is ∙ dry))
        ];
        state = elim l.state [
          | inl lost ↦ inl (and_no (l.here.snap.number == s) (can_commit (flushed_held after)) (lost_commit (flushed_held after) (ap (map flushed_copying) lost.0)))
          | inr sound ↦ inr (
            ap (λ (b : Bool). b && not l.here.marked) sound.tried,
            flushed_calm after sound.tried,
            ap (least_in (publishable_in m.requests)) (put_is (flushed_held after))
                ∙ swap_none (publishable_in m.requests) l.done l.rest l.here (flushed_held after) (flushed_held_back m.requests l.here (met l.here.snap.store Flushes) sound.safe) (sym (ap (least_in (publishable_in m.requests)) l.is) ∙ sound.held),
          )
        ];
      }

      -- and one that could not be
      past_spoiled : IsPast (spoil (flush_test s) after m)
      past_spoiled = record {
        done = l.done;
        here = spoiled after;
        rest = l.rest;
        is = put_is (spoiled after);
        before = l.before;
        later = l.later;
        own = spoiled_own after;
        state = inl (and_no (l.here.snap.number == s) (can_commit (spoiled after)) refl);
      }

      past_stepped : IsPast (flush_store (flush_test s) l.here m)
      past_stepped = elim (cases_Bool l.here.marked) [
        | inl marked ↦ subst IsPast (sym (cond-true _ _ _ marked)) (past_marked (record after { snap = record after.snap { stale = not (answers l.here.snap.store Flushes) }; untried = false }) refl refl refl)
        | inr unmarked ↦ subst IsPast (sym (cond-false _ _ _ unmarked)) (elim (cases_Bool (answers l.here.snap.store Flushes)) [
          | inl ok ↦ subst IsPast (sym (cond-true _ _ _ ok)) past_flushed
          | inr failed ↦ subst IsPast (sym (cond-false _ _ _ failed)) past_spoiled
        ])
      ]

    lone_past : IsPast (stepped (FlushStore s) m)
    lone_past = elim (cases_Bool (flush_test s l.here)) [
      | inl pass ↦ subst IsPast
          (sym (ap (λ o. for_some o (λ h. flush_store (flush_test s) h m) m) (ap (first_that (flush_test s)) l.is ∙ here_that (flush_test s) l.done l.rest l.here (unflushed l.done l.before) pass))) (past_stepped pass)
      | inr fail ↦ subst IsPast
          (sym (flush_nowhere s m (subst (Each (λ h. flush_test s h ≡ false)) (sym l.is) (each_join (λ h. flush_test s h ≡ false) l.done l.rest l.here (unflushed l.done l.before) fail (unflushed l.rest l.later))))) (past_same fail)
    ]

    lone_follows : Three m
    lone_follows = (flush_follows s m l.done l.rest l.here l.is (calm_idle l.done l.before) (calm_idle l.rest l.later) own_of, refl, past_follows (stepped (FlushStore s) m) lone_past)

-- the write of a copy, where no other snapshot has one that was read under this number
module _ (n : ℕ) (m : Moving) (l : IsLone m) (before : Each (λ h. has_read n h ≡ false) l.done) (later : Each (λ h. has_read n h ≡ false) l.rest) where
  module _ (pass : has_read n l.here ≡ true) where
    read_is : (h : SnapHeld) → with_first (has_read n) h m.snaps ≡ l.done ++ h ∷ l.rest
    read_is h = ap (with_first (has_read n) h) l.is ∙ here_with (has_read n) h l.done l.rest l.here before pass

    -- a write of its store that leaves its marks and what else says when they are published
    store_lone : (op : Operation) (bytes : List ℕ) (next : SnapHeld → SnapHeld) → ((w : SnapHeld) → (next w).untried ≡ w.untried) → ((w : SnapHeld) → (next w).marks ≡ w.marks)
        → ((w : SnapHeld) (rs : List Going) → publishable_in rs (next w) ≡ publishable_in rs w) → IsLone (store_write (has_read n) l.here op bytes next m)
    store_lone op bytes next tried marks published =
        let after : SnapHeld = with_store l.here (written_by l.here.snap.store op bytes) in
        elim (cases_Bool (answers l.here.snap.store op)) [
          | inl ok ↦ subst IsLone (sym (cond-true _ _ _ ok)) (record {
            done = l.done;
            here = next after;
            rest = l.rest;
            is = read_is (next after);
            before = l.before;
            later = l.later;
            state = elim l.state [
              | inl lost ↦ absurd (true≢false (sym pass ∙ ap (list_any (is_copy Read n)) lost.0))
              | inr sound ↦ inr (record {
                tried = tried after ∙ sound.tried;
                safe = ap (list_any is_unsafe) (marks after) ∙ sound.safe;
                held =
                    ap (least_in (publishable_in m.requests)) (read_is (next after))
                    ∙ swap_none (publishable_in m.requests) l.done l.rest l.here (next after) (published after m.requests) (sym (ap (least_in (publishable_in m.requests)) l.is) ∙ sound.held);
              })
            ];
          })
          | inr failed ↦ subst IsLone (sym (cond-false _ _ _ failed)) (record {
            done = l.done;
            here = spoiled after;
            rest = l.rest;
            is = read_is (spoiled after);
            before = l.before;
            later = l.later;
            state = inl (refl, spoiled_own after);
          })
        ]

    write_lone : (p : Copying) → IsLone (write_copy (has_read n) (is_copy Read n) l.here p m)
    write_lone p =
        store_lone (Writes (l.here.snap.chunk * p.pair.new) (count_of l.here.snap.chunk (sectors_of m.origin) p.pair.old)) (with_sectors l.here.snap.store.bytes (l.here.snap.chunk * p.pair.new) p.bytes)
        (λ after. record after { copies = with_first (is_copy Read n) (record p { stage = Written }) after.copies }) (λ w. refl) (λ w. refl) (λ w rs. refl)

    abbrev act : Copying → Moving
    act p = write_copy (has_read n) (is_copy Read n) l.here p m

    found_lone : IsLone (for_some (first_that (is_copy Read n) l.here.copies) act m)
    found_lone = elim (split_at (is_copy Read n) l.here.copies) [
      | inl none ↦ subst IsLone (sym (ap (λ o. for_some o act m) (none_that (is_copy Read n) l.here.copies none))) l
      | inr copy ↦ subst IsLone (sym (ap (λ o. for_some o act m) (ap (first_that (is_copy Read n)) copy.is ∙ here_that (is_copy Read n) copy.done copy.rest copy.here copy.before copy.pass))) (write_lone copy.here)
    ]

  copy_lone : IsLone (stepped (CopyWrite n) m)
  copy_lone = elim (cases_Bool (has_read n l.here)) [
    | inl pass ↦ subst IsLone
        (sym (ap (λ o. for_some o (λ h. for_some (first_that (is_copy Read n) h.copies) (λ p. write_copy (has_read n) (is_copy Read n) h p m) m) m) (ap (first_that (has_read n)) l.is ∙ here_that (has_read n) l.done l.rest l.here before pass))) (found_lone pass)
    | inr fail ↦ subst IsLone (sym (write_nowhere n m (subst (Each (λ h. has_read n h ≡ false)) (sym l.is) (each_join (λ h. has_read n h ≡ false) l.done l.rest l.here before fail later)))) l
  ]

-- after the read of a chunk: all snapshots are idle, or all but one; and of the others none has a copy that was read
abbrev IsBegun : ℕ → Moving → Type 0
IsBegun n m =
    (Each IsIdle m.snaps × Each (λ h. has_read n h ≡ false) m.snaps) ⊎ ((l : IsLone m) × Each (λ h. has_read n h ≡ false) l.done × Each (λ h. has_read n h ≡ false) l.rest)

module _ (n : ℕ) (m : Moving) (c : Chosen m) where
  idle : Each IsIdle m.snaps
  idle = all_idle m.snaps (fails_by can_mark number_of m.snaps c.marks) (fails_by can_flush_store number_of m.snaps c.flushes) (fails_by can_commit number_of m.snaps c.commits)

  unread_all : Each (λ h. has_read n h ≡ false) m.snaps
  unread_all = unread n m.snaps (all_unread n m c)

  begun_same : IsBegun n m
  begun_same = inl (idle, unread_all)

  abbrev waits : SnapHeld → Bool
  waits h = list_any (is_copy Waiting n) h.copies

  module _ (split : IsSplit (λ h. list_any (is_copy Waiting n) h.copies) m.snaps) (copy : IsSplit (is_copy Waiting n) split.here.copies) (bytes : List ℕ) (w : Moving) (same : w.requests ≡ m.requests) (alike : w.snaps ≡ m.snaps) where
    idle_split : Each IsIdle (split.done ++ split.here ∷ split.rest)
    idle_split = subst (Each IsIdle) split.is idle

    unread_split : Each (λ h. has_read n h ≡ false) (split.done ++ split.here ∷ split.rest)
    unread_split = subst (Each (λ h. has_read n h ≡ false)) split.is unread_all

    own_idle : IsIdle split.here
    own_idle = each_here IsIdle split.done split.rest split.here idle_split

    own_parts : ((split.here.untried && split.here.marked) ≡ false) × (list_any is_unsafe split.here.marks ≡ false)
    own_parts = no_flush (split.here.untried && split.here.marked) (is_front_unflushed split.here.copies) (is_front_ready split.here.copies && (waits_for_area split.here && not (needs_area split.here))) (list_any is_unsafe split.here.marks) own_idle.flush

    read_begun : IsBegun n (put waits (now n m c split copy bytes w same alike) w)
    read_begun = inr (
      record {
        done = split.done;
        here = now n m c split copy bytes w same alike;
        rest = split.rest;
        is = snaps_now n m c split copy bytes w same alike;
        before = each_done IsIdle split.done split.rest split.here idle_split;
        later = each_rest IsIdle split.done split.rest split.here idle_split;
        state = inr (record { tried = tried_by split.here.untried split.here.marked own_idle.mark own_parts.0; safe = own_parts.1; held = publish_now n m c split copy bytes w same alike });
      },
      each_done (λ h. has_read n h ≡ false) split.done split.rest split.here unread_split,
      each_rest (λ h. has_read n h ≡ false) split.done split.rest split.here unread_split,
    )

    spoilt_begun : IsBegun n (spoil waits split.here w)
    spoilt_begun = inr (
      record {
        done = split.done;
        here = spoiled split.here;
        rest = split.rest;
        is = ap (with_first waits (spoiled split.here)) (alike ∙ split.is) ∙ here_with waits (spoiled split.here) split.done split.rest split.here split.before split.pass;
        before = each_done IsIdle split.done split.rest split.here idle_split;
        later = each_rest IsIdle split.done split.rest split.here idle_split;
        state = inl (refl, spoiled_own split.here);
      },
      each_done (λ h. has_read n h ≡ false) split.done split.rest split.here unread_split,
      each_rest (λ h. has_read n h ≡ false) split.done split.rest split.here unread_split,
    )

  found_begun : (split : IsSplit (λ h. list_any (is_copy Waiting n) h.copies) m.snaps) → IsBegun n (for_some (first_that (is_copy Waiting n) split.here.copies) (λ p. read_copy waits (is_copy Waiting n) split.here p m) m)
  found_begun split =
      let act : Copying → Moving = λ p. read_copy waits (is_copy Waiting n) split.here p m in
      elim (split_at (is_copy Waiting n) split.here.copies) [
        | inl none ↦ subst (IsBegun n) (sym (ap (λ o. for_some o act m) (none_that (is_copy Waiting n) split.here.copies none))) begun_same
        | inr copy ↦ subst (IsBegun n) (sym (ap (λ o. for_some o act m) (ap (first_that (is_copy Waiting n)) copy.is ∙ here_that (is_copy Waiting n) copy.done copy.rest copy.here copy.before copy.pass)))
            (let first : ℕ = split.here.snap.chunk * copy.here.pair.old in
            let count : ℕ = count_of split.here.snap.chunk (sectors_of m.origin) copy.here.pair.old in
            let w : Moving = record m { origin = met m.origin (Reads first count) } in
            elim (cases_Bool (answers m.origin (Reads first count))) [
              | inl ok ↦ subst (IsBegun n) (sym (cond-true _ _ _ ok)) (read_begun split copy (sectors_at m.origin.bytes first count) w refl refl)
              | inr failed ↦ subst (IsBegun n) (sym (cond-false _ _ _ failed)) (spoilt_begun split copy [] w refl refl)
            ])
      ]

  begun : IsBegun n (stepped (CopyRead n) m)
  begun =
      let act : SnapHeld → Moving = λ h. for_some (first_that (is_copy Waiting n) h.copies) (λ p. read_copy waits (is_copy Waiting n) h p m) m in
      elim (split_at waits m.snaps) [
        | inl none ↦ subst (IsBegun n) (sym (ap (λ o. for_some o act m) (none_that waits m.snaps none))) begun_same
        | inr split ↦ subst (IsBegun n) (sym (ap (λ o. for_some o act m) (ap (first_that waits) split.is ∙ here_that waits split.done split.rest split.here split.before split.pass))) (found_begun split)
      ]

begun_follows : (n s : ℕ) (m : Moving) → IsBegun n m → AllFollow (FlushStore s ∷ WriteArea s ∷ FlushStore s ∷ []) (stepped (CopyWrite n) m)
begun_follows n s m (inl (all, none)) = subst (Three s) (sym (write_nowhere n m none)) (idle_follows s m all)
begun_follows n s m (inr (l, before, later)) = lone_follows s (stepped (CopyWrite n) m) (copy_lone n m l before later)

-- the events that follow one that was due first
pub follows : (event : Event) (s : ℕ) (m : Moving) → due m ≡ Some event → AllFollow (following event s) (stepped event m)
follows (CopyRead n) s m is = (write_after_read n m is, refl, begun_follows n s (stepped (CopyRead n) m) (begun n m (read_chosen n _ _ _ _ _ _ _ _ is)))
follows (WriteArea t) s m is = (flush_after_area t m is, refl, tt)
follows (Issue n) s m is = tt
follows (CopyWrite n) s m is = tt
follows (ZeroNext n) s m is = tt
follows (Publish n) s m is = tt
follows (WriteInvalid n) s m is = tt
follows (FlushStore n) s m is = tt
follows MergeGroup s m is = tt
follows MergeAreaRead s m is = tt
follows MergeRead s m is = tt
follows MergeWrite s m is = tt
follows MergeFlush s m is = tt
follows MergeCommit s m is = tt
follows MergeRelease s m is = tt
