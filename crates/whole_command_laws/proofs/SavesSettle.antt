-- One chunk of the origin is saved, event by event: after its copies were started in each snapshot that lacks it, the marks
-- of the stores that were full are written, and then each is flushed, and then the copies of one snapshot after the other come
-- to their end. They leave what the big step says, whatever requests are in flight that read nothing from the origin disk for a
-- snapshot.
use Rattle.std.proofs.Common.{◌≡◌, inl, inr, ℕ, ◌+◌, ◌*◌, ◌/◌, ◌<◌, ◌≤◌, Bool, true, false, List, [], ◌∷◌, ◌++◌, length, map, Option, Some, None, arith, refl, ap, ◌∙◌, sym, subst, append_assoc}
use Rattle.std.specs.Prelude.{◌||◌, not, is_some, nat_lt}
use Rattle.std.proofs.lemmas.Bool.{cases_Bool, cond-true, cond-false, true≢false}
use Rattle.sector.specs.declared.pair.Pair.{Pair}
use Rattle.plain_machine.specs.declared.request.Reply.{Reply}
use Rattle.cow_format.specs.NextPlace.{stepped}
use Rattle.cow_format.specs.Picture.{place_of}
use Rattle.in_flight.specs.declared.copies.Stage.TheVariants.{Waiting}
use Rattle.chunk.proofs.PiecePlaces.{piece_low}
use Rattle.whole_commands.specs.Devices.{Device, met}
use Rattle.whole_commands.specs.Snaps.{Snap, Volume}
use Rattle.whole_commands.specs.Saving.{Saving, spoilt, next_place, is_full, has_chunk, save}
use Rattle.whole_commands.specs.Pieces.{save_all}
use Rattle.event_machine.specs.Held.{SnapHeld, Going, MergeHeld, Moving, spoiled}
use Rattle.event_machine.specs.Due.{can_mark, copy_at, least_in}
use Rattle.event_machine.specs.Again.{again, is_saved}
use Rattle.event_machine.specs.Submitting.{needs_none, is_filled, with_copy, started_all, chunk_at}
use Rattle.event_machine.specs.Rest.{IsKept, IsResting}
use Rattle.whole_commands.proofs.Each.{Each, each_weaker, each_more}
use Rattle.whole_command_laws.proofs.Goes.{no_start, Goes, goes_none, goes_on}
use Rattle.event_machine.proofs.Around.{at_with, IsIdle, IsLater, IsBefore, idle_later, idle_before, later_marks}
use Rattle.whole_command_laws.proofs.Stages.{holding, copying, marks_done, marks_failed, marks_flushed}
use Rattle.whole_command_laws.proofs.Ends.{unstarted, Ends, IsUnread, requests_after, ends_read}
use Rattle.whole_commands.proofs.Saves.{saves_nothing, saves_full, saves_copy, chunk_read}
use Rattle.whole_command_laws.proofs.Resting.{rests_live, saved_chunk, saved_snap}
use Rattle.whole_command_laws.proofs.Starts.{needs_same, next_same, copy_bytes, as_holding, saved_already, saved_now}
use Rattle.whole_command_laws.proofs.Primed.{mark_goes, mark_written, mark_missed, marked_of, tried_of, mark_flushed, tried_flushed, tried_missed, marked_all, primed, primed_none, primed_full, primed_copy, resting_idle, tried_later, copy_later, primed_later, marked_unmarkable, marked_all_marks, primed_above, least_low}

pub goes_between : {starts : Moving → Moving} → (u u' v v' : Moving) → u ≡ u' → v' ≡ v → Goes starts u' v' → Goes starts u v
goes_between {starts} u u' v v' a b goes = subst (λ (x : Moving). Goes starts x v) (sym a) (subst (Goes starts u') b goes)

abbrev pub snap_of : SnapHeld → Snap
snap_of h = h.snap

-- The requests in flight, as the snapshots route them: none reads a chunk from the origin disk for a snapshot. They stay while
-- a spoiled snapshot's mark is written, and are what they are routed to again once it is tried, and once a snapshot that had
-- not saved the chunk of this sector came to its end.
pub record AreRouted (g : Option MergeHeld) (first : ℕ) (requests : List SnapHeld → List Going) : Type 0 where
  pub unread : (snaps : List SnapHeld) → IsUnread (requests snaps)
  pub tried : (done rest : List SnapHeld) (h after : SnapHeld) → h.untried ≡ true → map (again g (done ++ after ∷ rest)) (requests (done ++ h ∷ rest)) ≡ requests (done ++ after ∷ rest)
  pub marked : (done rest : List SnapHeld) (h after : SnapHeld) → h.untried ≡ true → after.untried ≡ true → requests (done ++ h ∷ rest) ≡ requests (done ++ after ∷ rest)
  pub saved : (done rest : List SnapHeld) (h after : SnapHeld) → is_saved first h ≡ false → requests_after g (done ++ after ∷ rest) after (requests (done ++ h ∷ rest)) ≡ requests (done ++ after ∷ rest)

or_false : (x y : Bool) → (not x || y) ≡ false → (x ≡ true) × (y ≡ false)
or_false true y e = (refl, e)
or_false false y e = absurd (true≢false e)

module _ (g : Option MergeHeld) (sectors first : ℕ) (requests : List SnapHeld → List Going) (routed : AreRouted g first requests) (a : Option Reply) (k : ℕ) where
  -- the volume with these requests in flight
  abbrev pub with_requests : Device → List SnapHeld → Moving
  with_requests origin snaps = at_with g origin snaps (requests snaps) a k

  -- a spoiled snapshot's mark is written
  marks_one : {starts : Moving → Moving} → (origin : Device) (done rest : List SnapHeld) (h : SnapHeld) → h.marked ≡ false → Each (λ d. can_mark d ≡ false) done → Goes starts (with_requests origin (done ++ spoiled h ∷ rest)) (with_requests origin (done ++ marked_of h ∷ rest))
  marks_one {starts} origin done rest h unmarked before =
      let u : Moving = with_requests origin (done ++ spoiled h ∷ rest) in
      let to : SnapHeld → Moving = λ (w : SnapHeld). with_requests origin (done ++ w ∷ rest) in
      let rs : List Going = requests (done ++ spoiled h ∷ rest) in
      elim (cases_Bool (mark_goes h)) [
        | inl ok ↦ goes_between _ _ _ _ refl
            (ap (λ xs. at_with g origin (done ++ mark_written h ∷ rest) xs a k) (routed.marked done rest (spoiled h) (mark_written h) refl refl) ∙ ap to (sym (cond-true _ _ _ ok)))
            (marks_done g origin done rest rs a k (spoiled h) before refl unmarked ok)
        | inr failed ↦ (let put : Bool → SnapHeld = λ (b : Bool). record (mark_missed h) { marked = b } in
            let same : put h.marked ≡ mark_missed h = ap put unmarked in
            goes_between _ _ _ _ refl
            (ap (λ xs. at_with g origin (done ++ put h.marked ∷ rest) xs a k) (routed.tried done rest (spoiled h) (put h.marked) refl) ∙ ap to (same ∙ sym (cond-false _ _ _ failed)))
            (marks_failed g origin done rest rs a k (spoiled h) before refl unmarked failed))
      ]

  -- and flushed
  flushes_one : {starts : Moving → Moving} → (origin : Device) (done rest : List SnapHeld) (h : SnapHeld) → Each IsLater done → Each (λ d. can_mark d ≡ false) rest → Goes starts (with_requests origin (done ++ marked_of h ∷ rest)) (with_requests origin (done ++ tried_of h ∷ rest))
  flushes_one {starts} origin done rest h before later =
      let at : SnapHeld → Moving = λ (w : SnapHeld). with_requests origin (done ++ w ∷ rest) in
      let rs : List Going = requests (done ++ mark_written h ∷ rest) in
      elim (cases_Bool (mark_goes h)) [
        | inl ok ↦ goes_between _ _ _ _ (ap at (cond-true _ _ _ ok))
            (ap (λ xs. at_with g origin (done ++ mark_flushed (mark_written h) ∷ rest) xs a k) (routed.tried done rest (mark_written h) (mark_flushed (mark_written h)) refl) ∙ ap at (sym (tried_flushed h ok)))
            (marks_flushed g origin done rest rs a k (mark_written h) before later refl refl)
        | inr failed ↦ goes_between _ _ _ _ (ap at (cond-false _ _ _ failed)) (ap at (sym (tried_missed h failed))) (goes_none (at (mark_missed h)))
      ]

  -- one snapshot more that is done with
  pub onward : {starts : Moving → Moving} → (origin origin' : Device) (done xs ys : List SnapHeld) (x : SnapHeld) → Goes starts (with_requests origin ((done ++ x ∷ []) ++ xs)) (with_requests origin' ((done ++ x ∷ []) ++ ys)) → Goes starts (with_requests origin (done ++ x ∷ xs)) (with_requests origin' (done ++ x ∷ ys))
  onward origin origin' done xs ys x goes = goes_between _ _ _ _ (ap (with_requests origin) (sym (append_assoc done (x ∷ []) xs))) (ap (with_requests origin') (append_assoc done (x ∷ []) ys)) goes

  -- the marks of the stores that were full are written
  marks_all : {starts : Moving → Moving} → (at : SnapHeld → ℕ) (origin : Device) (done snaps : List SnapHeld) (m : ℕ) → Each (λ d. can_mark d ≡ false) done → Each (IsResting sectors) snaps → Goes starts (with_requests origin (done ++ started_all at m snaps)) (with_requests origin (done ++ marked_all at m snaps))
  marks_all at origin done [] m before rest = goes_none _
  marks_all at origin done (h ∷ snaps) m before rest = elim (cases_Bool (needs_none (at h) h)) [
    | inl none ↦ goes_between _ _ _ _ (ap (λ xs. with_requests origin (done ++ xs)) (cond-true _ _ _ none)) (ap (λ xs. with_requests origin (done ++ xs)) (sym (cond-true _ _ _ none)))
        (onward origin origin done (started_all at m snaps) (marked_all at m snaps) h
        (marks_all at origin (done ++ h ∷ []) snaps m (each_more (λ (d : SnapHeld). can_mark d ≡ false) done h before (later_marks h (idle_later h (resting_idle sectors h rest.0)))) rest.1))
    | inr some ↦ elim (cases_Bool (is_filled h)) [
      | inl full ↦ (let on : h.snap.live ≡ true = (or_false h.snap.live (has_chunk (at h) h.snap) (sym (needs_same sectors (at h) h rest.0) ∙ some)).0 in
          goes_between _ _ _ _ (ap (λ xs. with_requests origin (done ++ xs)) (cond-false _ _ _ some ∙ cond-true _ _ _ full)) (ap (λ xs. with_requests origin (done ++ xs)) (sym (cond-false _ _ _ some ∙ cond-true _ _ _ full)))
          (goes_on _ _ _ (marks_one origin done (started_all at m snaps) h (rest.0.live on).unmarked before)
          (onward origin origin done (started_all at m snaps) (marked_all at m snaps) (marked_of h)
          (marks_all at origin (done ++ marked_of h ∷ []) snaps m (each_more (λ (d : SnapHeld). can_mark d ≡ false) done (marked_of h) before (marked_unmarkable h)) rest.1))))
      | inr room ↦ (let w : SnapHeld = with_copy (m + 1) (at h) h in
          goes_between _ _ _ _ (ap (λ xs. with_requests origin (done ++ xs)) (cond-false _ _ _ some ∙ cond-false _ _ _ room)) (ap (λ xs. with_requests origin (done ++ xs)) (sym (cond-false _ _ _ some ∙ cond-false _ _ _ room)))
          (onward origin origin done (started_all at (m + 1) snaps) (marked_all at (m + 1) snaps) w
          (marks_all at origin (done ++ w ∷ []) snaps (m + 1) (each_more (λ (d : SnapHeld). can_mark d ≡ false) done w before (later_marks w (copy_later (m + 1) (at h) h (resting_idle sectors h rest.0)))) rest.1)))
    ]
  ]

  -- and then each is flushed
  flushes_all : {starts : Moving → Moving} → (at : SnapHeld → ℕ) (origin : Device) (done snaps : List SnapHeld) (m : ℕ) → Each IsLater done → Each IsIdle snaps → Goes starts (with_requests origin (done ++ marked_all at m snaps)) (with_requests origin (done ++ primed at m snaps))
  flushes_all at origin done [] m before idle = goes_none _
  flushes_all at origin done (h ∷ snaps) m before idle = elim (cases_Bool (needs_none (at h) h)) [
    | inl none ↦ goes_between _ _ _ _ (ap (λ xs. with_requests origin (done ++ xs)) (cond-true _ _ _ none)) (ap (λ xs. with_requests origin (done ++ xs)) (sym (cond-true _ _ _ none)))
        (onward origin origin done (marked_all at m snaps) (primed at m snaps) h
        (flushes_all at origin (done ++ h ∷ []) snaps m (each_more IsLater done h before (idle_later h idle.0)) idle.1))
    | inr some ↦ elim (cases_Bool (is_filled h)) [
      | inl full ↦ goes_between _ _ _ _ (ap (λ xs. with_requests origin (done ++ xs)) (cond-false _ _ _ some ∙ cond-true _ _ _ full)) (ap (λ xs. with_requests origin (done ++ xs)) (sym (primed_full at m h snaps some full)))
          (goes_on _ _ _ (flushes_one origin done (marked_all at m snaps) h before (marked_all_marks at m snaps idle.1))
          (onward origin origin done (marked_all at m snaps) (primed at m snaps) (tried_of h)
          (flushes_all at origin (done ++ tried_of h ∷ []) snaps m (each_more IsLater done (tried_of h) before (tried_later h)) idle.1)))
      | inr room ↦ (let w : SnapHeld = with_copy (m + 1) (at h) h in
          goes_between _ _ _ _ (ap (λ xs. with_requests origin (done ++ xs)) (cond-false _ _ _ some ∙ cond-false _ _ _ room)) (ap (λ xs. with_requests origin (done ++ xs)) (sym (primed_copy at m h snaps some room)))
          (onward origin origin done (marked_all at (m + 1) snaps) (primed at (m + 1) snaps) w
          (flushes_all at origin (done ++ w ∷ []) snaps (m + 1) (each_more IsLater done w before (copy_later (m + 1) (at h) h idle.0)) idle.1)))
    ]
  ]

  -- all marks of the stores that were full are tried
  pub tries_all : {starts : Moving → Moving} → (at : SnapHeld → ℕ) (origin : Device) (snaps : List SnapHeld) (m : ℕ) → Each (IsResting sectors) snaps → Goes starts (with_requests origin (started_all at m snaps)) (with_requests origin (primed at m snaps))
  tries_all at origin snaps m rest =
      goes_on _ _ _ (marks_all at origin [] snaps m tt rest) (flushes_all at origin [] snaps m tt (each_weaker (IsResting sectors) IsIdle snaps (resting_idle sectors) rest))

  -- the snapshots once every copy came to its end: those after the first
  pub record Finals (v : Moving) (origin : Device) (done snaps : List SnapHeld) : Type 0 where
    pub finals : List SnapHeld
    pub goes : Goes no_start v (with_requests (save_all first origin (map snap_of snaps)).origin (done ++ finals))
    pub same : map snap_of finals ≡ (save_all first origin (map snap_of snaps)).snaps
    pub rest : Each (IsResting sectors) finals
    pub saved : Each (λ d. is_saved first d ≡ true) finals

  -- one snapshot, and then those after it
  finals_more : (origin : Device) (done snaps : List SnapHeld) (h y : SnapHeld) (m m' : ℕ) (x : Saving) → save (first / h.snap.chunk) origin h.snap ≡ x → y.snap ≡ x.snap → IsResting sectors y → is_saved first y ≡ true →
      Goes no_start (with_requests origin (done ++ primed (chunk_at first) m (h ∷ snaps))) (with_requests x.origin (done ++ y ∷ primed (chunk_at first) m' snaps)) → Finals (with_requests x.origin ((done ++ y ∷ []) ++ primed (chunk_at first) m' snaps)) x.origin (done ++ y ∷ []) snaps → Finals (with_requests origin (done ++ primed (chunk_at first) m (h ∷ snaps))) origin done (h ∷ snaps)
  finals_more origin done snaps h y m m' x is same rest saved goes more =
      let then_all : Saving → Volume = λ (z : Saving). record { origin = (save_all first z.origin (map snap_of snaps)).origin; snaps = z.snap ∷ (save_all first z.origin (map snap_of snaps)).snaps } in
      let all : save_all first origin (map snap_of (h ∷ snaps)) ≡ then_all x = ap then_all is in
      record {
        finals = y ∷ more.finals;
        goes = goes_on _ _ _ goes (goes_between _ _ _ _ refl (ap (λ (z : Volume). with_requests z.origin (done ++ y ∷ more.finals)) (sym all))
            (onward x.origin (save_all first x.origin (map snap_of snaps)).origin done (primed (chunk_at first) m' snaps) more.finals y more.goes));
        same = ap (λ s. s ∷ map snap_of more.finals) same ∙ ap (λ ss. x.snap ∷ ss) more.same ∙ sym (ap (λ (z : Volume). z.snaps) all);
        rest = (rest, more.rest);
        saved = (saved, more.saved);
      }

  is_none : (o : Option ℕ) → is_some o ≡ false → o ≡ None
  is_none None e = refl
  is_none (Some n) e = absurd (true≢false e)

  -- one snapshot's copy
  record OneCopy (origin : Device) (done snaps : List SnapHeld) (h : SnapHeld) (m : ℕ) : Type 0 where
    pub held : SnapHeld
    pub snap : held.snap ≡ saved_snap sectors (first / h.snap.chunk) origin h held
    pub goes : Goes no_start (with_requests origin (done ++ primed (chunk_at first) m (h ∷ snaps))) (with_requests (met origin (chunk_read (first / h.snap.chunk) origin h.snap)) (done ++ held ∷ primed (chunk_at first) (m + 1) snaps))
    pub rest : IsResting sectors held
    pub saved : is_saved first held ≡ true

  one_copy : (origin : Device) (done snaps : List SnapHeld) (h : SnapHeld) (m : ℕ) → length origin.bytes ≡ 512 * sectors → first < sectors → Each IsIdle done → Each IsIdle snaps → IsResting sectors h → h.snap.live ≡ true → needs_none (first / h.snap.chunk) h ≡ false → has_chunk (first / h.snap.chunk) h.snap ≡ false → is_filled h ≡ false → is_full h.snap ≡ false → OneCopy origin done snaps h m
  one_copy origin done snaps h m whole inside before idle resting on some lacks filled room =
      let c : ℕ = first / h.snap.chunk in
      let s : Snap = h.snap in
      let kept : IsKept sectors h = resting.live on in
      let q : Pair = record { old = c; new = next_place s } in
      let nx : ℕ = stepped s.chunk (next_place s + 1) in
      let rest : List SnapHeld = primed (chunk_at first) (m + 1) snaps in
      let start : SnapHeld = holding s h.pairs nx false false (copying (m + 1) q Waiting [] ∷ []) [] in
      let none : is_some (place_of h.pairs c) ≡ false = ap (λ ps. is_some (place_of ps c)) (sym kept.pairs) ∙ lacks in
      let unsaved : is_saved first start ≡ false = rw (on, none) refl in
      let rs : List Going = requests (done ++ start ∷ rest) in
      let e : Ends no_start g done rest rs a k (met origin (chunk_read c origin s)) (at_with g origin (done ++ start ∷ rest) rs a k) (h.pairs ++ q ∷ []) nx (saved_snap sectors c origin h h) =
      ends_read no_start g done rest rs a k (m + 1) q h.pairs nx (each_weaker IsIdle (IsBefore (m + 1)) done (idle_before (m + 1)) before) (primed_later (chunk_at first) (m + 1) snaps idle) (routed.unread (done ++ start ∷ rest)) origin s kept.order.1.some on kept.pairs (copy_bytes sectors origin s c (next_place s) whole)
      (least_low (m + 1) (least_in (copy_at Waiting) rest) (primed_above (chunk_at first) (m + 1) snaps idle)) in
      let low : s.chunk * c ≤ first = piece_low s.chunk first in
      let chunk : e.held.snap.chunk ≡ s.chunk = ap (λ (t : Snap). t.chunk) e.snap ∙ saved_chunk sectors c origin h h in
      record {
        held = e.held;
        snap = e.snap;
        goes = goes_between _ _ _ _
            (ap (λ xs. with_requests origin (done ++ xs)) (primed_copy (chunk_at first) m h snaps some filled ∙ ap (λ (w : SnapHeld). w ∷ rest) (as_holding sectors c (m + 1) h resting kept)))
            (unstarted e.held.snap.live _ ∙ ap (λ xs. at_with g (met origin (chunk_read c origin s)) (done ++ e.held ∷ rest) xs a k) (routed.saved done rest start e.held unsaved)) e.goes;
        rest = record {
          tried = e.idle.tried;
          copies = e.idle.copies;
          marks = e.idle.marks;
          live = λ live. rests_live sectors c origin h e.held whole kept on (omega arith) lacks room e.snap (e.pairs live) (e.next live) (e.zeroed live) (e.firm live) (e.unmarked live) live;
        };
        saved = saved_now sectors first c e.held h.pairs q (ap (λ x. first / x) (sym chunk)) (is_none (place_of h.pairs c) none) refl e.idle.marks e.pairs;
      }

  -- the copies of one snapshot after the other
  copies_all : (snaps : List SnapHeld) (origin : Device) (done : List SnapHeld) (m : ℕ) → length origin.bytes ≡ 512 * sectors → first < sectors → Each IsIdle done → Each (IsResting sectors) snaps → Finals (with_requests origin (done ++ primed (chunk_at first) m snaps)) origin done snaps
  copies_all [] origin done m whole inside before rest = record { finals = []; goes = goes_none _; same = refl; rest = tt; saved = tt }
  copies_all (h ∷ snaps) origin done m whole inside before rest =
      let c : ℕ = first / h.snap.chunk in
      let s : Snap = h.snap in
      let needs : needs_none c h ≡ (not s.live || has_chunk c s) = needs_same sectors c h rest.0 in
      elim (cases_Bool (needs_none c h)) [
        | inl none ↦ finals_more origin done snaps h h m m (record { origin = origin; snap = s }) (saves_nothing c origin s (sym needs ∙ none)) refl rest.0 (saved_already sectors first h rest.0 none)
            (goes_between _ _ _ _ (ap (λ xs. with_requests origin (done ++ xs)) (primed_none (chunk_at first) m h snaps none)) refl (goes_none (with_requests origin (done ++ h ∷ primed (chunk_at first) m snaps))))
            (copies_all snaps origin (done ++ h ∷ []) m whole inside (each_more IsIdle done h before (resting_idle sectors h rest.0)) rest.1)
        | inr some ↦ (let both = or_false s.live (has_chunk c s) (sym needs ∙ some) in
            let kept = rest.0.live both.0 in
            let full_same : is_filled h ≡ is_full s = ap (λ x. nat_lt (length s.store.bytes) (512 * (s.chunk * (x + 1)))) (next_same sectors h kept) in
            elim (cases_Bool (is_filled h)) [
              | inl full ↦ finals_more origin done snaps h (tried_of h) m m (record { origin = origin; snap = spoilt s }) (saves_full c origin s (sym needs ∙ some) (sym full_same ∙ full)) refl
                  (record { tried = refl; copies = refl; marks = refl; live = λ live. absurd (true≢false (sym live)) }) refl
                  (goes_between _ _ _ _ (ap (λ xs. with_requests origin (done ++ xs)) (primed_full (chunk_at first) m h snaps some full)) refl (goes_none (with_requests origin (done ++ tried_of h ∷ primed (chunk_at first) m snaps))))
                  (copies_all snaps origin (done ++ tried_of h ∷ []) m whole inside (each_more IsIdle done (tried_of h) before (record { tried = refl; copies = refl; marks = refl })) rest.1)
              | inr filled ↦ (let room : is_full s ≡ false = sym full_same ∙ filled in
                  let one : OneCopy origin done snaps h m = one_copy origin done snaps h m whole inside before (each_weaker (IsResting sectors) IsIdle snaps (resting_idle sectors) rest.1) rest.0 both.0 some both.1 filled room in
                  finals_more origin done snaps h one.held m (m + 1) (record { origin = met origin (chunk_read c origin s); snap = saved_snap sectors c origin h h }) (saves_copy c origin s (sym needs ∙ some) room) one.snap one.rest one.saved one.goes
                  (copies_all snaps (met origin (chunk_read c origin s)) (done ++ one.held ∷ []) (m + 1) whole inside (each_more IsIdle done one.held before (resting_idle sectors one.held one.rest)) rest.1))
            ])
      ]

  -- from the start of the copies to the end of them all
  pub saves_settle : (origin : Device) (snaps : List SnapHeld) (m : ℕ) → length origin.bytes ≡ 512 * sectors → first < sectors → Each (IsResting sectors) snaps → Finals (with_requests origin (started_all (chunk_at first) m snaps)) origin [] snaps
  saves_settle origin snaps m whole inside rest =
      let last = copies_all snaps origin [] m whole inside tt rest in
      record {
        finals = last.finals;
        goes = goes_on _ _ _ (tries_all (chunk_at first) origin snaps m rest) last.goes;
        same = last.same;
        rest = last.rest;
        saved = last.saved;
      }

-- no request is in flight
pub none_routed : (g : Option MergeHeld) (first : ℕ) → AreRouted g first (λ snaps. [])
none_routed g first = record { unread = λ snaps h c. refl; tried = λ done rest h after is. refl; marked = λ done rest h after is still. refl; saved = λ done rest h after is. refl }
