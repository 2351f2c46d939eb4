-- What each event asks, of what was found in the volume: once its device did that ahead, what was told of it is told of the event.
use Rattle.std.proofs.Common.{◌≡◌, ℕ, zero, suc, ◌+◌, ◌*◌, ◌<◌, Bool, true, false, List, [], ◌∷◌, Option, Some, None, length, get_or, map, refl, sym, ◌∙◌, ap, subst, arith}
use Rattle.std.specs.Prelude.{◌==◌, ◌&&◌, not}
use Rattle.std.specs.List.{list_any, position}
use Rattle.std.proofs.lemmas.Bool.{eqb-true, false≢true}
use Rattle.std.proofs.lemmas.List.{get_or_default}
use Rattle.sector.specs.declared.pair.Pair.{Pair}
use Rattle.device.specs.CanDoAhead.{CanDoAhead, IsWrite}
use Rattle.device.specs.Layers.{Layer, fate, is_answered}
use Rattle.device.specs.declared.operation.Operation.{Operation}
use Rattle.device.specs.declared.operation.Operation.TheVariants.{Reads, Writes, Flushes}
use Rattle.plain_machine.specs.declared.event.Event.{Event}
use Rattle.plain_machine.specs.declared.event.Event.TheVariants.{CopyWrite, ZeroNext, WriteArea, WriteInvalid, FlushStore, MergeWrite, MergeFlush, MergeCommit}
use Rattle.cow_format.specs.Places.{area_place}
use Rattle.in_flight.specs.declared.copies.ChunkCopy.{ChunkCopy}
use Rattle.in_flight.specs.declared.copies.Stage.{Stage}
use Rattle.in_flight.specs.declared.copies.Stage.TheVariants.{Read}
use Rattle.volume_laws.specs.Books.{SnapBooks}
use Rattle.volume_laws.specs.Due.{books_of as due_books}
use Rattle.volume_laws.specs.MergeDue.{is_writable}
use Rattle.whole_commands.specs.Devices.{answers}
use Rattle.event_machine.specs.Held.{Copying, SnapHeld, MergeHeld, Moving}
use Rattle.event_machine.specs.Due.{can_mark, can_flush_store, can_commit, can_zero}
use Rattle.event_machine.specs.MergeSeen.{held_in, merge_held_of}
use Rattle.event_machine.specs.Seen.{copying_of}
use Rattle.event_machine.specs.Stepping.{first_that, is_copy}
use Rattle.snapshot.specs.Kept.{Kept}
use Rattle.snapshot_list.specs.Finding.{is_trying, is_flushing, is_committing, is_zeroing, is_copy_of, has_copy_at}
use Rattle.merge.specs.Lists.{reading_of}
use Rattle.merge.specs.Merging.{Merging, due_of as merging_due}
use Rattle.volume.specs.Answered.{if_some, store_answers, copy_answers, copied_sectors, chunk_answers, area_of, area_write, answers_event}
use Rattle.volume.specs.Asks.{Asks, Tells}
use Rattle.volume.specs.DoesAhead.{AreAhead, IsMergeAhead}
use Rattle.volume.specs.Lasting.{IsKept}
use Rattle.volume.specs.Moved.{held_of, merge_seen, moving_of}
use Rattle.volume.specs.Volumed.{Volumed, dues_of, is_due_by, is_due_of, merge_due}
use Rattle.volume.specs.Whole.{IsWhole, IsCounted}
use Rattle.volume.specs.declared.ahead.Ask.TheVariants.{Origin, Store, Merging as ToMerging}
use Rattle.volume.proofs.Aheads.{kept_ahead}
use Rattle.volume.proofs.CopyEvents.{copy_is}
use Rattle.volume.proofs.MergeDues.{due_beside}
use Rattle.volume.proofs.MovedDue.{can_flush_same, can_commit_same, can_zero_same}
use Rattle.volume.proofs.MovedFound.{snap_first, copy_first}
use Rattle.volume.proofs.MovedLists.{IsFirst, first_is, first_by_test, first_position, any_seen}
use Rattle.volume.proofs.Shown.{and_left}
use Rattle.volume.proofs.StoreEvents.{flushing_number}

-- what was told of one operation, and of all writes where that is a write
pub tells_of : (size : ℕ) (op : Operation) (l : List Layer) (told : Bool) → (CanDoAhead size op → told ≡ is_answered (fate l op)) → ((f n : ℕ) → IsWrite op → told ≡ is_answered (fate l (Writes f n))) → CanDoAhead size op → Tells op l told
tells_of size (Reads first count) l told one all can = one can
tells_of size (Writes first count) l told one all can = λ f n. all f n tt
tells_of size Flushes l told one all can = one tt

-- an element of a list
pub element : {X : Type 0} (xs : List X) (k : ℕ) → k < length xs → (x : X) × (x ≡ get_or xs k x)
element [] k lt = absurd (omega (arith, lt))
element (x ∷ xs) zero lt = (x, refl)
element (x ∷ xs) (suc k) lt = element xs k (omega (arith, lt))

module _ {B : Type 0} (holds : B → ℕ → List ℕ → Type 0) (contents : B → List ℕ) (layers : B → List Layer) (size faults done : B → ℕ) (law : (d : B) → length (contents d) ≡ 512 * size d) (v : Volumed B) (kept : IsKept holds contents layers size v) where
  -- a snapshot that was found, after something was done ahead
  module _ (n k : ℕ) (s : Kept B) (within : k < length v.snaps) (is : s ≡ get_or v.snaps k s) where
    module _ (w : Volumed B) (a : AreAhead holds contents layers size faults done v w) where
      whole : IsWhole contents layers size w
      whole = (kept_ahead holds contents layers size faults done law v w a kept).whole

      within_new : k < length w.snaps
      within_new = omega (arith, within, a.count)

      abbrev t : Kept B
      t = get_or w.snaps k s

      pub t_is : t ≡ record s { device = t.device }
      t_is = (a.snaps k s within).same ∙ ap (λ (x : Kept B). record x { device = t.device }) (sym is)

      t_at : t ≡ get_or w.snaps k t
      t_at = get_or_default w.snaps k s t within_new

      counted : IsCounted t
      counted = whole.counted k s within_new

      pub found_told : (test : SnapHeld → Bool) (op : SnapHeld → Operation) → ((x : Kept B) → test (held_of contents layers x) ≡ true → x.number ≡ n) → test (held_of contents layers t) ≡ true
          → store_answers test op (moving_of contents layers None w) ≡ is_answered (fate (layers t.device) (op (held_of contents layers t)))
      found_told test op told passes =
          ap (λ (o : Option SnapHeld). if_some o (λ h. answers h.snap.store (op h)))
          (first_is (held_of contents layers) test k t w.snaps (snap_first contents layers size w whole n k t within_new t_at (λ x. test (held_of contents layers x)) told passes))

      pub any_default : (d : Kept B) → get_or w.snaps k d ≡ t
      any_default d = get_or_default w.snaps k d s within_new

      of_number : (test : Kept B → Bool) (x : Kept B) → ((x.number == n) && test x) ≡ true → x.number ≡ n
      of_number test x e = eqb-true x.number n (and_left (x.number == n) (test x) e)

      mark_told : is_trying n s ≡ true → answers_event (WriteInvalid n) (moving_of contents layers None w) ≡ is_answered (fate (layers t.device) (Writes 0 t.state.chunk))
      mark_told found = found_told (λ h. (h.snap.number == n) && can_mark h) (λ h. Writes 0 h.snap.chunk) (λ x. of_number (λ y. can_mark (held_of contents layers y)) x) (ap (is_trying n) t_is ∙ found)

      flush_told : is_flushing n s ≡ true → answers_event (FlushStore n) (moving_of contents layers None w) ≡ is_answered (fate (layers t.device) Flushes)
      flush_told found = found_told (λ h. (h.snap.number == n) && can_flush_store h) (λ h. Flushes) (λ x. of_number (λ y. can_flush_store (held_of contents layers y)) x)
          (ap (λ b. (t.number == n) && b) (can_flush_same contents layers t counted) ∙ ap (is_flushing n) t_is ∙ found)

      area_told : is_committing n s ≡ true → answers_event (WriteArea n) (moving_of contents layers None w) ≡ is_answered (fate (layers t.device) (area_write (area_of (held_of contents layers t)) (held_of contents layers t)))
      area_told found = found_told (λ h. (h.snap.number == n) && can_commit h) (λ h. area_write (area_of h) h) (λ x. of_number (λ y. can_commit (held_of contents layers y)) x)
          (ap (λ b. (t.number == n) && b) (can_commit_same contents layers t counted) ∙ ap (is_committing n) t_is ∙ found)

      zeros_told : is_zeroing n s ≡ true → answers_event (ZeroNext n) (moving_of contents layers None w) ≡ is_answered (fate (layers t.device) (area_write (area_of (held_of contents layers t) + 1) (held_of contents layers t)))
      zeros_told found = found_told (λ h. (h.snap.number == n) && can_zero h) (λ h. area_write (area_of h + 1) h) (λ x. of_number (λ y. can_zero (held_of contents layers y)) x)
          (ap (λ b. (t.number == n) && b) (can_zero_same contents layers t counted) ∙ ap (is_zeroing n) t_is ∙ found)

      -- a copy in it
      module _ (stage : Stage) (j : ℕ) (p : ChunkCopy) (found : position (is_copy_of stage n) s.copies ≡ Some j) (p_is : p ≡ get_or s.copies j p) where
        found_new : position (is_copy_of stage n) t.copies ≡ Some j
        found_new = ap (λ (x : Kept B). position (is_copy_of stage n) x.copies) t_is ∙ found

        p_new : p ≡ get_or t.copies j p
        p_new = p_is ∙ sym (ap (λ (x : Kept B). get_or x.copies j p) t_is)

        seen : IsFirst (λ x. list_any (is_copy stage n) (held_of contents layers x).copies) k t w.snaps
        seen = first_by_test (λ (x : Kept B). has_copy_at stage n x) (λ x. list_any (is_copy stage n) (held_of contents layers x).copies) k t w.snaps (λ x. sym (any_seen copying_of (is_copy stage n) (is_copy_of stage n) x.copies (λ c. refl)))
            (copy_first contents layers size w whole n k t within_new t_at stage j found_new)

        mine : IsFirst (λ c. is_copy stage n (copying_of c)) j p t.copies
        mine = first_by_test (is_copy_of stage n) (λ c. is_copy stage n (copying_of c)) j p t.copies (λ c. refl) (first_position (is_copy_of stage n) j p t.copies p_new found_new)

        pub copy_told : (ok : SnapHeld → Copying → Bool) → copy_answers stage n ok (moving_of contents layers None w) ≡ ok (held_of contents layers t) (copying_of p)
        copy_told ok =
            ap (λ (o : Option SnapHeld). if_some o (λ h. if_some (first_that (is_copy stage n) h.copies) (ok h))) (first_is (held_of contents layers) (λ h. list_any (is_copy stage n) h.copies) k t w.snaps seen)
            ∙ ap (λ (o : Option Copying). if_some o (ok (held_of contents layers t))) (first_is copying_of (is_copy stage n) j p t.copies mine)

      copy_write_told : (j : ℕ) (p : ChunkCopy) → position (is_copy_of Read n) s.copies ≡ Some j → p ≡ get_or s.copies j p
          → answers_event (CopyWrite n) (moving_of contents layers None w) ≡ is_answered (fate (layers t.device) (Writes (t.state.chunk * p.pair.new) (copied_sectors (held_of contents layers t) (copying_of p) (moving_of contents layers None w))))
      copy_write_told j p found p_is = copy_told Read j p found p_is (λ h q. answers h.snap.store (Writes (h.snap.chunk * q.pair.new) (copied_sectors h q (moving_of contents layers None w))))

    -- of a write, whichever was done ahead
    number_at : (d : Kept B) → s.number ≡ n → (get_or v.snaps k d).number ≡ n
    number_at d e = ap (λ (x : Kept B). x.number) (get_or_default v.snaps k d s within ∙ sym is) ∙ e

    of_trying : is_trying n s ≡ true → s.number ≡ n
    of_trying e = eqb-true s.number n (and_left (s.number == n) (s.untried && not s.marked) e)

    pub mark_asks : is_trying n s ≡ true → Asks holds contents layers size faults done (WriteInvalid n) (Store k (Writes 0 1)) v
    mark_asks found = (
      within,
      (λ d. (number_at d (of_trying found), tt)),
      λ w a d told tells.
          subst (λ (x : Kept B). (f c : ℕ) → told ≡ is_answered (fate (layers x.device) (Writes f c))) (any_default w a d) tells _ _ ∙ sym (mark_told w a found),
    )

    pub flush_asks : is_flushing n s ≡ true → Asks holds contents layers size faults done (FlushStore n) (Store k Flushes) v
    flush_asks found = (
      within,
      (λ d. (number_at d (flushing_number n s found), tt)),
      λ w a d told tells.
          subst (λ (x : Kept B). told ≡ is_answered (fate (layers x.device) Flushes)) (any_default w a d) tells ∙ sym (flush_told w a found),
    )

    pub area_asks : is_committing n s ≡ true → Asks holds contents layers size faults done (WriteArea n) (Store k (Writes 0 1)) v
    area_asks found = (
      within,
      (λ d. (tt, tt)),
      λ w a d told tells.
          subst (λ (x : Kept B). (f c : ℕ) → told ≡ is_answered (fate (layers x.device) (Writes f c))) (any_default w a d) tells _ _ ∙ sym (area_told w a found),
    )

    pub zeros_asks : is_zeroing n s ≡ true → Asks holds contents layers size faults done (ZeroNext n) (Store k (Writes 0 1)) v
    zeros_asks found = (
      within,
      (λ d. (tt, tt)),
      λ w a d told tells.
          subst (λ (x : Kept B). (f c : ℕ) → told ≡ is_answered (fate (layers x.device) (Writes f c))) (any_default w a d) tells _ _ ∙ sym (zeros_told w a found),
    )

    pub copy_asks : (j : ℕ) → position (is_copy_of Read n) s.copies ≡ Some j → Asks holds contents layers size faults done (CopyWrite n) (Store k (Writes 0 1)) v
    copy_asks j found = (
      within,
      (λ d. (tt, tt)),
      λ w a d told tells.
          subst (λ (x : Kept B). (f c : ℕ) → told ≡ is_answered (fate (layers x.device) (Writes f c))) (any_default w a d) tells _ _ ∙ sym (copy_write_told w a j (copy_is Read n s.copies j found).0 found (copy_is Read n s.copies j found).1),
    )

  -- a merge after something was done ahead
  pub merge_after : (x y : Option (Merging B)) (m : Merging B) → IsMergeAhead holds contents layers size faults done x y → x ≡ Some m → (g : Merging B) × (y ≡ Some g) × (g ≡ record m { device = g.device })
  merge_after None y m a e = (let no : None ≡ Some m = e in absurd (cc))
  merge_after (Some x) None m a e = absurd a
  merge_after (Some x) (Some y) m a e = (let same : x ≡ m = cc (e) in (y, refl, a.1 ∙ ap (λ (z : Merging B). record z { device = y.device }) same))

  -- no event of a merge is due without one
  module _ (event : Event) (alone : is_due_by (dues_of contents layers v) v.flights None event ≡ false) where
    undue : is_due_of contents layers v event ≡ true → v.merge ≡ None → ⊥
    undue due e = false≢true (sym alone ∙ sym (ap (λ (o : Option (Merging B)). is_due_by (dues_of contents layers v) v.flights (merge_due contents o) event) e) ∙ due)

  pub commit_asks : is_due_of contents layers v MergeCommit ≡ true → Asks holds contents layers size faults done MergeCommit (ToMerging (Writes 0 1)) v
  commit_asks due = by v.merge refl
    where
      by : (o : Option (Merging B)) → v.merge ≡ o → Asks holds contents layers size faults done MergeCommit (ToMerging (Writes 0 1)) v
      by None e = absurd (undue MergeCommit refl due e)
      by (Some m) e = (
        tt,
        (m, e, tt),
        λ w a g there told tells.
            tells (g.state.chunk * area_place g.state.chunk g.state.current) g.state.chunk
            ∙ sym (ap (λ (o : Option (Merging B)). if_some (held_in (merge_seen contents layers o)) (λ h. answers h.merge.store (Writes (h.merge.chunk * area_place h.merge.chunk h.merge.current) h.merge.chunk))) there),
      )

  pub merge_flush_asks : is_due_of contents layers v MergeFlush ≡ true → Asks holds contents layers size faults done MergeFlush (Origin Flushes) v
  merge_flush_asks due = by v.merge refl
    where
      by : (o : Option (Merging B)) → v.merge ≡ o → Asks holds contents layers size faults done MergeFlush (Origin Flushes) v
      by None e = absurd (undue MergeFlush refl due e)
      by (Some m) e = (
        tt,
        tt,
        λ w a told tells.
            tells ∙ sym (ap (λ (o : Option (Merging B)). if_some (held_in (merge_seen contents layers o)) (λ h. is_answered (fate (layers w.origin) Flushes))) (merge_after v.merge w.merge m a.merge e).1),
      )

  -- the chunk in the buffer
  chunk_told : (snaps : List SnapBooks) (chunk sectors : ℕ) (qs : List Pair) (h : MergeHeld) (m : Moving) (told : Bool) → is_writable snaps chunk sectors qs ≡ true → ((f n : ℕ) → told ≡ is_answered (fate m.origin.layers (Writes f n))) → told ≡ chunk_answers qs h m
  chunk_told snaps chunk sectors [] h m told due tells = absurd (false≢true due)
  chunk_told snaps chunk sectors (q ∷ qs) h m told due tells = tells _ _

  pub merge_write_asks : is_due_of contents layers v MergeWrite ≡ true → Asks holds contents layers size faults done MergeWrite (Origin (Writes 0 1)) v
  merge_write_asks due = by v.merge refl
    where
      by : (o : Option (Merging B)) → v.merge ≡ o → Asks holds contents layers size faults done MergeWrite (Origin (Writes 0 1)) v
      by None e = absurd (undue MergeWrite refl due e)
      by (Some m) e = (
        tt,
        tt,
        λ w a told tells.
            (let after = merge_after v.merge w.merge m a.merge e in
            let g : Merging B = after.0 in
            let snaps : List SnapBooks = map due_books (dues_of contents layers v) in
            let writable : is_writable snaps m.state.chunk m.state.origin (reading_of m.group) ≡ true = sym (due_beside contents layers v m e MergeWrite) ∙ due in
            chunk_told snaps m.state.chunk m.state.origin (reading_of g.group) (merge_held_of (record { due = merging_due contents true g; layers = layers g.device; next = g.next })) (moving_of contents layers None w) told (ap (λ (x : Merging B). is_writable snaps m.state.chunk m.state.origin (reading_of x.group)) after.2 ∙ writable) tells
            ∙ sym (ap (λ (o : Option (Merging B)). if_some (held_in (merge_seen contents layers o)) (λ h. chunk_answers h.reading h (moving_of contents layers None w))) after.1)),
      )
