-- What follows the read of a chunk that was due first, where its copy is alone in its snapshot and all requests are the origin's:
-- the copy's mark is taken away last, or there is none.
use Rattle.std.proofs.Common.{◌≡◌, ◌⊎◌, inl, inr, ℕ, zero, suc, ◌+◌, ◌*◌, ◌/◌, Bool, true, false, List, [], ◌∷◌, ◌++◌, length, map, take, drop, Some, None, refl, ap, ◌∙◌, sym, subst, eqb-true}
use Rattle.std.specs.Prelude.{◌==◌, ◌&&◌, ◌||◌, not}
use Rattle.std.specs.List.{list_any}
use Rattle.std.proofs.lemmas.Bool.{cases_Bool, cond-true, cond-false, not-false, or_parts, true≢false}
use Rattle.sector.specs.Bytes.{sectors_at, with_sectors}
use Rattle.device.specs.declared.operation.Operation.{Operation}
use Rattle.device.specs.declared.operation.Operation.TheVariants.{Reads, Writes, Flushes}
use Rattle.plain_machine.specs.declared.event.Event.TheVariants.{CopyRead, CopyWrite, WriteArea, Publish, FlushStore}
use Rattle.plain_machine.specs.declared.request.Dev.{Dev}
use Rattle.plain_machine.specs.declared.request.Dev.TheVariants.{Origin as ToOrigin, Snap as ToSnap}
use Rattle.plain_machine.specs.declared.request.Op.{Op}
use Rattle.plain_machine.specs.declared.request.Op.TheVariants.{Read as ReadOp, Write as WriteOp, Flush as FlushOp}
use Rattle.in_flight.specs.declared.copies.Mark.{Mark}
use Rattle.in_flight.specs.declared.copies.Stage.TheVariants.{Waiting, Read, Written}
use Rattle.in_flight.specs.declared.flights.Route.{Route}
use Rattle.in_flight.specs.Copies.{count_of}
use Rattle.in_flight.specs.Due.{first_by, number_of_mark}
use Rattle.in_flight.specs.Flushed.{safe_mark}
use Rattle.in_flight.specs.Kinds.{kind_at, kind_of}
use Rattle.in_flight.specs.Routes.{reads_origin_of}
use Rattle.cow_format.specs.Places.{area_place}
use Rattle.volume_laws.specs.Due.{is_unsafe}
use Rattle.whole_commands.specs.Devices.{sectors_of, answers, met, written_by}
use Rattle.whole_commands.proofs.Each.{Each, each_weaker}
use Rattle.event_machine.specs.Held.{Copying, SnapHeld, Going, Moving, number_of, with_store, spoiled, flushed_copying, flushed_held}
use Rattle.event_machine.specs.Due.{batch_of, filled_of, can_mark, can_flush_store, can_commit, can_zero, copy_at, is_front_ready, is_front_unflushed, needs_area, waits_for_area, is_reading, publishable_in, is_publishable, least_in, due}
use Rattle.event_machine.specs.Stepping.{for_some, first_that, with_first, without_first, put, spoil, store_write, read_copy, write_copy, pair_of, mark_of, all_paired, commit, flush_store, publish, publishes, is_copy, stepped}
use Rattle.event_machine.specs.Again.{again, refused, rerouted}
use Rattle.event_machine.proofs.Found.{IsSplit, split_at, none_that}
use Rattle.event_machine.proofs.Lists.{here_that, here_with, nowhere_by, only_least}
use Rattle.counted_volume.specs.Following.{all_following}
use Rattle.counted_volume.proofs.Follows.{Follows, Chosen, all_unread, and_no, and_left, and_right, each_done, each_here, each_join, each_rest, fails_by, flush_nowhere, flush_test, has_read, lacks_by, now, read_chosen, snaps_now, unread, write_nowhere}
use Rattle.counted_volume.proofs.Carried.{AllFollow, follows, tried_by}

-- Requests of the origin read no snapshot.
abbrev pub IsOrigins : Going → Type 0
IsOrigins r = r.request.dev ≡ ToOrigin

reads_none : (snap : ℕ) (dev : Dev) (op : Op) (route : Route) → dev ≡ ToOrigin → reads_origin_of snap (kind_at dev op) route ≡ false
reads_none snap ToOrigin ReadOp route e = refl
reads_none snap ToOrigin (WriteOp bytes) route e = refl
reads_none snap ToOrigin FlushOp route e = refl
reads_none snap (ToSnap n) op route e = absurd (cc)

no_readers : (h : SnapHeld) (c : ℕ) (rs : List Going) → Each IsOrigins rs → list_any (is_reading h c) rs ≡ false
no_readers h c [] all = refl
no_readers h c (r ∷ rs) all =
    ap (λ (b : Bool). b || list_any (is_reading h c) rs) (and_no (r.request.range.first / h.snap.chunk == c) (reads_origin_of h.snap.number (kind_of r.request) r.route) (reads_none h.snap.number r.request.dev r.request.op r.route all.0)) ∙ no_readers h c rs all.1

origins_map : (f : Going → Going) → ((r : Going) → (f r).request ≡ r.request) → (rs : List Going) → Each IsOrigins rs → Each IsOrigins (map f rs)
origins_map f same [] all = tt
origins_map f same (r ∷ rs) all = (ap (λ q. q.dev) (same r) ∙ all.0, origins_map f same rs all.1)

-- so what is safe can be published, and where nothing can, and nothing is unsafe, there is no mark
publishable_by : (rs : List Going) (h : SnapHeld) (m : Mark) → Each IsOrigins rs → m.safe ≡ true → is_publishable rs h m ≡ true
publishable_by rs h m all safe = ap (λ (b : Bool). b && not (list_any (is_reading h m.chunk) rs)) safe ∙ ap not (no_readers h m.chunk rs all)

no_marks : (rs : List Going) (h : SnapHeld) (ms : List Mark) → Each IsOrigins rs → first_by (is_publishable rs h) number_of_mark ms ≡ None → list_any is_unsafe ms ≡ false → ms ≡ []
no_marks rs h [] all none safe = refl
no_marks rs h (m ∷ ms) all none safe =
    let own : m.safe ≡ true = not-false m.safe (or_parts (is_unsafe m) (list_any is_unsafe ms) safe).0 in
    let e : Some (number_of_mark m) ≡ None = sym (cond-true _ _ _ (publishable_by rs h m all own)) ∙ none in
    absurd (cc)

-- of a snapshot nothing is to be done but reads of chunks, and it has no marks
pub record IsDull (h : SnapHeld) : Type 0 where
  pub marks : h.marks ≡ []
  pub mark : can_mark h ≡ false
  pub flush : can_flush_store h ≡ false
  pub commit : can_commit h ≡ false
  pub zero : can_zero h ≡ false
  pub read : copy_at Read h ≡ None

-- all snapshots are dull but the one at this place
pub record AreDullBut (k : ℕ) (m : Moving) : Type 0 where
  pub done : List SnapHeld
  pub here : SnapHeld
  pub rest : List SnapHeld
  pub is : m.snaps ≡ done ++ here ∷ rest
  pub place : length done ≡ k
  pub before : Each IsDull done
  pub later : Each IsDull rest

-- the flags of a snapshot whose store need not be flushed
flush_parts : (a b c d : Bool) → (a || b || c || d) ≡ false → (a ≡ false) × (d ≡ false)
flush_parts a b c d e =
    let most = or_parts (a || b || c) d e in
    ((or_parts a b (or_parts (a || b) c most.0).0).0, most.1)

pub flush_none : (untried marked unflushed ready rest unsafe : Bool) → untried ≡ false → unflushed ≡ false → ready ≡ false → unsafe ≡ false → ((untried && marked) || unflushed || (ready && rest) || unsafe) ≡ false
flush_none untried marked unflushed ready rest unsafe a b c d = rw (a, b, c, d) refl

take_none : {X : Type 0} (k : ℕ) → take {A = X} k [] ≡ []
take_none zero = refl
take_none (suc k) = refl

drop_none : {X : Type 0} (k : ℕ) → drop {A = X} k [] ≡ []
drop_none zero = refl
drop_none (suc k) = refl

one_only : {X : Type 0} (done rest : List X) (x : X) → length (done ++ x ∷ rest) ≡ 1 → done ++ x ∷ rest ≡ x ∷ []
one_only [] [] x e = refl
one_only [] (y ∷ rest) x e = absurd (cc)
one_only (d ∷ []) rest x e = absurd (cc)
one_only (d ∷ e ∷ done) rest x same = absurd (cc)

module _ (n : ℕ) where
  -- The snapshot of the copy n: it has that copy alone and no mark; or that copy's mark alone; or neither.
  pub record HasOne (h : SnapHeld) : Type 0 where
    pub copy : Copying
    pub copies : h.copies ≡ copy ∷ []
    pub number : copy.number ≡ n
    pub marks : h.marks ≡ []
    pub tried : h.untried ≡ false

  pub record HasMark (h : SnapHeld) : Type 0 where
    pub mark : Mark
    pub number : mark.number ≡ n
    pub copies : h.copies ≡ []
    pub marks : h.marks ≡ mark ∷ []
    pub tried : h.untried ≡ false

  abbrev pub HasNone : SnapHeld → Type 0
  HasNone h = (h.copies ≡ []) × (h.marks ≡ [])

  abbrev pub Own : SnapHeld → Type 0
  Own h = HasOne h ⊎ HasMark h ⊎ HasNone h

  -- it stands at this place, all others are dull, and all requests the origin's
  pub record IsApart (k : ℕ) (m : Moving) : Type 0 where
    pub done : List SnapHeld
    pub here : SnapHeld
    pub rest : List SnapHeld
    pub is : m.snaps ≡ done ++ here ∷ rest
    pub place : length done ≡ k
    pub before : Each IsDull done
    pub later : Each IsDull rest
    pub own : Own here
    pub requests : Each IsOrigins m.requests

  module _ (k : ℕ) (m : Moving) (a : IsApart k m) where
    -- the test of one event: it fails for the others
    module _ (test : SnapHeld → Bool) (before : Each (λ h. test h ≡ false) a.done) (later : Each (λ h. test h ≡ false) a.rest) where
      nowhere : test a.here ≡ false → Each (λ h. test h ≡ false) m.snaps
      nowhere fail = subst (Each (λ h. test h ≡ false)) (sym a.is) (each_join (λ h. test h ≡ false) a.done a.rest a.here before fail later)

      module _ (pass : test a.here ≡ true) where
        found : first_that test m.snaps ≡ Some a.here
        found = ap (first_that test) a.is ∙ here_that test a.done a.rest a.here before pass

        put_is : (h : SnapHeld) → with_first test h m.snaps ≡ a.done ++ h ∷ a.rest
        put_is h = ap (with_first test h) a.is ∙ here_with test h a.done a.rest a.here before pass

        put_apart : (h : SnapHeld) → Own h → IsApart k (put test h m)
        put_apart h own = record { done = a.done; here = h; rest = a.rest; is = put_is h; place = a.place; before = a.before; later = a.later; own = own; requests = a.requests }

        spoil_apart : (h : SnapHeld) → IsApart k (spoil test h m)
        spoil_apart h = record {
          done = a.done;
          here = spoiled h;
          rest = a.rest;
          is = put_is (spoiled h);
          place = a.place;
          before = a.before;
          later = a.later;
          own = inr (inr (refl, refl));
          requests = origins_map (refused h.snap.number) (λ r. refl) m.requests a.requests;
        }

        reroute_apart : (h : SnapHeld) → Own h → IsApart k (rerouted (put test h m))
        reroute_apart h own = record {
          done = a.done;
          here = h;
          rest = a.rest;
          is = put_is h;
          place = a.place;
          before = a.before;
          later = a.later;
          own = own;
          requests = origins_map (again m.merge (with_first test h m.snaps)) (λ r. refl) m.requests a.requests;
        }

        store_apart : (op : Operation) (bytes : List ℕ) (next : SnapHeld → SnapHeld) → Own (next (with_store a.here (written_by a.here.snap.store op bytes))) → IsApart k (store_write test a.here op bytes next m)
        store_apart op bytes next own =
            let after : SnapHeld = with_store a.here (written_by a.here.snap.store op bytes) in
            elim (cases_Bool (answers a.here.snap.store op)) [
              | inl ok ↦ subst (IsApart k) (sym (cond-true _ _ _ ok)) (put_apart (next after) own)
              | inr failed ↦ subst (IsApart k) (sym (cond-false _ _ _ failed)) (spoil_apart after)
            ]

    -- the copy is written
    module _ (before : Each (λ h. has_read n h ≡ false) a.done) (later : Each (λ h. has_read n h ≡ false) a.rest) where
      abbrev act : Copying → Moving
      act p = write_copy (has_read n) (is_copy Read n) a.here p m

      write_one : has_read n a.here ≡ true → HasOne a.here → IsApart k (for_some (first_that (is_copy Read n) a.here.copies) act m)
      write_one pass one =
          let p : Copying = one.copy in
          let mine : is_copy Read n p ≡ true = sym (or_nothing (is_copy Read n p)) ∙ sym (ap (list_any (is_copy Read n)) one.copies) ∙ pass in
          let first : first_that (is_copy Read n) a.here.copies ≡ Some p = ap (first_that (is_copy Read n)) one.copies ∙ cond-true _ _ _ mine in
          let q : Copying = record p { stage = Written } in
          let left : with_first (is_copy Read n) q a.here.copies ≡ q ∷ [] = ap (with_first (is_copy Read n) q) one.copies ∙ cond-true _ _ _ mine in
          subst (IsApart k) (sym (ap (λ o. for_some o act m) first))
          (store_apart (has_read n) before later pass (Writes (a.here.snap.chunk * p.pair.new) (count_of a.here.snap.chunk (sectors_of m.origin) p.pair.old)) (with_sectors a.here.snap.store.bytes (a.here.snap.chunk * p.pair.new) p.bytes)
          (λ after. record after { copies = with_first (is_copy Read n) q after.copies }) (inl (record { copy = q; copies = left; number = one.number; marks = one.marks; tried = one.tried })))
        where
          or_nothing : (b : Bool) → (b || false) ≡ b
          or_nothing true = refl
          or_nothing false = refl

      write_found : has_read n a.here ≡ true → IsApart k (for_some (first_that (is_copy Read n) a.here.copies) act m)
      write_found pass = elim a.own [
        | inl one ↦ write_one pass one
        | inr other ↦ elim other [
          | inl marked ↦ absurd (true≢false (sym pass ∙ ap (list_any (is_copy Read n)) marked.copies))
          | inr none ↦ absurd (true≢false (sym pass ∙ ap (list_any (is_copy Read n)) none.0))
        ]
      ]

      write_apart : IsApart k (stepped (CopyWrite n) m)
      write_apart = elim (cases_Bool (has_read n a.here)) [
        | inl pass ↦ subst (IsApart k) (sym (ap (λ o. for_some o (λ h. for_some (first_that (is_copy Read n) h.copies) (λ p. write_copy (has_read n) (is_copy Read n) h p m) m) m) (found (has_read n) before later pass))) (write_found pass)
        | inr fail ↦ subst (IsApart k) (sym (write_nowhere n m (nowhere (has_read n) before later fail))) a
      ]

    module _ (s : ℕ) where
      -- its store is flushed, or that of no snapshot
      unflushed : (snaps : List SnapHeld) → Each IsDull snaps → Each (λ h. flush_test s h ≡ false) snaps
      unflushed snaps all = each_weaker IsDull (λ h. flush_test s h ≡ false) snaps (λ h d. and_no (h.snap.number == s) (can_flush_store h) d.flush) all

      after_flush : SnapHeld
      after_flush = with_store a.here (met a.here.snap.store Flushes)

      flushed_own : Own (flushed_held (with_store a.here (met a.here.snap.store Flushes)))
      flushed_own = elim a.own [
        | inl one ↦ inl (record { copy = flushed_copying one.copy; copies = ap (map flushed_copying) one.copies; number = one.number; marks = ap (map safe_mark) one.marks; tried = one.tried })
        | inr other ↦ elim other [
          | inl marked ↦ inr (inl (record { mark = safe_mark marked.mark; number = marked.number; copies = ap (map flushed_copying) marked.copies; marks = ap (map safe_mark) marked.marks; tried = marked.tried }))
          | inr none ↦ inr (inr (ap (map flushed_copying) none.0, ap (map safe_mark) none.1))
        ]
      ]

      tried_own : (snap : SnapHeld) → snap.copies ≡ a.here.copies → snap.marks ≡ a.here.marks → snap.untried ≡ false → Own snap
      tried_own snap copies marks tried = elim a.own [
        | inl one ↦ inl (record { copy = one.copy; copies = copies ∙ one.copies; number = one.number; marks = marks ∙ one.marks; tried = tried })
        | inr other ↦ elim other [
          | inl marked ↦ inr (inl (record { mark = marked.mark; number = marked.number; copies = copies ∙ marked.copies; marks = marks ∙ marked.marks; tried = tried }))
          | inr none ↦ inr (inr (copies ∙ none.0, marks ∙ none.1))
        ]
      ]

      flush_found : (pass : flush_test s a.here ≡ true) → IsApart k (flush_store (flush_test s) a.here m)
      flush_found pass =
          let before = unflushed a.done a.before in
          let later = unflushed a.rest a.later in
          let after : SnapHeld = with_store a.here (met a.here.snap.store Flushes) in
          elim (cases_Bool a.here.marked) [
            | inl marked ↦ subst (IsApart k) (sym (cond-true _ _ _ marked))
                (reroute_apart (flush_test s) before later pass (record after { snap = record after.snap { stale = not (answers a.here.snap.store Flushes) }; untried = false })
                (tried_own (record after { snap = record after.snap { stale = not (answers a.here.snap.store Flushes) }; untried = false }) refl refl refl))
            | inr unmarked ↦ subst (IsApart k) (sym (cond-false _ _ _ unmarked)) (elim (cases_Bool (answers a.here.snap.store Flushes)) [
              | inl ok ↦ subst (IsApart k) (sym (cond-true _ _ _ ok)) (put_apart (flush_test s) before later pass (flushed_held after) flushed_own)
              | inr failed ↦ subst (IsApart k) (sym (cond-false _ _ _ failed)) (spoil_apart (flush_test s) before later pass after)
            ])
          ]

      flush_apart : IsApart k (stepped (FlushStore s) m)
      flush_apart =
          let before = unflushed a.done a.before in
          let later = unflushed a.rest a.later in
          elim (cases_Bool (flush_test s a.here)) [
            | inl pass ↦ subst (IsApart k) (sym (ap (λ o. for_some o (λ h. flush_store (flush_test s) h m) m) (found (flush_test s) before later pass))) (flush_found pass)
            | inr fail ↦ subst (IsApart k) (sym (flush_nowhere s m (nowhere (flush_test s) before later fail))) a
          ]

      -- its area is written, or that of no snapshot
      abbrev area_test : SnapHeld → Bool
      area_test h = (h.snap.number == s) && can_commit h

      uncommitted : (snaps : List SnapHeld) → Each IsDull snaps → Each (λ h. area_test h ≡ false) snaps
      uncommitted snaps all = each_weaker IsDull (λ h. area_test h ≡ false) snaps (λ h d. and_no (h.snap.number == s) (can_commit h) d.commit) all

      uncopied : a.here.copies ≡ [] → can_commit a.here ≡ false
      uncopied none = ap (λ (cs : List Copying). is_front_ready cs && not (waits_for_area a.here)) none

      module _ (pass : area_test a.here ≡ true) where
        area_one : (one : HasOne a.here) (k : ℕ) (h : SnapHeld) → h.copies ≡ drop k a.here.copies → h.marks ≡ a.here.marks ++ map mark_of (take k a.here.copies) → h.untried ≡ a.here.untried → Own h
        area_one one zero h copies marks tried = inl (record {
          copy = one.copy;
          copies = copies ∙ one.copies;
          number = one.number;
          marks = marks ∙ ap (λ (ms : List Mark). ms ++ []) one.marks;
          tried = tried ∙ one.tried;
        })
        area_one one (suc k) h copies marks tried = inr (inl (record {
          mark = mark_of one.copy;
          number = one.number;
          copies = copies ∙ ap (drop (suc k)) one.copies ∙ drop_none k;
          marks = marks ∙ ap (λ (ms : List Mark). ms ++ map mark_of (take (suc k) a.here.copies)) one.marks ∙ ap (λ (cs : List Copying). map mark_of (take (suc k) cs)) one.copies ∙ ap (λ (cs : List Copying). mark_of one.copy ∷ map mark_of cs) (take_none k);
          tried = tried ∙ one.tried;
        }))

        area_found : HasOne a.here → IsApart k (commit (batch_of a.here) area_test a.here m)
        area_found one =
            let h : SnapHeld = a.here in
            let k : ℕ = length h.pairs in
            let now : List Copying = take (batch_of h) h.copies in
            let room : Bool = not (filled_of h + batch_of h == 32 * h.snap.chunk) in
            store_apart area_test (uncommitted a.done a.before) (uncommitted a.rest a.later) pass (Writes (h.snap.chunk * area_place h.snap.chunk (k / (32 * h.snap.chunk))) h.snap.chunk) (all_paired h.snap.chunk h.snap.store.bytes k (map pair_of now))
            (λ after. record after { pairs = after.pairs ++ map pair_of now; copies = drop (batch_of h) after.copies; marks = after.marks ++ map mark_of now; zeroed = after.zeroed && room; firm = after.firm && room })
            (area_one one (batch_of h) _ refl refl refl)

        area_any : IsApart k (commit (batch_of a.here) area_test a.here m)
        area_any = elim a.own [
          | inl one ↦ area_found one
          | inr other ↦ elim other [
            | inl marked ↦ absurd (true≢false (sym (and_right (a.here.snap.number == s) (can_commit a.here) pass) ∙ uncopied marked.copies))
            | inr none ↦ absurd (true≢false (sym (and_right (a.here.snap.number == s) (can_commit a.here) pass) ∙ uncopied none.0))
          ]
        ]

      area_apart : IsApart k (stepped (WriteArea s) m)
      area_apart =
          let before = uncommitted a.done a.before in
          let later = uncommitted a.rest a.later in
          elim (cases_Bool (area_test a.here)) [
            | inl pass ↦ subst (IsApart k) (sym (ap (λ o. for_some o (λ h. commit (batch_of h) area_test h m) m) (found area_test before later pass))) (area_any pass)
            | inr fail ↦ subst (IsApart k) (sym (ap (λ o. for_some o (λ h. commit (batch_of h) area_test h m) m) (none_that area_test m.snaps (nowhere area_test before later fail)))) a
          ]

    -- and its mark is taken away, or none
    abbrev mark_test : SnapHeld → Bool
    mark_test h = publishes m.requests n h

    unmarked : (snaps : List SnapHeld) → Each IsDull snaps → Each (λ h. mark_test h ≡ false) snaps
    unmarked snaps all = each_weaker IsDull (λ h. mark_test h ≡ false) snaps (λ h d. ap (list_any (λ k. (k.number == n) && is_publishable m.requests h k)) d.marks) all

    no_publish : mark_test a.here ≡ false → Follows (Publish n) m
    no_publish fail = inr (ap (λ o. for_some o (λ h. publish mark_test (λ k. k.number == n) h m) m) (none_that mark_test m.snaps (nowhere mark_test (unmarked a.done a.before) (unmarked a.rest a.later) fail)))

    module _ (own : HasMark a.here) where
      unsafe_fails : own.mark.safe ≡ false → mark_test a.here ≡ false
      unsafe_fails unsafe =
          ap (list_any (λ k. (k.number == n) && is_publishable m.requests a.here k)) own.marks
          ∙ ap (λ (b : Bool). b || false) (and_no (own.mark.number == n) (is_publishable m.requests a.here own.mark) (ap (λ (b : Bool). b && not (list_any (is_reading a.here own.mark.chunk) m.requests)) unsafe))

      safe_first : own.mark.safe ≡ true → due m ≡ Some (Publish n)
      safe_first safe =
          let marks : (snaps : List SnapHeld) → Each IsDull snaps → Each (λ h. can_mark h ≡ false) snaps = λ snaps all. each_weaker IsDull (λ h. can_mark h ≡ false) snaps (λ h d. d.mark) all in
          let flushes : (snaps : List SnapHeld) → Each IsDull snaps → Each (λ h. can_flush_store h ≡ false) snaps = λ snaps all. each_weaker IsDull (λ h. can_flush_store h ≡ false) snaps (λ h d. d.flush) all in
          let held : (snaps : List SnapHeld) → Each IsDull snaps → Each (λ h. publishable_in m.requests h ≡ None) snaps = λ snaps all. each_weaker IsDull (λ h. publishable_in m.requests h ≡ None) snaps (λ h d. ap (first_by (is_publishable m.requests h) number_of_mark) d.marks) all in
          let own_mark : can_mark a.here ≡ false = ap (λ (b : Bool). b && not a.here.marked) own.tried in
          let own_flush : can_flush_store a.here ≡ false =
          flush_none a.here.untried a.here.marked (is_front_unflushed a.here.copies) (is_front_ready a.here.copies) (waits_for_area a.here && not (needs_area a.here)) (list_any is_unsafe a.here.marks) own.tried
          (ap is_front_unflushed own.copies) (ap is_front_ready own.copies) (ap (list_any is_unsafe) own.marks ∙ ap (λ (b : Bool). not b || false) safe) in
          let own_held : publishable_in m.requests a.here ≡ Some n =
          ap (first_by (is_publishable m.requests a.here) number_of_mark) own.marks ∙ cond-true _ _ _ (publishable_by m.requests a.here own.mark a.requests safe) ∙ ap Some own.number in
          let no_mark : first_by can_mark number_of m.snaps ≡ None = ap (first_by can_mark number_of) a.is ∙ nowhere_by can_mark number_of a.done a.rest a.here (marks a.done a.before) own_mark (marks a.rest a.later) in
          let no_flush : first_by can_flush_store number_of m.snaps ≡ None = ap (first_by can_flush_store number_of) a.is ∙ nowhere_by can_flush_store number_of a.done a.rest a.here (flushes a.done a.before) own_flush (flushes a.rest a.later) in
          let least : least_in (publishable_in m.requests) m.snaps ≡ Some n = ap (least_in (publishable_in m.requests)) a.is ∙ only_least (publishable_in m.requests) n a.done a.rest a.here (held a.done a.before) own_held (held a.rest a.later) in
          rw (no_mark, no_flush, least) refl

      mark_follows : Follows (Publish n) m
      mark_follows = elim (cases_Bool own.mark.safe) [
        | inl safe ↦ inl (safe_first safe)
        | inr unsafe ↦ no_publish (unsafe_fails unsafe)
      ]

    publish_follows : Follows (Publish n) m
    publish_follows = elim a.own [
      | inl one ↦ no_publish (ap (list_any (λ k. (k.number == n) && is_publishable m.requests a.here k)) one.marks)
      | inr other ↦ elim other [
        | inl marked ↦ mark_follows marked
        | inr none ↦ no_publish (ap (list_any (λ k. (k.number == n) && is_publishable m.requests a.here k)) none.1)
      ]
    ]

    -- after that all others are dull still
    publish_rest : AreDullBut k (stepped (Publish n) m)
    publish_rest =
        let act : SnapHeld → Moving = λ h. publish mark_test (λ x. x.number == n) h m in
        let before = unmarked a.done a.before in
        let later = unmarked a.rest a.later in
        elim (cases_Bool (mark_test a.here)) [
          | inl pass ↦ subst (AreDullBut k) (sym (ap (λ o. for_some o act m) (found mark_test before later pass)))
              (let after : SnapHeld = record a.here { marks = without_first (λ x. x.number == n) a.here.marks } in
              record { done = a.done; here = after; rest = a.rest; is = put_is mark_test before later pass after; place = a.place; before = a.before; later = a.later })
          | inr fail ↦ subst (AreDullBut k) (sym (ap (λ o. for_some o act m) (none_that mark_test m.snaps (nowhere mark_test before later fail))))
              (record { done = a.done; here = a.here; rest = a.rest; is = a.is; place = a.place; before = a.before; later = a.later })
        ]

  -- a snapshot has the copy that was read, and no other
  abbrev pub held_alone : SnapHeld → Bool
  held_alone h = has_read n h && (length h.copies == 1)

  alone_nowhere : (snaps : List SnapHeld) → Each (λ h. has_read n h ≡ false) snaps → list_any held_alone snaps ≡ false
  alone_nowhere [] all = refl
  alone_nowhere (h ∷ snaps) all = ap (λ (b : Bool). (b && (length h.copies == 1)) || list_any held_alone snaps) all.0 ∙ alone_nowhere snaps all.1

  alone_here : (done rest : List SnapHeld) (h : SnapHeld) → Each (λ d. has_read n d ≡ false) done → Each (λ d. has_read n d ≡ false) rest → list_any held_alone (done ++ h ∷ rest) ≡ true → held_alone h ≡ true
  alone_here [] rest h before later e = elim (cases_Bool (held_alone h)) [
    | inl alone ↦ alone
    | inr other ↦ absurd (true≢false (sym e ∙ ap (λ (b : Bool). b || list_any held_alone rest) other ∙ alone_nowhere rest later))
  ]
  alone_here (d ∷ done) rest h before later e = alone_here done rest h before.1 later (sym (ap (λ (b : Bool). (b && (length d.copies == 1)) || list_any held_alone (done ++ h ∷ rest)) before.0) ∙ e)

  -- what is asked of a volume after the read
  pub record IsAloneIn (m : Moving) : Type 0 where
    pub copy : list_any held_alone m.snaps ≡ true
    pub requests : Each IsOrigins m.requests

  -- the four events before are done or change nothing
  abbrev Five : ℕ → Moving → Type 0
  Five s m = Follows (Publish n) (stepped (FlushStore s) (stepped (WriteArea s) (stepped (FlushStore s) (stepped (CopyWrite n) m))))

  -- a snapshot stands apart, and no other has the copy that was read
  abbrev pub Stands : Moving → Type 0
  Stands m = (k : ℕ) × (a : IsApart k m) × Each (λ h. has_read n h ≡ false) a.done × Each (λ h. has_read n h ≡ false) a.rest

  four_apart : (s : ℕ) (m : Moving) (t : Stands m) → IsApart t.0 (stepped (FlushStore s) (stepped (WriteArea s) (stepped (FlushStore s) (stepped (CopyWrite n) m))))
  four_apart s m t =
      let written = write_apart t.0 m t.1 t.2 t.3 in
      let flushed = flush_apart t.0 (stepped (CopyWrite n) m) written s in
      let paired = area_apart t.0 (stepped (FlushStore s) (stepped (CopyWrite n) m)) flushed s in
      flush_apart t.0 (stepped (WriteArea s) (stepped (FlushStore s) (stepped (CopyWrite n) m))) paired s

  five : (s : ℕ) (m : Moving) → Stands m → Five s m
  five s m t = publish_follows t.0 (stepped (FlushStore s) (stepped (WriteArea s) (stepped (FlushStore s) (stepped (CopyWrite n) m)))) (four_apart s m t)

  -- and after all five that snapshot alone may not be dull
  pub five_rest : (s : ℕ) (m : Moving) (t : Stands m) → AreDullBut t.0 (stepped (Publish n) (stepped (FlushStore s) (stepped (WriteArea s) (stepped (FlushStore s) (stepped (CopyWrite n) m)))))
  five_rest s m t = publish_rest t.0 (stepped (FlushStore s) (stepped (WriteArea s) (stepped (FlushStore s) (stepped (CopyWrite n) m)))) (four_apart s m t)

  module _ (m : Moving) (c : Chosen m) where
    unread_all : Each (λ h. has_read n h ≡ false) m.snaps
    unread_all = unread n m.snaps (all_unread n m c)

    -- nothing was read
    same_stands : IsAloneIn m → Stands m
    same_stands alone = absurd (true≢false (sym alone.copy ∙ alone_nowhere m.snaps unread_all))

    dull_by : Each IsOrigins m.requests → Each IsDull m.snaps
    dull_by origins =
        by m.snaps (fails_by can_mark number_of m.snaps c.marks) (fails_by can_flush_store number_of m.snaps c.flushes) (fails_by can_commit number_of m.snaps c.commits) (lacks_by (publishable_in m.requests) m.snaps c.publishes)
        (fails_by can_zero number_of m.snaps c.zeroes) (lacks_by (copy_at Read) m.snaps c.reads)
      where
        by : (snaps : List SnapHeld) → Each (λ h. can_mark h ≡ false) snaps → Each (λ h. can_flush_store h ≡ false) snaps → Each (λ h. can_commit h ≡ false) snaps → Each (λ h. publishable_in m.requests h ≡ None) snaps
            → Each (λ h. can_zero h ≡ false) snaps → Each (λ h. copy_at Read h ≡ None) snaps → Each IsDull snaps
        by [] marks flushes commits held zeroes reads = tt
        by (h ∷ snaps) marks flushes commits held zeroes reads = (
          record {
            marks = no_marks m.requests h h.marks origins held.0 (flush_parts (h.untried && h.marked) (is_front_unflushed h.copies) (is_front_ready h.copies && (waits_for_area h && not (needs_area h))) (list_any is_unsafe h.marks) flushes.0).1;
            mark = marks.0;
            flush = flushes.0;
            commit = commits.0;
            zero = zeroes.0;
            read = reads.0;
          },
          by snaps marks.1 flushes.1 commits.1 held.1 zeroes.1 reads.1,
        )

    abbrev waits : SnapHeld → Bool
    waits h = list_any (is_copy Waiting n) h.copies

    module _ (split : IsSplit (λ h. list_any (is_copy Waiting n) h.copies) m.snaps) (copy : IsSplit (is_copy Waiting n) split.here.copies) (bytes : List ℕ) (w : Moving) (same : w.requests ≡ m.requests) (alike : w.snaps ≡ m.snaps) where
      unread_split : Each (λ h. has_read n h ≡ false) (split.done ++ split.here ∷ split.rest)
      unread_split = subst (Each (λ h. has_read n h ≡ false)) split.is unread_all

      unread_done : Each (λ h. has_read n h ≡ false) split.done
      unread_done = each_done (λ h. has_read n h ≡ false) split.done split.rest split.here unread_split

      unread_rest : Each (λ h. has_read n h ≡ false) split.rest
      unread_rest = each_rest (λ h. has_read n h ≡ false) split.done split.rest split.here unread_split

      abbrev was_read : Copying
      was_read = record copy.here { stage = Read; bytes = bytes }

      abbrev after : SnapHeld
      after = now n m c split copy bytes w same alike

      after_is : (put waits after w).snaps ≡ split.done ++ after ∷ split.rest
      after_is = snaps_now n m c split copy bytes w same alike

      read_stands : IsAloneIn (put waits after w) → Stands (put waits after w)
      read_stands alone =
          let mine : held_alone after ≡ true = alone_here split.done split.rest after unread_done unread_rest (sym (ap (list_any held_alone) after_is) ∙ alone.copy) in
          let count : length after.copies ≡ 1 = eqb-true (length after.copies) 1 (and_right (has_read n after) (length after.copies == 1) mine) in
          let copies : after.copies ≡ copy.done ++ was_read ∷ copy.rest = ap (with_first (is_copy Waiting n) was_read) copy.is ∙ here_with (is_copy Waiting n) was_read copy.done copy.rest copy.here copy.before copy.pass in
          let only : after.copies ≡ was_read ∷ [] = copies ∙ one_only copy.done copy.rest was_read (sym (ap (λ (cs : List Copying). length cs) copies) ∙ count) in
          let origins : Each IsOrigins m.requests = subst (Each IsOrigins) same alone.requests in
          let dull : Each IsDull (split.done ++ split.here ∷ split.rest) = subst (Each IsDull) split.is (dull_by origins) in
          let own : IsDull split.here = each_here IsDull split.done split.rest split.here dull in
          let parts = flush_parts (split.here.untried && split.here.marked) (is_front_unflushed split.here.copies) (is_front_ready split.here.copies && (waits_for_area split.here && not (needs_area split.here))) (list_any is_unsafe split.here.marks) own.flush in
          let a : IsApart (length split.done) (put waits after w) = record {
            done = split.done;
            here = after;
            rest = split.rest;
            is = after_is;
            place = refl;
            before = each_done IsDull split.done split.rest split.here dull;
            later = each_rest IsDull split.done split.rest split.here dull;
            own = inl (record { copy = was_read; copies = only; number = eqb-true copy.here.number n (and_left _ _ copy.pass); marks = own.marks; tried = tried_by split.here.untried split.here.marked own.mark parts.0 });
            requests = alone.requests;
          } in
          (length split.done, a, unread_done, unread_rest)

      spoilt_stands : IsAloneIn (spoil waits split.here w) → Stands (spoil waits split.here w)
      spoilt_stands alone =
          let is : with_first waits (spoiled split.here) w.snaps ≡ split.done ++ spoiled split.here ∷ split.rest = ap (with_first waits (spoiled split.here)) (alike ∙ split.is) ∙ here_with waits (spoiled split.here) split.done split.rest split.here split.before split.pass in
          let none : Each (λ h. has_read n h ≡ false) (split.done ++ spoiled split.here ∷ split.rest) = each_join (λ h. has_read n h ≡ false) split.done split.rest (spoiled split.here) unread_done refl unread_rest in
          absurd (true≢false (sym alone.copy ∙ alone_nowhere (with_first waits (spoiled split.here) w.snaps) (subst (Each (λ h. has_read n h ≡ false)) (sym is) none)))

    abbrev Then : Moving → Type 0
    Then x = IsAloneIn x → Stands x

    found_stands : (split : IsSplit (λ h. list_any (is_copy Waiting n) h.copies) m.snaps) → Then (for_some (first_that (is_copy Waiting n) split.here.copies) (λ p. read_copy waits (is_copy Waiting n) split.here p m) m)
    found_stands split =
        let act : Copying → Moving = λ p. read_copy waits (is_copy Waiting n) split.here p m in
        elim (split_at (is_copy Waiting n) split.here.copies) [
          | inl none ↦ subst Then (sym (ap (λ o. for_some o act m) (none_that (is_copy Waiting n) split.here.copies none))) same_stands
          | inr copy ↦ subst Then (sym (ap (λ o. for_some o act m) (ap (first_that (is_copy Waiting n)) copy.is ∙ here_that (is_copy Waiting n) copy.done copy.rest copy.here copy.before copy.pass)))
              (let first : ℕ = split.here.snap.chunk * copy.here.pair.old in
              let count : ℕ = count_of split.here.snap.chunk (sectors_of m.origin) copy.here.pair.old in
              let w : Moving = record m { origin = met m.origin (Reads first count) } in
              elim (cases_Bool (answers m.origin (Reads first count))) [
                | inl ok ↦ subst Then (sym (cond-true _ _ _ ok)) (read_stands split copy (sectors_at m.origin.bytes first count) w refl refl)
                | inr failed ↦ subst Then (sym (cond-false _ _ _ failed)) (spoilt_stands split copy [] w refl refl)
              ])
        ]

    pub stepped_stands : Then (stepped (CopyRead n) m)
    stepped_stands =
        let act : SnapHeld → Moving = λ h. for_some (first_that (is_copy Waiting n) h.copies) (λ p. read_copy waits (is_copy Waiting n) h p m) m in
        elim (split_at waits m.snaps) [
          | inl none ↦ subst Then (sym (ap (λ o. for_some o act m) (none_that waits m.snaps none))) same_stands
          | inr split ↦ subst Then (sym (ap (λ o. for_some o act m) (ap (first_that waits) split.is ∙ here_that waits split.done split.rest split.here split.before split.pass))) (found_stands split)
        ]

-- all five events, after the read of a copy that is alone then
pub all_follow : (n s : ℕ) (m : Moving) → due m ≡ Some (CopyRead n) → IsAloneIn n (stepped (CopyRead n) m) → AllFollow (all_following n s) (stepped (CopyRead n) m)
all_follow n s m is alone =
    let four = follows (CopyRead n) s m is in
    let last : Follows (Publish n) (stepped (FlushStore s) (stepped (WriteArea s) (stepped (FlushStore s) (stepped (CopyWrite n) (stepped (CopyRead n) m))))) =
    five n s (stepped (CopyRead n) m) (stepped_stands n m (read_chosen n _ _ _ _ _ _ _ _ is) alone) in
    (four.0, refl, (four.2.0, refl, (four.2.2.0, refl, (four.2.2.2.0, refl, (last, refl, tt)))))
