-- One snapshot's copy from any stage to its end: it is published, or the snapshot is spoiled and its mark is tried. What is
-- left is what the big step says.
use Rattle.std.proofs.Common.{◌≡◌, inl, inr, ℕ, ◌+◌, ◌*◌, ◌/◌, ◌%◌, ◌<◌, Bool, true, false, List, [], ◌∷◌, ◌++◌, length, map, Option, Some, arith, refl, ap, ◌∙◌, sym, subst}
use Rattle.std.specs.Prelude.{◌==◌, ◌&&◌, not, if◌then◌else◌}
use Rattle.std.specs.List.{list_any}
use Rattle.std.proofs.lemmas.Bool.{cases_Bool, cond-true, cond-false, true≢false}
use Rattle.sector.specs.Bytes.{sectors_at, with_sectors}
use Rattle.sector.specs.declared.pair.Pair.{Pair}
use Rattle.device.specs.declared.operation.Operation.{Operation}
use Rattle.device.specs.declared.operation.Operation.TheVariants.{Reads, Writes, Flushes}
use Rattle.plain_machine.specs.declared.request.Reply.{Reply}
use Rattle.cow_format.specs.Places.{area_place}
use Rattle.cow_format.specs.Pairs.{pairs_of}
use Rattle.in_flight.specs.Copies.{count_of}
use Rattle.in_flight.specs.declared.copies.Stage.TheVariants.{Waiting, Read, Written, Flushed}
use Rattle.in_flight.specs.Due.{least}
use Rattle.whole_commands.specs.Saves.{copied, paired, zeroed}
use Rattle.whole_commands.specs.Devices.{Device, sectors_of, answers, met, written_by}
use Rattle.whole_commands.specs.Snaps.{Snap}
use Rattle.whole_commands.specs.Saving.{lacks_area, spoilt, flush_then, write_pair, commit, copy}
use Rattle.event_machine.specs.Held.{SnapHeld, Going, MergeHeld, Moving, with_store, spoiled, flushed_held}
use Rattle.event_machine.specs.Due.{fills_area, can_flush_store, copy_at, is_reading, least_in}
use Rattle.event_machine.specs.Again.{again, placed, refused}
use Rattle.whole_commands.proofs.Each.{Each, each_weaker}
use Rattle.whole_command_laws.proofs.Goes.{no_start, Goes, goes_on}
use Rattle.whole_command_laws.proofs.Primed.{tried_of}
use Rattle.event_machine.proofs.Slots.{one_fills}
use Rattle.event_machine.proofs.Around.{at_with, IsIdle, IsLater, IsBefore}
use Rattle.whole_command_laws.proofs.Stages.{holding, copying, marks_here, flushes_done, flushes_failed, reads_done, reads_failed, writes_done, writes_failed, zeros_lacking, zeros_done, zeros_failed, area_done, area_failed, publishes}

-- the requests in flight once a snapshot's copy came to its end
abbrev pub requests_after : Option MergeHeld → List SnapHeld → SnapHeld → List Going → List Going
requests_after g snaps h rs = map (again g snaps) (map (if h.snap.live then placed h else refused h.snap.number) rs)

-- no request reads a chunk from the origin disk for a snapshot
abbrev pub IsUnread : List Going → Type 0
IsUnread rs = (h : SnapHeld) (c : ℕ) → list_any (is_reading h c) rs ≡ false

-- what a publication starts, in a snapshot that is live
abbrev pub started_if : (Moving → Moving) → Bool → Moving → Moving
started_if starts live v = if live then starts v else v

pub unstarted : (live : Bool) (v : Moving) → started_if no_start live v ≡ v
unstarted true v = refl
unstarted false v = refl

module _ (starts : Moving → Moving) (g : Option MergeHeld) (done rest : List SnapHeld) (rs : List Going) (a : Option Reply) (k : ℕ) where
  -- A volume goes on to one where that snapshot is idle, and is this one, and then to what its publication starts. While it is
  -- live it has these pairs and this next place, the area after the current one is not zeroed, and no mark was written.
  pub record Ends (origin : Device) (v : Moving) (ps : List Pair) (nx : ℕ) (target : Snap) : Type 0 where
    pub held : SnapHeld
    pub snap : held.snap ≡ target
    pub idle : IsIdle held
    pub goes : Goes starts v (started_if starts held.snap.live (at_with g origin (done ++ held ∷ rest) (requests_after g (done ++ held ∷ rest) held rs) a k))
    pub pairs : held.snap.live ≡ true → held.pairs ≡ ps
    pub next : held.snap.live ≡ true → held.next ≡ nx
    pub zeroed : held.snap.live ≡ true → held.zeroed ≡ false
    pub firm : held.snap.live ≡ true → held.firm ≡ false
    pub unmarked : held.snap.live ≡ true → held.marked ≡ false

  pub ends_after : (origin : Device) (u v : Moving) (ps : List Pair) (nx : ℕ) (t : Snap) → Goes starts u v → Ends origin v ps nx t → Ends origin u ps nx t
  ends_after origin u v ps nx t goes e = record { held = e.held; snap = e.snap; idle = e.idle; goes = goes_on _ _ _ goes e.goes; pairs = e.pairs; next = e.next; zeroed = e.zeroed; firm = e.firm; unmarked = e.unmarked }

  pub ends_as : (origin : Device) (v : Moving) (ps : List Pair) (nx : ℕ) (t u : Snap) → t ≡ u → Ends origin v ps nx t → Ends origin v ps nx u
  ends_as origin v ps nx t u same e = record { held = e.held; snap = e.snap ∙ same; idle = e.idle; goes = e.goes; pairs = e.pairs; next = e.next; zeroed = e.zeroed; firm = e.firm; unmarked = e.unmarked }

  -- a spoiled snapshot
  pub ends_spoiled : (origin : Device) (h : SnapHeld) (ps : List Pair) (nx : ℕ) → h.marked ≡ false → Each IsLater done → Each IsLater rest → Ends origin (at_with g origin (done ++ spoiled h ∷ rest) (map (refused h.snap.number) rs) a k) ps nx (spoilt h.snap)
  ends_spoiled origin h ps nx unmarked before later = record {
    held = tried_of h;
    snap = refl;
    idle = record { tried = refl; copies = refl; marks = refl };
    goes = marks_here g origin done rest (map (refused h.snap.number) rs) a k h unmarked before later;
    pairs = λ live. absurd (true≢false (sym live));
    next = λ live. absurd (true≢false (sym live));
    zeroed = λ live. absurd (true≢false (sym live));
    firm = λ live. absurd (true≢false (sym live));
    unmarked = λ live. absurd (true≢false (sym live));
  }

  -- a snapshot that waits for a flush of its store
  ends_flush : (origin : Device) (h : SnapHeld) (ps : List Pair) (nx : ℕ) (next : Snap → Snap) → h.untried ≡ false → h.marked ≡ false → can_flush_store h ≡ true → Each IsLater done → Each IsLater rest →
      Ends origin (at_with g origin (done ++ flushed_held (with_store h (met h.snap.store Flushes)) ∷ rest) rs a k) ps nx (next (record h.snap { store = met h.snap.store Flushes })) → Ends origin (at_with g origin (done ++ h ∷ rest) rs a k) ps nx (flush_then next h.snap)
  ends_flush origin h ps nx next tried unmarked waits before later e =
      let now : Snap = record h.snap { store = met h.snap.store Flushes } in
      let v : Moving = at_with g origin (done ++ h ∷ rest) rs a k in
      elim (cases_Bool (answers h.snap.store Flushes)) [
        | inl ok ↦ ends_as origin v ps nx (next now) (flush_then next h.snap) (sym (cond-true _ _ _ ok)) (ends_after origin v _ ps nx (next now) (flushes_done g origin done rest rs a k h before later tried unmarked waits ok) e)
        | inr failed ↦ ends_as origin v ps nx (spoilt now) (flush_then next h.snap) (sym (cond-false _ _ _ failed))
            (ends_after origin v _ ps nx (spoilt now) (flushes_failed g origin done rest rs a k h before later tried unmarked waits failed) (ends_spoiled origin (with_store h (met h.snap.store Flushes)) ps nx unmarked before later))
      ]

  module _ (n : ℕ) (q : Pair) (ps : List Pair) (nx : ℕ) (before : Each (IsBefore n) done) (later : Each IsLater rest) (unread : IsUnread rs) where
    befores : Each IsLater done
    befores = each_weaker (IsBefore n) IsLater done (λ d i. i.later) before

    -- a committed copy that was flushed
    ends_published : (origin : Device) (s : Snap) (z f : Bool) → s.live ≡ true → z ≡ false → f ≡ false → Ends origin (at_with g origin (done ++ holding s (ps ++ q ∷ []) nx z f [] ((record { number = n; chunk = q.old; safe = true }) ∷ []) ∷ rest) rs a k) (ps ++ q ∷ []) nx s
    ends_published origin s z f live unzeroed loose =
        let now : SnapHeld = holding s (ps ++ q ∷ []) nx z f [] [] in
        let same : map (again g (done ++ now ∷ rest)) (map (placed now) rs) ≡ requests_after g (done ++ now ∷ rest) now rs = ap (λ f. map (again g (done ++ now ∷ rest)) (map f rs)) (sym (cond-true _ _ _ live)) in
        let ended : starts (at_with g origin (done ++ now ∷ rest) (map (again g (done ++ now ∷ rest)) (map (placed now) rs)) a k) ≡ starts (at_with g origin (done ++ now ∷ rest) (requests_after g (done ++ now ∷ rest) now rs) a k) = ap (λ x. starts (at_with g origin (done ++ now ∷ rest) x a k)) same in
        record {
          held = now;
          snap = refl;
          idle = record { tried = refl; copies = refl; marks = refl };
          goes = subst (Goes starts (at_with g origin (done ++ holding s (ps ++ q ∷ []) nx z f [] ((record { number = n; chunk = q.old; safe = true }) ∷ []) ∷ rest) rs a k)) (ended ∙ sym (cond-true _ _ _ live))
              (publishes g done rest a k s (ps ++ q ∷ []) nx z f n q before later origin rs unread);
          pairs = λ on. refl;
          next = λ on. refl;
          zeroed = λ on. unzeroed;
          firm = λ on. loose;
          unmarked = λ on. refl;
        }

    -- a committed copy
    ends_committed : (origin : Device) (s : Snap) (z f : Bool) → s.live ≡ true → z ≡ false → Ends origin (at_with g origin (done ++ holding s (ps ++ q ∷ []) nx z f [] ((record { number = n; chunk = q.old; safe = false }) ∷ []) ∷ rest) rs a k) (ps ++ q ∷ []) nx (flush_then (λ t. t) s)
    ends_committed origin s z f live unzeroed =
        ends_flush origin (holding s (ps ++ q ∷ []) nx z f [] ((record { number = n; chunk = q.old; safe = false }) ∷ [])) (ps ++ q ∷ []) nx (λ t. t) refl refl refl befores later
        (ends_published origin (record s { store = met s.store Flushes }) z z live unzeroed unzeroed)

    -- a copy that is flushed, where its area can be written
    ends_area : (origin : Device) (s : Snap) (z f : Bool) (bytes : List ℕ) → 0 < s.chunk → s.live ≡ true → ((((length ps + 1) % (32 * s.chunk)) == 0) && not f) ≡ false → (z && not (((length ps + 1) % (32 * s.chunk)) == 0)) ≡ false →
        Ends origin (at_with g origin (done ++ holding s ps nx z f (copying n q Flushed bytes ∷ []) [] ∷ rest) rs a k) (ps ++ q ∷ []) nx (write_pair (length ps) q s)
    ends_area origin s z f bytes some live ready unzeroed =
        let op : Operation = Writes (s.chunk * area_place s.chunk (length ps / (32 * s.chunk))) s.chunk in
        let now : Snap = record s { store = written_by s.store op (paired s.chunk s.store.bytes (length ps) q) } in
        let v : Moving = at_with g origin (done ++ holding s ps nx z f (copying n q Flushed bytes ∷ []) [] ∷ rest) rs a k in
        let partly : Bool = not (((length ps + 1) % (32 * s.chunk)) == 0) in
        elim (cases_Bool (answers s.store op)) [
          | inl ok ↦ ends_as origin v (ps ++ q ∷ []) nx (flush_then (λ t. t) now) (write_pair (length ps) q s) (sym (cond-true _ _ _ ok))
              (ends_after origin v _ (ps ++ q ∷ []) nx (flush_then (λ t. t) now) (area_done g done rest a k s ps nx z f n q before later origin rs bytes some ready ok) (ends_committed origin now (z && partly) (f && partly) live unzeroed))
          | inr failed ↦ ends_as origin v (ps ++ q ∷ []) nx (spoilt now) (write_pair (length ps) q s) (sym (cond-false _ _ _ failed))
              (ends_after origin v _ (ps ++ q ∷ []) nx (spoilt now) (area_failed g done rest a k s ps nx z f n q before later origin rs bytes some ready failed) (ends_spoiled origin (with_store (holding s ps nx z f (copying n q Flushed bytes ∷ []) []) now.store) (ps ++ q ∷ []) nx refl befores later))
        ]

    -- a copy that is flushed, and the zeroed area after its own
    ends_zeroed : (origin : Device) (s : Snap) (bytes : List ℕ) → 0 < s.chunk → s.live ≡ true → (((length ps + 1) % (32 * s.chunk)) == 0) ≡ true →
        Ends origin (at_with g origin (done ++ holding s ps nx true false (copying n q Flushed bytes ∷ []) [] ∷ rest) rs a k) (ps ++ q ∷ []) nx (flush_then (write_pair (length ps) q) s)
    ends_zeroed origin s bytes some live fill =
        let h : SnapHeld = holding s ps nx true false (copying n q Flushed bytes ∷ []) [] in
        let fills : fills_area h ≡ true = one_fills (length ps) (32 * s.chunk) (omega (arith, some)) ∙ fill in
        let waits : can_flush_store h ≡ true = rw fills refl in
        ends_flush origin h (ps ++ q ∷ []) nx (write_pair (length ps) q) refl refl waits befores later
        (ends_area origin (record s { store = met s.store Flushes }) true true bytes some live (rw fill refl) (rw fill refl))

    -- a copy that is flushed
    ends_commit : (origin : Device) (s : Snap) (bytes : List ℕ) → 0 < s.chunk → s.live ≡ true → Ends origin (at_with g origin (done ++ holding s ps nx false false (copying n q Flushed bytes ∷ []) [] ∷ rest) rs a k) (ps ++ q ∷ []) nx (commit (length ps) q s)
    ends_commit origin s bytes some live =
        let full : Bool = ((length ps + 1) % (32 * s.chunk)) == 0 in
        let v : Moving = at_with g origin (done ++ holding s ps nx false false (copying n q Flushed bytes ∷ []) [] ∷ rest) rs a k in
        let next : ℕ = (length ps + 1) / (32 * s.chunk) in
        let op : Operation = Writes (s.chunk * area_place s.chunk next) s.chunk in
        let now : Snap = record s { store = written_by s.store op (zeroed s.chunk s.store.bytes next) } in
        elim (cases_Bool full) [
          | inr part ↦ ends_as origin v (ps ++ q ∷ []) nx (write_pair (length ps) q s) (commit (length ps) q s) (sym (cond-false _ _ _ part)) (ends_area origin s false false bytes some live (rw part refl) refl)
          | inl fill ↦ elim (cases_Bool (lacks_area next s)) [
            | inl lacks ↦ ends_as origin v (ps ++ q ∷ []) nx (spoilt s) (commit (length ps) q s) (sym (cond-true _ _ _ fill ∙ cond-true _ _ _ lacks))
                (ends_after origin v _ (ps ++ q ∷ []) nx (spoilt s) (zeros_lacking g done rest a k s ps nx false false n q before later origin rs bytes some fill refl refl lacks) (ends_spoiled origin (holding s ps nx false false (copying n q Flushed bytes ∷ []) []) (ps ++ q ∷ []) nx refl befores later))
            | inr room ↦ elim (cases_Bool (answers s.store op)) [
              | inl ok ↦ ends_as origin v (ps ++ q ∷ []) nx (flush_then (write_pair (length ps) q) now) (commit (length ps) q s) (sym (cond-true _ _ _ fill ∙ cond-false _ _ _ room ∙ cond-true _ _ _ ok))
                  (ends_after origin v _ (ps ++ q ∷ []) nx (flush_then (write_pair (length ps) q) now) (zeros_done g done rest a k s ps nx false false n q before later origin rs bytes some fill refl refl room ok) (ends_zeroed origin now bytes some live fill))
              | inr failed ↦ ends_as origin v (ps ++ q ∷ []) nx (spoilt now) (commit (length ps) q s) (sym (cond-true _ _ _ fill ∙ cond-false _ _ _ room ∙ cond-false _ _ _ failed))
                  (ends_after origin v _ (ps ++ q ∷ []) nx (spoilt now) (zeros_failed g done rest a k s ps nx false false n q before later origin rs bytes some fill refl refl room failed)
                  (ends_spoiled origin (with_store (holding s ps nx false false (copying n q Flushed bytes ∷ []) []) now.store) (ps ++ q ∷ []) nx refl befores later))
            ]
          ]
        ]

    -- a copy that is written
    ends_written : (origin : Device) (s : Snap) (bytes : List ℕ) → 0 < s.chunk → s.live ≡ true → Ends origin (at_with g origin (done ++ holding s ps nx false false (copying n q Written bytes ∷ []) [] ∷ rest) rs a k) (ps ++ q ∷ []) nx (flush_then (commit (length ps) q) s)
    ends_written origin s bytes some live =
        ends_flush origin (holding s ps nx false false (copying n q Written bytes ∷ []) []) (ps ++ q ∷ []) nx (commit (length ps) q) refl refl refl befores later
        (ends_commit origin (record s { store = met s.store Flushes }) bytes some live)

    -- a copy that is read
    ends_write : (origin : Device) (s : Snap) (bytes : List ℕ) → 0 < s.chunk → s.live ≡ true → pairs_of s.chunk s.store.bytes ≡ ps → with_sectors s.store.bytes (s.chunk * q.new) bytes ≡ copied s.chunk origin.bytes s.store.bytes q.old q.new →
        Ends origin (at_with g origin (done ++ holding s ps nx false false (copying n q Read bytes ∷ []) [] ∷ rest) rs a k) (ps ++ q ∷ []) nx (copy origin.bytes q s)
    ends_write origin s bytes some live has same =
        let op : Operation = Writes (s.chunk * q.new) (count_of s.chunk (sectors_of origin) q.old) in
        let v : Moving = at_with g origin (done ++ holding s ps nx false false (copying n q Read bytes ∷ []) [] ∷ rest) rs a k in
        let put : List ℕ → Snap = λ (b : List ℕ). record s { store = written_by s.store op b } in
        let now : Snap = put (with_sectors s.store.bytes (s.chunk * q.new) bytes) in
        let here : now ≡ put (copied s.chunk origin.bytes s.store.bytes q.old q.new) = ap put same in
        elim (cases_Bool (answers s.store op)) [
          | inl ok ↦ ends_as origin v (ps ++ q ∷ []) nx (flush_then (commit (length ps) q) now) (copy origin.bytes q s)
              (ap (flush_then (commit (length ps) q)) here ∙ ap (λ x. flush_then (commit (length x) q) (put (copied s.chunk origin.bytes s.store.bytes q.old q.new))) (sym has) ∙ sym (cond-true _ _ _ ok))
              (ends_after origin v _ (ps ++ q ∷ []) nx (flush_then (commit (length ps) q) now) (writes_done g done rest a k s ps nx false false n q before later origin rs bytes ok) (ends_written origin now bytes some live))
          | inr failed ↦ ends_as origin v (ps ++ q ∷ []) nx (spoilt now) (copy origin.bytes q s) (ap spoilt here ∙ sym (cond-false _ _ _ failed))
              (ends_after origin v _ (ps ++ q ∷ []) nx (spoilt now) (writes_failed g done rest a k s ps nx false false n q before later origin rs bytes failed)
              (ends_spoiled origin (with_store (holding s ps nx false false (copying n q Read bytes ∷ []) []) now.store) (ps ++ q ∷ []) nx refl befores later))
        ]

    -- a copy that waits: it is read from the origin disk
    pub ends_read : (origin : Device) (s : Snap) → 0 < s.chunk → s.live ≡ true → pairs_of s.chunk s.store.bytes ≡ ps → with_sectors s.store.bytes (s.chunk * q.new) (sectors_at origin.bytes (s.chunk * q.old) (count_of s.chunk (sectors_of origin) q.old)) ≡ copied s.chunk origin.bytes s.store.bytes q.old q.new → least (Some n) (least_in (copy_at Waiting) rest) ≡ Some n →
        (let op : Operation = Reads (s.chunk * q.old) (count_of s.chunk (sectors_of origin) q.old) in
        Ends (met origin op) (at_with g origin (done ++ holding s ps nx false false (copying n q Waiting [] ∷ []) [] ∷ rest) rs a k) (ps ++ q ∷ []) nx (if answers origin op then copy origin.bytes q s else spoilt s))
    ends_read origin s some live has same low =
        let op : Operation = Reads (s.chunk * q.old) (count_of s.chunk (sectors_of origin) q.old) in
        let v : Moving = at_with g origin (done ++ holding s ps nx false false (copying n q Waiting [] ∷ []) [] ∷ rest) rs a k in
        let bytes : List ℕ = sectors_at origin.bytes (s.chunk * q.old) (count_of s.chunk (sectors_of origin) q.old) in
        let target : Snap = if answers origin op then copy origin.bytes q s else spoilt s in
        elim (cases_Bool (answers origin op)) [
          | inl ok ↦ ends_as (met origin op) v (ps ++ q ∷ []) nx (copy origin.bytes q s) target (sym (cond-true _ _ _ ok))
              (ends_after (met origin op) v _ (ps ++ q ∷ []) nx (copy origin.bytes q s) (reads_done g done rest a k s ps nx false false n q before later origin rs low ok) (ends_write (met origin op) s bytes some live has same))
          | inr failed ↦ ends_as (met origin op) v (ps ++ q ∷ []) nx (spoilt s) target (sym (cond-false _ _ _ failed))
              (ends_after (met origin op) v _ (ps ++ q ∷ []) nx (spoilt s) (reads_failed g done rest a k s ps nx false false n q before later origin rs low failed) (ends_spoiled (met origin op) (holding s ps nx false false (copying n q Waiting [] ∷ []) []) (ps ++ q ∷ []) nx refl befores later))
        ]
