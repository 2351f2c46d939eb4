-- The chunks of a group, event by event: what each touches is saved in the other snapshots, and it is read from the merging store and written to the
-- origin disk, from the last pair backwards. They leave what the big step says, and the first operation that fails ends it.
use Rattle.std.proofs.Common.{◌≡◌, ◌⊎◌, inl, inr, ℕ, ◌+◌, ◌*◌, ◌/◌, ◌<◌, ◌≤◌, true, false, List, [], ◌∷◌, ◌++◌, length, map, Option, Some, arith, refl, ap, ◌∙◌, sym, subst}
use Rattle.std.proofs.lemmas.Bool.{cases_Bool, cond-true, cond-false}
use Rattle.sector.specs.Bytes.{sectors_at, with_sectors}
use Rattle.sector.specs.declared.pair.Pair.{Pair}
use Rattle.chunk.specs.Sizes.{is_chunk}
use Rattle.chunk.proofs.Limits.{is_chunk-some}
use Rattle.device.specs.declared.operation.Operation.{Operation}
use Rattle.device.specs.declared.operation.Operation.TheVariants.{Reads, Writes}
use Rattle.plain_machine.specs.declared.request.Reply.{Reply}
use Rattle.in_flight.specs.Copies.{count_of}
use Rattle.volume_laws.specs.MergeDue.{last_of}
use Rattle.whole_commands.specs.Devices.{answers, met, written_by}
use Rattle.whole_commands.specs.Snaps.{Snap, Volume}
use Rattle.whole_commands.specs.Merges.{Merging, stopped, with_store, with_origin, saved_rounds, saved_over, read_then, write_disk, sectors_in, copy_back}
use Rattle.whole_commands.specs.MergeShown.{IsMerging}
use Rattle.event_machine.specs.Held.{SnapHeld, MergeHeld, Moving}
use Rattle.event_machine.specs.Again.{is_saved_over, is_clear_over}
use Rattle.event_machine.specs.MergeStepping.{start_next}
use Rattle.event_machine.specs.Rest.{IsResting}
use Rattle.event_machine.specs.Submitting.{started_all, started_by}
use Rattle.event_machine.proofs.Around.{at_with, IsIdle}
use Rattle.whole_commands.proofs.Each.{Each, each_weaker, each_from}
use Rattle.whole_commands.proofs.Rounds.{rounds_bytes}
use Rattle.whole_command_laws.proofs.GoesAll.{GoesAll, goes_all, all_on, all_as}
use Rattle.whole_command_laws.proofs.MergeStages.{grouped, ungrouped, last_is, chunk_read, chunk_lost, chunk_written, chunk_unwritten}
use Rattle.whole_command_laws.proofs.Primed.{resting_idle}
use Rattle.whole_command_laws.proofs.SavesSettle.{snap_of}
use Rattle.whole_command_laws.proofs.RoundsSettle.{clear_over, wanted, beside, starts_are, OverEnds, over_settles}

-- the merge over its origin disk, with this group
abbrev pub merging_at : Option Reply → Merging → MergeHeld → List SnapHeld → ℕ → Moving
merging_at a m h snaps k = at_with (Some h) m.volume.origin snaps [] a k

-- a volume goes on to one where the snapshots are at rest, and are those of the big step
pub record Reaches (sectors : ℕ) (v : Moving) (to : List SnapHeld → ℕ → Moving) (m : Merging) : Type 0 where
  pub snaps : List SnapHeld
  pub started : ℕ
  pub goes : GoesAll v (to snaps started)
  pub same : map snap_of snaps ≡ m.volume.snaps
  pub rest : Each (IsResting sectors) snaps

pub reaches_after : (sectors : ℕ) (u v : Moving) (to : List SnapHeld → ℕ → Moving) (m : Merging) → GoesAll u v → Reaches sectors v to m → Reaches sectors u to m
reaches_after sectors u v to m goes r = record { snaps = r.snaps; started = r.started; goes = all_on _ _ _ goes r.goes; same = r.same; rest = r.rest }

module _ (sectors : ℕ) (a : Option Reply) (ps : List Pair) where
  -- a part of the merge: it failed, and no group is left, or a volume with this group is
  abbrev pub Parts : Moving → (Merging → List SnapHeld → ℕ → Moving) → Merging → Type 0
  Parts v to m = ((m.merge.failed ≡ true) × Reaches sectors v (merging_at a m (ungrouped m.merge ps)) m) ⊎ ((m.merge.failed ≡ false) × Reaches sectors v (to m) m)

  pub parts_after : (u v : Moving) (to : Merging → List SnapHeld → ℕ → Moving) (m : Merging) → GoesAll u v → Parts v to m → Parts u to m
  parts_after u v to m goes parts = elim parts [
    | inl lost ↦ inl (lost.0, reaches_after sectors u v (merging_at a m (ungrouped m.merge ps)) m goes lost.1)
    | inr done ↦ inr (done.0, reaches_after sectors u v (to m) m goes done.1)
  ]

  -- these pairs wait, and the copies of the last one's chunk are started
  abbrev pub now_waiting : List Pair → List Pair → Merging → List SnapHeld → ℕ → Moving
  now_waiting xs cs m snaps k = start_next m.merge.chunk (last_of xs) (merging_at a m (grouped m.merge ps xs [] [] cs [] false) snaps k)

  -- all chunks that so many sectors touch are saved in the other snapshots
  pub record AreSaved (first count : ℕ) (v : Moving) (h : MergeHeld) (m : Merging) : Type 0 where
    pub reaches : Reaches sectors v (merging_at a m h) m
    pub saved : Each (λ d. is_saved_over first count d ≡ true) reaches.snaps

  module _ (xs cs : List Pair) (q : Pair) (m : Merging) (is : IsMerging sectors m) (snaps : List SnapHeld) (k : ℕ) (same : map snap_of snaps ≡ m.volume.snaps) (rest : Each (IsResting sectors) snaps) (begins : m.merge.chunk * q.old < sectors) where
    abbrev waits : MergeHeld
    waits = grouped m.merge ps (xs ++ q ∷ []) [] [] cs [] false

    abbrev pub first_sector : ℕ
    first_sector = m.merge.chunk * q.old

    abbrev pub count_here : ℕ
    count_here = count_of m.merge.chunk sectors q.old

    size_of : (n : ℕ) → n ≡ 512 * sectors → n / 512 ≡ sectors
    size_of n e = omega arith

    pub count_same : sectors_in q m ≡ count_of m.merge.chunk sectors q.old
    count_same = ap (λ n. count_of m.merge.chunk n q.old) (size_of (length m.volume.origin.bytes) is.whole)

    some_here : 0 < count_of m.merge.chunk sectors q.old
    some_here = let pos = is.merge.some in omega arith

    inside_here : m.merge.chunk * q.old + count_of m.merge.chunk sectors q.old ≤ sectors
    inside_here = omega arith

    sizes : Each (λ (s : Snap). 0 < s.chunk) (map snap_of snaps)
    sizes = subst (Each (λ (s : Snap). 0 < s.chunk)) (sym same) (each_weaker (λ (s : Snap). is_chunk s.chunk ≡ true) (λ s. 0 < s.chunk) m.volume.snaps (λ s h. is_chunk-some s.chunk h) (each_from (λ (s : Snap). is_chunk s.chunk ≡ true) m.volume.snaps is.chunks))

    -- the volume after the rounds, where so many sectors are copied
    abbrev after : ℕ → List Snap → Volume
    after n ss = saved_rounds first_sector n n (record { origin = m.volume.origin; snaps = ss })

    pub saves_over : AreSaved first_sector count_here (now_waiting (xs ++ q ∷ []) cs m snaps k) waits (saved_over first_sector (sectors_in q m) m)
    saves_over =
        let e : OverEnds waits q (last_is xs q) sectors a some_here inside_here (beside waits q (last_is xs q) sectors a m.volume.origin (started_all (wanted waits q (last_is xs q) sectors a) k snaps) (started_by (wanted waits q (last_is xs q) sectors a) k snaps)) (record { origin = m.volume.origin; snaps = map snap_of snaps }) =
        over_settles waits q (last_is xs q) sectors a some_here inside_here m.volume.origin snaps k is.whole rest sizes in
        let begun : now_waiting (xs ++ q ∷ []) cs m snaps k ≡ beside waits q (last_is xs q) sectors a m.volume.origin (started_all (wanted waits q (last_is xs q) sectors a) k snaps) (started_by (wanted waits q (last_is xs q) sectors a) k snaps) =
        starts_are waits q (last_is xs q) sectors a m.volume.origin snaps k is.whole in
        let done : after count_here (map snap_of snaps) ≡ after (sectors_in q m) m.volume.snaps = ap (after count_here) same ∙ ap (λ n. after n m.volume.snaps) (sym count_same) in
        record {
          reaches = record {
            snaps = e.finals;
            started = e.count;
            goes = all_as _ _ _ (subst (λ (v : Moving). GoesAll v (at_with (Some waits) (after count_here (map snap_of snaps)).origin e.finals [] a e.count)) (sym begun) (goes_all _ _ e.goes))
                (ap (λ (v : Volume). at_with (Some waits) v.origin e.finals [] a e.count) done);
            same = e.same ∙ ap (λ (v : Volume). v.snaps) done;
            rest = e.rest;
          };
          saved = e.saved;
        }

  -- a chunk is read and written back, where so many sectors of it are on the origin
  abbrev back_of : ℕ → Pair → Merging → Merging
  back_of count q m = read_then (Reads (m.merge.chunk * q.new) count) (write_disk (m.merge.chunk * q.old) count (sectors_at m.merge.store.bytes (m.merge.chunk * q.new) count)) m

  module _ (xs cs : List Pair) (q : Pair) (m : Merging) (fine : m.merge.failed ≡ false) (snaps : List SnapHeld) (k : ℕ) (same : map snap_of snaps ≡ m.volume.snaps) (rest : Each (IsResting sectors) snaps) (saved : Each (λ d. is_saved_over (m.merge.chunk * q.old) (sectors_in q m) d ≡ true) snaps) where
    idle : Each IsIdle snaps
    idle = each_weaker (IsResting sectors) IsIdle snaps (resting_idle sectors) rest

    clear : is_clear_over snaps (m.merge.chunk * q.old) (sectors_in q m) ≡ true
    clear = clear_over (m.merge.chunk * q.old) (sectors_in q m) snaps saved idle

    abbrev from : Moving
    from = merging_at a m (grouped m.merge ps (xs ++ q ∷ []) [] [] cs [] false) snaps k

    reaches_to : (to : List SnapHeld → ℕ → Moving) (after : Merging) → after.volume.snaps ≡ m.volume.snaps → GoesAll from (to snaps k) → Reaches sectors from to after
    reaches_to to after still goes = record { snaps = snaps; started = k; goes = goes; same = same ∙ sym still; rest = rest }

    backs : Parts from (now_waiting xs (q ∷ cs)) (back_of (sectors_in q m) q m)
    backs =
        let n : ℕ = sectors_in q m in
        let to : Merging → List SnapHeld → ℕ → Moving = now_waiting xs (q ∷ cs) in
        let bytes : List ℕ = sectors_at m.merge.store.bytes (m.merge.chunk * q.new) n in
        let reads : Operation = Reads (m.merge.chunk * q.new) n in
        let writes : Operation = Writes (m.merge.chunk * q.old) n in
        let read : Merging = with_store m (met m.merge.store reads) in
        let wrote : Merging = with_origin read (written_by m.volume.origin writes (with_sectors m.volume.origin.bytes (m.merge.chunk * q.old) bytes)) in
        elim (cases_Bool (answers m.merge.store reads)) [
          | inr lost ↦ subst (Parts from to) (sym (cond-false _ _ _ lost))
              (inl (refl, reaches_to (merging_at a (stopped read) (ungrouped (stopped read).merge ps)) (stopped read) refl (chunk_lost m.volume.origin snaps a k idle m.merge ps xs cs q lost)))
          | inl ok ↦ elim (cases_Bool (answers m.volume.origin writes)) [
            | inl done ↦ subst (Parts from to) (sym (cond-true _ _ _ ok ∙ cond-true _ _ _ done))
                (inr (fine, reaches_to (to wrote) wrote refl (all_on _ _ _ (chunk_read m.volume.origin snaps a k idle m.merge ps xs cs q ok) (chunk_written m.volume.origin snaps a k idle read.merge ps xs cs q bytes clear done))))
            | inr undone ↦ subst (Parts from to) (sym (cond-true _ _ _ ok ∙ cond-false _ _ _ undone))
                (inl (refl, reaches_to (merging_at a (stopped wrote) (ungrouped (stopped wrote).merge ps)) (stopped wrote) refl (all_on _ _ _ (chunk_read m.volume.origin snaps a k idle m.merge ps xs cs q ok) (chunk_unwritten m.volume.origin snaps a k idle read.merge ps xs cs q bytes clear undone))))
          ]
        ]

  -- one pair
  pub copies_one : (xs cs : List Pair) (q : Pair) (m : Merging) (snaps : List SnapHeld) (k : ℕ) → IsMerging sectors m → m.merge.failed ≡ false → map snap_of snaps ≡ m.volume.snaps → Each (IsResting sectors) snaps → m.merge.chunk * q.old < sectors →
      Parts (now_waiting (xs ++ q ∷ []) cs m snaps k) (now_waiting xs (q ∷ cs)) (copy_back q m)
  copies_one xs cs q m snaps k is fine same rest inside =
      let first : ℕ = m.merge.chunk * q.old in
      let n : ℕ = sectors_in q m in
      let saved : Merging = saved_over first n m in
      let h : MergeHeld = grouped m.merge ps (xs ++ q ∷ []) [] [] cs [] false in
      let s : AreSaved first (count_of m.merge.chunk sectors q.old) (now_waiting (xs ++ q ∷ []) cs m snaps k) h saved = saves_over xs cs q m is snaps k same rest inside in
      let count : sectors_in q saved ≡ n = ap (λ (b : List ℕ). count_of m.merge.chunk (length b / 512) q.old) (rounds_bytes first n n m.volume) in
      let to : Merging → List SnapHeld → ℕ → Moving = now_waiting xs (q ∷ cs) in
      let all_saved : Each (λ d. is_saved_over first (sectors_in q saved) d ≡ true) s.reaches.snaps = subst (λ (x : ℕ). Each (λ d. is_saved_over first x d ≡ true) s.reaches.snaps) (sym (count ∙ count_same xs cs q m is snaps k same rest inside)) s.saved in
      subst (λ (x : ℕ). Parts (now_waiting (xs ++ q ∷ []) cs m snaps k) to (back_of x q saved)) count
      (parts_after _ _ to (back_of (sectors_in q saved) q saved) s.reaches.goes (backs xs cs q saved fine s.reaches.snaps s.reaches.started s.reaches.same s.reaches.rest all_saved))
