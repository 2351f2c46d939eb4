-- A group of a merge, event by event: its pairs' chunks from the last backwards, the flush, the commit and the release leave
-- what the big step says.
use Rattle.std.proofs.Common.{◌≡◌, ◌⊎◌, inl, inr, ℕ, ◌+◌, ◌-◌, ◌*◌, ◌<◌, true, false, List, [], ◌∷◌, ◌++◌, length, map, take, drop, refl, arith, ap, ◌∙◌, sym, subst, Option, length-append, append_assoc}
use Rattle.std.proofs.lemmas.Bool.{cases_Bool, cond-true, cond-false, true≢false}
use Rattle.std.proofs.lemmas.List.{append-nil}
use Rattle.std.proofs.Math.Seq.{take-append_seam}
use Rattle.sector.specs.declared.pair.Pair.{Pair}
use Rattle.device.specs.declared.operation.Operation.{Operation}
use Rattle.device.specs.declared.operation.Operation.TheVariants.{Writes, Flushes}
use Rattle.plain_machine.specs.declared.request.Reply.{Reply}
use Rattle.cow_format.specs.Places.{area_place}
use Rattle.cow_format.specs.Pairs.{pairs_of, IsInside}
use Rattle.whole_commands.specs.Devices.{Device, answers, met, written_by}
use Rattle.whole_commands.specs.Merges.{Merge, Merging, pairs_in, stopped, going, with_store, with_origin, copy_back, copy_all, in_area, group_of, kept_in, flush, without_slots, clear_slots, merge_group}
use Rattle.whole_commands.specs.MergeShown.{IsMerging}
use Rattle.event_machine.specs.Held.{SnapHeld, Moving}
use Rattle.event_machine.specs.Rest.{IsResting}
use Rattle.event_machine.proofs.Around.{IsIdle}
use Rattle.whole_commands.proofs.Each.{Each, each_weaker}
use Rattle.whole_command_laws.proofs.GoesAll.{GoesAll, all_none, all_on}
use Rattle.whole_command_laws.proofs.MergeStages.{grouped, ungrouped, groups, flushed, unflushed, committed, uncommitted}
use Rattle.whole_command_laws.proofs.Primed.{resting_idle}
use Rattle.whole_command_laws.proofs.SavesSettle.{snap_of}
use Rattle.whole_command_laws.proofs.MergeRuns.{run_filled}
use Rattle.whole_command_laws.proofs.MergeCopies.{copies_back, pair_inside, pair_holds}
use Rattle.whole_command_laws.proofs.MergeShows.{CopiesAll, copies_all}
use Rattle.whole_command_laws.proofs.MergeEnds.{group_ends, group_clears}
use Rattle.whole_command_laws.proofs.PairsSettle.{merging_at, Reaches, reaches_after, Parts, parts_after, now_waiting, copies_one}

-- pairs turned round, before others
abbrev pub turned : List Pair → List Pair → List Pair
turned [] onto = onto
turned (q ∷ back) onto = turned back (q ∷ onto)

turned_front : (back xs ys : List Pair) → turned back (xs ++ ys) ≡ turned back xs ++ ys
turned_front [] xs ys = refl
turned_front (q ∷ back) xs ys = turned_front back (q ∷ xs) ys

turned_twice : (xs ys zs : List Pair) → turned (turned xs ys) zs ≡ turned ys (xs ++ zs)
turned_twice [] ys zs = refl
turned_twice (x ∷ xs) ys zs = turned_twice xs (x ∷ ys) zs

pub turned_back : (xs : List Pair) → turned (turned xs []) [] ≡ xs
turned_back xs = turned_twice xs [] [] ∙ append-nil xs

-- the chunks of pairs, the first of them first
abbrev pub copied_back : List Pair → Merging → Merging
copied_back [] m = m
copied_back (q ∷ back) m = copied_back back (going (copy_back q) m)

pub all_back : (back pairs : List Pair) (m : Merging) → copy_all (turned back pairs) m ≡ copied_back back (copy_all pairs m)
all_back [] pairs m = refl
all_back (q ∷ back) pairs m = all_back back (q ∷ pairs) m

lost_back : (back : List Pair) (m : Merging) → m.merge.failed ≡ true → copied_back back m ≡ m
lost_back [] m failed = refl
lost_back (q ∷ back) m failed = ap (copied_back back) (cond-true _ _ _ failed) ∙ lost_back back m failed

module _ (sectors : ℕ) (a : Option Reply) (ps : List Pair) where
  -- all chunks of a group are copied
  abbrev pub now_copied : List Pair → Merging → List SnapHeld → ℕ → Moving
  now_copied group m snaps k = merging_at a m (grouped m.merge ps [] [] [] group [] false) snaps k

  pub copies_settle : (front back cs : List Pair) (m : Merging) (snaps : List SnapHeld) (k : ℕ) → IsMerging sectors m → m.merge.failed ≡ false → pairs_in m.merge ≡ front ++ turned back cs → map snap_of snaps ≡ m.volume.snaps → Each (IsResting sectors) snaps →
      Parts sectors a ps (now_waiting sectors a ps (turned back []) cs m snaps k) (now_copied (turned back cs)) (copied_back back m)
  copies_settle front [] cs m snaps k is fine at same rest = inr (fine, record { snaps = snaps; started = k; goes = all_none _; same = same; rest = rest })
  copies_settle front (q ∷ back) cs m snaps k is fine at same rest =
      let first : List Pair = front ++ turned back [] in
      let here : pairs_in m.merge ≡ first ++ q ∷ cs = at ∙ ap (λ x. front ++ x) (turned_front back [] (q ∷ cs)) ∙ sym (append_assoc front (turned back []) (q ∷ cs)) in
      let next : Merging = copy_back q m in
      let copy = copies_back q m in
      let inside : IsInside m.merge.chunk sectors is.merge.size q = pair_inside sectors first cs q m next is here copy in
      let holds : IsMerging sectors next = pair_holds sectors first cs q m next is here copy in
      let pairs : pairs_in next.merge ≡ front ++ turned back (q ∷ cs) = ap (λ n. pairs_of n next.merge.store.bytes) copy.chunk ∙ ap (pairs_of m.merge.chunk) copy.store ∙ at in
      let to : Merging → List SnapHeld → ℕ → Moving = now_copied (turned back (q ∷ cs)) in
      let begins : now_waiting sectors a ps (turned back [] ++ q ∷ []) cs m snaps k ≡ now_waiting sectors a ps (turned (q ∷ back) []) cs m snaps k = ap (λ xs. now_waiting sectors a ps xs cs m snaps k) (sym (turned_front back [] (q ∷ []))) in
      let steps : copied_back back next ≡ copied_back (q ∷ back) m = ap (copied_back back) (sym (cond-false _ _ _ fine)) in
      subst (λ (v : Moving). Parts sectors a ps v to (copied_back (q ∷ back) m)) begins
      (subst (Parts sectors a ps (now_waiting sectors a ps (turned back [] ++ q ∷ []) cs m snaps k) to) steps
      (elim (copies_one sectors a ps (turned back []) cs q m snaps k is fine same rest inside.old) [
        | inl lost ↦ subst (Parts sectors a ps (now_waiting sectors a ps (turned back [] ++ q ∷ []) cs m snaps k) to) (sym (lost_back back next lost.0)) (inl lost)
        | inr done ↦ parts_after sectors a ps _ _ to (copied_back back next) done.1.goes (copies_settle front back (q ∷ cs) next done.1.snaps done.1.started holds done.0 pairs done.1.same done.1.rest)
      ]))

  -- A group came to its end: an operation failed, and the store has the pairs that it had, or the group's pairs are gone.
  abbrev pub GroupEnds : List Pair → List Pair → Moving → Merging → Type 0
  GroupEnds had less v m =
      ((m.merge.failed ≡ true) × (pairs_in m.merge ≡ had) × Reaches sectors v (merging_at a m (ungrouped m.merge ps)) m) ⊎ ((m.merge.failed ≡ false) × Reaches sectors v (merging_at a m (ungrouped m.merge less)) m)

  module _ (c : Pair) (cs : List Pair) (m : Merging) (fine : m.merge.failed ≡ false) (snaps : List SnapHeld) (k : ℕ) (same : map snap_of snaps ≡ m.volume.snaps) (rest : Each (IsResting sectors) snaps) where
    idle : Each IsIdle snaps
    idle = each_weaker (IsResting sectors) IsIdle snaps (resting_idle sectors) rest

    abbrev pub slots_left : ℕ
    slots_left = length (drop (m.merge.current * (32 * m.merge.chunk)) ps) - length (c ∷ cs)

    abbrev pub pairs_left : List Pair
    pairs_left = take (length ps - length (c ∷ cs)) ps

    abbrev from : Moving
    from = now_copied (c ∷ cs) m snaps k

    reaches_to : (to : List SnapHeld → ℕ → Moving) (after : Merging) → after.volume.snaps ≡ m.volume.snaps → GoesAll from (to snaps k) → Reaches sectors from to after
    reaches_to to after still goes = record { snaps = snaps; started = k; goes = goes; same = same ∙ sym still; rest = rest }

    -- the flush, and the commit
    pub commits : GroupEnds (pairs_in m.merge) pairs_left from (going (clear_slots slots_left (length (c ∷ cs))) (flush m))
    commits =
        let g : Merge = m.merge in
        let Ends : Merging → Type 0 = GroupEnds (pairs_in m.merge) pairs_left from in
        let clear : Merging → Merging = clear_slots slots_left (length (c ∷ cs)) in
        let flat : Device = met m.volume.origin Flushes in
        let safe : Merging = with_origin m flat in
        let op : Operation = Writes (g.chunk * area_place g.chunk g.current) g.chunk in
        let new : List ℕ = without_slots g.chunk g.store.bytes g.current slots_left (length (c ∷ cs)) in
        let after : Merging = with_store safe (written_by g.store op new) in
        let done : Merging = record after { merge = record after.merge { next = area_place g.chunk g.current + slots_left + 1 } } in
        elim (cases_Bool (answers m.volume.origin Flushes)) [
          | inr lost ↦ subst Ends (ap (going clear) (sym (cond-false _ _ _ lost)))
              (inl (refl, refl, reaches_to (merging_at a (stopped safe) (ungrouped (stopped safe).merge ps)) (stopped safe) refl (unflushed m.volume.origin snaps a k idle g ps cs c lost)))
          | inl ok ↦ (let cleared : clear safe ≡ going clear (flush m) = sym (cond-false _ _ _ fine) ∙ ap (going clear) (sym (cond-true _ _ _ ok)) in
              elim (cases_Bool (answers g.store op)) [
                | inl wrote ↦ subst Ends (sym (cond-true _ _ _ wrote) ∙ cleared)
                    (inr (fine, reaches_to (merging_at a done (ungrouped done.merge pairs_left)) done refl (all_on _ _ _ (flushed m.volume.origin snaps a k idle g ps cs c ok) (committed flat snaps a k idle g ps cs c wrote))))
                | inr unwritten ↦ subst Ends (sym (cond-false _ _ _ unwritten) ∙ cleared)
                    (inl (
                      refl,
                      ap (pairs_of g.chunk) (cond-false _ _ _ unwritten),
                      reaches_to (merging_at a (stopped after) (ungrouped (stopped after).merge ps)) (stopped after) refl
                          (all_on _ _ _ (flushed m.volume.origin snaps a k idle g ps cs c ok) (uncommitted flat snaps a k idle g ps cs c unwritten)),
                    ))
              ])
        ]

-- the merge with no group: what is in memory of it is what its store's bytes say
abbrev pub free_at : Option Reply → Merging → List SnapHeld → ℕ → Moving
free_at a m snaps k = merging_at a m (ungrouped m.merge (pairs_in m.merge)) snaps k

-- one group
module _ (sectors : ℕ) (a : Option Reply) (m : Merging) (is : IsMerging sectors m) (fine : m.merge.failed ≡ false) (some : 0 < length (in_area m.merge)) (snaps : List SnapHeld) (k : ℕ) (same : map snap_of snaps ≡ m.volume.snaps) (rest : Each (IsResting sectors) snaps) where
  abbrev group : List Pair
  group = group_of m.merge

  abbrev had : List Pair
  had = pairs_in m.merge

  abbrev copied : Merging
  copied = copy_all group m

  abbrev start : Moving
  start = free_at a m snaps k

  -- its chunks are copied
  group_copies : Parts sectors a had start (now_copied sectors a had group) copied
  group_copies =
      let back : List Pair = turned group [] in
      let (kept, at, len) = group_ends m.merge is.merge.low in
      let round : turned back [] ≡ group = turned_back group in
      let formed : GoesAll start (now_waiting sectors a had group [] m snaps k) = groups m.volume.origin snaps a k (each_weaker (IsResting sectors) IsIdle snaps (resting_idle sectors) rest) m.merge had fine some in
      let all : Parts sectors a had (now_waiting sectors a had (turned back []) [] m snaps k) (now_copied sectors a had (turned back [])) (copied_back back m) =
      copies_settle sectors a had kept back [] m snaps k is fine (at ∙ ap (λ x. kept ++ x) (sym round)) same rest in
      parts_after sectors a had _ _ (now_copied sectors a had group) copied formed
      (subst (λ (xs : List Pair). Parts sectors a had (now_waiting sectors a had xs [] m snaps k) (now_copied sectors a had xs) (copy_all xs m)) round
      (subst (Parts sectors a had (now_waiting sectors a had (turned back []) [] m snaps k) (now_copied sectors a had (turned back []))) (sym (all_back back [] m)) all))

  -- the pairs that a merge has as its store says
  reaches_free : (after : Merging) (pairs : List Pair) → pairs_in after.merge ≡ pairs → Reaches sectors start (merging_at a after (ungrouped after.merge pairs)) after → Reaches sectors start (free_at a after) after
  reaches_free after pairs e r = subst (λ (xs : List Pair). Reaches sectors start (merging_at a after (ungrouped after.merge xs)) after) (sym e) r

  ready : CopiesAll sectors group m copied
  ready = let (kept, at, len) = group_ends m.merge is.merge.low in copies_all sectors kept group m is at

  pairs_same : pairs_in copied.merge ≡ had
  pairs_same = ap (λ n. pairs_of n copied.merge.store.bytes) ready.unseen.chunk ∙ ap (pairs_of m.merge.chunk) ready.store

  -- the pairs that stay, where nothing failed
  pairs_less : (merge_group m).merge.failed ≡ false → (n : ℕ) → n ≡ length group → pairs_in (merge_group m).merge ≡ take (length had - n) had
  pairs_less done n count =
      let k : Merging = going flush copied in
      let clear : Merging → Merging = clear_slots (kept_in m.merge) (length group) in
      elim (cases_Bool k.merge.failed) [
        | inl failed ↦ absurd (true≢false (sym (ap (λ (x : Merging). x.merge.failed) (clear_not k clear failed) ∙ failed) ∙ done))
        | inr on ↦ (let (kept, at, cleared) = (group_clears sectors m is some).1 on in
            let made : merge_group m ≡ clear k = cond-false _ _ _ on in
            let all : length had ≡ length kept + length group = ap length at ∙ length-append kept group in
            let stay : length had - n ≡ length kept = omega arith in
            ap (λ (x : Merging). pairs_in x.merge) made ∙ cleared.pairs (sym (ap (λ (x : Merging). x.merge.failed) made) ∙ done)
            ∙ sym (take-append_seam kept group) ∙ ap (take (length kept)) (sym at) ∙ ap (λ x. take x had) (sym stay))
      ]
    where
      clear_not : (k : Merging) (clear : Merging → Merging) → k.merge.failed ≡ true → going clear k ≡ k
      clear_not k clear failed = cond-true _ _ _ failed

  -- the end of a group whose chunks are copied
  module _ (c : Pair) (cs : List Pair) (group_is : group ≡ c ∷ cs) (ok : copied.merge.failed ≡ false) (r : Reaches sectors start (now_copied sectors a had group copied) copied) where
    abbrev slots : ℕ
    slots = length (drop (copied.merge.current * (32 * copied.merge.chunk)) had) - length (c ∷ cs)

    slots_same : slots ≡ kept_in m.merge
    slots_same =
        ap (λ x. length (drop (x * (32 * copied.merge.chunk)) had) - length (c ∷ cs)) ready.current
        ∙ ap (λ x. length (drop (m.merge.current * (32 * x)) had) - length (c ∷ cs)) ready.unseen.chunk
        ∙ ap (λ (xs : List Pair). length (in_area m.merge) - length xs) (sym group_is)

    made : going (clear_slots slots (length (c ∷ cs))) (flush copied) ≡ merge_group m
    made =
        ap (λ n. going (clear_slots n (length (c ∷ cs))) (flush copied)) slots_same
        ∙ ap (λ (xs : List Pair). going (clear_slots (kept_in m.merge) (length xs)) (flush copied)) (sym group_is)
        ∙ ap (going (clear_slots (kept_in m.merge) (length group))) (sym (cond-false _ _ _ ok))

    left : GroupEnds sectors a had (pairs_in copied.merge) (take (length had - length (c ∷ cs)) had) (now_copied sectors a had (c ∷ cs) copied r.snaps r.started) (merge_group m)
    left = subst (GroupEnds sectors a had (pairs_in copied.merge) (take (length had - length (c ∷ cs)) had) (now_copied sectors a had (c ∷ cs) copied r.snaps r.started)) made
        (commits sectors a had c cs copied ok r.snaps r.started r.same r.rest)

    goes_here : GoesAll start (now_copied sectors a had (c ∷ cs) copied r.snaps r.started)
    goes_here = subst (λ (xs : List Pair). GoesAll start (now_copied sectors a had xs copied r.snaps r.started)) group_is r.goes

    group_done : Reaches sectors start (free_at a (merge_group m)) (merge_group m)
    group_done = elim left [
      | inl lost ↦ reaches_free (merge_group m) had (lost.1 ∙ pairs_same) (reaches_after sectors _ _ (merging_at a (merge_group m) (ungrouped (merge_group m).merge had)) (merge_group m) goes_here lost.2)
      | inr done ↦ reaches_free (merge_group m) (take (length had - length (c ∷ cs)) had) (pairs_less done.0 (length (c ∷ cs)) (ap length (sym group_is)))
          (reaches_after sectors _ _ (merging_at a (merge_group m) (ungrouped (merge_group m).merge (take (length had - length (c ∷ cs)) had))) (merge_group m) goes_here done.1)
    ]

  some_first : (xs : List Pair) → 0 < length xs → (c : Pair) × (cs : List Pair) × (xs ≡ c ∷ cs)
  some_first [] none = absurd (omega arith)
  some_first (x ∷ xs) filled = (x, xs, refl)

  pub group_settles : Reaches sectors start (free_at a (merge_group m)) (merge_group m)
  group_settles = elim group_copies [
    | inl lost ↦ (let clear : Merging → Merging = clear_slots (kept_in m.merge) (length group) in
        let same_all : merge_group m ≡ copied = ap (going clear) (cond-true _ _ _ lost.0) ∙ cond-true _ _ _ lost.0 in
        subst (λ (x : Merging). Reaches sectors start (free_at a x) x) (sym same_all) (reaches_free copied had pairs_same lost.1))
    | inr done ↦ (let (c, cs, group_is) = some_first group (run_filled (in_area m.merge) some) in group_done c cs group_is done.0 done.1)
  ]
