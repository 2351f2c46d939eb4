-- A merge begins, goes on and is taken out of a volume at rest as the big steps have it, and leaves it at rest.
use Rattle.std.proofs.Common.{◌≡◌, ◌⊎◌, inl, inr, ℕ, ◌*◌, ◌/◌, Bool, true, false, List, [], ◌∷◌, ◌++◌, length, map, Option, Some, None, arith, refl, ap, ◌∙◌, sym, subst}
use Rattle.std.specs.Prelude.{◌==◌, ◌&&◌, not, nat_lt, is_some, if◌then◌else◌}
use Rattle.std.proofs.lemmas.Bool.{cases_Bool, cond-true, cond-false, lt-ltb}
use Rattle.sector.specs.declared.pair.Pair.{Pair}
use Rattle.cow_format.specs.Pairs.{pairs_of}
use Rattle.volume_laws.specs.MergeDue.{is_none}
use Rattle.whole_commands.specs.Saves.{next_of}
use Rattle.whole_commands.specs.Snaps.{Snap, Volume}
use Rattle.whole_commands.specs.Attaching.{detached}
use Rattle.whole_commands.specs.Merges.{Merge, Merged, merge_of, pairs_in, snap_named, begun_with, begun as begun_big, resumed_by, resumed as resumed_big, finished_by, finished as finished_big}
use Rattle.whole_commands.proofs.Each.{Each, each_from, all_from}
use Rattle.event_machine.specs.Held.{SnapHeld, MergeHeld, Moving, group_in, with_merge}
use Rattle.event_machine.specs.Stepping.{for_some, first_that, without_first}
use Rattle.event_machine.specs.MergeDue.{is_finished}
use Rattle.event_machine.specs.Merging.{merging_of, begin, begun, resumed, finished}
use Rattle.event_machine.specs.Requests.{volume_of}
use Rattle.event_machine.specs.Rest.{IsKept, IsResting, IsAtRest}
use Rattle.event_machine.specs.MergeRest.{merge_in, merged_of, IsMergeResting, IsMergedAtRest, IsBetween}
use Rattle.event_machine.proofs.Lists.{here_that}
use Rattle.event_machine.proofs.Found.{split_at, none_that, IsSplit}

abbrev snap_of : SnapHeld → Snap
snap_of h = h.snap

module _ (number : ℕ) where
  abbrev is_this : SnapHeld → Bool
  is_this h = h.snap.number == number

  none_named : (hs : List SnapHeld) → Each (λ h. is_this h ≡ false) hs → snap_named number (map snap_of hs) ≡ None
  none_named [] none = refl
  none_named (h ∷ hs) none = cond-false _ _ _ none.0 ∙ none_named hs none.1

  here_named : (done rest : List SnapHeld) (h : SnapHeld) → Each (λ d. is_this d ≡ false) done → is_this h ≡ true → snap_named number (map snap_of (done ++ h ∷ rest)) ≡ Some h.snap
  here_named [] rest h before pass = cond-true _ _ _ pass
  here_named (d ∷ done) rest h before pass = cond-false _ _ _ before.0 ∙ here_named done rest h before.1 pass

  taken_out : (hs : List SnapHeld) → detached number (map snap_of hs) ≡ map snap_of (without_first is_this hs)
  taken_out [] = refl
  taken_out (h ∷ hs) = elim (cases_Bool (is_this h)) [
    | inl here ↦ cond-true _ _ _ here ∙ sym (ap (map snap_of) (cond-true _ _ _ here))
    | inr other ↦ cond-false _ _ _ other ∙ ap (λ ss. h.snap ∷ ss) (taken_out hs) ∙ sym (ap (map snap_of) (cond-false _ _ _ other))
  ]

  others_rest : (sectors : ℕ) (hs : List SnapHeld) → Each (IsResting sectors) hs → Each (IsResting sectors) (without_first is_this hs)
  others_rest sectors [] all = tt
  others_rest sectors (h ∷ hs) all = elim (cases_Bool (is_this h)) [
    | inl here ↦ subst (Each (IsResting sectors)) (sym (cond-true _ _ _ here)) all.1
    | inr other ↦ subst (Each (IsResting sectors)) (sym (cond-false _ _ _ other)) (all.0, others_rest sectors hs all.1)
  ]

  here_rests : (sectors : ℕ) (done rest : List SnapHeld) (h : SnapHeld) → Each (IsResting sectors) (done ++ h ∷ rest) → IsResting sectors h
  here_rests sectors [] rest h all = all.0
  here_rests sectors (d ∷ done) rest h all = here_rests sectors done rest h all.1

-- the merge of a snapshot at rest is that of the big step
merge_same : (sectors : ℕ) (h : SnapHeld) → IsKept sectors h → (merging_of h).merge ≡ merge_of h.snap
merge_same sectors h kept =
    let made : ℕ → ℕ → Merge = λ (current next : ℕ). record { number = h.snap.number; chunk = h.snap.chunk; failed = false; current = current; next = next; store = h.snap.store } in
    ap (λ ps. made (length ps / (32 * h.snap.chunk)) h.next) (sym kept.pairs)
    ∙ ap (made (length (pairs_of h.snap.chunk h.snap.store.bytes) / (32 * h.snap.chunk))) (kept.next ∙ ap (next_of h.snap.chunk) (sym kept.pairs))

merge_cases : (o : Option MergeHeld) → (o ≡ None) ⊎ ((m : MergeHeld) × (o ≡ Some m))
merge_cases None = inl refl
merge_cases (Some m) = inr (m, refl)

abbrev merge_or : MergeHeld → Option MergeHeld → MergeHeld
merge_or a None = a
merge_or a (Some b) = b

some_same : (a b : MergeHeld) → Some a ≡ Some b → a ≡ b
some_same a b is = ap (merge_or a) is

-- a volume with this merge, and what begin is where one is begun
abbrev state : Volume → Option MergeHeld → Merged
state volume o = record { volume = volume; merge = merge_in o }

begun_before : (number : ℕ) (volume : Volume) (o : Option MergeHeld) (m : MergeHeld) → o ≡ Some m → state volume o ≡ begun_big number (state volume o)
begun_before number volume (Some k) m is = refl
begun_before number volume None m is = (let none : Some m ≡ None = sym is in absurd (cc))

some_pairs : (ps : List Pair) → nat_lt 0 (length ps) ≡ not (is_none ps)
some_pairs [] = refl
some_pairs (p ∷ ps) = lt-ltb 0 (length (p ∷ ps)) (omega arith)

and_true : (b : Bool) → (b && true) ≡ b
and_true true = refl
and_true false = refl

module _ (sectors number : ℕ) (v : Moving) (rest : IsBetween sectors v) where
  each_rests : Each (IsResting sectors) v.snaps
  each_rests = each_from (IsResting sectors) v.snaps rest.snaps

  -- what begin is, where no merge is begun
  abbrev Begins : Moving → Merged → Type 0
  Begins w m = (merged_of w ≡ m) × IsBetween sectors w

  abbrev test : SnapHeld → Bool
  test h = h.snap.number == number

  module _ (alone : v.merge ≡ None) where
    stays : merged_of v ≡ record { volume = volume_of v; merge = None }
    stays = ap (λ (m : Option MergeHeld). let w : Merged = record { volume = volume_of v; merge = merge_in m } in w) alone

    begins_live : (h : SnapHeld) → IsResting sectors h → h.snap.live ≡ true → Begins (begin test h v) (begun_with (Some h.snap) number (volume_of v))
    begins_live h here on =
        let w : Moving = record v { snaps = without_first test v.snaps; merge = Some (merging_of h) } in
        let rests : IsBetween sectors w = record {
          whole = rest.whole;
          snaps = all_from (IsResting sectors) (without_first test v.snaps) (others_rest number sectors v.snaps each_rests);
          requests = rest.requests;
          merge = λ m is. subst IsMergeResting (some_same (merging_of h) m is) (record { pairs = (here.live on).pairs; free = refl });
        } in
        let made : List Snap → Merge → Merged = λ (ss : List Snap) (g : Merge). record { volume = record { origin = v.origin; snaps = ss }; merge = Some g } in
        let same : merged_of w ≡ begun_with (Some h.snap) number (volume_of v) =
        ap (λ ss. made ss (merging_of h).merge) (sym (taken_out number v.snaps))
        ∙ ap (made (detached number (map snap_of v.snaps))) (merge_same sectors h (here.live on)) ∙ sym (cond-true _ _ _ on) in
        subst (λ x. Begins x (begun_with (Some h.snap) number (volume_of v))) (sym (cond-true _ _ _ on)) (same, rests)

    begins_dead : (h : SnapHeld) → h.snap.live ≡ false → Begins (begin test h v) (begun_with (Some h.snap) number (volume_of v))
    begins_dead h out = subst (λ x. Begins x (begun_with (Some h.snap) number (volume_of v))) (sym (cond-false _ _ _ out)) (stays ∙ sym (cond-false _ _ _ out), rest)

    begins_in : (IsSplit test v.snaps) → Begins (for_some (first_that test v.snaps) (λ h. begin test h v) v) (begun_with (snap_named number (map snap_of v.snaps)) number (volume_of v))
    begins_in s =
        let found : first_that test v.snaps ≡ Some s.here = ap (first_that test) s.is ∙ here_that test s.done s.rest s.here s.before s.pass in
        let named : snap_named number (map snap_of v.snaps) ≡ Some s.here.snap = ap (λ hs. snap_named number (map snap_of hs)) s.is ∙ here_named number s.done s.rest s.here s.before s.pass in
        let here : IsResting sectors s.here = here_rests number sectors s.done s.rest s.here (subst (Each (IsResting sectors)) s.is each_rests) in
        let both : Begins (begin test s.here v) (begun_with (Some s.here.snap) number (volume_of v)) = elim (cases_Bool s.here.snap.live) [
          | inl on ↦ begins_live s.here here on
          | inr out ↦ begins_dead s.here out
        ] in
        subst (λ o. Begins (for_some o (λ h. begin test h v) v) (begun_with (snap_named number (map snap_of v.snaps)) number (volume_of v))) (sym found)
        (subst (λ o. Begins (begin test s.here v) (begun_with o number (volume_of v))) (sym named) both)

    begins : Begins (for_some (first_that test v.snaps) (λ h. begin test h v) v) (begun_with (snap_named number (map snap_of v.snaps)) number (volume_of v))
    begins = elim (split_at test v.snaps) [
      | inr s ↦ begins_in s
      | inl none ↦ subst (λ o. Begins (for_some o (λ h. begin test h v) v) (begun_with (snap_named number (map snap_of v.snaps)) number (volume_of v))) (sym (none_that test v.snaps none))
          (subst (λ o. Begins v (begun_with o number (volume_of v))) (sym (none_named number v.snaps none)) (stays, rest))
    ]

  pub begun_is : (merged_of (begun number v) ≡ begun_big number (merged_of v)) × IsBetween sectors (begun number v)
  begun_is = elim (merge_cases v.merge) [
    | inl alone ↦ subst (λ b. Begins (if b then v else for_some (first_that test v.snaps) (λ h. begin test h v) v) (begun_big number (merged_of v))) (sym (ap is_some alone))
        (subst (Begins (for_some (first_that test v.snaps) (λ h. begin test h v) v)) (sym (ap (begun_big number) (stays alone))) (begins alone))
    | inr some ↦ subst (λ b. Begins (if b then v else for_some (first_that test v.snaps) (λ h. begin test h v) v) (begun_big number (merged_of v))) (sym (ap is_some some.1))
        (begun_before number (volume_of v) v.merge some.0 some.1, rest)
  ]

  -- without a merge
  alone_state : v.merge ≡ None → merged_of v ≡ state (volume_of v) None
  alone_state alone = ap (state (volume_of v)) alone

  -- a merge that failed goes on
  abbrev unfailed : MergeHeld → MergeHeld
  unfailed m = record m { merge = record m.merge { failed = false } }

  abbrev going : MergeHeld → Moving
  going m = with_merge (unfailed m) v

  resumes : (o : Option MergeHeld) → v.merge ≡ o → (merged_of (for_some o going v) ≡ resumed_by (merge_in o) (volume_of v)) × IsBetween sectors (for_some o going v)
  resumes None alone = (alone_state alone, rest)
  resumes (Some m) is = (
    refl,
    record {
      whole = rest.whole;
      snaps = rest.snaps;
      requests = rest.requests;
      merge = λ n same. (let here = rest.merge m is in
          subst IsMergeResting (some_same (unfailed m) n same) (record { pairs = here.pairs; free = ap unfailed here.free }));
    },
  )

  pub resumed_is : (merged_of (resumed v) ≡ resumed_big (merged_of v)) × IsBetween sectors (resumed v)
  resumed_is = resumes v.merge refl

  -- a merge without pairs is taken out
  abbrev left : MergeHeld → Moving
  left m = if is_finished m then record v { merge = None } else v

  out_rests : IsBetween sectors (record v { merge = None })
  out_rests = record { whole = rest.whole; snaps = rest.snaps; requests = rest.requests; merge = λ m is. absurd (cc) }

  finishes_by : (m : MergeHeld) (done : Bool) → v.merge ≡ Some m → is_finished m ≡ done → nat_lt 0 (length (pairs_in m.merge)) ≡ not done
      → (merged_of (left m) ≡ (finished_by (Some m.merge) (volume_of v)).state) × IsBetween sectors (left m)
  finishes_by m true is done none = rw (done, none) (refl, out_rests)
  finishes_by m false is done some = rw (done, some) (ap (state (volume_of v)) is, rest)

  finishes : (o : Option MergeHeld) → v.merge ≡ o → (merged_of (for_some o left v) ≡ (finished_by (merge_in o) (volume_of v)).state) × IsBetween sectors (for_some o left v)
  finishes None alone = (alone_state alone, rest)
  finishes (Some m) is =
      let here : IsMergeResting m = rest.merge m is in
      finishes_by m (is_none m.pairs) is (ap (λ (k : MergeHeld). is_none m.pairs && is_none (group_in k)) (sym here.free) ∙ and_true (is_none m.pairs)) (ap (λ ps. nat_lt 0 (length ps)) here.pairs ∙ some_pairs m.pairs)

  pub finished_is : (merged_of (finished v) ≡ (finished_big (merged_of v)).state) × IsBetween sectors (finished v)
  finished_is = finishes v.merge refl

-- a volume at rest without a merge, and with one
pub between_alone : (sectors : ℕ) (v : Moving) → IsAtRest sectors v → IsBetween sectors v
between_alone sectors v rest = record { whole = rest.whole; snaps = rest.snaps; requests = rest.requests; merge = λ m is. (let none : Some m ≡ None = sym is ∙ rest.alone in absurd (cc)) }

pub alone_between : (sectors : ℕ) (v : Moving) → IsBetween sectors v → v.merge ≡ None → IsAtRest sectors v
alone_between sectors v rest alone = record { whole = rest.whole; snaps = rest.snaps; requests = rest.requests; alone = alone }

pub between_merged : (sectors : ℕ) (m : MergeHeld) (v : Moving) → IsMergedAtRest sectors m v → IsBetween sectors v
between_merged sectors m v rest = record { whole = rest.whole; snaps = rest.snaps; requests = rest.requests; merge = λ n is. subst IsMergeResting (some_same m n (sym rest.is ∙ is)) rest.merge }

pub merged_between : (sectors : ℕ) (m : MergeHeld) (v : Moving) → IsBetween sectors v → v.merge ≡ Some m → IsMergedAtRest sectors m v
merged_between sectors m v rest is = record { whole = rest.whole; snaps = rest.snaps; requests = rest.requests; is = is; merge = rest.merge m is }
