-- A volume at rest with a merge settles to the whole merge, whatever fails: group after group, and area after area, until no
-- pair is left or an operation failed.
use Rattle.std.proofs.Common.{◌≡◌, inl, inr, ℕ, zero, suc, ◌+◌, ◌-◌, ◌*◌, ◌<◌, ◌≤◌, Bool, true, false, List, [], length, drop, map, Option, Some, None, refl, arith, ap, ◌∙◌, sym, subst, length-drop}
use Rattle.std.specs.Prelude.{◌==◌, ◌&&◌, not, nat_lt}
use Rattle.std.proofs.lemmas.Bool.{cases_Bool, cases_lt, cases_eq, lt-ltb, eq-eqb, ne_eqb, cond-true, cond-false}
use Rattle.std.proofs.lemmas.Nat.{mul-le}
use Rattle.sector.specs.declared.pair.Pair.{Pair}
use Rattle.device.specs.declared.operation.Operation.{Operation}
use Rattle.device.specs.declared.operation.Operation.TheVariants.{Reads}
use Rattle.plain_machine.specs.declared.event.Event.TheVariants.{MergeGroup, MergeAreaRead}
use Rattle.plain_machine.specs.declared.request.Reply.{Reply}
use Rattle.cow_format.specs.Places.{area_place}
use Rattle.volume_laws.specs.MergeDue.{one_of, due_or}
use Rattle.whole_commands.specs.Devices.{sectors_of, answers, met}
use Rattle.whole_commands.specs.Snaps.{Snap, Volume}
use Rattle.whole_commands.specs.Merges.{Merge, Merged, Merging, merged_of as in_one, pairs_in, with_store, in_area, read_before, merge_step, merge_steps, merge_all, merged}
use Rattle.whole_commands.specs.MergeShown.{IsMerging}
use Rattle.event_machine.specs.Held.{SnapHeld, Going, MergeHeld, Moving}
use Rattle.event_machine.specs.MergeDue.{due_all, merge_due}
use Rattle.event_machine.specs.MergeRest.{merge_in, merged_of, in_big_steps, IsMergeResting, IsBetween}
use Rattle.event_machine.specs.MergeSettles.{SettlesToMerged}
use Rattle.event_machine.specs.Requests.{volume_of}
use Rattle.event_machine.specs.Rest.{IsResting}
use Rattle.event_machine.proofs.Around.{at_with, IsIdle, due_request}
use Rattle.whole_commands.proofs.Each.{Each, each_weaker, each_from, all_from}
use Rattle.whole_command_laws.proofs.GoesAll.{all_none, all_there, merge_first}
use Rattle.whole_command_laws.proofs.MergeStages.{ungrouped, area_read, area_lost}
use Rattle.whole_command_laws.proofs.Primed.{resting_idle}
use Rattle.whole_command_laws.proofs.SavesSettle.{snap_of}
use Rattle.whole_command_laws.proofs.MergeEnds.{step_steps, merge_ends, merge_unseen}
use Rattle.whole_command_laws.proofs.PairsSettle.{Reaches, reaches_after}
use Rattle.whole_command_laws.proofs.GroupsSettle.{free_at, group_settles}

module _ (sectors : ℕ) (a : Option Reply) where
  -- a volume with a merge goes on to one where that is done
  abbrev pub MergesTo : Merging → List SnapHeld → ℕ → Merging → Type 0
  MergesTo m snaps k after = Reaches sectors (free_at a m snaps k) (free_at a after) after

  -- the area before an empty one
  area_settles : (m : Merging) → m.merge.failed ≡ false → length (in_area m.merge) ≡ 0 → 0 < m.merge.current → (snaps : List SnapHeld) (k : ℕ) → map snap_of snaps ≡ m.volume.snaps → Each (IsResting sectors) snaps → MergesTo m snaps k (read_before m)
  area_settles m fine none more snaps k same rest =
      let g : Merge = m.merge in
      let op : Operation = Reads (g.chunk * area_place g.chunk (g.current - 1)) g.chunk in
      let read : Merging = with_store m (met g.store op) in
      let back : Merging = record read { merge = record read.merge { current = g.current - 1 } } in
      let idle : Each IsIdle snaps = each_weaker (IsResting sectors) IsIdle snaps (resting_idle sectors) rest in
      elim (cases_Bool (answers g.store op)) [
        | inl ok ↦ subst (MergesTo m snaps k) (sym (cond-true _ _ _ ok))
            (record { snaps = snaps; started = k; goes = area_read m.volume.origin snaps a k idle g (pairs_in g) fine none more ok; same = same; rest = rest })
        | inr lost ↦ subst (MergesTo m snaps k) (sym (cond-false _ _ _ lost))
            (record { snaps = snaps; started = k; goes = area_lost m.volume.origin snaps a k idle g (pairs_in g) fine none more lost; same = same; rest = rest })
      ]

  stays_there : (m : Merging) (snaps : List SnapHeld) (k : ℕ) → map snap_of snaps ≡ m.volume.snaps → Each (IsResting sectors) snaps → MergesTo m snaps k m
  stays_there m snaps k same rest = record { snaps = snaps; started = k; goes = all_none _; same = same; rest = rest }

  -- one step
  step_settles : (m : Merging) → IsMerging sectors m → m.merge.failed ≡ false → (snaps : List SnapHeld) (k : ℕ) → map snap_of snaps ≡ m.volume.snaps → Each (IsResting sectors) snaps → MergesTo m snaps k (merge_step m)
  step_settles m is fine snaps k same rest = elim (cases_lt 0 (length (in_area m.merge))) [
    | inl some ↦ subst (MergesTo m snaps k) (sym (cond-true _ _ _ (lt-ltb _ _ some))) (group_settles sectors a m is fine some snaps k same rest)
    | inr none ↦ (let empty : length (in_area m.merge) ≡ 0 = omega arith in
        let not_some : nat_lt 0 (length (in_area m.merge)) ≡ false = ap (nat_lt 0) empty in
        elim (cases_eq m.merge.current 0) [
          | inl first ↦ subst (MergesTo m snaps k) (sym (cond-false _ _ _ not_some ∙ cond-true _ _ _ (eq-eqb _ _ first))) (stays_there m snaps k same rest)
          | inr more ↦ subst (MergesTo m snaps k) (sym (cond-false _ _ _ not_some ∙ cond-false _ _ _ (ne_eqb _ _ more))) (area_settles m fine empty (omega arith) snaps k same rest)
        ])
  ]

  pub steps_settle : (n : ℕ) (m : Merging) → IsMerging sectors m → (snaps : List SnapHeld) (k : ℕ) → map snap_of snaps ≡ m.volume.snaps → Each (IsResting sectors) snaps → MergesTo m snaps k (merge_steps n m)
  steps_settle zero m is snaps k same rest = stays_there m snaps k same rest
  steps_settle (suc n) m is snaps k same rest = elim (cases_Bool m.merge.failed) [
    | inl failed ↦ subst (MergesTo m snaps k) (sym (cond-true _ _ _ failed)) (stays_there m snaps k same rest)
    | inr fine ↦ (let one : MergesTo m snaps k (merge_step m) = step_settles m is fine snaps k same rest in
        subst (MergesTo m snaps k) (sym (cond-false _ _ _ fine))
        (reaches_after sectors _ _ (free_at a (merge_steps n (merge_step m))) (merge_steps n (merge_step m)) one.goes (steps_settle n (merge_step m) (step_steps sectors m is).unseen.holds one.snaps one.started one.same one.rest)))
  ]

-- nothing is due where the merge failed, or where no pair and no area is left
nothing_due : (sectors : ℕ) (snaps : List SnapHeld) (g : Merge) (ps : List Pair) → g.failed ≡ true → merge_due sectors snaps [] (Some (ungrouped g ps)) ≡ None
nothing_due sectors snaps g ps failed =
    ap (λ b. one_of ((not b && true) && ((length (drop (g.current * (32 * g.chunk)) ps) == 0) && nat_lt 0 g.current)) MergeAreaRead (one_of ((not b && true) && nat_lt 0 (length (drop (g.current * (32 * g.chunk)) ps))) MergeGroup None)) failed

nothing_left : (sectors : ℕ) (snaps : List SnapHeld) (g : Merge) (ps : List Pair) → length (drop (g.current * (32 * g.chunk)) ps) ≡ 0 → g.current ≡ 0 → merge_due sectors snaps [] (Some (ungrouped g ps)) ≡ None
nothing_left sectors snaps g ps none first =
    ap (λ n. one_of ((not g.failed && true) && ((n == 0) && nat_lt 0 g.current)) MergeAreaRead (one_of ((not g.failed && true) && nat_lt 0 n) MergeGroup None)) none
    ∙ ap (λ c. one_of ((not g.failed && true) && ((0 == 0) && nat_lt 0 c)) MergeAreaRead (one_of ((not g.failed && true) && nat_lt 0 0) MergeGroup None)) first
    ∙ at_first (not g.failed)
  where
    at_first : (b : Bool) → one_of ((b && true) && ((0 == 0) && nat_lt 0 0)) MergeAreaRead (one_of ((b && true) && nat_lt 0 0) MergeGroup None) ≡ None
    at_first true = refl
    at_first false = refl

module _ (sectors : ℕ) (m : Merging) (is : IsMerging sectors m) where
  -- once the whole merge is done nothing more is due
  ends_quiet : (n : ℕ) (snaps : List SnapHeld) → merge_due n snaps [] (Some (ungrouped (merge_all m).merge (pairs_in (merge_all m).merge))) ≡ None
  ends_quiet n snaps =
      let g : Merge = (merge_all m).merge in
      elim (cases_Bool g.failed) [
        | inl failed ↦ nothing_due n snaps g (pairs_in g) failed
        | inr fine ↦ (let holds = (merge_unseen sectors m is).holds in
            let none : length (pairs_in g) ≡ 0 = ap length (merge_ends sectors m is fine) in
            let low = holds.merge.low in
            let pos = holds.merge.some in
            let at : g.current * (32 * g.chunk) ≡ 0 = omega arith in
            let area : length (drop (g.current * (32 * g.chunk)) (pairs_in g)) ≡ length (pairs_in g) - g.current * (32 * g.chunk) = length-drop (g.current * (32 * g.chunk)) (pairs_in g) in
            nothing_left n snaps g (pairs_in g) (omega arith) (first_area g.current (32 * g.chunk) (omega arith) at))
      ]
    where
      first_area : (a w : ℕ) → 0 < w → a * w ≡ 0 → a ≡ 0
      first_area a w pos none = elim (cases_eq a 0) [
        | inl first ↦ first
        | inr later ↦ (let one : 1 ≤ a = omega arith in let up : 1 * w ≤ a * w = mul-le _ _ _ _ one (omega arith) in absurd (omega arith))
      ]

  -- from a volume that is at rest
  pub all_settles : (a : Option Reply) (snaps : List SnapHeld) (k : ℕ) → map snap_of snaps ≡ m.volume.snaps → Each (IsResting sectors) snaps → SettlesToMerged sectors (free_at a m snaps k) (in_one (merge_all m))
  all_settles a snaps k same rest =
      let after : Merging = merge_all m in
      let done : MergesTo sectors a m snaps k after = steps_settle sectors a (length (pairs_in m.merge) + m.merge.current) m is snaps k same rest in
      let last : Moving = free_at a after done.snaps done.started in
      let quiet : due_all last ≡ None = merge_first after.volume.origin done.snaps a done.started (ungrouped after.merge (pairs_in after.merge)) None (each_weaker (IsResting sectors) IsIdle done.snaps (resting_idle sectors) done.rest) (ends_quiet (sectors_of after.volume.origin) done.snaps) in
      let there = all_there (free_at a m snaps k) last done.goes quiet in
      record {
        fuel = there.0;
        last = last;
        ends = there.1;
        quiet = quiet;
        rest = record { whole = (merge_unseen sectors m is).holds.whole; snaps = all_from (IsResting sectors) done.snaps done.rest; requests = refl; merge = λ h e. subst IsMergeResting (held_in e) (record { pairs = refl; free = refl }) };
        is = ap (λ (ss : List Snap). let w : Merged = record { volume = record { origin = after.volume.origin; snaps = ss }; merge = Some after.merge } in w) done.same;
        silent = refl;
      }
    where
      held_in : {x y : MergeHeld} → Some x ≡ Some y → x ≡ y
      held_in e = cc

-- a volume without a merge stays
alone_settles : (sectors : ℕ) (v : Moving) → IsBetween sectors v → v.merge ≡ None → SettlesToMerged sectors v (merged (merged_of v))
alone_settles sectors v rest alone =
    let with_both : Option MergeHeld → List Going → Moving = λ (o : Option MergeHeld) (rs : List Going). at_with o v.origin v.snaps rs v.replied v.started in
    let w : Moving = with_both None [] in
    let is : v ≡ w = ap (λ o. with_both o v.requests) alone ∙ ap (with_both None) rest.requests in
    let idle : Each IsIdle v.snaps = each_weaker (IsResting sectors) IsIdle v.snaps (resting_idle sectors) (each_from (IsResting sectors) v.snaps rest.snaps) in
    let quiet : due_all w ≡ None = ap (λ o. due_or o None) (due_request v.origin v.snaps [] v.replied v.started idle None refl) in
    let there = all_there w w (all_none w) quiet in
    subst (λ (u : Moving). SettlesToMerged sectors u (merged (merged_of u))) (sym is) (record {
      fuel = there.0;
      last = w;
      ends = there.1;
      quiet = quiet;
      rest = record { whole = rest.whole; snaps = rest.snaps; requests = refl; merge = λ h none. absurd (cc) };
      is = refl;
      silent = refl;
    })

-- The law of settling of a merge: from a volume at rest, with all its events, to the whole merge in big steps.
pub merge_settles : (sectors : ℕ) (v : Moving) → IsBetween sectors v → ((h : MergeHeld) → v.merge ≡ Some h → IsMerging sectors (in_big_steps h v)) → SettlesToMerged sectors v (merged (merged_of v))
merge_settles sectors v rest is = settles_from v.merge refl
  where
    begun_settles : (h : MergeHeld) → v.merge ≡ Some h → SettlesToMerged sectors v (merged (merged_of v))
    begun_settles h begun =
        let m : Merging = in_big_steps h v in
        let resting : IsMergeResting h = rest.merge h begun in
        let with_both : Option MergeHeld → List Going → Moving = λ (o : Option MergeHeld) (rs : List Going). at_with o v.origin v.snaps rs v.replied v.started in
        let held_is : h ≡ ungrouped h.merge (pairs_in h.merge) = sym resting.free ∙ ap (ungrouped h.merge) (sym resting.pairs) in
        let v_is : v ≡ free_at v.replied m v.snaps v.started = ap (λ o. with_both o v.requests) begun ∙ ap (with_both (Some h)) rest.requests ∙ ap (λ (x : MergeHeld). with_both (Some x) []) held_is in
        let all : SettlesToMerged sectors (free_at v.replied m v.snaps v.started) (in_one (merge_all m)) = all_settles sectors m (is h begun) v.replied v.snaps v.started refl (each_from (IsResting sectors) v.snaps rest.snaps) in
        let answer : in_one (merge_all m) ≡ merged (merged_of v) = ap (λ o. let x : Merged = record { volume = volume_of v; merge = merge_in o } in merged x) (sym begun) in
        subst (SettlesToMerged sectors v) answer (subst (λ (u : Moving). SettlesToMerged sectors u (in_one (merge_all m))) (sym v_is) all)

    settles_from : (o : Option MergeHeld) → v.merge ≡ o → SettlesToMerged sectors v (merged (merged_of v))
    settles_from None alone = alone_settles sectors v rest alone
    settles_from (Some h) begun = begun_settles h begun

-- what is left of a merge that settled: it is that of the big step, and under way still
pub merge_left : (sectors : ℕ) (v : Moving) (h : MergeHeld) → v.merge ≡ Some h → IsMerging sectors (in_big_steps h v) → (to : SettlesToMerged sectors v (merged (merged_of v))) → (k : MergeHeld) → to.last.merge ≡ Some k →
    (in_big_steps k to.last ≡ merge_all (in_big_steps h v)) × IsMerging sectors (in_big_steps k to.last)
merge_left sectors v h begun is to k left =
    let m : Merging = in_big_steps h v in
    let after : Merging = merge_all m in
    let here : Option Merge → Volume → Merged = λ (o : Option Merge) (x : Volume). record { volume = x; merge = o } in
    let big : merged (merged_of v) ≡ in_one after = ap (λ o. merged (here (merge_in o) (volume_of v))) begun in
    let all : here (Some k.merge) (volume_of to.last) ≡ in_one after = ap (λ o. here (merge_in o) (volume_of to.last)) (sym left) ∙ to.is ∙ big in
    let volume : volume_of to.last ≡ after.volume = ap (λ (x : Merged). x.volume) all in
    let some_merge : Some k.merge ≡ Some after.merge = ap (λ (x : Merged). x.merge) all in
    let merge : k.merge ≡ after.merge = cc in
    let mk : Merge → Volume → Merging = λ (g : Merge) (x : Volume). record { volume = x; merge = g } in
    let same : in_big_steps k to.last ≡ after = ap (mk k.merge) volume ∙ ap (λ g. mk g after.volume) merge in
    (same, subst (IsMerging sectors) (sym same) (merge_unseen sectors m is).holds)
