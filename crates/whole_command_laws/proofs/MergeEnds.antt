-- Steps of a merge are not seen, each that does not fail leaves less to do, and the whole merge leaves no pair.
use Rattle.std.proofs.Common.{◌≡◌, ◌⊎◌, inl, inr, ℕ, zero, suc, ◌+◌, ◌*◌, ◌-◌, ◌<◌, ◌≤◌, true, false, List, [], ◌∷◌, ◌++◌, length, take, arith, refl, ap, ◌∙◌, sym, subst, length-append, length-drop, append_assoc}
use Rattle.std.specs.Prelude.{nat_lt}
use Rattle.std.proofs.lemmas.Bool.{cases_Bool, cases_lt, cases_eq, lt-ltb, eq-eqb, ne_eqb, cond-true, cond-false, true≢false}
use Rattle.std.proofs.lemmas.List.{take-append-drop, length-take-le}
use Rattle.sector.specs.declared.pair.Pair.{Pair}
use Rattle.device.specs.declared.operation.Operation.{Operation}
use Rattle.device.specs.declared.operation.Operation.TheVariants.{Reads}
use Rattle.cow_format.specs.Places.{area_place}
use Rattle.cow_format.specs.Pairs.{pairs_of}
use Rattle.cow_format.specs.Picture.{IsCopied}
use Rattle.volume_laws.proofs.Attaching.{picture_none}
use Rattle.whole_commands.specs.Devices.{answers, met}
use Rattle.whole_commands.specs.Merges.{Merge, Merging, pairs_in, stopped, going, with_store, copy_all, in_area, group_of, kept_in, flush, clear_slots, merge_group, read_before, merge_step, merge_steps, merge_all}
use Rattle.whole_commands.specs.MergeShown.{IsMerging, IsUnseen, shown_through}
use Rattle.whole_commands.proofs.Each.{Each}
use Rattle.whole_command_laws.proofs.MergeRuns.{run_ends, run_filled}
use Rattle.whole_command_laws.proofs.MergeShows.{CopiesAll, copies_all, flush_copies, Clears, clears, unseen_then, unseen_by, unseen_still}

-- a step of the merge: nobody sees it, and where it does not fail less is left, or no pair was
pub record StepsOn (sectors : ℕ) (m after : Merging) : Type 0 where
  pub unseen : IsUnseen sectors m after
  pub less : after.merge.failed ≡ false → (length (pairs_in after.merge) + after.merge.current < length (pairs_in m.merge) + m.merge.current) ⊎ (length (pairs_in after.merge) + after.merge.current ≡ 0)

-- the pairs before a group
pub group_ends : (g : Merge) → g.current * (32 * g.chunk) ≤ length (pairs_in g) → (kept : List Pair) × (pairs_in g ≡ kept ++ group_of g) × (length kept ≡ g.current * (32 * g.chunk) + kept_in g)
group_ends g low =
    let at : ℕ = g.current * (32 * g.chunk) in
    let (front, is) = run_ends (in_area g) in
    let len : length (in_area g) ≡ length front + length (group_of g) = ap length is ∙ length-append front (group_of g) in
    let before : length (take (g.current * (32 * g.chunk)) (pairs_in g)) ≡ g.current * (32 * g.chunk) = length-take-le (g.current * (32 * g.chunk)) (pairs_in g) low in
    let both = length-append (take (g.current * (32 * g.chunk)) (pairs_in g)) front in (
      take (g.current * (32 * g.chunk)) (pairs_in g) ++ front,
      sym (take-append-drop (g.current * (32 * g.chunk)) (pairs_in g)) ∙ ap (λ x. take (g.current * (32 * g.chunk)) (pairs_in g) ++ x) is ∙ sym (append_assoc (take (g.current * (32 * g.chunk)) (pairs_in g)) front (group_of g)),
      both ∙ omega arith,
    )

-- the slots of a group whose chunks are copied are cleared
pub group_clears : (sectors : ℕ) (m : Merging) → IsMerging sectors m → 0 < length (in_area m.merge) → (let k : Merging = going flush (copy_all (group_of m.merge) m) in
    CopiesAll sectors (group_of m.merge) m k × (k.merge.failed ≡ false → (kept : List Pair) × (pairs_in m.merge ≡ kept ++ group_of m.merge) × Clears sectors kept k (clear_slots (kept_in m.merge) (length (group_of m.merge)) k)))
group_clears sectors m is some =
    let group : List Pair = group_of m.merge in
    let (kept, at, kept_len) = group_ends m.merge is.merge.low in
    let k : Merging = going flush (copy_all group m) in
    let ready : CopiesAll sectors group m k = flush_copies sectors group m (copy_all group m) (copies_all sectors kept group m is at) in
    let filled : 0 < length group = run_filled (in_area m.merge) some in (
      ready,
      λ fine. (let holds = ready.unseen.holds in
          let chunk : k.merge.chunk ≡ m.merge.chunk = ready.unseen.chunk in
          let same : pairs_in k.merge ≡ kept ++ group = ap (λ n. pairs_of n k.merge.store.bytes) chunk ∙ ap (pairs_of m.merge.chunk) ready.store ∙ at in
          let here : m.merge.current * (32 * m.merge.chunk) ≡ k.merge.current * (32 * k.merge.chunk) = ap (λ x. x * (32 * m.merge.chunk)) (sym ready.current) ∙ ap (λ x. k.merge.current * (32 * x)) (sym chunk) in (
            kept,
            at,
            clears sectors (kept_in m.merge) (length group) kept group k holds same filled refl (kept_len ∙ omega arith)
                (each_copied m.merge.chunk k.merge.chunk k.volume.origin.bytes m.merge.store.bytes k.merge.store.bytes group (sym chunk) (sym ready.store) (ready.copied fine)),
          )),
    )
  where
    each_copied : (n n' : ℕ) (disk b b' : List ℕ) (ps : List Pair) → n ≡ n' → b ≡ b' → Each (IsCopied n disk b) ps → Each (IsCopied n' disk b') ps
    each_copied n n' disk b b' ps chunk store all = subst (λ (x : ℕ). Each (IsCopied x disk b') ps) chunk (subst (λ (x : List ℕ). Each (IsCopied n disk x) ps) store all)

pub group_steps : (sectors : ℕ) (m : Merging) → IsMerging sectors m → 0 < length (in_area m.merge) → StepsOn sectors m (merge_group m)
group_steps sectors m is some =
    let j : ℕ = kept_in m.merge in
    let group : List Pair = group_of m.merge in
    let k : Merging = going flush (copy_all group m) in
    let (ready, clear_by) = group_clears sectors m is some in
    let filled : 0 < length group = run_filled (in_area m.merge) some in
    elim (cases_Bool k.merge.failed) [
      | inl failed ↦ subst (StepsOn sectors m) (sym (cond-true _ _ _ failed)) (record { unseen = ready.unseen; less = λ fine. absurd (true≢false (sym failed ∙ fine)) })
      | inr fine ↦ (let e : merge_group m ≡ clear_slots j (length group) k = cond-false _ _ _ fine in
          let (kept, at, clear) = clear_by fine in
          let all : length (pairs_in m.merge) ≡ length kept + length group = ap length at ∙ length-append kept group in
          let current : (clear_slots j (length group) k).merge.current ≡ m.merge.current = clear.current ∙ ready.current in
          subst (StepsOn sectors m) (sym e) (record {
            unseen = unseen_then sectors m k (clear_slots j (length group) k) ready.unseen clear.unseen;
            less = λ done. inl (let left = ap length (clear.pairs done) in omega arith);
          }))
    ]

-- the area before an empty one
pub area_steps : (sectors : ℕ) (m : Merging) → IsMerging sectors m → length (in_area m.merge) ≡ 0 → 0 < m.merge.current → StepsOn sectors m (read_before m)
area_steps sectors m is none more =
    let g : Merge = m.merge in
    let op : Operation = Reads (g.chunk * area_place g.chunk (g.current - 1)) g.chunk in
    let read : Merging = with_store m (met g.store op) in
    let back : Merging = record read { merge = record read.merge { current = g.current - 1 } } in
    let empty : length (pairs_in m.merge) ≡ m.merge.current * (32 * m.merge.chunk) = (let low = is.merge.low in let e : length (in_area m.merge) ≡ length (pairs_in m.merge) - m.merge.current * (32 * m.merge.chunk) = length-drop (m.merge.current * (32 * m.merge.chunk)) (pairs_in m.merge) in omega arith) in
    let up : m.merge.current ≡ (m.merge.current - 1) + 1 = omega arith in
    let full : m.merge.current * (32 * m.merge.chunk) ≡ (m.merge.current - 1) * (32 * m.merge.chunk) + 32 * m.merge.chunk = ap (λ n. n * (32 * m.merge.chunk)) up ∙ grind arith in
    elim (cases_Bool (answers g.store op)) [
      | inl ok ↦ (let e : read_before m ≡ back = cond-true _ _ _ ok in
          subst (StepsOn sectors m) (sym e) (record {
            unseen = unseen_by sectors m back is refl refl refl (record { some = is.merge.some; size = is.merge.size; whole = is.merge.whole; pairs = is.merge.pairs; low = omega arith; high = omega arith }) refl;
            less = λ fine. inl (omega arith);
          }))
      | inr lost ↦ subst (StepsOn sectors m) (sym (cond-false _ _ _ lost)) (record { unseen = unseen_still sectors m (stopped read) is refl refl refl refl refl; less = λ no. absurd (true≢false no) })
    ]

-- any step
pub step_steps : (sectors : ℕ) (m : Merging) → IsMerging sectors m → StepsOn sectors m (merge_step m)
step_steps sectors m is = elim (cases_lt 0 (length (in_area m.merge))) [
  | inl some ↦ subst (StepsOn sectors m) (sym (cond-true _ _ _ (lt-ltb _ _ some))) (group_steps sectors m is some)
  | inr none ↦ (let empty : length (in_area m.merge) ≡ 0 = omega arith in
      let not_some : nat_lt 0 (length (in_area m.merge)) ≡ false = ap (nat_lt 0) empty in
      elim (cases_eq m.merge.current 0) [
        | inl first ↦ (let e : merge_step m ≡ m = cond-false _ _ _ not_some ∙ cond-true _ _ _ (eq-eqb _ _ first) in
            let len : length (in_area m.merge) ≡ length (pairs_in m.merge) - m.merge.current * (32 * m.merge.chunk) = length-drop (m.merge.current * (32 * m.merge.chunk)) (pairs_in m.merge) in
            let at : m.merge.current * (32 * m.merge.chunk) ≡ 0 * (32 * m.merge.chunk) = ap (λ x. x * (32 * m.merge.chunk)) first in
            subst (StepsOn sectors m) (sym e) (record { unseen = unseen_still sectors m m is refl refl refl refl refl; less = λ fine. inr (omega arith) }))
        | inr more ↦ subst (StepsOn sectors m) (sym (cond-false _ _ _ not_some ∙ cond-false _ _ _ (ne_eqb _ _ more))) (area_steps sectors m is empty (omega arith))
      ])
]

-- a merge that failed stands still
still_failed : (n : ℕ) (m : Merging) → m.merge.failed ≡ true → merge_steps n m ≡ m
still_failed zero m failed = refl
still_failed (suc n) m failed = cond-true _ _ _ failed

-- So many steps: nobody sees them, and where none fails and they are enough, no pair is left.
pub record StepsThrough (sectors n : ℕ) (m after : Merging) : Type 0 where
  pub unseen : IsUnseen sectors m after
  pub ends : length (pairs_in m.merge) + m.merge.current ≤ n → after.merge.failed ≡ false → length (pairs_in after.merge) ≡ 0

pub steps_through : (sectors n : ℕ) (m : Merging) → IsMerging sectors m → StepsThrough sectors n m (merge_steps n m)
steps_through sectors zero m is = record { unseen = unseen_still sectors m m is refl refl refl refl refl; ends = λ enough fine. omega arith }
steps_through sectors (suc n) m is = elim (cases_Bool m.merge.failed) [
  | inl failed ↦ subst (StepsThrough sectors (suc n) m) (sym (cond-true _ _ _ failed)) (record { unseen = unseen_still sectors m m is refl refl refl refl refl; ends = λ enough fine. absurd (true≢false (sym failed ∙ fine)) })
  | inr fine ↦ (let k : Merging = merge_step m in
      let one : StepsOn sectors m k = step_steps sectors m is in
      let rest : StepsThrough sectors n k (merge_steps n k) = steps_through sectors n k one.unseen.holds in
      subst (StepsThrough sectors (suc n) m) (sym (cond-false _ _ _ fine)) (record {
        unseen = unseen_then sectors m k (merge_steps n k) one.unseen rest.unseen;
        ends = λ enough done. elim (cases_Bool k.merge.failed) [
          | inl failed ↦ absurd (true≢false (sym (ap (λ (x : Merging). x.merge.failed) (still_failed n k failed) ∙ failed) ∙ done))
          | inr going_on ↦ rest.ends (elim (one.less going_on) [ inl less ↦ omega arith | inr none ↦ omega arith ]) done
        ];
      }))
]

-- The whole merge is not seen, whatever fails. Where nothing failed no pair is left.
pub merge_unseen : (sectors : ℕ) (m : Merging) → IsMerging sectors m → IsUnseen sectors m (merge_all m)
merge_unseen sectors m is = (steps_through sectors (length (pairs_in m.merge) + m.merge.current) m is).unseen

pub merge_ends : (sectors : ℕ) (m : Merging) → IsMerging sectors m → (merge_all m).merge.failed ≡ false → pairs_in (merge_all m).merge ≡ []
merge_ends sectors m is fine = none_of (pairs_in (merge_all m).merge) ((steps_through sectors (length (pairs_in m.merge) + m.merge.current) m is).ends (omega arith) fine)
  where
    none_of : (ps : List Pair) → length ps ≡ 0 → ps ≡ []
    none_of [] len = refl
    none_of (p ∷ ps) len = absurd (omega arith)

-- then what stands on the origin disk is what the origin showed before the merge
pub merge_leaves : (sectors : ℕ) (m : Merging) → IsMerging sectors m → (merge_all m).merge.failed ≡ false → (merge_all m).volume.origin.bytes ≡ shown_through m
merge_leaves sectors m is fine =
    let after : Merging = merge_all m in
    sym (picture_none after.merge.chunk after.volume.origin.bytes after.merge.store.bytes (merge_ends sectors m is fine)) ∙ (merge_unseen sectors m is).origin
