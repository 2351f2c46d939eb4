use Rattle.std.proofs.Common.{◌≡◌, inl, inr, ℕ, ◌*◌, ◌≤◌, min, arith, refl, subst}
use Rattle.std.proofs.lemmas.Bool.{cases_lt}
use Rattle.std.proofs.Math.Nat.{mul-le-mul_right}
use Rattle.cow_merge.specs.Begun.{begun}
use Rattle.cow_merge.specs.Holding.{Rolls}
use Rattle.cow_merge.proofs.Steps.{passes_one, passes_both, leaves_kept, rolls_kept}
use Rattle.cow_merge.proofs.Merged.{rolls_synced}
use Rattle.cow_merge.proofs.merging.copy_batch.Goals as goal

pub returns-in_err-sync-clause-passes : goal.returns-in_err-sync-clause-passes
returns-in_err-sync-clause-passes g c = λ o s first lt le rolls.
    let copies = c.in_ok-copy_areas.ensures.copies o s first le rolls in
    let leaves = leaves_kept _ first _ _ _ _ copies.rolls.leaves c.sync.ensures.len c.sync.ensures.stop in
    passes_both _ _ _ _ _ _ _ _ _ _ _ _ _ (c.copy_areas.ensures.passes o s first le rolls) (passes_one _ first _ _ _ _ _ _ _ c.sync.ensures.time (c.sync.ensures.known copies.rolls.is_known) copies.rolls.reach leaves)

pub returns-in_err-sync-clause-cause : goal.returns-in_err-sync-clause-cause
returns-in_err-sync-clause-cause g c = record {
  later = (let x = c.copy_areas.ensures.cause.later in let y = c.sync.ensures.cause.later in omega arith);
  failed = λ e there. (let (o, s, first, le, rolls, given) = there in
      let copies = c.in_ok-copy_areas.ensures.copies o s first le rolls in
      let x = c.copy_areas.ensures.cause.later in
      let y = c.in_err-sync.ensures.cause.failed refl (copies.rolls.is_known, given) in
      omega arith);
}

pub returns-clause-passes : goal.returns-clause-passes
returns-clause-passes g c = λ o s first lt le rolls.
    let copies = c.in_ok-copy_areas.ensures.copies o s first le rolls in
    let leaves = leaves_kept _ first _ _ _ _ copies.rolls.leaves c.sync.ensures.len c.sync.ensures.stop in
    passes_both _ _ _ _ _ _ _ _ _ _ _ _ _ (c.copy_areas.ensures.passes o s first le rolls) (passes_one _ first _ _ _ _ _ _ _ c.sync.ensures.time (c.sync.ensures.known copies.rolls.is_known) copies.rolls.reach leaves)

pub returns-clause-rolls : goal.returns-clause-rolls
returns-clause-rolls g c = λ o s first lt le rolls.
    let b = begun c.args.sizes o s in
    let known = g.F.FileSet.is_known c.sync.new.self in
    let bytes = g.F.FileSet.bytes c.sync.new.self in
    let may = g.F.FileSet.may_hold c.sync.new.self in
    let copies = c.in_ok-copy_areas.ensures.copies o s first le rolls in
    let back = c.in_ok-copy_areas.ensures.back o s first le rolls in
    let up : first * (32 * c.args.sizes.chunk) ≤ c.args.end * (32 * c.args.sizes.chunk) = mul-le-mul_right (32 * c.args.sizes.chunk) lt in
    elim (cases_lt c.args.from first) [
      | inl less ↦ (let e : c.args.from ≡ min first c.args.from = omega arith in
          subst (λ (x : ℕ). Rolls b x known bytes may) e (rolls_synced b c.args.from first _ _ _ _ _ _ (g.F.FileSet.will_last c.copy_areas.new.files) copies.rolls (omega arith) (λ k d lo hi under inside. back k d lo (omega arith) under inside) c.sync.ensures.known c.in_ok-sync.ensures.bytes (c.in_ok-sync.ensures.synced copies.rolls.is_known) c.sync.ensures.stop))
      | inr ge ↦ (let e : first ≡ min first c.args.from = omega arith in
          subst (λ (x : ℕ). Rolls b x known bytes may) e (rolls_kept b first _ _ _ _ _ _ copies.rolls c.sync.ensures.known c.in_ok-sync.ensures.bytes c.sync.ensures.stop))
    ]

pub returns-clause-store : goal.returns-clause-store
returns-clause-store g c = λ o s first lt le rolls t v h. (c.in_ok-copy_areas.ensures.copies o s first le rolls).store t v (c.sync.ensures.stop 1 t v h)

pub returns-in_err-copy_areas-clause-passes : goal.returns-in_err-copy_areas-clause-passes
returns-in_err-copy_areas-clause-passes g c = λ o s first lt le rolls. c.copy_areas.ensures.passes o s first le rolls
