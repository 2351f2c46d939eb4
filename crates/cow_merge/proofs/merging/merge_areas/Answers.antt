use Rattle.std.proofs.Common.{◌≡◌, inl, inr, ℕ, ◌+◌, min, arith, refl, subst}
use Rattle.std.proofs.lemmas.Bool.{cases_lt}
use Rattle.cow_merge.specs.Begun.{begun}
use Rattle.cow_merge.specs.Holding.{Rolls}
use Rattle.cow_merge.proofs.Steps.{passes_none, passes_both}
use Rattle.cow_merge.proofs.merging.merge_areas.Goals as goal

pub loop-end-init : goal.loop-end-init
loop-end-init g c = record {
  chunk = c.requires.chunk;
  slots = c.requires.slots;
  room = c.requires.room;
  high = omega arith;
  faults = omega arith;
  passes = λ o s first lt le rolls. passes_none _ _ _ _ _ _ _ rolls;
  rolls = λ o s first lt le rolls.
      let e : first ≡ min first (c.args.last + 1) = omega arith in
      subst (λ (x : ℕ). Rolls (begun c.args.sizes o s) x (g.F.FileSet.is_known c.args.files.now) (g.F.FileSet.bytes c.args.files.now) (g.F.FileSet.may_hold c.args.files.now)) e rolls;
  gone = λ o s first lt le rolls area lo hi. absurd (omega arith);
}

pub returns-in_err-copy_batch-clause-passes : goal.returns-in_err-copy_batch-clause-passes
returns-in_err-copy_batch-clause-passes g c = λ o s first lt le rolls.
    let i = c.loop-end.invariant in
    let high = i.high in
    passes_both _ _ _ _ _ _ _ _ _ _ _ _ _ (i.passes o s first lt le rolls) (c.copy_batch.ensures.passes o s (min first c.loop-end.end) (omega arith) (omega arith) (i.rolls o s first lt le rolls))

pub returns-in_err-copy_batch-clause-cause : goal.returns-in_err-copy_batch-clause-cause
returns-in_err-copy_batch-clause-cause g c = record {
  later = (let x = c.loop-end.invariant.faults in let y = c.copy_batch.ensures.cause.later in omega arith);
  failed = λ e there. (let (o, s, first, lt, le, rolls, given) = there in
      let x = c.loop-end.invariant.faults in
      let high = c.loop-end.invariant.high in
      let y = c.in_err-copy_batch.ensures.cause.failed refl (o, s, min first c.loop-end.end, omega arith, c.loop-end.invariant.rolls o s first lt le rolls, given) in
      omega arith);
}

pub returns-in_err-clear_batch-clause-passes : goal.returns-in_err-clear_batch-clause-passes
returns-in_err-clear_batch-clause-passes g c = λ o s first lt le rolls.
    let i = c.loop-end.invariant in
    let high = i.high in
    let of = i.rolls o s first lt le rolls in
    let mid = c.in_ok-copy_batch.ensures.rolls o s (min first c.loop-end.end) (omega arith) (omega arith) of in
    passes_both _ _ _ _ _ _ _ _ _ _ _ _ _ (passes_both _ _ _ _ _ _ _ _ _ _ _ _ _ (i.passes o s first lt le rolls) (c.copy_batch.ensures.passes o s (min first c.loop-end.end) (omega arith) (omega arith) of))
    (c.clear_batch.ensures.passes o s (min (min first c.loop-end.end) c.saturating_sub-from.result) (omega arith) mid)

pub returns-in_err-clear_batch-clause-cause : goal.returns-in_err-clear_batch-clause-cause
returns-in_err-clear_batch-clause-cause g c = record {
  later = (let x = c.loop-end.invariant.faults in let y = c.copy_batch.ensures.cause.later in let z = c.clear_batch.ensures.cause.later in omega arith);
  failed = λ e there. (let (o, s, first, lt, le, rolls, given) = there in
      let i = c.loop-end.invariant in
      let high = i.high in
      let x = i.faults in
      let y = c.copy_batch.ensures.cause.later in
      let of = i.rolls o s first lt le rolls in
      let mid = c.in_ok-copy_batch.ensures.rolls o s (min first c.loop-end.end) (omega arith) (omega arith) of in
      let z = c.in_err-clear_batch.ensures.cause.failed refl (o, s, min (min first c.loop-end.end) c.saturating_sub-from.result, omega arith, omega arith, mid, given) in
      omega arith);
}

pub loop-end-preserved : goal.loop-end-preserved
loop-end-preserved g c =
    let i = c.loop-end.invariant in
    let test = c.loop-end-test.true in
    let from = c.saturating_sub-from.ensures in
    let kept = c.copy_batch.auto.room in
    let kept' = c.copy_batch.auto.slots in
    let room' = i.room in
    let slots' = i.slots in
    let high' = i.high in
    let some = c.requires.step in
    record {
      chunk = c.copy_batch.ensures.chunk;
      slots = omega arith;
      room = omega arith;
      high = omega arith;
      faults = (let x = i.faults in let y = c.copy_batch.ensures.cause.later in let z = c.clear_batch.ensures.cause.later in omega arith);
      passes = λ o s first lt le rolls.
          let of = i.rolls o s first lt le rolls in
          let mid = c.in_ok-copy_batch.ensures.rolls o s (min first c.loop-end.end) (omega arith) (omega arith) of in
          passes_both _ _ _ _ _ _ _ _ _ _ _ _ _ (passes_both _ _ _ _ _ _ _ _ _ _ _ _ _ (i.passes o s first lt le rolls) (c.copy_batch.ensures.passes o s (min first c.loop-end.end) (omega arith) (omega arith) of))
          (c.clear_batch.ensures.passes o s (min (min first c.loop-end.end) c.saturating_sub-from.result) (omega arith) mid);
      rolls = λ o s first lt le rolls.
          let of = i.rolls o s first lt le rolls in
          let mid = c.in_ok-copy_batch.ensures.rolls o s (min first c.loop-end.end) (omega arith) (omega arith) of in
          let e : min (min first c.loop-end.end) c.saturating_sub-from.result ≡ min first c.saturating_sub-from.result = omega arith in
          subst (λ (x : ℕ). Rolls (begun c.args.sizes o s) x (g.F.FileSet.is_known c.clear_batch.new.files) (g.F.FileSet.bytes c.clear_batch.new.files) (g.F.FileSet.may_hold c.clear_batch.new.files)) e
          (c.in_ok-clear_batch.ensures.rolls o s (min (min first c.loop-end.end) c.saturating_sub-from.result) (omega arith) mid);
      gone = λ o s first lt le rolls area lo hi.
          let of = i.rolls o s first lt le rolls in
          let mid = c.in_ok-copy_batch.ensures.rolls o s (min first c.loop-end.end) (omega arith) (omega arith) of in
          elim (cases_lt area c.loop-end.end) [
            | inl below ↦ c.in_ok-clear_batch.ensures.gone o s (min (min first c.loop-end.end) c.saturating_sub-from.result) (omega arith) (omega arith) mid area lo below
            | inr past ↦ c.in_ok-clear_batch.ensures.keeps o s (min (min first c.loop-end.end) c.saturating_sub-from.result) (omega arith) mid area (λ t v less h. i.gone o s first lt le rolls area past hi t v less (c.in_ok-copy_batch.ensures.store o s (min first c.loop-end.end) (omega arith) (omega arith) of _ v h))
          ];
    }

pub returns-clause-ends : goal.returns-clause-ends
returns-clause-ends g c = λ o s first lt le rolls.
    let i = c.loop-end.invariant in
    let test = c.loop-end-test.false in
    let none : min first c.loop-end.end ≡ 0 = omega arith in
    record {
      rolls = subst (λ (x : ℕ). Rolls (begun c.args.sizes o s) x (g.F.FileSet.is_known c.loop-end.files) (g.F.FileSet.bytes c.loop-end.files) (g.F.FileSet.may_hold c.loop-end.files)) none (i.rolls o s first lt le rolls);
      gone = λ area small. i.gone o s first lt le rolls area (omega arith) small;
    }
