use Rattle.std.proofs.Common.{arith, refl}
use Rattle.cow_merge.specs.Begun.{begun}
use Rattle.cow_merge.proofs.Steps.{passes_both, passes_none}
use Rattle.cow_merge.proofs.Areas.{copies_both, copies_none}
use Rattle.cow_merge.proofs.Gathered.{back_on, row_of}
use Rattle.cow_merge.proofs.copying.copy_slots.Goals as goal

pub loop-at-init : goal.loop-at-init
loop-at-init g c = record {
  some = c.chunks_at_once-most.ensures.some;
  few = c.chunks_at_once-most.ensures.few;
  room = c.chunks_at_once-most.ensures.room;
  faults = omega arith;
  passes = λ o s from all rolls. passes_none _ _ _ _ _ _ _ rolls;
  copies = λ o s from all rolls. copies_none _ _ _ _ _ _ rolls;
  back = λ o s from all rolls k d less. absurd (omega arith);
}

pub returns-in_err-copy_row-clause-passes : goal.returns-in_err-copy_row-clause-passes
returns-in_err-copy_row-clause-passes g c = λ o s from all rolls.
    let i = c.loop-at.invariant in
    let row = row_of (begun c.args.sizes o s) c.args.slots.now c.loop-at.at c.row_at-count.result (record { old = 0; new = 0 }) all c.row_at-count.ensures.row in
    passes_both _ _ _ _ _ _ _ _ _ _ _ _ _ (i.passes o s from all rolls) (c.copy_row.ensures.passes o s from row (i.copies o s from all rolls).rolls)

pub returns-in_err-copy_row-clause-cause : goal.returns-in_err-copy_row-clause-cause
returns-in_err-copy_row-clause-cause g c = record {
  later = (let x = c.loop-at.invariant.faults in let y = c.copy_row.ensures.cause.later in omega arith);
  failed = λ e there. (let (o, s, from, all, rolls, given) = there in
      let i = c.loop-at.invariant in
      let row = row_of (begun c.args.sizes o s) c.args.slots.now c.loop-at.at c.row_at-count.result (record { old = 0; new = 0 }) all c.row_at-count.ensures.row in
      let x = i.faults in
      let y = c.in_err-copy_row.ensures.cause.failed refl (o, s, from, row, (i.copies o s from all rolls).rolls, given) in
      omega arith);
}

pub loop-at-preserved : goal.loop-at-preserved
loop-at-preserved g c =
    let i = c.loop-at.invariant in
    let kept = c.copy_row.auto.room in
    let room = i.room in
    record {
      some = i.some;
      few = i.few;
      room = omega arith;
      faults = (let x = i.faults in let y = c.copy_row.ensures.cause.later in omega arith);
      passes = λ o s from all rolls.
          let row = row_of (begun c.args.sizes o s) c.args.slots.now c.loop-at.at c.row_at-count.result (record { old = 0; new = 0 }) all c.row_at-count.ensures.row in
          passes_both _ _ _ _ _ _ _ _ _ _ _ _ _ (i.passes o s from all rolls) (c.copy_row.ensures.passes o s from row (i.copies o s from all rolls).rolls);
      copies = λ o s from all rolls.
          let row = row_of (begun c.args.sizes o s) c.args.slots.now c.loop-at.at c.row_at-count.result (record { old = 0; new = 0 }) all c.row_at-count.ensures.row in
          copies_both _ from _ _ _ _ _ _ _ _ _ _ _ (i.copies o s from all rolls) (c.in_ok-copy_row.ensures.copies o s from row (i.copies o s from all rolls).rolls);
      back = λ o s from all rolls.
          let row = row_of (begun c.args.sizes o s) c.args.slots.now c.loop-at.at c.row_at-count.result (record { old = 0; new = 0 }) all c.row_at-count.ensures.row in
          let of = (i.copies o s from all rolls).rolls in
          let copies = c.in_ok-copy_row.ensures.copies o s from row of in
          back_on (begun c.args.sizes o s) _ _ (g.F.FileSet.will_last c.loop-at.files) (g.F.FileSet.will_last c.copy_row.new.files) c.args.slots.now c.loop-at.at c.row_at-count.result (record { old = 0; new = 0 }) (i.back o s from all rolls) copies.keeps c.row_at-count.ensures.row (c.in_ok-copy_row.ensures.back o s from row of);
    }

pub returns-clause-passes : goal.returns-clause-passes
returns-clause-passes g c = λ o s from all rolls. c.loop-at.invariant.passes o s from all rolls

pub returns-clause-copies : goal.returns-clause-copies
returns-clause-copies g c = λ o s from all rolls. c.loop-at.invariant.copies o s from all rolls

pub returns-clause-back : goal.returns-clause-back
returns-clause-back g c = λ o s from all rolls k d less.
    let test = c.loop-at-test.false in
    c.loop-at.invariant.back o s from all rolls k d (omega arith)
