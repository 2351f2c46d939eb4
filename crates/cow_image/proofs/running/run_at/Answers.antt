use Rattle.std.proofs.Common.{arith}
use Rattle.cow_image.proofs.Rows.{run_past, run_between, run_here}
use Rattle.cow_image.proofs.running.run_at.Goals as goal

pub returns-then-low-pairs-clause-run : goal.returns-then-low-pairs-clause-run
returns-then-low-pairs-clause-run c = run_past c.args.pairs.now c.below-low.result c.args.number _ c.below-low.ensures.below (let h = c.if-low-pairs.true in omega arith)

pub returns-then-first-number-clause-run : goal.returns-then-first-number-clause-run
returns-then-first-number-clause-run c =
    let b = c.below-low.ensures in
    let inside = c.below-low.ensures.inside in
    let other = c.if-low-pairs.false in
    let above = c.below-low.ensures.above c.below-low.result (record { old = 0; new = 0 }) (omega arith) (omega arith) in
    run_between c.args.pairs.now c.below-low.result c.args.number _ (record { old = 0; new = 0 }) c.requires c.below-low.ensures.below (omega arith) (omega arith)

pub returns-clause-run : goal.returns-clause-run
returns-clause-run c =
    let inside = c.below-low.ensures.inside in
    let other = c.if-low-pairs.false in
    run_here c.args.pairs.now c.below-low.result c.args.number c.row_at.result (record { old = 0; new = 0 }) c.requires (omega arith) c.if-first-number.false c.row_at.ensures.row
