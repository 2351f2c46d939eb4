-- One mark more is safe.
use Rattle.std.proofs.Common.{get_or, false, arith}
use Rattle.std.proofs.lemmas.List.{get_or_default}
use Rattle.std.proofs.lemmas.List.Edits.{map_over_more}
use Rattle.in_flight.specs.Flushed.{safe_mark}
use Rattle.in_flight.specs.declared.copies.Mark.{Mark}
use Rattle.in_flight.proofs.copies.flush_marks.Goals as goal

pub loop-mark-preserved : goal.loop-mark-preserved
loop-mark-preserved c =
    let i = c.loop-mark.mark-index in
    let x : Mark = get_or c.loop-mark.marks i (record { number = 0; chunk = 0; safe = false }) in
    map_over_more safe_mark c.args.marks.now c.loop-mark.marks i x c.loop-mark-test.true c.loop-mark.invariant (get_or_default c.loop-mark.marks i (record { number = 0; chunk = 0; safe = false }) x (omega (arith, c.loop-mark.auto.marks, c.loop-mark-test.true)))
