-- One copy more is flushed.
use Rattle.std.proofs.lemmas.List.Edits.{map_over_more}
use Rattle.in_flight.specs.Flushed.{flushed_copy}
use Rattle.in_flight.proofs.copies.flush_copies.Goals as goal

pub loop-copy-preserved : goal.loop-copy-preserved
loop-copy-preserved c =
    let x = c.copy-item.result in
    let i = c.loop-copy.copy-index in
    rw (c.flushed_stage-copy.ensures, ← c.copy-item.is) (map_over_more flushed_copy c.args.copies.now c.loop-copy.copies i x c.loop-copy-test.true c.loop-copy.invariant c.copy-item.is)
