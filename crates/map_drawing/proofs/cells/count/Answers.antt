use Rattle.std.proofs.Common.{◌<◌, ◌≤◌, ℕ, ◌/◌, length, get_or, take, ◌∙◌, arith}
use Rattle.std.specs.Prelude.{slice_index}
use Rattle.std.proofs.lemmas.List.{length-take}
use Rattle.sector.specs.declared.pair.Pair.{Pair}
use Rattle.map_drawing.proofs.Counts.{few_counted, counted_one}
use Rattle.map_drawing.proofs.cells.count.Goals as goal

pub add_one-requires : goal.add_one-requires
add_one-requires c = λ lt.
    let pair : Pair = get_or c.args.pairs.now c.loop-pair.pair-index (record { old = 0; new = 0 }) in
    let cell : ℕ = pair.old / c.args.part in
    let below : cell < length c.args.counts.now = omega (arith, lt, c.loop-pair.auto.counts) in
    let few : slice_index c.loop-pair.counts cell ≤ length (take c.loop-pair.pair-index c.args.pairs.now) = few_counted c.args.part (take c.loop-pair.pair-index c.args.pairs.now) c.loop-pair.counts (length c.args.counts.now) cell c.loop-pair.invariant below in
    let short = length-take c.loop-pair.pair-index c.args.pairs.now in
    omega (arith, few, short, c.loop-pair-test.true)

pub loop-pair-preserved : goal.loop-pair-preserved
loop-pair-preserved c = c.add_one.ensures ∙ counted_one c.args.part c.args.pairs.now c.loop-pair.counts (length c.args.counts.now) c.loop-pair.pair-index _ c.loop-pair-test.true c.loop-pair.invariant
