use Rattle.std.proofs.Common.{◌≡◌, ◌<◌, length, arith}
use Rattle.volume.proofs.Relayered.{later_more, later_done}
use Rattle.volume.proofs.LastTime.{adds_more}
use Rattle.volume.proofs.time.tick_all.Goals as goal

-- src/layering.rt:19:5
pub loop-k-preserved : goal.loop-k-preserved
loop-k-preserved g c =
    let inside : c.loop-k.k < length c.loop-k.snaps = omega (arith, c.loop-k-test.true, c.loop-k.auto.snaps) in (
      later_more (record { contents = g.B.Block.contents; durable = g.B.Block.durable; size = g.B.Block.size; faults = g.B.Block.fault_count; done = g.B.Block.done_count }) g.B.Block.layers c.args.seconds c.loop-k.k c.args.snaps.now c.loop-k.snaps c.index-snaps-k.result c.tick.new.self c.loop-k.invariant.0 inside
          (record { store = record { moved = c.tick.ensures.layers; rest = c.tick.ensures.rest }; same = c.tick.ensures.same }),
      adds_more g.B.Block.may_hold g.B.Block.contents g.B.Block.layers g.B.Block.size g.met.B.Block.whole g.met.B.Block.holds_now (record { contents = g.B.Block.contents; durable = g.B.Block.durable; size = g.B.Block.size; faults = g.B.Block.fault_count; done = g.B.Block.done_count }) c.args.seconds c.loop-k.k c.args.snaps.now c.loop-k.snaps c.index-snaps-k.result c.tick.new.self c.loop-k.invariant.0 c.loop-k.invariant.1 inside c.tick.ensures.adds,
    )

-- src/layering.rt:15:1
pub returns-clause-each : goal.returns-clause-each
returns-clause-each g c =
    let whole : c.loop-k.k ≡ length c.loop-k.snaps = omega (arith, c.loop-k-test.false, c.loop-k.auto.snaps, c.loop-k.auto.k-end) in
    later_done (record { contents = g.B.Block.contents; durable = g.B.Block.durable; size = g.B.Block.size; faults = g.B.Block.fault_count; done = g.B.Block.done_count }) g.B.Block.layers c.args.seconds c.loop-k.k c.args.snaps.now c.loop-k.snaps c.loop-k.invariant.0 whole

pub returns-clause-adds : goal.returns-clause-adds
returns-clause-adds g c =
    let whole : c.loop-k.k ≡ length c.loop-k.snaps = omega (arith, c.loop-k-test.false, c.loop-k.auto.snaps, c.loop-k.auto.k-end) in
    λ k d lt. c.loop-k.invariant.1 k d (omega (arith, lt, whole, c.loop-k.invariant.0.count)) lt
