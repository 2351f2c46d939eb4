-- One snapshot more, which was attached before or after the merge's.
use Rattle.std.proofs.Common.{arith, sym, ap, ◌∙◌}
use Rattle.device_list.specs.Stopping.{earlier_than}
use Rattle.device_list.proofs.Stops.{earlier_here, earlier_next}
use Rattle.device_list.proofs.stopping.earlier.Goals as goal

pub returns-then-number : goal.returns-then-number
returns-then-number c =
    earlier_here c.in-Some.number c.args.volume.now.rested.snaps c.loop-k.k c.number.result (omega (arith, c.loop-k-test.true, c.len.ensures)) c.number.ensures.value c.loop-k.invariant.so c.if-number.true
    ∙ ap (λ o. earlier_than o c.args.volume.now.rested.snaps) (sym c.in-Some.is ∙ c.merging.ensures)

pub loop-k-preserved : goal.loop-k-preserved
loop-k-preserved c = (let within = c.loop-k-test.true in let len = c.len.ensures in record {
  so = earlier_next c.in-Some.number c.args.volume.now.rested.snaps c.loop-k.k c.number.result (omega (arith, within, len)) c.number.ensures.value c.loop-k.invariant.so c.if-number.false;
  most = omega (arith, within, len);
})
