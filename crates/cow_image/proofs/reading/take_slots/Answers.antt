use Rattle.cow_image.proofs.Loads.{load_more}
use Rattle.cow_image.proofs.reading.take_slots.Goals as goal

pub loop-slot-preserved : goal.loop-slot-preserved
loop-slot-preserved c =
    load_more c.args.pairs.now.items c.loop-slot.pairs.items _ c.args.area.now.bytes.items c.loop-slot.slot c.pair.result c.loop-slot.invariant c.in-Ok.ensures.items c.pair.ensures (c.first_empty-count.ensures.used c.loop-slot.slot c.loop-slot-test.true)
