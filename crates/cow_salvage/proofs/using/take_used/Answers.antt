use Rattle.std.proofs.Common.{arith, ◌+◌, ◌∙◌, sym}
use Rattle.cow_salvage.proofs.UsedSlots.{used_more}
use Rattle.cow_salvage.proofs.using.take_used.Goals as goal

pub loop-slot-preserved : goal.loop-slot-preserved
loop-slot-preserved c = λ slot_at each before.
    used_more slot_at (c.args.first + c.loop-slot.slot) (c.args.first + (c.loop-slot.slot + 1)) c.pair.result c.loop-slot.slots.items c.add_used.new.slots.items
    (c.loop-slot.invariant slot_at each before) c.in_ok-add_used.ensures (each c.loop-slot.slot c.loop-slot-test.true ∙ sym c.pair.ensures) (omega arith)
