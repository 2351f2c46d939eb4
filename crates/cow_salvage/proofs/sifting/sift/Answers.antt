use Rattle.std.proofs.Common.{◌≡◌, ◌∙◌, ap, sym}
use Rattle.cow_salvage.proofs.Sifts.{sift_step}
use Rattle.cow_salvage.proofs.sifting.sift.Goals as goal

pub loop-slot-preserved : goal.loop-slot-preserved
loop-slot-preserved c =
    let i = c.loop-slot.invariant in
    let kept = c.loop-slot.sifted.kept.items in
    let why = c.why_not-why.ensures kept (c.again_in-again.ensures.old ∙ i.olds _) (c.again_in-again.ensures.new ∙ i.news _) in
    let step = sift_step c.args.chunk c.args.origin c.args.size c.args.slots.now c.loop-slot.slot-index _ kept c.loop-slot.sifted.skipped.items c.why_not-why.result c.loop-slot-test.true i.kept i.skipped why in
    record {
      kept = c.in_ok-take_slot.ensures.kept ∙ ap (λ s. s.kept) step;
      skipped = c.in_ok-take_slot.ensures.skipped ∙ ap (λ s. s.skipped) step;
      olds = c.in_ok-take_slot.ensures.olds i.olds;
      news = c.in_ok-take_slot.ensures.news i.news;
    }
