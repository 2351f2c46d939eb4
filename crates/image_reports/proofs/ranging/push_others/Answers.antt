use Rattle.image_reports.specs.Ranging.{next_object}
use Rattle.image_reports.proofs.Texts.{one_more_text}
use Rattle.image_reports.proofs.ranging.push_others.Goals as goal

pub loop-range-preserved : goal.loop-range-preserved
loop-range-preserved c = one_more_text (next_object c.args.origin.now c.args.cow.now) c.args.text.now.items c.loop-range.text.items c.push_next.new.text.items c.args.ranges.now c.loop-range.range-index _ c.loop-range-test.true c.loop-range.invariant c.in_ok-push_next.ensures
