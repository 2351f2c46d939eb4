use Rattle.std.proofs.Common.{◌∙◌}
use Rattle.layers.proofs.Blocks.{in_range, range_ends, first_found}
use Rattle.layers.proofs.dust.any_between.Goals as goal

pub returns : goal.returns
returns c =
    let ends = c.new.ensures in
    c.is_some.ensures
    ∙ first_found _ _ (in_range c.args.low c.args.high) c.args.bad.now.keys _ _ _ c.next.ensures.steps
    (c.range.ensures.between ends.exhausted ∙ range_ends c.args.low c.args.high _ _ ends.start ends.end c.args.bad.now.keys)
