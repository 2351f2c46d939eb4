use Rattle.std.proofs.Common.{◌∙◌}
use Rattle.layers.proofs.Blocks.{between_touches, list_any-same}
use Rattle.layers.proofs.dust.touches_any.Goals as goal

pub returns : goal.returns
returns c =
    c.any_between.ensures
    ∙ list_any-same _ _ (between_touches c.args.block_size c.args.first c.args.count c.requires.nonzero c.requires.some) c.args.bad.now.keys
