use Rattle.std.proofs.Common.{◌∙◌, ap, not, sym}
use Rattle.layers.proofs.Blocks.{between_touches, filter-same, filter-none, list_any-same}
use Rattle.layers.proofs.dust.take_touched_off.Goals as goal

pub returns-then-any_between : goal.returns-then-any_between
returns-then-any_between c =
    c.keep_outside.ensures
    ∙ filter-same _ _ (λ x. ap not (between_touches c.args.block_size c.args.first c.args.count c.requires.nonzero c.requires.some x)) c.args.bad.now.keys

pub returns-else-any_between : goal.returns-else-any_between
returns-else-any_between c =
    sym (filter-none _ c.args.bad.now.keys (sym (list_any-same _ _ (between_touches c.args.block_size c.args.first c.args.count c.requires.nonzero c.requires.some) c.args.bad.now.keys) ∙ sym c.any_between.ensures ∙ c.if-any_between.false))
