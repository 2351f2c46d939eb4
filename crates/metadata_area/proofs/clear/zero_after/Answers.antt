use Rattle.std.proofs.Common.{◌∙◌}
use Rattle.metadata_area.proofs.Slots.{zeros_to_end, before_zeros, in_zeros}
use Rattle.metadata_area.proofs.clear.zero_after.Goals as goal

pub returns-clause-bytes : goal.returns-clause-bytes
returns-clause-bytes c = c.zero_bytes.ensures.bytes ∙ zeros_to_end c.args.bytes.now c.args.slot c.requires

pub returns-clause-before : goal.returns-clause-before
returns-clause-before c k lt =
    rw (c.zero_bytes.ensures.bytes, zeros_to_end c.args.bytes.now c.args.slot c.requires) (before_zeros c.args.bytes.now c.args.slot k c.requires lt)

pub returns-clause-cleared : goal.returns-clause-cleared
returns-clause-cleared c k le =
    rw (c.zero_bytes.ensures.bytes, zeros_to_end c.args.bytes.now c.args.slot c.requires) (in_zeros c.args.bytes.now c.args.slot k c.requires le)
