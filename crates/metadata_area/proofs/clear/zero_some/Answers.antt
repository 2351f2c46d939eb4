use Rattle.metadata_area.proofs.Slots.{beside_zeros, among_zeros}
use Rattle.metadata_area.proofs.clear.zero_some.Goals as goal

pub returns-clause-others : goal.returns-clause-others
returns-clause-others c k apart =
    rw c.zero_bytes.ensures.bytes (beside_zeros c.args.bytes.now c.args.slot c.args.count k c.requires apart)

pub returns-clause-cleared : goal.returns-clause-cleared
returns-clause-cleared c k low high =
    rw c.zero_bytes.ensures.bytes (among_zeros c.args.bytes.now c.args.slot c.args.count k c.requires low high)
