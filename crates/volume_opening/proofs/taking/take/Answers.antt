use Rattle.volume_opening.proofs.Takes.{taken_is}
use Rattle.volume_opening.proofs.taking.take.Goals as goal

pub returns : goal.returns
returns g c =
    taken_is g.B.Block.may_hold g.B.Block.contents g.B.Block.layers g.B.Block.size g.B.Ahead.failed c.args.chunk c.args.origin _ c.args.store _ c.in_ok-volume.volume
    c.are_ready.ensures.origin c.are_ready.ensures.store c.in_ok-are_ready.ensures.chunk c.in_ok-are_ready.ensures.large (g.met.B.Block.whole _)
    c.in_ok-are_ready.ensures.empty c.in_ok-volume.ensures c.in_ok-are_answered.ensures.origin c.in_ok-are_answered.ensures.stores
