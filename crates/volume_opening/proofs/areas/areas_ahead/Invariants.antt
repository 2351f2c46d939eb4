use Rattle.volume_opening.specs.Seen.{IsSeen}
use Rattle.volume_opening.proofs.areas.areas_ahead.Given as goal

abbrev pub invariant-loop-area : goal.invariant-loop-area
invariant-loop-area g l = IsSeen g.B.Block.may_hold g.B.Block.contents g.B.Block.layers g.B.Block.size l.initial.store l.store
