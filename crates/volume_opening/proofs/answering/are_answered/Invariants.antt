use Rattle.std.proofs.Common.{◌≡◌, false, take}
use Rattle.std.specs.List.{All}
use Rattle.volume_opening.proofs.answering.are_answered.Given as goal

abbrev pub invariant-loop-snap : goal.invariant-loop-snap
invariant-loop-snap g l = All (λ s. g.B.Ahead.failed s.device ≡ false) (take l.snap-index l.snap-items)
