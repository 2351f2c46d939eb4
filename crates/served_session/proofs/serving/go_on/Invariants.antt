-- The array came here by its own steps.
use Rattle.volume_nbd.specs.Calls.{does_by}
use Rattle.served_session.specs.Served.{StepsTo}
use Rattle.served_session.proofs.serving.go_on.Given as goal

abbrev pub invariant-loop : goal.invariant-loop
invariant-loop g l = StepsTo (does_by g.B.Block.may_hold g.B.Block.contents g.B.Block.layers g.B.Block.size g.B.Block.fault_count g.B.Block.done_count g.B.Ahead.failed g.B.Ahead.unanswered) l.fn.array l.array
