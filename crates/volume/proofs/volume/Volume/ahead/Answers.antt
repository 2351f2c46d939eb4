-- What was told ahead of an event is told of its step.
use Rattle.volume.proofs.Faultless.{steps_calmly}
use Rattle.volume.proofs.volume.Volume.ahead.Goals as goal

pub returns-clause-faultless : goal.returns-clause-faultless
returns-clause-faultless g c =
    steps_calmly g.B.Block.contents g.B.Block.layers g.B.Block.may_hold g.B.Block.size g.B.Block.fault_count g.B.Block.done_count c.args.event c.args.self.now c.do_ahead-answered.new.self c.do_ahead-answered.result c.do_ahead-answered.ensures.does c.look.ensures.kept.whole c.do_ahead-answered.ensures.fresh c.do_ahead-answered.ensures.told
