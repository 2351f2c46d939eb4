-- The event that is due first is due, and was done.
use Rattle.std.proofs.Common.{refl}
use Rattle.plain_machine.specs.declared.event.Outcome.TheVariants.{Done, Fault, Reply as Answered}
use Rattle.counted_volume.proofs.DoneDue.{due_is}
use Rattle.volume_commands.proofs.serving.do_first.Goals as goal

pub returns-in-Ok-Reply : goal.returns-in-Ok-Reply
returns-in-Ok-Reply g c = record {
  outcome = Answered _ c.in-Ok-Reply.given;
  done = due_is g.B.Block.may_hold g.B.Block.contents g.B.Block.layers g.B.Block.fault_count g.B.Block.size c.args.event _ (Answered _ c.in-Ok-Reply.given) c.args.volume.now.volume c.step_here.new.self.volume c.in-Ok-Reply.ensures.does.due c.in-Ok-Reply.field-0-is
      c.in-Ok-Reply.ensures.does.exact c.in-Ok-Reply.ensures.does.legal c.in-Ok-Reply.ensures.does.flown c.in-Ok-Reply.ensures.does.cause c.in-Ok-Reply.ensures.does.counts.0 c.in-Ok-Reply.ensures.does.kept c.in-Ok-Reply.ensures.does.loud c.in-Ok-Reply.ensures.does.closes c.in-Ok-Reply.ensures.does.stops;
  told = refl;
  goes_on = refl;
  loud = c.in-Ok-Reply.ensures.does.loud;
  kept = c.in-Ok-Reply.ensures.does.kept;
  lower = c.in-Ok-Reply.ensures.does.lower;
  taken = c.in-Ok-Reply.ensures.taken;
}

pub returns-in-Ok-Done : goal.returns-in-Ok-Done
returns-in-Ok-Done g c = record {
  outcome = Done;
  done = due_is g.B.Block.may_hold g.B.Block.contents g.B.Block.layers g.B.Block.fault_count g.B.Block.size c.args.event _ Done c.args.volume.now.volume c.step_here.new.self.volume c.in-Ok-Done.ensures.does.due c.in-Ok-Done.field-0-is
      c.in-Ok-Done.ensures.does.exact c.in-Ok-Done.ensures.does.legal c.in-Ok-Done.ensures.does.flown c.in-Ok-Done.ensures.does.cause c.in-Ok-Done.ensures.does.counts.0 c.in-Ok-Done.ensures.does.kept c.in-Ok-Done.ensures.does.loud c.in-Ok-Done.ensures.does.closes c.in-Ok-Done.ensures.does.stops;
  told = refl;
  goes_on = refl;
  loud = c.in-Ok-Done.ensures.does.loud;
  kept = c.in-Ok-Done.ensures.does.kept;
  lower = c.in-Ok-Done.ensures.does.lower;
  taken = c.in-Ok-Done.ensures.taken;
}

pub returns-in-Ok-Fault : goal.returns-in-Ok-Fault
returns-in-Ok-Fault g c = record {
  outcome = Fault;
  done = due_is g.B.Block.may_hold g.B.Block.contents g.B.Block.layers g.B.Block.fault_count g.B.Block.size c.args.event _ Fault c.args.volume.now.volume c.step_here.new.self.volume c.in-Ok-Fault.ensures.does.due c.in-Ok-Fault.field-0-is
      c.in-Ok-Fault.ensures.does.exact c.in-Ok-Fault.ensures.does.legal c.in-Ok-Fault.ensures.does.flown c.in-Ok-Fault.ensures.does.cause c.in-Ok-Fault.ensures.does.counts.0 c.in-Ok-Fault.ensures.does.kept c.in-Ok-Fault.ensures.does.loud c.in-Ok-Fault.ensures.does.closes c.in-Ok-Fault.ensures.does.stops;
  told = refl;
  goes_on = refl;
  loud = c.in-Ok-Fault.ensures.does.loud;
  kept = c.in-Ok-Fault.ensures.does.kept;
  lower = c.in-Ok-Fault.ensures.does.lower;
  taken = c.in-Ok-Fault.ensures.taken;
}
