-- The event was done, or it was not due.
use Rattle.plain_machine.specs.declared.event.Outcome.TheVariants.{Done, Fault, Reply as Answered}
use Rattle.counted_volume.proofs.DoneDue.{due_is}
use Rattle.counted_volume.proofs.Carrying.{done_carried, not_carried}
use Rattle.counted_volume.proofs.following.carry_one.Goals as goal

pub returns-in-Ok-Reply : goal.returns-in-Ok-Reply
returns-in-Ok-Reply g c =
    let step = due_is g.B.Block.may_hold g.B.Block.contents g.B.Block.layers g.B.Block.fault_count g.B.Block.size c.args.event _ (Answered _ c.in-Ok-Reply.given) c.args.volume.now.volume c.step_here.new.self.volume c.in-Ok-Reply.ensures.does.due c.in-Ok-Reply.field-0-is c.in-Ok-Reply.ensures.does.exact c.in-Ok-Reply.ensures.does.legal c.in-Ok-Reply.ensures.does.flown c.in-Ok-Reply.ensures.does.cause c.in-Ok-Reply.ensures.does.counts.0 c.in-Ok-Reply.ensures.does.kept c.in-Ok-Reply.ensures.does.loud c.in-Ok-Reply.ensures.does.closes c.in-Ok-Reply.ensures.does.stops in
    done_carried g.B.Block.may_hold g.B.Block.contents g.B.Block.layers g.B.Block.fault_count g.B.Block.size c.args.event (Answered _ c.in-Ok-Reply.given) c.args.reply.now c.args.volume.now c.step_here.new.self c.in-Ok-Reply.ensures.does.loud c.in-Ok-Reply.ensures.does.kept c.in-Ok-Reply.ensures.does.lower c.in-Ok-Reply.ensures.taken step

pub returns-in-Ok-Done : goal.returns-in-Ok-Done
returns-in-Ok-Done g c =
    let step = due_is g.B.Block.may_hold g.B.Block.contents g.B.Block.layers g.B.Block.fault_count g.B.Block.size c.args.event _ Done c.args.volume.now.volume c.step_here.new.self.volume c.in-Ok-Done.ensures.does.due c.in-Ok-Done.field-0-is c.in-Ok-Done.ensures.does.exact c.in-Ok-Done.ensures.does.legal c.in-Ok-Done.ensures.does.flown c.in-Ok-Done.ensures.does.cause c.in-Ok-Done.ensures.does.counts.0 c.in-Ok-Done.ensures.does.kept c.in-Ok-Done.ensures.does.loud c.in-Ok-Done.ensures.does.closes c.in-Ok-Done.ensures.does.stops in
    done_carried g.B.Block.may_hold g.B.Block.contents g.B.Block.layers g.B.Block.fault_count g.B.Block.size c.args.event Done c.args.reply.now c.args.volume.now c.step_here.new.self c.in-Ok-Done.ensures.does.loud c.in-Ok-Done.ensures.does.kept c.in-Ok-Done.ensures.does.lower c.in-Ok-Done.ensures.taken step

pub returns-in-Ok-Fault : goal.returns-in-Ok-Fault
returns-in-Ok-Fault g c =
    let step = due_is g.B.Block.may_hold g.B.Block.contents g.B.Block.layers g.B.Block.fault_count g.B.Block.size c.args.event _ Fault c.args.volume.now.volume c.step_here.new.self.volume c.in-Ok-Fault.ensures.does.due c.in-Ok-Fault.field-0-is c.in-Ok-Fault.ensures.does.exact c.in-Ok-Fault.ensures.does.legal c.in-Ok-Fault.ensures.does.flown c.in-Ok-Fault.ensures.does.cause c.in-Ok-Fault.ensures.does.counts.0 c.in-Ok-Fault.ensures.does.kept c.in-Ok-Fault.ensures.does.loud c.in-Ok-Fault.ensures.does.closes c.in-Ok-Fault.ensures.does.stops in
    done_carried g.B.Block.may_hold g.B.Block.contents g.B.Block.layers g.B.Block.fault_count g.B.Block.size c.args.event Fault c.args.reply.now c.args.volume.now c.step_here.new.self c.in-Ok-Fault.ensures.does.loud c.in-Ok-Fault.ensures.does.kept c.in-Ok-Fault.ensures.does.lower c.in-Ok-Fault.ensures.taken step

pub returns-in-Err : goal.returns-in-Err
returns-in-Err g c = not_carried g.B.Block.may_hold g.B.Block.contents g.B.Block.layers g.B.Block.fault_count g.B.Block.size c.args.event c.args.reply.now c.args.volume.now c.step_here.new.self c.in-Err.ensures.does.same c.in-Err.ensures.taken
