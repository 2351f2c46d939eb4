-- One event more is done; and none is left, or one of a merge is due.
use Rattle.std.proofs.Common.{refl, sym, ◌∙◌, arith}
use Rattle.std.proofs.lemmas.List.{append-nil}
use Rattle.plain_machine.specs.declared.event.Outcome.TheVariants.{Done, Fault, Reply as Answered}
use Rattle.volume_commands.proofs.Drains.{apart_next}
use Rattle.counted_volume.proofs.Steps.{step_is}
use Rattle.volume_commands.proofs.Seen.{devices_kept}
use Rattle.counted_volume.proofs.Takings.{takes_then}
use Rattle.volume_commands.proofs.draining.drain_apart.Goals as goal

pub loop-event-preserved-in-Ok-Reply : goal.loop-event-preserved-in-Ok-Reply
loop-event-preserved-in-Ok-Reply g c =
    let step = step_is g.B.Block.may_hold g.B.Block.contents g.B.Block.layers g.B.Block.fault_count g.B.Block.size c.in-Some.event _ (Answered c.in-Ok-Reply.number c.in-Ok-Reply.reply) c.loop-event.volume.volume c.step.new.self.volume c.in-Some.ensures.event c.in-Some.ensures.machine c.in-Ok-Reply.field-0-is
    c.in-Ok-Reply.ensures.does.exact c.in-Ok-Reply.ensures.does.legal c.in-Ok-Reply.ensures.does.kept c.in-Ok-Reply.ensures.does.loud c.in-Ok-Reply.ensures.does.counts.0 c.in-Ok-Reply.ensures.does.flown c.in-Ok-Reply.ensures.does.cause c.in-Ok-Reply.ensures.does.closes c.in-Ok-Reply.ensures.does.stops in
    record {
      so = apart_next g.B.Block.may_hold g.B.Block.contents g.B.Block.layers g.B.Block.fault_count g.B.Block.size _ _ _ _ c.args.volume.now.volume c.loop-event.volume.volume c.step.new.self.volume c.in-Some.event (Answered c.in-Ok-Reply.number c.in-Ok-Reply.reply) c.args.ended.now.items c.loop-event.ended.items c.push_reserved.new.self.items
          c.loop-event.invariant.so (sym c.is_of_merge.ensures ∙ c.if-is_of_merge.false) step c.push_reserved.ensures.items c.push_reserved.ensures.len c.push_reserved.ensures.capacity;
      taken = takes_then _ _ _ c.loop-event.invariant.taken c.in-Ok-Reply.ensures.taken;
    }

pub loop-event-preserved-in-Ok-Done : goal.loop-event-preserved-in-Ok-Done
loop-event-preserved-in-Ok-Done g c =
    let step = step_is g.B.Block.may_hold g.B.Block.contents g.B.Block.layers g.B.Block.fault_count g.B.Block.size c.in-Some.event _ Done c.loop-event.volume.volume c.step.new.self.volume c.in-Some.ensures.event c.in-Some.ensures.machine c.in-Ok-Done.field-0-is
    c.in-Ok-Done.ensures.does.exact c.in-Ok-Done.ensures.does.legal c.in-Ok-Done.ensures.does.kept c.in-Ok-Done.ensures.does.loud c.in-Ok-Done.ensures.does.counts.0 c.in-Ok-Done.ensures.does.flown c.in-Ok-Done.ensures.does.cause c.in-Ok-Done.ensures.does.closes c.in-Ok-Done.ensures.does.stops in
    record {
      so = apart_next g.B.Block.may_hold g.B.Block.contents g.B.Block.layers g.B.Block.fault_count g.B.Block.size _ _ _ _ c.args.volume.now.volume c.loop-event.volume.volume c.step.new.self.volume c.in-Some.event Done c.args.ended.now.items c.loop-event.ended.items c.loop-event.ended.items
          c.loop-event.invariant.so (sym c.is_of_merge.ensures ∙ c.if-is_of_merge.false) step (sym (append-nil c.loop-event.ended.items)) (omega arith) refl;
      taken = takes_then _ _ _ c.loop-event.invariant.taken c.in-Ok-Done.ensures.taken;
    }

pub loop-event-preserved : goal.loop-event-preserved
loop-event-preserved g c =
    let step = step_is g.B.Block.may_hold g.B.Block.contents g.B.Block.layers g.B.Block.fault_count g.B.Block.size c.in-Some.event _ Fault c.loop-event.volume.volume c.step.new.self.volume c.in-Some.ensures.event c.in-Some.ensures.machine c.in-Ok-Fault.field-0-is
    c.in-Ok-Fault.ensures.does.exact c.in-Ok-Fault.ensures.does.legal c.in-Ok-Fault.ensures.does.kept c.in-Ok-Fault.ensures.does.loud c.in-Ok-Fault.ensures.does.counts.0 c.in-Ok-Fault.ensures.does.flown c.in-Ok-Fault.ensures.does.cause c.in-Ok-Fault.ensures.does.closes c.in-Ok-Fault.ensures.does.stops in
    record {
      so = apart_next g.B.Block.may_hold g.B.Block.contents g.B.Block.layers g.B.Block.fault_count g.B.Block.size _ _ _ _ c.args.volume.now.volume c.loop-event.volume.volume c.step.new.self.volume c.in-Some.event Fault c.args.ended.now.items c.loop-event.ended.items c.loop-event.ended.items
          c.loop-event.invariant.so (sym c.is_of_merge.ensures ∙ c.if-is_of_merge.false) step (sym (append-nil c.loop-event.ended.items)) (omega arith) refl;
      taken = takes_then _ _ _ c.loop-event.invariant.taken c.in-Ok-Fault.ensures.taken;
    }

pub returns-then-is_of_merge-clause-kept : goal.returns-then-is_of_merge-clause-kept
returns-then-is_of_merge-clause-kept g c = devices_kept g.B.Block.size g.B.Block.layers c.args.volume.now.volume c.loop-event.volume.volume c.loop-event.invariant.so.counts.kept c.loop-event.invariant.so.counts.loud

pub returns-in_default-clause-kept : goal.returns-in_default-clause-kept
returns-in_default-clause-kept g c = devices_kept g.B.Block.size g.B.Block.layers c.args.volume.now.volume c.loop-event.volume.volume c.loop-event.invariant.so.counts.kept c.loop-event.invariant.so.counts.loud

pub returns-then-is_of_merge-clause-taken : goal.returns-then-is_of_merge-clause-taken
returns-then-is_of_merge-clause-taken g c = c.loop-event.invariant.taken

pub returns-in_default-clause-taken : goal.returns-in_default-clause-taken
returns-in_default-clause-taken g c = c.loop-event.invariant.taken
