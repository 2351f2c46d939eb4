-- One event more is done; and none is left.
use Rattle.std.proofs.Common.{None, refl, sym, ◌∙◌, arith}
use Rattle.std.proofs.lemmas.List.{append-nil}
use Rattle.plain_machine.specs.declared.event.Outcome.TheVariants.{Done, Fault, Reply as Answered}
use Rattle.volume_commands.proofs.Drained.{drained_merged, quiet_more, quiet_start}
use Rattle.volume_commands.proofs.Drains.{drains_more, drains_start}
use Rattle.counted_volume.proofs.Steps.{step_is}
use Rattle.volume_commands.proofs.MergeDrains.{drains_on, quiet_on}
use Rattle.volume_commands.proofs.MergeGoes.{merged_gone_on}
use Rattle.volume_commands.proofs.Quiet.{free_quiet, still_free}
use Rattle.volume_commands.proofs.Seen.{devices_kept, loud_same}
use Rattle.counted_volume.proofs.Takings.{takes_none, takes_then}
use Rattle.volume_commands.proofs.draining.drain.Goals as goal

pub loop-event-init : goal.loop-event-init
loop-event-init g c =
    let long = c.in_ok-make_room.ensures.ok in
    let few = c.flying.ensures.len in
    record {
      so = drains_start g.B.Block.may_hold g.B.Block.contents g.B.Block.layers g.B.Block.fault_count g.B.Block.size _ _ c.args.volume.now.volume c.args.ended.now.items c.make_room.new.ended.items c.make_room.ensures.items (omega (arith, long, few));
      quiet = quiet_start g.B.Block.contents g.B.Block.layers g.B.Block.size c.args.volume.now.volume c.args.ended.now.items c.make_room.new.ended.items (record {
        between = λ quiet. c.is_quiet.ensures.between (c.is_quiet.ensures.value ∙ quiet);
        calm = λ quiet. c.is_quiet.ensures.calm (c.is_quiet.ensures.value ∙ quiet);
        under = λ quiet. c.is_quiet.ensures.under (c.is_quiet.ensures.value ∙ quiet);
      }) c.make_room.ensures.items;
      taken = takes_none _;
    }

pub loop-event-preserved-in-Ok-Reply : goal.loop-event-preserved-in-Ok-Reply
loop-event-preserved-in-Ok-Reply g c =
    let step = step_is g.B.Block.may_hold g.B.Block.contents g.B.Block.layers g.B.Block.fault_count g.B.Block.size c.in-Some.event _ (Answered c.in-Ok-Reply.number c.in-Ok-Reply.reply) c.loop-event.volume.volume c.step.new.self.volume c.in-Some.ensures.event c.in-Some.ensures.machine c.in-Ok-Reply.field-0-is
    c.in-Ok-Reply.ensures.does.exact c.in-Ok-Reply.ensures.does.legal c.in-Ok-Reply.ensures.does.kept c.in-Ok-Reply.ensures.does.loud c.in-Ok-Reply.ensures.does.counts.0 c.in-Ok-Reply.ensures.does.flown c.in-Ok-Reply.ensures.does.cause c.in-Ok-Reply.ensures.does.closes c.in-Ok-Reply.ensures.does.stops in
    record {
      so = drains_more g.B.Block.may_hold g.B.Block.contents g.B.Block.layers g.B.Block.fault_count g.B.Block.size _ _ _ _ c.args.volume.now.volume c.loop-event.volume.volume c.step.new.self.volume c.in-Some.event (Answered c.in-Ok-Reply.number c.in-Ok-Reply.reply) c.args.ended.now.items c.loop-event.ended.items c.push_reserved.new.self.items
          c.loop-event.invariant.so step c.push_reserved.ensures.items c.push_reserved.ensures.len c.push_reserved.ensures.capacity;
      quiet = quiet_more g.B.Block.contents g.B.Block.layers g.B.Block.size g.B.Block.may_hold g.B.Block.fault_count c.args.volume.now.volume c.loop-event.volume.volume c.step.new.self.volume c.in-Some.event (Answered c.in-Ok-Reply.number c.in-Ok-Reply.reply) c.args.ended.now.items c.loop-event.ended.items c.push_reserved.new.self.items
          c.loop-event.invariant.quiet step c.push_reserved.ensures.items;
      taken = takes_then _ _ _ c.loop-event.invariant.taken c.in-Ok-Reply.ensures.taken;
    }

pub loop-event-preserved-in-Ok-Done : goal.loop-event-preserved-in-Ok-Done
loop-event-preserved-in-Ok-Done g c =
    let step = step_is g.B.Block.may_hold g.B.Block.contents g.B.Block.layers g.B.Block.fault_count g.B.Block.size c.in-Some.event _ Done c.loop-event.volume.volume c.step.new.self.volume c.in-Some.ensures.event c.in-Some.ensures.machine c.in-Ok-Done.field-0-is
    c.in-Ok-Done.ensures.does.exact c.in-Ok-Done.ensures.does.legal c.in-Ok-Done.ensures.does.kept c.in-Ok-Done.ensures.does.loud c.in-Ok-Done.ensures.does.counts.0 c.in-Ok-Done.ensures.does.flown c.in-Ok-Done.ensures.does.cause c.in-Ok-Done.ensures.does.closes c.in-Ok-Done.ensures.does.stops in
    let follows = c.follow_merge.ensures in
    let so = drains_more g.B.Block.may_hold g.B.Block.contents g.B.Block.layers g.B.Block.fault_count g.B.Block.size _ _ _ _ c.args.volume.now.volume c.loop-event.volume.volume c.step.new.self.volume c.in-Some.event Done c.args.ended.now.items c.loop-event.ended.items c.loop-event.ended.items
    c.loop-event.invariant.so step (sym (append-nil c.loop-event.ended.items)) (omega arith) refl in
    let quiet = quiet_more g.B.Block.contents g.B.Block.layers g.B.Block.size g.B.Block.may_hold g.B.Block.fault_count c.args.volume.now.volume c.loop-event.volume.volume c.step.new.self.volume c.in-Some.event Done c.args.ended.now.items c.loop-event.ended.items c.loop-event.ended.items
    c.loop-event.invariant.quiet step (sym (append-nil c.loop-event.ended.items)) in
    record {
      so = drains_on g.B.Block.may_hold g.B.Block.contents g.B.Block.layers g.B.Block.fault_count g.B.Block.size follows.steps _ _ c.args.volume.now.volume c.step.new.self.volume c.follow_merge.new.volume.volume c.args.ended.now.items c.loop-event.ended.items so follows.chain;
      quiet = quiet_on g.B.Block.may_hold g.B.Block.contents g.B.Block.layers g.B.Block.fault_count g.B.Block.size follows.steps c.args.volume.now.volume c.step.new.self.volume c.follow_merge.new.volume.volume c.args.ended.now.items c.loop-event.ended.items quiet follows.chain;
      taken = takes_then _ _ _ c.loop-event.invariant.taken (takes_then _ _ _ c.in-Ok-Done.ensures.taken follows.taken);
    }

pub loop-event-preserved : goal.loop-event-preserved
loop-event-preserved g c =
    let step = step_is g.B.Block.may_hold g.B.Block.contents g.B.Block.layers g.B.Block.fault_count g.B.Block.size c.in-Some.event _ Fault c.loop-event.volume.volume c.step.new.self.volume c.in-Some.ensures.event c.in-Some.ensures.machine c.in-Ok-Fault.field-0-is
    c.in-Ok-Fault.ensures.does.exact c.in-Ok-Fault.ensures.does.legal c.in-Ok-Fault.ensures.does.kept c.in-Ok-Fault.ensures.does.loud c.in-Ok-Fault.ensures.does.counts.0 c.in-Ok-Fault.ensures.does.flown c.in-Ok-Fault.ensures.does.cause c.in-Ok-Fault.ensures.does.closes c.in-Ok-Fault.ensures.does.stops in
    record {
      so = drains_more g.B.Block.may_hold g.B.Block.contents g.B.Block.layers g.B.Block.fault_count g.B.Block.size _ _ _ _ c.args.volume.now.volume c.loop-event.volume.volume c.step.new.self.volume c.in-Some.event Fault c.args.ended.now.items c.loop-event.ended.items c.loop-event.ended.items
          c.loop-event.invariant.so step (sym (append-nil c.loop-event.ended.items)) (omega arith) refl;
      quiet = quiet_more g.B.Block.contents g.B.Block.layers g.B.Block.size g.B.Block.may_hold g.B.Block.fault_count c.args.volume.now.volume c.loop-event.volume.volume c.step.new.self.volume c.in-Some.event Fault c.args.ended.now.items c.loop-event.ended.items c.loop-event.ended.items
          c.loop-event.invariant.quiet step (sym (append-nil c.loop-event.ended.items));
      taken = takes_then _ _ _ c.loop-event.invariant.taken c.in-Ok-Fault.ensures.taken;
    }

pub returns-clause-quiet : goal.returns-clause-quiet
returns-clause-quiet g c = free_quiet g.B.Block.contents g.B.Block.layers g.B.Block.size c.loop-event.volume.volume (still_free c.loop-event.volume.volume.merge c.in_default.ensures.quiet.1) c.in_default.ensures.quiet.0

pub returns-clause-merged : goal.returns-clause-merged
returns-clause-merged g c = λ settled. drained_merged g.B.Block.contents g.B.Block.layers g.B.Block.size c.args.volume.now.volume c.loop-event.volume.volume c.args.ended.now.items c.loop-event.ended.items c.loop-event.invariant.quiet c.in_default.ensures.machine settled

pub returns-clause-kept : goal.returns-clause-kept
returns-clause-kept g c = devices_kept g.B.Block.size g.B.Block.layers c.args.volume.now.volume c.loop-event.volume.volume c.loop-event.invariant.so.counts.kept c.loop-event.invariant.so.counts.loud

pub returns-clause-shows : goal.returns-clause-shows
returns-clause-shows g c = λ settled.
    merged_gone_on g.B.Block.contents g.B.Block.layers g.B.Block.size c.args.volume.now.volume c.loop-event.volume.volume
    (c.loop-event.invariant.quiet.looked.under settled.quiet (sym (loud_same g.B.Block.contents g.B.Block.layers c.args.volume.now.volume) ∙ settled.loud) None) (returns-clause-merged g c settled) (returns-clause-kept g c).numbers (returns-clause-kept g c).merging

pub returns-clause-taken : goal.returns-clause-taken
returns-clause-taken g c = c.loop-event.invariant.taken
