-- One event more is done; and none is left.
use Rattle.std.proofs.Common.{inl, inr, Some, refl, sym, ◌∙◌, subst}
use Rattle.std.proofs.lemmas.Bool.{true≢false}
use Rattle.plain_machine.specs.declared.event.Event.{Event}
use Rattle.plain_machine.specs.declared.event.Outcome.TheVariants.{Done, Fault, Reply as Answered}
use Rattle.volume.specs.Exact.{IsExact}
use Rattle.counted_volume.specs.Following.{IsDoneHere}
use Rattle.counted_volume.proofs.DoneDue.{done_none, done_one, done_then, due_is}
use Rattle.volume_commands.proofs.AtRest.{led_then, still_never}
use Rattle.counted_volume.proofs.Runs.{beside_none, beside_more, beside_followed}
use Rattle.volume_commands.proofs.Doing.{here_done, here_goes, here_led, here_read, here_settling}
use Rattle.volume_commands.proofs.Quiet.{still_free, free_quiet}
use Rattle.counted_volume.proofs.Takings.{takes_none, takes_then}
use Rattle.volume_commands.proofs.serving.settle.Goals as goal

pub loop-volume-init : goal.loop-volume-init
loop-volume-init g c = record {
  so = beside_none g.B.Block.contents g.B.Block.layers g.B.Block.size (Some c.args.reply) c.args.volume.now.volume c.requires.free;
  did = done_none g.B.Block.may_hold g.B.Block.contents g.B.Block.layers g.B.Block.fault_count g.B.Block.size c.args.reply c.args.volume.now.volume;
  led = inl (refl, refl);
  taken = takes_none _;
  still = λ quiet. refl;
}

pub unreachable-requires : goal.unreachable-requires
unreachable-requires g c =
    let quiet = free_quiet g.B.Block.contents g.B.Block.layers g.B.Block.size c.loop-volume.volume.volume (still_free c.loop-volume.volume.volume.merge c.in_default.ensures.quiet.1) c.in_default.ensures.quiet.0 in
    true≢false (sym quiet ∙ sym c.is_quiet.ensures.value ∙ c.loop-volume-test.true)

pub loop-volume-preserved-in-Ok-Reply : goal.loop-volume-preserved-in-Ok-Reply
loop-volume-preserved-in-Ok-Reply g c =
    let exact = c.in-Ok-Reply.ensures.does.exact in
    let is : IsExact g.B.Block.contents g.B.Block.layers c.in-Some.event _ c.loop-volume.volume.volume c.step.new.self.volume = rw c.in-Ok-Reply.field-0-is at exact in
    let step = due_is g.B.Block.may_hold g.B.Block.contents g.B.Block.layers g.B.Block.fault_count g.B.Block.size c.in-Some.event _ (Answered _ c.in-Ok-Reply.given) c.loop-volume.volume.volume c.step.new.self.volume c.in-Ok-Reply.ensures.does.due c.in-Ok-Reply.field-0-is
    c.in-Ok-Reply.ensures.does.exact c.in-Ok-Reply.ensures.does.legal c.in-Ok-Reply.ensures.does.flown c.in-Ok-Reply.ensures.does.cause c.in-Ok-Reply.ensures.does.counts.0 c.in-Ok-Reply.ensures.does.kept c.in-Ok-Reply.ensures.does.loud c.in-Ok-Reply.ensures.does.closes c.in-Ok-Reply.ensures.does.stops in
    let one = done_one g.B.Block.may_hold g.B.Block.contents g.B.Block.layers g.B.Block.fault_count g.B.Block.size c.loop-volume.reply c.in-Some.event (Answered _ c.in-Ok-Reply.given) c.loop-volume.volume.volume c.step.new.self.volume step in
    let more = done_then g.B.Block.may_hold g.B.Block.contents g.B.Block.layers g.B.Block.fault_count g.B.Block.size c.args.reply c.loop-volume.reply c.in-Ok-Reply.given c.args.volume.now.volume c.loop-volume.volume.volume c.step.new.self.volume c.loop-volume.invariant.did one in
    record {
      so = beside_more g.B.Block.contents g.B.Block.layers g.B.Block.size (Some c.args.reply) (Some c.loop-volume.reply) c.args.volume.now.volume c.loop-volume.volume.volume c.step.new.self.volume c.in-Some.event _ c.loop-volume.invariant.so
          (sym c.is_quiet.ensures.value ∙ c.loop-volume-test.true) c.in-Some.ensures.machine c.in-Some.ensures.calm c.in-Some.ensures.seen is c.in-Ok-Reply.ensures.does.loud c.in-Ok-Reply.ensures.does.kept c.in-Ok-Reply.ensures.does.counts.0;
      did = more;
      led = led_then g.B.Block.may_hold g.B.Block.contents g.B.Block.layers g.B.Block.fault_count g.B.Block.size c.args.reply c.loop-volume.reply c.in-Ok-Reply.given c.args.volume.now.volume c.loop-volume.volume.volume c.step.new.self.volume c.loop-volume.invariant.led
          (inr (c.in-Some.event, Answered _ c.in-Ok-Reply.given, c.step.new.self.volume, c.in-Some.ensures.machine, step, done_none g.B.Block.may_hold g.B.Block.contents g.B.Block.layers g.B.Block.fault_count g.B.Block.size c.in-Ok-Reply.given c.step.new.self.volume)) one;
      taken = takes_then _ _ _ c.loop-volume.invariant.taken c.in-Ok-Reply.ensures.taken;
      still = still_never c.args.volume.now.volume c.loop-volume.volume.volume c.step.new.self.volume c.loop-volume.invariant.still (sym c.is_quiet.ensures.value ∙ c.loop-volume-test.true);
    }

pub loop-volume-preserved-in-Ok-Done : goal.loop-volume-preserved-in-Ok-Done
loop-volume-preserved-in-Ok-Done g c =
    let exact = c.in-Ok-Done.ensures.does.exact in
    let is : IsExact g.B.Block.contents g.B.Block.layers c.in-Some.event _ c.loop-volume.volume.volume c.step.new.self.volume = rw c.in-Ok-Done.field-0-is at exact in
    let step = due_is g.B.Block.may_hold g.B.Block.contents g.B.Block.layers g.B.Block.fault_count g.B.Block.size c.in-Some.event _ Done c.loop-volume.volume.volume c.step.new.self.volume c.in-Ok-Done.ensures.does.due c.in-Ok-Done.field-0-is
    c.in-Ok-Done.ensures.does.exact c.in-Ok-Done.ensures.does.legal c.in-Ok-Done.ensures.does.flown c.in-Ok-Done.ensures.does.cause c.in-Ok-Done.ensures.does.counts.0 c.in-Ok-Done.ensures.does.kept c.in-Ok-Done.ensures.does.loud c.in-Ok-Done.ensures.does.closes c.in-Ok-Done.ensures.does.stops in
    let one = done_one g.B.Block.may_hold g.B.Block.contents g.B.Block.layers g.B.Block.fault_count g.B.Block.size c.loop-volume.reply c.in-Some.event Done c.loop-volume.volume.volume c.step.new.self.volume step in
    let more = done_then g.B.Block.may_hold g.B.Block.contents g.B.Block.layers g.B.Block.fault_count g.B.Block.size c.args.reply c.loop-volume.reply c.loop-volume.reply c.args.volume.now.volume c.loop-volume.volume.volume c.step.new.self.volume c.loop-volume.invariant.did one in
    record {
      so = beside_followed g.B.Block.contents g.B.Block.layers g.B.Block.size c.args.reply c.loop-volume.reply c.follow-reply.result c.args.volume.now.volume c.loop-volume.volume.volume c.step.new.self.volume c.follow-reply.new.volume.volume c.in-Some.event c.loop-volume.invariant.so
          (sym c.is_quiet.ensures.value ∙ c.loop-volume-test.true) c.in-Some.ensures.machine c.in-Some.ensures.calm c.in-Some.ensures.seen is c.in-Ok-Done.ensures.does.loud c.in-Ok-Done.ensures.does.kept c.in-Ok-Done.ensures.does.counts.0
          c.follow-reply.ensures.loud c.follow-reply.ensures.kept c.follow-reply.ensures.requests c.follow-reply.ensures.follows;
      did = done_then g.B.Block.may_hold g.B.Block.contents g.B.Block.layers g.B.Block.fault_count g.B.Block.size c.args.reply c.loop-volume.reply c.follow-reply.result c.args.volume.now.volume c.step.new.self.volume c.follow-reply.new.volume.volume more c.follow-reply.ensures.did;
      led = led_then g.B.Block.may_hold g.B.Block.contents g.B.Block.layers g.B.Block.fault_count g.B.Block.size c.args.reply c.loop-volume.reply c.follow-reply.result c.args.volume.now.volume c.loop-volume.volume.volume c.follow-reply.new.volume.volume c.loop-volume.invariant.led
          (inr (c.in-Some.event, Done, c.step.new.self.volume, c.in-Some.ensures.machine, step, c.follow-reply.ensures.did)) (done_then g.B.Block.may_hold g.B.Block.contents g.B.Block.layers g.B.Block.fault_count g.B.Block.size c.loop-volume.reply c.loop-volume.reply c.follow-reply.result c.loop-volume.volume.volume c.step.new.self.volume c.follow-reply.new.volume.volume one c.follow-reply.ensures.did);
      taken = takes_then _ _ _ (takes_then _ _ _ c.loop-volume.invariant.taken c.in-Ok-Done.ensures.taken) c.follow-reply.ensures.taken;
      still = still_never c.args.volume.now.volume c.loop-volume.volume.volume c.follow-reply.new.volume.volume c.loop-volume.invariant.still (sym c.is_quiet.ensures.value ∙ c.loop-volume-test.true);
    }

pub loop-volume-preserved : goal.loop-volume-preserved
loop-volume-preserved g c =
    let exact = c.in-Ok-Fault.ensures.does.exact in
    let is : IsExact g.B.Block.contents g.B.Block.layers c.in-Some.event _ c.loop-volume.volume.volume c.step.new.self.volume = rw c.in-Ok-Fault.field-0-is at exact in
    let step = due_is g.B.Block.may_hold g.B.Block.contents g.B.Block.layers g.B.Block.fault_count g.B.Block.size c.in-Some.event _ Fault c.loop-volume.volume.volume c.step.new.self.volume c.in-Ok-Fault.ensures.does.due c.in-Ok-Fault.field-0-is
    c.in-Ok-Fault.ensures.does.exact c.in-Ok-Fault.ensures.does.legal c.in-Ok-Fault.ensures.does.flown c.in-Ok-Fault.ensures.does.cause c.in-Ok-Fault.ensures.does.counts.0 c.in-Ok-Fault.ensures.does.kept c.in-Ok-Fault.ensures.does.loud c.in-Ok-Fault.ensures.does.closes c.in-Ok-Fault.ensures.does.stops in
    let one = done_one g.B.Block.may_hold g.B.Block.contents g.B.Block.layers g.B.Block.fault_count g.B.Block.size c.loop-volume.reply c.in-Some.event Fault c.loop-volume.volume.volume c.step.new.self.volume step in
    let more = done_then g.B.Block.may_hold g.B.Block.contents g.B.Block.layers g.B.Block.fault_count g.B.Block.size c.args.reply c.loop-volume.reply c.loop-volume.reply c.args.volume.now.volume c.loop-volume.volume.volume c.step.new.self.volume c.loop-volume.invariant.did one in
    record {
      so = beside_more g.B.Block.contents g.B.Block.layers g.B.Block.size (Some c.args.reply) (Some c.loop-volume.reply) c.args.volume.now.volume c.loop-volume.volume.volume c.step.new.self.volume c.in-Some.event _ c.loop-volume.invariant.so
          (sym c.is_quiet.ensures.value ∙ c.loop-volume-test.true) c.in-Some.ensures.machine c.in-Some.ensures.calm c.in-Some.ensures.seen is c.in-Ok-Fault.ensures.does.loud c.in-Ok-Fault.ensures.does.kept c.in-Ok-Fault.ensures.does.counts.0;
      did = more;
      led = led_then g.B.Block.may_hold g.B.Block.contents g.B.Block.layers g.B.Block.fault_count g.B.Block.size c.args.reply c.loop-volume.reply c.loop-volume.reply c.args.volume.now.volume c.loop-volume.volume.volume c.step.new.self.volume c.loop-volume.invariant.led
          (inr (c.in-Some.event, Fault, c.step.new.self.volume, c.in-Some.ensures.machine, step, done_none g.B.Block.may_hold g.B.Block.contents g.B.Block.layers g.B.Block.fault_count g.B.Block.size c.loop-volume.reply c.step.new.self.volume)) one;
      taken = takes_then _ _ _ c.loop-volume.invariant.taken c.in-Ok-Fault.ensures.taken;
      still = still_never c.args.volume.now.volume c.loop-volume.volume.volume c.step.new.self.volume c.loop-volume.invariant.still (sym c.is_quiet.ensures.value ∙ c.loop-volume-test.true);
    }

pub follow_reads-requires : goal.follow_reads-requires
follow_reads-requires g c =
    let d = subst (λ (e : Event). IsDoneHere g.B.Block.may_hold g.B.Block.contents g.B.Block.layers g.B.Block.fault_count g.B.Block.size e c.do_first.result c.loop-volume.reply c.do_first.new.reply c.loop-volume.volume c.do_first.new.volume) (sym c.in-CopyRead.is) c.do_first.ensures in
    record {
      first = here_read g.B.Block.may_hold g.B.Block.contents g.B.Block.layers g.B.Block.fault_count g.B.Block.size c.loop-volume.reply c.do_first.new.reply c.loop-volume.volume c.do_first.new.volume c.in-Some.event c.do_first.result d c.args.reply c.args.volume.now.volume c.loop-volume.invariant.so
          (sym c.is_quiet.ensures.value ∙ c.loop-volume-test.true) c.in-Some.ensures.machine c.in-Some.ensures.calm c.in-Some.ensures.seen c.in-CopyRead.number c.in-CopyRead.is c.if-do_first.true;
    }

pub loop-volume-preserved-then-do_first : goal.loop-volume-preserved-then-do_first
loop-volume-preserved-then-do_first g c =
    let d = subst (λ (e : Event). IsDoneHere g.B.Block.may_hold g.B.Block.contents g.B.Block.layers g.B.Block.fault_count g.B.Block.size e c.do_first.result c.loop-volume.reply c.do_first.new.reply c.loop-volume.volume c.do_first.new.volume) (sym c.in-CopyRead.is) c.do_first.ensures in
    let more = done_then g.B.Block.may_hold g.B.Block.contents g.B.Block.layers g.B.Block.fault_count g.B.Block.size c.args.reply c.loop-volume.reply c.do_first.new.reply c.args.volume.now.volume c.loop-volume.volume.volume c.do_first.new.volume.volume c.loop-volume.invariant.did
    (here_done g.B.Block.may_hold g.B.Block.contents g.B.Block.layers g.B.Block.fault_count g.B.Block.size c.loop-volume.reply c.do_first.new.reply c.loop-volume.volume c.do_first.new.volume c.in-Some.event c.do_first.result d) in
    record {
      so = here_goes g.B.Block.may_hold g.B.Block.contents g.B.Block.layers g.B.Block.fault_count g.B.Block.size c.loop-volume.reply c.do_first.new.reply c.loop-volume.volume c.do_first.new.volume c.in-Some.event c.do_first.result d c.args.reply c.args.volume.now.volume c.loop-volume.invariant.so
          (sym c.is_quiet.ensures.value ∙ c.loop-volume-test.true) c.in-Some.ensures.machine c.in-Some.ensures.calm c.in-Some.ensures.seen
          c.follow_reads.new.reply c.follow_reads.new.volume.volume c.follow_reads.ensures.kept c.follow_reads.ensures.requests c.follow_reads.ensures.so;
      did = done_then g.B.Block.may_hold g.B.Block.contents g.B.Block.layers g.B.Block.fault_count g.B.Block.size c.args.reply c.do_first.new.reply c.follow_reads.new.reply c.args.volume.now.volume c.do_first.new.volume.volume c.follow_reads.new.volume.volume more c.follow_reads.ensures.did;
      led = here_led g.B.Block.may_hold g.B.Block.contents g.B.Block.layers g.B.Block.fault_count g.B.Block.size c.loop-volume.reply c.do_first.new.reply c.loop-volume.volume c.do_first.new.volume c.in-Some.event c.do_first.result d c.args.reply c.follow_reads.new.reply c.args.volume.now.volume c.follow_reads.new.volume.volume c.loop-volume.invariant.led c.in-Some.ensures.machine c.follow_reads.ensures.did;
      taken = takes_then _ _ _ (takes_then _ _ _ c.loop-volume.invariant.taken d.taken) c.follow_reads.ensures.taken;
      still = still_never c.args.volume.now.volume c.loop-volume.volume.volume c.follow_reads.new.volume.volume c.loop-volume.invariant.still (sym c.is_quiet.ensures.value ∙ c.loop-volume-test.true);
    }

pub loop-volume-preserved-else-do_first : goal.loop-volume-preserved-else-do_first
loop-volume-preserved-else-do_first g c =
    let d = subst (λ (e : Event). IsDoneHere g.B.Block.may_hold g.B.Block.contents g.B.Block.layers g.B.Block.fault_count g.B.Block.size e c.do_first.result c.loop-volume.reply c.do_first.new.reply c.loop-volume.volume c.do_first.new.volume) (sym c.in-CopyRead.is) c.do_first.ensures in
    let was = c.loop-volume.invariant in
    let now =
    here_settling g.B.Block.may_hold g.B.Block.contents g.B.Block.layers g.B.Block.fault_count g.B.Block.size c.loop-volume.reply c.do_first.new.reply c.loop-volume.volume c.do_first.new.volume c.in-Some.event c.do_first.result d c.args.reply c.args.volume.now (record { so = was.so; did = was.did; led = was.led; taken = was.taken; still = was.still })
    (sym c.is_quiet.ensures.value ∙ c.loop-volume-test.true) c.in-Some.ensures.machine c.in-Some.ensures.calm c.in-Some.ensures.seen in
    record { so = now.so; did = now.did; led = now.led; taken = now.taken; still = now.still }

pub loop-volume-preserved-in-Issue : goal.loop-volume-preserved-in-Issue
loop-volume-preserved-in-Issue g c =
    let d = subst (λ (e : Event). IsDoneHere g.B.Block.may_hold g.B.Block.contents g.B.Block.layers g.B.Block.fault_count g.B.Block.size e c.do_first-in-Issue.result c.loop-volume.reply c.do_first-in-Issue.new.reply c.loop-volume.volume c.do_first-in-Issue.new.volume) (sym c.in-Issue.is) c.do_first-in-Issue.ensures in
    let was = c.loop-volume.invariant in
    let now =
    here_settling g.B.Block.may_hold g.B.Block.contents g.B.Block.layers g.B.Block.fault_count g.B.Block.size c.loop-volume.reply c.do_first-in-Issue.new.reply c.loop-volume.volume c.do_first-in-Issue.new.volume c.in-Some.event c.do_first-in-Issue.result d c.args.reply c.args.volume.now (record { so = was.so; did = was.did; led = was.led; taken = was.taken; still = was.still })
    (sym c.is_quiet.ensures.value ∙ c.loop-volume-test.true) c.in-Some.ensures.machine c.in-Some.ensures.calm c.in-Some.ensures.seen in
    record { so = now.so; did = now.did; led = now.led; taken = now.taken; still = now.still }

pub returns-clause-none : goal.returns-clause-none
returns-clause-none g c = c.is_quiet.ensures.calm c.loop-volume-test.false

pub returns-clause-run : goal.returns-clause-run
returns-clause-run g c = c.loop-volume.invariant.so.run

pub returns-clause-did : goal.returns-clause-did
returns-clause-did g c = c.loop-volume.invariant.did

pub returns-clause-led : goal.returns-clause-led
returns-clause-led g c = c.loop-volume.invariant.led

pub returns-clause-still : goal.returns-clause-still
returns-clause-still g c = c.loop-volume.invariant.still

pub returns-clause-kept : goal.returns-clause-kept
returns-clause-kept g c = c.loop-volume.invariant.so.kept

pub returns-clause-requests : goal.returns-clause-requests
returns-clause-requests g c = c.loop-volume.invariant.so.requests

pub returns-clause-taken : goal.returns-clause-taken
returns-clause-taken g c = c.loop-volume.invariant.taken
