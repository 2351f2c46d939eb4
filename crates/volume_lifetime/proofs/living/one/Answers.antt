-- Each arm by the volume's own contract.
use Rattle.std.proofs.Common.{[], sym, subst}
use Rattle.volume.specs.Layering.{Measures}
use Rattle.volume_lifetime.specs.declared.deed.Deed.{Deed}
use Rattle.volume_lifetime.specs.declared.deed.Deed.TheVariants.{Submit, Step, Tick, Tell, Attach, ResumeMerge}
use Rattle.volume_lifetime.specs.declared.deed.Done.TheVariants.{Submitted, Stepped, Ticked, Told, Attached, Detached, Begun, Resumed, Finished}
use Rattle.volume.proofs.OpenedCalls.{opens_alike, opens_begin, opens_resume, opens_stepped, opens_submitted, opens_told}
use Rattle.volume.proofs.Relayered.{ticked_alike}
use Rattle.volume_lifetime.specs.Answered.{IsDone}
use Rattle.volume_lifetime.specs.Doing.{IsDoneBy}
use Rattle.volume_lifetime.specs.Lasted.{OpensByDeed}
use Rattle.volume_lifetime.specs.Lived.{IsLoudDeed}
use Rattle.volume_lifetime.proofs.Lasts.{attached_opens, begin_opens, by_calls, detached_opens, finished_opens}
use Rattle.volume_lifetime.proofs.Lives.{attach_done, begin_done, detach_done, finish_done, resume_done, step_done, submit_done, tell_done, tick_done}
use Rattle.volume_lifetime.proofs.living.one.Goals as goal

pub returns-in-Submit-clause-done : goal.returns-in-Submit-clause-done
returns-in-Submit-clause-done g c =
    let m : Measures g.row.B.Denot = record { contents = g.B.Block.contents; durable = g.B.Block.durable; size = g.B.Block.size; faults = g.B.Block.fault_count; done = g.B.Block.done_count } in
    subst (λ (d : Deed g.row.B.Denot). IsDone g.B.Block.may_hold m g.B.Block.layers d (Submitted c.submit.result) c.args.volume.now c.submit.new.self) (sym c.in-Submit.is)
    (submit_done g.B.Block.may_hold m g.B.Block.layers c.in-Submit.request c.submit.result c.args.volume.now c.submit.new.self c.submit.ensures.does c.submit.ensures.refused)

pub returns-in-Attach-clause-done : goal.returns-in-Attach-clause-done
returns-in-Attach-clause-done g c =
    let m : Measures g.row.B.Denot = record { contents = g.B.Block.contents; durable = g.B.Block.durable; size = g.B.Block.size; faults = g.B.Block.fault_count; done = g.B.Block.done_count } in
    subst (λ (d : Deed g.row.B.Denot). IsDone g.B.Block.may_hold m g.B.Block.layers d (Attached c.attach.result) c.args.volume.now c.attach.new.self) (sym c.in-Attach.is)
    (attach_done g.B.Block.may_hold m g.B.Block.layers c.in-Attach.store c.in-Attach.chunk c.in-Attach.overflow c.args.volume.now c.attach.new.self c.attach.result c.attach.ensures.does c.attach.ensures.refused)

pub returns-in-BeginMerge-clause-done : goal.returns-in-BeginMerge-clause-done
returns-in-BeginMerge-clause-done g c =
    let m : Measures g.row.B.Denot = record { contents = g.B.Block.contents; durable = g.B.Block.durable; size = g.B.Block.size; faults = g.B.Block.fault_count; done = g.B.Block.done_count } in
    subst (λ (d : Deed g.row.B.Denot). IsDone g.B.Block.may_hold m g.B.Block.layers d (Begun c.begin_merge.result) c.args.volume.now c.begin_merge.new.self) (sym c.in-BeginMerge.is)
    (begin_done g.B.Block.may_hold m g.B.Block.layers c.in-BeginMerge.number c.begin_merge.result c.args.volume.now c.begin_merge.new.self c.begin_merge.ensures.does c.begin_merge.ensures.refused)

pub returns-in-Submit-clause-opens : goal.returns-in-Submit-clause-opens
returns-in-Submit-clause-opens g c = λ loud brought.
    let m : Measures g.row.B.Denot = record { contents = g.B.Block.contents; durable = g.B.Block.durable; size = g.B.Block.size; faults = g.B.Block.fault_count; done = g.B.Block.done_count } in
    rw c.in-Submit.is (by_calls g.B.Block.may_hold m g.B.Block.layers (Submit c.in-Submit.request) (Submitted c.submit.result) c.args.volume.now c.submit.new.self (opens_submitted g.B.Block.may_hold g.B.Block.contents g.B.Block.layers g.B.Block.size [] c.in-Submit.request c.submit.result c.args.volume.now c.submit.new.self c.submit.ensures.does.ok c.submit.ensures.refused c.submit.ensures.does.untouched))

pub returns-in-Step-clause-done : goal.returns-in-Step-clause-done
returns-in-Step-clause-done g c =
    let m : Measures g.row.B.Denot = record { contents = g.B.Block.contents; durable = g.B.Block.durable; size = g.B.Block.size; faults = g.B.Block.fault_count; done = g.B.Block.done_count } in
    subst (λ (d : Deed g.row.B.Denot). IsDone g.B.Block.may_hold m g.B.Block.layers d (Stepped c.step.result) c.args.volume.now c.step.new.self) (sym c.in-Step.is)
    (step_done g.B.Block.may_hold m g.B.Block.layers c.in-Step.event c.step.result c.args.volume.now c.step.new.self c.step.ensures.does)

pub returns-in-Step-clause-opens : goal.returns-in-Step-clause-opens
returns-in-Step-clause-opens g c = λ loud brought.
    let m : Measures g.row.B.Denot = record { contents = g.B.Block.contents; durable = g.B.Block.durable; size = g.B.Block.size; faults = g.B.Block.fault_count; done = g.B.Block.done_count } in
    rw c.in-Step.is (by_calls g.B.Block.may_hold m g.B.Block.layers (Step c.in-Step.event) (Stepped c.step.result) c.args.volume.now c.step.new.self (opens_stepped g.B.Block.may_hold g.B.Block.contents g.B.Block.layers g.B.Block.size [] c.in-Step.event c.step.result g.B.Block.fault_count g.B.Block.done_count c.args.volume.now c.step.new.self g.met.B.Block.whole g.met.B.Block.holds_now loud c.step.ensures.does))

pub returns-in-Tick-clause-done : goal.returns-in-Tick-clause-done
returns-in-Tick-clause-done g c =
    let m : Measures g.row.B.Denot = record { contents = g.B.Block.contents; durable = g.B.Block.durable; size = g.B.Block.size; faults = g.B.Block.fault_count; done = g.B.Block.done_count } in
    subst (λ (d : Deed g.row.B.Denot). IsDone g.B.Block.may_hold m g.B.Block.layers d Ticked c.args.volume.now c.tick.new.self) (sym c.in-Tick.is)
    (tick_done g.B.Block.may_hold m g.B.Block.layers c.in-Tick.seconds c.args.volume.now c.tick.new.self c.tick.ensures.does)

pub returns-in-Tick-clause-opens : goal.returns-in-Tick-clause-opens
returns-in-Tick-clause-opens g c = λ loud brought.
    let m : Measures g.row.B.Denot = record { contents = g.B.Block.contents; durable = g.B.Block.durable; size = g.B.Block.size; faults = g.B.Block.fault_count; done = g.B.Block.done_count } in
    rw c.in-Tick.is (by_calls g.B.Block.may_hold m g.B.Block.layers (Tick c.in-Tick.seconds) Ticked c.args.volume.now c.tick.new.self (opens_alike g.B.Block.may_hold g.B.Block.contents g.B.Block.layers g.B.Block.size c.args.volume.now c.tick.new.self (ticked_alike m g.B.Block.layers c.in-Tick.seconds c.args.volume.now c.tick.new.self c.tick.ensures.does.ticked) c.tick.ensures.does.opens []))

pub returns-in-Tell-clause-done : goal.returns-in-Tell-clause-done
returns-in-Tell-clause-done g c =
    let m : Measures g.row.B.Denot = record { contents = g.B.Block.contents; durable = g.B.Block.durable; size = g.B.Block.size; faults = g.B.Block.fault_count; done = g.B.Block.done_count } in
    subst (λ (d : Deed g.row.B.Denot). IsDone g.B.Block.may_hold m g.B.Block.layers d (Told c.message.result) c.args.volume.now c.message.new.self) (sym c.in-Tell.is)
    (tell_done g.B.Block.may_hold m g.B.Block.layers c.in-Tell.dev c.in-Tell.depth c.in-Tell.message c.message.result c.args.volume.now c.message.new.self c.message.ensures.does)

pub returns-in-Tell-clause-opens : goal.returns-in-Tell-clause-opens
returns-in-Tell-clause-opens g c = λ loud brought.
    let m : Measures g.row.B.Denot = record { contents = g.B.Block.contents; durable = g.B.Block.durable; size = g.B.Block.size; faults = g.B.Block.fault_count; done = g.B.Block.done_count } in
    rw c.in-Tell.is (by_calls g.B.Block.may_hold m g.B.Block.layers (Tell c.in-Tell.dev c.in-Tell.depth c.in-Tell.message) (Told c.message.result) c.args.volume.now c.message.new.self (opens_told g.B.Block.may_hold m g.B.Block.layers [] c.in-Tell.dev c.in-Tell.depth c.in-Tell.message c.message.result c.args.volume.now c.message.new.self c.message.ensures.does.ok c.message.ensures.does.err c.message.ensures.does.opens))

pub returns-in-Attach-clause-opens : goal.returns-in-Attach-clause-opens
returns-in-Attach-clause-opens g c = λ loud brought.
    let m : Measures g.row.B.Denot = record { contents = g.B.Block.contents; durable = g.B.Block.durable; size = g.B.Block.size; faults = g.B.Block.fault_count; done = g.B.Block.done_count } in
    let deed : Deed g.row.B.Denot = Attach c.in-Attach.store c.in-Attach.chunk c.in-Attach.overflow in
    let done = attach_done g.B.Block.may_hold m g.B.Block.layers c.in-Attach.store c.in-Attach.chunk c.in-Attach.overflow c.args.volume.now c.attach.new.self c.attach.result c.attach.ensures.does c.attach.ensures.refused in
    let fits : IsLoudDeed g.B.Block.layers deed = subst (IsLoudDeed g.B.Block.layers) c.in-Attach.is brought in
    subst (λ (d : Deed g.row.B.Denot). OpensByDeed g.B.Block.may_hold m g.B.Block.layers d (Attached c.attach.result) c.args.volume.now c.attach.new.self) (sym c.in-Attach.is)
    (attached_opens g.B.Block.may_hold m g.B.Block.layers c.in-Attach.store c.in-Attach.chunk c.in-Attach.overflow c.args.volume.now c.attach.new.self c.attach.ensures.does.origin_kept c.attach.result g.met.B.Block.whole g.met.B.Block.holds_now loud fits done c.attach.ensures.does.origin_firm c.attach.ensures.does.firm)

pub returns-in-Detach-clause-done : goal.returns-in-Detach-clause-done
returns-in-Detach-clause-done g c =
    let m : Measures g.row.B.Denot = record { contents = g.B.Block.contents; durable = g.B.Block.durable; size = g.B.Block.size; faults = g.B.Block.fault_count; done = g.B.Block.done_count } in
    subst (λ (d : Deed g.row.B.Denot). IsDone g.B.Block.may_hold m g.B.Block.layers d (Detached c.detach.result) c.args.volume.now c.detach.new.self) (sym c.in-Detach.is)
    (detach_done g.B.Block.may_hold m g.B.Block.layers c.in-Detach.number c.detach.result c.args.volume.now c.detach.new.self c.detach.ensures.does c.detach.ensures.err)

pub returns-in-Detach-clause-opens : goal.returns-in-Detach-clause-opens
returns-in-Detach-clause-opens g c = λ loud brought.
    let m : Measures g.row.B.Denot = record { contents = g.B.Block.contents; durable = g.B.Block.durable; size = g.B.Block.size; faults = g.B.Block.fault_count; done = g.B.Block.done_count } in
    rw c.in-Detach.is (detached_opens g.B.Block.may_hold m g.B.Block.layers c.in-Detach.number c.detach.result c.args.volume.now c.detach.new.self c.detach.ensures.does.taken c.detach.ensures.err)

pub returns-in-BeginMerge-clause-opens : goal.returns-in-BeginMerge-clause-opens
returns-in-BeginMerge-clause-opens g c = λ loud brought.
    let m : Measures g.row.B.Denot = record { contents = g.B.Block.contents; durable = g.B.Block.durable; size = g.B.Block.size; faults = g.B.Block.fault_count; done = g.B.Block.done_count } in
    rw c.in-BeginMerge.is (begin_opens g.B.Block.may_hold m g.B.Block.layers c.in-BeginMerge.number (Begun c.begin_merge.result) c.args.volume.now c.begin_merge.new.self (opens_begin g.B.Block.may_hold g.B.Block.contents g.B.Block.layers g.B.Block.size c.in-BeginMerge.number c.begin_merge.result c.args.volume.now c.begin_merge.new.self c.begin_merge.ensures.does.admitted c.begin_merge.ensures.does.begun c.begin_merge.ensures.refused))

pub returns-in-ResumeMerge-clause-done : goal.returns-in-ResumeMerge-clause-done
returns-in-ResumeMerge-clause-done g c =
    let m : Measures g.row.B.Denot = record { contents = g.B.Block.contents; durable = g.B.Block.durable; size = g.B.Block.size; faults = g.B.Block.fault_count; done = g.B.Block.done_count } in
    subst (λ (d : Deed g.row.B.Denot). IsDone g.B.Block.may_hold m g.B.Block.layers d (Resumed c.resume_merge.result) c.args.volume.now c.resume_merge.new.self) (sym c.in-ResumeMerge.is)
    (resume_done g.B.Block.may_hold m g.B.Block.layers c.resume_merge.result c.args.volume.now c.resume_merge.new.self c.resume_merge.ensures.does)

pub returns-in-ResumeMerge-clause-opens : goal.returns-in-ResumeMerge-clause-opens
returns-in-ResumeMerge-clause-opens g c = λ loud brought.
    let m : Measures g.row.B.Denot = record { contents = g.B.Block.contents; durable = g.B.Block.durable; size = g.B.Block.size; faults = g.B.Block.fault_count; done = g.B.Block.done_count } in
    rw c.in-ResumeMerge.is (by_calls g.B.Block.may_hold m g.B.Block.layers ResumeMerge (Resumed c.resume_merge.result) c.args.volume.now c.resume_merge.new.self (opens_resume g.B.Block.may_hold g.B.Block.contents g.B.Block.layers g.B.Block.size [] c.resume_merge.result c.args.volume.now c.resume_merge.new.self c.resume_merge.ensures.does.resumed c.resume_merge.ensures.does.err))

pub returns-in-FinishMerge-clause-done : goal.returns-in-FinishMerge-clause-done
returns-in-FinishMerge-clause-done g c =
    let m : Measures g.row.B.Denot = record { contents = g.B.Block.contents; durable = g.B.Block.durable; size = g.B.Block.size; faults = g.B.Block.fault_count; done = g.B.Block.done_count } in
    subst (λ (d : Deed g.row.B.Denot). IsDone g.B.Block.may_hold m g.B.Block.layers d (Finished c.finish_merge.result) c.args.volume.now c.finish_merge.new.self) (sym c.in-FinishMerge.is)
    (finish_done g.B.Block.may_hold m g.B.Block.layers c.finish_merge.result c.args.volume.now c.finish_merge.new.self c.finish_merge.ensures.does c.finish_merge.ensures.err)

pub returns-in-FinishMerge-clause-opens : goal.returns-in-FinishMerge-clause-opens
returns-in-FinishMerge-clause-opens g c = λ loud brought.
    let m : Measures g.row.B.Denot = record { contents = g.B.Block.contents; durable = g.B.Block.durable; size = g.B.Block.size; faults = g.B.Block.fault_count; done = g.B.Block.done_count } in
    rw c.in-FinishMerge.is (finished_opens g.B.Block.may_hold m g.B.Block.layers c.finish_merge.result c.args.volume.now c.finish_merge.new.self c.finish_merge.ensures.does.taken c.finish_merge.ensures.err)

pub returns-in-Submit-clause-by : goal.returns-in-Submit-clause-by
returns-in-Submit-clause-by g c =
    let m : Measures g.row.B.Denot = record { contents = g.B.Block.contents; durable = g.B.Block.durable; size = g.B.Block.size; faults = g.B.Block.fault_count; done = g.B.Block.done_count } in
    subst (λ (d : Deed g.row.B.Denot). IsDoneBy g.B.Block.may_hold m g.B.Block.layers d (Submitted c.submit.result) c.args.volume.now c.submit.new.self) (sym c.in-Submit.is) (c.submit.ensures.does, c.submit.ensures.refused)

pub returns-in-Step-clause-by : goal.returns-in-Step-clause-by
returns-in-Step-clause-by g c =
    let m : Measures g.row.B.Denot = record { contents = g.B.Block.contents; durable = g.B.Block.durable; size = g.B.Block.size; faults = g.B.Block.fault_count; done = g.B.Block.done_count } in
    subst (λ (d : Deed g.row.B.Denot). IsDoneBy g.B.Block.may_hold m g.B.Block.layers d (Stepped c.step.result) c.args.volume.now c.step.new.self) (sym c.in-Step.is) c.step.ensures.does

pub returns-in-Tick-clause-by : goal.returns-in-Tick-clause-by
returns-in-Tick-clause-by g c =
    let m : Measures g.row.B.Denot = record { contents = g.B.Block.contents; durable = g.B.Block.durable; size = g.B.Block.size; faults = g.B.Block.fault_count; done = g.B.Block.done_count } in
    subst (λ (d : Deed g.row.B.Denot). IsDoneBy g.B.Block.may_hold m g.B.Block.layers d (Ticked) c.args.volume.now c.tick.new.self) (sym c.in-Tick.is) c.tick.ensures.does

pub returns-in-Tell-clause-by : goal.returns-in-Tell-clause-by
returns-in-Tell-clause-by g c =
    let m : Measures g.row.B.Denot = record { contents = g.B.Block.contents; durable = g.B.Block.durable; size = g.B.Block.size; faults = g.B.Block.fault_count; done = g.B.Block.done_count } in
    subst (λ (d : Deed g.row.B.Denot). IsDoneBy g.B.Block.may_hold m g.B.Block.layers d (Told c.message.result) c.args.volume.now c.message.new.self) (sym c.in-Tell.is) c.message.ensures.does

pub returns-in-Attach-clause-by : goal.returns-in-Attach-clause-by
returns-in-Attach-clause-by g c =
    let m : Measures g.row.B.Denot = record { contents = g.B.Block.contents; durable = g.B.Block.durable; size = g.B.Block.size; faults = g.B.Block.fault_count; done = g.B.Block.done_count } in
    subst (λ (d : Deed g.row.B.Denot). IsDoneBy g.B.Block.may_hold m g.B.Block.layers d (Attached c.attach.result) c.args.volume.now c.attach.new.self) (sym c.in-Attach.is) c.attach.ensures.does

pub returns-in-Detach-clause-by : goal.returns-in-Detach-clause-by
returns-in-Detach-clause-by g c =
    let m : Measures g.row.B.Denot = record { contents = g.B.Block.contents; durable = g.B.Block.durable; size = g.B.Block.size; faults = g.B.Block.fault_count; done = g.B.Block.done_count } in
    subst (λ (d : Deed g.row.B.Denot). IsDoneBy g.B.Block.may_hold m g.B.Block.layers d (Detached c.detach.result) c.args.volume.now c.detach.new.self) (sym c.in-Detach.is) (c.detach.ensures.does, c.detach.ensures.err)

pub returns-in-BeginMerge-clause-by : goal.returns-in-BeginMerge-clause-by
returns-in-BeginMerge-clause-by g c =
    let m : Measures g.row.B.Denot = record { contents = g.B.Block.contents; durable = g.B.Block.durable; size = g.B.Block.size; faults = g.B.Block.fault_count; done = g.B.Block.done_count } in
    subst (λ (d : Deed g.row.B.Denot). IsDoneBy g.B.Block.may_hold m g.B.Block.layers d (Begun c.begin_merge.result) c.args.volume.now c.begin_merge.new.self) (sym c.in-BeginMerge.is) (c.begin_merge.ensures.does, c.begin_merge.ensures.refused)

pub returns-in-ResumeMerge-clause-by : goal.returns-in-ResumeMerge-clause-by
returns-in-ResumeMerge-clause-by g c =
    let m : Measures g.row.B.Denot = record { contents = g.B.Block.contents; durable = g.B.Block.durable; size = g.B.Block.size; faults = g.B.Block.fault_count; done = g.B.Block.done_count } in
    subst (λ (d : Deed g.row.B.Denot). IsDoneBy g.B.Block.may_hold m g.B.Block.layers d (Resumed c.resume_merge.result) c.args.volume.now c.resume_merge.new.self) (sym c.in-ResumeMerge.is) c.resume_merge.ensures.does

pub returns-in-FinishMerge-clause-by : goal.returns-in-FinishMerge-clause-by
returns-in-FinishMerge-clause-by g c =
    let m : Measures g.row.B.Denot = record { contents = g.B.Block.contents; durable = g.B.Block.durable; size = g.B.Block.size; faults = g.B.Block.fault_count; done = g.B.Block.done_count } in
    subst (λ (d : Deed g.row.B.Denot). IsDoneBy g.B.Block.may_hold m g.B.Block.layers d (Finished c.finish_merge.result) c.args.volume.now c.finish_merge.new.self) (sym c.in-FinishMerge.is) (c.finish_merge.ensures.does, c.finish_merge.ensures.err)
