-- What each call may open, by what it says itself.
use Rattle.std.proofs.Common.{[], ◌∷◌}
use Rattle.volume.specs.declared.calls.Call.TheVariants.{Submit, Step, Tick, Message as Tell, ResumeMerge}
use Rattle.volume.specs.Layering.{Measures}
use Rattle.volume.proofs.Between.{begin_returned, resume_returned}
use Rattle.volume.proofs.OpenedCalls.{opens_alike, opens_begin, opens_resume, opens_stepped, opens_submitted, opens_told}
use Rattle.volume.proofs.Ran.{message_returned}
use Rattle.volume.proofs.Relayered.{ticked_alike}
use Rattle.volume.proofs.Stepped.{step_returned}
use Rattle.volume.proofs.Submits.{submit_returned}
use Rattle.volume.proofs.volume.Volume.call.Goals as goal

pub returns-in-Submit-clause-returned : goal.returns-in-Submit-clause-returned
returns-in-Submit-clause-returned g c =
    let m : Measures g.row.B.Denot = record { contents = g.B.Block.contents; durable = g.B.Block.durable; size = g.B.Block.size; faults = g.B.Block.fault_count; done = g.B.Block.done_count } in
    rw c.in-Submit.is (submit_returned m g.B.Block.layers c.in-Submit.request c.submit.result c.args.self.now c.submit.new.self c.submit.ensures.does c.submit.ensures.refused)

pub returns-in-Submit-clause-opens : goal.returns-in-Submit-clause-opens
returns-in-Submit-clause-opens g c = λ loud.
    rw c.in-Submit.is (opens_submitted g.B.Block.may_hold g.B.Block.contents g.B.Block.layers g.B.Block.size (Submit c.in-Submit.request ∷ []) c.in-Submit.request c.submit.result c.args.self.now c.submit.new.self c.submit.ensures.does.ok c.submit.ensures.refused c.submit.ensures.does.untouched)

pub returns-in-Step-clause-returned : goal.returns-in-Step-clause-returned
returns-in-Step-clause-returned g c =
    let m : Measures g.row.B.Denot = record { contents = g.B.Block.contents; durable = g.B.Block.durable; size = g.B.Block.size; faults = g.B.Block.fault_count; done = g.B.Block.done_count } in
    rw c.in-Step.is (step_returned g.B.Block.may_hold m g.B.Block.layers c.in-Step.event c.step.result c.args.self.now c.step.new.self c.step.ensures.does)

pub returns-in-Step-clause-opens : goal.returns-in-Step-clause-opens
returns-in-Step-clause-opens g c = λ loud.
    rw c.in-Step.is (opens_stepped g.B.Block.may_hold g.B.Block.contents g.B.Block.layers g.B.Block.size (Step c.in-Step.event ∷ []) c.in-Step.event c.step.result g.B.Block.fault_count g.B.Block.done_count c.args.self.now c.step.new.self g.met.B.Block.whole g.met.B.Block.holds_now loud c.step.ensures.does)

pub returns-in-Tick-clause-returned : goal.returns-in-Tick-clause-returned
returns-in-Tick-clause-returned g c = rw c.in-Tick.is c.tick.ensures.does.ticked

pub returns-in-Tick-clause-opens : goal.returns-in-Tick-clause-opens
returns-in-Tick-clause-opens g c = λ loud.
    let m : Measures g.row.B.Denot = record { contents = g.B.Block.contents; durable = g.B.Block.durable; size = g.B.Block.size; faults = g.B.Block.fault_count; done = g.B.Block.done_count } in
    rw c.in-Tick.is (opens_alike g.B.Block.may_hold g.B.Block.contents g.B.Block.layers g.B.Block.size c.args.self.now c.tick.new.self (ticked_alike m g.B.Block.layers c.in-Tick.seconds c.args.self.now c.tick.new.self c.tick.ensures.does.ticked) c.tick.ensures.does.opens (Tick c.in-Tick.seconds ∷ []))

pub returns-in-Message-clause-returned : goal.returns-in-Message-clause-returned
returns-in-Message-clause-returned g c =
    let m : Measures g.row.B.Denot = record { contents = g.B.Block.contents; durable = g.B.Block.durable; size = g.B.Block.size; faults = g.B.Block.fault_count; done = g.B.Block.done_count } in
    rw c.in-Message.is (message_returned m g.B.Block.layers c.in-Message.dev c.in-Message.depth c.in-Message.message c.message.result c.args.self.now c.message.new.self c.message.ensures.does.ok c.message.ensures.does.err)

pub returns-in-Message-clause-opens : goal.returns-in-Message-clause-opens
returns-in-Message-clause-opens g c = λ loud.
    let m : Measures g.row.B.Denot = record { contents = g.B.Block.contents; durable = g.B.Block.durable; size = g.B.Block.size; faults = g.B.Block.fault_count; done = g.B.Block.done_count } in
    rw c.in-Message.is (opens_told g.B.Block.may_hold m g.B.Block.layers (Tell c.in-Message.dev c.in-Message.depth c.in-Message.message ∷ []) c.in-Message.dev c.in-Message.depth c.in-Message.message c.message.result c.args.self.now c.message.new.self c.message.ensures.does.ok c.message.ensures.does.err c.message.ensures.does.opens)

pub returns-in-BeginMerge-clause-returned : goal.returns-in-BeginMerge-clause-returned
returns-in-BeginMerge-clause-returned g c =
    let m : Measures g.row.B.Denot = record { contents = g.B.Block.contents; durable = g.B.Block.durable; size = g.B.Block.size; faults = g.B.Block.fault_count; done = g.B.Block.done_count } in
    rw c.in-BeginMerge.is (begin_returned g.B.Block.may_hold m g.B.Block.layers c.in-BeginMerge.number c.begin_merge.result c.args.self.now c.begin_merge.new.self c.begin_merge.ensures.does c.begin_merge.ensures.refused)

pub returns-in-BeginMerge-clause-opens : goal.returns-in-BeginMerge-clause-opens
returns-in-BeginMerge-clause-opens g c = λ loud.
    rw c.in-BeginMerge.is (opens_begin g.B.Block.may_hold g.B.Block.contents g.B.Block.layers g.B.Block.size c.in-BeginMerge.number c.begin_merge.result c.args.self.now c.begin_merge.new.self c.begin_merge.ensures.does.admitted c.begin_merge.ensures.does.begun c.begin_merge.ensures.refused)

pub returns-in-ResumeMerge-clause-returned : goal.returns-in-ResumeMerge-clause-returned
returns-in-ResumeMerge-clause-returned g c =
    let m : Measures g.row.B.Denot = record { contents = g.B.Block.contents; durable = g.B.Block.durable; size = g.B.Block.size; faults = g.B.Block.fault_count; done = g.B.Block.done_count } in
    rw c.in-ResumeMerge.is (resume_returned m g.B.Block.layers c.resume_merge.result c.args.self.now c.resume_merge.new.self c.resume_merge.ensures.does)

pub returns-in-ResumeMerge-clause-opens : goal.returns-in-ResumeMerge-clause-opens
returns-in-ResumeMerge-clause-opens g c = λ loud.
    rw c.in-ResumeMerge.is (opens_resume g.B.Block.may_hold g.B.Block.contents g.B.Block.layers g.B.Block.size (ResumeMerge ∷ []) c.resume_merge.result c.args.self.now c.resume_merge.new.self c.resume_merge.ensures.does.resumed c.resume_merge.ensures.does.err)
