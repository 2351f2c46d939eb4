-- One event more is done; and none is left, or one of a merge is due after the reply.
use Rattle.std.proofs.Common.{◌≡◌, ◌++◌, List, true, false, refl, sym, ◌∙◌, ap, arith}
use Rattle.std.specs.Prelude.{◌&&◌}
use Rattle.std.proofs.lemmas.List.{append-nil}
use Rattle.plain_machine.specs.declared.event.Outcome.TheVariants.{Done, Fault, Reply as Answered}
use Rattle.plain_machine.specs.declared.request.Replied.{Replied}
use Rattle.volume.specs.EventKinds.{is_of_merge}
use Rattle.volume_commands.proofs.Drains.{for_next, for_start, goes_apart, goes_untold, other_reply, other_tells, other_told, own_reply, own_tells, own_told, told_before, told_now}
use Rattle.counted_volume.proofs.Steps.{step_is}
use Rattle.volume_commands.proofs.Seen.{devices_kept}
use Rattle.counted_volume.proofs.Takings.{takes_none, takes_then}
use Rattle.volume_commands.proofs.draining.drain_for.Goals.{else-told-via-then-told+else-is_of_merge, else-told-via-else-told}
use Rattle.volume_commands.proofs.draining.drain_for.Goals as goal

pub loop-event-init : goal.loop-event-init
loop-event-init g c = record { so = for_start g.B.Block.may_hold g.B.Block.contents g.B.Block.layers g.B.Block.fault_count g.B.Block.size c.args.own _ _ c.args.volume.now.volume c.args.ended.now.items c.requires.room; taken = takes_none _ }

pub loop-event-preserved-then-number-own : goal.loop-event-preserved-then-number-own
loop-event-preserved-then-number-own g c =
    let step = step_is g.B.Block.may_hold g.B.Block.contents g.B.Block.layers g.B.Block.fault_count g.B.Block.size c.in-Some.event _ (Answered c.in-Ok-Reply.number c.in-Ok-Reply.reply) c.loop-event.volume.volume c.step.new.self.volume c.in-Some.ensures.event c.in-Some.ensures.machine c.in-Ok-Reply.field-0-is
    c.in-Ok-Reply.ensures.does.exact c.in-Ok-Reply.ensures.does.legal c.in-Ok-Reply.ensures.does.kept c.in-Ok-Reply.ensures.does.loud c.in-Ok-Reply.ensures.does.counts.0 c.in-Ok-Reply.ensures.does.flown c.in-Ok-Reply.ensures.does.cause c.in-Ok-Reply.ensures.does.closes c.in-Ok-Reply.ensures.does.stops in
    let goes : c.loop-event.told && is_of_merge c.in-Some.event ≡ false = elim c.else-told.branch [
      | else-told-via-then-told+else-is_of_merge w ↦ goes_apart c.loop-event.told (is_of_merge c.in-Some.event) (sym w.is_of_merge.ensures ∙ w.if-is_of_merge.false)
      | else-told-via-else-told w ↦ goes_untold c.loop-event.told (is_of_merge c.in-Some.event) w.if-told.false
    ] in
    record {
      so = for_next g.B.Block.may_hold g.B.Block.contents g.B.Block.layers g.B.Block.fault_count g.B.Block.size c.args.own c.loop-event.answer c.in-Ok-Reply.reply c.loop-event.told true _ _ _ _ c.args.volume.now.volume c.loop-event.volume.volume c.step.new.self.volume c.in-Some.event (Answered c.in-Ok-Reply.number c.in-Ok-Reply.reply) c.args.ended.now.items c.loop-event.ended.items c.loop-event.ended.items
          c.loop-event.invariant.so goes step (sym (append-nil c.loop-event.ended.items) ∙ ap (λ (rs : List Replied). c.loop-event.ended.items ++ rs) (sym (own_told c.in-Ok-Reply.number c.args.own c.in-Ok-Reply.reply c.loop-event.answer c.if-number-own.true)))
          (sym (own_reply c.in-Ok-Reply.number c.args.own c.in-Ok-Reply.reply c.loop-event.answer c.if-number-own.true)) (told_now c.loop-event.told _ (own_tells c.in-Ok-Reply.number c.args.own c.in-Ok-Reply.reply c.loop-event.answer c.if-number-own.true)) (omega arith) refl;
      taken = takes_then _ _ _ c.loop-event.invariant.taken c.in-Ok-Reply.ensures.taken;
    }

pub loop-event-preserved-in-Ok-Reply-2 : goal.loop-event-preserved-in-Ok-Reply-2
loop-event-preserved-in-Ok-Reply-2 g c =
    let step = step_is g.B.Block.may_hold g.B.Block.contents g.B.Block.layers g.B.Block.fault_count g.B.Block.size c.in-Some.event _ (Answered c.in-Ok-Reply.number c.in-Ok-Reply.reply) c.loop-event.volume.volume c.step.new.self.volume c.in-Some.ensures.event c.in-Some.ensures.machine c.in-Ok-Reply.field-0-is
    c.in-Ok-Reply.ensures.does.exact c.in-Ok-Reply.ensures.does.legal c.in-Ok-Reply.ensures.does.kept c.in-Ok-Reply.ensures.does.loud c.in-Ok-Reply.ensures.does.counts.0 c.in-Ok-Reply.ensures.does.flown c.in-Ok-Reply.ensures.does.cause c.in-Ok-Reply.ensures.does.closes c.in-Ok-Reply.ensures.does.stops in
    let goes : c.loop-event.told && is_of_merge c.in-Some.event ≡ false = elim c.else-told.branch [
      | else-told-via-then-told+else-is_of_merge w ↦ goes_apart c.loop-event.told (is_of_merge c.in-Some.event) (sym w.is_of_merge.ensures ∙ w.if-is_of_merge.false)
      | else-told-via-else-told w ↦ goes_untold c.loop-event.told (is_of_merge c.in-Some.event) w.if-told.false
    ] in
    record {
      so = for_next g.B.Block.may_hold g.B.Block.contents g.B.Block.layers g.B.Block.fault_count g.B.Block.size c.args.own c.loop-event.answer c.loop-event.answer c.loop-event.told c.loop-event.told _ _ _ _ c.args.volume.now.volume c.loop-event.volume.volume c.step.new.self.volume c.in-Some.event (Answered c.in-Ok-Reply.number c.in-Ok-Reply.reply) c.args.ended.now.items c.loop-event.ended.items c.push_reserved.new.self.items
          c.loop-event.invariant.so goes step (◌∙◌ {A = List Replied} c.push_reserved.ensures.items (ap (λ (rs : List Replied). c.loop-event.ended.items ++ rs) (sym (other_told c.in-Ok-Reply.number c.args.own c.in-Ok-Reply.reply c.loop-event.answer c.if-number-own.false))))
          (sym (other_reply c.in-Ok-Reply.number c.args.own c.in-Ok-Reply.reply c.loop-event.answer c.if-number-own.false)) (told_before c.loop-event.told _ (other_tells c.in-Ok-Reply.number c.args.own c.in-Ok-Reply.reply c.loop-event.answer c.if-number-own.false)) (let more = c.push_reserved.ensures.len in omega (arith, more)) c.push_reserved.ensures.capacity;
      taken = takes_then _ _ _ c.loop-event.invariant.taken c.in-Ok-Reply.ensures.taken;
    }

pub loop-event-preserved-in-Ok-Done : goal.loop-event-preserved-in-Ok-Done
loop-event-preserved-in-Ok-Done g c =
    let step = step_is g.B.Block.may_hold g.B.Block.contents g.B.Block.layers g.B.Block.fault_count g.B.Block.size c.in-Some.event _ Done c.loop-event.volume.volume c.step.new.self.volume c.in-Some.ensures.event c.in-Some.ensures.machine c.in-Ok-Done.field-0-is
    c.in-Ok-Done.ensures.does.exact c.in-Ok-Done.ensures.does.legal c.in-Ok-Done.ensures.does.kept c.in-Ok-Done.ensures.does.loud c.in-Ok-Done.ensures.does.counts.0 c.in-Ok-Done.ensures.does.flown c.in-Ok-Done.ensures.does.cause c.in-Ok-Done.ensures.does.closes c.in-Ok-Done.ensures.does.stops in
    let goes : c.loop-event.told && is_of_merge c.in-Some.event ≡ false = elim c.else-told.branch [
      | else-told-via-then-told+else-is_of_merge w ↦ goes_apart c.loop-event.told (is_of_merge c.in-Some.event) (sym w.is_of_merge.ensures ∙ w.if-is_of_merge.false)
      | else-told-via-else-told w ↦ goes_untold c.loop-event.told (is_of_merge c.in-Some.event) w.if-told.false
    ] in
    record {
      so = for_next g.B.Block.may_hold g.B.Block.contents g.B.Block.layers g.B.Block.fault_count g.B.Block.size c.args.own c.loop-event.answer c.loop-event.answer c.loop-event.told c.loop-event.told _ _ _ _ c.args.volume.now.volume c.loop-event.volume.volume c.step.new.self.volume c.in-Some.event Done c.args.ended.now.items c.loop-event.ended.items c.loop-event.ended.items
          c.loop-event.invariant.so goes step (sym (append-nil c.loop-event.ended.items)) refl (told_before c.loop-event.told _ refl) (omega arith) refl;
      taken = takes_then _ _ _ c.loop-event.invariant.taken c.in-Ok-Done.ensures.taken;
    }

pub loop-event-preserved : goal.loop-event-preserved
loop-event-preserved g c =
    let step = step_is g.B.Block.may_hold g.B.Block.contents g.B.Block.layers g.B.Block.fault_count g.B.Block.size c.in-Some.event _ Fault c.loop-event.volume.volume c.step.new.self.volume c.in-Some.ensures.event c.in-Some.ensures.machine c.in-Ok-Fault.field-0-is
    c.in-Ok-Fault.ensures.does.exact c.in-Ok-Fault.ensures.does.legal c.in-Ok-Fault.ensures.does.kept c.in-Ok-Fault.ensures.does.loud c.in-Ok-Fault.ensures.does.counts.0 c.in-Ok-Fault.ensures.does.flown c.in-Ok-Fault.ensures.does.cause c.in-Ok-Fault.ensures.does.closes c.in-Ok-Fault.ensures.does.stops in
    let goes : c.loop-event.told && is_of_merge c.in-Some.event ≡ false = elim c.else-told.branch [
      | else-told-via-then-told+else-is_of_merge w ↦ goes_apart c.loop-event.told (is_of_merge c.in-Some.event) (sym w.is_of_merge.ensures ∙ w.if-is_of_merge.false)
      | else-told-via-else-told w ↦ goes_untold c.loop-event.told (is_of_merge c.in-Some.event) w.if-told.false
    ] in
    record {
      so = for_next g.B.Block.may_hold g.B.Block.contents g.B.Block.layers g.B.Block.fault_count g.B.Block.size c.args.own c.loop-event.answer c.loop-event.answer c.loop-event.told c.loop-event.told _ _ _ _ c.args.volume.now.volume c.loop-event.volume.volume c.step.new.self.volume c.in-Some.event Fault c.args.ended.now.items c.loop-event.ended.items c.loop-event.ended.items
          c.loop-event.invariant.so goes step (sym (append-nil c.loop-event.ended.items)) refl (told_before c.loop-event.told _ refl) (omega arith) refl;
      taken = takes_then _ _ _ c.loop-event.invariant.taken c.in-Ok-Fault.ensures.taken;
    }

pub returns-then-is_of_merge-clause-kept : goal.returns-then-is_of_merge-clause-kept
returns-then-is_of_merge-clause-kept g c = devices_kept g.B.Block.size g.B.Block.layers c.args.volume.now.volume c.loop-event.volume.volume c.loop-event.invariant.so.counts.kept c.loop-event.invariant.so.counts.loud

pub returns-in_default-clause-kept : goal.returns-in_default-clause-kept
returns-in_default-clause-kept g c = devices_kept g.B.Block.size g.B.Block.layers c.args.volume.now.volume c.loop-event.volume.volume c.loop-event.invariant.so.counts.kept c.loop-event.invariant.so.counts.loud

pub returns-then-is_of_merge-clause-taken : goal.returns-then-is_of_merge-clause-taken
returns-then-is_of_merge-clause-taken g c = c.loop-event.invariant.taken

pub returns-in_default-clause-taken : goal.returns-in_default-clause-taken
returns-in_default-clause-taken g c = c.loop-event.invariant.taken
