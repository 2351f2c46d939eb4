use Rattle.std.proofs.Common.{sym, ap, ◌∙◌, subst}
use Rattle.layers.specs.declared.stack.Stack.{Stack}
use Rattle.layers.specs.Stack.{stack_contents, stack_size}
use Rattle.plain_machine.specs.Plain.{did_overflow}
use Rattle.snapshot.specs.Kept.{Kept}
use Rattle.volume_commands.specs.Rested.{Attached}
use Rattle.volume_commands.specs.Using.{IsInUse, IsUsed}
use Rattle.command_semantics.specs.Status.{state_of}
use Rattle.device_list.specs.Status.{state_kept}
use Rattle.device_list.proofs.Places.{at_place}
use Rattle.device_list.proofs.Statuses.{attached_there, invalid_kept, kept_there, overflow_kept, used_kept}
use Rattle.device_list.proofs.Uses.{invalid_is, overflow_is, used_is}
use Rattle.device_list.proofs.stored.state_at.Goals as goal

pub returns-in-None-clause-settled : goal.returns-in-None-clause-settled
returns-in-None-clause-settled c = λ settled d.
    let at = at_place c.args.volume.now.rested c.args.k c.requires in
    invalid_is at.0 (c.in-None.ensures.live at.0 ∙ ap (λ (s : Attached Stack). s.live) (at.1.is at.0)) ∙ sym (ap state_of (at.1.held d))

pub returns-in-None-clause-held : goal.returns-in-None-clause-held
returns-in-None-clause-held c = λ d.
    let kept = kept_there c.args.volume.now.rested c.in-None.ensures.whole c.args.k c.requires in
    let at = at_place c.args.volume.now.rested c.args.k c.requires in
    invalid_kept kept.0 (c.in-None.ensures.live at.0 ∙ ap (λ (s : Attached Stack). s.live) (attached_there c.args.volume.now.rested c.in-None.ensures.whole c.args.k c.requires at.0)) ∙ sym (ap state_kept (kept.1 d))

pub returns-in-Did-clause-settled : goal.returns-in-Did-clause-settled
returns-in-Did-clause-settled c = λ settled d.
    let at = at_place c.args.volume.now.rested c.args.k c.requires in
    overflow_is at.0 (c.in-Some.ensures.live at.0 ∙ ap (λ (s : Attached Stack). s.live) (at.1.is at.0))
    (ap did_overflow (sym (c.overflow.ensures at.0 ∙ ap (λ (s : Attached Stack). s.overflow) (at.1.is at.0)) ∙ c.in-Did.is)) ∙ sym (ap state_of (at.1.held d))

pub returns-in-Did-clause-held : goal.returns-in-Did-clause-held
returns-in-Did-clause-held c = λ d.
    let kept = kept_there c.args.volume.now.rested c.in-Some.ensures.whole c.args.k c.requires in
    let at = at_place c.args.volume.now.rested c.args.k c.requires in
    let there = attached_there c.args.volume.now.rested c.in-Some.ensures.whole c.args.k c.requires at.0 in
    overflow_kept kept.0 (c.in-Some.ensures.live at.0 ∙ ap (λ (s : Attached Stack). s.live) there)
    (ap did_overflow (sym (c.overflow.ensures at.0 ∙ ap (λ (s : Attached Stack). s.overflow) there) ∙ c.in-Did.is)) ∙ sym (ap state_kept (kept.1 d))

pub returns-in-Never-clause-settled : goal.returns-in-Never-clause-settled
returns-in-Never-clause-settled c = λ settled d.
    let at = at_place c.args.volume.now.rested c.args.k c.requires in
    c.used.ensures ∙ used_is at.0 c.in-Some.usage (c.in-Some.ensures.live at.0 ∙ ap (λ (s : Attached Stack). s.live) (at.1.is at.0))
    (ap did_overflow (sym (c.overflow.ensures at.0 ∙ ap (λ (s : Attached Stack). s.overflow) (at.1.is at.0)) ∙ c.in-Never.is))
    (subst (λ (s : Attached Stack). IsUsed stack_contents stack_size s c.in-Some.usage) (at.1.is at.0) (c.in-Some.ensures.used settled at.0)) ∙ sym (ap state_of (at.1.held d))

pub returns-in-Never-clause-held : goal.returns-in-Never-clause-held
returns-in-Never-clause-held c = λ d.
    let kept = kept_there c.args.volume.now.rested c.in-Some.ensures.whole c.args.k c.requires in
    let at = at_place c.args.volume.now.rested c.args.k c.requires in
    let there = attached_there c.args.volume.now.rested c.in-Some.ensures.whole c.args.k c.requires at.0 in
    c.used.ensures ∙ used_kept kept.0 c.in-Some.usage (c.in-Some.ensures.live at.0 ∙ ap (λ (s : Attached Stack). s.live) there)
    (ap did_overflow (sym (c.overflow.ensures at.0 ∙ ap (λ (s : Attached Stack). s.overflow) there) ∙ c.in-Never.is))
    (subst (λ (s : Kept Stack). IsInUse stack_size s c.in-Some.usage) (kept.1 d) (c.in-Some.ensures.held d)) ∙ sym (ap state_kept (kept.1 d))

pub returns-in-May-clause-settled : goal.returns-in-May-clause-settled
returns-in-May-clause-settled c = λ settled d.
    let at = at_place c.args.volume.now.rested c.args.k c.requires in
    c.used-in-May.ensures ∙ used_is at.0 c.in-Some.usage (c.in-Some.ensures.live at.0 ∙ ap (λ (s : Attached Stack). s.live) (at.1.is at.0))
    (ap did_overflow (sym (c.overflow.ensures at.0 ∙ ap (λ (s : Attached Stack). s.overflow) (at.1.is at.0)) ∙ c.in-May.is))
    (subst (λ (s : Attached Stack). IsUsed stack_contents stack_size s c.in-Some.usage) (at.1.is at.0) (c.in-Some.ensures.used settled at.0)) ∙ sym (ap state_of (at.1.held d))

pub returns-in-May-clause-held : goal.returns-in-May-clause-held
returns-in-May-clause-held c = λ d.
    let kept = kept_there c.args.volume.now.rested c.in-Some.ensures.whole c.args.k c.requires in
    let at = at_place c.args.volume.now.rested c.args.k c.requires in
    let there = attached_there c.args.volume.now.rested c.in-Some.ensures.whole c.args.k c.requires at.0 in
    c.used-in-May.ensures ∙ used_kept kept.0 c.in-Some.usage (c.in-Some.ensures.live at.0 ∙ ap (λ (s : Attached Stack). s.live) there)
    (ap did_overflow (sym (c.overflow.ensures at.0 ∙ ap (λ (s : Attached Stack). s.overflow) there) ∙ c.in-May.is))
    (subst (λ (s : Kept Stack). IsInUse stack_size s c.in-Some.usage) (kept.1 d) (c.in-Some.ensures.held d)) ∙ sym (ap state_kept (kept.1 d))
