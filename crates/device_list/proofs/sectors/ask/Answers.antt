use Rattle.std.proofs.Common.{◌≡◌, ℕ, ap, sym, ◌∙◌, refl, subst, arith}
use Rattle.std.specs.Prelude.{Ok, Err}
use Rattle.layers.specs.declared.stack.Stack.{Stack}
use Rattle.whole_commands.specs.Devices.{sectors_of}
use Rattle.command_semantics.specs.Raw.{fits}
use Rattle.command_semantics.specs.Stacks.{device_of}
use Rattle.layers.specs.Stack.{stack_size}
use Rattle.device_stacks.proofs.StackSizes.{size_of}
use Rattle.device_list.specs.Held.{settled_in}
use Rattle.device_list.proofs.Asks.{no_serve, no_dev, no_range, no_more, asks, fits_anyway, fits_known}
use Rattle.device_list.proofs.sectors.ask.Goals as goal

pub returns-in-Err-clause-err : goal.returns-in-Err-clause-err
returns-in-Err-clause-err c = λ v state asked. no_serve c.args.role c.args.first c.args.count v (settled_in c.args.volume.now.rested) state c.in-Err.refusal (sym c.in-Err.ensures.value)

pub returns-in-Err-range_in-clause-err : goal.returns-in-Err-range_in-clause-err
returns-in-Err-range_in-clause-err c = λ v state asked. no_range c.args.role c.args.first c.args.count v (settled_in c.args.volume.now.rested) state c.in-Err-range_in.refusal (sym c.in-Ok.ensures.value)
    (subst (λ (n : ℕ). fits n c.args.first c.args.count ≡ Err c.in-Err-range_in.refusal) (c.from.ensures ∙ c.sectors_of.ensures ∙ ap (λ (s : Stack). sectors_of (device_of s)) c.origin.ensures) c.in-Err-range_in.ensures.value)

pub returns-in-Err-range_in-clause-known : goal.returns-in-Err-range_in-clause-known
returns-in-Err-range_in-clause-known c = fits_known _ _ _ c.in-Err-range_in.refusal c.in-Err-range_in.ensures.value

pub returns-in-Err-range_in-clause-room : goal.returns-in-Err-range_in-clause-room
returns-in-Err-range_in-clause-room c = fits_anyway _ _ _ c.in-Err-range_in.refusal c.in-Err-range_in.ensures.value

pub returns-in-Err-dev_of-clause-err : goal.returns-in-Err-dev_of-clause-err
returns-in-Err-dev_of-clause-err c = λ v state asked. no_dev c.args.role c.args.first c.args.count v (settled_in c.args.volume.now.rested) state c.in-Err-dev_of.refusal (sym c.in-Ok.ensures.value)
    (subst (λ (n : ℕ). fits n c.args.first c.args.count ≡ Ok tt) (c.from.ensures ∙ c.sectors_of.ensures ∙ ap (λ (s : Stack). sectors_of (device_of s)) c.origin.ensures) c.in-Ok-range_in.ensures.value)
    (sym c.in-Err-dev_of.ensures.value)

pub returns-in-Ok-count_asked-clause-ok : goal.returns-in-Ok-count_asked-clause-ok
returns-in-Ok-count_asked-clause-ok c = λ v state asked. asks c.args.role c.args.first c.args.count v (settled_in c.args.volume.now.rested) state c.in-Ok-dev_of.dev _ (sym c.in-Ok.ensures.value)
    (subst (λ (n : ℕ). fits n c.args.first c.args.count ≡ Ok tt) (c.from.ensures ∙ c.sectors_of.ensures ∙ ap (λ (s : Stack). sectors_of (device_of s)) c.origin.ensures) c.in-Ok-range_in.ensures.value)
    (sym c.in-Ok-dev_of.ensures.value)
    (sym (c.in-Ok-count_asked.ensures.value v asked))
    (rw c.in-Ok-range_in.ensures.first (rw c.in-Ok-range_in.ensures.count (rw (c.in-Ok-range_in.ensures.size ∙ c.from.ensures ∙ c.sectors_of.ensures ∙ ap (λ (s : Stack). sectors_of (device_of s)) c.origin.ensures) refl)))

pub returns-in-Ok-count_asked-clause-inside : goal.returns-in-Ok-count_asked-clause-inside
returns-in-Ok-count_asked-clause-inside c =
    let size : c.sectors_of.result ≡ stack_size c.args.volume.now.rested.origin = c.sectors_of.ensures ∙ size_of c.origin.result.now ∙ ap stack_size c.origin.ensures in
    let first = c.in-Ok-range_in.ensures.first in
    let count = c.in-Ok-range_in.ensures.count in
    let inside = c.in-Ok-range_in.ensures.inside in
    omega (arith, size, first, count, inside)

pub returns-in-Err-count_asked-clause-err : goal.returns-in-Err-count_asked-clause-err
returns-in-Err-count_asked-clause-err c = λ v state asked. no_more c.args.role c.args.first c.args.count v (settled_in c.args.volume.now.rested) state c.in-Ok-dev_of.dev c.in-Err-count_asked.refusal (sym c.in-Ok.ensures.value)
    (subst (λ (n : ℕ). fits n c.args.first c.args.count ≡ Ok tt) (c.from.ensures ∙ c.sectors_of.ensures ∙ ap (λ (s : Stack). sectors_of (device_of s)) c.origin.ensures) c.in-Ok-range_in.ensures.value)
    (sym c.in-Ok-dev_of.ensures.value)
    (sym (c.in-Err-count_asked.ensures.value v asked))
