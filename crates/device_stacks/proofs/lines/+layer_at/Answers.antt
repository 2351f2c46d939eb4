use Rattle.std.proofs.Common.{◌≡◌, sym, ap, subst, arith}
use Rattle.std.specs.Prelude.{Option, Some, None, IfSome, IfNone}
use Rattle.layers.specs.Stack.{below_of}
use Rattle.whole_commands.specs.Devices.{Device}
use Rattle.command_semantics.specs.Stacks.{device_of}
use Rattle.device_stacks.proofs.Below.{below_at}
use Rattle.device_stacks.proofs.lines.+layer_at.Goals as goal

pub returns-in-Flakey-clause-there : goal.returns-in-Flakey-clause-there
returns-in-Flakey-clause-there t c =
    let some = c.if-depth-eq0.false in
    let down = below_at c.args.stack.now c.in-Flakey.below.value c.deref.result.now c.args.depth (ap below_of c.in-Flakey.is) c.deref.ensures (omega (arith, some)) in
    let There : Option Device → Type 0 = λ o. IfSome c.layer_at.result (λ s. o ≡ Some (device_of s.now)) in
    subst There (sym down) c.layer_at.ensures.there

pub returns-in-Flakey-clause-none : goal.returns-in-Flakey-clause-none
returns-in-Flakey-clause-none t c =
    let some = c.if-depth-eq0.false in
    let down = below_at c.args.stack.now c.in-Flakey.below.value c.deref.result.now c.args.depth (ap below_of c.in-Flakey.is) c.deref.ensures (omega (arith, some)) in
    let Gone : Option Device → Type 0 = λ o. IfNone c.layer_at.result (o ≡ None) in
    subst Gone (sym down) c.layer_at.ensures.none

pub returns-in-Dust-clause-there : goal.returns-in-Dust-clause-there
returns-in-Dust-clause-there t c =
    let some = c.if-depth-eq0.false in
    let down = below_at c.args.stack.now c.in-Dust.below.value c.deref-in-Dust.result.now c.args.depth (ap below_of c.in-Dust.is) c.deref-in-Dust.ensures (omega (arith, some)) in
    let There : Option Device → Type 0 = λ o. IfSome c.layer_at-in-Dust.result (λ s. o ≡ Some (device_of s.now)) in
    subst There (sym down) c.layer_at-in-Dust.ensures.there

pub returns-in-Dust-clause-none : goal.returns-in-Dust-clause-none
returns-in-Dust-clause-none t c =
    let some = c.if-depth-eq0.false in
    let down = below_at c.args.stack.now c.in-Dust.below.value c.deref-in-Dust.result.now c.args.depth (ap below_of c.in-Dust.is) c.deref-in-Dust.ensures (omega (arith, some)) in
    let Gone : Option Device → Type 0 = λ o. IfNone c.layer_at-in-Dust.result (o ≡ None) in
    subst Gone (sym down) c.layer_at-in-Dust.ensures.none
