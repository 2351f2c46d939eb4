use Rattle.std.proofs.Common.{rules, arith, ap, ◌∙◌, refl}
use Rattle.std.specs.Prelude.{replicate}
use Rattle.layers.specs.Stack.{stack_contents}
use Rattle.layers.specs.Whole.{stack_small}
use Rattle.layers.proofs.Through.{read_through, zeros_at}
use Rattle.layers.proofs.layered.StackLayered.+peek.Goals as goal

pub shifted-requires : goal.shifted-requires
shifted-requires t c =
    let inside = rw c.in-Flakey.is at c.requires.inside in
    omega (arith, inside, stack_small c.in-Flakey.below.value)

pub returns-in-Flakey : goal.returns-in-Flakey
returns-in-Flakey t c =
    let inside = rw c.in-Flakey.is at c.requires.inside in
    rw c.in-Flakey.is (c.peek.ensures ∙ read_through _ _ _ _ _ _ _ _ (ap stack_contents c.deref.ensures) c.shifted.ensures.first c.shifted.ensures.count inside)

pub returns-in-Dust : goal.returns-in-Dust
returns-in-Dust t c =
    let inside = rw c.in-Dust.is at c.requires.inside in
    rw c.in-Dust.is (c.peek-in-Dust.ensures ∙ read_through _ _ 0 _ c.args.range.first _ c.args.range.first _ (ap stack_contents c.deref-in-Dust.ensures) (omega arith) refl inside)

pub returns-in-Error : goal.returns-in-Error
returns-in-Error t c =
    let inside = rw c.in-Error.is at c.requires.inside in
    rw c.in-Error.is (c.fill.ensures.after (λ y h. search rules) ∙ ap (λ n. replicate n 0) c.requires.room ∙ zeros_at _ _ _ inside)
