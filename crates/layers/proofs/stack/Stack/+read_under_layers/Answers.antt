use Rattle.std.proofs.Common.{arith, ap, ◌∙◌, refl}
use Rattle.layers.specs.Stack.{stack_contents}
use Rattle.layers.specs.Whole.{stack_small}
use Rattle.layers.proofs.Through.{read_through}
use Rattle.layers.proofs.stack.Stack.+read_under_layers.Goals as goal

pub shifted-requires : goal.shifted-requires
shifted-requires t c =
    let inside = rw c.in-Flakey.is at c.requires.inside in
    omega (arith, inside, stack_small c.in-Flakey.below.value)

pub returns-in-Ok-clause-data : goal.returns-in-Ok-clause-data
returns-in-Ok-clause-data t c =
    let inside = rw c.in-Flakey.is at c.requires.inside in
    rw c.in-Flakey.is (c.in-Ok.ensures.data ∙ read_through _ _ _ _ _ _ _ _ (ap stack_contents c.deref_mut.ensures.value) c.shifted.ensures.first c.shifted.ensures.count inside)

pub returns-in-Ok-read_under_layers-clause-data : goal.returns-in-Ok-read_under_layers-clause-data
returns-in-Ok-read_under_layers-clause-data t c =
    let inside = rw c.in-Dust.is at c.requires.inside in
    rw c.in-Dust.is (c.in-Ok-read_under_layers.ensures.data ∙ read_through _ _ 0 _ _ _ _ _ (ap stack_contents c.deref_mut-then-passes_read-2.ensures.value) (omega arith) refl inside)

pub returns-in-Disk-clause-stop : goal.returns-in-Disk-clause-stop
returns-in-Disk-clause-stop t c s v h = rw c.in-Disk.is (c.read.ensures.stop s v h)
