use Rattle.std.proofs.Common.{arith, refl, ◌≡◌, ◌+◌}
use Rattle.layers.specs.Stack.{stack_contents}
use Rattle.layers.proofs.Through.{sector_through, loud_below_flakey, loud_below_dust}
use Rattle.layers.proofs.stack.Stack.+flush_under_layers.Goals as goal

pub returns-in-Ok-clause-stop : goal.returns-in-Ok-clause-stop
returns-in-Ok-clause-stop t c s v h = rw c.in-Disk.is (c.flush.ensures.stop s v h)

pub returns-in-Ok-flush_under_layers-clause-flushed : goal.returns-in-Ok-flush_under_layers-clause-flushed
returns-in-Ok-flush_under_layers-clause-flushed t c loud s v lt h =
    sector_through (stack_contents c.flush_under_layers.new.self) _ _ s v lt
    (c.in-Ok-flush_under_layers.ensures.flushed (loud_below_flakey c.args.self.now c.in-Flakey.is c.deref_mut.ensures.value loud) _ v (omega (arith, lt)) h)

pub returns-in-Ok-flush_under_layers-2-clause-flushed : goal.returns-in-Ok-flush_under_layers-2-clause-flushed
returns-in-Ok-flush_under_layers-2-clause-flushed t c loud s v lt h =
    let zero_more : s + 0 ≡ s = omega arith in
    sector_through (stack_contents c.flush_under_layers-in-Dust.new.self) 0 _ s v lt
    (c.in-Ok-flush_under_layers-2.ensures.flushed (loud_below_dust c.args.self.now c.in-Dust.is c.deref_mut-in-Dust.ensures.value loud) (s + 0) v (omega (arith, lt)) (rw zero_more h))

pub returns-in-Ok-clause-flushed : goal.returns-in-Ok-clause-flushed
returns-in-Ok-clause-flushed t c loud s v lt h = c.in-Ok.ensures.flushed refl s v lt h
