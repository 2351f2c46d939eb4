use Rattle.std.proofs.Common.{arith, ap, sym, ◌∙◌, refl, ◌≡◌, ◌*◌}
use Rattle.layers.specs.Stack.{stack_contents, stack_size}
use Rattle.layers.specs.Whole.{stack_small, stack_whole}
use Rattle.layers.proofs.Through.{rest_through, beside_through, layers_through_flakey, layers_through_dust, write_through, loud_below_flakey, loud_below_dust, passes_below_flakey, passes_below_dust}
use Rattle.layers.proofs.stack.Stack.+write_under_layers.Goals as goal

pub shifted-requires : goal.shifted-requires
shifted-requires t c =
    let inside = rw c.in-Flakey.is at c.requires.inside in
    omega (arith, inside, stack_small c.in-Flakey.below.value)

pub returns-in-Ok-clause-passed : goal.returns-in-Ok-clause-passed
returns-in-Ok-clause-passed t c passed =
    let inside = rw c.in-Flakey.is at c.requires.inside in
    let size : stack_size c.write_under_layers.new.self ≡ stack_size c.in-Flakey.below.value = c.in-Ok.ensures.size ∙ ap stack_size c.deref_mut.ensures.value in
    let below = c.in-Ok.ensures.passed (passes_below_flakey c.args.self.now c.args.range.first c.args.range.count _ _ c.in-Flakey.is c.deref_mut.ensures.value c.shifted.ensures.first c.shifted.ensures.count passed) in
    rw (size, c.in-Flakey.is)
    (write_through _ _ _ c.args.bytes.now _ _ c.args.range.first c.args.range.count _ (stack_size c.in-Flakey.below.value) below (ap stack_contents c.deref_mut.ensures.value) c.shifted.ensures.first
    (stack_whole c.in-Flakey.below.value) (omega arith) (omega (arith, inside)) inside c.requires.room)

pub returns-in-Ok-write_under_layers-clause-passed : goal.returns-in-Ok-write_under_layers-clause-passed
returns-in-Ok-write_under_layers-clause-passed t c passed =
    let inside = rw c.in-Dust.is at c.requires.inside in
    let size : stack_size c.write_under_layers-in-Dust.new.self ≡ stack_size c.in-Dust.below.value = c.in-Ok-write_under_layers.ensures.size ∙ ap stack_size c.deref_mut-in-Dust.ensures.value in
    let below = c.in-Ok-write_under_layers.ensures.passed (passes_below_dust c.args.self.now c.args.range.first c.args.range.count c.in-Dust.is c.deref_mut-in-Dust.ensures.value passed) in
    rw (size, c.written.ensures.rest.0, c.in-Dust.is)
    (write_through _ _ _ c.args.bytes.now 0 _ c.args.range.first c.args.range.count c.args.range.first (stack_size c.in-Dust.below.value) below (ap stack_contents c.deref_mut-in-Dust.ensures.value) (omega arith)
    (stack_whole c.in-Dust.below.value) (omega arith) (omega (arith, inside)) inside c.requires.room)

pub returns-in-Ok-clause-written : goal.returns-in-Ok-clause-written
returns-in-Ok-clause-written t c loud =
    let inside = rw c.in-Flakey.is at c.requires.inside in
    let size : stack_size c.write_under_layers.new.self ≡ stack_size c.in-Flakey.below.value = c.in-Ok.ensures.size ∙ ap stack_size c.deref_mut.ensures.value in
    rw (size, c.in-Flakey.is)
    (write_through _ _ _ c.args.bytes.now _ _ c.args.range.first c.args.range.count _ (stack_size c.in-Flakey.below.value) (c.in-Ok.ensures.written (loud_below_flakey c.args.self.now c.in-Flakey.is c.deref_mut.ensures.value loud)) (ap stack_contents c.deref_mut.ensures.value) c.shifted.ensures.first
    (stack_whole c.in-Flakey.below.value) (omega arith) (omega (arith, inside)) inside c.requires.room)

pub returns-in-Ok-write_under_layers-clause-written : goal.returns-in-Ok-write_under_layers-clause-written
returns-in-Ok-write_under_layers-clause-written t c loud =
    let inside = rw c.in-Dust.is at c.requires.inside in
    let size : stack_size c.write_under_layers-in-Dust.new.self ≡ stack_size c.in-Dust.below.value = c.in-Ok-write_under_layers.ensures.size ∙ ap stack_size c.deref_mut-in-Dust.ensures.value in
    rw (size, c.written.ensures.rest.0, c.in-Dust.is)
    (write_through _ _ _ c.args.bytes.now 0 _ c.args.range.first c.args.range.count c.args.range.first (stack_size c.in-Dust.below.value) (c.in-Ok-write_under_layers.ensures.written (loud_below_dust c.args.self.now c.in-Dust.is c.deref_mut-in-Dust.ensures.value loud)) (ap stack_contents c.deref_mut-in-Dust.ensures.value) (omega arith)
    (stack_whole c.in-Dust.below.value) (omega arith) (omega (arith, inside)) inside c.requires.room)

pub returns-in-Disk-clause-stop : goal.returns-in-Disk-clause-stop
returns-in-Disk-clause-stop t c s v h = rw c.in-Disk.is (c.write.ensures.stop s v h)

pub returns-in-Ok-clause-rest : goal.returns-in-Ok-clause-rest
returns-in-Ok-clause-rest t c i outside =
    let size : stack_size c.write_under_layers.new.self ≡ stack_size c.in-Flakey.below.value = c.in-Ok.ensures.size ∙ ap stack_size c.deref_mut.ensures.value in
    rw (size, c.in-Flakey.is)
    (rest_through _ _ _ c.in-Flakey.flakey.offset _ c.args.range.first c.args.range.count c.shifted.result.first c.shifted.result.count i (ap stack_contents c.deref_mut.ensures.value) c.shifted.ensures.first c.shifted.ensures.count c.in-Ok.ensures.rest outside)

pub returns-in-Ok-write_under_layers-clause-rest : goal.returns-in-Ok-write_under_layers-clause-rest
returns-in-Ok-write_under_layers-clause-rest t c i outside =
    let size : stack_size c.write_under_layers-in-Dust.new.self ≡ stack_size c.in-Dust.below.value = c.in-Ok-write_under_layers.ensures.size ∙ ap stack_size c.deref_mut-in-Dust.ensures.value in
    rw (size, c.written.ensures.rest.0, c.in-Dust.is)
    (rest_through _ _ _ 0 _ c.args.range.first c.args.range.count c.args.range.first c.args.range.count i (ap stack_contents c.deref_mut-in-Dust.ensures.value) (omega arith) refl c.in-Ok-write_under_layers.ensures.rest outside)

pub returns-in-Ok-clause-layers : goal.returns-in-Ok-clause-layers
returns-in-Ok-clause-layers t c =
    let inside = rw c.in-Flakey.is at c.requires.inside in
    let size : stack_size c.write_under_layers.new.self ≡ stack_size c.in-Flakey.below.value = c.in-Ok.ensures.size ∙ ap stack_size c.deref_mut.ensures.value in
    let whole = stack_whole c.write_under_layers.new.self ∙ ap (λ n. 512 * n) size in
    let now = beside_through (stack_contents c.write_under_layers.new.self) (stack_contents c.in-Flakey.below.value) _ c.in-Flakey.flakey.offset _ c.args.range.first c.args.range.count c.shifted.result.first c.shifted.result.count (stack_size c.in-Flakey.below.value)
    (ap stack_contents c.deref_mut.ensures.value) c.shifted.ensures.first c.shifted.ensures.count whole (stack_whole c.in-Flakey.below.value) c.in-Ok.ensures.rest inside in
    layers_through_flakey c.args.self.now c.write_under_layers.new.self c.deref_mut.result.now c.args.range.first c.args.range.count c.shifted.result.first c.shifted.result.count c.in-Flakey.is c.deref_mut.ensures.value c.shifted.ensures.first c.shifted.ensures.count
    (sym c.fate.ensures ∙ c.in-Pass.is) c.in-Ok.ensures.size now c.in-Ok.ensures.layers

pub returns-in-Ok-write_under_layers-clause-layers : goal.returns-in-Ok-write_under_layers-clause-layers
returns-in-Ok-write_under_layers-clause-layers t c =
    let inside = rw c.in-Dust.is at c.requires.inside in
    let size : stack_size c.write_under_layers-in-Dust.new.self ≡ stack_size c.in-Dust.below.value = c.in-Ok-write_under_layers.ensures.size ∙ ap stack_size c.deref_mut-in-Dust.ensures.value in
    let whole = stack_whole c.write_under_layers-in-Dust.new.self ∙ ap (λ n. 512 * n) size in
    let now = beside_through (stack_contents c.write_under_layers-in-Dust.new.self) (stack_contents c.in-Dust.below.value) _ 0 _ c.args.range.first c.args.range.count c.args.range.first c.args.range.count (stack_size c.in-Dust.below.value)
    (ap stack_contents c.deref_mut-in-Dust.ensures.value) (omega arith) refl whole (stack_whole c.in-Dust.below.value) c.in-Ok-write_under_layers.ensures.rest inside in
    layers_through_dust c.args.self.now c.write_under_layers-in-Dust.new.self c.deref_mut-in-Dust.result.now c.written.new.self c.args.range.first c.args.range.count c.in-Dust.is c.deref_mut-in-Dust.ensures.value
    c.written.ensures.layer c.written.ensures.rest.0 (sym c.in-Ok-write_under_layers.ensures.answer) c.in-Ok-write_under_layers.ensures.size now c.in-Ok-write_under_layers.ensures.layers
