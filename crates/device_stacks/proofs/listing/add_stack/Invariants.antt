use Rattle.std.proofs.Common.{◌≡◌, ◌++◌, drop}
use Rattle.command_semantics.specs.Listing.{items_from, stack_items}
use Rattle.command_semantics.specs.Stacks.{device_of}
use Rattle.device_stacks.proofs.listing.add_stack.Given as goal

abbrev pub invariant-loop-depth : goal.invariant-loop-depth
invariant-loop-depth l = l.out.items ++ items_from l.depth (drop l.depth l.names) l.names (device_of l.stack) ≡ l.initial.out.items ++ stack_items l.names (device_of l.stack)
