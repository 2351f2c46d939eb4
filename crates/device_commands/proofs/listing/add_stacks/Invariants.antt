use Rattle.std.proofs.Common.{◌≡◌, ◌++◌, take}
use Rattle.std.specs.List.{flat_map}
use Rattle.command_semantics.specs.Listing.{free_items}
use Rattle.device_commands.proofs.listing.add_stacks.Given as goal

abbrev pub invariant-loop-stack : goal.invariant-loop-stack
invariant-loop-stack l = l.out.items ≡ l.initial.out.items ++ flat_map free_items (take l.stack-index l.stacks)
