use Rattle.std.proofs.Common.{◌≡◌, ◌++◌, take}
use Rattle.std.specs.List.{flat_map}
use Rattle.device_list.specs.Layers.{free_layers}
use Rattle.device_list.proofs.layering.trace_stacks.Given as goal

abbrev pub invariant-loop-stack : goal.invariant-loop-stack
invariant-loop-stack l = l.out.items ≡ l.initial.out.items ++ flat_map free_layers (take l.stack-index l.stacks)
