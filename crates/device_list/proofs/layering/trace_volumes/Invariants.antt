use Rattle.std.proofs.Common.{◌≡◌, ◌++◌, take}
use Rattle.std.specs.List.{flat_map}
use Rattle.device_list.specs.Layers.{volume_layers}
use Rattle.device_list.proofs.Showing.{shown_in}
use Rattle.device_list.proofs.layering.trace_volumes.Given as goal

abbrev pub invariant-loop-volume : goal.invariant-loop-volume
invariant-loop-volume l = l.out.items ≡ l.initial.out.items ++ flat_map volume_layers (shown_in (take l.volume-index l.volumes))
