use Rattle.std.proofs.Common.{◌≡◌, ◌++◌, take}
use Rattle.std.specs.List.{flat_map}
use Rattle.command_semantics.specs.Listing.{volume_items}
use Rattle.device_list.proofs.Showing.{shown_in}
use Rattle.device_commands.proofs.listing.add_volumes.Given as goal

abbrev pub invariant-loop-volume : goal.invariant-loop-volume
invariant-loop-volume l = l.out.items ≡ l.initial.out.items ++ flat_map volume_items (shown_in (take l.volume-index l.volumes))
