use Rattle.std.proofs.Common.{◌≡◌, ◌++◌, map, take, drop}
use Rattle.command_semantics.specs.Messages.{volume_ticked}
use Rattle.device_list.proofs.Showing.{shown_in}
use Rattle.device_commands.proofs.messages.tick_volumes.Given as goal

abbrev pub invariant-loop-volume : goal.invariant-loop-volume
invariant-loop-volume l = shown_in l.volumes ≡ map (volume_ticked l.seconds) (take l.volume-index (shown_in l.fn.volumes)) ++ drop l.volume-index (shown_in l.fn.volumes)
