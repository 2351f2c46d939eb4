use Rattle.std.proofs.Common.{◌≡◌, ◌-◌, drop}
use Rattle.std.specs.Prelude.{sum_by}
use Rattle.command_semantics.specs.Disks.{devices_under}
use Rattle.device_stacks.proofs.roles.left_after.Given as goal

abbrev pub invariant-loop-names : goal.invariant-loop-names
invariant-loop-names l = l.left - sum_by devices_under (drop l.names-index l.snaps) ≡ l.most - sum_by devices_under l.snaps
