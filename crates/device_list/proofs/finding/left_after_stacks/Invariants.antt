use Rattle.std.proofs.Common.{◌≡◌, ◌-◌, drop}
use Rattle.std.specs.Prelude.{sum_by}
use Rattle.command_semantics.specs.Disks.{devices_of}
use Rattle.device_list.proofs.finding.left_after_stacks.Given as goal

abbrev pub invariant-loop-stack : goal.invariant-loop-stack
invariant-loop-stack l = l.left - sum_by devices_of (drop l.stack-index l.stacks) ≡ l.most - sum_by devices_of l.stacks
