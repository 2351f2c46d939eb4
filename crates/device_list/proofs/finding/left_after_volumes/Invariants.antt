use Rattle.std.proofs.Common.{◌≡◌, ◌-◌, drop}
use Rattle.std.specs.Prelude.{sum_by}
use Rattle.command_semantics.specs.Disks.{devices_in}
use Rattle.device_list.proofs.finding.left_after_volumes.Given as goal

abbrev pub invariant-loop-volume : goal.invariant-loop-volume
invariant-loop-volume l = l.left - sum_by (λ v. devices_in v.shown) (drop l.volume-index l.volumes) ≡ l.most - sum_by (λ v. devices_in v.shown) l.volumes
