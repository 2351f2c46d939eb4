-- So many of the first snapshots were attached before.
use Rattle.std.proofs.Common.{◌≡◌, take}
use Rattle.std.specs.List.{count_by}
use Rattle.locked_volume.specs.Usages.{is_before}
use Rattle.locked_volume.proofs.usages.attached_before.Given as goal

abbrev pub invariant-loop-k : goal.invariant-loop-k
invariant-loop-k g l = l.count ≡ count_by (is_before l.number) (take l.k l.volume.snaps)
