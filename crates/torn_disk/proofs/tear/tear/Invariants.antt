-- The sectors so far are torn as the list tells.
use Rattle.std.proofs.Common.{◌≡◌}
use Rattle.device.specs.Disk.{disk_size, disk_contents, disk_durable}
use Rattle.torn_disk.specs.Torn.{IsTornBy}
use Rattle.torn_disk.proofs.tear.tear.Given as goal

abbrev pub invariant-loop-i : goal.invariant-loop-i
invariant-loop-i l = record {
  torn : IsTornBy l.fn.new l.fn.range.first l.i l.fn.bytes (disk_contents l.fn.disk) (disk_contents l.disk);
  durable : disk_durable l.disk ≡ disk_durable l.fn.disk;
  size : disk_size l.disk ≡ disk_size l.fn.disk;
}
