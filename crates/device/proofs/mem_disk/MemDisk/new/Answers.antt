use Rattle.std.proofs.Common.{◌∙◌}
use Rattle.device.proofs.Waiting.{shown_now}
use Rattle.device.proofs.mem_disk.MemDisk.new.Goals as goal

pub returns-clause-contents : goal.returns-clause-contents
returns-clause-contents c = shown_now _ c.in_ok-late.ensures.none ∙ c.in_ok-sectors.ensures.now
