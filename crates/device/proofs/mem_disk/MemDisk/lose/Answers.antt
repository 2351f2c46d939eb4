use Rattle.std.proofs.Common.{◌∙◌}
use Rattle.device.proofs.Waiting.{shown_now}
use Rattle.device.proofs.mem_disk.MemDisk.lose.Goals as goal

pub returns-clause-contents : goal.returns-clause-contents
returns-clause-contents c = shown_now _ c.clear.ensures.none ∙ c.lose.ensures.now
