use Rattle.std.proofs.Common.{◌∙◌, ap}
use Rattle.sector.specs.Bytes.{with_sectors}
use Rattle.device.specs.Disk.{contents_are}
use Rattle.device.specs.Sectors.{now_in}
use Rattle.device.proofs.Waiting.{shown_now}
use Rattle.device.proofs.mem_disk.MemDisk.write_or_wait.Goals as goal

pub returns-then-range-le-MOST_LATE-clause-contents : goal.returns-then-range-le-MOST_LATE-clause-contents
returns-then-range-le-MOST_LATE-clause-contents c =
    let now = now_in c.args.self.now.sectors in
    contents_are _ ∙ ap (λ r. with_sectors now r.first c.take.new.self.bytes.items) c.take.ensures.range ∙ ap (λ new. with_sectors now c.args.range.first new) c.take.ensures.bytes

pub returns-else-self-clause-contents : goal.returns-else-self-clause-contents
returns-else-self-clause-contents c = shown_now _ c.requires.none ∙ c.write.ensures.now
