use Rattle.std.proofs.Common.{◌∙◌, ap, sym, rules}
use Rattle.sector.specs.Bytes.{with_sectors}
use Rattle.device.specs.Disk.{contents_are}
use Rattle.device.specs.Sectors.{now_in}
use Rattle.device.proofs.Waiting.{shown_now}
use Rattle.device.proofs.mem_disk.MemDisk.write_late.Goals as goal

pub returns-then-not-is_none-clause-now : goal.returns-then-not-is_none-clause-now
returns-then-not-is_none-clause-now c = c.write.ensures.now ∙ ap (λ new. with_sectors (now_in c.args.self.now.sectors) c.args.self.now.late.range.first new) c.deref.ensures.value ∙ sym (contents_are c.args.self.now)

pub returns-then-not-is_none-clause-contents : goal.returns-then-not-is_none-clause-contents
returns-then-not-is_none-clause-contents c = shown_now _ c.clear.ensures.none ∙ returns-then-not-is_none-clause-now c

pub returns-else-not-is_none-clause-now : goal.returns-else-not-is_none-clause-now
returns-else-not-is_none-clause-now c = sym (shown_now c.args.self.now (search rules))
