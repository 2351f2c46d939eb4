use Rattle.std.proofs.Common.{◌∙◌, ap, sym, inl, inr}
use Rattle.sector.specs.Bytes.{sector_at, sectors_at, with_sectors}
use Rattle.device.specs.Disk.{contents_are, disk_contents}
use Rattle.device.specs.Sectors.{now_in}
use Rattle.device.proofs.Waiting.{shown_now}
use Rattle.device.proofs.mem_disk.MemDiskBlock.copy_sectors.Goals as goal

pub returns-clause-copied : goal.returns-clause-copied
returns-clause-copied c is = shown_now _ c.write_late.ensures.none ∙ c.copy.ensures.now ∙ ap (λ b. with_sectors b c.args.to.first (sectors_at (now_in c.write_late-2.new.self.sectors) c.args.first c.args.to.count)) c.write_late.ensures.now
    ∙ ap (λ b. with_sectors (disk_contents c.args.self.now) c.args.to.first (sectors_at b c.args.first c.args.to.count)) c.write_late-2.ensures.now

pub returns-clause-contents : goal.returns-clause-contents
returns-clause-contents c = contents_are _ ∙ sym (contents_are c.write_late-2.new.self) ∙ c.write_late-2.ensures.contents

pub returns-clause-stop_there : goal.returns-clause-stop_there
returns-clause-stop_there c s v (inl now) = inl (now ∙ ap (λ b. sector_at b s) (returns-clause-contents c))
returns-clause-stop_there c s v (inr kept) = inr (kept ∙ ap (λ b. sector_at b s) c.write_late-2.ensures.durable)
