use Rattle.std.proofs.Common.{◌∙◌, ap, sym, inl, inr}
use Rattle.sector.specs.Bytes.{sector_at}
use Rattle.device.specs.Disk.{contents_are}
use Rattle.device.proofs.mem_disk.MemDiskBlock.read.Goals as goal

pub returns-clause-contents : goal.returns-clause-contents
returns-clause-contents c = contents_are _ ∙ sym (contents_are c.write_late.new.self) ∙ c.write_late.ensures.contents

pub returns-clause-durable : goal.returns-clause-durable
returns-clause-durable c = c.write_late.ensures.durable

pub returns-clause-stop : goal.returns-clause-stop
returns-clause-stop c s v (inl now) = inl (now ∙ ap (λ b. sector_at b s) (returns-clause-contents c))
returns-clause-stop c s v (inr kept) = inr (kept ∙ ap (λ b. sector_at b s) c.write_late.ensures.durable)
