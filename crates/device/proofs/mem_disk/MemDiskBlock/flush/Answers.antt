use Rattle.std.proofs.Common.{◌∙◌, ap, sym, inl, inr}
use Rattle.sector.specs.Bytes.{sector_at}
use Rattle.device.specs.Disk.{contents_are}
use Rattle.device.proofs.mem_disk.MemDiskBlock.flush.Goals as goal

pub returns-clause-contents : goal.returns-clause-contents
returns-clause-contents c = contents_are _ ∙ sym (contents_are c.flush_all.new.self) ∙ c.flush_all.ensures.contents

pub returns-clause-durable : goal.returns-clause-durable
returns-clause-durable c = c.flush_all.ensures.durable

pub returns-clause-stop : goal.returns-clause-stop
returns-clause-stop c s v (inl now) = inl (now ∙ ap (λ b. sector_at b s) (returns-clause-contents c))
returns-clause-stop c s v (inr kept) = inl (kept ∙ ap (λ b. sector_at b s) (returns-clause-durable c))

pub returns-clause-flushed : goal.returns-clause-flushed
returns-clause-flushed c loud s v lt (inl now) = now
returns-clause-flushed c loud s v lt (inr kept) = kept ∙ ap (λ b. sector_at b s) (returns-clause-durable c ∙ sym (returns-clause-contents c))
