use Rattle.std.proofs.Common.{◌∙◌, ap}
use Rattle.sector.specs.Bytes.{with_sectors}
use Rattle.device.proofs.Waiting.{shown_now}
use Rattle.device.proofs.mem_disk.MemDisk.load.Goals as goal

pub returns-clause-contents : goal.returns-clause-contents
returns-clause-contents c = shown_now _ c.write_late.ensures.none ∙ c.load.ensures.now ∙ ap (λ b. with_sectors b c.args.range.first c.args.bytes.now) c.write_late.ensures.now

pub returns-clause-durable : goal.returns-clause-durable
returns-clause-durable c = c.load.ensures.flushed ∙ ap (λ b. with_sectors b c.args.range.first c.args.bytes.now) c.write_late.ensures.durable
