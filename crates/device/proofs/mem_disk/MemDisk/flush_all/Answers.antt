use Rattle.std.proofs.Common.{◌≡◌, [], ◌∙◌, ap, sym, rules}
use Rattle.sector.specs.Bytes.{with_sectors}
use Rattle.device.specs.Disk.{contents_are}
use Rattle.device.specs.Sectors.{now_in}
use Rattle.device.proofs.Waiting.{shown_now}
use Rattle.device.proofs.mem_disk.MemDisk.flush_all.Goals as goal

pub returns-then-is_none-clause-contents : goal.returns-then-is_none-clause-contents
returns-then-is_none-clause-contents c =
    let none : c.args.self.now.late.bytes.items ≡ [] = search rules in
    shown_now _ none ∙ c.flush.ensures.now ∙ sym (shown_now c.args.self.now none)

pub returns-then-is_none-clause-durable : goal.returns-then-is_none-clause-durable
returns-then-is_none-clause-durable c = c.flush.ensures.flushed ∙ sym (shown_now c.args.self.now (search rules))

pub returns-else-is_none-clause-contents : goal.returns-else-is_none-clause-contents
returns-else-is_none-clause-contents c =
    shown_now _ c.clear.ensures.none ∙ c.write_flushed.ensures.now
    ∙ ap (λ new. with_sectors (now_in c.args.self.now.sectors) c.args.self.now.late.range.first new) c.deref.ensures.value ∙ sym (contents_are c.args.self.now)

pub returns-else-is_none-clause-durable : goal.returns-else-is_none-clause-durable
returns-else-is_none-clause-durable c =
    c.write_flushed.ensures.flushed
    ∙ ap (λ new. with_sectors (now_in c.args.self.now.sectors) c.args.self.now.late.range.first new) c.deref.ensures.value ∙ sym (contents_are c.args.self.now)
