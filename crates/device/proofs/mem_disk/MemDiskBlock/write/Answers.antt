use Rattle.std.proofs.Common.{inl, inr, ◌+◌, ◌*◌, ◌≤◌, ◌∙◌, length, get_or, ap, sym, arith}
use Rattle.sector.specs.Bytes.{sector_at, with_sectors}
use Rattle.sector.proofs.Sectors.{byte_outside, kept_or_written}
use Rattle.device.specs.Disk.{contents_are, disk_contents}
use Rattle.device.specs.Laws.{disk_whole}
use Rattle.device.proofs.mem_disk.MemDiskBlock.write.Goals as goal

pub returns-clause-passed : goal.returns-clause-passed
returns-clause-passed c passes =
    contents_are _ ∙ sym (contents_are c.write_or_wait.new.self) ∙ c.write_or_wait.ensures.contents ∙ ap (λ b. with_sectors b c.args.range.first c.args.bytes.now) c.write_late.ensures.now

pub returns-clause-written : goal.returns-clause-written
returns-clause-written c loud =
    contents_are _ ∙ sym (contents_are c.write_or_wait.new.self) ∙ c.write_or_wait.ensures.contents ∙ ap (λ b. with_sectors b c.args.range.first c.args.bytes.now) c.write_late.ensures.now

pub returns-clause-rest : goal.returns-clause-rest
returns-clause-rest c i (inl below) =
    let fits : 512 * c.args.range.first + length c.args.bytes.now ≤ length (disk_contents c.args.self.now) = omega (arith, disk_whole c.args.self.now, c.requires.inside, c.requires.room) in
    ap (λ b. get_or b i 0) (contents_are _ ∙ sym (contents_are c.write_or_wait.new.self) ∙ c.write_or_wait.ensures.contents ∙ ap (λ b. with_sectors b c.args.range.first c.args.bytes.now) c.write_late.ensures.now)
    ∙ byte_outside (disk_contents c.args.self.now) c.args.range.first c.args.bytes.now i fits (inl below)
returns-clause-rest c i (inr past) =
    let fits : 512 * c.args.range.first + length c.args.bytes.now ≤ length (disk_contents c.args.self.now) = omega (arith, disk_whole c.args.self.now, c.requires.inside, c.requires.room) in
    ap (λ b. get_or b i 0) (contents_are _ ∙ sym (contents_are c.write_or_wait.new.self) ∙ c.write_or_wait.ensures.contents ∙ ap (λ b. with_sectors b c.args.range.first c.args.bytes.now) c.write_late.ensures.now)
    ∙ byte_outside (disk_contents c.args.self.now) c.args.range.first c.args.bytes.now i fits (inr (omega (arith, c.requires.room)))

pub returns-clause-stop : goal.returns-clause-stop
returns-clause-stop c s v (inl now) =
    let fits : 512 * c.args.range.first + length c.args.bytes.now ≤ length (disk_contents c.args.self.now) = omega (arith, disk_whole c.args.self.now, c.requires.inside, c.requires.room) in
    elim (kept_or_written _ (disk_contents c.args.self.now) c.args.range.first c.args.range.count c.args.bytes.now s v (contents_are _ ∙ sym (contents_are c.write_or_wait.new.self) ∙ c.write_or_wait.ensures.contents ∙ ap (λ b. with_sectors b c.args.range.first c.args.bytes.now) c.write_late.ensures.now) fits c.requires.room now) [
      | inl same ↦ inl (inl same)
      | inr written ↦ inr written
    ]
returns-clause-stop c s v (inr kept) = inl (inr (kept ∙ ap (λ b. sector_at b s) (c.write_or_wait.ensures.durable ∙ c.write_late.ensures.durable)))
