use Rattle.std.proofs.Common.{◌∙◌, ap, sym, rules, arith}
use Rattle.sector.specs.Bytes.{sectors_at}
use Rattle.device.specs.Disk.{contents_are}
use Rattle.device.specs.Sectors.{now_in}
use Rattle.device.specs.Laws.{late_fits}
use Rattle.device.proofs.Waiting.{read_over}
use Rattle.device.proofs.mem_disk.MemDisk.raw.Goals as goal

pub returns : goal.returns
returns c =
    let d = c.args.self.now in
    read_over (now_in d.sectors) d.late.bytes.items c.read.new.out c.put_over.new.out d.late.range.first d.late.range.count c.args.range.first c.args.range.count (late_fits d) d.late.whole (omega (arith, d.sectors.whole, c.requires.inside))
    c.read.ensures (search rules) c.put_over.ensures.over c.put_over.ensures.rest
    ∙ ap (λ b. sectors_at b c.args.range.first c.args.range.count) (sym (contents_are d))
