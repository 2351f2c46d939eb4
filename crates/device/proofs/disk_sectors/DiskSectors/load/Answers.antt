use Rattle.std.proofs.Common.{◌∙◌, ap, arith, rules}
use Rattle.sector.specs.Bytes.{with_sectors}
use Rattle.sector.proofs.Sectors.{written_back}
use Rattle.device.specs.Listed.{listed}
use Rattle.device.proofs.Aside.{there_of}
use Rattle.device.proofs.Flushed.{load_flushed}
use Rattle.device.proofs.disk_sectors.DiskSectors.load.Goals as goal

pub returns-clause-flushed : goal.returns-clause-flushed
returns-clause-flushed c = load_flushed c.args.self.now.present.items _ c.args.bytes.now (listed c.args.self.now.undo.kept.items) c.args.self.now.undo.aside.items (listed c.put.new.self.kept.items) c.put.new.self.aside.items c.args.range.first c.args.range.count c.args.self.now.undo.marks.items c.put.new.self.marks.items
    (omega (arith, c.args.self.now.whole, c.args.self.now.marked))
    c.put.ensures.len
    (written_back _ _ _ (search rules) ∙ c.write_sectors.ensures.all ∙ ap (λ x. with_sectors x c.args.range.first c.args.bytes.now) c.deref_mut.ensures.value)
    c.requires.room
    (omega (arith, c.requires.inside, c.args.self.now.marked))
    (there_of c.args.self.now.undo.marks.items (listed c.args.self.now.undo.kept.items) c.args.self.now.undo.aside.items c.args.self.now.undo.whole c.args.self.now.undo.are_kept)
    (there_of c.put.new.self.marks.items (listed c.put.new.self.kept.items) c.put.new.self.aside.items c.put.new.self.whole c.put.new.self.are_kept)
    (λ t lo hi. c.put.ensures.flushed _ t lo hi)
    (λ t out. c.put.ensures.others _ t out)
