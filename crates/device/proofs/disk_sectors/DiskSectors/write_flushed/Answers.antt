use Rattle.std.proofs.Common.{◌∙◌, ap, arith, rules}
use Rattle.sector.specs.Bytes.{with_sectors}
use Rattle.sector.proofs.Sectors.{written_back}
use Rattle.device.specs.Listed.{listed}
use Rattle.device.proofs.Flushed.{all_settled, long_back}
use Rattle.device.proofs.disk_sectors.DiskSectors.write_flushed.Goals as goal

pub returns-clause-flushed : goal.returns-clause-flushed
returns-clause-flushed c =
    all_settled _ (listed c.forget_written.new.self.kept.items) c.forget_written.new.self.aside.items c.forget_written.new.self.marks.items
    (long_back _ _ c.write_sectors.new.all c.args.self.now.present.items (search rules) (omega (arith, c.args.self.now.whole, c.args.self.now.marked, c.forget_written.ensures.len)))
    c.forget_written.ensures.settled
    ∙ written_back _ _ _ (search rules) ∙ c.write_sectors.ensures.all ∙ ap (λ x. with_sectors x c.args.range.first c.args.bytes.now) c.deref_mut.ensures.value
