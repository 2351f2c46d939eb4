use Rattle.std.proofs.Common.{arith}
use Rattle.device.specs.Listed.{listed}
use Rattle.device.proofs.Flushed.{all_settled}
use Rattle.device.proofs.disk_sectors.DiskSectors.flush.Goals as goal

pub returns-clause-flushed : goal.returns-clause-flushed
returns-clause-flushed c = all_settled c.args.self.now.present.items (listed c.forget.new.self.kept.items) c.forget.new.self.aside.items c.forget.new.self.marks.items (omega (arith, c.args.self.now.whole, c.args.self.now.marked, c.forget.ensures.len)) c.forget.ensures.settled
