use Rattle.std.proofs.Common.{ap}
use Rattle.device.specs.Listed.{listed}
use Rattle.device.specs.Marks.{flushed_sector}
use Rattle.device.proofs.Aside.{put_flushed}
use Rattle.device.proofs.undo.Undo.put.Goals as goal

pub returns-clause-flushed : goal.returns-clause-flushed
returns-clause-flushed c now t lo hi = put_flushed now (listed c.args.self.now.kept.items) c.args.self.now.aside.items c.args.first c.args.count c.args.self.now.marks.items c.put_all.new.marks.items c.put_all.ensures.put t lo hi

pub returns-clause-others : goal.returns-clause-others
returns-clause-others c now t out = ap (flushed_sector now (listed c.args.self.now.kept.items) c.args.self.now.aside.items t) (c.put_all.ensures.others t out)
