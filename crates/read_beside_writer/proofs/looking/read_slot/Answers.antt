use Rattle.std.proofs.Common.{refl}
use Rattle.read_beside_writer.proofs.Slots.{slot_in}
use Rattle.read_beside_writer.proofs.looking.read_slot.Goals as goal

pub returns-in-Ok-clause-data : goal.returns-in-Ok-clause-data
returns-in-Ok-clause-data g c = slot_in (g.F.MovingFiles.history c.args.files.now) (g.F.MovingFiles.now c.args.files.now) (g.F.MovingFiles.now c.read_sector.new.self) c.args.chunk c.args.number _ c.read_sector.new.out _ c.requires.some refl c.pair_of.ensures c.in-Ok.ensures.data
