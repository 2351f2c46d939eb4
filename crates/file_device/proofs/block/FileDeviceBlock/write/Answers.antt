use Rattle.std.proofs.Common.{refl}
use Rattle.file_device.specs.Layers.{at_first}
use Rattle.file_device.proofs.CallsAhead.{write_stop, write_rest}
use Rattle.file_device.proofs.block.FileDeviceBlock.write.Goals as goal

pub returns-then-is_err-clause-stop : goal.returns-then-is_err-clause-stop
returns-then-is_err-clause-stop g c =
    let d = c.args.self.now in
    write_stop (at_first (g.S.Start.first d.number) d.sectors) (g.C.FileCalls.history d.file) _ d.sectors c.args.range.first c.args.range.count _ c.args.bytes.now _ d.long c.requires.inside c.requires.room refl c.write_at.ensures.noted

pub returns-else-is_err-clause-stop : goal.returns-else-is_err-clause-stop
returns-else-is_err-clause-stop g c =
    let d = c.args.self.now in
    write_stop (at_first (g.S.Start.first d.number) d.sectors) (g.C.FileCalls.history d.file) _ d.sectors c.args.range.first c.args.range.count _ c.args.bytes.now _ d.long c.requires.inside c.requires.room refl c.write_at.ensures.noted

pub returns-else-is_err-clause-rest : goal.returns-else-is_err-clause-rest
returns-else-is_err-clause-rest g c =
    let d = c.args.self.now in
    write_rest (at_first (g.S.Start.first d.number) d.sectors) (g.C.FileCalls.history d.file) _ d.sectors c.args.range.first c.args.range.count _ c.args.bytes.now _ d.long c.requires.inside c.requires.room refl c.write_at.ensures.noted
