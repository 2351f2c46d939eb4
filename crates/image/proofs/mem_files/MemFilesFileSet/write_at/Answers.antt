use Rattle.std.proofs.Common.{rules}
use Rattle.image.proofs.Moments.{elapses_to, stop_written}
use Rattle.image.proofs.mem_files.MemFilesFileSet.write_at.Goals as goal

pub returns-clause-stop : goal.returns-clause-stop
returns-clause-stop c = stop_written c.args.self.now.files c.write.new.self c.args.file c.args.sector c.args.part.now c.write.ensures.written c.write.ensures.beside c.write.ensures.synced (search rules) c.requires.whole

pub returns-clause-time : goal.returns-clause-time
returns-clause-time c =
    let kept = c.in-Ok.ensures.kept in
    elapses_to c.args.self.now.past.items c.keep.new.past.items kept.0 c.args.self.now.files c.write.new.self kept.2 kept.1
