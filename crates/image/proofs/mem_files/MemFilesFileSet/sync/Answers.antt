use Rattle.image.proofs.Moments.{elapses_to}
use Rattle.image.proofs.mem_files.MemFilesFileSet.sync.Goals as goal

pub returns-clause-time : goal.returns-clause-time
returns-clause-time c =
    let kept = c.in-Ok.ensures.kept in
    elapses_to c.args.self.now.past.items c.keep.new.past.items kept.0 c.args.self.now.files c.sync.new.self kept.2 kept.1
