use Rattle.cow_nbd.proofs.InUse.{told_all}
use Rattle.cow_nbd.proofs.live.LivePictureServed.marks.Goals as goal

pub returns-clause-data : goal.returns-clause-data
returns-clause-data g c =
    let s = c.args.self.now.snapshot in
    told_all s.chunk s.size (g.F.MovingFiles.history s.files) c.args._at c.args.most
