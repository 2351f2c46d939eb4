use Rattle.std.proofs.Common.{◌+◌, ◌*◌, ◌≤◌, length, arith}
use Rattle.cow_nbd.proofs.InUse.{live_read, saved_on}
use Rattle.cow_nbd.proofs.live.LivePictureServed.read.Goals as goal

pub invariant_of-self : goal.invariant_of-self
invariant_of-self g c =
    let s = c.args.self.now.snapshot in
    let n = c.read.new.self in
    record {
      saved = saved_on s.chunk n.chunk s.size n.size (g.F.MovingFiles.history s.files) (g.F.MovingFiles.history n.files) c.read.ensures.history c.read.ensures.chunk c.read.ensures.size c.args.self.now.saved;
    }

pub returns-in-Ok-clause-data : goal.returns-in-Ok-clause-data
returns-in-Ok-clause-data g c =
    let s = c.args.self.now.snapshot in
    let inside : c.args.at + length c.args.out.now ≤ 512 * s.size = (let fits = c.if-self-at.false in omega arith) in
    live_read s.chunk s.size c.args.at (length c.args.out.now) (g.F.MovingFiles.history s.files) c.read.new.out inside c.args.self.now.saved c.in-Ok.ensures.saves
