use Rattle.std.proofs.Common.{length}
use Rattle.cow_nbd.proofs.Arrays.{snapshot_read, fails_calm}
use Rattle.cow_nbd.proofs.pictures.Pictures.read_snapshot.Goals as goal

pub returns-in-Ok-clause-data : goal.returns-in-Ok-clause-data
returns-in-Ok-clause-data g c =
    let s = c.args.self.now in
    snapshot_read s.chunk s.pairs.items s.size c.args.at (length c.args.out.now) (g.O.Image.bytes s.origin) (g.C.Image.bytes s.cow) c.show_range.new.out c.requires
    (λ o b ois bis. rw c.as_slice-pairs.ensures.value at (c.in-Ok.ensures.shown o b ois bis))

pub returns-in-Err-clause-calm : goal.returns-in-Err-clause-calm
returns-in-Err-clause-calm g c = λ k from count.
    let s = c.args.self.now in
    fails_calm (g.O.Image.may_fail c.show_range.new.origin) (g.O.Image.may_fail s.origin) (g.C.Image.may_fail c.show_range.new.cow) (g.C.Image.may_fail s.cow) s.chunk s.pairs.items s.size k from count c.in-Err.ensures.calm c.in-Err.ensures.calm_cow
