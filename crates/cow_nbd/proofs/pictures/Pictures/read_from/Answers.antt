use Rattle.std.proofs.Common.{length}
use Rattle.std.proofs.lemmas.Result.{on_ok_weaker}
use Rattle.cow_nbd.proofs.Arrays.{known_snapshot, known_origin}
use Rattle.cow_nbd.proofs.pictures.Pictures.read_from.Goals as goal

pub returns-then-export-eq0-clause-data : goal.returns-then-export-eq0-clause-data
returns-then-export-eq0-clause-data g c =
    let s = c.args.self.now in
    on_ok_weaker c.read_snapshot.result (known_snapshot s.chunk s.pairs.items s.size c.args.export c.args.at (length c.args.out.now) (g.O.Image.bytes s.origin) (g.C.Image.bytes s.cow) c.read_snapshot.new.out c.if-export-eq0.true) c.read_snapshot.ensures.data

pub returns-clause-data : goal.returns-clause-data
returns-clause-data g c =
    let s = c.args.self.now in
    on_ok_weaker c.read_at.result (known_origin s.chunk s.pairs.items s.size c.args.export c.args.at (length c.args.out.now) (g.O.Image.bytes s.origin) (g.C.Image.bytes s.cow) c.read_at.new.out c.if-export-eq0.false) c.read_at.ensures.data
