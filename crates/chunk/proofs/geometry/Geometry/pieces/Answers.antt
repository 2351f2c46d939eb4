use Rattle.chunk.specs.Pieces.{span_of}
use Rattle.chunk.proofs.Whole.{cut_pieces}
use Rattle.chunk.proofs.geometry.Geometry.pieces.Goals as goal

pub returns-clause-cut : goal.returns-clause-cut
returns-clause-cut c = cut_pieces c.args.self.now.chunk (span_of c.args.range) c.new.result c.new.ensures c.args.self.now.some
