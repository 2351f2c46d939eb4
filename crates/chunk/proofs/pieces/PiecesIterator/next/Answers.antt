use Rattle.std.proofs.Common.{rules, arith, ap, length}
use Rattle.chunk.specs.Pieces.{span_of}
use Rattle.chunk.proofs.Cuts.{pieces_first}
use Rattle.chunk.proofs.pieces.PiecesIterator.next.Goals as goal

pub returns-clause-steps : goal.returns-clause-steps
returns-clause-steps c =
    let cut = pieces_first c.self.inside.chunk (span_of c.self.inside.rest) c.front_count-here.result c.self.invariant (omega arith) c.front_count-here.ensures in
    cc

pub returns-clause-goes : goal.returns-clause-goes
returns-clause-goes c = let shorter = ap length (returns-clause-steps c) in search rules
