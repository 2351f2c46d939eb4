use Rattle.std.proofs.Common.{rules, refl}
use Rattle.nbd_write_session.proofs.Moved.{moves_still, moves_taken}
use Rattle.nbd_write_session.proofs.line.Line.take_good.Goals as goal

pub returns-then-len-ge-MOST_JOBS-clause-moves : goal.returns-then-len-ge-MOST_JOBS-clause-moves
returns-then-len-ge-MOST_JOBS-clause-moves c = moves_still _ _ refl refl refl refl refl refl

pub returns-then-len-end-clause-moves : goal.returns-then-len-end-clause-moves
returns-then-len-end-clause-moves c = moves_still _ _ refl refl refl refl refl refl

pub returns-clause-moves : goal.returns-clause-moves
returns-clause-moves c =
    moves_taken _ _ c.args.request refl refl refl refl c.requires.header c.requires.wanted c.requires.is c.requires.stays
    (search rules)
    (rw c.payload.ensures at c.take.ensures)
    c.requires.good
    (search rules)
