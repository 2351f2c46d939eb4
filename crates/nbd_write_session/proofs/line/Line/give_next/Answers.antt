use Rattle.nbd_write_session.proofs.Calling.{still}
use Rattle.nbd_write_session.proofs.line.Line.give_next.Goals as goal

pub returns-then-pieces-ge-MOST_PIECES-clause-moves : goal.returns-then-pieces-ge-MOST_PIECES-clause-moves
returns-then-pieces-ge-MOST_PIECES-clause-moves g c = still g.A.Array.does _ _

pub returns-in_default-clause-moves : goal.returns-in_default-clause-moves
returns-in_default-clause-moves g c = still g.A.Array.does _ _

pub returns-in-None-clause-moves : goal.returns-in-None-clause-moves
returns-in-None-clause-moves g c = still g.A.Array.does _ _
