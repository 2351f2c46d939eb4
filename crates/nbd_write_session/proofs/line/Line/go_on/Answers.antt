use Rattle.nbd_write_session.proofs.Moved.{unsaid_none}
use Rattle.nbd_write_session.proofs.line.Line.go_on.Goals as goal

pub returns-then-not-hears-clause-moves : goal.returns-then-not-hears-clause-moves
returns-then-not-hears-clause-moves g c = λ contents calls. unsaid_none _ _ contents calls

pub returns-in-Over-clause-moves : goal.returns-in-Over-clause-moves
returns-in-Over-clause-moves g c = λ contents calls. unsaid_none _ _ contents calls

pub returns-in-One-clause-moves : goal.returns-in-One-clause-moves
returns-in-One-clause-moves g c = λ contents calls. unsaid_none _ _ contents calls
