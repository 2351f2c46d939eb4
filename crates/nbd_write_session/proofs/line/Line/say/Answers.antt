use Rattle.std.proofs.Common.{rules, refl}
use Rattle.nbd_write_session.proofs.Moved.{moves_said}
use Rattle.nbd_write_session.proofs.line.Line.say.Goals as goal

pub returns-clause-moves : goal.returns-clause-moves
returns-clause-moves g c = λ calls known. moves_said _ _ known _ _ calls refl refl refl refl refl (rw c.as_slice.ensures.value at c.in_ok-said.ensures) (search rules)
