use Rattle.std.proofs.Common.{refl}
use Rattle.nbd_write_session.proofs.Moved.{moves_refused}
use Rattle.nbd_write_session.proofs.line.Line.refuse.Goals as goal

pub returns : goal.returns
returns c =
    let gone = rw c.take.ensures at (rw c.payload.ensures at c.skip.ensures) in
    moves_refused _ _ c.args.request.now c.args.error refl refl refl refl c.requires.header c.requires.wanted c.requires.is c.requires.stays gone c.requires.refused c.in_ok-push_failure.ensures
