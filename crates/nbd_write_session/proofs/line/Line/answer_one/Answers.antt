use Rattle.std.proofs.Common.{refl}
use Rattle.nbd_write_session.proofs.Moved.{moves_still, none_taken}
use Rattle.nbd_write_session.proofs.Worked.{moves_done}
use Rattle.nbd_write_session.proofs.line.Line.answer_one.Goals as goal

pub returns-in-None : goal.returns-in-None
returns-in-None c = moves_still _ _ refl refl refl refl (none_taken _ _ _ _ c.in-None.is c.take_done.ensures.is) refl

pub returns-in_ok-push_reply-in-Some : goal.returns-in_ok-push_reply-in-Some
returns-in_ok-push_reply-in-Some c = moves_done _ _ _ c.in-Some.job _ refl refl refl refl refl c.take_done.ensures.given c.take_done.ensures.out (rw c.in-Some.is at c.take_done.ensures.is) c.in_ok-push_reply-in-Some.ensures.reply
