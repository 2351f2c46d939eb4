use Rattle.nbd_write_session.proofs.Moved.{unsaid_none, unsaid_then}
use Rattle.nbd_write_session.proofs.line.Line.answer.Goals as goal

pub loop-init : goal.loop-init
loop-init c = unsaid_none _

pub loop-preserved : goal.loop-preserved
loop-preserved c = unsaid_then _ _ _ c.loop.invariant c.in_ok-answer_one.ensures

pub returns-then-not-branch : goal.returns-then-not-branch
returns-then-not-branch c = unsaid_then _ _ _ c.loop.invariant c.in_ok-answer_one.ensures
