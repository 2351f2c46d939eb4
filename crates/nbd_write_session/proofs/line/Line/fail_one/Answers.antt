use Rattle.std.proofs.Common.{◌∷◌, refl, ap, sym}
use Rattle.nbd_messages.specs.declared.errors.ErrorValue.TheVariants.{Io}
use Rattle.nbd_jobs.specs.Replied.{failure_reply}
use Rattle.nbd_jobs.specs.Steps.{JobState}
use Rattle.nbd_backend.specs.Calls.{Step}
use Rattle.nbd_backend.specs.declared.array.Stepped.TheVariants.{Ended}
use Rattle.nbd_write_session.proofs.Moved.{held_same, moves_still}
use Rattle.nbd_write_session.proofs.Worked.{moves_failed}
use Rattle.nbd_write_session.proofs.line.Line.fail_one.Goals as goal

pub returns-in-None : goal.returns-in-None
returns-in-None c = λ known contents calls.
    moves_still _ _ refl refl refl refl (held_same _ _ (sym (rw c.in-None.is at c.take_first.ensures.jobs)) c.take_first.ensures.out c.take_first.ensures.given) refl known contents (Step Ended ∷ calls)

pub returns-in_ok-push_failure-in-Some : goal.returns-in_ok-push_failure-in-Some
returns-in_ok-push_failure-in-Some c =
    moves_failed _ _ c.in-Some.job _ refl refl refl refl c.take_first.ensures.given c.take_first.ensures.out (rw c.in-Some.is at c.take_first.ensures.jobs)
    (ap (λ (j : JobState). failure_reply c.args.self.now.structured Io j.request) c.job.view_is) c.in_ok-push_failure-in-Some.ensures
