use Rattle.std.proofs.Common.{◌≡◌, ℕ, List, Some, Err, ap}
use Rattle.nbd_read_session.specs.declared.served.Fault.{Fault}
use Rattle.nbd_read_session.specs.declared.served.Fault.TheVariants.{Io}
use Rattle.nbd_read_session.specs.Replied.{fault_error}
use Rattle.nbd_read_session.proofs.Errors.{error_alone, on_ok}
use Rattle.nbd_read_session.proofs.replying.tell_state.Goals as goal

pub returns-in-Err-clause-reply : goal.returns-in-Err-clause-reply
returns-in-Err-clause-reply g c = on_ok _ _ c.push_error.result (λ said b bis. (
  Some c.in-Err.fault,
  λ e. (let same : c.in-Err.fault ≡ Io = (cc) in c.in-Err.ensures.fails (ap Err same)),
  error_alone _ _ c.args.structured _ (fault_error c.in-Err.fault) c.args.request.now said c.requires.none c.error_of.ensures,
)) c.push_error.ensures

pub returns-in-Err-marks_at-clause-reply : goal.returns-in-Err-marks_at-clause-reply
returns-in-Err-marks_at-clause-reply g c = on_ok _ _ c.push_error-in-Err-marks_at.result (λ said b bis. (
  Some c.in-Err-marks_at.fault,
  λ e. (let same : c.in-Err-marks_at.fault ≡ Io = (cc) in let (at, n, from, to, fails) = c.in-Err-marks_at.ensures.fails (ap Err same) in (at, n, from, to, c.in-Ok.ensures.calm c.args.export at n fails)),
  error_alone _ _ c.args.structured _ (fault_error c.in-Err-marks_at.fault) c.args.request.now said c.requires.none c.error_of-in-Err-marks_at.ensures,
)) c.push_error-in-Err-marks_at.ensures
