use Rattle.std.proofs.Common.{◌≡◌, ℕ, List, [], ◌++◌, Bool, false, Some, Err, cond, ap, ◌∙◌, sym, arith}
use Rattle.nbd_read_session.specs.declared.served.Fault.{Fault}
use Rattle.nbd_messages.specs.Reading.{error_reply}
use Rattle.nbd_read_session.specs.Replied.{given_reply, read_reply, invalid, fault_error}
use Rattle.nbd_read_session.proofs.replying.reply_read.Goals as goal

-- an error after nothing
error_alone : (old new : List ℕ) (s : Bool) (n m : ℕ) (req : Rattle.nbd_messages.specs.declared.request.Request.Request) → new ≡ old ++ error_reply s n req → old ≡ [] → n ≡ m → new ≡ error_reply s m req
error_alone old new s n m req is none same = is ∙ ap (λ (l : List ℕ). l ++ error_reply s n req) none ∙ ap (λ (k : ℕ). error_reply s k req) same

inside_self : (may_fail : ℕ → ℕ → ℕ → Type 0) (export : ℕ) (req : Rattle.nbd_messages.specs.declared.request.Request.Request) → may_fail export req.offset req.length → Rattle.nbd_read_session.specs.Replied.MayFail may_fail export req.offset req.length
inside_self may_fail export req fails = (req.offset, req.length, omega arith, omega arith, fails)

pub returns-in_ok-push_error-in-Err-clause-reply : goal.returns-in_ok-push_error-in-Err-clause-reply
returns-in_ok-push_error-in-Err-clause-reply g c = λ b bis. (
  Some c.in-Err.fault,
  λ e. (let same : c.in-Err.fault ≡ Rattle.nbd_read_session.specs.declared.served.Fault.TheVariants.Io = (cc) in inside_self (g.T.Served.may_fail c.args.served.now) c.args.export c.args.request.now (c.in-Err.ensures.fails (ap Err same))),
  error_alone _ _ c.args.structured _ (fault_error c.in-Err.fault) c.args.request.now c.in_ok-push_error-in-Err.ensures c.clear.ensures.items c.error_of.ensures
      ∙ ap (λ (t : Bool). cond t (error_reply c.args.structured invalid c.args.request.now) (given_reply c.args.structured (Some c.in-Err.fault) b.bytes c.args.request.now)) (sym (sym c.is_invalid.ensures ∙ c.if-is_invalid.false)),
)
