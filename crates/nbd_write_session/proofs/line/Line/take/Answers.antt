use Rattle.std.proofs.Common.{rules, refl, sym, ap, ◌∙◌}
use Rattle.nbd_write_session.proofs.Asked.{over_gone_on}
use Rattle.nbd_write_session.proofs.Moved.{moves_still}
use Rattle.nbd_write_session.proofs.line.Line.take.Goals as goal

pub returns-then-len-lt-REQUEST_BYTES-clause-moves : goal.returns-then-len-lt-REQUEST_BYTES-clause-moves
returns-then-len-lt-REQUEST_BYTES-clause-moves c = moves_still _ _ refl refl refl refl refl refl

pub returns-in-Disconnect-clause-moves : goal.returns-in-Disconnect-clause-moves
returns-in-Disconnect-clause-moves c = moves_still _ _ refl refl refl refl refl refl

pub returns-in-Disconnect-clause-over : goal.returns-in-Disconnect-clause-over
returns-in-Disconnect-clause-over c = λ bytes.
    over_gone_on c.args.self.now.size c.in-Some.request c.args.self.now.input (search rules) (search rules) (sym c.header.ensures ∙ c.in-Some.is) c.in-Disconnect.is bytes
