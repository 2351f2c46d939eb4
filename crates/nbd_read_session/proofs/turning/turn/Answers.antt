use Rattle.std.proofs.Common.{◌≡◌, ℕ, List, [], sym, subst}
use Rattle.nbd_read_session.specs.Turns.{IsTurn, IsOpened, IsAskedTurn}
use Rattle.nbd_read_session.proofs.Wholes.{open_turn, option_turn}
use Rattle.nbd_read_session.proofs.Errors.{if_went}
use Rattle.nbd_read_session.proofs.turning.turn.Goals as goal

pub returns-else-not-branch-clause-turn : goal.returns-else-not-branch-clause-turn
returns-else-not-branch-clause-turn g c = λ arrays known.
    let opened : IsOpened (g.R.Read.remaining c.args.reader.now) (g.R.Read.remaining c.open.new.reader) c.args.session.now c.open.new.session = rw c.if-not-branch.false at c.in_ok-open-in-Opening.ensures in
    open_turn c.args.exports.now arrays (g.T.Served.may_fail c.args.served.now) _ _ c.args.session.now c.open.new.session c.args.answer.now.items c.in-Opening.is c.requires opened

pub returns-in-Haggling-clause-turn : goal.returns-in-Haggling-clause-turn
returns-in-Haggling-clause-turn g c = if_went (IsAskedTurn c.args.exports.now (g.R.Read.remaining c.args.reader.now) (g.R.Read.remaining c.option.new.reader) c.args.session.now c.option.new.session c.option.new.answer.items) _ _ c.option.result
    (λ a. λ arrays known. option_turn c.args.exports.now arrays (g.T.Served.may_fail c.args.served.now) _ a.0 _ a.1 c.args.session.now c.option.new.session c.option.new.answer.items c.in-Haggling.is a.2 a.3) c.option.ensures
