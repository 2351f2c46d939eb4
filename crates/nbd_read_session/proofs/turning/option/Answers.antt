use Rattle.std.proofs.Common.{◌≡◌, ℕ, List, Option}
use Rattle.nbd_read_session.specs.Heard.{IsShort}
use Rattle.nbd_read_session.specs.Turns.{IsAsked, IsHaggledFor}
use Rattle.nbd_read_session.proofs.Wholes.{option_end}
use Rattle.nbd_read_session.proofs.turning.option.Goals as goal

pub returns-then-not-branch : goal.returns-then-not-branch
returns-then-not-branch g c =
    let is : IsAsked (g.R.Read.remaining c.args.reader.now) (g.R.Read.remaining c.hear_asked.new.reader) c.in-Some.asked = rw c.in-Some.is at c.in_ok-asked.ensures in
    let short : IsShort (g.R.Read.remaining c.hear_asked.new.reader) c.in-Some.asked.length = rw c.if-not-branch.true at c.in_ok-haggle_for.ensures in
    option_end _ _ c.in-Some.asked c.args.session.now c.requires.stage is short

pub returns : goal.returns
returns g c =
    let is : IsAsked (g.R.Read.remaining c.args.reader.now) (g.R.Read.remaining c.hear_asked.new.reader) c.in-Some.asked = rw c.in-Some.is at c.in_ok-asked.ensures in
    let done : IsHaggledFor c.args.exports.now (g.R.Read.remaining c.hear_asked.new.reader) (g.R.Read.remaining c.haggle_for.new.reader) c.in-Some.asked c.args.session.now c.haggle_for.new.session c.haggle_for.new.answer.items = rw c.if-not-branch.false at c.in_ok-haggle_for.ensures in
    (g.R.Read.remaining c.hear_asked.new.reader, c.in-Some.asked, is, done)
