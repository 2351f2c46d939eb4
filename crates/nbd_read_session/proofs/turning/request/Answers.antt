use Rattle.std.proofs.Common.{◌≡◌, ℕ, List, Option}
use Rattle.nbd_read_session.specs.Heard.{IsShort, IsRead}
use Rattle.nbd_messages.specs.Writing.{payload}
use Rattle.nbd_read_session.specs.Turns.{IsRequested}
use Rattle.nbd_read_session.proofs.Wholes.{request_turn, request_end}
use Rattle.nbd_read_session.proofs.turning.request.Goals as goal

pub returns-then-not-branch-clause-turn : goal.returns-then-not-branch-clause-turn
returns-then-not-branch-clause-turn g c =
    let is : IsRequested (g.R.Read.remaining c.args.reader.now) (g.R.Read.remaining c.hear_request.new.reader) c.in-Some.request = rw c.in-Some.is at c.in_ok-request.ensures in
    let short : IsShort (g.R.Read.remaining c.hear_request.new.reader) (payload c.in-Some.request) = rw c.if-not-branch.true at c.in_ok-hear_payload.ensures in
    request_end _ _ c.in-Some.request c.args.place c.args.session.now c.requires.stage is short

pub returns-clause-turn : goal.returns-clause-turn
returns-clause-turn g c = λ exports arrays known.
    let is : IsRequested (g.R.Read.remaining c.args.reader.now) (g.R.Read.remaining c.hear_request.new.reader) c.in-Some.request = rw c.in-Some.is at c.in_ok-request.ensures in
    let read : IsRead (g.R.Read.remaining c.hear_request.new.reader) (g.R.Read.remaining c.hear_payload.new.reader) (payload c.in-Some.request) = rw c.if-not-branch.false at c.in_ok-hear_payload.ensures in
    request_turn exports arrays (g.T.Served.may_fail c.args.served.now) (g.T.Served.shows c.args.served.now) _ _ _ c.in-Some.request c.args.place c.args.session.now c.serve_request.new.session c.serve_request.new.answer.items c.requires.stage is read known c.in_ok-serve_request.ensures.replied
