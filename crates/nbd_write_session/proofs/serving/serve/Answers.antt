use Rattle.std.proofs.Common.{rules, [], refl}
use Rattle.nbd_backend.specs.Calls.{Choose}
use Rattle.nbd_write_session.proofs.Called.{reaches_at, reaches_behind, reaches_one}
use Rattle.nbd_write_session.proofs.Served.{gone_session, served_result}
use Rattle.nbd_write_session.proofs.serving.serve.Goals as goal

pub returns-in_default-clause-session : goal.returns-in_default-clause-session
returns-in_default-clause-session g c = ([], refl, gone_session c.args.exports.now c.in_ok-place.field-0 _ _ _ _ _ c.in_ok-input.ensures (search rules) c.in_ok-place.ensures)

pub returns-clause-session : goal.returns-clause-session
returns-clause-session g c =
    served_result g.A.Array.does c.args.exports.now c.run.result c.in-Some.place c.in-Some.structured c.choose.result _ _ c.in_ok-line.line c.run.new.self _ _ _ _ _ _ _ c.choose.new.self _ c.in_ok-input.ensures (rw c.in-Some.is at c.in_ok-place.ensures)
    (search rules) c.choose.ensures (search rules) c.in_ok-line.ensures.0 c.in_ok-line.ensures.1 c.in_ok-line.ensures.2 c.in_ok-line.ensures.3 c.in_ok-line.ensures.4 c.run.ensures.moves c.run.ensures.none c.run.ensures.over

pub returns-then-not-choose-clause-called : goal.returns-then-not-choose-clause-called
returns-then-not-choose-clause-called g c = reaches_one g.A.Array.does _ _ (Choose c.in-Some.place.export c.choose.result) c.choose.ensures

pub returns-in_err-line-clause-called : goal.returns-in_err-line-clause-called
returns-in_err-line-clause-called g c = reaches_at g.A.Array.does _ _ _ (reaches_one g.A.Array.does _ _ (Choose c.in-Some.place.export c.choose.result) c.choose.ensures)

pub returns-clause-called : goal.returns-clause-called
returns-clause-called g c = reaches_behind g.A.Array.does c.run.result _ _ _ (reaches_one g.A.Array.does _ _ (Choose c.in-Some.place.export c.choose.result) c.choose.ensures) c.run.ensures.called
