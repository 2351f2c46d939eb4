use Rattle.nbd_read_session.proofs.OneAnswer.{one_answer_is}
use Rattle.nbd_read_session.proofs.laws.one_answer.Goals as goal

pub returns : goal.returns
returns g c = λ exports arrays. one_answer_is exports arrays (g.T.Served.may_fail c.args.served.now)
