-- A step is a call.
use Rattle.served_session.proofs.serving.goes_on.Goals as goal

pub returns : goal.returns
returns g c = (c.step.result, c.step.ensures)
