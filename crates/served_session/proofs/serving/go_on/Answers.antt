-- A step is a call more.
use Rattle.std.proofs.Common.{◌∷◌}
use Rattle.nbd_backend.specs.Calls.{Step}
use Rattle.served_session.proofs.serving.go_on.Goals as goal

pub returns-then-not-goes_on : goal.returns-then-not-goes_on
returns-then-not-goes_on g c = (let (calls, came, steps) = c.loop.invariant in let (told, does) = c.goes_on.ensures in (Step told ∷ calls, (c.loop.array, came, does), steps))

pub loop-preserved : goal.loop-preserved
loop-preserved g c = (let (calls, came, steps) = c.loop.invariant in let (told, does) = c.goes_on.ensures in (Step told ∷ calls, (c.loop.array, came, does), steps))
