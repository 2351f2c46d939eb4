-- It lost what was not flushed.
use Rattle.device_list.proofs.Stops.{taken_lost}
use Rattle.device_list.proofs.stopping.StoppedVolume.take_lost.Goals as goal

pub returns-clause-some : goal.returns-clause-some
returns-clause-some c =
    let first = c.in-Some.ensures.some in
    let second = c.in-Some-take.ensures.some in
    rw (← c.self.view_is) (taken_lost c.in-Some.names.items c.in-Some-take.device c.lose.new.self c.lose.ensures.contents c.lose.ensures.layers c.lose.ensures.size c.of_parts.result c.self.inside.names c.take.new.self c.self.inside.devices c.take-2.new.self c.of_parts.ensures first second)
