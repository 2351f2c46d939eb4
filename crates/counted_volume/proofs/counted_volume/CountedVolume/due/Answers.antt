-- Nothing that is seen changed.
use Rattle.counted_volume.proofs.counted_volume.CountedVolume.due.Goals as goal

pub returns-clause-machine : goal.returns-clause-machine
returns-clause-machine g c = rw (← c.self.view_is) c.due.ensures.machine
