-- Nothing that is seen changed.
use Rattle.counted_volume.proofs.counted_volume.CountedVolume.usage.Goals as goal

pub returns-clause-ok : goal.returns-clause-ok
returns-clause-ok g c = rw (← c.self.view_is) c.usage.ensures.ok
