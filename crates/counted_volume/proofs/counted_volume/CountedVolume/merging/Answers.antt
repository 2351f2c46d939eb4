-- Nothing that is seen changed.
use Rattle.counted_volume.proofs.counted_volume.CountedVolume.merging.Goals as goal

pub returns-clause-fine : goal.returns-clause-fine
returns-clause-fine g c = rw (← c.self.view_is) c.merging.ensures.fine
