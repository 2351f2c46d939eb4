-- As the volume says it.
use Rattle.volume_lifetime.proofs.lived_volume.LivedVolume.merging.Goals as goal

pub returns-clause-fine : goal.returns-clause-fine
returns-clause-fine g c = rw (← c.self.view_is) c.merging.ensures.fine
