-- As the volume says it.
use Rattle.volume_lifetime.proofs.lived_volume.LivedVolume.is_only_merging.Goals as goal

pub returns-clause-machine : goal.returns-clause-machine
returns-clause-machine g c = rw (← c.self.view_is) c.is_only_merging.ensures.machine
