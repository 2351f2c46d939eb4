-- As the volume says it.
use Rattle.volume_lifetime.proofs.lived_volume.LivedVolume.due.Goals as goal

pub returns-clause-machine : goal.returns-clause-machine
returns-clause-machine g c = rw (← c.self.view_is) c.due.ensures.machine
