-- As the volume says it.
use Rattle.volume_lifetime.proofs.lived_volume.LivedVolume.usage.Goals as goal

pub returns-clause-ok : goal.returns-clause-ok
returns-clause-ok g c = rw (← c.self.view_is) c.usage.ensures.ok
