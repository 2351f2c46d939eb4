-- As the volume says it.
use Rattle.volume_lifetime.proofs.lived_volume.LivedVolume.is_quiet.Goals as goal

pub returns-clause-between : goal.returns-clause-between
returns-clause-between g c = rw (← c.self.view_is) c.is_quiet.ensures.between

pub returns-clause-calm : goal.returns-clause-calm
returns-clause-calm g c = rw (← c.self.view_is) c.is_quiet.ensures.calm

pub returns-clause-under : goal.returns-clause-under
returns-clause-under g c = rw (← c.self.view_is) c.is_quiet.ensures.under
