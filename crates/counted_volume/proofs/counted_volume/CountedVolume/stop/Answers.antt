-- The devices are those of the volume.
use Rattle.counted_volume.proofs.counted_volume.CountedVolume.stop.Goals as goal

pub returns-clause-stops : goal.returns-clause-stops
returns-clause-stops g c = rw (← c.self.view_is) c.stop.ensures.stops
