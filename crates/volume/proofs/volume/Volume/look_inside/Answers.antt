-- What its type keeps is true of what callers see.
use Rattle.volume.proofs.volume.Volume.look_inside.Goals as goal

pub returns : goal.returns
returns g c = rw (← c.self.view_is) (record { whole = c.self.invariant.whole })
