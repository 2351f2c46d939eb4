-- What its type keeps is true of what callers see.
use Rattle.volume.proofs.volume.Volume.look.Goals as goal

pub returns : goal.returns
returns g c = rw (← c.self.view_is) (record { kept = c.self.invariant })
