-- The devices that are left are the volume's.
use Rattle.std.proofs.Common.{ap}
use Rattle.volume.specs.Stopped.{devices_of}
use Rattle.volume.specs.Volumed.{Volumed}
use Rattle.volume.proofs.volume.Volume.stop.Goals as goal

pub returns-clause-devices : goal.returns-clause-devices
returns-clause-devices g c = ap (λ (v : Volumed g.row.B.Denot). devices_of v) c.self.view_is
