use Rattle.std.proofs.Common.{refl}
use Rattle.device_list.proofs.Closes.{closed_not}
use Rattle.device_list.proofs.origin.NamedVolume.close.Goals as goal

pub returns-in-Err-clause-err : goal.returns-in-Err-clause-err
returns-in-Err-clause-err c =
    let why = c.in-Err.ensures.err in
    rw (← c.self.view_is) (closed_not c.self.inside.snaps.items c.self.inside.merging c.self.inside.volume.rested c.in-Err.refusal c.self.invariant.many c.self.invariant.begun why.0, rw why.1 refl)
