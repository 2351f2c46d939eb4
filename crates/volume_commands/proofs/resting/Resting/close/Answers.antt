-- It is closed where no snapshot is attached, no merge is begun and nothing is in flight.
use Rattle.std.proofs.Common.{ap}
use Rattle.counted_volume.specs.Places.{Counted}
use Rattle.volume_commands.specs.Rested.{rested_of}
use Rattle.volume_commands.proofs.Closes.{closed, not_closed}
use Rattle.volume_commands.specs.Recorded.{Recorded}
use Rattle.volume_commands.proofs.resting.Resting.close.Goals as goal

pub returns-in-Ok-clause-ok : goal.returns-in-Ok-clause-ok
returns-in-Ok-clause-ok g c =
    let ok = c.in-Ok.ensures.ok in
    let none = closed c.self.inside.volume.volume ok.1 in
    rw (← c.self.view_is) (ok.0, none.0, none.1, none.2)

pub returns-in-Err-clause-err : goal.returns-in-Err-clause-err
returns-in-Err-clause-err g c =
    let err = c.in-Err.ensures.err in
    rw (← c.self.view_is) (not_closed c.self.inside.volume.volume c.in-Err.refusal err.0, ap (λ (j : Counted g.row.B.Denot). let r : Recorded g.row.B.Denot = record { rested = rested_of j.volume; taken = j.taken } in r) err.1)
