-- The audit that is given back is the one that there was.
use Rattle.std.proofs.Common.{ap}
use Rattle.volume.specs.Volumed.{Volumed}
use Rattle.counted_volume.specs.Places.{counted_with}
use Rattle.counted_volume.proofs.counted_volume.CountedVolume.close.Goals as goal

pub invariant_of-result : goal.invariant_of-result
invariant_of-result g c = rw c.in-Err.ensures.err.1 c.self.invariant

pub returns-in-Err-clause-err : goal.returns-in-Err-clause-err
returns-in-Err-clause-err g c =
    rw (← c.self.view_is) (c.in-Err.ensures.err.0, ap (λ (v : Volumed g.row.B.Denot). counted_with v c.self.inside.places) c.in-Err.ensures.err.1)
