-- The places that are kept free alone are taken.
use Rattle.std.proofs.Common.{arith}
use Rattle.counted_volume.proofs.counted_volume.CountedVolume.checkpoint.Goals as goal

pub returns-clause-taken : goal.returns-clause-taken
returns-clause-taken g c = rw (← c.self.view_is) (omega (arith, c.flying.ensures.len, c.count_live.ensures.count))
