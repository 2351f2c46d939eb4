use Rattle.std.proofs.Common.{refl, arith}
use Rattle.cow_tests.proofs.loads.loaded.Goals as goal

-- src/loads.rt:24:11
pub open-requires : goal.open-requires
unfolding lib.Count.ones
open-requires c = record { chunk = refl; near = omega arith }
