use Rattle.std.proofs.Common.{arith, sym, ◌≢◌, length}
use Rattle.std.proofs.lemmas.Bool.{eqb-false}
use Rattle.cow_image.proofs.SlotFaults.{head_is}
use Rattle.cow_image.proofs.telling.first_of.Goals as goal

pub returns : goal.returns
returns c = let some : length c.args.faults.now ≢ 0 = eqb-false _ _ (sym c.if-is_empty.ensures) in head_is c.args.faults.now _ (omega arith)
