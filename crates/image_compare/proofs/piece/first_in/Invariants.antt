use Rattle.std.proofs.Common.{◌≡◌, take}
use Rattle.image_compare.proofs.piece.first_in.Given as goal

abbrev pub invariant-loop-at : goal.invariant-loop-at
invariant-loop-at l = take l.at l.ours ≡ take l.at l.theirs
