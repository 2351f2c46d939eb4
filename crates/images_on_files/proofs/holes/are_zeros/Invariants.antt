use Rattle.std.proofs.Common.{◌≡◌, take, replicate}
use Rattle.images_on_files.proofs.holes.are_zeros.Given as goal

abbrev pub invariant-loop-byte : goal.invariant-loop-byte
invariant-loop-byte l = l.seen ≡ 0 → take l.byte-index l.bytes ≡ replicate l.byte-index 0
