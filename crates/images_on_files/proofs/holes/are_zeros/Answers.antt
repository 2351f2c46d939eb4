use Rattle.std.proofs.Common.{◌≡◌}
use Rattle.images_on_files.proofs.Holds.{zeros_more}
use Rattle.images_on_files.proofs.holes.are_zeros.Goals as goal

pub loop-byte-preserved : goal.loop-byte-preserved
loop-byte-preserved c = λ none. zeros_more c.args.bytes.now c.loop-byte.byte-index c.loop-byte.seen c.loop-byte-test.true none c.loop-byte.invariant
