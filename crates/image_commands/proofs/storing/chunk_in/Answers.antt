-- Chunks of eight sectors may be.
use Rattle.std.proofs.Common.{refl}
use Rattle.image_commands.proofs.storing.chunk_in.Goals as goal

pub returns-in_default : goal.returns-in_default
unfolding lib.Count.ones
returns-in_default c = refl

pub returns-in_default-2 : goal.returns-in_default-2
unfolding lib.Count.ones
returns-in_default-2 c = refl
