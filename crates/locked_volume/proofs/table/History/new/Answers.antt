use Rattle.std.proofs.Common.{[], ◌∷◌}
use Rattle.locked_volume.proofs.Moves.{begins}
use Rattle.locked_volume.proofs.table.History.new.Goals as goal

pub of_words-requires : goal.of_words-requires
of_words-requires c = begins _ (0 ∷ []) []
