-- The usages of the first places are published last.
use Rattle.locked_volume.specs.Boards.{IsKeptUp}
use Rattle.locked_volume.specs.Usages.{usage_at}
use Rattle.locked_volume.proofs.Passes.{AreDone}
use Rattle.locked_volume.proofs.boards.Boards.keep_up.Given as goal

abbrev pub invariant-loop-place : goal.invariant-loop-place
invariant-loop-place g l = AreDone (λ k. IsKeptUp (usage_at k l.volume)) l.self l.fn.publishers l.publishers-inside.passes.items l.place
