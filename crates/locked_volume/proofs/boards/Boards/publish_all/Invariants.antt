-- The usages of the first places were published.
use Rattle.locked_volume.specs.Boards.{IsPublished}
use Rattle.locked_volume.specs.Usages.{usage_at}
use Rattle.locked_volume.proofs.Passes.{AreDone}
use Rattle.locked_volume.proofs.boards.Boards.publish_all.Given as goal

abbrev pub invariant-loop-place : goal.invariant-loop-place
invariant-loop-place g l = AreDone (λ k. IsPublished (usage_at k l.volume)) l.self l.fn.publishers l.publishers-inside.passes.items l.place
