-- The sitting is at the same volume still.
use Rattle.std.proofs.Common.{◌≡◌, true, subst, sym}
use Rattle.volume_threads.proofs.calls.begin_merge.Goals as goal

pub begin-got-requires-clause-asked : goal.begin-got-requires-clause-asked
begin-got-requires-clause-asked g c = subst (λ v. g.J.Room.merges v c.args.snap ≡ true) (sym c.loop.invariant.volume) c.requires.asked
