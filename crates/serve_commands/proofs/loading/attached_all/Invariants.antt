-- No merge begins.
use Rattle.std.proofs.Common.{◌≡◌}
use Rattle.serve_commands.proofs.loading.attached_all.Given as goal

abbrev pub invariant-loop-store : goal.invariant-loop-store
invariant-loop-store l = l.volume.merge ≡ l.fn.volume.merge
