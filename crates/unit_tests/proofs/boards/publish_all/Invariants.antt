use Rattle.std.proofs.Common.{◌≡◌, ◌<◌, ◌^◌, true}
use Rattle.unit_tests.proofs.boards.publish_all.Given as goal

abbrev pub invariant-loop-sectors : goal.invariant-loop-sectors
invariant-loop-sectors l = (l.pass.board ≡ l.board) × (l.pass.publishes ≡ true) × (l.count < 2 ^ 28)
