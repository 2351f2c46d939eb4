use Rattle.std.proofs.Common.{◌≡◌}
use Rattle.unit_tests.proofs.boards.read_all.Given as goal

abbrev pub invariant-loop : goal.invariant-loop
invariant-loop l = l.pass.board ≡ l.board
