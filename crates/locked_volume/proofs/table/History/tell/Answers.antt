use Rattle.std.proofs.Common.{rules, ◌==◌}
use prog.Atomic.{either}
use Rattle.locked_volume.proofs.Moves.{notes}
use Rattle.locked_volume.proofs.table.History.tell.Goals as goal

pub compare_exchange_with-requires : goal.compare_exchange_with-requires
compare_exchange_with-requires c = (search rules, search rules, notes _ _ _ _ (λ n. either (n == 0) 0 n) c.requires.1 c.requires.2)
