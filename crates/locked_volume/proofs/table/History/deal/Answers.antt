use Rattle.std.proofs.Common.{rules}
use Rattle.locked_volume.proofs.Moves.{deals}
use Rattle.locked_volume.proofs.table.History.deal.Goals as goal

pub split_seat-requires : goal.split_seat-requires
split_seat-requires c = (search rules, search rules, deals _ _ c.requires.1 c.requires.2)
