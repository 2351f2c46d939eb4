-- The entries so far were told.
use Rattle.std.proofs.Common.{◌≡◌, take}
use Rattle.locked_volume.specs.Ties.{table_of}
use Rattle.locked_volume.specs.Posts.{IsKeeper, with_more}
use Rattle.locked_volume.proofs.beside.Beside.note.Given as goal

abbrev pub invariant-loop-k : goal.invariant-loop-k
invariant-loop-k l = IsKeeper (table_of l.self.history) l.keeper × (l.keeper.me.0 ≡ with_more (take l.k l.fresh) l.fn.keeper.me.0)
