-- The pairs that a store holds in memory.
use Rattle.std.specs.Prelude.{ℕ, List}
use Rattle.sector.specs.declared.pair.Pair.{Pair}
use Rattle.exception_arena.specs.declared.begun.Begun.{Begun}
use Rattle.exception_arena.specs.Kept.{Kept}
use Rattle.exception_arena.specs.Pending.{pairs}

-- the committed ones, in the order of their slots
abbrev pub committed : Kept → List Pair
committed exceptions = exceptions.committed

-- the copies that are under way, in the order in which they began
abbrev pub pending : Kept → List Begun
pending exceptions = exceptions.pending

-- and their pairs
abbrev pub pairs_pending : Kept → List Pair
pairs_pending exceptions = pairs exceptions.pending

-- how many copies may start without more memory
abbrev pub reserved : Kept → ℕ
reserved exceptions = exceptions.reserved

-- for how many elements each list of them has room in memory
abbrev pub memory : Kept → List ℕ
memory exceptions = exceptions.memory
