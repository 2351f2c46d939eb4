-- What stands beside a volume's lock. This project's own.
use Rattle.std.specs.Prelude.{◌≡◌, ℕ, List}
use Rattle.atomic_table.specs.Seated.{TableId}
use Rattle.thread_channels.specs.BoardPasses.{BoardId}
use Rattle.locked_volume.specs.Ties.{table_of}
use Rattle.locked_volume.specs.declared.beside.Beside.{Beside}

-- its history and its boards have these names
pub record IsBeside (history : TableId) (boards : List BoardId) (b : Beside) : Type 0 where
  pub history_is : table_of b.history ≡ history
  pub boards_are : b.boards ≡ boards

-- the table of a new history, the boards, and the number of the next seat
pub record OpenedAt : Type 0 where
  pub table : TableId
  pub boards : List BoardId
  pub next : ℕ
