-- What contracts see of a board and of a pass.
use Rattle.std.specs.Prelude.{Bool, List}
use Rattle.atomic_table.specs.Seated.{TableId}
use Rattle.thread_channels.specs.declared.usage.PlaceUsage.{PlaceUsage}

-- which board it is
abbrev pub BoardId : Type 0
BoardId = TableId

-- whose board it is, whether it publishes, and the publications that were seen, first to last
pub record Seen : Type 0 where
  pub board : BoardId
  pub publishes : Bool
  pub seen : List PlaceUsage
