-- To be believed: `run`'s output, a volume's steps or its attach are said in these words.
-- The journal of a volume, in which each request takes a place, and each snapshot that comes, goes or is merged. It has room for
-- so many, and is folded to make room again, by a command that is this project's own.
use Rattle.std.specs.Prelude.{ℕ, Bool, true, false, List, Result, Ok}
use Rattle.sector.specs.declared.refusal.Refusal.{Refusal}
use Rattle.words.specs.Given.{◌>>=◌}
use Rattle.table.specs.declared.lines.Target.{Target}
use Rattle.table.specs.declared.lines.Target.TheVariants.{Origin, Snapshot, Merge, Flakey, Dust, Error}
use Rattle.command_semantics.specs.State.{Table}
use Rattle.command_semantics.specs.Events.{origin_by}

-- whether the device of a target takes a place in a journal: a snapshot does, in that of its origin's volume
abbrev pub enters_journal : Target → Bool
enters_journal (Snapshot device store chunk overflow) = true
enters_journal (Origin device) = false
enters_journal (Merge device store chunk overflow) = false
enters_journal (Flakey device offset up down features) = false
enters_journal (Dust device block) = false
enters_journal Error = false

-- `checkpoint VOL`: the journal of the volume of an origin is folded, and no device is changed
unfoldable pub checkpointed : List ℕ → Table → Result Table Refusal
checkpointed name table = do
  v ← origin_by name table
  Ok table
