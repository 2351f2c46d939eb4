-- The exit status of a command, by how it ended.
use Rattle.std.specs.Prelude.{ℕ, Result, Ok, Err}
use Rattle.image_commands.specs.declared.ended.Ended.{Ended}
use Rattle.image_commands.specs.declared.ended.Ended.TheVariants.{Good, Refused, Untold}

abbrev pub status_by : {T : Type 0} → Result Ended T → ℕ
status_by (Ok Good) = 0
status_by (Ok Refused) = 1
status_by (Ok (Untold trouble)) = 3
status_by (Err trouble) = 2
