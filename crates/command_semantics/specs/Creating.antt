-- To be believed: `run`'s output, a volume's steps or its attach are said in these words.
-- Making devices by table lines. The order of the refusals is this project's own.
use Rattle.std.specs.Prelude.{ℕ, Bool, true, false, List, nat_le, is_some, if◌then◌else◌}
use Rattle.sector.specs.declared.refusal.Refusal.TheVariants.{Busy, TooMany, BadTable}
use Rattle.table.specs.declared.lines.Line.{Line}
use Rattle.table.specs.declared.lines.Target.{Target}
use Rattle.table.specs.declared.lines.Target.TheVariants.{Origin, Snapshot, Merge, Flakey, Dust, Error}
use Rattle.command_semantics.specs.State.{Table}
use Rattle.command_semantics.specs.Places.{place_of}
use Rattle.command_semantics.specs.Changes.{Did, refused, changed}
use Rattle.command_semantics.specs.Disks.{device_count}
use Rattle.command_semantics.specs.Layers.{flakey_over, dust_over, broken}
use Rattle.command_semantics.specs.Origins.{origin_made}
use Rattle.command_semantics.specs.Snapshots.{snapshot_made}

-- the device of a line; no line makes a merge, which begins by another command
unfoldable pub made : List ℕ → ℕ → Target → Table → Did (Unit {0}) Table
made name sectors (Origin device) table = changed table (origin_made name sectors device table)
made name sectors (Snapshot device store chunk overflow) table = snapshot_made name sectors device store chunk overflow table
made name sectors (Merge device store chunk overflow) table = refused table BadTable
made name sectors (Flakey device offset up down features) table = changed table (flakey_over name sectors device offset up down features table)
made name sectors (Dust device block) table = changed table (dust_over name sectors device block table)
made name sectors Error table = changed table (broken name sectors table)

abbrev pub is_merge : Target → Bool
is_merge (Merge device store chunk overflow) = true
is_merge (Origin device) = false
is_merge (Snapshot device store chunk overflow) = false
is_merge (Flakey device offset up down features) = false
is_merge (Dust device block) = false
is_merge Error = false

-- `create NAME LINE`
unfoldable pub create : List ℕ → Line → Table → Did (Unit {0}) Table
create name line table =
    if is_merge line.target then refused table BadTable else
    if is_some (place_of name table) then refused table Busy else
    if nat_le 64 (device_count table) then refused table TooMany else
    made name line.sectors line.target table
