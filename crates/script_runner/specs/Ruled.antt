-- Of which commands their rule says what they answer, by what each asks: a command that asks nothing of a volume answers by
-- its rule in any case, and so do one that lets a merge go on, one that folds a journal and one that stops a volume; another one, where no device of that
-- volume drops writes and nothing is in flight in it. A single event of a merge has its own contract, and so has a stop by which
-- disks lose bytes.
use Rattle.std.specs.Prelude.{◌&&◌, ℕ, Bool, true, false, not, List, Option, Some, None, Result, Ok, Err}
use Rattle.sector.specs.declared.refusal.Refusal.{Refusal}
use Rattle.command.specs.Line.{said_of}
use Rattle.command.specs.declared.grammar.Command.{Command}
use Rattle.command.specs.declared.grammar.Command.TheVariants as commands
use Rattle.command_semantics.specs.Events.{is_merge_event}
use Rattle.command_semantics.specs.State.{Table}
use Rattle.device_commands.specs.Ruled.{is_loud_in, is_quiet_in, is_sound_in, is_sound_target, volume_for}

abbrev pub is_ruled : Command → Table → Bool
is_ruled (commands.Read device first count) table = is_sound_in (volume_for device table)
is_ruled (commands.Write device first bytes) table = is_sound_in (volume_for device table)
is_ruled (commands.Flush device) table = is_sound_in (volume_for device table)
is_ruled (commands.Status device) table = is_sound_in (volume_for device table)
is_ruled (commands.Map device) table = is_loud_in (volume_for device table)
is_ruled (commands.Step volume event) table = not (is_merge_event event) && is_quiet_in (volume_for volume table)
is_ruled (commands.Settle volume) table = is_sound_in (volume_for volume table)
is_ruled (commands.Merge name) table = is_sound_in (volume_for name table)
is_ruled (commands.Finish volume) table = is_sound_in (volume_for volume table)
is_ruled (commands.Create name line) table = is_sound_target line.sectors line.target table
is_ruled (commands.StartRead device first count) table = false
is_ruled (commands.StartWrite device first bytes) table = false
is_ruled (commands.StopLosing volume) table = false
is_ruled (commands.Disk name sectors) table = true
is_ruled (commands.Remove name) table = true
is_ruled (commands.Load disk first bytes) table = true
is_ruled (commands.Save disk first count) table = true
is_ruled (commands.Copy from first to count) table = true
is_ruled commands.List table = true
is_ruled (commands.Message device message) table = true
is_ruled (commands.Tick seconds) table = true
is_ruled (commands.Resume volume) table = true
is_ruled (commands.Checkpoint volume) table = true
is_ruled (commands.Stop volume) table = true
is_ruled (commands.Table device) table = true

-- a line that says no command has its rule too
abbrev pub is_ruled_said : Table → Result (Option Command) Refusal → Bool
is_ruled_said table (Ok None) = true
is_ruled_said table (Ok (Some command)) = is_ruled command table
is_ruled_said table (Err refusal) = true

unfoldable pub is_ruled_line : List ℕ → Table → Bool
is_ruled_line line table = is_ruled_said table (said_of 65536 line)
