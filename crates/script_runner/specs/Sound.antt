-- Of which lines contracts say what they answer. A layer that drops writes answers Ok and does nothing (dm-flakey's
-- `drop_writes`), so once a line has made such a layer nothing is said of answers; nor while a request is in flight, or a group of
-- a merge is formed; nor once disks lost what was not flushed, since which bytes these are is known to the disks alone.
use Rattle.std.specs.Prelude.{ℕ, Bool, true, false, ◌&&◌, not, List, Option, Some, None, Result, Ok, Err}
use Rattle.std.specs.List.{list_all}
use Rattle.sector.specs.declared.refusal.Refusal.{Refusal}
use Rattle.words.specs.Lines.{lines_of}
use Rattle.command.specs.Opening.{is_par}
use Rattle.command.specs.Line.{said_of}
use Rattle.command.specs.declared.grammar.Command.{Command}
use Rattle.command.specs.declared.grammar.Command.TheVariants as commands
use Rattle.command_semantics.specs.Events.{is_merge_event}
use Rattle.command_semantics.specs.Sound.{drops_writes}

-- a command that makes no layer that drops writes, starts no request, does no single event of a merge, and loses nothing
abbrev pub is_sound_command : Command → Bool
is_sound_command (commands.Create name line) = not (drops_writes line.target)
is_sound_command (commands.Disk name sectors) = true
is_sound_command (commands.Remove name) = true
is_sound_command (commands.Load disk first bytes) = true
is_sound_command (commands.Save disk first count) = true
is_sound_command (commands.Copy from first to count) = true
is_sound_command commands.List = true
is_sound_command (commands.Message device message) = true
is_sound_command (commands.Tick seconds) = true
is_sound_command (commands.Read device first count) = true
is_sound_command (commands.Write device first bytes) = true
is_sound_command (commands.Flush device) = true
is_sound_command (commands.StartRead device first count) = false
is_sound_command (commands.StartWrite device first bytes) = false
is_sound_command (commands.Step volume event) = not (is_merge_event event)
is_sound_command (commands.Settle volume) = true
is_sound_command (commands.Merge name) = true
is_sound_command (commands.Resume volume) = true
is_sound_command (commands.Finish volume) = true
is_sound_command (commands.Checkpoint volume) = true
is_sound_command (commands.Stop volume) = true
is_sound_command (commands.StopLosing volume) = false
is_sound_command (commands.Status device) = true
is_sound_command (commands.Table device) = true
is_sound_command (commands.Map device) = true

abbrev pub is_sound_said : Result (Option Command) Refusal → Bool
is_sound_said (Ok None) = true
is_sound_said (Ok (Some command)) = is_sound_command command
is_sound_said (Err refusal) = true

-- a line that makes no such layer, starts no request, does no single event of a merge, and loses nothing
unfoldable pub is_sound_line : List ℕ → Bool
is_sound_line line = is_sound_said (said_of 65536 line)

-- and opens no block: it does not begin with the word `par`
abbrev pub is_alone_line : List ℕ → Bool
is_alone_line line = not (is_par 65536 line) && is_sound_line line

-- each of the lines is such
abbrev pub are_sound_lines : List (List ℕ) → Bool
are_sound_lines lines = list_all is_alone_line lines

-- a text of such lines: none makes a layer that drops writes, starts a request, does a single event of a merge, stops a volume with a
-- loss, or opens a block
unfoldable pub is_sound_text : List ℕ → Bool
is_sound_text text = are_sound_lines (lines_of text)
