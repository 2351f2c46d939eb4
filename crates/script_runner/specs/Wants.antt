-- Which commands take a place in a volume's journal: these may find no room there. This project's own.
use Rattle.std.specs.Prelude.{ℕ, Bool, true, false, List, Option, Some, None, Result, Ok, Err}
use Rattle.sector.specs.declared.refusal.Refusal.{Refusal}
use Rattle.command.specs.Line.{said_of}
use Rattle.command.specs.declared.grammar.Command.{Command}
use Rattle.command.specs.declared.grammar.Command.TheVariants as commands
use Rattle.command_semantics.specs.Journal.{enters_journal}

-- a command that submits requests, or by which a snapshot comes, goes or is merged
abbrev pub enters : Command → Bool
enters (commands.Create name line) = enters_journal line.target
enters (commands.Remove name) = true
enters (commands.Read device first count) = true
enters (commands.Write device first bytes) = true
enters (commands.Flush device) = true
enters (commands.StartRead device first count) = true
enters (commands.StartWrite device first bytes) = true
enters (commands.Merge name) = true
enters (commands.Finish volume) = true
enters (commands.Disk name sectors) = false
enters (commands.Load disk first bytes) = false
enters (commands.Save disk first count) = false
enters (commands.Copy from first to count) = false
enters commands.List = false
enters (commands.Message device message) = false
enters (commands.Tick seconds) = false
enters (commands.Step volume event) = false
enters (commands.Settle volume) = false
enters (commands.Resume volume) = false
enters (commands.Checkpoint volume) = false
enters (commands.Stop volume) = false
enters (commands.StopLosing volume) = false
enters (commands.Status device) = false
enters (commands.Table device) = false
enters (commands.Map device) = false

abbrev pub enters_said : Result (Option Command) Refusal → Bool
enters_said (Ok None) = false
enters_said (Ok (Some command)) = enters command
enters_said (Err refusal) = false

-- a line that says such a command
unfoldable pub enters_line : List ℕ → Bool
enters_line line = enters_said (said_of 65536 line)
