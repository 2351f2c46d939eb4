-- Of which volume's journal a line says that it is full, and how much that volume was asked for. This project's own.
use Rattle.std.specs.Prelude.{ℕ, List, Option, Some, None, Result, Ok, Err}
use Rattle.sector.specs.declared.refusal.Refusal.{Refusal}
use Rattle.command.specs.Line.{said_of}
use Rattle.command.specs.declared.grammar.Command.{Command}
use Rattle.command.specs.declared.grammar.Command.TheVariants as commands
use Rattle.command_semantics.specs.State.{Table}
use Rattle.device_commands.specs.Asked.{IsAskedMuch}
use Rattle.device_commands.specs.Order.{changed_under}

-- the name of the device in whose volume's journal a command takes places
abbrev pub entered_by : Command → Option (List ℕ)
entered_by (commands.Create name line) = changed_under line.target
entered_by (commands.Remove name) = Some name
entered_by (commands.Read device first count) = Some device
entered_by (commands.Write device first bytes) = Some device
entered_by (commands.Flush device) = Some device
entered_by (commands.StartRead device first count) = Some device
entered_by (commands.StartWrite device first bytes) = Some device
entered_by (commands.Merge name) = Some name
entered_by (commands.Finish volume) = Some volume
entered_by (commands.Disk name sectors) = None
entered_by (commands.Load disk first bytes) = None
entered_by (commands.Save disk first count) = None
entered_by (commands.Copy from first to count) = None
entered_by commands.List = None
entered_by (commands.Message device message) = None
entered_by (commands.Tick seconds) = None
entered_by (commands.Step volume event) = None
entered_by (commands.Settle volume) = None
entered_by (commands.Resume volume) = None
entered_by (commands.Checkpoint volume) = None
entered_by (commands.Stop volume) = None
entered_by (commands.StopLosing volume) = None
entered_by (commands.Status device) = None
entered_by (commands.Table device) = None
entered_by (commands.Map device) = None

-- By the end of such a command, its volume was asked for so much that its journal may be full. No other command is told that one is,
-- and no line that says nothing or is refused for its words.
abbrev pub IsAskedBySaid : Result (Option Command) Refusal → Table → Table → Type 0
IsAskedBySaid (Ok None) old new = ⊥
IsAskedBySaid (Ok (Some command)) old new = IsAskedMuch (entered_by command) old new
IsAskedBySaid (Err refusal) old new = ⊥

-- the same of a line
unfoldable pub IsAskedByLine : List ℕ → Table → Table → Type 0
IsAskedByLine line old new = IsAskedBySaid (said_of 65536 line) old new
