-- Whose volume a command changes, of those that change what a volume shows.
use Rattle.std.specs.Prelude.{ℕ, List, Option, Some, None}
use Rattle.command.specs.declared.grammar.Command.{Command}
use Rattle.command.specs.declared.grammar.Command.TheVariants as commands
use Rattle.device_commands.specs.Order.{changed_under}

-- the name whose volume a command changes
abbrev pub changed_by : Command → Option (List ℕ)
changed_by (commands.Create name line) = changed_under line.target
changed_by (commands.Remove name) = Some name
changed_by (commands.Write name first bytes) = Some name
changed_by (commands.Settle volume) = Some volume
changed_by (commands.Merge name) = Some name
changed_by (commands.Disk name sectors) = None
changed_by (commands.Load disk first bytes) = None
changed_by (commands.Save disk first count) = None
changed_by (commands.Copy from first to count) = None
changed_by commands.List = None
changed_by (commands.Message device message) = None
changed_by (commands.Tick seconds) = None
changed_by (commands.Read device first count) = None
changed_by (commands.Flush device) = None
changed_by (commands.StartRead device first count) = None
changed_by (commands.StartWrite device first bytes) = None
changed_by (commands.Step volume event) = None
changed_by (commands.Resume volume) = None
changed_by (commands.Finish volume) = None
changed_by (commands.Checkpoint volume) = None
changed_by (commands.Stop volume) = None
changed_by (commands.StopLosing volume) = None
changed_by (commands.Status device) = None
changed_by (commands.Table device) = None
changed_by (commands.Map device) = None
