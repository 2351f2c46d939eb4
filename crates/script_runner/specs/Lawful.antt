-- Commands whose table lines are such as can be read.
use Rattle.std.specs.Prelude.{Bool, true}
use Rattle.table.specs.Lawful.{is_line}
use Rattle.command.specs.declared.grammar.Command.{Command}
use Rattle.command.specs.declared.grammar.Command.TheVariants as commands

-- a command of which each part is such as a line may say
abbrev pub is_lawful : Command → Bool
is_lawful (commands.Create name line) = is_line line
is_lawful (commands.Disk name sectors) = true
is_lawful (commands.Remove name) = true
is_lawful (commands.Load disk first bytes) = true
is_lawful (commands.Save disk first count) = true
is_lawful (commands.Copy from first to count) = true
is_lawful commands.List = true
is_lawful (commands.Message device message) = true
is_lawful (commands.Tick seconds) = true
is_lawful (commands.Read device first count) = true
is_lawful (commands.Write device first bytes) = true
is_lawful (commands.Flush device) = true
is_lawful (commands.StartRead device first count) = true
is_lawful (commands.StartWrite device first bytes) = true
is_lawful (commands.Step volume event) = true
is_lawful (commands.Settle volume) = true
is_lawful (commands.Merge name) = true
is_lawful (commands.Resume volume) = true
is_lawful (commands.Finish volume) = true
is_lawful (commands.Checkpoint volume) = true
is_lawful (commands.Stop volume) = true
is_lawful (commands.StopLosing volume) = true
is_lawful (commands.Status device) = true
is_lawful (commands.Table device) = true
is_lawful (commands.Map device) = true
