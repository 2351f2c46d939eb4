-- Where a command's rule speaks, the volume that it changes is well.
use Rattle.std.proofs.Common.{◌≡◌, ℕ, true, List, sym, subst}
use Rattle.std.specs.Prelude.{Option, Some, Result, Ok}
use Rattle.sector.specs.declared.refusal.Refusal.{Refusal}
use Rattle.table.specs.declared.lines.Target.{Target}
use Rattle.table.specs.declared.lines.Target.TheVariants as targets
use Rattle.command.specs.Line.{said_of}
use Rattle.command.specs.declared.grammar.Command.{Command}
use Rattle.command.specs.declared.grammar.Command.TheVariants as commands
use Rattle.command_semantics.specs.State.{Table}
use Rattle.commands_on_saved_arrays.specs.Well.{IsNumberedTarget, IsWellOf}
use Rattle.script_runner.proofs.Orders.{numbered_for, well_for}
use Rattle.device_commands.specs.Order.{changed_under, IsLookedAt}
use Rattle.script_runner.specs.Changed.{changed_by}
use Rattle.script_runner.specs.Ruled.{is_ruled, is_ruled_line}
use Rattle.script_runner.proofs.RuledLemmas.{ruled_as}
use Rattle.script_runner.proofs.ShownLemmas.{IsWellSaid}

target_numbered : (target : Target) (table : Table) → IsLookedAt table (changed_under target) → IsNumberedTarget target table
target_numbered (targets.Snapshot device store chunk overflow) table look = numbered_for device table look
target_numbered (targets.Origin device) table look = tt
target_numbered (targets.Merge device store chunk overflow) table look = tt
target_numbered (targets.Flakey device offset up down features) table look = tt
target_numbered (targets.Dust device block) table look = tt
target_numbered targets.Error table look = tt

command_well : (command : Command) (table : Table) → IsLookedAt table (changed_by command) → is_ruled command table ≡ true → IsWellOf command table
command_well (commands.Create name line) table look ruled = target_numbered line.target table look
command_well (commands.Remove name) table look ruled = numbered_for name table look
command_well (commands.Write name first bytes) table look ruled = well_for name table look ruled
command_well (commands.Settle volume) table look ruled = well_for volume table look ruled
command_well (commands.Merge name) table look ruled = numbered_for name table look
command_well (commands.Disk name sectors) table look ruled = tt
command_well (commands.Load disk first bytes) table look ruled = tt
command_well (commands.Save disk first count) table look ruled = tt
command_well (commands.Copy from first to count) table look ruled = tt
command_well commands.List table look ruled = tt
command_well (commands.Message device message) table look ruled = tt
command_well (commands.Tick seconds) table look ruled = tt
command_well (commands.Read device first count) table look ruled = tt
command_well (commands.Flush device) table look ruled = tt
command_well (commands.StartRead device first count) table look ruled = tt
command_well (commands.StartWrite device first bytes) table look ruled = tt
command_well (commands.Step volume event) table look ruled = tt
command_well (commands.Resume volume) table look ruled = tt
command_well (commands.Finish volume) table look ruled = tt
command_well (commands.Checkpoint volume) table look ruled = tt
command_well (commands.Stop volume) table look ruled = tt
command_well (commands.StopLosing volume) table look ruled = tt
command_well (commands.Status device) table look ruled = tt
command_well (commands.Table device) table look ruled = tt
command_well (commands.Map device) table look ruled = tt

-- by what the line says
pub line_well : (line : List ℕ) (command : Command) (table : Table) → said_of 65536 line ≡ Ok (Some command) → IsLookedAt table (changed_by command) → is_ruled_line line table ≡ true → IsWellSaid (said_of 65536 line) table
line_well line command table is look ruled = subst (λ (s : Result (Option Command) Refusal). IsWellSaid s table) (sym is) (command_well command table look (ruled_as line command table is ruled))
