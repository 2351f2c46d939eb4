-- Each command that makes no layer that drops writes, starts no request and is no single event of a merge has its rule, where no
-- device drops writes and nothing is in flight.
use Rattle.std.proofs.Common.{◌≡◌, ℕ, Bool, true, false, List, Option, Some, None, refl, sym, ap, ◌∙◌}
use Rattle.std.specs.Prelude.{Result, Ok, Err, not, ◌&&◌}
use Rattle.sector.specs.declared.refusal.Refusal.{Refusal}
use Rattle.words.proofs.Bools.{and-join, and-split}
use Rattle.command.specs.Line.{said_of}
use Rattle.command.specs.declared.events.EventWords.{EventWords}
use Rattle.command.specs.declared.grammar.Command.{Command}
use Rattle.command.specs.declared.grammar.Command.TheVariants as commands
use Rattle.command_semantics.specs.Events.{is_merge_event}
use Rattle.command_semantics.specs.Sound.{is_sound}
use Rattle.command_semantics.specs.State.{Volume, Table}
use Rattle.device_commands.specs.Ruled.{is_quiet_in, is_sound_in, volume_for}
use Rattle.device_commands.proofs.Ruled.{name_loud, name_ruled, name_still, target_ruled}
use Rattle.script_runner.specs.Ruled.{is_ruled, is_ruled_said, is_ruled_line}
use Rattle.script_runner.specs.Sound.{is_sound_command, is_sound_said, is_sound_line}

command_ruled : (command : Command) (table : Table) → is_sound table ≡ true → is_sound_command command ≡ true → is_ruled command table ≡ true
command_ruled (commands.Read device first count) table sound makes = name_ruled device table sound
command_ruled (commands.Write device first bytes) table sound makes = name_ruled device table sound
command_ruled (commands.Flush device) table sound makes = name_ruled device table sound
command_ruled (commands.Status device) table sound makes = name_ruled device table sound
command_ruled (commands.Map device) table sound makes = name_loud device table sound
command_ruled (commands.Step volume event) table sound makes = and-join (not (is_merge_event event)) (is_quiet_in (volume_for volume table)) makes (name_still volume table sound)
command_ruled (commands.Settle volume) table sound makes = name_ruled volume table sound
command_ruled (commands.Merge name) table sound makes = name_ruled name table sound
command_ruled (commands.Finish volume) table sound makes = name_ruled volume table sound
command_ruled (commands.Create name line) table sound makes = target_ruled line.sectors line.target table sound
command_ruled (commands.StartRead device first count) table sound makes = absurd cc
command_ruled (commands.StartWrite device first bytes) table sound makes = absurd cc
command_ruled (commands.StopLosing volume) table sound makes = absurd cc
command_ruled (commands.Disk name sectors) table sound makes = refl
command_ruled (commands.Remove name) table sound makes = refl
command_ruled (commands.Load disk first bytes) table sound makes = refl
command_ruled (commands.Save disk first count) table sound makes = refl
command_ruled (commands.Copy from first to count) table sound makes = refl
command_ruled commands.List table sound makes = refl
command_ruled (commands.Message device message) table sound makes = refl
command_ruled (commands.Tick seconds) table sound makes = refl
command_ruled (commands.Resume volume) table sound makes = refl
command_ruled (commands.Checkpoint volume) table sound makes = refl
command_ruled (commands.Stop volume) table sound makes = refl
command_ruled (commands.Table device) table sound makes = refl

said_ruled : (said : Result (Option Command) Refusal) (table : Table) → is_sound table ≡ true → is_sound_said said ≡ true → is_ruled_said table said ≡ true
said_ruled (Ok None) table sound makes = refl
said_ruled (Ok (Some command)) table sound makes = command_ruled command table sound makes
said_ruled (Err refusal) table sound makes = refl

pub line_ruled : (line : List ℕ) (table : Table) → is_sound table ≡ true → is_sound_line line ≡ true → is_ruled_line line table ≡ true
unfolding is_ruled_line is_sound_line
line_ruled line table sound makes = said_ruled (said_of 65536 line) table sound makes

-- a line has its rule where its command has
pub ruled_as : (line : List ℕ) (command : Command) (table : Table) → said_of 65536 line ≡ Ok (Some command) → is_ruled_line line table ≡ true → is_ruled command table ≡ true
unfolding is_ruled_line
ruled_as line command table is ruled = sym (ap (is_ruled_said table) is) ∙ ruled

pub not_true : (b : Bool) → not b ≡ true → b ≡ false
not_true true h = absurd cc
not_true false h = refl

-- a volume of which no device drops writes, and in which nothing is in flight, is one of the latter
pub quiet_too : (r : Result Volume Refusal) → is_sound_in r ≡ true → is_quiet_in r ≡ true
quiet_too (Err e) sound = refl
quiet_too (Ok volume) sound = (and-split volume.sound volume.quiet sound).1

-- a single event that has its rule is none of a merge
pub step_ruled : (event : EventWords) (quiet : Bool) → (not (is_merge_event event) && quiet) ≡ true → (is_merge_event event ≡ false) × (quiet ≡ true)
step_ruled event quiet ruled = let both = and-split (not (is_merge_event event)) quiet ruled in (not_true (is_merge_event event) both.0, both.1)
