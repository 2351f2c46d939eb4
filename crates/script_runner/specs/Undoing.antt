-- To be believed: what lines do to what volumes show is said in these words.
-- A snapshot that no line writes, merged: its origin shows what it showed when the snapshot was made. The lines are those of
-- `Desk::line`, each of which has its rule: no device drops writes in the volume that it asks, and nothing is in flight there.
use Rattle.std.specs.Prelude.{◌≡◌, ℕ, Bool, true, List, [], ◌∷◌, Option, Some, None, Result, Ok, Err}
use Rattle.sector.specs.declared.refusal.Refusal.{Refusal}
use Rattle.command.specs.Line.{said_of}
use Rattle.command.specs.declared.grammar.Command.{Command}
use Rattle.command.specs.declared.grammar.Command.TheVariants as commands
use Rattle.table.specs.declared.lines.Line.{Line}
use Rattle.table.specs.declared.lines.Target.TheVariants as targets
use Rattle.command_semantics.specs.State.{Table}
use Rattle.commands_on_saved_arrays.specs.Arrays.{Arrays, arrays_in}
use Rattle.commands_on_saved_arrays.specs.Undoing.{HasNone, IsFreshIn, IsOnDisk, IsOver, OriginShows, Spares}
use Rattle.script_runner.specs.Done.{IsLineDone}
use Rattle.script_runner.specs.Output.{LineOutcome}
use Rattle.script_runner.specs.Ruled.{is_ruled_line}
use Rattle.script_runner.specs.Shown.{answer_in}

-- a line that says no command which makes a device of this name, or writes it
abbrev pub SparesSaid : List ℕ → Result (Option Command) Refusal → Type 0
SparesSaid name (Ok None) = Unit {0}
SparesSaid name (Ok (Some command)) = Spares name command
SparesSaid name (Err refusal) = Unit {0}

-- a line that has its rule was done
pub record IsRuledDone (line : List ℕ) (old : Table) (done : LineOutcome) : Type 0 where
  pub ruled : is_ruled_line line old ≡ true
  pub did : IsLineDone line old done

-- and it was not refused
pub record IsDoneWell (line : List ℕ) (command : Command) (old : Table) (done : LineOutcome) : Type 0 where
  pub says : said_of 65536 line ≡ Ok (Some command)
  pub did : IsRuledDone line old done
  pub well : answer_in done.replies ≡ Ok tt

-- such lines were done, one after the other, all of which spare this name
abbrev pub AreSparing : List ℕ → Table → List (List ℕ) → Table → Type 0
AreSparing name old [] new = new ≡ old
AreSparing name old (line ∷ lines) new = (done : LineOutcome) × SparesSaid name (said_of 65536 line) × IsRuledDone line old done × AreSparing name done.table lines new

-- A snapshot was made over a store without a header, under a name that no snapshot had; then lines were done that spare this name;
-- then it was merged. So its origin shows what it showed when the snapshot was made.
pub record IsMergedAgain (name device store : List ℕ) (before after : Table) (merged : LineOutcome) : Type 0 where
  pub chunk : ℕ
  pub overflow : Bool
  pub line : Line
  pub target : line.target ≡ targets.Snapshot device store chunk overflow
  pub create : List ℕ
  pub made : LineOutcome
  pub none : HasNone name (arrays_in before)
  pub fresh : IsFreshIn store before
  pub creates : IsDoneWell create (commands.Create name line) before made
  pub between : List (List ℕ)
  pub spares : AreSparing name made.table between after
  pub merge : List ℕ
  pub merges : IsDoneWell merge (commands.Merge name) after merged

abbrev pub Undoes : Type 0
Undoes = (name device store : List ℕ) (before after : Table) (merged : LineOutcome) → IsMergedAgain name device store before after merged
    → (origin : Arrays) × IsOver device before origin × OriginShows origin.name origin.array (arrays_in merged.table)

-- A merge that is finished leaves what volumes show as it was, and what its origin shows stands on the origin's device from then on.
abbrev pub Finishes : Type 0
Finishes = (line name : List ℕ) (old : Table) (done : LineOutcome) → IsDoneWell line (commands.Finish name) old done → IsOnDisk name old done.table × (arrays_in done.table ≡ arrays_in old)
