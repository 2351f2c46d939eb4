-- A snapshot of a volume with requests in flight, in which a merge may be begun too. That none is taken is this project's own.
use Rattle.std.specs.Prelude.{◌≡◌, ◌⊎◌, ℕ, true, false, is_some, Result, Ok, Err, if◌then◌else◌}
use Rattle.sector.specs.declared.refusal.Refusal.{Refusal}
use Rattle.sector.specs.declared.refusal.Refusal.TheVariants.{NotQuiet, Stale, MergeInProgress}
use Rattle.table.specs.declared.lines.Target.{Target}
use Rattle.table.specs.declared.lines.Target.TheVariants.{Origin, Snapshot, Merge, Flakey, Dust, Error}
use Rattle.whole_commands.specs.Refusals.{is_starved}
use Rattle.command_semantics.specs.State.{Stacked, Volume, Table}
use Rattle.command_semantics.specs.Snapshots.{Named, named_in}

-- why a stack is not attached to a volume with anything left to do: a mark of the stack comes first, then a merge
abbrev pub busy_with : Stacked → Volume → Refusal
busy_with stacked volume = if stacked.stale then Stale else (if is_some volume.merging then MergeInProgress else NotQuiet)

-- Of a volume with anything left to do no snapshot is taken, and nothing changes.
abbrev pub IsBusyRefused : Result (Unit {0}) Refusal → Table → Table → Result Named Refusal → Type 0
IsBusyRefused result old new (Err e) = Unit {0}
IsBusyRefused result old new (Ok n) = n.volume.quiet ≡ false → (new ≡ old) × ((e : Refusal) × (result ≡ Err e) × ((is_starved e ≡ true) ⊎ (e ≡ busy_with n.stacked n.volume)))

-- the same of a table line
abbrev pub IsBusyTarget : Result (Unit {0}) Refusal → Table → Table → ℕ → Target → Type 0
IsBusyTarget result old new sectors (Snapshot device store chunk overflow) = IsBusyRefused result old new (named_in sectors device store old)
IsBusyTarget result old new sectors (Flakey device offset up down features) = Unit {0}
IsBusyTarget result old new sectors (Origin device) = Unit {0}
IsBusyTarget result old new sectors (Merge device store chunk overflow) = Unit {0}
IsBusyTarget result old new sectors (Dust device block) = Unit {0}
IsBusyTarget result old new sectors Error = Unit {0}
