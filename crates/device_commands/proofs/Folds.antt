-- The journal of the volume at a place is folded.
use Rattle.std.proofs.Common.{◌≡◌, ℕ, get_or, sym, ap}
use Rattle.std.specs.Prelude.{Result, Ok, Err, IfErr}
use Rattle.sector.specs.declared.refusal.Refusal.{Refusal}
use Rattle.sector.specs.declared.refusal.Refusal.TheVariants.{NoMemory}
use Rattle.command_semantics.specs.State.{Volume, Table}
use Rattle.command_semantics.specs.Changes.{Changes}
use Rattle.command_semantics.specs.Messages.{put_volume}
use Rattle.device_commands.proofs.InVolume.{idle_in}

pub folds : (r : Result (Unit {0}) Refusal) (v : ℕ) (table : Table) (old new : Volume) → old ≡ get_or table.volumes v old → new ≡ old → IfErr r (λ e. e ≡ NoMemory) → Changes r table (put_volume v new table) (Ok table)
folds (Ok done) v table old new at same starved = ap (λ (t : Table). let r : Result Table Refusal = Ok t in r) (sym (idle_in v table old new at same))
folds (Err e) v table old new at same starved = (idle_in v table old new at same, λ other. absurd (other starved))
