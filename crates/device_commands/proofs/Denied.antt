-- Why what may be asked of a volume is refused.
use Rattle.std.proofs.Common.{◌≡◌, ℕ, ◌<◌, true, List, length, get_or}
use Rattle.std.specs.Prelude.{Result, IfErr, IfOk}
use Rattle.sector.specs.declared.refusal.Refusal.{Refusal}
use Rattle.command_semantics.specs.declared.place.Place.TheVariants.{In}
use Rattle.command_semantics.specs.State.{Volume, Table}
use Rattle.command_semantics.specs.Places.{volume_at}
use Rattle.command_semantics.specs.Sectors.{asked_of}
use Rattle.command_semantics.specs.Starting.{asked_at}
use Rattle.command_semantics.specs.declared.place.Role.{Role}
use Rattle.command_semantics.proofs.AtPlace.{volume_here}
use Rattle.device_list.specs.Flights.{IsDenied}
use Rattle.device_list.specs.Status.{IsStatusOf}
use Rattle.device_commands.specs.Ruled.{is_quiet_in}
use Rattle.device_commands.specs.Status.{IsStatusHeldIn}
use Rattle.device_commands.proofs.Ruled.{quiet_here}

pub denied_in : {A : Type 0} (r : Result A Refusal) (v : ℕ) (role : Role) (first count : ℕ) (table : Table) (old : Volume) → v < length table.volumes → old ≡ get_or table.volumes v old
    → (old.quiet ≡ true → IfErr r (λ e. IfOk (asked_of role first count old) (λ _. IsDenied e)))
    → is_quiet_in (volume_at v table) ≡ true → IfErr r (λ e. IfOk (asked_at (In v role) first count table) (λ _. IsDenied e))
denied_in r v role first count table old lt at why quiet =
    let there = volume_here table v old lt at in
    let still = quiet_here table v old quiet lt at in rw there (why still)

-- what a status line says of a device
pub held_in : (r : Result (List ℕ) Refusal) (role : Role) (v : ℕ) (table : Table) (old : Volume) → v < length table.volumes → old ≡ get_or table.volumes v old → IsStatusOf r role old → IsStatusHeldIn r role (volume_at v table)
held_in r role v table old lt at says = let there = volume_here table v old lt at in rw there says
