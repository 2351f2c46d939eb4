-- A request that is not started.
use Rattle.std.proofs.Common.{◌≡◌, ◌≢◌, ℕ, ◌<◌, length, get_or}
use Rattle.std.specs.Prelude.{Result, Ok, Err, IfErr, IfOk}
use Rattle.sector.specs.declared.refusal.Refusal.{Refusal}
use Rattle.sector.specs.declared.refusal.Refusal.TheVariants.{Invalid, Overflow}
use Rattle.plain_machine.specs.declared.request.Op.{Op}
use Rattle.command_semantics.specs.declared.place.Role.{Role}
use Rattle.command_semantics.specs.declared.place.Place.TheVariants.{In}
use Rattle.command_semantics.specs.State.{Volume, Table}
use Rattle.command_semantics.specs.Places.{volume_at}
use Rattle.command_semantics.specs.Messages.{put_volume}
use Rattle.command_semantics.specs.Sectors.{Asked, asked_of, IsInVolume}
use Rattle.command_semantics.specs.Starting.{asked_at}
use Rattle.device_list.specs.Flights.{IsNotStarted}
use Rattle.device_commands.specs.Flights.{IsNotStartedAs}
use Rattle.device_commands.proofs.InVolume.{asked_did}

-- its cause, and what it leaves
all_of : (op : Op) (e : Refusal) (asks : Result Asked Refusal) (old new : Volume) → IfOk asks (IsNotStarted op e old new) → (e ≢ Invalid → e ≢ Overflow → new.state ≡ old.state) → (e ≢ Invalid → new.quiet ≡ old.quiet) → IfOk asks (λ a. IsNotStartedAs op e a old new)
all_of op e (Ok a) old new cause same still = record { cause = cause; same = same; still = still }
all_of op e (Err x) old new cause same still = tt

-- of the volume at a place
pub unstarted : (op : Op) (r : Result ℕ Refusal) (v : ℕ) (role : Role) (first count : ℕ) (table : Table) (old new : Volume) → v < length table.volumes → old ≡ get_or table.volumes v old
    → IfErr r (λ e. IfOk (asked_of role first count old) (IsNotStarted op e old new)) → IfErr r (λ e. e ≢ Invalid → e ≢ Overflow → new.state ≡ old.state) → IfErr r (λ e. e ≢ Invalid → new.quiet ≡ old.quiet)
    → IfErr r (λ e. IfOk (asked_at (In v role) first count table) (λ asks. IsInVolume (IsNotStartedAs op e asks) v table (put_volume v new table) (volume_at v table)))
unstarted op (Ok number) v role first count table old new lt at cause same still = tt
unstarted op (Err e) v role first count table old new lt at cause same still =
    asked_did (IsNotStartedAs op e) v role first count table old new lt at (all_of op e (asked_of role first count old) old new cause same still)
