-- What a status line says of a volume with something in flight.
use Rattle.std.specs.Prelude.{◌≡◌, ℕ, List, Some, Result, Ok, Err}
use Rattle.sector.specs.declared.refusal.Refusal.{Refusal}
use Rattle.sector.specs.declared.refusal.Refusal.TheVariants.{BadTable}
use Rattle.words.specs.Given.{Gives}
use Rattle.event_machine.specs.Held.{Moving}
use Rattle.command_semantics.specs.declared.place.Role.{Role}
use Rattle.command_semantics.specs.declared.place.Place.{Place}
use Rattle.command_semantics.specs.declared.place.Place.TheVariants.{Free, In}
use Rattle.command_semantics.specs.State.{Volume, Table}
use Rattle.command_semantics.specs.Places.{place_of, found, volume_at}
use Rattle.device_list.specs.Status.{IsStatusOf, status_flying}

-- of a device of a volume
abbrev pub IsStatusIn : Result (List ℕ) Refusal → Role → Result Volume Refusal → Type 0
IsStatusIn result role (Err refusal) = Unit {0}
IsStatusIn result role (Ok volume) = (moving : Moving) → volume.flying ≡ Some moving → Gives result (status_flying role volume moving)

-- of the device at a place
abbrev pub IsStatusAt : Result (List ℕ) Refusal → Table → Result Place Refusal → Type 0
IsStatusAt result table (Err refusal) = Unit {0}
IsStatusAt result table (Ok (Free i depth)) = Unit {0}
IsStatusAt result table (Ok (In v role)) = IsStatusIn result role (volume_at v table)

-- and of a name
abbrev pub IsStatusAmong : Result (List ℕ) Refusal → List ℕ → Table → Type 0
IsStatusAmong result name table = IsStatusAt result table (found (place_of name table))

-- And in any case, whatever is in flight and whichever device drops writes: in a volume,
abbrev pub IsStatusHeldIn : Result (List ℕ) Refusal → Role → Result Volume Refusal → Type 0
IsStatusHeldIn result role (Err refusal) = Unit {0}
IsStatusHeldIn result role (Ok volume) = IsStatusOf result role volume

-- at a place,
abbrev pub IsStatusHeldAt : Result (List ℕ) Refusal → Table → Result Place Refusal → Type 0
IsStatusHeldAt result table (Err refusal) = result ≡ Err refusal
IsStatusHeldAt result table (Ok (Free i depth)) = result ≡ Err BadTable
IsStatusHeldAt result table (Ok (In v role)) = IsStatusHeldIn result role (volume_at v table)

-- and of a name.
abbrev pub IsStatusHeld : Result (List ℕ) Refusal → List ℕ → Table → Type 0
IsStatusHeld result name table = IsStatusHeldAt result table (found (place_of name table))
