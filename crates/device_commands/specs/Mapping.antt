-- What `map` tells in any case, whatever is in flight and whichever device drops writes.
use Rattle.std.specs.Prelude.{◌≡◌, List, ℕ, Result, Ok, Err}
use Rattle.sector.specs.declared.refusal.Refusal.{Refusal}
use Rattle.sector.specs.declared.refusal.Refusal.TheVariants.{BadTable}
use Rattle.command_semantics.specs.declared.place.Role.{Role}
use Rattle.command_semantics.specs.declared.place.Place.{Place}
use Rattle.command_semantics.specs.declared.place.Place.TheVariants.{Free, In}
use Rattle.command_semantics.specs.State.{Volume, Table}
use Rattle.command_semantics.specs.Places.{place_of, found, volume_at}
use Rattle.device_list.specs.Mapping.{IsMapOf}

-- in a volume,
abbrev pub IsMapHeldIn : Result (List ℕ) Refusal → Role → Result Volume Refusal → Type 0
IsMapHeldIn result role (Err refusal) = Unit {0}
IsMapHeldIn result role (Ok volume) = IsMapOf result role volume

-- at a place,
abbrev pub IsMapHeldAt : Result (List ℕ) Refusal → Table → Result Place Refusal → Type 0
IsMapHeldAt result table (Err refusal) = result ≡ Err refusal
IsMapHeldAt result table (Ok (Free i depth)) = result ≡ Err BadTable
IsMapHeldAt result table (Ok (In v role)) = IsMapHeldIn result role (volume_at v table)

-- and of a name
abbrev pub IsMapHeld : Result (List ℕ) Refusal → List ℕ → Table → Type 0
IsMapHeld result name table = IsMapHeldAt result table (found (place_of name table))
