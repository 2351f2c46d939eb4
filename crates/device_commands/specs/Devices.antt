-- What calls leave of the devices, and what they look for among them.
use Rattle.std.specs.Prelude.{◌≡◌, ◌⊎◌, ◌<◌, ℕ, false, List, length, nat_le, None, Result, Ok, Err, IfErr, IfOk, OnErr}
use Rattle.sector.specs.declared.refusal.Refusal.{Refusal}
use Rattle.words.specs.Given.{◌>>=◌}
use Rattle.command_semantics.specs.State.{Table}
use Rattle.command_semantics.specs.Places.{place_of, found, stack_at, volume_at}
use Rattle.command_semantics.specs.Disks.{device_count}
use Rattle.command_semantics.specs.Events.{origin_by}
use Rattle.command_semantics.specs.Sectors.{IsAtRole, IsInVolume}
use Rattle.command_semantics.specs.Snapshots.{Named}
use Rattle.command_semantics.specs.Starting.{asked_at}
use Rattle.command_semantics.specs.declared.place.Place.TheVariants.{In}
use Rattle.command_semantics.specs.declared.place.Role.{Role}
use Rattle.device_list.specs.Names.{KeepsNames}
use Rattle.device_list.specs.Tables.{StaysNamed, table_of}
use Rattle.device_list.specs.declared.held.Devices.{Devices}

-- a volume and a stack that are there, for a snapshot of the one with the other as its store
abbrev pub named_at : ℕ → ℕ → Table → Result Named Refusal
named_at v i table = do
  stacked ← stack_at i table
  volume ← volume_at v table
  Ok (record { v = v; i = i; stacked = stacked; volume = volume })

-- a name must be that of an origin: where it is not, what it is refused with is answered
abbrev pub NeedsOrigin : {A : Type 0} → List ℕ → Devices → Result A Refusal → Type 0
NeedsOrigin name held result = IfErr (origin_by name (table_of held)) (λ e. result ≡ Err e)

-- sectors of the device at a place of a volume must be such as may be asked for: where they are not, so is answered
abbrev pub MayAsk : {A : Type 0} → ℕ → Role → ℕ → ℕ → Devices → Result A Refusal → Type 0
MayAsk v role first count held result = IfErr (asked_at (In v role) first count (table_of held)) (λ e. result ≡ Err e)

-- what is told with a volume's place is told of one that is there
abbrev pub IsOfVolume : {A : Type 0} → Result (ℕ × A) Refusal → Devices → Type 0
IsOfVolume told held = IfOk told (λ at. at.0 < length (table_of held).volumes)

-- a refusal changes nothing
abbrev pub StaysOnErr : {A : Type 0} → Result A Refusal → Devices → Devices → Type 0
StaysOnErr result old new = OnErr result (table_of new ≡ table_of old)

-- where a name was no device's, and there were fewer than 64 devices, names stay apart
abbrev pub StaysNamedWith : List ℕ → Devices → Devices → Type 0
StaysNamedWith name old new = place_of name (table_of old) ≡ None → nat_le 64 (device_count (table_of old)) ≡ false → StaysNamed old new

-- the volume at a place is changed, but not in its names, marks and counts, and no other device is
abbrev pub KeepsNamesAt : ℕ → Devices → Devices → Type 0
KeepsNamesAt v old new = IsInVolume KeepsNames v (table_of old) (table_of new) (volume_at v (table_of old))

-- all devices are as they were, or the volume is changed that has the device of a name, but not in its names, marks and counts
unfoldable pub KeepsOthers : List ℕ → Table → Table → Type 0
KeepsOthers name old new = (new ≡ old) ⊎ IsAtRole (λ role. KeepsNames) old new (found (place_of name old))

abbrev pub ChangesOne : List ℕ → Devices → Devices → Type 0
ChangesOne name old new = KeepsOthers name (table_of old) (table_of new)

-- something is left to do now in the volume that has the device of a name
unfoldable pub Flies : List ℕ → Table → Table → Type 0
Flies name old new = IsAtRole (λ role was now. now.quiet ≡ false) old new (found (place_of name old))
