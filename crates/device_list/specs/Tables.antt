-- The devices as contracts see them, and what calls leave of all of them.
use Rattle.std.specs.Prelude.{◌≡◌, true, map, Option, IfSome}
use Rattle.command_semantics.specs.State.{Table}
use Rattle.command_semantics.specs.Naming.{AreNamed}
use Rattle.command_semantics.specs.Places.{IsPlaceIn}
use Rattle.command_semantics.specs.declared.place.Place.{Place}
use Rattle.command_semantics.specs.Sound.{is_sound}
use Rattle.device_list.specs.declared.held.Devices.{Devices}

abbrev pub table_of : Devices → Table
table_of held = record { stacks = held.stacks.items; volumes = map (λ v. v.shown) held.volumes.items }

-- where no two devices had one name, and there were at most 64, it is so still
abbrev pub StaysNamed : Devices → Devices → Type 0
StaysNamed old new = AreNamed (table_of old) → AreNamed (table_of new)

-- where no device dropped writes, and nothing was in flight, it is so still
abbrev pub StaysSound : Devices → Devices → Type 0
StaysSound old new = is_sound (table_of old) ≡ true → is_sound (table_of new) ≡ true

-- a place that is told is one of a device that is there
abbrev pub IsThere : Option Place → Devices → Type 0
IsThere told held = IfSome told (λ place. IsPlaceIn place (table_of held))
