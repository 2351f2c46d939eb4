-- What a command leaves of a volume, and how many requests and places of its journal it takes. This project's own.
use Rattle.std.specs.Prelude.{◌≡◌, ◌+◌, ◌≤◌, ℕ, true, None, List, Result, IfNone, OnOk, Option}
use Rattle.sector.specs.declared.refusal.Refusal.{Refusal}
use Rattle.device.specs.Layers.{Layer}
use Rattle.plain_machine.specs.declared.request.Dev.{Dev}
use Rattle.counted_volume.specs.Places.{kept_for_snaps}
use Rattle.counted_volume.specs.TakesPlaces.{TakesByRequests, TakesPlaces}
use Rattle.volume_commands.specs.Flying.{IsWhole}
use Rattle.volume_commands.specs.Kept.{KeepsDevices}
use Rattle.volume_commands.specs.Recorded.{Recorded, counted_in}
use Rattle.volume_commands.specs.Rested.{Rested, has_dev, IsSettled}

-- which snapshots and devices it has
abbrev pub SameSetup : {B : Type 0} → (B → List Layer) → (B → ℕ) → Recorded B → Recorded B → Type 0
SameSetup layers size old new = KeepsDevices layers size old.rested new.rested

-- a settled volume stays so
abbrev pub StaysSettled : {B : Type 0} → (B → List Layer) → Recorded B → Recorded B → Type 0
StaysSettled layers old new = IsSettled layers old.rested → IsSettled layers new.rested

-- before and after it is all that its volume of events shows
abbrev pub AreWhole : {B : Type 0} → Rested B → Rested B → Type 0
AreWhole old new = IsWhole old × IsWhole new

-- so many requests are numbered at most
abbrev pub AsksUpTo : {B : Type 0} → ℕ → Recorded B → Recorded B → Type 0
AsksUpTo most old new = new.rested.requests ≤ old.rested.requests + most

-- each takes a place
abbrev pub TakesAsAsked : {B : Type 0} → Recorded B → Recorded B → Type 0
TakesAsAsked old new = TakesByRequests (counted_in old) (counted_in new)

-- a call on its snapshots takes one, beside those that are kept free for them
abbrev pub TakesForSnaps : {A B : Type 0} → Result A Refusal → Recorded B → Recorded B → Type 0
TakesForSnaps result old new = TakesPlaces 1 kept_for_snaps result (counted_in old) (counted_in new)

-- what is done on a device is done where that is there
abbrev pub IsDoneThere : {A B : Type 0} → Dev → Result A Refusal → Rested B → Type 0
IsDoneThere dev result v = OnOk result (has_dev dev v ≡ true)

-- nothing is told of a merge only where none is begun
abbrev pub TellsNoMerge : {A B : Type 0} → Option A → Rested B → Type 0
TellsNoMerge told v = IfNone told (v.events.merge ≡ None)
