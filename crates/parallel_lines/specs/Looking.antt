-- What the lines of a block find under their names, and which refusal of a block comes first. The order is this project's own.
use Rattle.std.specs.Prelude.{ℕ, Bool, true, false, List, map, Option, Some, None, Result, Ok, Err, if◌then◌else◌}
use Rattle.sector.specs.declared.refusal.Refusal.{Refusal}
use Rattle.command.specs.Blocks.{Lines}
use Rattle.command.specs.Founds.{first_refusal}
use Rattle.command.specs.declared.found.NameFound.{NameFound}
use Rattle.command.specs.declared.found.NameFound.TheVariants.{Missing, Other, Busy, Quiet}
use Rattle.command.specs.declared.seat_line.SeatLine.{SeatLine}
use Rattle.command.specs.declared.seat_line.Work.{Work}
use Rattle.command.specs.declared.seat_line.Work.TheVariants.{Read, Write, Merge, OutsideRead, OutsideWrite}
use Rattle.command_semantics.specs.State.{Volume, Table}
use Rattle.command_semantics.specs.Places.{found, place_of, volume_at}
use Rattle.command_semantics.specs.declared.place.Place.{Place}
use Rattle.command_semantics.specs.declared.place.Place.TheVariants.{Free, In}
use Rattle.command_semantics.specs.declared.place.Role.{Role}
use Rattle.command_semantics.specs.declared.place.Role.TheVariants.{Origin, Under, Snapshot, Store, Merging, MergingStore}

-- the name of the device that a seat is to work at
abbrev pub name_in : Work → List ℕ
name_in (Read name first count) = name
name_in (Write name first bytes) = name
name_in (Merge name) = name
name_in (OutsideRead name) = name
name_in (OutsideWrite name) = name

abbrev pub merges : Work → Bool
merges (Read name first count) = false
merges (Write name first bytes) = false
merges (Merge name) = true
merges (OutsideRead name) = false
merges (OutsideWrite name) = false

-- sectors are read and written of an origin or of a snapshot; a snapshot is merged
abbrev pub serves : Work → Role → Bool
serves work Origin = if merges work then false else true
serves work (Under depth) = false
serves work (Snapshot k) = true
serves work (Store k depth) = false
serves work Merging = true
serves work (MergingStore depth) = false

-- something is left to do in a volume, or nothing
abbrev pub rest_found : Result Volume Refusal → NameFound
rest_found (Err refusal) = Missing
rest_found (Ok volume) = if volume.quiet then Quiet else Busy

abbrev pub found_at : Table → Work → Result Place Refusal → NameFound
found_at table work (Err refusal) = Missing
found_at table work (Ok (Free i depth)) = Other
found_at table work (Ok (In v role)) = if serves work role then rest_found (volume_at v table) else Other

-- what a line finds under its name
abbrev pub found_in : Table → SeatLine → NameFound
found_in table line = found_at table line.work (found (place_of (name_in line.work) table))

-- why none of its lines is run: for what they say, or else for what they find
abbrev pub refusal_after : Option Refusal → List NameFound → Option Refusal
refusal_after (Some refusal) found = Some refusal
refusal_after None found = first_refusal found

unfoldable pub block_refusal : Lines → Table → Option Refusal
block_refusal block table = refusal_after block.refusal (map (found_in table) block.lines)
