-- The devices that a sentence names, and how it names them.
use Rattle.std.specs.Prelude.{ℕ, Bool, true, false, List, ◌++◌, codes, if◌then◌else◌, slice_get, Option, Some, None, option_map, Result, Ok, Err}
use Rattle.sector.specs.declared.refusal.Refusal.{Refusal}
use Rattle.table.specs.declared.lines.Line.{Line}
use Rattle.table.specs.declared.lines.Target.{Target}
use Rattle.table.specs.declared.lines.Target.TheVariants.{Origin, Snapshot, Merge, Flakey, Dust, Error}
use Rattle.whole_commands.specs.Devices.{sectors_of}
use Rattle.command_semantics.specs.State.{Table}
use Rattle.command_semantics.specs.Lines.{line_at}
use Rattle.command_semantics.specs.declared.place.Place.{Place}
use Rattle.command_semantics.specs.declared.place.Place.TheVariants.{Free, In}
use Rattle.explain_refusals.specs.declared.kinds.Kind.{Kind}
use Rattle.explain_refusals.specs.declared.kinds.Kind.TheVariants as kinds
use Rattle.explain_refusals.specs.declared.kinds.Seen.{Seen}
use Rattle.explain_refusals.specs.Kinds.{known, use_of}

abbrev pub is_origin_kind : Kind → Bool
is_origin_kind kinds.Disk = false
is_origin_kind kinds.Flakey = false
is_origin_kind kinds.Dust = false
is_origin_kind kinds.Error = false
is_origin_kind kinds.Origin = true
is_origin_kind kinds.Snapshot = false
is_origin_kind kinds.Merging = false

abbrev pub is_disk_kind : Kind → Bool
is_disk_kind kinds.Disk = true
is_disk_kind kinds.Flakey = false
is_disk_kind kinds.Dust = false
is_disk_kind kinds.Error = false
is_disk_kind kinds.Origin = false
is_disk_kind kinds.Snapshot = false
is_disk_kind kinds.Merging = false

-- a device of a kind, if there is one
abbrev pub is_of : (Kind → Bool) → Option Seen → Bool
is_of test None = false
is_of test (Some seen) = test seen.kind

-- `settle vol`, or another verb: with the name where that names an origin, and else with the origin of what it names
unfoldable pub for_origin : List ℕ → List ℕ → Table → List ℕ
for_origin verb name table =
    if is_of is_origin_kind (known name table) then verb ++ codes " " ++ name else
    verb ++ codes " VOL, where VOL is the origin of " ++ name

-- the device that an origin stands on, by its line
abbrev pub below_by : Target → Option (List ℕ)
below_by (Origin device) = Some device
below_by (Snapshot device store chunk overflow) = None
below_by (Merge device store chunk overflow) = Some device
below_by (Flakey device offset up down features) = None
below_by (Dust device block) = None
below_by Error = None

abbrev pub below_in : Result Line Refusal → Option (List ℕ)
below_in (Ok line) = below_by line.target
below_in (Err refusal) = None

abbrev pub below_of : Table → Option Seen → Option (List ℕ)
below_of table None = None
below_of table (Some seen) = below_in (line_at seen.place table)

-- how many sectors a device has: an origin and its snapshots, or a stack that nothing uses
unfoldable pub sectors_in : Place → Table → Option ℕ
sectors_in (Free i depth) table = option_map (λ stacked. sectors_of stacked.device) (slice_get table.stacks i)
sectors_in (In v role) table = option_map (λ volume. sectors_of volume.state.origin) (slice_get table.volumes v)

abbrev pub sectors_seen : Table → Option Seen → Option ℕ
sectors_seen table None = None
sectors_seen table (Some seen) = sectors_in seen.place table

-- of the device that a name names
unfoldable pub sectors_at : List ℕ → Table → Option ℕ
sectors_at name table = sectors_seen table (known name table)

-- no device has a name
abbrev pub missing_text : List ℕ → List ℕ
missing_text name = codes "no device is named " ++ name

-- a device that is in use, and by what
abbrev pub used_by : List ℕ → Option Seen → List ℕ
used_by name None = name ++ codes " is in use"
used_by name (Some seen) = name ++ codes " is in use: " ++ use_of seen.place

unfoldable pub used_text : List ℕ → Table → List ℕ
used_text name table = used_by name (known name table)
