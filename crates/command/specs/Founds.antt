-- Why a block is refused before anything runs. The order is this project's own.
use Rattle.std.specs.Prelude.{Bool, true, false, List, if◌then◌else◌, Option, Some, None}
use Rattle.std.specs.List.{list_any}
use Rattle.sector.specs.declared.refusal.Refusal.{Refusal}
use Rattle.sector.specs.declared.refusal.Refusal.TheVariants.{BadTable, NoSuchDevice, NotQuiet}
use Rattle.command.specs.declared.found.NameFound.{NameFound}
use Rattle.command.specs.declared.found.NameFound.TheVariants.{Missing, Other, Busy, Quiet}

-- a device of another kind
abbrev pub is_other : NameFound → Bool
is_other Other = true
is_other Missing = false
is_other Busy = false
is_other Quiet = false

-- none
abbrev pub is_missing : NameFound → Bool
is_missing Missing = true
is_missing Other = false
is_missing Busy = false
is_missing Quiet = false

-- one of a volume with something left to do
abbrev pub is_busy : NameFound → Bool
is_busy Busy = true
is_busy Missing = false
is_busy Other = false
is_busy Quiet = false

-- the first refusal, by what is found under the names of all lines
abbrev pub first_refusal : List NameFound → Option Refusal
first_refusal found =
    if list_any is_other found then Some BadTable else
    if list_any is_missing found then Some NoSuchDevice else
    if list_any is_busy found then Some NotQuiet else
    None
