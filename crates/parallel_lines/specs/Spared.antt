-- What a block leaves of the volumes where none of its lines was run: what was left to do may be done. This project's own.
use Rattle.std.specs.Prelude.{◌≡◌, ◌⊎◌, ◌<◌, ℕ, List, [], length, slice_index_or, Result, OnErr}
use Rattle.std.specs.List.{AllZip}
use Rattle.layers.specs.declared.stack.Stack.{Stack}
use Rattle.audited_volume.specs.Books.{AuditShape}
use Rattle.audited_volume.specs.Entries.{entries_by}
use Rattle.command_semantics.specs.State.{Volume}
use Rattle.device_list.specs.Tables.{table_of}
use Rattle.device_list.specs.declared.held.Devices.{Devices}
use Rattle.parallel_lines.specs.Played.{IsPlayedIn, Story}

-- A volume is as it was; or the entries that lead from what it showed to what it shows are no seat's, of 1 to 8, where no device of
-- it ever dropped writes.
abbrev pub IsSpared : Volume → Volume → Type 0
IsSpared old new = (new ≡ old) ⊎ ((story : Story) × IsPlayedIn story old new × ((seat : ℕ) → 0 < seat → seat < 9 → entries_by seat story.entries ≡ []))

-- each volume in its place
abbrev pub AreSpared : List Volume → List Volume → Type 0
AreSpared = AllZip IsSpared

-- so it is where a block ends with an error
abbrev pub SparesOnErr : {T E : Type 0} → Result T E → Devices → Devices → Type 0
SparesOnErr result old new = OnErr result (AreSpared (table_of old).volumes (table_of new).volumes)

-- stacks that nothing uses are as they were
abbrev pub KeepsStacks : Devices → Devices → Type 0
KeepsStacks old new = (table_of new).stacks ≡ (table_of old).stacks

-- no seat has an entry more in any of these journals
abbrev pub NoneAdded : List (AuditShape Stack) → List (AuditShape Stack) → Type 0
NoneAdded old new = (seat k : ℕ) (d : AuditShape Stack) → 0 < seat → seat < 9 → k < length old → entries_by seat (slice_index_or new k d).entries ≡ entries_by seat (slice_index_or old k d).entries
