-- To be believed: `run`'s output, a volume's steps or its attach are said in these words.
-- Events, one by one: which volume an event is asked of, and why it is not done. Where nothing is in flight none is due but
-- those of a merge, and a settle does all of these. The commands are this project's own.
use Rattle.std.specs.Prelude.{ℕ, ◌==◌, Bool, true, false, List, Option, Some, None, if◌then◌else◌, Result, Ok, Err}
use Rattle.sector.specs.declared.refusal.Refusal.{Refusal}
use Rattle.sector.specs.declared.refusal.Refusal.TheVariants.{BadTable, NotDue}
use Rattle.words.specs.Given.{◌>>=◌}
use Rattle.command.specs.declared.events.EventWords.{EventWords}
use Rattle.command.specs.declared.events.EventWords.TheVariants.{Issue, CopyRead, CopyWrite, Publish, ZeroNext, WriteArea, WriteInvalid, FlushStore, MergeGroup, MergeAreaRead, MergeRead, MergeWrite, MergeFlush, MergeCommit, MergeRelease}
use Rattle.plain_machine.specs.declared.event.Event.{Event as Step}
use Rattle.plain_machine.specs.declared.event.Event.TheVariants as steps
use Rattle.whole_commands.specs.Merges.{merged}
use Rattle.command_semantics.specs.declared.place.Role.TheVariants.{Origin, Under, Snapshot, Store, Merging, MergingStore}
use Rattle.command_semantics.specs.declared.place.Place.{Place}
use Rattle.command_semantics.specs.declared.place.Place.TheVariants.{Free, In}
use Rattle.command_semantics.specs.State.{Volume, Table, merged_in, with_merged}
use Rattle.command_semantics.specs.Places.{place_of, found, volume_at}
use Rattle.command_semantics.specs.Origins.{still}
use Rattle.command_semantics.specs.Messages.{put_volume}

-- the volume of the origin at a place
abbrev pub origin_at : Place → Result ℕ Refusal
origin_at (Free i depth) = Err BadTable
origin_at (In v Origin) = Ok v
origin_at (In v (Under depth)) = Err BadTable
origin_at (In v (Snapshot k)) = Err BadTable
origin_at (In v (Store k depth)) = Err BadTable
origin_at (In v Merging) = Err BadTable
origin_at (In v (MergingStore depth)) = Err BadTable

-- the volume of the snapshot at a place; one that is being merged is a snapshot too
abbrev pub snapshot_at : Place → Result ℕ Refusal
snapshot_at (Free i depth) = Err BadTable
snapshot_at (In v Origin) = Err BadTable
snapshot_at (In v (Under depth)) = Err BadTable
snapshot_at (In v (Snapshot k)) = Ok v
snapshot_at (In v (Store k depth)) = Err BadTable
snapshot_at (In v Merging) = Ok v
snapshot_at (In v (MergingStore depth)) = Err BadTable

-- the snapshot that an event names
abbrev pub snapshot_named : EventWords → Option (List ℕ)
snapshot_named (Issue request) = None
snapshot_named (CopyRead copy) = None
snapshot_named (CopyWrite copy) = None
snapshot_named (Publish copy) = None
snapshot_named (ZeroNext snapshot) = Some snapshot
snapshot_named (WriteArea snapshot) = Some snapshot
snapshot_named (WriteInvalid snapshot) = Some snapshot
snapshot_named (FlushStore snapshot) = Some snapshot
snapshot_named MergeGroup = None
snapshot_named MergeAreaRead = None
snapshot_named MergeRead = None
snapshot_named MergeWrite = None
snapshot_named MergeFlush = None
snapshot_named MergeCommit = None
snapshot_named MergeRelease = None

-- whether it is an event of a merge
abbrev pub is_merge_event : EventWords → Bool
is_merge_event (Issue request) = false
is_merge_event (CopyRead copy) = false
is_merge_event (CopyWrite copy) = false
is_merge_event (Publish copy) = false
is_merge_event (ZeroNext snapshot) = false
is_merge_event (WriteArea snapshot) = false
is_merge_event (WriteInvalid snapshot) = false
is_merge_event (FlushStore snapshot) = false
is_merge_event MergeGroup = true
is_merge_event MergeAreaRead = true
is_merge_event MergeRead = true
is_merge_event MergeWrite = true
is_merge_event MergeFlush = true
is_merge_event MergeCommit = true
is_merge_event MergeRelease = true

-- the same event with the number of its snapshot for the name
abbrev pub numbered : EventWords → ℕ → Step
numbered (Issue request) number = steps.Issue request
numbered (CopyRead copy) number = steps.CopyRead copy
numbered (CopyWrite copy) number = steps.CopyWrite copy
numbered (Publish copy) number = steps.Publish copy
numbered (ZeroNext snapshot) number = steps.ZeroNext number
numbered (WriteArea snapshot) number = steps.WriteArea number
numbered (WriteInvalid snapshot) number = steps.WriteInvalid number
numbered (FlushStore snapshot) number = steps.FlushStore number
numbered MergeGroup number = steps.MergeGroup
numbered MergeAreaRead number = steps.MergeAreaRead
numbered MergeRead number = steps.MergeRead
numbered MergeWrite number = steps.MergeWrite
numbered MergeFlush number = steps.MergeFlush
numbered MergeCommit number = steps.MergeCommit
numbered MergeRelease number = steps.MergeRelease

-- the volume of the origin of a name
unfoldable pub origin_by : List ℕ → Table → Result ℕ Refusal
origin_by name table = found (place_of name table) >>= λ place. origin_at place

-- The volume of the origin at a place, for an event about the snapshot at another. One of another volume is a snapshot too,
-- and its events are never due here; nor are those of one that is being merged.
abbrev pub event_about : Place → Place → Result ℕ Refusal
event_about place other = do
  v ← origin_at place
  w ← snapshot_at other
  if v == w then Ok v else Err NotDue

-- the same for an event about the snapshot of a name if it names one
abbrev pub event_at : Place → Option (List ℕ) → Table → Result ℕ Refusal
event_at place None table = origin_at place
event_at place (Some snapshot) table = found (place_of snapshot table) >>= λ other. event_about place other

-- which volume an event is asked of: a name that is not there comes before a device of the wrong kind
unfoldable pub event_asked : List ℕ → EventWords → Table → Result ℕ Refusal
event_asked name event table = found (place_of name table) >>= λ place. event_at place (snapshot_named event) table

abbrev pub none_due : Result ℕ Refusal → Refusal
none_due (Ok v) = NotDue
none_due (Err refusal) = refusal

-- `step VOL EVENT` where nothing is in flight, of an event that is none of a merge: why it is not done
unfoldable pub step_event : List ℕ → EventWords → Table → Refusal
step_event name event table = none_due (event_asked name event table)

-- a volume whose merge, if one is begun, has gone on up to its end, or to the first operation of it that fails
abbrev pub merge_done : Volume → Volume
merge_done volume = with_merged (merged (merged_in volume)) volume

-- `settle VOL` where nothing is in flight: the merge goes on, and nothing else is left to do
unfoldable pub settle : List ℕ → Table → Result Table Refusal
settle name table = do
  v ← origin_by name table
  volume ← volume_at v table
  Ok (put_volume v (merge_done volume) table)

-- nothing is left to do in the volume of the origin of a name, which stands where it stood
unfoldable pub rested : List ℕ → Table → Table → Result (Unit {0}) Refusal
rested name old new = do
  v ← origin_by name old
  volume ← volume_at v new
  still volume
