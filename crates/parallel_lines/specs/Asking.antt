-- What a line of a block asks of a volume that is taken out. The order of its refusals is that of the commands alone.
use Rattle.std.specs.Prelude.{◌≡◌, ℕ, ◌+◌, Bool, List, drop, Some, None, Result, Ok, Err}
use Rattle.std.specs.List.{count_by}
use Rattle.sector.specs.declared.refusal.Refusal.{Refusal}
use Rattle.sector.specs.declared.refusal.Refusal.TheVariants.{MergeInProgress, NoSuchDevice, OutOfRange}
use Rattle.words.specs.Given.{◌>>=◌}
use Rattle.chunk.specs.Pieces.{span_of}
use Rattle.whole_commands.specs.Devices.{sectors_of}
use Rattle.command.specs.declared.seat_line.Work.{Work}
use Rattle.command.specs.declared.seat_line.Work.TheVariants as works
use Rattle.command_semantics.specs.State.{Table, Volume}
use Rattle.command_semantics.specs.Places.{found, place_of, volume_at}
use Rattle.command_semantics.specs.Messages.{snap_at}
use Rattle.command_semantics.specs.Raw.{fits, whole}
use Rattle.command_semantics.specs.Sectors.{Asked, dev_of}
use Rattle.command_semantics.specs.declared.place.Place.{Place}
use Rattle.command_semantics.specs.declared.place.Place.TheVariants.{Free, In}
use Rattle.command_semantics.specs.declared.place.Role.{Role}
use Rattle.command_semantics.specs.declared.place.Role.TheVariants.{Origin, Under, Snapshot, Store, Merging, MergingStore}
use Rattle.parallel_threads.specs.declared.task.Task.{Task}
use Rattle.parallel_threads.specs.declared.task.Job.{Job}
use Rattle.parallel_threads.specs.declared.task.Job.TheVariants.{Read, Write, Merge, RefusedRead, Refused}
use Rattle.parallel_lines.specs.Looking.{name_in}

-- The place of volume v among those that are taken out, of which the last of the table is the first.
abbrev pub place_among : List Bool → ℕ → ℕ
place_among used v = count_by (λ is_used. is_used) (drop (v + 1) used)

-- of which device, and which sectors: past the end comes before a snapshot that is being merged
abbrev pub asks_of : Role → ℕ → ℕ → Volume → Result Asked Refusal
asks_of role first count volume = do
  _ ← fits (sectors_of volume.state.origin) first count
  dev ← dev_of role volume.state
  Ok (record { dev = dev; span = record { first = first; count = count; size = sectors_of volume.state.origin } })

-- the same of a write of some bytes: whole sectors come first
abbrev pub writes_of : Role → ℕ → List ℕ → Volume → Result Asked Refusal
writes_of role first bytes volume = whole bytes >>= λ count. asks_of role first count volume

-- a read of these sectors, or why it is refused
abbrev pub IsReadAs : ℕ → Result Asked Refusal → Job → Type 0
IsReadAs place asks (Read volume dev range) = (volume ≡ place) × (asks ≡ Ok (record { dev = dev; span = span_of range }))
IsReadAs place asks (Write volume dev range bytes) = ⊥
IsReadAs place asks (Merge volume snap) = ⊥
IsReadAs place asks (RefusedRead refusal) = asks ≡ Err refusal
IsReadAs place asks (Refused refusal) = ⊥

-- a write of these bytes to these sectors
abbrev pub IsWriteAs : ℕ → List ℕ → Result Asked Refusal → Job → Type 0
IsWriteAs place bytes asks (Read volume dev range) = ⊥
IsWriteAs place bytes asks (Write volume dev range given) = (volume ≡ place) × (given ≡ bytes) × (asks ≡ Ok (record { dev = dev; span = span_of range }))
IsWriteAs place bytes asks (Merge volume snap) = ⊥
IsWriteAs place bytes asks (RefusedRead refusal) = ⊥
IsWriteAs place bytes asks (Refused refusal) = asks ≡ Err refusal

-- the number of the snapshot that is to be merged; one that is being merged already is not merged again
abbrev pub merges_of : Role → Volume → Result ℕ Refusal
merges_of Origin volume = Err MergeInProgress
merges_of (Under depth) volume = Err MergeInProgress
merges_of (Snapshot k) volume = snap_at k volume.state >>= λ snap. Ok snap.number
merges_of (Store k depth) volume = Err MergeInProgress
merges_of Merging volume = Err MergeInProgress
merges_of (MergingStore depth) volume = Err MergeInProgress

abbrev pub IsMergeAs : ℕ → Result ℕ Refusal → Job → Type 0
IsMergeAs place snap (Read volume dev range) = ⊥
IsMergeAs place snap (Write volume dev range bytes) = ⊥
IsMergeAs place snap (Merge volume number) = (volume ≡ place) × (snap ≡ Ok number)
IsMergeAs place snap (RefusedRead refusal) = ⊥
IsMergeAs place snap (Refused refusal) = snap ≡ Err refusal

-- what a line asks of the device of a role in a volume that has this place
abbrev pub IsJob : ℕ → Role → Volume → Work → Job → Type 0
IsJob place role volume (works.Read name first count) job = IsReadAs place (asks_of role first count volume) job
IsJob place role volume (works.Write name first bytes) job = IsWriteAs place bytes (writes_of role first bytes volume) job
IsJob place role volume (works.Merge name) job = IsMergeAs place (merges_of role volume) job
IsJob place role volume (works.OutsideRead name) job = job ≡ RefusedRead OutOfRange
IsJob place role volume (works.OutsideWrite name) job = job ≡ Refused OutOfRange

-- a job that waits for its turn
abbrev pub asked : Job → Task
asked job = record { job = Some job; answer = None }

-- the task of a line, by the place of the name in it; no line of a block that is run names anything else
abbrev pub IsTaskAt : List Bool → Table → Work → Result Place Refusal → Task → Type 0
IsTaskAt used table work (Ok (Free i depth)) task = task ≡ asked (Refused NoSuchDevice)
IsTaskAt used table work (Ok (In v role)) task = (volume : Volume) × (job : Job) × (volume_at v table ≡ Ok volume) × IsJob (place_among used v) role volume work job × (task ≡ asked job)
IsTaskAt used table work (Err refusal) task = task ≡ asked (Refused NoSuchDevice)

abbrev pub IsTask : List Bool → Table → Work → Task → Type 0
IsTask used table work task = IsTaskAt used table work (found (place_of (name_in work) table)) task
