-- To be believed: `run`'s output, a volume's steps or its attach are said in these words.
-- What the words of a command line say. The commands are this project's own choice; the table line after
-- `create` is the kernel's. In each command every word's form is looked at first (BadTable), then the chunk of
-- a table line (BadChunk), then the number of sectors (OutOfRange).
use Rattle.std.specs.Prelude.{ℕ, Bool, false, List, [], ◌∷◌, if◌then◌else◌, Result, Ok, Err, codes}
use Rattle.std.specs.Str.{bytes_eq}
use Rattle.sector.specs.declared.refusal.Refusal.{Refusal}
use Rattle.sector.specs.declared.refusal.Refusal.TheVariants.{BadTable}
use Rattle.words.specs.Given.{◌>>=◌}
use Rattle.words.specs.Names.{name_of}
use Rattle.words.specs.Numbers.{numeral_of}
use Rattle.command.specs.Words.{sectors_of}
use Rattle.command.specs.DataWords.{payload_of}
use Rattle.table.specs.declared.lines.Line.{Line}
use Rattle.table.specs.Grammar.{line_in}
use Rattle.command.specs.Messages.{message_in}
use Rattle.command.specs.Events.{event_in}
use Rattle.command.specs.declared.grammar.Command.{Command}
use Rattle.command.specs.declared.grammar.Command.TheVariants.{Disk, Create, Remove, Load, Save, Copy, List as Listing, Message, Tick, Read, Write, Flush, StartRead, StartWrite, Step, Settle, Merge, Resume, Finish, Checkpoint, Stop, StopLosing, Status, Table, Map}

-- a name and a first sector
abbrev pub place_of : List ℕ → List ℕ → Result (List ℕ × ℕ) Refusal
place_of name first = do
  name ← name_of name
  first ← numeral_of first
  Ok (name, first)

-- a number of sectors alone
abbrev pub amount_of : List (List ℕ) → Result ℕ Refusal
amount_of (count ∷ []) = numeral_of count >>= sectors_of
amount_of words = Err BadTable

-- a name, a first sector and a number of sectors
abbrev pub span_of : List (List ℕ) → Result (List ℕ × ℕ × ℕ) Refusal
span_of (name ∷ first ∷ words) = do
  place ← place_of name first
  count ← amount_of words
  Ok (place.0, place.1, count)
span_of words = Err BadTable

-- a name, a first sector and the bytes of sectors
abbrev pub patch_of : List (List ℕ) → Result (List ℕ × ℕ × List ℕ) Refusal
patch_of (name ∷ first ∷ words) = do
  place ← place_of name first
  bytes ← payload_of words
  Ok (place.0, place.1, bytes)
patch_of words = Err BadTable

-- a name alone
abbrev pub alone_of : List (List ℕ) → Result (List ℕ) Refusal
alone_of (name ∷ []) = name_of name
alone_of words = Err BadTable

-- `disk NAME N`
abbrev pub disk_of : List (List ℕ) → Result Command Refusal
disk_of (name ∷ sectors ∷ []) = do
  name ← name_of name
  sectors ← numeral_of sectors
  Ok (Disk name sectors)
disk_of words = Err BadTable

-- the words of a table line that name a merge
abbrev pub is_merge : List (List ℕ) → Bool
is_merge (start ∷ sectors ∷ target ∷ words) = bytes_eq target (codes "snapshot-merge")
is_merge words = false

-- a table line by which a device is made; a merge begins by another command
abbrev pub made_line_of : List (List ℕ) → Result Line Refusal
made_line_of words = if is_merge words then Err BadTable else line_in words

-- `create NAME LINE`
abbrev pub create_of : List (List ℕ) → Result Command Refusal
create_of (name ∷ words) = do
  name ← name_of name
  line ← made_line_of words
  Ok (Create name line)
create_of words = Err BadTable

-- `remove NAME`
abbrev pub remove_of : List (List ℕ) → Result Command Refusal
remove_of words = alone_of words >>= λ name. Ok (Remove name)

-- `load DISK S DATA`
abbrev pub load_of : List (List ℕ) → Result Command Refusal
load_of words = patch_of words >>= λ patch. Ok (Load patch.0 patch.1 patch.2)

-- `save DISK S N`
abbrev pub save_of : List (List ℕ) → Result Command Refusal
save_of words = span_of words >>= λ span. Ok (Save span.0 span.1 span.2)

-- `copy DISK S DISK N`
abbrev pub copy_of : List (List ℕ) → Result Command Refusal
copy_of (from ∷ first ∷ to ∷ words) = do
  place ← place_of from first
  to ← name_of to
  count ← amount_of words
  Ok (Copy place.0 place.1 to count)
copy_of words = Err BadTable

-- `ls`
abbrev pub list_of : List (List ℕ) → Result Command Refusal
list_of [] = Ok Listing
list_of words = Err BadTable

-- `message DEV 0 WORDS`; the 0 is the word in which dmsetup takes a sector
abbrev pub message_of : List (List ℕ) → Result Command Refusal
message_of (device ∷ sector ∷ words) = do
  device ← name_of device
  message ← message_in words
  if bytes_eq sector (codes "0") then Ok (Message device message) else Err BadTable
message_of words = Err BadTable

-- `tick N`
abbrev pub tick_of : List (List ℕ) → Result Command Refusal
tick_of (seconds ∷ []) = numeral_of seconds >>= λ seconds. Ok (Tick seconds)
tick_of words = Err BadTable

-- `read DEV S N`
abbrev pub read_of : List (List ℕ) → Result Command Refusal
read_of words = span_of words >>= λ span. Ok (Read span.0 span.1 span.2)

-- `write DEV S DATA`
abbrev pub write_of : List (List ℕ) → Result Command Refusal
write_of words = patch_of words >>= λ patch. Ok (Write patch.0 patch.1 patch.2)

-- `flush DEV`
abbrev pub flush_of : List (List ℕ) → Result Command Refusal
flush_of words = alone_of words >>= λ name. Ok (Flush name)

-- what `start DEV read S N` says, by the words of a `read`
abbrev pub start_read_of : List (List ℕ) → Result Command Refusal
start_read_of words = span_of words >>= λ span. Ok (StartRead span.0 span.1 span.2)

-- what `start DEV write S DATA` says, by the words of a `write`
abbrev pub start_write_of : List (List ℕ) → Result Command Refusal
start_write_of words = patch_of words >>= λ patch. Ok (StartWrite patch.0 patch.1 patch.2)

-- `start DEV read S N` and `start DEV write S DATA`
abbrev pub start_of : List (List ℕ) → Result Command Refusal
start_of (device ∷ kind ∷ words) =
    if bytes_eq kind (codes "read") then start_read_of (device ∷ words) else
    if bytes_eq kind (codes "write") then start_write_of (device ∷ words) else
    Err BadTable
start_of words = Err BadTable

-- `step VOL EVENT`
abbrev pub step_of : List (List ℕ) → Result Command Refusal
step_of (volume ∷ words) = do
  volume ← name_of volume
  event ← event_in words
  Ok (Step volume event)
step_of words = Err BadTable

-- `settle VOL`
abbrev pub settle_of : List (List ℕ) → Result Command Refusal
settle_of words = alone_of words >>= λ volume. Ok (Settle volume)

-- `merge SNAP`
abbrev pub merge_of : List (List ℕ) → Result Command Refusal
merge_of words = alone_of words >>= λ name. Ok (Merge name)

-- `resume VOL`
abbrev pub resume_of : List (List ℕ) → Result Command Refusal
resume_of words = alone_of words >>= λ volume. Ok (Resume volume)

-- `finish VOL`
abbrev pub finish_of : List (List ℕ) → Result Command Refusal
finish_of words = alone_of words >>= λ volume. Ok (Finish volume)

-- `checkpoint VOL`
abbrev pub checkpoint_of : List (List ℕ) → Result Command Refusal
checkpoint_of words = alone_of words >>= λ volume. Ok (Checkpoint volume)

-- `stop VOL` and `stop VOL lose`
abbrev pub stop_of : List (List ℕ) → Result Command Refusal
stop_of (volume ∷ []) = name_of volume >>= λ volume. Ok (Stop volume)
stop_of (volume ∷ word ∷ []) = if bytes_eq word (codes "lose") then (name_of volume >>= λ volume. Ok (StopLosing volume)) else Err BadTable
stop_of words = Err BadTable

-- `status DEV`
abbrev pub status_of : List (List ℕ) → Result Command Refusal
status_of words = alone_of words >>= λ name. Ok (Status name)

-- `table DEV`
abbrev pub table_of : List (List ℕ) → Result Command Refusal
table_of words = alone_of words >>= λ name. Ok (Table name)

-- `map SNAP`
abbrev pub map_of : List (List ℕ) → Result Command Refusal
map_of words = alone_of words >>= λ name. Ok (Map name)

-- the command about a volume that a verb and the words after it say; an unknown one is BadTable
abbrev pub volume_command_of : List ℕ → List (List ℕ) → Result Command Refusal
volume_command_of verb words =
    if bytes_eq verb (codes "start") then start_of words else
    if bytes_eq verb (codes "step") then step_of words else
    if bytes_eq verb (codes "settle") then settle_of words else
    if bytes_eq verb (codes "merge") then merge_of words else
    if bytes_eq verb (codes "resume") then resume_of words else
    if bytes_eq verb (codes "finish") then finish_of words else
    if bytes_eq verb (codes "checkpoint") then checkpoint_of words else
    if bytes_eq verb (codes "stop") then stop_of words else
    if bytes_eq verb (codes "status") then status_of words else
    if bytes_eq verb (codes "table") then table_of words else
    if bytes_eq verb (codes "map") then map_of words else
    Err BadTable

-- the command that some words say
abbrev pub command_of : List (List ℕ) → Result Command Refusal
command_of [] = Err BadTable
command_of (verb ∷ words) =
    if bytes_eq verb (codes "disk") then disk_of words else
    if bytes_eq verb (codes "create") then create_of words else
    if bytes_eq verb (codes "remove") then remove_of words else
    if bytes_eq verb (codes "load") then load_of words else
    if bytes_eq verb (codes "save") then save_of words else
    if bytes_eq verb (codes "copy") then copy_of words else
    if bytes_eq verb (codes "ls") then list_of words else
    if bytes_eq verb (codes "message") then message_of words else
    if bytes_eq verb (codes "tick") then tick_of words else
    if bytes_eq verb (codes "read") then read_of words else
    if bytes_eq verb (codes "write") then write_of words else
    if bytes_eq verb (codes "flush") then flush_of words else
    volume_command_of verb words
