-- The forms of lines, in a table: beside the word that tells forms apart, the form. The commands are this project's own choice; the
-- table line after `create` is the kernel's.
use Rattle.std.specs.Prelude.{ℕ, Bool, List, [], ◌∷◌, length, codes, nat_lt, nat_eq, if◌then◌else◌, Option, Some, None, slice_get, unwrap_or}
use Rattle.std.specs.List.{starts_with}
use Rattle.std.specs.Str.{bytes_eq}
use Rattle.explain_syntax.specs.Slots.{is_one_of}

-- the word at a place; no byte where there is none
unfoldable pub word_at : List (List ℕ) → ℕ → List ℕ
word_at words place = unwrap_or (slice_get words place) []

-- what stands beside a word in a table, or else another text
abbrev pub looked_up : List (List ℕ × List ℕ) → List ℕ → List ℕ → List ℕ
looked_up [] other word = other
looked_up (row ∷ rows) other word = if bytes_eq word row.0 then row.1 else looked_up rows other word

-- what stands beside a word in a table, where the rest of the table is looked up already
abbrev pub found_or : List (List ℕ × List ℕ) → Option (List ℕ) → List ℕ → Option (List ℕ)
found_or [] other word = other
found_or (row ∷ rows) other word = if bytes_eq word row.0 then Some row.1 else found_or rows other word

-- of a line with a feature count
unfoldable pub flakey_form : List (List ℕ) → List ℕ
flakey_form words =
    if nat_lt 10 (length words) then codes "create NAME 0 SECTORS flakey DEV OFFSET UP DOWN N FEATURE" else
    if nat_lt 9 (length words) then codes "create NAME 0 SECTORS flakey DEV OFFSET UP DOWN N" else
    codes "create NAME 0 SECTORS flakey DEV OFFSET UP DOWN"

-- of a snapshot, whose line may end in a 0 for no features
unfoldable pub snapshot_form : List (List ℕ) → List ℕ
snapshot_form words =
    if nat_lt 9 (length words) then codes "create NAME 0 SECTORS snapshot DEV STORE P|PO CHUNK 0" else
    codes "create NAME 0 SECTORS snapshot DEV STORE P|PO CHUNK"

-- of a line that makes a device, by its target
unfoldable pub create_form : List (List ℕ) → List ℕ
create_form words = looked_up (
    (codes "snapshot-origin", codes "create NAME 0 SECTORS snapshot-origin DEV") ∷
    (codes "snapshot", snapshot_form words) ∷
    (codes "flakey", flakey_form words) ∷
    (codes "dust", codes "create NAME 0 SECTORS dust DEV 0 BLOCK") ∷
    (codes "error", codes "create NAME 0 SECTORS error") ∷ [])
    (codes "create NAME 0 SECTORS snapshot-origin|snapshot|flakey|dust|error") (word_at words 4)

-- of a message, by its word
unfoldable pub message_form : List ℕ → List ℕ
message_form word = looked_up (
    (codes "addbadblock", codes "message DEV 0 addbadblock K") ∷
    (codes "removebadblock", codes "message DEV 0 removebadblock K") ∷
    (codes "queryblock", codes "message DEV 0 queryblock K") ∷
    (codes "tick", codes "message DEV 0 tick SECONDS") ∷ [])
    (codes "message DEV 0 addbadblock|removebadblock|queryblock|countbadblocks|clearbadblocks|enable|disable|tick") word

-- the events that are told with a number, and with a snapshot
unfoldable pub numbered_events : List (List ℕ)
numbered_events = codes "issue" ∷ codes "copy-read" ∷ codes "copy-write" ∷ codes "publish" ∷ []

unfoldable pub snapshot_events : List (List ℕ)
snapshot_events = codes "zero-next" ∷ codes "write-area" ∷ codes "write-invalid" ∷ codes "flush-store" ∷ []

-- of a step, by its event
unfoldable pub step_form : List ℕ → List ℕ
step_form event =
    if is_one_of numbered_events event then codes "step VOL issue|copy-read|copy-write|publish K" else
    if is_one_of snapshot_events event then codes "step VOL zero-next|write-area|write-invalid|flush-store SNAP" else
    if starts_with nat_eq event (codes "merge-") then codes "step VOL merge-group|merge-area-read|merge-read|merge-write|merge-flush|merge-commit|merge-release" else
    codes "step VOL issue|copy-read|copy-write|publish|zero-next|write-area|write-invalid|flush-store|merge-group"

-- of a request that is started, by its kind
unfoldable pub start_form : List ℕ → List ℕ
start_form kind = looked_up (
    (codes "read", codes "start DEV read S N") ∷
    (codes "write", codes "start DEV write S DATA") ∷ [])
    (codes "start DEV read|write") kind

-- of the end of a volume
unfoldable pub stop_form : List (List ℕ) → List ℕ
stop_form words = if nat_lt 2 (length words) then codes "stop VOL lose" else codes "stop VOL"

-- of the word that opens a block
unfoldable pub par_form : List (List ℕ) → List ℕ
par_form words = if nat_lt 1 (length words) then codes "par hold K" else codes "par"

-- of a line about a volume, by its first word; none for a word that is no command
unfoldable pub volume_form : List (List ℕ) → Option (List ℕ)
volume_form words = found_or (
    (codes "start", start_form (word_at words 2)) ∷
    (codes "step", step_form (word_at words 2)) ∷
    (codes "settle", codes "settle VOL") ∷
    (codes "merge", codes "merge SNAP") ∷
    (codes "resume", codes "resume VOL") ∷
    (codes "finish", codes "finish VOL") ∷
    (codes "checkpoint", codes "checkpoint VOL") ∷
    (codes "stop", stop_form words) ∷
    (codes "status", codes "status DEV") ∷
    (codes "table", codes "table DEV") ∷
    (codes "map", codes "map SNAP") ∷ [])
    None (word_at words 0)

-- of any line outside a block, by its first word
unfoldable pub form_of : List (List ℕ) → Option (List ℕ)
form_of words = found_or (
    (codes "disk", codes "disk NAME SECTORS") ∷
    (codes "create", create_form words) ∷
    (codes "remove", codes "remove NAME") ∷
    (codes "load", codes "load DISK S DATA") ∷
    (codes "save", codes "save DISK S N") ∷
    (codes "copy", codes "copy DISK S DISK N") ∷
    (codes "ls", codes "ls") ∷
    (codes "message", message_form (word_at words 3)) ∷
    (codes "tick", codes "tick SECONDS") ∷
    (codes "read", codes "read DEV S N") ∷
    (codes "write", codes "write DEV S DATA") ∷
    (codes "flush", codes "flush DEV") ∷
    (codes "par", par_form words) ∷ [])
    (volume_form words) (word_at words 0)

-- of a line of a block, by the word behind its seat
unfoldable pub seat_form : List (List ℕ) → List ℕ
seat_form words = looked_up (
    (codes "read", codes "SEAT read DEV S N") ∷
    (codes "write", codes "SEAT write DEV S DATA") ∷
    (codes "merge", codes "SEAT merge SNAP") ∷ [])
    (codes "SEAT read|write|merge") (word_at words 1)
