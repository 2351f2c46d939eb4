-- Why a line of right form was refused. The sentences are this project's own choice.
use Rattle.std.specs.Prelude.{ℕ, Bool, ◌&&◌, List, [], ◌∷◌, ◌++◌, codes, decimal, ◌==◌, if◌then◌else◌, is_some, Option, Some, None}
use Rattle.std.specs.Str.{bytes_eq}
use Rattle.sector.specs.declared.refusal.Refusal.{Refusal}
use Rattle.sector.specs.declared.refusal.Refusal.TheVariants.{NoSuchDevice, OutOfRange, Busy, NotQuiet, NoMemory, Invalid, MergingSnapshot, Io, TooMany, BadTable, MergeInProgress, NotMerging, NotDue, JournalFull, Overflow}
use Rattle.words.specs.Words.{words_of}
use Rattle.command_semantics.specs.State.{Table}
use Rattle.explain_syntax.specs.Forms.{word_at, looked_up}
use Rattle.explain_refusals.specs.declared.kinds.Kind.{Kind}
use Rattle.explain_refusals.specs.declared.kinds.Seen.{Seen}
use Rattle.explain_refusals.specs.Kinds.{known, kind_words}
use Rattle.explain_refusals.specs.Naming.{is_of, is_origin_kind, is_disk_kind, for_origin, sectors_at, missing_text, used_text}
use Rattle.explain_refusals.specs.Creating.{create_text}

-- what a command takes, by its verb
unfoldable pub taken_by : List ℕ → List ℕ
taken_by verb = looked_up (
    (codes "load", codes " takes a disk") ∷
    (codes "save", codes " takes a disk") ∷
    (codes "copy", codes " takes two disks") ∷
    (codes "message", codes " takes a dust layer") ∷
    (codes "merge", codes " takes a snapshot") ∷
    (codes "map", codes " takes a snapshot") ∷
    (codes "table", codes " takes any device but a disk") ∷
    (codes "read", codes " takes an origin or a snapshot") ∷
    (codes "write", codes " takes an origin or a snapshot") ∷
    (codes "flush", codes " takes an origin or a snapshot") ∷
    (codes "start", codes " takes an origin or a snapshot") ∷
    (codes "status", codes " takes an origin or a snapshot") ∷ [])
    (codes " takes an origin") verb

-- which word names the device of a wrong kind: the first, but the second where that of the first is right
unfoldable pub wrong_place : List (List ℕ) → Table → ℕ
wrong_place words table =
    let first = known (word_at words 1) table in
    if bytes_eq (word_at words 0) (codes "step") then (if is_of is_origin_kind first then 3 else 1) else
    if bytes_eq (word_at words 0) (codes "copy") then (if is_of is_disk_kind first then 3 else 1) else 1

-- what takes another kind, and which
unfoldable pub taker_text : List (List ℕ) → ℕ → List ℕ
taker_text words place =
    if bytes_eq (word_at words 0) (codes "step") && (place == 3) then word_at words 2 ++ codes " takes a snapshot of that origin" else
    if bytes_eq (word_at words 0) (codes "message") && bytes_eq (word_at words 3) (codes "tick") then word_at words 0 ++ codes " tick takes a flakey layer" else
    word_at words 0 ++ taken_by (word_at words 0)

-- what a device is
abbrev pub is_text : List ℕ → Kind → List ℕ
is_text name kind = name ++ codes " is " ++ kind_words kind ++ codes "; "

-- a device of another kind than a command takes
abbrev pub wrong_by : List (List ℕ) → ℕ → Option Seen → List ℕ
wrong_by words place None = missing_text (word_at words place)
wrong_by words place (Some seen) = is_text (word_at words place) seen.kind ++ taker_text words place

unfoldable pub wrong_text : List (List ℕ) → Table → List ℕ
wrong_text words table = let place = wrong_place words table in wrong_by words place (known (word_at words place) table)

-- a request that is started lies in one piece
abbrev pub piece_text : List (List ℕ) → List ℕ
piece_text words = if bytes_eq (word_at words 0) (codes "start") then codes ", or they lie in more than one piece" else []

-- how many sectors there are
unfoldable pub counted_text : ℕ → List ℕ
counted_text sectors = codes ", which has " ++ decimal sectors ++ codes " sectors"

abbrev pub end_by : List (List ℕ) → Option ℕ → List ℕ
end_by words None = []
end_by words (Some sectors) = counted_text sectors ++ piece_text words

-- what is past the end of a device
unfoldable pub past_text : List ℕ → List ℕ → List ℕ
past_text what name = what ++ codes " the end of " ++ name

-- and how many sectors that device has
unfoldable pub past_end_text : List ℕ → List (List ℕ) → Table → List ℕ
past_end_text what words table = past_text what (word_at words 1) ++ end_by words (sectors_at (word_at words 1) table)

-- sectors past the end of one of two disks
unfoldable pub ends_text : List ℕ → List ℕ → List ℕ
ends_text one other = codes "the sectors pass the end of " ++ one ++ codes ", or of " ++ other

-- sectors or blocks past an end
unfoldable pub range_text : List (List ℕ) → Table → List ℕ
range_text words table =
    if bytes_eq (word_at words 0) (codes "disk") then word_at words 2 ++ codes " sectors: a disk has 1 to 16777216" else
    if bytes_eq (word_at words 0) (codes "copy") then ends_text (word_at words 1) (word_at words 3) else
    if bytes_eq (word_at words 0) (codes "message") then past_end_text (codes "the block is past") words table else
    past_end_text (codes "the sectors pass") words table

-- a name that is taken, or a device that is in use
unfoldable pub busy_text : List (List ℕ) → Table → List ℕ
busy_text words table =
    if bytes_eq (word_at words 0) (codes "disk") then codes "the name " ++ word_at words 1 ++ codes " is in use" else
    if bytes_eq (word_at words 0) (codes "copy") then used_text (word_at words 3) table else
    used_text (word_at words 1) table

-- as much in flight or under way as may be
unfoldable pub flights_text : List ℕ → Table → List ℕ
flights_text name table = codes "64 requests are in flight, or 256 copies under way: " ++ for_origin (codes "settle") name table

-- a number that is at its limit
unfoldable pub many_text : List (List ℕ) → Table → List ℕ
many_text words table =
    if bytes_eq (word_at words 0) (codes "disk") then codes "there are 64 devices, and no more may be: remove one" else
    flights_text (word_at words 1) table

-- a name that no device has: the first of a line, or else the second
unfoldable pub absent_text : List (List ℕ) → Table → List ℕ
absent_text words table =
    if is_some (known (word_at words 1) table) then missing_text (word_at words 3) else missing_text (word_at words 1)

-- a merge that is not there, or has work left
unfoldable pub unmerged_text : List ℕ → Table → List ℕ
unmerged_text name table = codes "no merge is begun, or it has not come to its end: " ++ for_origin (codes "settle") name table

-- a merge forbids it, or it wants one
unfoldable pub merge_text : Refusal → List ℕ → Table → List ℕ
merge_text MergingSnapshot name table = name ++ codes " is being merged, and takes no requests: its origin shows what it showed"
merge_text MergeInProgress name table = codes "a merge is begun and not taken out: settle, then " ++ for_origin (codes "finish") name table
merge_text NotMerging name table = name ++ codes " has no merge; resume lets one go on that failed, and no device is suspended here"
merge_text refusal name table = unmerged_text name table

-- something failed
unfoldable pub failure_text : Refusal → List ℕ → Table → List ℕ
failure_text Invalid name table = name ++ codes " is lost for good: its store filled up, or a device failed"
failure_text Overflow name table = name ++ codes "'s store is full, and its line says PO: it takes no write any more"
failure_text Io name table = codes "a layer under " ++ name ++ codes ", or under a store, failed the operation: table tells each layer"
failure_text NotDue name table = codes "the event is not due: dmrig --trace tells which are"
failure_text NoMemory name table = codes "the allocator refused memory"
failure_text refusal name table = merge_text refusal name table

-- something is left to do
unfoldable pub unquiet_text : List ℕ → Table → List ℕ
unquiet_text name table = codes "a request is in flight, or an event is left to do: " ++ for_origin (codes "settle") name table

-- a journal is full, and a line makes room
unfoldable pub room_text : List ℕ → Table → List ℕ
room_text name table = codes "the journal is full: " ++ for_origin (codes "checkpoint") name table

-- or a flag does
abbrev pub full_text : List ℕ → Table → List ℕ
full_text name table = room_text name table ++ codes ", or dmrig --checkpoint"

-- what stands against a line that makes no device
unfoldable pub command_text : Refusal → List (List ℕ) → Table → List ℕ
command_text NoSuchDevice words table = absent_text words table
command_text BadTable words table = wrong_text words table
command_text OutOfRange words table = range_text words table
command_text Busy words table = busy_text words table
command_text TooMany words table = many_text words table
command_text NotQuiet words table = unquiet_text (word_at words 1) table
command_text JournalFull words table = full_text (word_at words 1) table
command_text refusal words table = failure_text refusal (word_at words 1) table

-- why a block was refused at its end
unfoldable pub block_text : Refusal → List ℕ
block_text BadTable = codes "a line of the block has another form, or names a device of another kind; nothing of it was run"
block_text NoSuchDevice = codes "a line of the block names a device that is not there; nothing of it was run"
block_text NotQuiet = codes "a volume that the block names has a request in flight or an event left: settle it first"
block_text refusal = codes "there was no memory for the block; nothing of it was run"

-- why a line was refused whose form is right, or the end of a block
unfoldable pub reason_by : Refusal → List (List ℕ) → Table → List ℕ
reason_by refusal words table =
    if bytes_eq (word_at words 0) (codes "end") then block_text refusal else
    if bytes_eq (word_at words 0) (codes "create") then create_text refusal words table else
    command_text refusal words table

abbrev pub reason_of : List ℕ → Refusal → Table → List ℕ
reason_of line refusal table = reason_by refusal (words_of line) table
