-- Why a line made no device. The sentences are this project's own choice.
use Rattle.std.specs.Prelude.{ℕ, Bool, true, false, not, ◌&&◌, List, [], ◌++◌, codes, decimal, if◌then◌else◌, is_some, unwrap_or, Option, Some, None}
use Rattle.std.specs.Str.{bytes_eq}
use Rattle.sector.specs.declared.refusal.Refusal.{Refusal}
use Rattle.sector.specs.declared.refusal.Refusal.TheVariants.{NoSuchDevice, OutOfRange, Busy, NotQuiet, NoMemory, Invalid, TooMany, BadTable, BadChunk, BadHeader, BadVersion, Damaged, StoreTooSmall, Stale, MergeInProgress, JournalFull}
use Rattle.command_semantics.specs.State.{Table}
use Rattle.explain_syntax.specs.Forms.{word_at}
use Rattle.explain_refusals.specs.declared.kinds.Kind.{Kind}
use Rattle.explain_refusals.specs.declared.kinds.Kind.TheVariants as kinds
use Rattle.explain_refusals.specs.declared.kinds.Seen.{Seen}
use Rattle.explain_refusals.specs.Kinds.{known, kind_words}
use Rattle.explain_refusals.specs.Naming.{is_of, is_origin_kind, below_of, sectors_at, missing_text, used_text}

-- the line is that of a snapshot
abbrev pub is_snapshot_line : List (List ℕ) → Bool
is_snapshot_line words = bytes_eq (word_at words 4) (codes "snapshot")

-- a device that no origin stands on
unfoldable pub unstood_text : List ℕ → List ℕ
unstood_text name = codes "no origin stands on " ++ name ++ codes " itself: create NAME 0 SECTORS snapshot-origin " ++ name

-- what a line lacks over such a device: of a snapshot its store, or else an origin
unfoldable pub lacking_text : List (List ℕ) → Table → List ℕ
lacking_text words table =
    if is_snapshot_line words && not (is_some (known (word_at words 6) table)) then missing_text (word_at words 6) else
    unstood_text (word_at words 5)

-- a device that is not there or that no origin stands on, or a store that is not there
unfoldable pub no_origin_text : List (List ℕ) → Table → List ℕ
no_origin_text words table =
    let name = word_at words 5 in
    if not (is_some (known name table)) then missing_text name else
    if is_of is_origin_kind (known name table)
    then name ++ codes " is an origin; a snapshot's line names what it stands on: " ++ unwrap_or (below_of table (known name table)) [] else
    lacking_text words table

-- what a line would take: a snapshot its store, any other the device below
unfoldable pub taken_word : List (List ℕ) → List ℕ
taken_word words = if is_snapshot_line words then word_at words 6 else word_at words 5

-- a name that is taken, or a device that is in use
unfoldable pub busy_text : List (List ℕ) → Table → List ℕ
busy_text words table =
    if is_some (known (word_at words 1) table) then codes "the name " ++ word_at words 1 ++ codes " is in use" else
    used_text (taken_word words) table

-- a size that is none of the device below
unfoldable pub says_text : List ℕ → List ℕ → List ℕ
says_text says below = codes "the line says " ++ says ++ codes " sectors, which are not those of " ++ below

-- what that device has
abbrev pub size_part : Option ℕ → List ℕ
size_part None = []
size_part (Some sectors) = codes ": it has " ++ decimal sectors

-- another size than that of the device below
unfoldable pub size_text : List (List ℕ) → Table → List ℕ
size_text words table = says_text (word_at words 3) (word_at words 5) ++ size_part (sectors_at (word_at words 5) table)

-- on these no line stands
abbrev pub is_shown_kind : Kind → Bool
is_shown_kind kinds.Disk = false
is_shown_kind kinds.Flakey = false
is_shown_kind kinds.Dust = false
is_shown_kind kinds.Error = false
is_shown_kind kinds.Origin = true
is_shown_kind kinds.Snapshot = true
is_shown_kind kinds.Merging = true

-- a device of another kind, or of another size, than a line says
abbrev pub kind_by : List (List ℕ) → Table → Option Seen → List ℕ
kind_by words table None = size_text words table
kind_by words table (Some seen) =
    if is_shown_kind seen.kind then taken_word words ++ codes " is " ++ kind_words seen.kind ++ codes "; a line stands on disks and layers" else size_text words table

unfoldable pub kind_text : List (List ℕ) → Table → List ℕ
kind_text words table =
    if bytes_eq (word_at words 4) (codes "error") then word_at words 3 ++ codes " sectors: an error layer has 1 to 16777216" else
    kind_by words table (known (taken_word words) table)

-- what is said of a store that is refused, behind its name
unfoldable pub store_text : Refusal → List ℕ
store_text StoreTooSmall = codes " has less than two chunks, and is too small for a store"
store_text BadHeader = codes " begins with another number than a store does; zeros there make it fresh, as by load DISK 0 512*00"
store_text BadVersion = codes " holds a store of another version"
store_text BadChunk = codes " holds a store whose header has no allowed chunk"
store_text Invalid = codes " holds a store that was lost; zeros in its first sector make it fresh, as by load DISK 0 512*00"
store_text Stale = codes " holds a lost store whose mark could not be written; zeros in its first sector make it fresh, as by load DISK 0 512*00"
store_text Damaged = codes " holds a store whose list of pairs is damaged"
store_text refusal = codes " could not be read or written, or the origin not flushed: a layer failed it"

-- a journal that has no room
unfoldable pub full_text : List ℕ → List ℕ
full_text below = codes "the journal is full: checkpoint the origin over " ++ below

-- why a line made no device
unfoldable pub create_text : Refusal → List (List ℕ) → Table → List ℕ
create_text NoSuchDevice words table = no_origin_text words table
create_text Busy words table = busy_text words table
create_text BadTable words table = kind_text words table
create_text OutOfRange words table = kind_text words table
create_text TooMany words table = codes "there are 64 devices, or 8 snapshots of the origin, and no more may be"
create_text NotQuiet words table = codes "the volume over " ++ word_at words 5 ++ codes " has a request in flight or an event left: settle its origin"
create_text MergeInProgress words table = codes "a merge is begun in the volume over " ++ word_at words 5 ++ codes ": finish its origin first"
create_text JournalFull words table = full_text (word_at words 5)
create_text NoMemory words table = codes "the allocator refused memory"
create_text refusal words table = word_at words 6 ++ store_text refusal
