-- To be believed: `run`'s output, a volume's steps or its attach are said in these words.
-- The numbers and names of the refusals. They are this project's own.
use Rattle.std.specs.Prelude.{ℕ, List, codes}
use Rattle.sector.specs.declared.refusal.Refusal.{Refusal}
use Rattle.sector.specs.declared.refusal.Refusal.TheVariants.{NoSuchDevice, OutOfRange, Busy, NotQuiet, NoMemory, Invalid, MergingSnapshot, Io, TooMany, BadTable, BadChunk, BadHeader, BadVersion, Damaged, StoreTooSmall, Stale, MergeInProgress, NotMerging, NotDue, JournalFull, ChunkMismatch, NotFinished, Overflow}

-- a refusal's number
abbrev pub number_of : Refusal → ℕ
number_of NoSuchDevice = 1
number_of OutOfRange = 2
number_of Busy = 3
number_of NotQuiet = 4
number_of NoMemory = 5
number_of Invalid = 6
number_of MergingSnapshot = 7
number_of Io = 8
number_of TooMany = 9
number_of BadTable = 10
number_of BadChunk = 11
number_of BadHeader = 12
number_of BadVersion = 13
number_of Damaged = 14
number_of StoreTooSmall = 15
number_of Stale = 16
number_of MergeInProgress = 17
number_of NotMerging = 18
number_of NotDue = 19
number_of JournalFull = 20
number_of ChunkMismatch = 21
number_of NotFinished = 22
number_of Overflow = 23

-- its name in a reply
abbrev pub name_of : Refusal → List ℕ
name_of NoSuchDevice = codes "NoSuchDevice"
name_of OutOfRange = codes "OutOfRange"
name_of Busy = codes "Busy"
name_of NotQuiet = codes "NotQuiet"
name_of NoMemory = codes "NoMemory"
name_of Invalid = codes "Invalid"
name_of MergingSnapshot = codes "MergingSnapshot"
name_of Io = codes "Io"
name_of TooMany = codes "TooMany"
name_of BadTable = codes "BadTable"
name_of BadChunk = codes "BadChunk"
name_of BadHeader = codes "BadHeader"
name_of BadVersion = codes "BadVersion"
name_of Damaged = codes "Damaged"
name_of StoreTooSmall = codes "StoreTooSmall"
name_of Stale = codes "Stale"
name_of MergeInProgress = codes "MergeInProgress"
name_of NotMerging = codes "NotMerging"
name_of NotDue = codes "NotDue"
name_of JournalFull = codes "JournalFull"
name_of ChunkMismatch = codes "ChunkMismatch"
name_of NotFinished = codes "NotFinished"
name_of Overflow = codes "Overflow"
