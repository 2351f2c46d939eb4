-- What a settled volume shows, in words of saved arrays alone, and what reads and writes of many sectors do to that. This
-- project's own; the kernel's admin-guide page on snapshots says in words what a snapshot keeps, and where reads and writes go.
use Rattle.std.specs.Prelude.{◌≡◌, ◌≢◌, ◌⊎◌, ◌==◌, ℕ, ◌+◌, ◌*◌, ◌<◌, List, [], ◌∷◌, length, map, take, if◌then◌else◌, Some, None}
use Rattle.sector.specs.Bytes.{sectors_at, with_sectors}
use Rattle.sector.specs.declared.refusal.Refusal.{Refusal}
use Rattle.sector.specs.declared.refusal.Refusal.TheVariants.{NoSuchDevice, NoMemory, JournalFull, Invalid as InvalidRefusal, Io as IoRefusal, Overflow as OverflowRefusal}
use Rattle.chunk.specs.Pieces.{Span}
use Rattle.plain_machine.specs.Plain.{Saved, Live, Invalid, Entry, marked_in, overflow_under, Shown, without_saved}
use Rattle.plain_machine.specs.declared.request.Dev.{Dev}
use Rattle.plain_machine.specs.declared.request.Dev.TheVariants.{Origin, Snap as ToSnap}
use Rattle.plain_machine.specs.declared.request.Overflowing.TheVariants.{May, Did}
use Rattle.device.specs.Layers.{Layer}
use Rattle.whole_commands.specs.Snaps.{Snap, Volume, shown}
use Rattle.whole_commands.specs.Beside.{pieces_beside}
use Rattle.volume.specs.Shown.{shown_origin, shown_begun}
use Rattle.volume_commands.specs.Rested.{Rested, merged_of, settled_of}

-- what a snapshot of a volume's own bytes shows
abbrev pub entry_of : List ℕ → Snap → Entry
entry_of origin s = record { number = s.number; saved = shown origin s; overflow = s.overflow }

-- all that is shown where no merge is begun
abbrev pub arrays_of : Volume → Shown
arrays_of v = record { origin = v.origin.bytes; begun = None; saved = map (entry_of v.origin.bytes) v.snaps }

-- While a merge is begun the origin's array is the origin disk with the chunks of the merging store in place: what the merged
-- snapshot showed, with what was written since. The other snapshots show what they do without a merge.
abbrev pub arrays_in : {B : Type 0} → (B → List ℕ) → (B → List Layer) → Rested B → Shown
arrays_in contents layers v = record {
  origin = shown_origin contents v.origin v.events.merge;
  begun = shown_begun v.events.merge;
  saved = (arrays_of (settled_of contents layers v)).saved;
}

-- what the first snapshot with a number shows
abbrev pub saved_at : ℕ → List Entry → Saved
saved_at number [] = Invalid
saved_at number (entry ∷ entries) = if entry.number == number then entry.saved else saved_at number entries

-- what a request's device shows
abbrev pub saved_of : Dev → Shown → Saved
saved_of Origin a = Live a.origin
saved_of (ToSnap number) a = saved_at number a.saved

-- it has an array
abbrev pub IsLive : Dev → Shown → Type 0
IsLive dev a = (array : List ℕ) × (saved_of dev a ≡ Live array)

-- it takes writes: the origin does, and a snapshot of which no write overflowed its store
abbrev pub IsOpen : Dev → Shown → Type 0
IsOpen Origin a = Unit {0}
IsOpen (ToSnap number) a = overflow_under number a.saved ≢ Did

-- A read of these sectors gave these bytes: they are those of the device's array, and what is shown is as it was.
pub record IsPlainRead (dev : Dev) (span : Span) (bytes : List ℕ) (old new : Shown) : Type 0 where
  pub array : List ℕ
  pub live : saved_of dev old ≡ Live array
  pub read : bytes ≡ sectors_at array span.first span.count
  pub same : new ≡ old

-- A flush was done: its device shows an array, and what is shown is as it was.
abbrev pub IsPlainFlush : Dev → Shown → Shown → Type 0
IsPlainFlush dev old new = IsLive dev old × (new ≡ old)

-- why a read or a flush is refused: its snapshot is not live, or a device failed, or there was no room for it, or its device is not
-- there
abbrev pub IsReadLost : Dev → Refusal → Shown → Type 0
IsReadLost dev InvalidRefusal old = saved_of dev old ≡ Invalid
IsReadLost dev IoRefusal old = IsLive dev old
IsReadLost dev NoMemory old = Unit {0}
IsReadLost dev JournalFull old = Unit {0}
IsReadLost dev NoSuchDevice old = saved_of dev old ≡ Invalid
IsReadLost dev other old = ⊥

-- what is shown is as it was
abbrev pub IsPlainReadRefused : Dev → Refusal → Shown → Shown → Type 0
IsPlainReadRefused dev refusal old new = IsReadLost dev refusal old × (new ≡ old)

-- an array with these bytes from a sector on
abbrev pub with_bytes : ℕ → List ℕ → Saved → Saved
with_bytes first bytes (Live array) = Live (with_sectors array first bytes)
with_bytes first bytes Invalid = Invalid

-- the first snapshot with a number shows something else, and every other what it showed
abbrev pub changed_at : ℕ → (Saved → Saved) → List Entry → List Entry
changed_at number f [] = []
changed_at number f (entry ∷ entries) =
    if entry.number == number then (record entry { saved = f entry.saved }) ∷ entries else entry ∷ changed_at number f entries

-- each shows what it showed, or is lost for good, and its store overflowed no more than before
abbrev pub AreKept : List Entry → List Entry → Type 0
AreKept [] [] = Unit {0}
AreKept [] (t ∷ ts) = ⊥
AreKept (s ∷ ss) [] = ⊥
AreKept (s ∷ ss) (t ∷ ts) = (t.number ≡ s.number) × (t.overflow ≡ s.overflow) × ((t.saved ≡ s.saved) ⊎ (t.saved ≡ Invalid)) × AreKept ss ts

-- A merge goes on: nobody sees it, but that snapshots may be lost.
pub record IsGoneOn (old new : Shown) : Type 0 where
  pub origin : new.origin ≡ old.origin
  pub begun : new.begun ≡ old.begun
  pub saved : AreKept old.saved new.saved

-- These bytes stand from this sector on. Of a write to the origin, snapshots may be lost; one to a snapshot changes what that
-- shows alone.
abbrev pub IsWritten : Dev → ℕ → List ℕ → Shown → Shown → Type 0
IsWritten Origin first bytes old new = (new.origin ≡ with_sectors old.origin first bytes) × AreKept old.saved new.saved × (new.begun ≡ old.begun)
IsWritten (ToSnap number) first bytes old new = (new.origin ≡ old.origin) × (new.saved ≡ changed_at number (with_bytes first bytes) old.saved) × (new.begun ≡ old.begun)

-- the snapshot is lost, and nothing else changed
abbrev pub IsLost : Dev → Shown → Shown → Type 0
IsLost Origin old new = ⊥
IsLost (ToSnap number) old new = (new.origin ≡ old.origin) × (new.saved ≡ changed_at number (λ saved. Invalid) old.saved) × (new.begun ≡ old.begun)

-- a write of all these bytes
abbrev pub IsPlainWrite : Dev → Span → List ℕ → Shown → Shown → Type 0
IsPlainWrite dev span bytes old new = IsLive dev old × IsOpen dev old × IsWritten dev span.first bytes old new

-- the pieces of a range, by the chunks of the snapshots and the merge
abbrev pub pieces_for : {B : Type 0} → (B → List ℕ) → (B → List Layer) → Span → Rested B → List Span
pieces_for contents layers span v = pieces_beside span (merged_of contents layers v)

-- the sectors of these pieces
abbrev pub sectors_in : List Span → ℕ
sectors_in [] = 0
sectors_in (piece ∷ pieces) = piece.count + sectors_in pieces

-- some first pieces stand, but not all
abbrev pub IsWrittenInPart : Dev → ℕ → List Span → List ℕ → Shown → Shown → Type 0
IsWrittenInPart dev first pieces bytes old new =
    (count : ℕ) × (count < length pieces) × IsWritten dev first (take (512 * sectors_in (take count pieces)) bytes) old new

-- A write overflowed a snapshot's store: one had before, and nothing changed; or its store may overflow, some first pieces
-- stand, but not all, and the snapshot is marked.
abbrev pub IsOverflown : Dev → ℕ → List Span → List ℕ → Shown → Shown → Type 0
IsOverflown Origin first pieces bytes old new = ⊥
IsOverflown (ToSnap number) first pieces bytes old new =
    ((overflow_under number old.saved ≡ Did) × (new ≡ old))
    ⊎ ((overflow_under number old.saved ≡ May) × (mid : Shown) × IsWrittenInPart (ToSnap number) first pieces bytes old mid × (new ≡ record mid { saved = marked_in number mid.saved }))

-- A write in these pieces is refused: its snapshot is lost; or a device failed, or there was no room for it, and some first
-- pieces stand; or it overflowed its snapshot's store, which shows what it showed, with some first pieces; or its device is not
-- there.
abbrev pub IsPlainWriteRefused : Dev → Span → List Span → List ℕ → Refusal → Shown → Shown → Type 0
IsPlainWriteRefused dev span pieces bytes InvalidRefusal old new = IsLost dev old new
IsPlainWriteRefused dev span pieces bytes IoRefusal old new = IsLive dev old × IsWrittenInPart dev span.first pieces bytes old new
IsPlainWriteRefused dev span pieces bytes OverflowRefusal old new = IsLive dev old × IsOverflown dev span.first pieces bytes old new
IsPlainWriteRefused dev span pieces bytes NoMemory old new = IsWrittenInPart dev span.first pieces bytes old new
IsPlainWriteRefused dev span pieces bytes JournalFull old new = IsWrittenInPart dev span.first pieces bytes old new
IsPlainWriteRefused dev span pieces bytes NoSuchDevice old new = (saved_of dev old ≡ Invalid) × (new ≡ old)
IsPlainWriteRefused dev span pieces bytes other old new = ⊥

-- The origin's array becomes what the snapshot with a number showed, which is being merged from then on, where none was, and none of
-- the saved ones any more; the others keep theirs.
pub record IsRolledBack (number : ℕ) (old new : Shown) : Type 0 where
  pub alone : old.begun ≡ None
  pub origin : Live new.origin ≡ saved_at number old.saved
  pub begun : new.begun ≡ Some number
  pub saved : new.saved ≡ without_saved number old.saved
