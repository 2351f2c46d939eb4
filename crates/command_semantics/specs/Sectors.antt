-- To be believed: `run`'s output, a volume's steps or its attach are said in these words.
-- Reading, writing and flushing origins and snapshots. What they show is the settled machine's, which goes on beside a merge; the
-- commands, and that a volume takes reads and writes of 2^60 sectors in all, a flush counted as one, so that its numbers never run
-- out, are this project's own.
use Rattle.std.specs.Prelude.{◌≡◌, ℕ, ◌+◌, ◌<◌, List, nat_lt, if◌then◌else◌, Result, Ok, Err}
use Rattle.sector.specs.declared.refusal.Refusal.{Refusal}
use Rattle.sector.specs.declared.refusal.Refusal.TheVariants.{BadTable, TooMany, MergingSnapshot}
use Rattle.words.specs.Given.{◌>>=◌}
use Rattle.chunk.specs.Pieces.{Span}
use Rattle.command.specs.Words.{sectors_of}
use Rattle.plain_machine.specs.declared.request.Dev.{Dev}
use Rattle.plain_machine.specs.declared.request.Dev.TheVariants as devs
use Rattle.plain_machine.specs.declared.request.Reply.{Reply}
use Rattle.plain_machine.specs.declared.request.Reply.TheVariants.{Data, Written, Flushed, Refused}
use Rattle.whole_commands.specs.Devices.{sectors_of as size_of}
use Rattle.whole_commands.specs.Snaps.{Volume as Settled}
use Rattle.whole_commands.specs.Merges.{Merged}
use Rattle.whole_commands.specs.Commands.{bytes_in}
use Rattle.whole_commands.specs.Beside.{written_beside, read_beside, flushed_beside, count_beside, written_first_beside}
use Rattle.plain_machine.specs.Failures.{refusal_of}
use Rattle.command_semantics.specs.declared.place.Role.{Role}
use Rattle.command_semantics.specs.declared.place.Role.TheVariants.{Origin, Under, Snapshot, Store, Merging, MergingStore}
use Rattle.command_semantics.specs.declared.place.Place.{Place}
use Rattle.command_semantics.specs.declared.place.Place.TheVariants.{Free, In}
use Rattle.command_semantics.specs.State.{Volume, Table, merged_in, with_merged}
use Rattle.command_semantics.specs.Places.{place_of, found, volume_at}
use Rattle.command_semantics.specs.Changes.{Did, refused}
use Rattle.command_semantics.specs.Messages.{snap_at, put_volume}
use Rattle.command_semantics.specs.Raw.{fits, whole}
use Rattle.whole_commands.specs.Pieces.{Answered}

-- disks and layers are neither read nor written by these commands
abbrev pub serves : Role → Result (Unit {0}) Refusal
serves Origin = Ok tt
serves (Under depth) = Err BadTable
serves (Snapshot k) = Ok tt
serves (Store k depth) = Err BadTable
serves Merging = Ok tt
serves (MergingStore depth) = Err BadTable

-- What a request is sent to: the origin, or a snapshot by its number. One that is being merged takes none.
unfoldable pub dev_of : Role → Settled → Result Dev Refusal
dev_of Origin state = Ok devs.Origin
dev_of (Under depth) state = Err BadTable
dev_of (Snapshot k) state = snap_at k state >>= λ snap. Ok (devs.Snap snap.number)
dev_of (Store k depth) state = Err BadTable
dev_of Merging state = Err MergingSnapshot
dev_of (MergingStore depth) state = Err BadTable

-- a volume takes these sectors yet
abbrev pub takes : ℕ → Volume → Result (Unit {0}) Refusal
takes count volume = if nat_lt (volume.asked + count) 1_152_921_504_606_846_976 then Ok tt else Err TooMany

-- what a command asks of a volume: of which device, and which sectors
pub record Asked : Type 0 where
  pub dev : Dev
  pub span : Span

-- so many sectors from the first on; a snapshot has as many as its origin
unfoldable pub asked_of : Role → ℕ → ℕ → Volume → Result Asked Refusal
asked_of role first count volume = do
  _ ← serves role
  _ ← fits (size_of volume.state.origin) first count
  dev ← dev_of role volume.state
  _ ← takes count volume
  Ok (record { dev = dev; span = record { first = first; count = count; size = size_of volume.state.origin } })

-- a volume that was asked for these sectors, whose devices and merge are these
abbrev pub after_asking : ℕ → Merged → Volume → Volume
after_asking count m volume = record (with_merged m volume) { asked = volume.asked + count }

-- what a read is answered with
abbrev pub read_answer : Reply → Result (List ℕ) Refusal
read_answer (Data bytes) = Ok bytes
read_answer Written = Ok (bytes_in Written)
read_answer Flushed = Ok (bytes_in Flushed)
read_answer (Refused failure) = Err (refusal_of failure)

-- sectors that were asked for are read; no device is changed by it
abbrev pub read_by : ℕ → Volume → Result Asked Refusal → Did (List ℕ) Volume
read_by count volume (Err refusal) = refused volume refusal
read_by count volume (Ok asks) =
    record { answer = read_answer (read_beside asks.dev asks.span (merged_in volume)).reply; left = after_asking count (merged_in volume) volume }

unfoldable pub read_in : Role → ℕ → ℕ → Volume → Did (List ℕ) Volume
read_in role first count volume = read_by count volume (asked_of role first count volume)

-- what a write or a flush is answered with
abbrev pub write_answer : Reply → Result (Unit {0}) Refusal
write_answer (Data bytes) = Ok tt
write_answer Written = Ok tt
write_answer Flushed = Ok tt
write_answer (Refused failure) = Err (refusal_of failure)

abbrev pub written_as : ℕ → Answered Merged → Volume → Did (Unit {0}) Volume
written_as count done volume = record { answer = write_answer done.reply; left = after_asking count done.state volume }

-- sectors that were asked for are written
abbrev pub write_by : ℕ → List ℕ → Volume → Result Asked Refusal → Did (Unit {0}) Volume
write_by count bytes volume (Err refusal) = refused volume refusal
write_by count bytes volume (Ok asks) = written_as count (written_beside asks.dev asks.span bytes (merged_in volume)) volume

unfoldable pub written_in : Role → ℕ → ℕ → List ℕ → Volume → Did (Unit {0}) Volume
written_in role first count bytes volume = write_by count bytes volume (asked_of role first count volume)

-- A flush is asked for as a read of the first sector is. No byte is changed by it, and no layer that devices have here.
abbrev pub flush_by : Volume → Result Asked Refusal → Did (Unit {0}) Volume
flush_by volume (Err refusal) = refused volume refusal
flush_by volume (Ok asks) =
    record { answer = write_answer (flushed_beside asks.dev (merged_in volume)).reply; left = after_asking 1 (merged_in volume) volume }

unfoldable pub flushed_in : Role → Volume → Did (Unit {0}) Volume
flushed_in role volume = flush_by volume (asked_of role 0 1 volume)

-- Where memory, or the room of a journal, ran out in a write: it was not begun, or some first pieces were written, but not all.
pub record ArePartWritten (count : ℕ) (bytes : List ℕ) (asks : Asked) (old new : Volume) : Type 0 where
  pub pieces : ℕ
  pub fewer : pieces < count_beside asks.span (merged_in old)
  pub done : (written_first_beside pieces asks.dev asks.span bytes (merged_in old)).reply ≡ Written
  pub left : new ≡ after_asking count (written_first_beside pieces asks.dev asks.span bytes (merged_in old)).state old

abbrev pub IsPartWrittenBy : ℕ → List ℕ → Volume → Volume → Result Asked Refusal → Type 0
IsPartWrittenBy count bytes old new (Err refusal) = ⊥
IsPartWrittenBy count bytes old new (Ok asks) = ArePartWritten count bytes asks old new

unfoldable pub IsPartWritten : Role → ℕ → ℕ → List ℕ → Volume → Volume → Type 0
IsPartWritten role first count bytes old new = IsPartWrittenBy count bytes old new (asked_of role first count old)

-- where memory or room ran out in a read: no device was changed
abbrev pub IsReadAsked : ℕ → Volume → Volume → Type 0
IsReadAsked count old new = new ≡ after_asking count (merged_in old) old

-- a command on the volume at a place, and what it leaves of the table
abbrev pub in_volume : {A : Type 0} → ℕ → Table → (Volume → Did A Volume) → Result Volume Refusal → Did A Table
in_volume v table command (Err refusal) = refused table refusal
in_volume v table command (Ok volume) = record { answer = (command volume).answer; left = put_volume v (command volume).left table }

-- a command on the device of a name, which must have a role in a volume
abbrev pub at_role : {A : Type 0} → Table → (Role → Volume → Did A Volume) → Result Place Refusal → Did A Table
at_role table command (Err refusal) = refused table refusal
at_role table command (Ok (Free i depth)) = refused table BadTable
at_role table command (Ok (In v role)) = in_volume v table (command role) (volume_at v table)

abbrev pub read_some : List ℕ → ℕ → Table → Result ℕ Refusal → Did (List ℕ) Table
read_some name first table (Err refusal) = refused table refusal
read_some name first table (Ok count) = at_role table (λ role volume. read_in role first count volume) (found (place_of name table))

-- `read DEV S N`
unfoldable pub read : List ℕ → ℕ → ℕ → Table → Did (List ℕ) Table
read name first count table = read_some name first table (sectors_of count)

abbrev pub write_some : List ℕ → ℕ → List ℕ → Table → Result ℕ Refusal → Did (Unit {0}) Table
write_some name first bytes table (Err refusal) = refused table refusal
write_some name first bytes table (Ok count) = at_role table (λ role volume. written_in role first count bytes volume) (found (place_of name table))

-- `write DEV S DATA`
unfoldable pub write : List ℕ → ℕ → List ℕ → Table → Did (Unit {0}) Table
write name first bytes table = write_some name first bytes table (whole bytes)

-- `flush DEV`
unfoldable pub flush : List ℕ → Table → Did (Unit {0}) Table
flush name table = at_role table (λ role volume. flushed_in role volume) (found (place_of name table))

-- where it ran out in a command on the device of a name: nothing changed, or this holds of one volume
abbrev pub IsInVolume : (Volume → Volume → Type 0) → ℕ → Table → Table → Result Volume Refusal → Type 0
IsInVolume holds v old new (Err refusal) = ⊥
IsInVolume holds v old new (Ok volume) = (after : Volume) × holds volume after × (new ≡ put_volume v after old)

abbrev pub IsAtRole : (Role → Volume → Volume → Type 0) → Table → Table → Result Place Refusal → Type 0
IsAtRole holds old new (Err refusal) = ⊥
IsAtRole holds old new (Ok (Free i depth)) = ⊥
IsAtRole holds old new (Ok (In v role)) = IsInVolume (holds role) v old new (volume_at v old)

-- where memory or room ran out in a read: no device was changed
unfoldable pub IsReadStarved : List ℕ → ℕ → ℕ → Table → Table → Type 0
IsReadStarved name first count old new = IsAtRole (λ role. IsReadAsked count) old new (found (place_of name old))

-- nor in a flush
unfoldable pub IsFlushStarved : List ℕ → Table → Table → Type 0
IsFlushStarved name old new = IsAtRole (λ role. IsReadAsked 1) old new (found (place_of name old))

-- where memory or room ran out in a write: some first pieces stand
abbrev pub IsWriteStarvedBy : List ℕ → ℕ → List ℕ → Table → Table → Result ℕ Refusal → Type 0
IsWriteStarvedBy name first bytes old new (Err refusal) = ⊥
IsWriteStarvedBy name first bytes old new (Ok count) = IsAtRole (λ role. IsPartWritten role first count bytes) old new (found (place_of name old))

unfoldable pub IsWriteStarved : List ℕ → ℕ → List ℕ → Table → Table → Type 0
IsWriteStarved name first bytes old new = IsWriteStarvedBy name first bytes old new (whole bytes)
