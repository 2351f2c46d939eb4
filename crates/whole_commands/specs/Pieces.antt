-- To be believed: `run`'s output, a volume's steps or its attach are said in these words.
-- A read or a write of one piece of the origin or of a snapshot, or a flush of it: this project's own big step. The kernel's
-- admin-guide page on snapshots says in words which device a read or a write goes to.
use Rattle.std.specs.Prelude.{◌==◌, ◌&&◌, ◌||◌, not, ℕ, ◌+◌, ◌*◌, ◌/◌, ◌%◌, Bool, List, [], ◌∷◌, Option, Some, None, if◌then◌else◌}
use Rattle.sector.specs.Bytes.{with_sectors}
use Rattle.device.specs.declared.operation.Operation.TheVariants.{Reads, Writes, Flushes}
use Rattle.chunk.specs.Pieces.{Span}
use Rattle.cow_format.specs.Pairs.{pairs_of}
use Rattle.cow_format.specs.Picture.{place_of}
use Rattle.plain_machine.specs.Plain.{did_overflow, may_overflow}
use Rattle.plain_machine.specs.declared.request.Overflowing.TheVariants.{Did}
use Rattle.plain_machine.specs.declared.request.Reply.{Reply}
use Rattle.plain_machine.specs.declared.request.Reply.TheVariants.{Written, Refused}
use Rattle.plain_machine.specs.declared.request.Failure.TheVariants.{Invalid, Io, Overflow}
use Rattle.whole_commands.specs.Devices.{Device, answers, met, written_by, read_reply, flush_reply}
use Rattle.whole_commands.specs.Snaps.{Snap, Volume}
use Rattle.whole_commands.specs.Saving.{Saving, is_full, has_chunk, save}

-- what a request leaves, of a volume or of a part of one, and the reply
pub record Answered (S : Type 0) : Type 0 where
  pub state : S
  pub reply : Reply

-- The chunk that is wanted of each snapshot is saved in it, where it is live, in order of attaching. Only their reads of the
-- origin meet one another: a snapshot's other operations go to its own store.
abbrev pub save_at : (Snap → ℕ) → Device → List Snap → Volume
save_at wanted origin [] = record { origin = origin; snaps = [] }
save_at wanted origin (s ∷ snaps) =
    let here = save (wanted s) origin s in
    let rest = save_at wanted here.origin snaps in
    record { origin = rest.origin; snaps = here.snap ∷ rest.snaps }

-- the chunk of this sector of the origin is saved in each
abbrev pub save_all : ℕ → Device → List Snap → Volume
save_all first origin snaps = save_at (λ s. first / s.chunk) origin snaps

-- so many sectors are written to the origin's device
abbrev pub write_disk : Span → List ℕ → Volume → Answered Volume
write_disk piece bytes v =
    let write = Writes piece.first piece.count in record {
      state = record { origin = written_by v.origin write (with_sectors v.origin.bytes piece.first bytes); snaps = v.snaps };
      reply = if answers v.origin write then Written else Refused Io;
    }

-- a write of the origin
abbrev pub write_origin : Span → List ℕ → Volume → Answered Volume
write_origin piece bytes v = write_disk piece bytes (save_all piece.first v.origin v.snaps)

-- a read of the origin
abbrev pub read_origin : Span → Volume → Answered Volume
read_origin piece v = record {
  state = record { origin = met v.origin (Reads piece.first piece.count); snaps = v.snaps };
  reply = read_reply v.origin piece.first piece.count;
}

-- a flush of the origin: of its device
abbrev pub flush_origin : Volume → Answered Volume
flush_origin v = record { state = record { origin = met v.origin Flushes; snaps = v.snaps }; reply = flush_reply v.origin }

-- so many sectors are written to the store, by the place of their chunk's copy
abbrev pub write_place : Span → List ℕ → Device → Snap → Option ℕ → Answered Saving
write_place piece bytes origin s None = record { state = record { origin = origin; snap = s }; reply = Refused Invalid }
write_place piece bytes origin s (Some n) =
    let first = s.chunk * n + piece.first % s.chunk in
    let write = Writes first piece.count in record {
      state = record { origin = origin; snap = record s { store = written_by s.store write (with_sectors s.store.bytes first bytes) } };
      reply = if answers s.store write then Written else Refused Io;
    }

-- a write of a snapshot that takes it: its chunk is saved, and then it goes to the copy, or is answered Invalid where there is none
abbrev pub write_saved : Span → List ℕ → Saving → Answered Saving
write_saved piece bytes a =
    if a.snap.live then write_place piece bytes a.origin a.snap (place_of (pairs_of a.snap.chunk a.snap.store.bytes) (piece.first / a.snap.chunk))
    else record { state = a; reply = Refused Invalid }

-- whether a live snapshot takes no write of chunk c: its store overflowed, or overflows by it
abbrev pub shuts : ℕ → Snap → Bool
shuts c s = s.live && (did_overflow s.overflow || (may_overflow s.overflow && (not (has_chunk c s) && is_full s)))

-- its store overflowed
abbrev pub overflown : Snap → Snap
overflown s = record s { overflow = Did }

-- a write of a snapshot: one whose store overflowed, or that may overflow and does, takes none from then on
abbrev pub write_snap : Span → List ℕ → Device → Snap → Answered Saving
write_snap piece bytes origin s =
    if shuts (piece.first / s.chunk) s then record { state = record { origin = origin; snap = overflown s }; reply = Refused Overflow }
    else write_saved piece bytes (save (piece.first / s.chunk) origin s)

-- a read by the place of its chunk's copy: of the store, or of the origin without one
abbrev pub read_place : Span → Device → Snap → Option ℕ → Answered Saving
read_place piece origin s None = record {
  state = record { origin = met origin (Reads piece.first piece.count); snap = s };
  reply = read_reply origin piece.first piece.count;
}
read_place piece origin s (Some n) =
    let first = s.chunk * n + piece.first % s.chunk in record {
      state = record { origin = origin; snap = record s { store = met s.store (Reads first piece.count) } };
      reply = read_reply s.store first piece.count;
    }

-- a read of a snapshot
abbrev pub read_snap : Span → Device → Snap → Answered Saving
read_snap piece origin s =
    if s.live then read_place piece origin s (place_of (pairs_of s.chunk s.store.bytes) (piece.first / s.chunk))
    else record { state = record { origin = origin; snap = s }; reply = Refused Invalid }

-- a flush of a snapshot: of its store
abbrev pub flush_snap : Device → Snap → Answered Saving
flush_snap origin s =
    if s.live then record { state = record { origin = origin; snap = record s { store = met s.store Flushes } }; reply = flush_reply s.store }
    else record { state = record { origin = origin; snap = s }; reply = Refused Invalid }

-- a request to the snapshot of a number, the first that has it; Invalid where none has
abbrev pub in_snap : ℕ → (Device → Snap → Answered Saving) → Device → List Snap → Answered Volume
in_snap number serve origin [] = record { state = record { origin = origin; snaps = [] }; reply = Refused Invalid }
in_snap number serve origin (s ∷ snaps) =
    if s.number == number then (let a = serve origin s in record { state = record { origin = a.state.origin; snaps = a.state.snap ∷ snaps }; reply = a.reply })
    else (let a = in_snap number serve origin snaps in record { state = record { origin = a.state.origin; snaps = s ∷ a.state.snaps }; reply = a.reply })
