-- To be believed: `run`'s output, a volume's steps or its attach are said in these words.
-- A read or a write of many sectors, cut at the borders of chunks: the pieces one after the other, and the first that is not
-- done ends the command. That pieces before it stand is this project's own rule.
use Rattle.std.specs.Prelude.{ℕ, ◌*◌, List, [], ◌∷◌, ◌++◌, take, drop, min, length}
use Rattle.chunk.specs.Pieces.{Span, pieces_of}
use Rattle.plain_machine.specs.declared.request.Dev.{Dev}
use Rattle.plain_machine.specs.declared.request.Dev.TheVariants.{Origin, Snap as ToSnap}
use Rattle.plain_machine.specs.declared.request.Reply.{Reply}
use Rattle.plain_machine.specs.declared.request.Reply.TheVariants.{Data, Written, Flushed, Refused}
use Rattle.whole_commands.specs.Snaps.{Snap, Volume}
use Rattle.whole_commands.specs.Pieces.{Answered, write_origin, read_origin, flush_origin, write_snap, read_snap, flush_snap, in_snap}

abbrev pub write_piece : Dev → Span → List ℕ → Volume → Answered Volume
write_piece Origin piece bytes v = write_origin piece bytes v
write_piece (ToSnap number) piece bytes v = in_snap number (write_snap piece bytes) v.origin v.snaps

abbrev pub read_piece : Dev → Span → Volume → Answered Volume
read_piece Origin piece v = read_origin piece v
read_piece (ToSnap number) piece v = in_snap number (read_snap piece) v.origin v.snaps

-- a settled flush: it has no pieces
abbrev pub flushed : Dev → Volume → Answered Volume
flushed Origin v = flush_origin v
flushed (ToSnap number) v = in_snap number flush_snap v.origin v.snaps

-- a command goes on where its piece was done
abbrev pub go_on : {S : Type 0} → Reply → Answered S → Answered S → Answered S
go_on (Data bytes) here rest = rest
go_on Written here rest = rest
go_on Flushed here rest = rest
go_on (Refused failure) here rest = here

-- the pieces of a write, each with its part of the bytes
abbrev pub write_pieces : Dev → List Span → List ℕ → Volume → Answered Volume
write_pieces dev [] bytes v = record { state = v; reply = Written }
write_pieces dev (piece ∷ pieces) bytes v =
    let here = write_piece dev piece (take (512 * piece.count) bytes) v in
    go_on here.reply here (write_pieces dev pieces (drop (512 * piece.count) bytes) here.state)

-- the bytes that a reply has
abbrev pub bytes_in : Reply → List ℕ
bytes_in (Data bytes) = bytes
bytes_in Written = []
bytes_in Flushed = []
bytes_in (Refused failure) = []

-- the pieces of a read, after these bytes
abbrev pub read_pieces : Dev → List Span → List ℕ → Volume → Answered Volume
read_pieces dev [] before v = record { state = v; reply = Data before }
read_pieces dev (piece ∷ pieces) before v =
    let here = read_piece dev piece v in
    go_on here.reply here (read_pieces dev pieces (before ++ bytes_in here.reply) here.state)

-- requests go by the least chunk size of the attached snapshots, 1024 without one
abbrev pub piece_of : List Snap → ℕ
piece_of [] = 1024
piece_of (s ∷ snaps) = min s.chunk (piece_of snaps)

-- a settled write, and a settled read
unfoldable pub written : Dev → Span → List ℕ → Volume → Answered Volume
written dev span bytes v = write_pieces dev (pieces_of (piece_of v.snaps) span) bytes v

unfoldable pub read : Dev → Span → Volume → Answered Volume
read dev span v = read_pieces dev (pieces_of (piece_of v.snaps) span) [] v

-- the first pieces of a write, and those of a read
abbrev pub pieces_first : ℕ → Span → Volume → List Span
pieces_first count span v = take count (pieces_of (piece_of v.snaps) span)

abbrev pub written_first : ℕ → Dev → Span → List ℕ → Volume → Answered Volume
written_first count dev span bytes v = write_pieces dev (pieces_first count span v) bytes v

abbrev pub read_first : ℕ → Dev → Span → Volume → Answered Volume
read_first count dev span v = read_pieces dev (pieces_first count span v) [] v

-- how many pieces a range has
abbrev pub pieces_in : Span → Volume → ℕ
pieces_in span v = length (pieces_of (piece_of v.snaps) span)
