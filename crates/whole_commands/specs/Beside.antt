-- To be believed: `run`'s output, a volume's steps or its attach are said in these words.
-- A settled read, write or flush of a volume, whether a merge is begun or not: each is one of the settled machine's two big
-- steps.
-- This project's own.
use Rattle.std.specs.Prelude.{ℕ, List, [], length, take, Option, Some, None}
use Rattle.chunk.specs.Pieces.{Span, pieces_of}
use Rattle.plain_machine.specs.declared.request.Dev.{Dev}
use Rattle.whole_commands.specs.Snaps.{Volume}
use Rattle.whole_commands.specs.Pieces.{Answered}
use Rattle.whole_commands.specs.Commands.{piece_of, written, read, flushed, written_first, read_first}
use Rattle.whole_commands.specs.Merges.{Merge, Merged, Merging, merged_of, least_chunk, write_parts, read_parts, written_through, read_through, flushed_through}

-- what is answered where no merge is begun, and beside one
abbrev pub alone : Answered Volume → Answered Merged
alone a = record { state = record { volume = a.state; merge = None }; reply = a.reply }

abbrev pub beside : Answered Merging → Answered Merged
beside r = record { state = merged_of r.state; reply = r.reply }

-- one command as it is without a merge, and as it is with one
abbrev pub served_by : (Volume → Answered Volume) → (Merging → Answered Merging) → Option Merge → Volume → Answered Merged
served_by without through None v = alone (without v)
served_by without through (Some g) v = beside (through (record { volume = v; merge = g }))

abbrev pub served : (Volume → Answered Volume) → (Merging → Answered Merging) → Merged → Answered Merged
served without through m = served_by without through m.merge m.volume

-- a settled write, and a settled read
unfoldable pub written_beside : Dev → Span → List ℕ → Merged → Answered Merged
written_beside dev span bytes m = served (written dev span bytes) (written_through dev span bytes) m

unfoldable pub read_beside : Dev → Span → Merged → Answered Merged
read_beside dev span m = served (read dev span) (read_through dev span) m

-- and a settled flush
unfoldable pub flushed_beside : Dev → Merged → Answered Merged
flushed_beside dev m = served (flushed dev) (flushed_through dev) m

-- the chunk size that ranges are cut by, and the pieces of a range
abbrev pub chunk_by : Option Merge → Volume → ℕ
chunk_by None v = piece_of v.snaps
chunk_by (Some g) v = least_chunk (record { volume = v; merge = g })

abbrev pub chunk_beside : Merged → ℕ
chunk_beside m = chunk_by m.merge m.volume

abbrev pub pieces_beside : Span → Merged → List Span
pieces_beside span m = pieces_of (chunk_beside m) span

abbrev pub count_beside : Span → Merged → ℕ
count_beside span m = length (pieces_beside span m)

-- the first pieces of a write, and those of a read
abbrev pub written_first_through : ℕ → Dev → Span → List ℕ → Merging → Answered Merging
written_first_through count dev span bytes m = write_parts dev (take count (pieces_of (least_chunk m) span)) bytes m

abbrev pub read_first_through : ℕ → Dev → Span → Merging → Answered Merging
read_first_through count dev span m = read_parts dev (take count (pieces_of (least_chunk m) span)) [] m

abbrev pub written_first_beside : ℕ → Dev → Span → List ℕ → Merged → Answered Merged
written_first_beside count dev span bytes m = served (written_first count dev span bytes) (written_first_through count dev span bytes) m

abbrev pub read_first_beside : ℕ → Dev → Span → Merged → Answered Merged
read_first_beside count dev span m = served (read_first count dev span) (read_first_through count dev span) m
