-- The writes and flushes of a load, in their order. That area 0 of a fresh store comes before its header, that a tail is
-- cleared, and that a flush comes before each write and after the last, is this project's own choice; the bytes are those of
-- dm-snap-persistent.c.
use Rattle.std.specs.Prelude.{ℕ, ◌+◌, ◌-◌, ◌*◌, Bool, true, false, if◌then◌else◌, List, replicate}
use Rattle.sector.specs.Bytes.{with_part, with_sectors}
use Rattle.cow_format.specs.Places.{area_place}
use Rattle.cow_header.specs.HeaderText.{header_bytes}
use Rattle.store.specs.Slots.{slot_start}
use Rattle.store.specs.declared.state.Left.{Left}
use Rattle.store.specs.declared.state.Left.TheVariants.{FirstArea, HeaderChunk, Tail, Nothing}
use Rattle.store.specs.declared.state.State.{State}

-- whether area 0 is there: it is not yet in a fresh store
abbrev pub is_begun : Left → Bool
is_begun FirstArea = false
is_begun HeaderChunk = true
is_begun Tail = true
is_begun Nothing = true

-- whether the current area is on the store as it is in memory
abbrev pub is_settled : Left → Bool
is_settled FirstArea = false
is_settled HeaderChunk = true
is_settled Tail = false
is_settled Nothing = true

-- whether a write is left
abbrev pub is_left : Left → Bool
is_left FirstArea = true
is_left HeaderChunk = true
is_left Tail = true
is_left Nothing = false

-- what is left after the next write
abbrev pub after_write : Left → Left
after_write FirstArea = HeaderChunk
after_write HeaderChunk = Nothing
after_write Tail = Nothing
after_write Nothing = Nothing

-- the chunk that the next write goes to
abbrev pub chunk_left : Left → State → ℕ
chunk_left FirstArea s = area_place s.chunk s.current
chunk_left HeaderChunk s = 0
chunk_left Tail s = area_place s.chunk s.current
chunk_left Nothing s = 0

-- the store's bytes after the next write: area 0 is zeroed, the header is written, or the area's bytes after its first
-- empty slot are zeroed
abbrev pub with_left : Left → State → List ℕ → List ℕ
with_left FirstArea s bytes = with_sectors bytes (s.chunk * area_place s.chunk s.current) (replicate (512 * s.chunk) 0)
with_left HeaderChunk s bytes = with_sectors bytes 0 (header_bytes (512 * s.chunk) true s.chunk)
with_left Tail s bytes = with_part bytes (slot_start s.chunk s.current (s.filled + 1)) (replicate (512 * s.chunk - 16 * (s.filled + 1)) 0)
with_left Nothing s bytes = bytes

-- a store with so many pairs after the load's next operation: the flush that it awaits, or else the write that is left
abbrev pub after_prepare : State → ℕ → State
after_prepare s count = if s.awaits then record s { awaits = false; sure = count } else record s { left = after_write s.left; awaits = is_left s.left }

-- and its bytes
abbrev pub with_prepared : State → List ℕ → List ℕ
with_prepared s bytes = if s.awaits then bytes else with_left s.left s bytes
