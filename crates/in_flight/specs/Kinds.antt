-- To be believed: `run`'s output, a volume's steps or its attach are said in these words.
-- What a request is, and how callers see a request in flight: its number and what was asked, no route and no buffer.
use Rattle.std.specs.Prelude.{ℕ, ◌*◌, List, []}
use Rattle.plain_machine.specs.declared.request.Request.{Request}
use Rattle.plain_machine.specs.declared.request.Dev.{Dev}
use Rattle.plain_machine.specs.declared.request.Dev.TheVariants.{Origin, Snap}
use Rattle.plain_machine.specs.declared.request.Op.{Op}
use Rattle.plain_machine.specs.declared.request.Op.TheVariants.{Read, Write, Flush}
use Rattle.plain_machine.specs.Plain.{InFlight}
use Rattle.in_flight.specs.declared.flights.Kind.{Kind}
use Rattle.in_flight.specs.declared.flights.Kind.TheVariants.{OriginRead, OriginWrite, OriginFlush, SnapRead, SnapWrite, SnapFlush}
use Rattle.in_flight.specs.declared.flights.Flight.{Flight}

abbrev pub kind_at : Dev → Op → Kind
kind_at Origin Read = OriginRead
kind_at Origin (Write bytes) = OriginWrite
kind_at Origin Flush = OriginFlush
kind_at (Snap snap) Read = SnapRead snap
kind_at (Snap snap) (Write bytes) = SnapWrite snap
kind_at (Snap snap) Flush = SnapFlush snap

abbrev pub kind_of : Request → Kind
kind_of request = kind_at request.dev request.op

-- how many bytes a read of so many sectors answers; a write and a flush answer none
abbrev pub room_at : Op → ℕ → ℕ
room_at Read count = 512 * count
room_at (Write bytes) count = 0
room_at Flush count = 0

abbrev pub room_of : Request → ℕ
room_of request = room_at request.op request.range.count

-- the bytes that a write brings
abbrev pub bytes_at : Op → List ℕ
bytes_at Read = []
bytes_at (Write bytes) = bytes
bytes_at Flush = []

abbrev pub in_flight : Flight → InFlight
in_flight f = record { number = f.number; request = f.request }
