-- Each request that is submitted to a volume at rest settles to its big step; and a volume settles to one thing alone.
use Rattle.std.proofs.Common.{◌≡◌, ℕ, ◌+◌, ◌<◌, ◌≤◌, None, arith}
use Rattle.std.specs.List.{All}
use Rattle.sector.specs.declared.range.Range.{Range}
use Rattle.chunk.specs.Pieces.{span_of}
use Rattle.plain_machine.specs.declared.request.Request.{Request}
use Rattle.plain_machine.specs.declared.request.Dev.{Dev}
use Rattle.plain_machine.specs.declared.request.Dev.TheVariants.{Origin, Snap}
use Rattle.plain_machine.specs.declared.request.Op.{Op}
use Rattle.plain_machine.specs.declared.request.Op.TheVariants.{Read, Write, Flush}
use Rattle.whole_commands.specs.Pieces.{Answered}
use Rattle.event_machine.specs.Held.{Moving}
use Rattle.event_machine.specs.Due.{due}
use Rattle.event_machine.specs.Stepping.{stepped}
use Rattle.event_machine.specs.Submitting.{submitted}
use Rattle.event_machine.specs.Rest.{IsAtRest}
use Rattle.event_machine.specs.Settles.{settle, SettlesTo}
use Rattle.event_machine.specs.Requests.{volume_of, IsInChunk, IsFit}
use Rattle.whole_commands.specs.Requests.{answered_by, answer_of, FitsRange}
use Rattle.whole_command_laws.proofs.Ending.{by_one}
use Rattle.whole_command_laws.proofs.WritesSettle.{origin_write_settles}
use Rattle.whole_command_laws.proofs.ReadsSettle.{origin_read_settles, snap_read_settles}
use Rattle.whole_command_laws.proofs.FlushesSettle.{origin_flush_settles, snap_flush_settles}
use Rattle.whole_command_laws.proofs.SnapWritesSettle.{snap_write_settles}
use Rattle.whole_commands.specs.Snaps.{Volume}

settles_by : (sectors number : ℕ) (dev : Dev) (op : Op) (range : Range) (v : Moving) → IsAtRest sectors v → 0 < range.count → range.first + range.count ≤ sectors → FitsRange op range.count → All (IsInChunk range) v.snaps →
    SettlesTo sectors (submitted number (record { dev = dev; op = op; range = range }) v) (answered_by dev op (span_of range) (volume_of v))
settles_by sectors number Origin Read range v rest some inside bytes chunks = origin_read_settles sectors number range v rest
settles_by sectors number Origin (Write data_written) range v rest some inside bytes chunks = origin_write_settles sectors number range data_written v rest some inside bytes
settles_by sectors number Origin Flush range v rest some inside bytes chunks = origin_flush_settles sectors number range v rest
settles_by sectors number (Snap n) Read range v rest some inside bytes chunks = snap_read_settles sectors number n range v rest
settles_by sectors number (Snap n) (Write data_written) range v rest some inside bytes chunks = snap_write_settles sectors number n range data_written v rest (omega arith) bytes chunks
settles_by sectors number (Snap n) Flush range v rest some inside bytes chunks = snap_flush_settles sectors number n range v rest

-- the law of settling
pub request_settles : (sectors number : ℕ) (request : Request) (v : Moving) → IsAtRest sectors v → IsFit sectors v.snaps request → SettlesTo sectors (submitted number request v) (answer_of request (volume_of v))
request_settles sectors number request v rest fit = settles_by sectors number request.dev request.op request.range v rest fit.some fit.inside fit.bytes fit.chunks

-- what it settles to, in however many events
pub settles_one : (sectors fuel : ℕ) (u w : Moving) (answer : Answered Volume) (to : SettlesTo sectors u answer) → settle fuel u ≡ w → due w ≡ None → w ≡ to.last
settles_one sectors fuel u w answer to is quiet = by_one due stepped fuel to.fuel u w to.last to.ends is quiet
