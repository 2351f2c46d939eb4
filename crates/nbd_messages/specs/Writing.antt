-- To be believed: what a client asks for by the commands that write, by doc/proto.md of the NBD project: "Request types" and
-- "Request flags".
use Rattle.std.specs.Prelude.{◌==◌, ℕ, ◌+◌, ◌%◌, ◌/◌, Bool, true, false, List, ◌++◌, length, take, drop, replicate, if◌then◌else◌}
use Rattle.nbd_messages.specs.declared.command.Command.{Command}
use Rattle.nbd_messages.specs.declared.command.Command.TheVariants.{Read, Write, Disconnect, Flush, Trim, WriteZeroes, BlockStatus, Other}
use Rattle.nbd_messages.specs.declared.request.Request.{Request}

-- The flags of a request. FUA: what it writes is to last before it is answered. NO_HOLE: zeros are to take room. REQ_ONE: one
-- range is enough. FAST_ZERO: zeros are to be written faster than by a write of as many bytes, or not at all.
abbrev pub has_fua : ℕ → Bool
has_fua flags = flags % 2 == 1

abbrev pub has_no_hole : ℕ → Bool
has_no_hole flags = flags / 2 % 2 == 1

abbrev pub has_req_one : ℕ → Bool
has_req_one flags = flags / 8 % 2 == 1

abbrev pub has_fast_zero : ℕ → Bool
has_fast_zero flags = flags / 16 % 2 == 1

-- an array in which the bytes from one on are these
abbrev pub with_part : List ℕ → ℕ → List ℕ → List ℕ
with_part bytes at part = take at bytes ++ part ++ drop (at + length part) bytes

-- What an array is after a request with this payload: WRITE puts the payload at the offset, WRITE_ZEROES as many zeros as it has
-- length, and no other command changes a byte.
abbrev pub after_by : Command → Request → List ℕ → List ℕ → List ℕ
after_by Read request payload bytes = bytes
after_by Write request payload bytes = with_part bytes request.offset payload
after_by Disconnect request payload bytes = bytes
after_by Flush request payload bytes = bytes
after_by Trim request payload bytes = bytes
after_by WriteZeroes request payload bytes = with_part bytes request.offset (replicate request.length 0)
after_by BlockStatus request payload bytes = bytes
after_by Other request payload bytes = bytes

abbrev pub after_request : Request → List ℕ → List ℕ → List ℕ
after_request request payload bytes = after_by request.command request payload bytes

-- whether a command writes
abbrev pub writes : Command → Bool
writes Read = false
writes Write = true
writes Disconnect = false
writes Flush = false
writes Trim = false
writes WriteZeroes = true
writes BlockStatus = false
writes Other = false

-- A write with FUA is answered once what it wrote lasts; a FLUSH once all lasts that was answered before it arrived.
abbrev pub must_last : Request → Bool
must_last request = if writes request.command then has_fua request.flags else false

-- how many bytes follow a request's header: those that are to be written
abbrev pub payload_by : Command → ℕ → ℕ
payload_by Read length = 0
payload_by Write length = length
payload_by Disconnect length = 0
payload_by Flush length = 0
payload_by Trim length = 0
payload_by WriteZeroes length = 0
payload_by BlockStatus length = 0
payload_by Other length = 0

abbrev pub payload : Request → ℕ
payload request = payload_by request.command request.length
