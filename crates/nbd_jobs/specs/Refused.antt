-- To be believed: which requests are served by an export that is read and written, by doc/proto.md of the NBD project:
-- "Request types", "Request flags", "Error values". That sectors are of 512 bytes, that a read or a write has at most 32 MiB,
-- and that flags which were not offered are invalid, is this project's choice; the first two are told with the export.
use Rattle.std.specs.Prelude.{◌==◌, ℕ, ◌+◌, ◌%◌, ◌&&◌, Bool, true, false, not, nat_lt, Option, Some, None, if◌then◌else◌}
use Rattle.nbd_messages.specs.declared.command.Command.{Command}
use Rattle.nbd_messages.specs.declared.command.Command.TheVariants.{Read, Write, Disconnect, Flush, Trim, WriteZeroes, BlockStatus, Other}
use Rattle.nbd_messages.specs.declared.errors.ErrorValue.{ErrorValue}
use Rattle.nbd_messages.specs.declared.errors.ErrorValue.TheVariants.{Invalid, NoSpace, NotSupported}
use Rattle.nbd_messages.specs.declared.request.Request.{Request}

-- the most bytes of a read or of a write
abbrev pub longest : ℕ
longest = 33_554_432

-- whole sectors, and one at least
abbrev pub is_whole : Request → Bool
is_whole request =
    if request.length == 0 then false else
    if request.length % 512 == 0 then request.offset % 512 == 0 else
    false

-- a range that is not whole is invalid; one past the end of so many bytes has an error of its own
abbrev pub range_refusal : ℕ → ErrorValue → Request → Option ErrorValue
range_refusal size past request =
    if is_whole request then (if nat_lt size (request.offset + request.length) then Some past else None) else
    Some Invalid

-- a read has no flags
abbrev pub read_refusal : ℕ → Request → Option ErrorValue
read_refusal size request =
    if nat_lt 0 request.flags then Some Invalid else
    if nat_lt longest request.length then Some Invalid else
    range_refusal size Invalid request

-- a write may have the flag FUA, 1
abbrev pub write_refusal : ℕ → Request → Option ErrorValue
write_refusal size request =
    if nat_lt 1 request.flags then Some Invalid else
    if nat_lt longest request.length then Some Invalid else
    range_refusal size NoSpace request

-- A write of zeros may have the flags FUA and NO_HOLE, 2. It has no bytes, so any length. One that is to be fast, by the flag
-- FAST_ZERO, 16, is not supported.
abbrev pub zeroes_refusal : ℕ → Request → Option ErrorValue
zeroes_refusal size request =
    if nat_lt 3 request.flags then (if nat_lt request.flags 16 then Some Invalid else Some NotSupported) else
    range_refusal size NoSpace request

-- a flush has no flags, and its range says nothing
abbrev pub flush_refusal : Request → Option ErrorValue
flush_refusal request = if nat_lt 0 request.flags then Some Invalid else None

-- Why a request is refused, by an export of so many bytes.
abbrev pub refusal_by : Command → ℕ → Request → Option ErrorValue
refusal_by Read size request = read_refusal size request
refusal_by Write size request = write_refusal size request
refusal_by Disconnect size request = Some Invalid
refusal_by Flush size request = flush_refusal request
refusal_by Trim size request = Some Invalid
refusal_by WriteZeroes size request = zeroes_refusal size request
refusal_by BlockStatus size request = Some Invalid
refusal_by Other size request = Some Invalid

abbrev pub refusal_of : ℕ → Request → Option ErrorValue
refusal_of size request = refusal_by request.command size request
