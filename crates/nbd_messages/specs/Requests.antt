-- To be believed: what a client says, by doc/proto.md of the NBD project: "Newstyle negotiation", "Option haggling" and
-- "Transmission", "Request message".
use Rattle.std.specs.Prelude.{◌==◌, ℕ, List, Option, Some, None, if◌then◌else◌}
use Rattle.nbd_messages.specs.Layout.{number_at}
use Rattle.nbd_messages.specs.declared.command.Command.{Command}
use Rattle.nbd_messages.specs.declared.command.Command.TheVariants.{Read, Write, Disconnect, Flush, Trim, WriteZeroes, BlockStatus, Other}
use Rattle.nbd_messages.specs.declared.request.Request.{Request}
use Rattle.nbd_messages.specs.declared.asked.Asked.{Asked}

-- which command a number asks for
abbrev pub command_of : ℕ → Command
command_of n =
    if n == 0 then Read else
    if n == 1 then Write else
    if n == 2 then Disconnect else
    if n == 3 then Flush else
    if n == 4 then Trim else
    if n == 6 then WriteZeroes else
    if n == 7 then BlockStatus else
    Other

-- A request's header of 28 bytes: the magic number, the flags, the command, the cookie under which it is answered, the
-- offset and the length.
abbrev pub request_in : List ℕ → Option Request
request_in bytes =
    if number_at bytes 0 4 == 0x2560_9513
    then Some (record { flags = number_at bytes 4 2; command = command_of (number_at bytes 6 2); cookie = number_at bytes 8 8; offset = number_at bytes 16 8; length = number_at bytes 24 4 })
    else None

-- An option's header of 16 bytes: the magic number, the option, and the length of the data that follow it.
abbrev pub asked_in : List ℕ → Option Asked
asked_in bytes =
    if number_at bytes 0 8 == 0x4948_4156_454f_5054
    then Some (record { option = number_at bytes 8 4; length = number_at bytes 12 4 })
    else None
