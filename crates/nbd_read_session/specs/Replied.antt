-- To be believed: what a request is answered, by doc/proto.md of the NBD project: "Simple reply message", "Structured reply
-- chunk message", "Request types", "Error values". Which requests are served is this project's choice where that page leaves
-- it open: flags that were not offered and lengths over 32 MiB are invalid.
use Rattle.std.specs.Prelude.{◌≡◌, ◌==◌, ℕ, ◌+◌, ◌≤◌, ◌||◌, Bool, true, false, List, [], ◌++◌, take, drop, nat_lt, Option, Some, None, if◌then◌else◌}
use Rattle.nbd_messages.specs.Reading.{data_start, error_reply}
use Rattle.nbd_messages.specs.Replies.{simple_reply, state_chunk}
use Rattle.nbd_messages.specs.declared.command.Command.{Command}
use Rattle.nbd_messages.specs.declared.command.Command.TheVariants.{Read, Write, Disconnect, Flush, Trim, WriteZeroes, BlockStatus, Other}
use Rattle.nbd_messages.specs.declared.request.Request.{Request}
use Rattle.nbd_options.specs.declared.session.Contexts.{Contexts}
use Rattle.nbd_read_session.specs.Blocks.{Array, asked_bytes, first_kind, first_alike, state_of, marked_for, mark_of}
use Rattle.nbd_read_session.specs.declared.describing.State.{State}
use Rattle.nbd_read_session.specs.declared.served.Fault.{Fault}
use Rattle.nbd_read_session.specs.declared.served.Fault.TheVariants.{Io, NoMemory}

-- the protocol's numbers of errors: EPERM, EIO, ENOMEM, EINVAL
abbrev pub not_permitted : ℕ
not_permitted = 1

abbrev pub invalid : ℕ
invalid = 22

abbrev pub fault_error : Fault → ℕ
fault_error Io = 5
fault_error NoMemory = 12

-- the longest read, 32 MiB
abbrev pub longest : ℕ
longest = 33_554_432

-- whether a read is invalid, of an export of so many bytes
abbrev pub is_invalid_read : ℕ → Request → Bool
is_invalid_read size request =
    if nat_lt 0 request.flags then true else
    if nat_lt longest request.length then true else
    nat_lt size (request.offset + request.length)

-- a read's bytes in a reply
abbrev pub data_reply : Bool → List ℕ → Request → List ℕ
data_reply structured bytes request = data_start structured request ++ take request.length (drop request.offset bytes)

-- what a good read is answered: the bytes, or the fault of what is served
abbrev pub given_reply : Bool → Option Fault → List ℕ → Request → List ℕ
given_reply structured None bytes request = data_reply structured bytes request
given_reply structured (Some fault) bytes request = error_reply structured (fault_error fault) request

abbrev pub read_reply : Bool → Option Fault → ℕ → List ℕ → Request → List ℕ
read_reply structured fault size bytes request =
    if is_invalid_read size request then error_reply structured invalid request else given_reply structured fault bytes request

-- Whether a request about blocks is invalid: of the flags there is one, that one range is enough; it asks about one byte at
-- least.
abbrev pub is_invalid_state : ℕ → Request → Bool
is_invalid_state size request =
    if request.length == 0 then true else
    if request.flags == 0 then nat_lt size (request.offset + request.length) else
    if request.flags == 8 then nat_lt size (request.offset + request.length) else
    true

-- The first range that a request asks about, and its state, in a context that was chosen: of the bytes that are zeros, and of
-- those that are marked.
abbrev pub zeros_in : List ℕ → State
zeros_in bytes = record { len = first_alike bytes; state = state_of (first_kind bytes) }

abbrev pub zeros_told : Bool → Array → Request → Option State
zeros_told false array request = None
zeros_told true array request = Some (zeros_in (asked_bytes request.offset request.length array.bytes))

abbrev pub marks_told : Bool → Array → Request → Option State
marks_told false array request = None
marks_told true array request = Some (record { len = marked_for array.marks (array.marks request.offset) request.length request.offset; state = mark_of (array.marks request.offset) })

-- a chunk for each context: 1 of zeros, 2 of marks
abbrev pub states_told : ℕ → Option State → Option State → List ℕ
states_told cookie None None = []
states_told cookie None (Some marks) = state_chunk true cookie 2 marks.len marks.state
states_told cookie (Some zeros) None = state_chunk true cookie 1 zeros.len zeros.state
states_told cookie (Some zeros) (Some marks) = state_chunk false cookie 1 zeros.len zeros.state ++ state_chunk true cookie 2 marks.len marks.state

-- what a good request about blocks is answered
abbrev pub given_state : Contexts → Bool → Option Fault → Array → Request → List ℕ
given_state contexts structured None array request = states_told request.cookie (zeros_told contexts.allocation array request) (marks_told contexts.bitmap array request)
given_state contexts structured (Some fault) array request = error_reply structured (fault_error fault) request

-- The same of any request: it is invalid where no context was chosen for this export.
abbrev pub state_reply : Contexts → Bool → Option Fault → ℕ → Array → Request → List ℕ
state_reply contexts structured fault size array request =
    if contexts.allocation || contexts.bitmap then (if is_invalid_state size request then error_reply structured invalid request else given_state contexts structured fault array request) else
    error_reply structured invalid request

-- What a request is answered, by an export of these bytes that is only read. Its own fault comes in place of a read's bytes.
abbrev pub reply_by : Command → Contexts → Bool → Option Fault → ℕ → Array → Request → List ℕ
reply_by Read contexts structured fault size array request = read_reply structured fault size array.bytes request
reply_by Write contexts structured fault size array request = simple_reply not_permitted request.cookie
reply_by Disconnect contexts structured fault size array request = []
reply_by Flush contexts structured fault size array request = simple_reply (if nat_lt 0 request.flags then invalid else 0) request.cookie
reply_by Trim contexts structured fault size array request = simple_reply not_permitted request.cookie
reply_by WriteZeroes contexts structured fault size array request = simple_reply not_permitted request.cookie
reply_by BlockStatus contexts structured fault size array request = state_reply contexts structured fault size array request
reply_by Other contexts structured fault size array request = simple_reply invalid request.cookie

abbrev pub reply_to : Contexts → Bool → Option Fault → ℕ → Array → Request → List ℕ
reply_to contexts structured fault size array request = reply_by request.command contexts structured fault size array request

-- a read of some of so many bytes, from one on, may fail
abbrev pub MayFail : (ℕ → ℕ → ℕ → Type 0) → ℕ → ℕ → ℕ → Type 0
MayFail may_fail export from count = (at : ℕ) × (n : ℕ) × (from ≤ at) × (at + n ≤ from + count) × may_fail export at n

-- an input error has a cause: a read of the bytes that are asked for, or of some of them, may fail
abbrev pub HasCause : (ℕ → ℕ → ℕ → Type 0) → ℕ → Option Fault → Request → Type 0
HasCause may_fail export fault request = fault ≡ Some Io → MayFail may_fail export request.offset request.length
