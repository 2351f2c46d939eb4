-- To be believed: how a request that was taken in comes to its reply, by doc/proto.md of the NBD project: "Request types",
-- NBD_CMD_FLUSH and NBD_CMD_FLAG_FUA. A read or a write is done in pieces, none of which lies in two chunks. It may be
-- answered once all are back. With FUA what it wrote is to last before it is answered: a flush follows its last piece. A FLUSH
-- asks that what was answered before it arrived lasts: one flush, which is begun after it arrived.
use Rattle.std.specs.Prelude.{◌≡◌, ◌≤◌, ◌==◌, ℕ, ◌+◌, ◌-◌, ◌*◌, ◌/◌, ◌%◌, ◌&&◌, Bool, true, false, min, List, [], ◌∷◌, ◌++◌, length, take, drop, nat_lt, Option, Some, None, is_some, if◌then◌else◌}
use Rattle.std.specs.List.{list_any}
use Rattle.nbd_messages.specs.declared.command.Command.{Command}
use Rattle.nbd_messages.specs.declared.command.Command.TheVariants.{Read, Write, Disconnect, Flush, Trim, WriteZeroes, BlockStatus, Other}
use Rattle.nbd_messages.specs.declared.errors.ErrorValue.{ErrorValue}
use Rattle.nbd_messages.specs.Writing.{must_last}
use Rattle.nbd_messages.specs.declared.request.Request.{Request}
use Rattle.nbd_jobs.specs.declared.job.Stage.{Stage}
use Rattle.nbd_jobs.specs.declared.job.Stage.TheVariants.{Moving, Lasting, Flushing, Done}
use Rattle.nbd_jobs.specs.declared.jobs.Piece.{Piece}
use Rattle.nbd_jobs.specs.declared.work.Kind.{Kind}
use Rattle.nbd_jobs.specs.declared.work.Kind.TheVariants.{Read as ToRead, Write as ToWrite, Zeroes as ToZero, Flush as ToFlush}
use Rattle.nbd_jobs.specs.declared.work.Work.{Work}

-- A request that is not answered yet: its number among all jobs of the connection, how far it has come, its first error, and what
-- a write brings or a read is answered.
pub record JobState : Type 0 where
  pub request : Request
  pub serial : ℕ
  pub stage : Stage
  pub error : Option ErrorValue
  pub bytes : List ℕ

-- bytes of which some were written over, from one on
abbrev pub with_bytes : List ℕ → ℕ → List ℕ → List ℕ
with_bytes bytes at part = take at bytes ++ part ++ drop (at + length part) bytes

-- the bytes that a job keeps: those that a read is answered, or that a write brings
abbrev pub room_by : Command → ℕ → ℕ
room_by Read length = length
room_by Write length = length
room_by Disconnect length = 0
room_by Flush length = 0
room_by Trim length = 0
room_by WriteZeroes length = 0
room_by BlockStatus length = 0
room_by Other length = 0

abbrev pub room_of : Request → ℕ
room_of request = room_by request.command request.length

-- the first sector of a request, and how many there are
abbrev pub first_of : Request → ℕ
first_of request = request.offset / 512

abbrev pub sectors_of : Request → ℕ
sectors_of request = request.length / 512

-- what is asked of the array for a command
abbrev pub kind_by : Command → Kind
kind_by Read = ToRead
kind_by Write = ToWrite
kind_by Disconnect = ToFlush
kind_by Flush = ToFlush
kind_by Trim = ToFlush
kind_by WriteZeroes = ToZero
kind_by BlockStatus = ToFlush
kind_by Other = ToFlush

-- the stage with which a job begins: a FLUSH is a flush alone
abbrev pub beginning : Command → Stage
beginning Read = Moving 0
beginning Write = Moving 0
beginning Disconnect = Lasting
beginning Flush = Lasting
beginning Trim = Lasting
beginning WriteZeroes = Moving 0
beginning BlockStatus = Lasting
beginning Other = Lasting

-- so many sectors were handed out, of so many at most
abbrev pub IsBegun : ℕ → Stage → Bool
IsBegun sectors (Moving sent) = nat_lt sent (sectors + 1)
IsBegun sectors Lasting = true
IsBegun sectors Flushing = true
IsBegun sectors Done = true

-- a stage of the job of this request
abbrev pub IsStageOf : Request → Stage → Type 0
IsStageOf request stage = IsBegun (sectors_of request) stage ≡ true

-- the sectors of the piece that begins at a sector, where so many are left of the request: up to the chunk's end
abbrev pub piece_len : ℕ → ℕ → ℕ → ℕ
piece_len chunk first left = min left (chunk - first % chunk)

-- the next piece of a request, which has a number, and of which so many sectors were handed out
abbrev pub next_piece : ℕ → Request → ℕ → ℕ → Work
next_piece chunk request serial sent = record {
  serial = serial;
  kind = kind_by request.command;
  first = first_of request + sent;
  count = piece_len chunk (first_of request + sent) (sectors_of request - sent);
  at = sent;
}

-- a flush for it, which has no range
abbrev pub a_flush : ℕ → Work
a_flush serial = record { serial = serial; kind = ToFlush; first = 0; count = 0; at = 0 }

-- a piece lies within so many bytes
abbrev pub IsWithin : ℕ → Work → Type 0
IsWithin bytes work = 512 * (work.at + work.count) ≤ bytes

-- where it is written, it does
abbrev pub IsInside : ℕ → Work → Type 0
IsInside bytes work = work.kind ≡ ToWrite → IsWithin bytes work

-- What is to be done next of a job, if anything.
abbrev pub work_at : ℕ → Request → ℕ → Stage → Option Work
work_at chunk request serial (Moving sent) = if nat_lt sent (sectors_of request) then Some (next_piece chunk request serial sent) else None
work_at chunk request serial Lasting = Some (a_flush serial)
work_at chunk request serial Flushing = None
work_at chunk request serial Done = None

abbrev pub has_work_at : Request → Stage → Bool
has_work_at request (Moving sent) = nat_lt sent (sectors_of request)
has_work_at request Lasting = true
has_work_at request Flushing = false
has_work_at request Done = false

abbrev pub has_work : JobState → Bool
has_work job = has_work_at job.request job.stage

abbrev pub is_done_at : Stage → Bool
is_done_at (Moving sent) = false
is_done_at Lasting = false
is_done_at Flushing = false
is_done_at Done = true

abbrev pub is_done : JobState → Bool
is_done job = is_done_at job.stage

-- how many sectors were handed out before the next piece
abbrev pub sent_of : Stage → ℕ
sent_of (Moving sent) = sent
sent_of Lasting = 0
sent_of Flushing = 0
sent_of Done = 0

-- a job in another stage, with another error, with other bytes
abbrev pub staged : JobState → Stage → JobState
staged job stage = record { request = job.request; serial = job.serial; stage = stage; error = job.error; bytes = job.bytes }

-- the stage once the next piece is handed out
abbrev pub handed_at : ℕ → Request → Stage → Stage
handed_at chunk request (Moving sent) = Moving (sent + piece_len chunk (first_of request + sent) (sectors_of request - sent))
handed_at chunk request Lasting = Flushing
handed_at chunk request Flushing = Flushing
handed_at chunk request Done = Done

abbrev pub handed : ℕ → JobState → JobState
handed chunk job = staged job (handed_at chunk job.request job.stage)

-- the stage once a piece is back, and others of the same job are out or not
abbrev pub settled_at : Bool → Request → Option ErrorValue → Stage → Stage
settled_at out request error (Moving sent) =
    if nat_lt sent (sectors_of request) then Moving sent else
    if out then Moving sent else
    if is_some error then Done else
    if must_last request then Lasting else
    Done
settled_at out request error Lasting = Lasting
settled_at out request error Flushing = Done
settled_at out request error Done = Done

abbrev pub settled : Bool → JobState → JobState
settled out job = staged job (settled_at out job.request job.error job.stage)

-- a job that failed: nothing more of it is handed out, and its first error stays
abbrev pub first_error : Option ErrorValue → ErrorValue → Option ErrorValue
first_error None error = Some error
first_error (Some first) error = Some first

abbrev pub stopped_at : Request → Stage → Stage
stopped_at request (Moving sent) = Moving (sectors_of request)
stopped_at request Lasting = Flushing
stopped_at request Flushing = Flushing
stopped_at request Done = Done

abbrev pub failed : ErrorValue → JobState → JobState
failed error job = record {
  request = job.request;
  serial = job.serial;
  stage = stopped_at job.request job.stage;
  error = first_error job.error error;
  bytes = job.bytes;
}

-- whether a request is answered bytes
abbrev pub is_read : Command → Bool
is_read Read = true
is_read Write = false
is_read Disconnect = false
is_read Flush = false
is_read Trim = false
is_read WriteZeroes = false
is_read BlockStatus = false
is_read Other = false

-- bytes with those of a piece, from a sector on, where they have their place in it
abbrev pub filled_bytes : ℕ → List ℕ → List ℕ → List ℕ
filled_bytes at part bytes = if nat_lt (length bytes) (512 * at + length part) then bytes else with_bytes bytes (512 * at) part

-- a job with the bytes of a piece; one that is no read keeps its own
abbrev pub filled : ℕ → List ℕ → JobState → JobState
filled at part job = record {
  request = job.request;
  serial = job.serial;
  stage = job.stage;
  error = job.error;
  bytes = if is_read job.request.command then filled_bytes at part job.bytes else job.bytes;
}

-- whether a piece of a job is out
abbrev pub is_out : List Piece → ℕ → Bool
is_out pieces serial = list_any (λ p. p.serial == serial) pieces
