-- To be believed: the replies to a job, by doc/proto.md of the NBD project: "Simple reply message", "Structured reply chunk
-- message". Of the commands that are served, a read alone has a structured reply.
use Rattle.std.specs.Prelude.{ℕ, Bool, false, List, ◌++◌, Option, Some, None, if◌then◌else◌}
use Rattle.nbd_messages.specs.declared.command.Command.{Command}
use Rattle.nbd_messages.specs.declared.errors.ErrorValue.{ErrorValue}
use Rattle.nbd_messages.specs.declared.request.Request.{Request}
use Rattle.nbd_messages.specs.Errors.{error_number}
use Rattle.nbd_messages.specs.Reading.{data_start, error_reply}
use Rattle.nbd_messages.specs.Replies.{simple_reply}
use Rattle.nbd_jobs.specs.Steps.{JobState, is_read}

-- the reply to a request that failed
abbrev pub failure_reply : Bool → ErrorValue → Request → List ℕ
failure_reply structured error request = error_reply (if is_read request.command then structured else false) (error_number error) request

-- the reply to a request that was done: a read's bytes follow it
abbrev pub bytes_reply : Bool → JobState → List ℕ
bytes_reply structured job = data_start structured job.request ++ job.bytes

abbrev pub done_reply : Command → Bool → JobState → List ℕ
done_reply command structured job = if is_read command then bytes_reply structured job else simple_reply 0 job.request.cookie

abbrev pub reply_by : Option ErrorValue → Bool → JobState → List ℕ
reply_by None structured job = done_reply job.request.command structured job
reply_by (Some error) structured job = failure_reply structured error job.request

abbrev pub reply_of : Bool → JobState → List ℕ
reply_of structured job = reply_by job.error structured job
