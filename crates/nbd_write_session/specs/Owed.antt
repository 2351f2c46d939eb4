-- What is owed a client for its requests. The numbers are this project's own.
use Rattle.std.specs.Prelude.{ℕ, ◌+◌, List, [], map, take, drop, Option, Some, None}
use Rattle.nbd_messages.specs.declared.command.Command.{Command}
use Rattle.nbd_messages.specs.declared.command.Command.TheVariants.{Read, Write, Disconnect, Flush, Trim, WriteZeroes, BlockStatus, Other}
use Rattle.nbd_messages.specs.declared.errors.ErrorValue.{ErrorValue}
use Rattle.nbd_messages.specs.declared.request.Request.{Request}
use Rattle.nbd_messages.specs.Writing.{payload}
use Rattle.nbd_jobs.specs.Held.{Held}
use Rattle.nbd_jobs.specs.Refused.{refusal_of}
use Rattle.nbd_jobs.specs.Steps.{JobState}

-- A request that is owed a reply: why it is refused, if it is; its number among those that are served; and the bytes that it brings.
pub record Owed : Type 0 where
  pub request : Request
  pub refusal : Option ErrorValue
  pub serial : ℕ
  pub brought : List ℕ

-- what is owed a client for the request at the front of these bytes, by an export of so many bytes, where so many were served before
abbrev pub owed_for : ℕ → ℕ → Request → List ℕ → Owed
owed_for size given request bytes = record {
  request = request;
  refusal = refusal_of size request;
  serial = given + 1;
  brought = take (payload request) (drop 28 bytes);
}

-- how many are served with one that is refused, or is not
abbrev pub given_with : Option ErrorValue → ℕ → ℕ
given_with None given = given + 1
given_with (Some error) given = given

-- the bytes that a request brings, of those that its job keeps
abbrev pub brought_by : Command → List ℕ → List ℕ
brought_by Read bytes = []
brought_by Write bytes = bytes
brought_by Disconnect bytes = []
brought_by Flush bytes = []
brought_by Trim bytes = []
brought_by WriteZeroes bytes = []
brought_by BlockStatus bytes = []
brought_by Other bytes = []

-- what is owed for a job
abbrev pub served : JobState → Owed
served job = record { request = job.request; refusal = None; serial = job.serial; brought = brought_by job.request.command job.bytes }

-- what is owed for jobs
abbrev pub owing : Held → List Owed
owing held = map served held.jobs
