-- To be believed: what is said to a client beside the answers to options, by doc/proto.md of the NBD project: "Transmission".
-- Each request has one reply, in any order.
use Rattle.std.specs.Prelude.{◌≡◌, ℕ, ◌⊎◌, Bool, List, ◌∷◌, ◌++◌, map, replicate, Option, Some, None, MatchOption, if◌then◌else◌}
use Rattle.std.specs.List.{All, flat_map}
use Rattle.std.specs.List.Sorted.{IsPermutation}
use Rattle.nbd_messages.specs.declared.errors.ErrorValue.{ErrorValue}
use Rattle.nbd_messages.specs.declared.errors.ErrorValue.TheVariants.{Io}
use Rattle.nbd_messages.specs.declared.request.Request.{Request}
use Rattle.nbd_messages.specs.Reading.{data_start}
use Rattle.nbd_messages.specs.Replies.{simple_reply}
use Rattle.nbd_jobs.specs.Replied.{failure_reply}
use Rattle.nbd_jobs.specs.Steps.{is_read}
use Rattle.nbd_backend.specs.Calls.{Call, Step}
use Rattle.nbd_backend.specs.declared.array.Stepped.TheVariants.{Ended}
use Rattle.nbd_write_session.specs.Owed.{Owed}
use Rattle.nbd_write_session.specs.Pieces.{Deal, IsDone, asked_count, deals_of, error_in, laid}

-- the reply to a request that was done; these bytes follow it where it is a read
abbrev pub success_reply : Bool → Request → List ℕ → List ℕ
success_reply structured request bytes = if is_read request.command then data_start structured request ++ bytes else simple_reply 0 request.cookie

-- A request that failed: the first error of its pieces is told, or EIO where the array was not to be written any more.
pub record IsFailed (structured : Bool) (owed : Owed) (calls : List Call) (said : List ℕ) : Type 0 where
  pub error : ErrorValue
  pub is : said ≡ failure_reply structured error owed.request
  pub why : (error_in (deals_of owed.serial calls) ≡ Some error) ⊎ ((error ≡ Io) × ((earlier : List Call) × (calls ≡ Step Ended ∷ earlier)))

-- One that was done: all that it asks for is back without an error. A read is answered the bytes that came, each piece's at its place.
pub record IsAnswered (structured : Bool) (chunk : ℕ) (owed : Owed) (calls : List Call) (said : List ℕ) : Type 0 where
  pub done : IsDone chunk owed.request owed.serial owed.brought (deals_of owed.serial calls)
  pub good : error_in (deals_of owed.serial calls) ≡ None
  pub is : said ≡ success_reply structured owed.request (laid (replicate owed.request.length 0) (deals_of owed.serial calls))

abbrev pub IsServedReply : Bool → ℕ → Owed → List Call → List ℕ → Type 0
IsServedReply structured chunk owed calls said = IsFailed structured owed calls said ⊎ IsAnswered structured chunk owed calls said

-- The bytes are the reply that is owed, once these calls were made: that of its refusal where it is refused.
abbrev pub IsReplyTo : Bool → ℕ → Owed → List Call → List ℕ → Type 0
IsReplyTo structured chunk owed calls said =
    MatchOption owed.refusal (IsServedReply structured chunk owed calls said) (λ error. said ≡ failure_reply structured error owed.request)

-- these calls, of which the last stands first, were made at some time
abbrev pub IsMoment : List Call → List Call → Type 0
IsMoment moment calls = (later : List Call) × (calls ≡ later ++ moment)

-- the bytes of a reply, what it was owed for, and the calls when it was given
pub record Reply : Type 0 where
  pub owed : Owed
  pub moment : List Call
  pub said : List ℕ

-- It was given at a moment of these calls; no piece of what was served is asked for after that.
pub record IsReply (structured : Bool) (chunk : ℕ) (calls : List Call) (reply : Reply) : Type 0 where
  pub moment : IsMoment reply.moment calls
  pub is : IsReplyTo structured chunk reply.owed reply.moment reply.said
  pub last : reply.owed.refusal ≡ None → asked_count (deals_of reply.owed.serial calls) ≡ asked_count (deals_of reply.owed.serial reply.moment)

-- Of what was owed before, each has one reply in these bytes or is owed still, and the bytes are just these replies.
pub record Answers (structured : Bool) (chunk : ℕ) (calls : List Call) (before after : List Owed) (said : List ℕ) : Type 0 where
  pub replies : List Reply
  pub each : All (IsReply structured chunk calls) replies
  pub are : said ≡ flat_map (λ r. r.said) replies
  pub one : IsPermutation before (map (λ r. r.owed) replies ++ after)
