-- How far a connection has come: what was asked of it, what was answered, and what the array was asked.
use Rattle.std.specs.Prelude.{◌≡◌, ℕ, Bool, List, [], ◌∷◌, ◌++◌, map, Option, None, Result, OnOk}
use Rattle.std.specs.List.{All, flat_map}
use Rattle.std.specs.List.Sorted.{IsPermutation}
use Rattle.std.specs.Io.KnownBytes.{Appends, append_known}
use Rattle.nbd_backend.specs.Calls.{Call, Step}
use Rattle.nbd_backend.specs.declared.array.Stepped.TheVariants.{Ended}
use Rattle.nbd_write_session.specs.declared.line.Line.{Line}
use Rattle.nbd_write_session.specs.Answered.{IsMoment, IsReply, Reply}
use Rattle.nbd_write_session.specs.Asked.{Asks}
use Rattle.nbd_write_session.specs.Kept.{IsKept, IsSpent}
use Rattle.nbd_write_session.specs.Owed.{Owed, owing}
use Rattle.nbd_write_session.specs.Pieces.{asked_count, deals_of}
use Rattle.nbd_write_session.specs.Stream.{left}

-- What the client's bytes are that were not taken, how many requests were served, what is owed, what was said or is to be said, and the
-- calls of the array.
pub record Standing : Type 0 where
  pub rest : Option (List ℕ)
  pub given : ℕ
  pub due : List Owed
  pub told : Option (List ℕ)
  pub calls : List Call

-- where a connection stands, whose reader has these bytes left, whose writer holds those, and whose array was called so
abbrev pub standing : Line → Option (List ℕ) → Option (List ℕ) → List Call → Standing
standing line known contents calls = record {
  rest = left line.input known;
  given = line.jobs.given;
  due = owing line.jobs;
  told = append_known contents line.out.items;
  calls = calls;
}

-- The same as `Answers`, where the numbers of those that were served are such.
pub record Answering (structured : Bool) (chunk : ℕ) (calls : List Call) (spent : ℕ → Type 0) (before after : List Owed) (said : List ℕ) : Type 0 where
  pub replies : List Reply
  pub each : All (IsReply structured chunk calls) replies
  pub gone : All (λ r. r.owed.refusal ≡ None → spent r.owed.serial) replies
  pub are : said ≡ flat_map (λ r. r.said) replies
  pub one : IsPermutation before (map (λ r. r.owed) replies ++ after)

-- Requests were taken from the front of what was left, and of what is owed each has one reply in what was said, or is owed still.
pub record Goes (size : ℕ) (structured : Bool) (chunk : ℕ) (spent : ℕ → Type 0) (old new : Standing) : Type 0 where
  pub asked : List Owed
  pub said : List ℕ
  pub taken : Asks size old.given asked old.rest new.rest new.given
  pub told : Appends old.told new.told said
  pub called : IsMoment old.calls new.calls
  pub answers : Answering structured chunk new.calls spent (old.due ++ asked) new.due said

-- A connection goes on so. What was agreed on stays, and its jobs are what the calls say where they were so before. No piece is asked for
-- under a number of which no job is left.
pub record Moves (old new : Line) (reader reader' writer writer' : Option (List ℕ)) (calls calls' : List Call) : Type 0 where
  pub size : new.size ≡ old.size
  pub structured : new.structured ≡ old.structured
  pub chunk : new.chunk ≡ old.chunk
  pub kept : IsKept old.chunk old.jobs calls → IsKept new.chunk new.jobs calls'
  pub spent : (serial : ℕ) → IsSpent old.jobs serial → IsSpent new.jobs serial
  pub rests : (serial : ℕ) → IsSpent old.jobs serial → asked_count (deals_of serial calls') ≡ asked_count (deals_of serial calls)
  pub goes : IsKept old.chunk old.jobs calls → Goes old.size old.structured old.chunk (IsSpent new.jobs) (standing old reader writer calls) (standing new reader' writer' calls')

-- the same where nothing is said to the client, whatever is still to be heard, and nothing is asked of the array
abbrev pub MovesUnsaid : Line → Line → Type 0
MovesUnsaid old new = (known contents : Option (List ℕ)) (calls : List Call) → Moves old new known known contents contents calls calls

abbrev pub MovesUnsaidOnOk : {T E : Type 0} → Result T E → Line → Line → Type 0
MovesUnsaidOnOk result old new = OnOk result (MovesUnsaid old new)

-- where the array was not to be written any more
abbrev pub MovesEnded : Line → Line → Type 0
MovesEnded old new = (known contents : Option (List ℕ)) (calls : List Call) → Moves old new known known contents contents (Step Ended ∷ calls) (Step Ended ∷ calls)

-- where the array is called, and nothing is heard or said
abbrev pub MovesCalling : Line → Line → List Call → List Call → Type 0
MovesCalling old new calls calls' = (known contents : Option (List ℕ)) → Moves old new known known contents contents calls calls'

-- where something is said, and nothing is heard
abbrev pub MovesSaying : Line → Line → Option (List ℕ) → Option (List ℕ) → List Call → List Call → Type 0
MovesSaying old new writer writer' calls calls' = (known : Option (List ℕ)) → Moves old new known known writer writer' calls calls'

-- where something is heard, and nothing is said
abbrev pub MovesHearing : Line → Line → Option (List ℕ) → Option (List ℕ) → Type 0
MovesHearing old new reader reader' = (contents : Option (List ℕ)) (calls : List Call) → Moves old new reader reader' contents contents calls calls

-- a line without a job stays so
abbrev pub StaysFree : Line → Line → Type 0
StaysFree old new = old.jobs.jobs ≡ [] → new.jobs.jobs ≡ []

-- no job is left, and nothing is to be said
abbrev pub IsClear : Line → Type 0
IsClear line = (line.jobs.jobs ≡ []) × (line.out.items ≡ [])
