-- What came of a look for the next request.
use Rattle.std.specs.Prelude.{◌≡◌, ℕ, ◌+◌, Bool, true, false, ⊤, List, [], ◌∷◌, ◌++◌, replicate, slice_range, Result, IfOk}
use Rattle.nbd_messages.specs.declared.command.Command.{Command}
use Rattle.nbd_messages.specs.declared.command.Command.TheVariants.{Read, Write, Disconnect, Flush, Trim, WriteZeroes, BlockStatus, Other}
use Rattle.nbd_messages.specs.declared.request.Request.{Request}
use Rattle.nbd_messages.specs.Writing.{payload}
use Rattle.nbd_jobs.specs.Held.{Held, opened}
use Rattle.nbd_write_session.specs.Asked.{IsOver}
use Rattle.nbd_write_session.specs.Stream.{Stream, dropped, rest_of}
use Rattle.nbd_write_session.specs.declared.line.Line.{Line}
use Rattle.nbd_write_session.specs.declared.taking.Took.{Took}
use Rattle.nbd_write_session.specs.declared.taking.Took.TheVariants.{One, None, Full, Over}

-- whether one was taken in
abbrev pub is_one : Took → Bool
is_one One = true
is_one None = false
is_one Full = false
is_one Over = false

-- what a job keeps of a request with this payload: the bytes that a write brings, and room for those that a read is answered
abbrev pub kept_by : Command → ℕ → List ℕ → List ℕ
kept_by Read length payload = replicate length 0
kept_by Write length payload = payload
kept_by Disconnect length payload = replicate 0 0
kept_by Flush length payload = replicate 0 0
kept_by Trim length payload = replicate 0 0
kept_by WriteZeroes length payload = replicate 0 0
kept_by BlockStatus length payload = replicate 0 0
kept_by Other length payload = replicate 0 0

-- A request and its payload are taken from the front of what was heard, and the request is a job behind all others.
abbrev pub IsTakenIn : Request → Stream → Stream → Held → Held → Type 0
IsTakenIn request input input' jobs jobs' =
    (input' ≡ dropped (28 + payload request) input)
    × (jobs'.out ≡ jobs.out)
    × (jobs'.given ≡ jobs.given + 1)
    × (jobs'.jobs ≡ jobs.jobs ++ opened request (jobs.given + 1) (kept_by request.command request.length (slice_range input.heard 28 (28 + payload request))) ∷ [])

-- Where none is there as a whole, nothing more is asked if nothing more comes; where the client goes, whatever comes.
abbrev pub IsOverAt : ℕ → Took → Stream → Type 0
IsOverAt size One input = ⊤
IsOverAt size None input = IsOver size (rest_of input [])
IsOverAt size Full input = ⊤
IsOverAt size Over input = (bytes : List ℕ) → IsOver size (rest_of input bytes)

-- so it is with a line behind a look at it, where the look did not fail
abbrev pub IsOverAfter : {E : Type 0} → Result Took E → Line → Type 0
IsOverAfter result line = IfOk result (λ took. IsOverAt line.size took line.input)
