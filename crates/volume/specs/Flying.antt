-- To be believed: `run`'s output, a volume's steps or its attach are said in these words.
-- What an event does to the requests in flight, whatever the devices do. This project's own.
use Rattle.std.specs.Prelude.{◌≡◌, ℕ, ◌*◌, List, length, Some}
use Rattle.sector.specs.declared.range.Range.{Range}
use Rattle.plain_machine.specs.declared.event.Event.{Event}
use Rattle.plain_machine.specs.declared.event.Event.TheVariants.{Issue}
use Rattle.plain_machine.specs.declared.event.Outcome.{Outcome}
use Rattle.plain_machine.specs.declared.event.Outcome.TheVariants.{Done, Fault, Reply as Replied}
use Rattle.plain_machine.specs.declared.request.Op.{Op}
use Rattle.plain_machine.specs.declared.request.Op.TheVariants.{Read, Write, Flush}
use Rattle.plain_machine.specs.declared.request.Reply.{Reply}
use Rattle.plain_machine.specs.declared.request.Reply.TheVariants.{Data, Written, Flushed, Refused}
use Rattle.plain_machine.specs.declared.request.Request.{Request}
use Rattle.plain_machine.specs.Plain.{InFlight, asked_under, without}

-- A reply to what was asked: a read that is not refused is answered with as many bytes as its range has, a write and a
-- flush with none.
abbrev pub Fits : Op → Range → Reply → Type 0
Fits op range (Refused failure) = Unit {0}
Fits Read range (Data bytes) = length bytes ≡ 512 * range.count
Fits (Write bytes) range Written = Unit {0}
Fits Flush range Flushed = Unit {0}
Fits Read range Written = ⊥
Fits Read range Flushed = ⊥
Fits (Write bytes) range (Data read) = ⊥
Fits (Write bytes) range Flushed = ⊥
Fits Flush range (Data read) = ⊥
Fits Flush range Written = ⊥

-- the request with this number is answered and taken out, and every other one stays
pub record IsTakenOut (number : ℕ) (reply : Reply) (old new : List InFlight) : Type 0 where
  pub request : Request
  pub asked : asked_under number old ≡ Some request
  pub gone : new ≡ without number old
  pub fits : Fits request.op request.range reply

-- the request with this number is a flush, and it and every other one stay
pub record IsLeftGoing (number : ℕ) (old new : List InFlight) : Type 0 where
  pub request : Request
  pub asked : asked_under number old ≡ Some request
  pub flush : request.op ≡ Flush
  pub same : new ≡ old

-- Only Issue replies, under its request's number, and it always does, but for the first of a flush. No other event changes
-- which requests are in flight.
abbrev pub IsFlown : Event → Outcome → List InFlight → List InFlight → Type 0
IsFlown event (Replied number reply) old new = (event ≡ Issue number) × IsTakenOut number reply old new
IsFlown (Issue number) Done old new = IsLeftGoing number old new
IsFlown (Issue number) Fault old new = ⊥
IsFlown event outcome old new = new ≡ old
