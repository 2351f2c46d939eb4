-- What a client is told: an error of the protocol for each reason to refuse a request, and for each way in which it fails. The protocol
-- (doc/proto.md of the Network Block Device) says ENOSPC of a device that is full, EINVAL of what lies past its end, and ENOMEM; that all
-- else is EIO, and that what has no room now is asked again, is this project's choice.
use Rattle.std.specs.Prelude.{ℕ, Bool, true, false, List, [], Some, None, Result, Ok, Err}
use Rattle.sector.specs.declared.refusal.Refusal.{Refusal}
use Rattle.sector.specs.declared.refusal.Refusal.TheVariants.{OutOfRange, Overflow, TooMany, NoMemory as NoMemoryLeft}
use Rattle.plain_machine.specs.declared.event.Outcome.{Outcome}
use Rattle.plain_machine.specs.declared.event.Outcome.TheVariants.{Done, Fault, Reply as Replied}
use Rattle.plain_machine.specs.declared.request.Reply.TheVariants.{Data, Written, Flushed, Refused as Failed}
use Rattle.plain_machine.specs.declared.request.Failure.{Failure}
use Rattle.plain_machine.specs.declared.request.Failure.TheVariants.{Invalid as Spoiled, Io as DeviceFailed, Overflow as Overflowed}
use Rattle.nbd_messages.specs.declared.errors.ErrorValue.{ErrorValue}
use Rattle.nbd_messages.specs.declared.errors.ErrorValue.TheVariants.{Io, NoMemory, Invalid, NoSpace}
use Rattle.nbd_backend.specs.declared.array.Refused.{Refused}
use Rattle.nbd_backend.specs.declared.array.Refused.TheVariants.{Full, Error}
use Rattle.nbd_backend.specs.declared.array.Stepped.{Stepped}
use Rattle.nbd_backend.specs.declared.array.Stepped.TheVariants.{Done as StepDone, Idle, Back}

-- why a piece is not taken in, from the volume's refusal
abbrev pub refused_as : Refusal → Refused
refused_as TooMany = Full
refused_as Overflow = Error NoSpace
refused_as OutOfRange = Error Invalid
refused_as NoMemoryLeft = Error NoMemory
refused_as refusal = Error Io

-- what the volume answered
abbrev pub taken_as : Result ℕ Refusal → Result ℕ Refused
taken_as (Ok number) = Ok number
taken_as (Err refusal) = Err (refused_as refusal)

-- the error of a request that failed
abbrev pub error_as : Failure → ErrorValue
error_as Overflowed = NoSpace
error_as Spoiled = Io
error_as DeviceFailed = Io

-- a request that was done comes back with no error, or with one where a file under it left a write or a sync unanswered
abbrev pub back_with : Bool → ℕ → List ℕ → Stepped
back_with false number bytes = Back number bytes None
back_with true number bytes = Back number [] (Some Io)

-- an event that replies to nobody, and one for which nobody waits
abbrev pub done_as : Bool → Stepped
done_as false = StepDone
done_as true = Idle

-- What came of an event: only a reply comes back, under the request's number, a read's with all the bytes that the volume answered.
abbrev pub stepped_as : Bool → Bool → Outcome → Stepped
stepped_as idle failed Done = done_as idle
stepped_as idle failed Fault = done_as idle
stepped_as idle failed (Replied number (Data bytes)) = back_with failed number bytes
stepped_as idle failed (Replied number Written) = back_with failed number []
stepped_as idle failed (Replied number Flushed) = back_with failed number []
stepped_as idle failed (Replied number (Failed failure)) = Back number [] (Some (error_as failure))
