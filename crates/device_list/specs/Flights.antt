-- What calls do to a volume whatever is in flight in it: that of the volume of events behind its names.
use Rattle.std.specs.Prelude.{◌≡◌, ◌≢◌, ◌⊎◌, ◌≤◌, ℕ, true, List, Some, MatchResult, Result, map}
use Rattle.sector.specs.declared.refusal.Refusal.{Refusal}
use Rattle.chunk.specs.Pieces.{pieces_of}
use Rattle.layers.specs.declared.stack.Stack.{Stack}
use Rattle.layers.specs.Stack.{stack_contents, stack_layers, stack_size, stack_faults, stack_done, stack_may_hold}
use Rattle.plain_machine.specs.declared.event.Event.{Event}
use Rattle.plain_machine.specs.declared.event.Outcome.{Outcome}
use Rattle.plain_machine.specs.declared.request.Dev.{Dev}
use Rattle.plain_machine.specs.declared.request.Op.{Op}
use Rattle.plain_machine.specs.declared.request.Request.{Request}
use Rattle.plain_machine.specs.declared.request.Failure.{Failure}
use Rattle.plain_machine.specs.Failures.{refusal_of}
use Rattle.plain_machine.specs.Legal.{IsLegalStep}
use Rattle.whole_commands.specs.Refusals.{IsStarved, is_starved}
use Rattle.in_flight.specs.Kinds.{in_flight}
use Rattle.volume.specs.Volumed.{Volumed, is_due_of, is_loud_in_all, piece_with, plain_of}
use Rattle.volume.specs.Causes.{HasCause, IsOneAtMost}
use Rattle.volume.specs.Closing.{ClosesBy}
use Rattle.volume.specs.Exact.{IsExact}
use Rattle.volume.specs.Leaving.{is_quiet_of}
use Rattle.volume.specs.Finishing.{finish_refusal}
use Rattle.volume.specs.Stopping.{StopsVolume, array_of, given_by}
use Rattle.volume.specs.Submitting.{IsAcceptedAs, IsRefusedAs}
use Rattle.plain_machine.specs.declared.request.Replied.{Replied}
use Rattle.volume_commands.specs.Rested.{rested_of}
use Rattle.volume_commands.specs.Among.{IsRequestOf, AreReadAmong, AreWrittenAmong, IsFlushedAmong, IsFlushRefusedAmong, IsReadRefusedAmong, IsWriteRefusedAmong}
use Rattle.volume_commands.specs.AtRest.{AreReadAtRest, AreWrittenAtRest, IsFlushDone, IsFlushUndone, IsReadUndone, IsWriteCut}
use Rattle.volume_commands.specs.Closing.{IsClosed}
use Rattle.volume_commands.specs.Draining.{IsDrained}
use Rattle.command_semantics.specs.State.{Volume, merge_in}
use Rattle.command_semantics.specs.Sectors.{Asked}
use Rattle.device_list.specs.Held.{flying_in, merged_inside, settled_in}

-- A volume of events that stands behind a volume with names: the same devices, and the same in flight, and no more requests than
-- sectors that were asked for.
pub record IsBehind (events : Volumed Stack) (volume : Volume) : Type 0 where
  pub state : volume.state ≡ settled_in (rested_of events)
  pub merge : merge_in volume.merging ≡ (merged_inside (rested_of events)).merge
  pub quiet : volume.quiet ≡ is_quiet_of events
  pub flying : volume.flying ≡ flying_in events
  pub requests : events.requests ≤ volume.asked

-- this was done to the volume of events
pub record InEvents (holds : Volumed Stack → Volumed Stack → Type 0) (old new : Volume) : Type 0 where
  pub before : Volumed Stack
  pub after : Volumed Stack
  pub was : IsBehind before old
  pub is : IsBehind after new
  pub did : holds before after

-- what was asked for is in flight, under this number
abbrev pub Starts : Op → ℕ → Asked → Volumed Stack → Volumed Stack → Type 0
Starts op number asks before after = (request : Request) × IsRequestOf asks.dev op asks.span request × IsAcceptedAs stack_contents stack_layers request number before after

abbrev pub IsStarted : Op → ℕ → Volume → Volume → Asked → Type 0
IsStarted op number old new asks = InEvents (Starts op number asks) old new

-- or there was no room for it, or it was refused by the volume
abbrev pub Declines : Op → Refusal → Asked → Volumed Stack → Volumed Stack → Type 0
Declines op refusal asks before after =
    IsStarved refusal before after
    ⊎ ((request : Request) × IsRequestOf asks.dev op asks.span request × IsRefusedAs stack_contents stack_layers stack_size request refusal before after)

abbrev pub IsNotStarted : Op → Refusal → Volume → Volume → Asked → Type 0
IsNotStarted op refusal old new asks = InEvents (Declines op refusal asks) old new

-- an event that was due was done, with what a flush closes that it answers, and what a stop before, within or after it may leave
pub record IsEventDone (event : Event) (outcome : Outcome) (before after : Volumed Stack) : Type 0 where
  pub due : is_due_of stack_contents stack_layers before event ≡ true
  pub exact : IsExact stack_contents stack_layers event outcome before after
  pub legal : is_loud_in_all stack_layers before ≡ true → IsLegalStep (plain_of stack_contents stack_layers before) event outcome (plain_of stack_contents stack_layers after)
  pub cause : HasCause stack_faults event outcome before after
  pub one : IsOneAtMost stack_done before after
  pub closes : ClosesBy stack_may_hold stack_contents stack_layers stack_size event outcome (map in_flight before.flights) after
  pub stops : is_loud_in_all stack_layers before ≡ true → StopsVolume stack_may_hold stack_size (given_by event (map in_flight before.flights)) before after

abbrev pub IsStepped : Event → Outcome → Volume → Volume → Type 0
IsStepped event outcome old new = InEvents (IsEventDone event outcome) old new

-- an event is not due
pub record IsNotDue (event : Event) (volume : Volume) : Type 0 where
  pub events : Volumed Stack
  pub behind : IsBehind events volume
  pub not_due : is_due_of stack_contents stack_layers events event ≢ true

-- all that was due was done, up to where memory was refused
abbrev pub Settles : List Replied → List Replied → Volumed Stack → Volumed Stack → Type 0
Settles earlier later before after = IsDrained stack_may_hold stack_contents stack_layers stack_faults stack_size before after earlier later

abbrev pub IsSettledBy : List Replied → List Replied → Volume → Volume → Type 0
IsSettledBy earlier later old new = InEvents (Settles earlier later) old new

-- what was asked for was read or written, piece after piece, or a piece was refused
abbrev pub ReadsAmong : Result (List ℕ) Refusal → List Replied → List Replied → Asked → Volumed Stack → Volumed Stack → Type 0
ReadsAmong result earlier later asks before after =
    MatchResult result
    (λ bytes. AreReadAmong stack_may_hold stack_contents stack_layers stack_faults stack_size asks.dev (pieces_of (piece_with before.merge before.snaps) asks.span) bytes before after earlier later)
    (λ refusal. IsReadRefusedAmong stack_may_hold stack_contents stack_layers stack_faults stack_size asks.dev (pieces_of (piece_with before.merge before.snaps) asks.span) refusal (rested_of before) (rested_of after) earlier later)

abbrev pub IsReadServed : Result (List ℕ) Refusal → List Replied → List Replied → Volume → Volume → Asked → Type 0
IsReadServed result earlier later old new asks = InEvents (ReadsAmong result earlier later asks) old new

abbrev pub WritesAmong : List ℕ → Result (Unit {0}) Refusal → List Replied → List Replied → Asked → Volumed Stack → Volumed Stack → Type 0
WritesAmong bytes result earlier later asks before after =
    MatchResult result
    (λ done. AreWrittenAmong stack_may_hold stack_contents stack_layers stack_faults stack_size asks.dev (pieces_of (piece_with before.merge before.snaps) asks.span) bytes before after earlier later)
    (λ refusal. IsWriteRefusedAmong stack_may_hold stack_contents stack_layers stack_faults stack_size asks.dev (pieces_of (piece_with before.merge before.snaps) asks.span) bytes refusal (rested_of before) (rested_of after) earlier later)

abbrev pub IsWriteServed : List ℕ → Result (Unit {0}) Refusal → List Replied → List Replied → Volume → Volume → Asked → Type 0
IsWriteServed bytes result earlier later old new asks = InEvents (WritesAmong bytes result earlier later asks) old new

-- the device that was asked for was flushed, or its request was refused or failed
abbrev pub FlushesAmong : Result (Unit {0}) Refusal → List Replied → List Replied → Asked → Volumed Stack → Volumed Stack → Type 0
FlushesAmong result earlier later asks before after =
    MatchResult result
    (λ done. IsFlushedAmong stack_may_hold stack_contents stack_layers stack_faults stack_size asks.dev before after earlier later)
    (λ refusal. IsFlushRefusedAmong stack_may_hold stack_contents stack_layers stack_faults stack_size asks.dev refusal (rested_of before) (rested_of after) earlier later)

abbrev pub IsFlushServed : Result (Unit {0}) Refusal → List Replied → List Replied → Volume → Volume → Asked → Type 0
IsFlushServed result earlier later old new asks = InEvents (FlushesAmong result earlier later asks) old new

-- and the same of a volume in which nothing is in flight, whichever device drops writes
abbrev pub ReadsAtRest : Result (List ℕ) Refusal → Asked → Volumed Stack → Volumed Stack → Type 0
ReadsAtRest result asks before after =
    MatchResult result
    (λ bytes. AreReadAtRest stack_may_hold stack_contents stack_layers stack_faults stack_size asks.dev (pieces_of (piece_with before.merge before.snaps) asks.span) bytes before after)
    (λ refusal. IsReadUndone stack_may_hold stack_contents stack_layers stack_faults stack_size asks.dev (pieces_of (piece_with before.merge before.snaps) asks.span) refusal before after)

abbrev pub IsReadAtRest : Result (List ℕ) Refusal → Volume → Volume → Asked → Type 0
IsReadAtRest result old new asks = InEvents (ReadsAtRest result asks) old new

abbrev pub WritesAtRest : List ℕ → Result (Unit {0}) Refusal → Asked → Volumed Stack → Volumed Stack → Type 0
WritesAtRest bytes result asks before after =
    MatchResult result
    (λ done. AreWrittenAtRest stack_may_hold stack_contents stack_layers stack_faults stack_size asks.dev (pieces_of (piece_with before.merge before.snaps) asks.span) bytes before after)
    (λ refusal. IsWriteCut stack_may_hold stack_contents stack_layers stack_faults stack_size asks.dev (pieces_of (piece_with before.merge before.snaps) asks.span) bytes refusal before after)

abbrev pub IsWrittenAtRest : List ℕ → Result (Unit {0}) Refusal → Volume → Volume → Asked → Type 0
IsWrittenAtRest bytes result old new asks = InEvents (WritesAtRest bytes result asks) old new

-- where no device drops writes, it closes the array that was asked for
abbrev pub ClosesFor : Dev → Volumed Stack → Volumed Stack → Type 0
ClosesFor dev before after = is_loud_in_all stack_layers before ≡ true → IsClosed stack_may_hold stack_size after (array_of dev)

abbrev pub FlushesAtRest : Result (Unit {0}) Refusal → Asked → Volumed Stack → Volumed Stack → Type 0
FlushesAtRest result asks before after =
    MatchResult result
    (λ done. IsFlushDone stack_may_hold stack_contents stack_layers stack_faults stack_size asks.dev before after × ClosesFor asks.dev before after)
    (λ refusal. IsFlushUndone stack_may_hold stack_contents stack_layers stack_faults stack_size asks.dev refusal before after)

abbrev pub IsFlushedAtRest : Result (Unit {0}) Refusal → Volume → Volume → Asked → Type 0
IsFlushedAtRest result old new asks = InEvents (FlushesAtRest result asks) old new

-- Why a volume in which nothing is in flight refuses what may be asked of it, whichever device drops writes: memory or the room of
-- its journal ran out, or the request of a piece failed.
abbrev pub IsDenied : Refusal → Type 0
IsDenied refusal = (is_starved refusal ≡ true) ⊎ ((failure : Failure) × (refusal ≡ refusal_of failure))

-- a merge is not finished, for this reason
abbrev pub IsUnfinished : Refusal → Volume → Type 0
IsUnfinished refusal volume = (events : Volumed Stack) × IsBehind events volume × (finish_refusal events ≡ Some refusal)
