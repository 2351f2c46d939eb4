-- A read, a write or a flush of a volume with requests in flight: the request of each piece is accepted, and then all that is due
-- is done, before the next. This project's own.
use Rattle.std.specs.Prelude.{◌≡◌, ◌≢◌, ◌⊎◌, ◌==◌, ℕ, ◌+◌, ◌*◌, Bool, true, false, List, [], ◌∷◌, ◌++◌, take, drop, if◌then◌else◌}
use Rattle.sector.specs.declared.refusal.Refusal.{Refusal}
use Rattle.sector.specs.declared.refusal.Refusal.TheVariants.{NoSuchDevice, NoMemory, Invalid as InvalidRefusal}
use Rattle.device.specs.Layers.{Layer}
use Rattle.chunk.specs.Pieces.{Span, span_of, pieces_of}
use Rattle.plain_machine.specs.declared.request.Dev.{Dev}
use Rattle.plain_machine.specs.declared.request.Dev.TheVariants.{Origin, Snap as ToSnap}
use Rattle.plain_machine.specs.declared.request.Op.{Op}
use Rattle.plain_machine.specs.declared.request.Op.TheVariants.{Read, Write, Flush}
use Rattle.plain_machine.specs.declared.request.Reply.{Reply}
use Rattle.plain_machine.specs.declared.request.Reply.TheVariants.{Refused}
use Rattle.plain_machine.specs.declared.request.Failure.{Failure}
use Rattle.plain_machine.specs.declared.request.Request.{Request}
use Rattle.whole_commands.specs.Commands.{bytes_in}
use Rattle.whole_commands.specs.Refusals.{is_starved}
use Rattle.volume.specs.Volumed.{Volumed, piece_with}
use Rattle.volume.specs.Submitting.{IsAcceptedAs, IsRefusedAs}
use Rattle.plain_machine.specs.declared.request.Replied.{Replied}
use Rattle.volume_commands.specs.Rested.{Attached, Rested, rested_of, has_dev}
use Rattle.plain_machine.specs.Failures.{refusal_of}
use Rattle.volume_commands.specs.Serving.{IsGood}
use Rattle.volume_commands.specs.Draining.{IsDrainedApart, IsAnsweredAmong, is_idle_of}

-- whether a request's device is a snapshot that is live
abbrev pub live_in : {B : Type 0} → ℕ → List (Attached B) → Bool
live_in number [] = false
live_in number (s ∷ snaps) = if s.number == number then s.live else live_in number snaps

abbrev pub is_live_dev : {B : Type 0} → Dev → Rested B → Bool
is_live_dev Origin v = false
is_live_dev (ToSnap number) v = live_in number v.snaps

-- A request was accepted, and all that was due then was done, of a merge only until its reply: that, and those to others,
-- which come after those that were there.
pub record IsServedAmong {B : Type 0} (holds : B → ℕ → List ℕ → Type 0) (contents : B → List ℕ) (layers : B → List Layer) (faults size : B → ℕ) (request : Request) (reply : Reply) (old new : Volumed B) (before after : List Replied) : Type 0 where
  pub number : ℕ
  pub mid : Volumed B
  pub accepted : IsAcceptedAs contents layers request number old mid
  pub answered : IsAnsweredAmong holds contents layers faults size number reply mid new before after
  pub idle : is_idle_of contents layers new ≡ true

-- A request was refused. Only where it found its live snapshot's store full, and spoiled it, all that was due then was done, but for events of
-- a merge.
pub record IsTurnedAway {B : Type 0} (holds : B → ℕ → List ℕ → Type 0) (contents : B → List ℕ) (layers : B → List Layer) (faults size : B → ℕ) (request : Request) (refusal : Refusal) (old new : Volumed B) (before after : List Replied) : Type 0 where
  pub mid : Volumed B
  pub refused : IsRefusedAs contents layers size request refusal old mid
  pub drained : IsDrainedApart holds contents layers faults size mid new before after
  pub dead : is_live_dev request.dev (rested_of old) ≡ false → (new ≡ mid) × (after ≡ before)
  pub other : refusal ≢ InvalidRefusal → (new ≡ mid) × (after ≡ before)
  pub idle : is_live_dev request.dev (rested_of old) ≡ true → refusal ≡ InvalidRefusal → is_idle_of contents layers new ≡ true

-- or there was no room for it, and nothing changed
abbrev pub IsRefusedAmong : {B : Type 0} → (B → ℕ → List ℕ → Type 0) → (B → List ℕ) → (B → List Layer) → (B → ℕ) → (B → ℕ) → Request → Refusal → Volumed B → Volumed B → List Replied → List Replied → Type 0
IsRefusedAmong holds contents layers faults size request refusal old new before after =
    ((is_starved refusal ≡ true) × (new ≡ old) × (after ≡ before)) ⊎ IsTurnedAway holds contents layers faults size request refusal old new before after

-- the request of a piece
pub record IsRequestOf (dev : Dev) (op : Op) (piece : Span) (request : Request) : Type 0 where
  pub dev_is : request.dev ≡ dev
  pub op_is : request.op ≡ op
  pub range_is : span_of request.range ≡ piece

-- a piece was done, with this reply
pub record IsPieceServed {B : Type 0} (holds : B → ℕ → List ℕ → Type 0) (contents : B → List ℕ) (layers : B → List Layer) (faults size : B → ℕ) (dev : Dev) (op : Op) (piece : Span) (reply : Reply) (old new : Volumed B) (before after : List Replied) : Type 0 where
  pub request : Request
  pub asked : IsRequestOf dev op piece request
  pub good : IsGood reply
  pub served : IsServedAmong holds contents layers faults size request reply old new before after

-- a piece failed, or its request was refused, or there was no room for it, and then nothing changed
abbrev pub IsPieceFailed : {B : Type 0} → (B → ℕ → List ℕ → Type 0) → (B → List ℕ) → (B → List Layer) → (B → ℕ) → (B → ℕ) → Dev → Op → Span → Refusal → Volumed B → Volumed B → List Replied → List Replied → Type 0
IsPieceFailed holds contents layers faults size dev op piece refusal old new before after =
    ((is_starved refusal ≡ true) × (new ≡ old) × (after ≡ before))
    ⊎ ((request : Request) × IsRequestOf dev op piece request × (failure : Failure) × (refusal ≡ refusal_of failure) × IsServedAmong holds contents layers faults size request (Refused failure) old new before after)
    ⊎ ((request : Request) × IsRequestOf dev op piece request × IsTurnedAway holds contents layers faults size request refusal old new before after)

-- these pieces were read, one after the other: the bytes of each, no more than it has
abbrev pub AreReadAmong : {B : Type 0} → (B → ℕ → List ℕ → Type 0) → (B → List ℕ) → (B → List Layer) → (B → ℕ) → (B → ℕ) → Dev → List Span → List ℕ → Volumed B → Volumed B → List Replied → List Replied → Type 0
AreReadAmong holds contents layers faults size dev [] bytes old new before after = (bytes ≡ []) × (new ≡ old) × (after ≡ before)
AreReadAmong holds contents layers faults size dev (piece ∷ pieces) bytes old new before after =
    (mid : Volumed _) × (ended : List Replied) × (reply : Reply) × (rest : List ℕ) × IsPieceServed holds contents layers faults size dev Read piece reply old mid before ended
    × AreReadAmong holds contents layers faults size dev pieces rest mid new ended after × (bytes ≡ take (512 * piece.count) (bytes_in reply) ++ rest)

-- these were written, each its own of the bytes
abbrev pub AreWrittenAmong : {B : Type 0} → (B → ℕ → List ℕ → Type 0) → (B → List ℕ) → (B → List Layer) → (B → ℕ) → (B → ℕ) → Dev → List Span → List ℕ → Volumed B → Volumed B → List Replied → List Replied → Type 0
AreWrittenAmong holds contents layers faults size dev [] bytes old new before after = (new ≡ old) × (after ≡ before)
AreWrittenAmong holds contents layers faults size dev (piece ∷ pieces) bytes old new before after =
    (mid : Volumed _) × (ended : List Replied) × (reply : Reply) × IsPieceServed holds contents layers faults size dev (Write (take (512 * piece.count) bytes)) piece reply old mid before ended
    × AreWrittenAmong holds contents layers faults size dev pieces (drop (512 * piece.count) bytes) mid new ended after

-- A read stopped: some first pieces were read, and one failed.
pub record IsReadStopped {B : Type 0} (holds : B → ℕ → List ℕ → Type 0) (contents : B → List ℕ) (layers : B → List Layer) (faults size : B → ℕ) (dev : Dev) (pieces : List Span) (refusal : Refusal) (old new : Volumed B) (before after : List Replied) : Type 0 where
  pub passed : List Span
  pub piece : Span
  pub rest : List Span
  pub cut : passed ++ piece ∷ rest ≡ pieces
  pub bytes : List ℕ
  pub mid : Volumed B
  pub ended : List Replied
  pub did : AreReadAmong holds contents layers faults size dev passed bytes old mid before ended
  pub failed : IsPieceFailed holds contents layers faults size dev Read piece refusal mid new ended after

-- why a read is refused: its device is not there, or memory is refused, and nothing changed; or it stopped
abbrev pub IsReadRefusedAmong : {B : Type 0} → (B → ℕ → List ℕ → Type 0) → (B → List ℕ) → (B → List Layer) → (B → ℕ) → (B → ℕ) → Dev → List Span → Refusal → Rested B → Rested B → List Replied → List Replied → Type 0
IsReadRefusedAmong holds contents layers faults size dev pieces refusal old new before after =
    ((refusal ≡ NoSuchDevice) × (has_dev dev old ≡ false) × (new ≡ old) × (after ≡ before))
    ⊎ ((refusal ≡ NoMemory) × (has_dev dev old ≡ true) × (new ≡ old) × (after ≡ before))
    ⊎ ((has_dev dev old ≡ true) × IsReadStopped holds contents layers faults size dev pieces refusal old.events new.events before after)

-- A write stopped likewise: at these sectors of its bytes.
abbrev pub sectors_of : List Span → ℕ
sectors_of [] = 0
sectors_of (piece ∷ pieces) = piece.count + sectors_of pieces

pub record IsWriteStopped {B : Type 0} (holds : B → ℕ → List ℕ → Type 0) (contents : B → List ℕ) (layers : B → List Layer) (faults size : B → ℕ) (dev : Dev) (pieces : List Span) (bytes : List ℕ) (refusal : Refusal) (old new : Volumed B) (before after : List Replied) : Type 0 where
  pub passed : List Span
  pub piece : Span
  pub rest : List Span
  pub cut : passed ++ piece ∷ rest ≡ pieces
  pub mid : Volumed B
  pub ended : List Replied
  pub did : AreWrittenAmong holds contents layers faults size dev passed bytes old mid before ended
  pub failed : IsPieceFailed holds contents layers faults size dev (Write (take (512 * piece.count) (drop (512 * sectors_of passed) bytes))) piece refusal mid new ended after

abbrev pub IsWriteRefusedAmong : {B : Type 0} → (B → ℕ → List ℕ → Type 0) → (B → List ℕ) → (B → List Layer) → (B → ℕ) → (B → ℕ) → Dev → List Span → List ℕ → Refusal → Rested B → Rested B → List Replied → List Replied → Type 0
IsWriteRefusedAmong holds contents layers faults size dev pieces bytes refusal old new before after =
    ((refusal ≡ NoSuchDevice) × (has_dev dev old ≡ false) × (new ≡ old) × (after ≡ before))
    ⊎ ((has_dev dev old ≡ true) × IsWriteStopped holds contents layers faults size dev pieces bytes refusal old.events new.events before after)

-- the pieces of a range
abbrev pub pieces_among : {B : Type 0} → Span → Rested B → List Span
pieces_among span v = pieces_of (piece_with v.events.merge v.events.snaps) span

-- A flush was done, by one request, whose sectors are not looked at.
abbrev pub flush_piece : Span
flush_piece = record { first = 0; count = 1; size = 1 }

abbrev pub IsFlushedAmong : {B : Type 0} → (B → ℕ → List ℕ → Type 0) → (B → List ℕ) → (B → List Layer) → (B → ℕ) → (B → ℕ) → Dev → Volumed B → Volumed B → List Replied → List Replied → Type 0
IsFlushedAmong holds contents layers faults size dev old new before after = (reply : Reply) × IsPieceServed holds contents layers faults size dev Flush flush_piece reply old new before after

-- why a flush is refused: its device is not there, and nothing changed; or it failed
abbrev pub IsFlushRefusedAmong : {B : Type 0} → (B → ℕ → List ℕ → Type 0) → (B → List ℕ) → (B → List Layer) → (B → ℕ) → (B → ℕ) → Dev → Refusal → Rested B → Rested B → List Replied → List Replied → Type 0
IsFlushRefusedAmong holds contents layers faults size dev refusal old new before after =
    ((refusal ≡ NoSuchDevice) × (has_dev dev old ≡ false) × (new ≡ old) × (after ≡ before))
    ⊎ ((has_dev dev old ≡ true) × IsPieceFailed holds contents layers faults size dev Flush flush_piece refusal old.events new.events before after)
