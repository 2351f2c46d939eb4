-- A read, a write or a flush of a volume in which nothing is in flight, whichever device drops writes: the request of each piece is
-- submitted, and events that are due are done until nothing is left to do, before the next. This project's own.
use Rattle.std.specs.Prelude.{◌≡◌, ◌⊎◌, ℕ, ◌*◌, true, List, [], ◌∷◌, ◌++◌, Option, Some, take, drop}
use Rattle.sector.specs.declared.refusal.Refusal.{Refusal}
use Rattle.sector.specs.declared.refusal.Refusal.TheVariants.{NoMemory}
use Rattle.device.specs.Layers.{Layer}
use Rattle.chunk.specs.Pieces.{Span}
use Rattle.plain_machine.specs.declared.event.Event.{Event}
use Rattle.plain_machine.specs.declared.event.Outcome.{Outcome}
use Rattle.plain_machine.specs.declared.request.Dev.{Dev}
use Rattle.plain_machine.specs.declared.request.Op.{Op}
use Rattle.plain_machine.specs.declared.request.Op.TheVariants.{Read, Write, Flush}
use Rattle.plain_machine.specs.declared.request.Reply.{Reply}
use Rattle.plain_machine.specs.declared.request.Reply.TheVariants.{Refused}
use Rattle.plain_machine.specs.declared.request.Failure.{Failure}
use Rattle.plain_machine.specs.declared.request.Failure.TheVariants.{Invalid}
use Rattle.plain_machine.specs.declared.request.Request.{Request}
use Rattle.plain_machine.specs.Failures.{refusal_of}
use Rattle.event_machine.specs.MergeDue.{due_all}
use Rattle.event_machine.specs.Submitting.{submitted}
use Rattle.whole_commands.specs.Commands.{bytes_in}
use Rattle.whole_commands.specs.Refusals.{IsStarved, is_starved}
use Rattle.volume.specs.Flying.{Fits}
use Rattle.volume.specs.Leaving.{is_quiet_of}
use Rattle.volume.specs.Moved.{moving_of}
use Rattle.volume.specs.Reaching.{IsRun}
use Rattle.volume.specs.Submitting.{IsAcceptedAs, IsRefusedAs}
use Rattle.volume.specs.Volumed.{Volumed, is_loud_in_all}
use Rattle.volume_commands.specs.Among.{IsRequestOf, flush_piece, sectors_of}
use Rattle.volume_commands.specs.Serving.{IsGood}
use Rattle.counted_volume.specs.DoneDue.{AreDone, IsDoneDue, told_by}

-- a request was accepted, and will be answered; or it was refused as one that failed
abbrev pub IsEntered : {B : Type 0} → (B → List ℕ) → (B → List Layer) → (B → ℕ) → Request → Failure → Volumed B → Volumed B → Type 0
IsEntered contents layers size request failure old new =
    ((number : ℕ) × (failure ≡ Invalid) × IsAcceptedAs contents layers request number old new) ⊎ IsRefusedAs contents layers size request (refusal_of failure) old new

-- Nothing was done, and this is the reply that was given before; or the event that was due first was, and then others.
abbrev pub IsLed : {B : Type 0} → (B → ℕ → List ℕ → Type 0) → (B → List ℕ) → (B → List Layer) → (B → ℕ) → (B → ℕ) → Reply → Reply → Volumed B → Volumed B → Type 0
IsLed holds contents layers faults size before after old new =
    ((new ≡ old) × (after ≡ before))
    ⊎ ((event : Event) × (outcome : Outcome) × (mid : Volumed _) × ((replied : Option Reply) → due_all (moving_of contents layers replied old) ≡ Some event) × IsDoneDue holds contents layers faults size event outcome old mid
    × AreDone holds contents layers faults size (told_by outcome before) after mid new)

-- A request was begun with: it was accepted, and where it waits for nothing answered at once; or it was refused as one that failed.
-- What stands for its reply is then its failure, or what it was answered.
pub record IsBegun {B : Type 0} (holds : B → ℕ → List ℕ → Type 0) (contents : B → List ℕ) (layers : B → List Layer) (faults size : B → ℕ) (request : Request) (reply : Reply) (old new : Volumed B) : Type 0 where
  pub failure : Failure
  pub number : ℕ
  pub mid : Volumed B
  pub entered : IsEntered contents layers size request failure old mid
  pub exact : submitted number request (moving_of contents layers (Some (Refused failure)) old) ≡ moving_of contents layers (Some (Refused failure)) mid
  pub did : AreDone holds contents layers faults size (Refused failure) reply mid new
  pub led : IsLed holds contents layers faults size (Refused failure) reply mid new
  pub run : IsRun contents layers (Some (Refused failure)) (Some reply) mid new
  pub still : is_quiet_of mid ≡ true → new ≡ mid
  pub loud : is_loud_in_all layers mid ≡ is_loud_in_all layers old

-- A request was answered: accepted, and then by an event; or refused. All that was due then was done, first what was due first.
pub record IsAnswered {B : Type 0} (holds : B → ℕ → List ℕ → Type 0) (contents : B → List ℕ) (layers : B → List Layer) (faults size : B → ℕ) (request : Request) (reply : Reply) (old new : Volumed B) : Type 0 where
  pub failure : Failure
  pub number : ℕ
  pub mid : Volumed B
  pub entered : IsEntered contents layers size request failure old mid
  pub exact : submitted number request (moving_of contents layers (Some (Refused failure)) old) ≡ moving_of contents layers (Some (Refused failure)) mid
  pub did : AreDone holds contents layers faults size (Refused failure) reply mid new
  pub led : IsLed holds contents layers faults size (Refused failure) reply mid new
  pub still : is_quiet_of mid ≡ true → new ≡ mid
  pub fits : Fits request.op request.range reply

-- a piece was done, with this reply
pub record IsPieceAnswered {B : Type 0} (holds : B → ℕ → List ℕ → Type 0) (contents : B → List ℕ) (layers : B → List Layer) (faults size : B → ℕ) (dev : Dev) (op : Op) (piece : Span) (reply : Reply) (old new : Volumed B) : Type 0 where
  pub request : Request
  pub asked : IsRequestOf dev op piece request
  pub good : IsGood reply
  pub answered : IsAnswered holds contents layers faults size request reply old new

-- a piece failed; or there was no room for its bytes, and nothing changed; or for its request
abbrev pub IsPieceUndone : {B : Type 0} → (B → ℕ → List ℕ → Type 0) → (B → List ℕ) → (B → List Layer) → (B → ℕ) → (B → ℕ) → Dev → Op → Span → Refusal → Volumed B → Volumed B → Type 0
IsPieceUndone holds contents layers faults size dev op piece refusal old new =
    ((refusal ≡ NoMemory) × (new ≡ old))
    ⊎ ((request : Request) × IsRequestOf dev op piece request × (failure : Failure) × (refusal ≡ refusal_of failure) × IsAnswered holds contents layers faults size request (Refused failure) old new)
    ⊎ ((request : Request) × IsRequestOf dev op piece request × (is_starved refusal ≡ true) × (IsStarved refusal old new ⊎ IsRefusedAs contents layers size request refusal old new))

-- these pieces were read, one after the other: as many bytes of each as it has
abbrev pub AreReadAtRest : {B : Type 0} → (B → ℕ → List ℕ → Type 0) → (B → List ℕ) → (B → List Layer) → (B → ℕ) → (B → ℕ) → Dev → List Span → List ℕ → Volumed B → Volumed B → Type 0
AreReadAtRest holds contents layers faults size dev [] bytes old new = (bytes ≡ []) × (new ≡ old)
AreReadAtRest holds contents layers faults size dev (piece ∷ pieces) bytes old new =
    (mid : Volumed _) × (reply : Reply) × (rest : List ℕ) × IsPieceAnswered holds contents layers faults size dev Read piece reply old mid
    × AreReadAtRest holds contents layers faults size dev pieces rest mid new × (bytes ≡ bytes_in reply ++ rest)

-- these were written, each its own of the bytes
abbrev pub AreWrittenAtRest : {B : Type 0} → (B → ℕ → List ℕ → Type 0) → (B → List ℕ) → (B → List Layer) → (B → ℕ) → (B → ℕ) → Dev → List Span → List ℕ → Volumed B → Volumed B → Type 0
AreWrittenAtRest holds contents layers faults size dev [] bytes old new = new ≡ old
AreWrittenAtRest holds contents layers faults size dev (piece ∷ pieces) bytes old new =
    (mid : Volumed _) × (reply : Reply) × IsPieceAnswered holds contents layers faults size dev (Write (take (512 * piece.count) bytes)) piece reply old mid
    × AreWrittenAtRest holds contents layers faults size dev pieces (drop (512 * piece.count) bytes) mid new

-- A read stopped: some first pieces were read, and one was not.
pub record IsReadCut {B : Type 0} (holds : B → ℕ → List ℕ → Type 0) (contents : B → List ℕ) (layers : B → List Layer) (faults size : B → ℕ) (dev : Dev) (pieces : List Span) (refusal : Refusal) (old new : Volumed B) : Type 0 where
  pub passed : List Span
  pub piece : Span
  pub rest : List Span
  pub cut : passed ++ piece ∷ rest ≡ pieces
  pub bytes : List ℕ
  pub mid : Volumed B
  pub did : AreReadAtRest holds contents layers faults size dev passed bytes old mid
  pub undone : IsPieceUndone holds contents layers faults size dev Read piece refusal mid new

-- or there was no room for its bytes, and nothing changed
abbrev pub IsReadUndone : {B : Type 0} → (B → ℕ → List ℕ → Type 0) → (B → List ℕ) → (B → List Layer) → (B → ℕ) → (B → ℕ) → Dev → List Span → Refusal → Volumed B → Volumed B → Type 0
IsReadUndone holds contents layers faults size dev pieces refusal old new = ((refusal ≡ NoMemory) × (new ≡ old)) ⊎ IsReadCut holds contents layers faults size dev pieces refusal old new

-- A write stopped likewise: at these sectors of its bytes.
pub record IsWriteCut {B : Type 0} (holds : B → ℕ → List ℕ → Type 0) (contents : B → List ℕ) (layers : B → List Layer) (faults size : B → ℕ) (dev : Dev) (pieces : List Span) (bytes : List ℕ) (refusal : Refusal) (old new : Volumed B) : Type 0 where
  pub passed : List Span
  pub piece : Span
  pub rest : List Span
  pub cut : passed ++ piece ∷ rest ≡ pieces
  pub mid : Volumed B
  pub did : AreWrittenAtRest holds contents layers faults size dev passed bytes old mid
  pub undone : IsPieceUndone holds contents layers faults size dev (Write (take (512 * piece.count) (drop (512 * sectors_of passed) bytes))) piece refusal mid new

-- a flush was done, by one request, whose sectors are not looked at; or it was not
abbrev pub IsFlushDone : {B : Type 0} → (B → ℕ → List ℕ → Type 0) → (B → List ℕ) → (B → List Layer) → (B → ℕ) → (B → ℕ) → Dev → Volumed B → Volumed B → Type 0
IsFlushDone holds contents layers faults size dev old new = (reply : Reply) × IsPieceAnswered holds contents layers faults size dev Flush flush_piece reply old new

abbrev pub IsFlushUndone : {B : Type 0} → (B → ℕ → List ℕ → Type 0) → (B → List ℕ) → (B → List Layer) → (B → ℕ) → (B → ℕ) → Dev → Refusal → Volumed B → Volumed B → Type 0
IsFlushUndone holds contents layers faults size dev refusal old new = IsPieceUndone holds contents layers faults size dev Flush flush_piece refusal old new
