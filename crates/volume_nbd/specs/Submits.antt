-- A piece that is handed on to a volume, and one that is not. This project's own.
use Rattle.std.specs.Prelude.{◌≡◌, ◌⊎◌, ℕ, ◌+◌, ◌*◌, ◌<◌, List, Result, Err, IfErr, replicate, sum_by, length}
use Rattle.device.specs.Layers.{Layer}
use Rattle.sector.specs.declared.refusal.Refusal.{Refusal}
use Rattle.plain_machine.specs.declared.request.Dev.{Dev}
use Rattle.plain_machine.specs.declared.request.Op.{Op}
use Rattle.plain_machine.specs.declared.request.Op.TheVariants.{Read, Write, Flush}
use Rattle.plain_machine.specs.declared.request.Request.{Request}
use Rattle.snapshot_list.specs.Numbers.{count_in}
use Rattle.nbd_jobs.specs.declared.work.Kind.{Kind}
use Rattle.nbd_jobs.specs.declared.work.Kind.TheVariants.{Read as AsksRead, Write as AsksWrite, Zeroes as AsksZeroes, Flush as AsksFlush}
use Rattle.nbd_jobs.specs.declared.work.Work.{Work}
use Rattle.nbd_messages.specs.declared.errors.ErrorValue.TheVariants.{Invalid, NoMemory}
use Rattle.nbd_backend.specs.declared.array.Refused.{Refused}
use Rattle.nbd_backend.specs.declared.array.Refused.TheVariants.{Full, Error}
use Rattle.volume.specs.DoesSubmit.{DoesSubmit}
use Rattle.volume.specs.Submitting.{IsRefusedAs}
use Rattle.volume.specs.Volumed.{Volumed}
use Rattle.volume_nbd.specs.Answers.{taken_as}
use Rattle.volume_nbd.specs.Looked.{IsLookedAt}

-- what is asked of the volume: zeros are written
abbrev pub op_of : Kind → ℕ → List ℕ → Op
op_of AsksRead count part = Read
op_of AsksWrite count part = Write part
op_of AsksZeroes count part = Write (replicate (512 * count) 0)
op_of AsksFlush count part = Flush

-- a request is of this piece, of this device, for an origin of so many sectors
pub record IsOf (chosen : Dev) (work : Work) (part : List ℕ) (sectors : ℕ) (request : Request) : Type 0 where
  pub dev : request.dev ≡ chosen
  pub op : request.op ≡ op_of work.kind work.count part
  pub first : request.range.first ≡ work.first
  pub count : request.range.count ≡ work.count
  pub sectors_are : request.range.size ≡ sectors

-- The volume was asked for just this piece, and what it answered is told. What a volume keeps true it keeps, and so what a stop then leaves is known.
pub record IsHandedOn {B : Type 0} (holds : B → ℕ → List ℕ → Type 0) (contents : B → List ℕ) (layers : B → List Layer) (size : B → ℕ) (chosen : Dev) (work : Work) (part : List ℕ) (result : Result ℕ Refused) (old new : Volumed B) : Type 0 where
  pub request : Request
  pub is : IsOf chosen work part (size old.origin) request
  pub answer : Result ℕ Refusal
  pub does : DoesSubmit contents layers size request answer old new
  pub reasons : IfErr answer (λ refusal. IsRefusedAs contents layers size request refusal old new)
  pub told : result ≡ taken_as answer
  pub looked : IsLookedAt holds contents layers size new

-- whether a write that starts a copy for each snapshot would find no room
abbrev pub IsCrowded : {B : Type 0} → Volumed B → Type 0
IsCrowded v = 256 < sum_by count_in v.snaps + length v.snaps

-- It was asked for nothing: there is no room now, the piece lies past the end, or memory was refused.
abbrev pub IsTurnedAway : {B : Type 0} → (B → ℕ) → Work → Result ℕ Refused → Volumed B → Type 0
IsTurnedAway size work result v =
    ((result ≡ Err Full) × IsCrowded v)
    ⊎ ((result ≡ Err (Error Invalid)) × (size v.origin < work.first + work.count))
    ⊎ (result ≡ Err (Error NoMemory))

abbrev pub DoesTakeIn : {B : Type 0} → (B → ℕ → List ℕ → Type 0) → (B → List ℕ) → (B → List Layer) → (B → ℕ) → Dev → Work → List ℕ → Result ℕ Refused → Volumed B → Volumed B → Type 0
DoesTakeIn holds contents layers size chosen work part result old new =
    IsHandedOn holds contents layers size chosen work part result old new ⊎ ((new ≡ old) × IsTurnedAway size work result old)
