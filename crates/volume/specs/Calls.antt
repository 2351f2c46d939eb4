-- What a call does to a volume, in phrases over the volume as the call begins and at its return. This project's own.
use Rattle.std.specs.Prelude.{◌≡◌, ◌⊎◌, ℕ, Bool, IfErr, IfNone, IfOk, List, None, OnOk, Result, Some, map, true}
use Rattle.sector.specs.declared.refusal.Refusal.{Refusal}
use Rattle.sector.specs.declared.refusal.Refusal.TheVariants.{Invalid, NoMemory, NoSuchDevice, Overflow}
use Rattle.device.specs.declared.block.Block as Block
use Rattle.plain_machine.specs.declared.event.Event.TheVariants.{Issue}
use Rattle.plain_machine.specs.declared.event.Outcome.{Outcome}
use Rattle.plain_machine.specs.declared.request.Request.{Request}
use Rattle.in_flight.specs.Kinds.{in_flight}
use Rattle.volume.specs.Asking.{HasNone}
use Rattle.volume.specs.Closing.{ClosesBy}
use Rattle.volume.specs.DoesServe.{DoesServe}
use Rattle.volume.specs.DoesSubmit.{DoesSubmit}
use Rattle.volume.specs.Exact.{IsExact}
use Rattle.volume.specs.Lasting.{StopsSnaps}
use Rattle.volume.specs.Leaving.{is_quiet_of}
use Rattle.volume.specs.MergeLasting.{StopsOriginOn}
use Rattle.volume.specs.Stepping.{IsStepped}
use Rattle.volume.specs.Stopping.{given_by}
use Rattle.volume.specs.Submitting.{IsAcceptedAs, IsFoundFull, IsOverflown, IsRefusedAs, SameButRoom}
use Rattle.volume.specs.Volumed.{Volumed}
use Rattle.volume.specs.Ways.{IsWayOf}
use Rattle.volume.specs.declared.at_once.Served.{Served}
use Rattle.volume.specs.declared.ways.Way.{Way}

-- where the call does not fail, a stop may leave of each snapshot, and of the origin, what it might before, and nothing else
abbrev pub SnapsLast : {B A E : Type 0} → Block.Ghosts B → Result A E → Volumed B → Volumed B → Type 0
SnapsLast b result old new = OnOk result (StopsSnaps b.may_hold b.layers b.size None old new)

abbrev pub OriginLasts : {B A E : Type 0} → Block.Ghosts B → Result A E → Volumed B → Volumed B → Type 0
OriginLasts b result old new = OnOk result (StopsOriginOn b.may_hold b.layers b.size None old.origin new.origin old.merge new.merge)

-- the same of an Issue, beside what its request gives
abbrev pub SnapsLastBy : {B : Type 0} → Block.Ghosts B → ℕ → Volumed B → Volumed B → Type 0
SnapsLastBy b number old new = StopsSnaps b.may_hold b.layers b.size (given_by (Issue number) (map in_flight old.flights)) old new

abbrev pub OriginLastsBy : {B : Type 0} → Block.Ghosts B → ℕ → Volumed B → Volumed B → Type 0
OriginLastsBy b number old new = StopsOriginOn b.may_hold b.layers b.size (given_by (Issue number) (map in_flight old.flights)) old.origin new.origin old.merge new.merge

-- an Issue is a step of a volume; it is the event machine's; and one that answers a flush closes the flush's array
abbrev pub IssueSteps : {B : Type 0} → Block.Ghosts B → ℕ → Outcome → Volumed B → Volumed B → Type 0
IssueSteps b number outcome old new = IsStepped b.contents b.layers b.size b.fault_count b.done_count (Issue number) outcome old new

abbrev pub IssueIsExact : {B : Type 0} → Block.Ghosts B → ℕ → Outcome → Volumed B → Volumed B → Type 0
IssueIsExact b number outcome old new = IsExact b.contents b.layers (Issue number) outcome old new

abbrev pub IssueCloses : {B : Type 0} → Block.Ghosts B → ℕ → Outcome → Volumed B → Volumed B → Type 0
IssueCloses b number outcome old new = ClosesBy b.may_hold b.contents b.layers b.size (Issue number) outcome (map in_flight old.flights) new

-- a request is accepted under the number that is answered, or refused for this reason
abbrev pub Accepts : {B E : Type 0} → Block.Ghosts B → Request → Result ℕ E → Volumed B → Volumed B → Type 0
Accepts b request result old new = IfOk result (λ number. IsAcceptedAs b.contents b.layers request number old new)

abbrev pub Refuses : {B A : Type 0} → Block.Ghosts B → Request → Result A Refusal → Volumed B → Volumed B → Type 0
Refuses b request result old new = IfErr result (λ refusal. IsRefusedAs b.contents b.layers b.size request refusal old new)

-- one of a snapshot is refused for want of memory, or since that snapshot's store is full
abbrev pub FindsFull : {B A : Type 0} → Block.Ghosts B → ℕ → Request → Result A Refusal → Volumed B → Volumed B → Type 0
FindsFull b id request result old new = IfErr result (λ e. ((e ≡ NoMemory) × SameButRoom old new) ⊎ ((e ≡ Invalid) × IsFoundFull b.contents b.layers id request.range.first old new) ⊎ ((e ≡ Overflow) × IsOverflown b.contents b.layers id request.range.first old new))

-- it fails for want of memory alone, and then nothing changes, or nothing but room that was made
abbrev pub LacksMemory : {B A : Type 0} → Result A Refusal → Volumed B → Volumed B → Type 0
LacksMemory result old new = IfErr result (λ e. (e ≡ NoMemory) × (new ≡ old))

abbrev pub LacksRoom : {B A : Type 0} → Result A Refusal → Volumed B → Volumed B → Type 0
LacksRoom result old new = IfErr result (λ e. (e ≡ NoMemory) × SameButRoom old new)

-- what a call of `serve` does, and one of `submit`
abbrev pub Serves : {B : Type 0} → Block.Ghosts B → Request → Result Served Refusal → Volumed B → Volumed B → Type 0
Serves b request result old new = DoesServe b.may_hold b.contents b.layers b.size b.fault_count b.done_count request result old new

abbrev pub Submits : {B : Type 0} → Block.Ghosts B → Request → Result ℕ Refusal → Volumed B → Volumed B → Type 0
Submits b request result old new = DoesSubmit b.contents b.layers b.size request result old new

-- something is left to do in it where it was so before, and only there
abbrev pub StaysQuiet : {B : Type 0} → Volumed B → Volumed B → Type 0
StaysQuiet old new = is_quiet_of new ≡ is_quiet_of old

-- this way is one that the request may go
abbrev pub MayGo : {B : Type 0} → Block.Ghosts B → Request → Way → Volumed B → Type 0
MayGo b request way v = IsWayOf b.contents b.layers request way v

-- no snapshot has this number
abbrev pub LacksSnap : {B A : Type 0} → ℕ → Result A Refusal → Volumed B → Type 0
LacksSnap number result v = IfErr result (λ refusal. (refusal ≡ NoSuchDevice) × HasNone number v)

-- what a volume was to be made of is given back, for want of memory
abbrev pub GivesBack : {A B : Type 0} → B → Result A (Refusal × B) → Type 0
GivesBack origin result = IfErr result (λ e. e ≡ record { 0 = NoMemory; 1 = origin })
