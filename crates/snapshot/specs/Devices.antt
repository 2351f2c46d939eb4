-- What a call leaves of a snapshot and of the device of its store, in phrases over the snapshot before and after. This project's own.
use Rattle.std.specs.Prelude.{◌≡◌, ◌≤◌, ℕ, ◌+◌, ◌*◌, Bool, IsTrue, MatchBool, OnErr, OnOk, Result, if◌then◌else◌, true, vec_capacity}
use Rattle.std.specs.Global.{Vec}
use Rattle.device.specs.Ahead.{IsAhead}
use Rattle.device.specs.Layers.{fate, is_loud, is_passed}
use Rattle.device.specs.declared.block.Block as Block
use Rattle.device.specs.declared.operation.Operation.TheVariants.{Flushes}
use Rattle.layers.specs.Ticks.{layers_ticked}
use Rattle.chunk_alloc.specs.declared.usage.Usage.{Usage}
use Rattle.cow_format.specs.NextPlace.{IsFull}
use Rattle.crash_laws.specs.Firm.{AddsNow, IsFirm}
use Rattle.store.specs.Layering.{IsRelayered}
use Rattle.store.specs.declared.state.State.{State}
use Rattle.snapshot.specs.InStep.{IsInStep}
use Rattle.snapshot.specs.Kept.{Kept}

-- the device has as many sectors, the same bytes, the same bytes after a loss of its cache
abbrev pub KeepsSize : {B : Type 0} → Block.Ghosts B → Kept B → Kept B → Type 0
KeepsSize b old new = b.size new.device ≡ b.size old.device

abbrev pub KeepsBytes : {B : Type 0} → Block.Ghosts B → Kept B → Kept B → Type 0
KeepsBytes b old new = b.contents new.device ≡ b.contents old.device

abbrev pub KeepsDurable : {B : Type 0} → Block.Ghosts B → Kept B → Kept B → Type 0
KeepsDurable b old new = b.durable new.device ≡ b.durable old.device

-- it has the same bytes where the call fails
abbrev pub SameOnErr : {B A E : Type 0} → Block.Ghosts B → Result A E → Kept B → Kept B → Type 0
SameOnErr b result old new = OnErr result (b.contents new.device ≡ b.contents old.device)

-- its layers do all that they answer where they did so before, and only there
abbrev pub StaysAsLoud : {B : Type 0} → Block.Ghosts B → Kept B → Kept B → Type 0
StaysAsLoud b old new = is_loud (b.layers new.device) ≡ is_loud (b.layers old.device)

-- it may hold what it might before, or what is there now
abbrev pub MayHoldNow : {B : Type 0} → Block.Ghosts B → Kept B → Kept B → Type 0
MayHoldNow b old new = AddsNow (b.may_hold old.device) (b.may_hold new.device) (b.contents new.device)

-- so it is where its layers did all that they answer
abbrev pub MayHoldNowIfLoud : {B : Type 0} → Block.Ghosts B → Kept B → Kept B → Type 0
MayHoldNowIfLoud b old new = IsTrue (is_loud (b.layers old.device)) → AddsNow (b.may_hold old.device) (b.may_hold new.device) (b.contents new.device)

-- there, where the call does not fail, it holds nothing but what is there now
abbrev pub FirmOnOk : {B A E : Type 0} → Block.Ghosts B → Result A E → Kept B → Kept B → Type 0
FirmOnOk b result old new = OnOk result (IsTrue (is_loud (b.layers old.device)) → IsFirm (b.may_hold new.device) (b.contents new.device) (b.size new.device))

-- a flush that the layers passed makes the bytes last through a loss, and one that they did not pass changes nothing of that
abbrev pub IsFlushed : {B : Type 0} → Block.Ghosts B → Kept B → Kept B → Type 0
IsFlushed b old new = b.durable new.device ≡ (if is_passed (fate (b.layers old.device) Flushes) then b.contents old.device else b.durable old.device)

-- its layers are those after so many seconds; nothing of it changes but its layers; it may have done something ahead
abbrev pub Ticks : {B : Type 0} → Block.Ghosts B → ℕ → Kept B → Kept B → Type 0
Ticks b seconds old new = b.layers new.device ≡ layers_ticked seconds (b.layers old.device)

abbrev pub ChangesOnlyLayers : {B : Type 0} → Block.Ghosts B → Kept B → Kept B → Type 0
ChangesOnlyLayers b old new = IsRelayered b.contents b.durable b.size b.fault_count b.done_count old.device new.device

abbrev pub IsDoneAhead : {B : Type 0} → Block.Ghosts B → Kept B → Kept B → Type 0
IsDoneAhead b old new = IsAhead b.may_hold b.contents b.layers b.size b.fault_count b.done_count old.device new.device

-- nothing of the snapshot changes but the device; where the call fails
abbrev pub ChangesOnlyDevice : {B : Type 0} → Kept B → Kept B → Type 0
ChangesOnlyDevice old new = new ≡ record old { device = new.device }

abbrev pub KeptOnErr : {B A E : Type 0} → Result A E → Kept B → Kept B → Type 0
KeptOnErr result old new = OnErr result (new ≡ record old { device = new.device })

-- the snapshot is in step with its store
abbrev pub StaysInStep : {B : Type 0} → Block.Ghosts B → Kept B → Type 0
StaysInStep b s = IsInStep b.contents b.layers b.size s

-- an area that was flushed since it was zeroed is zeroed
abbrev pub IsZeroedIfFirm : State → Type 0
IsZeroedIfFirm s = s.firm ≡ true → s.zeroed ≡ true

-- whether the next place lies in the store
abbrev pub TellsPlace : {B : Type 0} → Bool → Kept B → Type 0
TellsPlace inside s = MatchBool inside (s.state.chunk * (s.next + 1) ≤ s.state.size) (IsFull s.state.chunk s.state.size s.next)

-- what a status line tells of the front of the store
abbrev pub HasAllocated : {B : Type 0} → Usage → Kept B → Type 0
HasAllocated usage s = usage.allocated ≡ s.next * s.state.chunk

-- a list has room in memory for as many elements
abbrev pub KeepsRoom : {A : Type 0} → Vec A → Vec A → Type 0
KeepsRoom old new = vec_capacity new ≡ vec_capacity old
