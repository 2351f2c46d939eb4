-- What a call leaves of a merge and of the device of its store, in phrases over the merge before and after. This project's own.
use Rattle.std.specs.Prelude.{◌≡◌, ℕ, ◌*◌, IsTrue, OnErr, OnOk, Result, if◌then◌else◌}
use Rattle.device.specs.Ahead.{IsAhead}
use Rattle.device.specs.Layers.{fate, is_loud, is_passed}
use Rattle.device.specs.declared.block.Block as Block
use Rattle.device.specs.declared.operation.Operation.TheVariants.{Flushes}
use Rattle.layers.specs.Ticks.{layers_ticked}
use Rattle.chunk_alloc.specs.declared.usage.Usage.{Usage}
use Rattle.crash_laws.specs.Firm.{AddsNow, IsFirm}
use Rattle.store.specs.Layering.{IsRelayered}
use Rattle.merge.specs.InStep.{IsInStep}
use Rattle.merge.specs.Merging.{Merging}

-- the device has as many sectors, the same bytes, the same bytes after a loss of its cache
abbrev pub KeepsSize : {B : Type 0} → Block.Ghosts B → Merging B → Merging B → Type 0
KeepsSize b old new = b.size new.device ≡ b.size old.device

abbrev pub KeepsBytes : {B : Type 0} → Block.Ghosts B → Merging B → Merging B → Type 0
KeepsBytes b old new = b.contents new.device ≡ b.contents old.device

abbrev pub KeepsDurable : {B : Type 0} → Block.Ghosts B → Merging B → Merging B → Type 0
KeepsDurable b old new = b.durable new.device ≡ b.durable old.device

-- it has the same bytes where the call fails
abbrev pub SameOnErr : {B A E : Type 0} → Block.Ghosts B → Result A E → Merging B → Merging B → Type 0
SameOnErr b result old new = OnErr result (b.contents new.device ≡ b.contents old.device)

-- its layers do all that they answer where they did so before, and only there
abbrev pub StaysAsLoud : {B : Type 0} → Block.Ghosts B → Merging B → Merging B → Type 0
StaysAsLoud b old new = is_loud (b.layers new.device) ≡ is_loud (b.layers old.device)

-- it may hold what it might before, or what is there now
abbrev pub MayHoldNow : {B : Type 0} → Block.Ghosts B → Merging B → Merging B → Type 0
MayHoldNow b old new = AddsNow (b.may_hold old.device) (b.may_hold new.device) (b.contents new.device)

-- so it is where its layers did all that they answer
abbrev pub MayHoldNowIfLoud : {B : Type 0} → Block.Ghosts B → Merging B → Merging B → Type 0
MayHoldNowIfLoud b old new = IsTrue (is_loud (b.layers old.device)) → AddsNow (b.may_hold old.device) (b.may_hold new.device) (b.contents new.device)

-- there, where the call does not fail, it holds nothing but what is there now
abbrev pub FirmOnOk : {B A E : Type 0} → Block.Ghosts B → Result A E → Merging B → Merging B → Type 0
FirmOnOk b result old new = OnOk result (IsTrue (is_loud (b.layers old.device)) → IsFirm (b.may_hold new.device) (b.contents new.device) (b.size new.device))

-- a flush that the layers passed makes the bytes last through a loss, and one that they did not pass changes nothing of that
abbrev pub IsFlushed : {B : Type 0} → Block.Ghosts B → Merging B → Merging B → Type 0
IsFlushed b old new = b.durable new.device ≡ (if is_passed (fate (b.layers old.device) Flushes) then b.contents old.device else b.durable old.device)

-- its layers are those after so many seconds; nothing of it changes but its layers; it may have done something ahead
abbrev pub Ticks : {B : Type 0} → Block.Ghosts B → ℕ → Merging B → Merging B → Type 0
Ticks b seconds old new = b.layers new.device ≡ layers_ticked seconds (b.layers old.device)

abbrev pub ChangesOnlyLayers : {B : Type 0} → Block.Ghosts B → Merging B → Merging B → Type 0
ChangesOnlyLayers b old new = IsRelayered b.contents b.durable b.size b.fault_count b.done_count old.device new.device

abbrev pub IsDoneAhead : {B : Type 0} → Block.Ghosts B → Merging B → Merging B → Type 0
IsDoneAhead b old new = IsAhead b.may_hold b.contents b.layers b.size b.fault_count b.done_count old.device new.device

-- nothing of the merge changes but the device; where the call fails
abbrev pub ChangesOnlyDevice : {B : Type 0} → Merging B → Merging B → Type 0
ChangesOnlyDevice old new = new ≡ record old { device = new.device }

abbrev pub KeptOnErr : {B A E : Type 0} → Result A E → Merging B → Merging B → Type 0
KeptOnErr result old new = OnErr result (new ≡ record old { device = new.device })

-- the merge is in step with its store
abbrev pub StaysInStep : {B : Type 0} → Block.Ghosts B → Merging B → Type 0
StaysInStep b s = IsInStep b.contents b.layers b.size s

-- what a status line tells of the front of the store
abbrev pub HasAllocated : {B : Type 0} → Usage → Merging B → Type 0
HasAllocated usage s = usage.allocated ≡ s.next * s.state.chunk
