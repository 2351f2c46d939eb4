-- What a call does to a store and to its device, in phrases over the store before and after. This project's own.
use Rattle.std.specs.Prelude.{◌≡◌, ℕ, ◌+◌, ◌-◌, ◌*◌, Bool, IsTrue, MatchResult, OnErr, Result, if◌then◌else◌, is_ok, replicate, false}
use Rattle.sector.specs.Bytes.{next_count, with_sectors}
use Rattle.device.specs.Ahead.{IsAhead}
use Rattle.device.specs.CanDoAhead.{CanDoAhead}
use Rattle.device.specs.Layers.{fate, is_answered, is_loud, is_passed}
use Rattle.device.specs.declared.block.Block as Block
use Rattle.device.specs.declared.operation.Operation.{Operation}
use Rattle.device.specs.declared.operation.Operation.TheVariants.{Flushes, Reads, Writes}
use Rattle.layers.specs.Ticks.{layers_ticked}
use Rattle.cow_format.specs.Places.{ChangesOnly, area_place}
use Rattle.cow_header.specs.HeaderText.{header_bytes}
use Rattle.crash_laws.specs.Firm.{AddsNow, IsFirm}
use Rattle.store.specs.Held.{committed, memory, pending, reserved}
use Rattle.store.specs.Layering.{IsRelayered}
use Rattle.store.specs.Operations.{IsOneOperation}
use Rattle.store.specs.declared.store.Store.{Store}

-- the device has as many sectors, the same bytes, the same bytes after a loss of its cache
abbrev pub KeepsSize : {B : Type 0} {b : Block.Ghosts B} → Store B b → Store B b → Type 0
KeepsSize {B} {b} old new = b.size new.device ≡ b.size old.device

abbrev pub KeepsBytes : {B : Type 0} {b : Block.Ghosts B} → Store B b → Store B b → Type 0
KeepsBytes {B} {b} old new = b.contents new.device ≡ b.contents old.device

abbrev pub KeepsDurable : {B : Type 0} {b : Block.Ghosts B} → Store B b → Store B b → Type 0
KeepsDurable {B} {b} old new = b.durable new.device ≡ b.durable old.device

-- the store has the same pairs and copies, committed pairs, copies under way, room for copies to start, and room in memory
abbrev pub KeepsExceptions : {B : Type 0} {b : Block.Ghosts B} → Store B b → Store B b → Type 0
KeepsExceptions old new = new.exceptions ≡ old.exceptions

abbrev pub KeepsCommitted : {B : Type 0} {b : Block.Ghosts B} → Store B b → Store B b → Type 0
KeepsCommitted old new = committed new.exceptions ≡ committed old.exceptions

abbrev pub KeepsPending : {B : Type 0} {b : Block.Ghosts B} → Store B b → Store B b → Type 0
KeepsPending old new = pending new.exceptions ≡ pending old.exceptions

abbrev pub KeepsReserved : {B : Type 0} {b : Block.Ghosts B} → Store B b → Store B b → Type 0
KeepsReserved old new = reserved new.exceptions ≡ reserved old.exceptions

abbrev pub KeepsMemory : {B : Type 0} {b : Block.Ghosts B} → Store B b → Store B b → Type 0
KeepsMemory old new = memory new.exceptions ≡ memory old.exceptions

-- and knows the same of itself
abbrev pub KeepsState : {B : Type 0} {b : Block.Ghosts B} → Store B b → Store B b → Type 0
KeepsState old new = new.state ≡ old.state

-- the device's layers do all that they answer where they did so before, and only there
abbrev pub StaysAsLoud : {B : Type 0} {b : Block.Ghosts B} → Store B b → Store B b → Type 0
StaysAsLoud {B} {b} old new = is_loud (b.layers new.device) ≡ is_loud (b.layers old.device)

-- the device may hold what it might before, or what is there now
abbrev pub MayHoldNow : {B : Type 0} {b : Block.Ghosts B} → Store B b → Store B b → Type 0
MayHoldNow {B} {b} old new = AddsNow (b.may_hold old.device) (b.may_hold new.device) (b.contents new.device)

-- so it is where its layers did all that they answer
abbrev pub MayHoldNowIfLoud : {B : Type 0} {b : Block.Ghosts B} → Store B b → Store B b → Type 0
MayHoldNowIfLoud {B} {b} old new = IsTrue (is_loud (b.layers old.device)) → AddsNow (b.may_hold old.device) (b.may_hold new.device) (b.contents new.device)

-- there it holds nothing but what is there now
abbrev pub EndsFirm : {B : Type 0} {b : Block.Ghosts B} → Store B b → Store B b → Type 0
EndsFirm {B} {b} old new = IsTrue (is_loud (b.layers old.device)) → IsFirm (b.may_hold new.device) (b.contents new.device) (b.size new.device)

-- a flush that the layers passed makes the bytes last through a loss, and one that they did not pass changes nothing of that
abbrev pub IsFlushed : {B : Type 0} {b : Block.Ghosts B} → Store B b → Store B b → Type 0
IsFlushed {B} {b} old new = b.durable new.device ≡ (if is_passed (fate (b.layers old.device) Flushes) then b.contents old.device else b.durable old.device)

-- a fault is counted where the call fails, and only there
abbrev pub CountsFault : {B A E : Type 0} {b : Block.Ghosts B} → Result A E → Store B b → Store B b → Type 0
CountsFault {B} {A} {E} {b} result old new = MatchResult result (λ _. b.fault_count new.device ≡ b.fault_count old.device) (λ _. b.fault_count new.device ≡ next_count (b.fault_count old.device))

-- the device did one operation
abbrev pub DoesOne : {B : Type 0} {b : Block.Ghosts B} → Operation → Bool → Store B b → Store B b → Type 0
DoesOne {B} {b} op ok old new = IsOneOperation op ok (b.layers old.device) (b.layers new.device) (b.fault_count old.device) (b.fault_count new.device) (b.done_count old.device) (b.done_count new.device)

-- a flush; a write of the header; of the current area; of the area after it; a read of the area before it
abbrev pub DoesFlush : {B A E : Type 0} {b : Block.Ghosts B} → Result A E → Store B b → Store B b → Type 0
DoesFlush result old new = DoesOne Flushes (is_ok result) old new

abbrev pub WritesHeader : {B A E : Type 0} {b : Block.Ghosts B} → Result A E → Store B b → Store B b → Type 0
WritesHeader result old new = DoesOne (Writes 0 old.state.chunk) (is_ok result) old new

abbrev pub WritesArea : {B A E : Type 0} {b : Block.Ghosts B} → Result A E → Store B b → Store B b → Type 0
WritesArea result old new = DoesOne (Writes (old.state.chunk * area_place old.state.chunk old.state.current) old.state.chunk) (is_ok result) old new

abbrev pub WritesNext : {B A E : Type 0} {b : Block.Ghosts B} → Result A E → Store B b → Store B b → Type 0
WritesNext result old new = DoesOne (Writes (old.state.chunk * area_place old.state.chunk (old.state.current + 1)) old.state.chunk) (is_ok result) old new

abbrev pub ReadsBefore : {B A E : Type 0} {b : Block.Ghosts B} → Result A E → Store B b → Store B b → Type 0
ReadsBefore result old new = DoesOne (Reads (old.state.chunk * area_place old.state.chunk (old.state.current - 1)) old.state.chunk) (is_ok result) old new

-- a read or a write of so many sectors of a place, from one of its sectors on
abbrev pub ReadsPlace : {B A E : Type 0} {b : Block.Ghosts B} → ℕ → ℕ → ℕ → Result A E → Store B b → Store B b → Type 0
ReadsPlace place first count result old new = DoesOne (Reads (old.state.chunk * place + first) count) (is_ok result) old new

abbrev pub WritesPlace : {B A E : Type 0} {b : Block.Ghosts B} → ℕ → ℕ → ℕ → Result A E → Store B b → Store B b → Type 0
WritesPlace place first count result old new = DoesOne (Writes (old.state.chunk * place + first) count) (is_ok result) old new

-- no other chunk changes than the header's, or than the current area
abbrev pub ChangesOnlyHeader : {B : Type 0} {b : Block.Ghosts B} → Store B b → Store B b → Type 0
ChangesOnlyHeader {B} {b} old new = ChangesOnly old.state.chunk 0 (b.contents old.device) (b.contents new.device)

abbrev pub ChangesOnlyArea : {B : Type 0} {b : Block.Ghosts B} → Store B b → Store B b → Type 0
ChangesOnlyArea {B} {b} old new = ChangesOnly old.state.chunk (area_place old.state.chunk old.state.current) (b.contents old.device) (b.contents new.device)

-- where the layers do all that they answer, the area after the current one is zero, or the header says that the store is invalid
abbrev pub ZeroesNext : {B : Type 0} {b : Block.Ghosts B} → Store B b → Store B b → Type 0
ZeroesNext {B} {b} old new = IsTrue (is_loud (b.layers old.device)) → b.contents new.device ≡ with_sectors (b.contents old.device) (old.state.chunk * area_place old.state.chunk (old.state.current + 1)) (replicate (512 * old.state.chunk) 0)

abbrev pub MarksInvalid : {B : Type 0} {b : Block.Ghosts B} → Store B b → Store B b → Type 0
MarksInvalid {B} {b} old new = IsTrue (is_loud (b.layers old.device)) → b.contents new.device ≡ with_sectors (b.contents old.device) 0 (header_bytes (512 * old.state.chunk) false old.state.chunk)

-- the layers are those after so many seconds; nothing of the device changes but its layers, and they not where the call is refused
abbrev pub Ticks : {B : Type 0} {b : Block.Ghosts B} → ℕ → Store B b → Store B b → Type 0
Ticks {B} {b} seconds old new = b.layers new.device ≡ layers_ticked seconds (b.layers old.device)

abbrev pub ChangesOnlyLayers : {B : Type 0} {b : Block.Ghosts B} → Store B b → Store B b → Type 0
ChangesOnlyLayers {B} {b} old new = IsRelayered b.contents b.durable b.size b.fault_count b.done_count old.device new.device

abbrev pub LeavesLayers : {B A E : Type 0} {b : Block.Ghosts B} → Result A E → Store B b → Store B b → Type 0
LeavesLayers {B} {A} {E} {b} result old new = OnErr result (b.layers new.device ≡ b.layers old.device)

-- the device may have done something ahead, and whether it will answer this operation is told
abbrev pub IsDoneAhead : {B : Type 0} {b : Block.Ghosts B} → Store B b → Store B b → Type 0
IsDoneAhead {B} {b} old new = IsAhead b.may_hold b.contents b.layers b.size b.fault_count b.done_count old.device new.device

abbrev pub Foretold : {B : Type 0} {b : Block.Ghosts B} → Operation → Bool → Store B b → Store B b → Type 0
Foretold {B} {b} operation told old new = CanDoAhead (b.size old.device) operation → told ≡ is_answered (fate (b.layers new.device) operation)
