-- What an event asks of a volume's devices, as what is done ahead needs it. This project's own.
use Rattle.std.specs.Prelude.{◌≡◌, ℕ, ◌<◌, Bool, true, false, List, Some, None, length, slice_index_or}
use Rattle.device.specs.declared.block.Block as Block
use Rattle.device.specs.CanDoAhead.{CanDoAhead}
use Rattle.device.specs.Layers.{Layer, fate, is_answered}
use Rattle.device.specs.declared.operation.Operation.{Operation}
use Rattle.device.specs.declared.operation.Operation.TheVariants.{Reads, Writes, Flushes}
use Rattle.plain_machine.specs.declared.event.Event.{Event}
use Rattle.plain_machine.specs.declared.event.Event.TheVariants.{WriteInvalid, FlushStore}
use Rattle.in_flight.specs.declared.flights.Flight.{Flight}
use Rattle.snapshot.specs.Kept.{Kept}
use Rattle.merge.specs.Merging.{Merging}
use Rattle.volume.specs.Answered.{is_told, reads_many, reads_too_many}
use Rattle.volume.specs.DoesAhead.{AreAhead}
use Rattle.volume.specs.Moved.{moving_of}
use Rattle.volume.specs.Volumed.{Volumed, is_due_of}
use Rattle.volume.specs.declared.ahead.Ask.{Ask}
use Rattle.volume.specs.declared.ahead.Ask.TheVariants.{Nobody, TooMany, Origin, Store, Merging as ToMerging}

-- What was done ahead tells whether a device with these layers answers an operation; of a write, whether it answers any.
abbrev pub Tells : Operation → List Layer → Bool → Type 0
Tells (Reads first count) layers told = told ≡ is_answered (fate layers (Reads first count))
Tells (Writes first count) layers told = (f n : ℕ) → told ≡ is_answered (fate layers (Writes f n))
Tells Flushes layers told = told ≡ is_answered (fate layers Flushes)

-- an event that marks a store, or flushes it, asks the store of its snapshot
abbrev pub IsOfStore : Event → ℕ → Type 0
IsOfStore (WriteInvalid n) number = number ≡ n
IsOfStore (FlushStore n) number = number ≡ n
IsOfStore event number = Unit {0}

abbrev pub IsOfNone : Event → Type 0
IsOfNone (WriteInvalid n) = ⊥
IsOfNone (FlushStore n) = ⊥
IsOfNone event = Unit {0}

-- The device that is asked can do the operation ahead; and once it did, what it tells of that operation is told of the event.
abbrev pub Asks : {B : Type 0} → (B → ℕ → List ℕ → Type 0) → (B → List ℕ) → (B → List Layer) → (B → ℕ) → (B → ℕ) → (B → ℕ) → Event → Ask → Volumed B → Type 0
Asks {B} holds contents layers size faults done event Nobody v = IsOfNone event × ((w : Volumed B) → AreAhead holds contents layers size faults done v w → is_told event (moving_of contents layers None w) ≡ true)
Asks {B} holds contents layers size faults done event TooMany v =
    IsOfNone event × ((w : Volumed B) → AreAhead holds contents layers size faults done v w → is_told event (moving_of contents layers None w) ≡ false) × (reads_too_many event (moving_of contents layers None v) ≡ true)
Asks {B} holds contents layers size faults done event (Origin op) v =
    IsOfNone event × CanDoAhead (size v.origin) op
    × ((w : Volumed B) → AreAhead holds contents layers size faults done v w → (told : Bool) → Tells op (layers w.origin) told → told ≡ is_told event (moving_of contents layers None w))
Asks {B} holds contents layers size faults done event (Store place op) v =
    (place < length v.snaps) × ((s : Kept B) → IsOfStore event (slice_index_or v.snaps place s).number × CanDoAhead (size (slice_index_or v.snaps place s).device) op)
    × ((w : Volumed B) → AreAhead holds contents layers size faults done v w → (s : Kept B) (told : Bool) → Tells op (layers (slice_index_or w.snaps place s).device) told → told ≡ is_told event (moving_of contents layers None w))
Asks {B} holds contents layers size faults done event (ToMerging op) v =
    IsOfNone event × ((m : Merging B) × (v.merge ≡ Some m) × CanDoAhead (size m.device) op)
    × ((w : Volumed B) → AreAhead holds contents layers size faults done v w → (m : Merging B) → w.merge ≡ Some m → (told : Bool) → Tells op (layers m.device) told → told ≡ is_told event (moving_of contents layers None w))

-- the same in a contract's words; and where the event is due
abbrev pub AsksAs : {B : Type 0} → Block.Ghosts B → Event → Ask → Volumed B → Type 0
AsksAs b event ask v = Asks b.may_hold b.contents b.layers b.size b.fault_count b.done_count event ask v

abbrev pub AsksIfDue : {B : Type 0} → Block.Ghosts B → Event → Ask → Volumed B → Type 0
AsksIfDue b event ask v = is_due_of b.contents b.layers v event ≡ true → AsksAs b event ask v

-- the request at a place reads no more sectors than are read ahead
abbrev pub IsShortAt : ℕ → List Flight → Type 0
IsShortAt place flights = (f : Flight) → reads_many (slice_index_or flights place f).request.op (slice_index_or flights place f).request.range.count ≡ false
