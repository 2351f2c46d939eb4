-- A snapshot as it is opened over a store, and a store that was refused. This project's own.
use Rattle.std.specs.Prelude.{◌≡◌, ◌⊎◌, ℕ, Bool, true, false, List, [], length, map, Ok, None}
use Rattle.sector.specs.Bytes.{sector_at}
use Rattle.sector.specs.declared.refusal.Refusal.{Refusal}
use Rattle.sector.specs.declared.refusal.Refusal.TheVariants.{Io}
use Rattle.device.specs.declared.operation.Operation.TheVariants.{Flushes}
use Rattle.device.specs.Layers.{Layer, is_loud}
use Rattle.cow_format.specs.NextPlace.{IsNextPlace}
use Rattle.plain_machine.specs.Plain.{overflow_of}
use Rattle.cow_header.specs.HeaderText.{found_in}
use Rattle.cow_header.specs.declared.found.Found.{Found}
use Rattle.store.specs.declared.state.Left.TheVariants.{Nothing}
use Rattle.store.specs.declared.state.State.{State}
use Rattle.store.specs.Opening.{chunk_found}
use Rattle.store.specs.Operations.{IsOneOperation}
use Rattle.store.specs.Stored.{new_of}
use Rattle.snapshot.specs.Kept.{Kept}
use Rattle.snapshot.specs.Opening.{ChangesFront, IsOpenedAs, prepared}

-- live, without copies, and no write of it found its store full; its pairs and its store's state are those that were loaded, and no write of the load is left
pub record IsOpened {B : Type 0} (contents : B → List ℕ) (layers : B → List Layer) (number line origin size : ℕ) (overflow : Bool) (device : B) (s : Kept B) : Type 0 where
  pub loaded : State
  pub opened : IsOpenedAs line origin size (contents device) loaded s.pairs
  pub fields : s ≡ record { number = number; live = true; untried = false; marked = false; stale = false; overflow = overflow_of overflow; device = s.device; state = record loaded { left = Nothing; sure = length s.pairs; awaits = false }; next = s.next; pairs = s.pairs; begun = []; copies = []; marks = []; room = 0; kept_back = 0; spare = false; merging = None }
  pub next : IsNextPlace s.state.chunk (map new_of s.pairs) s.next
  pub bytes : is_loud (layers device) ≡ true → contents s.device ≡ prepared loaded.left loaded (contents device)

-- A device that is given back with a refusal has the bytes that it had; where it failed, the header and the current area may
-- be written.
abbrev pub IsBack : ℕ → Refusal → List ℕ → List ℕ → Type 0
IsBack line refusal old new =
    (new ≡ old) ⊎ ((refusal ≡ Io) × (found : Found) × (a : ℕ) × (found_in (sector_at old 0) ≡ Ok found) × ChangesFront (chunk_found line found) a old new)

-- The device of the origin is flushed, and no byte of it changes.
pub record IsFlushedAs {B : Type 0} (contents : B → List ℕ) (layers : B → List Layer) (size faults done : B → ℕ) (ok : Bool) (old new : B) : Type 0 where
  pub same : contents new ≡ contents old
  pub sized : size new ≡ size old
  pub operation : IsOneOperation Flushes ok (layers old) (layers new) (faults old) (faults new) (done old) (done new)

-- with a refusal it is as it was, or was flushed, and then the flush failed or another operation did
abbrev pub IsOriginBack : {B : Type 0} → (B → List ℕ) → (B → List Layer) → (B → ℕ) → (B → ℕ) → (B → ℕ) → Refusal → B → B → Type 0
IsOriginBack contents layers size faults done refusal old new = (new ≡ old) ⊎ ((refusal ≡ Io) × (ok : Bool) × IsFlushedAs contents layers size faults done ok old new)
