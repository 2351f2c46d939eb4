-- What lasts of a merge that may be begun, while not all of its store is flushed, and what a call may leave of the origin's array.
-- holds: what a device may hold in a sector after a stop. This project's own; the bytes are those of dm-snap-persistent.c.
use Rattle.std.specs.Prelude.{◌≡◌, ℕ, true, List, Option, Some, None}
use Rattle.device.specs.Layers.{Layer, is_loud}
use Rattle.crash_laws.specs.Clauses.{Given, StopsMerge, StopsDisk}
use Rattle.cache_loss_laws.specs.Merging.{Merging as Lost, MergeLasts}
use Rattle.merge.specs.Due.{is_finished_of}
use Rattle.merge.specs.Lists.{copied_of}
use Rattle.merge.specs.Merging.{Merging, flushed_of}
use Rattle.volume.specs.Stopping.{StaysOut, StopsFinished}

-- a merge into an origin disk, as far as losses speak of it
abbrev pub merging_of : {B : Type 0} → (B → ℕ) → B → Merging B → Lost
merging_of size origin m = record {
  chunk = m.state.chunk;
  sectors = size origin;
  size = size m.device;
  pairs = m.pairs;
  copied = copied_of m.group;
  flushed = flushed_of m.group;
}

-- Where neither the origin's device nor the merging store drops writes, the origin's array lasts.
abbrev pub MergeLasting : {B : Type 0} → (B → ℕ → List ℕ → Type 0) → (B → List ℕ) → (B → List Layer) → (B → ℕ) → B → Option (Merging B) → Type 0
MergeLasting holds contents layers size origin None = Unit {0}
MergeLasting holds contents layers size origin (Some m) =
    is_loud (layers origin) ≡ true → is_loud (layers m.device) ≡ true → MergeLasts (holds origin) (holds m.device) (contents origin) (contents m.device) (merging_of size origin m)

-- What a call may leave of the origin's array, where the devices that it stands over drop no writes: the merging store is loaded
-- again with it where a merge is begun, and no chunk comes back to it; and the origin disk is it where none is, or where it is
-- finished.
abbrev pub StopsOriginOn : {B : Type 0} → (B → ℕ → List ℕ → Type 0) → (B → List Layer) → (B → ℕ) → Option Given → B → B → Option (Merging B) → Option (Merging B) → Type 0
StopsOriginOn holds layers size given origin origin' None after = is_loud (layers origin) ≡ true → StopsDisk holds size given origin origin'
StopsOriginOn holds layers size given origin origin' (Some m) None = ⊥
StopsOriginOn holds layers size given origin origin' (Some m) (Some m') =
    is_loud (layers origin) ≡ true → is_loud (layers m.device) ≡ true →
    StopsMerge holds size given m.state.chunk origin origin' m.device m'.device × (is_finished_of m ≡ true → StopsFinished holds size given m.state.chunk origin origin' m.device) × StaysOut holds size m.state.chunk m.device m'.device
