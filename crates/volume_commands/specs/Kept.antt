-- What a command on a device leaves as it is. This project's own.
use Rattle.std.specs.Prelude.{◌≡◌, ℕ, List}
use Rattle.device.specs.Layers.{Layer}
use Rattle.volume.specs.Asking.{merging_number}
use Rattle.volume_commands.specs.Rested.{Rested, numbers_of, chunks_of, sizes_of, is_loud_in}

-- which snapshots there are, the sectors of their chunks and of each device, whether devices drop writes, and which snapshot
-- is being merged
pub record KeepsDevices {B : Type 0} (layers : B → List Layer) (size : B → ℕ) (old new : Rested B) : Type 0 where
  pub numbers : numbers_of new ≡ numbers_of old
  pub chunks : chunks_of new ≡ chunks_of old
  pub sizes : sizes_of size new ≡ sizes_of size old
  pub loud : is_loud_in layers new ≡ is_loud_in layers old
  pub attached : new.attached ≡ old.attached
  pub merging : merging_number new.events.merge ≡ merging_number old.events.merge
