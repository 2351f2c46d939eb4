-- What it means that a store's snapshot was loaded. This project's own.
use Rattle.std.specs.Prelude.{◌≡◌, ℕ, Bool, true, false, List, Ok}
use Rattle.std.specs.List.{All}
use Rattle.sector.specs.Bytes.{sector_at}
use Rattle.device.specs.Layers.{Layer, is_loud}
use Rattle.cow_header.specs.HeaderText.{found_in}
use Rattle.cow_header.specs.declared.found.Found.{Found}
use Rattle.snapshot.specs.declared.opening.StoreDev.{StoreDev}
use Rattle.volume.specs.DoesAttach.{DoesAttach}
use Rattle.volume.specs.Layering.{Measures}
use Rattle.volume.specs.Volumed.{Volumed}
use Rattle.volume_opening.specs.Seen.{IsSeen}

-- The store was looked at, and what is told of its first sector stands there. Then it was attached to the volume, with chunks of so many
-- sectors where it was empty. No device left a write or a sync unanswered.
pub record IsLoaded {B : Type 0} (holds : B → ℕ → List ℕ → Type 0) (m : Measures B) (layers : B → List Layer) (failed : B → Bool) (chunk : ℕ) (overflow : Bool) (store : B) (number : ℕ) (found : Found) (old new : Volumed B) : Type 0 where
  pub seen : B
  pub looked : IsSeen holds m.contents layers m.size store seen
  pub told : is_loud (layers seen) ≡ true → found_in (sector_at (m.contents seen) 0) ≡ Ok found
  pub attached : DoesAttach holds m layers (record { device = seen; stale = false }) chunk overflow (Ok number) old new
  pub origin : failed new.origin ≡ false
  pub stores : All (λ s. failed s.device ≡ false) new.snaps
