-- What a volume keeps true: what its books say, and what lasts of its devices while not all of them is flushed. holds: what a
-- device may hold in a sector after a stop. This project's own.
use Rattle.std.specs.Prelude.{◌≡◌, ℕ, ◌<◌, true, List, Option, length, slice_index_or}
use Rattle.std.specs.List.{All}
use Rattle.device.specs.Layers.{Layer, is_loud}
use Rattle.crash_laws.specs.Clauses.{Given, StopsSnap}
use Rattle.snapshot.specs.Kept.{Kept}
use Rattle.volume.specs.Volumed.{Volumed}
use Rattle.volume.specs.Whole.{IsWhole}
use Rattle.volume.specs.Stopping.{stopping_of}
use Rattle.volume.specs.SnapLasting.{SnapLasting}
use Rattle.volume.specs.MergeLasting.{MergeLasting, StopsOriginOn}

-- of each snapshot, and of the merge
pub record IsLasting {B : Type 0} (holds : B → ℕ → List ℕ → Type 0) (contents : B → List ℕ) (layers : B → List Layer) (size : B → ℕ) (v : Volumed B) : Type 0 where
  pub snaps : All (SnapLasting holds contents layers size v.origin) v.snaps
  pub merge : MergeLasting holds contents layers size v.origin v.merge

pub record IsKept {B : Type 0} (holds : B → ℕ → List ℕ → Type 0) (contents : B → List ℕ) (layers : B → List Layer) (size : B → ℕ) (v : Volumed B) : Type 0 where
  pub whole : IsWhole contents layers size v
  pub lasting : IsLasting holds contents layers size v

-- What a call may leave of each snapshot whose store, like the origin's device, drops no writes.
abbrev pub StopsSnaps : {B : Type 0} → (B → ℕ → List ℕ → Type 0) → (B → List Layer) → (B → ℕ) → Option Given → Volumed B → Volumed B → Type 0
StopsSnaps holds layers size given old new =
    (k : ℕ) (s t : Kept _) → k < length old.snaps → s ≡ slice_index_or old.snaps k s → t ≡ slice_index_or new.snaps k t → is_loud (layers old.origin) ≡ true → is_loud (layers s.device) ≡ true →
    StopsSnap holds size given old.origin new.origin (stopping_of s) (stopping_of t)

-- What a call may leave of each array by itself: of a snapshot where its own store and the origin's device drop no writes, and of
-- the origin where its device and the merging store drop none. A layer that drops writes on one store takes this from no other.
pub record StopsEach {B : Type 0} (holds : B → ℕ → List ℕ → Type 0) (layers : B → List Layer) (size : B → ℕ) (given : Option Given) (old new : Volumed B) : Type 0 where
  pub snaps : StopsSnaps holds layers size given old new
  pub origin : StopsOriginOn holds layers size given old.origin new.origin old.merge new.merge
