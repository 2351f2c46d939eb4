-- What a call of `ahead` does to a volume, as one record: a layer that passes it on says the same record of the volume below it.
-- What is done ahead is what the device is asked for next; which operation that is, and that it is asked beforehand, is this
-- project's own.
use Rattle.std.specs.Prelude.{◌≡◌, ℕ, ◌<◌, true, List, Option, Some, None, length, slice_index_or}
use Rattle.device.specs.Ahead.{IsAhead}
use Rattle.device.specs.Layers.{Layer}
use Rattle.plain_machine.specs.declared.event.Event.{Event}
use Rattle.snapshot.specs.Kept.{Kept}
use Rattle.merge.specs.Merging.{Merging}
use Rattle.volume.specs.Adding.{OpensNothing}
use Rattle.volume.specs.Causes.{counts_of}
use Rattle.volume.specs.Stepping.{KeepsAll}
use Rattle.volume.specs.Volumed.{Volumed, books_of, is_due_of, is_loud_in_all, left_in_all, plain_of}

-- a snapshot, of which the store's device maybe did something ahead
pub record IsSnapAhead {B : Type 0} (holds : B → ℕ → List ℕ → Type 0) (contents : B → List ℕ) (layers : B → List Layer) (size faults done : B → ℕ) (s t : Kept B) : Type 0 where
  pub store : IsAhead holds contents layers size faults done s.device t.device
  pub same : t ≡ record s { device = t.device }

-- and the merge
abbrev pub IsMergeAhead : {B : Type 0} → (B → ℕ → List ℕ → Type 0) → (B → List ℕ) → (B → List Layer) → (B → ℕ) → (B → ℕ) → (B → ℕ) → Option (Merging B) → Option (Merging B) → Type 0
IsMergeAhead holds contents layers size faults done None None = Unit {0}
IsMergeAhead holds contents layers size faults done None (Some y) = ⊥
IsMergeAhead holds contents layers size faults done (Some x) None = ⊥
IsMergeAhead holds contents layers size faults done (Some x) (Some y) = IsAhead holds contents layers size faults done x.device y.device × (y ≡ record x { device = y.device })

-- Each device is as it was, or did something ahead; nothing else of the volume changes.
pub record AreAhead {B : Type 0} (holds : B → ℕ → List ℕ → Type 0) (contents : B → List ℕ) (layers : B → List Layer) (size faults done : B → ℕ) (old new : Volumed B) : Type 0 where
  pub origin : IsAhead holds contents layers size faults done old.origin new.origin
  pub count : length new.snaps ≡ length old.snaps
  pub snaps : (k : ℕ) (d : Kept B) → k < length old.snaps → IsSnapAhead holds contents layers size faults done (slice_index_or old.snaps k d) (slice_index_or new.snaps k d)
  pub merge : IsMergeAhead holds contents layers size faults done old.merge new.merge
  pub becomes : new ≡ record old { origin = new.origin; snaps = new.snaps; merge = new.merge }

-- No operation is counted, and no fault.
pub record IsNoneDone {B : Type 0} (done faults : B → ℕ) (old new : Volumed B) : Type 0 where
  pub operations : counts_of done new ≡ counts_of done old
  pub faults_are : counts_of faults new ≡ counts_of faults old

-- Where all stacks are loud afterwards, they were, and nothing is seen of it: the bytes, the arrays, and what a stop may leave are
-- as they were. Loud or not, the same events are due, as much is left, and no operation counts as done.
pub record DoesAhead {B : Type 0} (holds : B → ℕ → List ℕ → Type 0) (contents : B → List ℕ) (layers : B → List Layer) (size faults done : B → ℕ) (old new : Volumed B) : Type 0 where
  pub devices : AreAhead holds contents layers size faults done old new
  pub loud : is_loud_in_all layers new ≡ true → is_loud_in_all layers old ≡ true
  pub books : is_loud_in_all layers new ≡ true → books_of contents layers size new ≡ books_of contents layers size old
  pub plain : is_loud_in_all layers new ≡ true → plain_of contents layers new ≡ plain_of contents layers old
  pub opens : is_loud_in_all layers new ≡ true → OpensNothing holds size old new
  pub due : (event : Event) → is_due_of contents layers new event ≡ is_due_of contents layers old event
  pub left : left_in_all contents layers new ≡ left_in_all contents layers old
  pub kept : KeepsAll size old new
  pub counted : IsNoneDone done faults old new
