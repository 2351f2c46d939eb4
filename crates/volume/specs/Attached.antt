-- What an attach makes of a volume: all that the machine of `whole_commands` says of the reads, writes and flushes of the store and
-- of the flush of the origin's device, and that a volume at rest stays at rest. This project's own.
use Rattle.std.specs.Prelude.{◌≡◌, ◌≢◌, ◌⊎◌, ℕ, Bool, List, [], ◌∷◌, ◌++◌, Option, None, true, false}
use Rattle.std.specs.List.{All}
use Rattle.sector.specs.declared.refusal.Refusal.{Refusal}
use Rattle.sector.specs.declared.refusal.Refusal.TheVariants.{Io}
use Rattle.device.specs.declared.operation.Operation.TheVariants.{Flushes}
use Rattle.device.specs.Layers.{Layer, is_loud, layers_after}
use Rattle.plain_machine.specs.declared.request.Reply.{Reply}
use Rattle.plain_machine.specs.Plain.{overflow_of}
use Rattle.whole_commands.specs.Snaps.{Volume}
use Rattle.event_machine.specs.Requests.{volume_of}
use Rattle.event_machine.specs.Rest.{IsAtRest}
use Rattle.whole_commands.specs.Attaching.{Store, attached}
use Rattle.snapshot.specs.declared.opening.StoreDev.{StoreDev}
use Rattle.snapshot.specs.Kept.{Kept}
use Rattle.store.specs.Opening.{faults_after}
use Rattle.volume.specs.Volumed.{Volumed, plain_of, is_loud_in_all}
use Rattle.volume.specs.Moved.{device_of, moving_of}

-- a store, as its device and whether it is stale
abbrev pub store_of : {B : Type 0} → (B → List ℕ) → (B → List Layer) → StoreDev B → Store
store_of contents layers store = record { device = device_of contents layers store.device; stale = store.stale }

-- a volume's devices and snapshots
abbrev pub volume_in : {B : Type 0} → (B → List ℕ) → (B → List Layer) → Volumed B → Volume
volume_in contents layers v = volume_of (moving_of contents layers None v)

-- The origin's device where a store was tried: it met one flush, or none, and no byte of it changed.
pub record IsTriedOrigin {B : Type 0} (contents : B → List ℕ) (layers : B → List Layer) (size : B → ℕ) (old new : B) : Type 0 where
  pub contents_are : contents new ≡ contents old
  pub size_is : size new ≡ size old
  pub loud_is : is_loud (layers new) ≡ is_loud (layers old)
  pub layers_are : (layers new ≡ layers old) ⊎ (layers new ≡ layers_after (layers old) Flushes)

-- How many faults the devices counted where a store was refused: the store's or the origin's one more where that is for a fault, from
-- so many before to so many after, and as many as before else.
abbrev pub IsCountedFor : Refusal → (ℕ × ℕ) → (ℕ × ℕ) → Type 0
IsCountedFor refusal store origin = (store.1 ≡ faults_after refusal store.0) ⊎ ((store.1 ≡ store.0) × (origin.1 ≡ faults_after refusal origin.0))

-- A volume that refused a store: where no operation failed it is as it was, and else but for the flush of its origin's
-- device. It shows what it showed, and one at rest stays at rest.
pub record IsRefusedOver {B : Type 0} (contents : B → List ℕ) (layers : B → List Layer) (size : B → ℕ) (refusal : Refusal) (old new : Volumed B) : Type 0 where
  pub becomes : new ≡ record old { origin = new.origin }
  pub origin : IsTriedOrigin contents layers size old.origin new.origin
  pub kept : refusal ≢ Io → new ≡ old
  pub shown : plain_of contents layers new ≡ plain_of contents layers old
  pub loud : is_loud_in_all layers new ≡ is_loud_in_all layers old
  pub rests : (sectors : ℕ) (replied : Option Reply) → IsAtRest sectors (moving_of contents layers replied old) → IsAtRest sectors (moving_of contents layers replied new)

-- the volume has one snapshot more, under this number, which no other has, over the store's device, with nothing left to do;
-- whether it may overflow was asked for. The origin's device was flushed.
pub record IsGained {B : Type 0} (contents : B → List ℕ) (layers : B → List Layer) (size : B → ℕ) (number : ℕ) (overflow : Bool) (store : StoreDev B) (old new : Volumed B) : Type 0 where
  pub snap : Kept B
  pub becomes : new ≡ record old { origin = new.origin; snaps = old.snaps ++ snap ∷ []; attached = number }
  pub origin : IsTriedOrigin contents layers size old.origin new.origin
  pub flushed : layers new.origin ≡ layers_after (layers old.origin) Flushes
  pub number_is : snap.number ≡ number
  pub fresh : All (λ s. s.number ≢ number) old.snaps
  pub live : snap.live ≡ true
  pub stale : snap.stale ≡ false
  pub untried : snap.untried ≡ false
  pub overflow_is : snap.overflow ≡ overflow_of overflow
  pub copies : snap.copies ≡ []
  pub marks : snap.marks ≡ []
  pub sizes : size snap.device ≡ size store.device
  pub loud : is_loud (layers snap.device) ≡ is_loud (layers store.device)

-- a store was attached: the volume has one snapshot more, under this number
pub record IsAttachedAs {B : Type 0} (contents : B → List ℕ) (layers : B → List Layer) (number chunk : ℕ) (overflow : Bool) (store : StoreDev B) (old new : Volumed B) : Type 0 where
  pub exact : attached number chunk (overflow_of overflow) (store_of contents layers store) (volume_in contents layers old) ≡ record { volume = volume_in contents layers new; refused = None; back = None }
  pub snap : Kept B
  pub becomes : new ≡ record old { origin = new.origin; snaps = old.snaps ++ snap ∷ []; attached = number }
  pub number_is : snap.number ≡ number
  pub live : snap.live ≡ true
  pub stale : snap.stale ≡ false
  pub overflow_is : snap.overflow ≡ overflow_of overflow
  pub rests : (sectors : ℕ) (replied : Option Reply) → IsAtRest sectors (moving_of contents layers replied old) → IsAtRest sectors (moving_of contents layers replied new)
