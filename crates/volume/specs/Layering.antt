-- The layers of a volume's devices become others, by the time or by a message, and nothing else: no request, no copy and no
-- byte. What becomes of layers is said where layers are (`layers`).
use Rattle.std.specs.Prelude.{◌≡◌, ℕ, ◌<◌, List, Option, Some, None, length, map, slice_index_or}
use Rattle.device.specs.Layers.{Layer}
use Rattle.layers.specs.Ticks.{layers_ticked}
use Rattle.event_machine.specs.Held.{SnapHeld, MergeHeld, Moving, on_device}
use Rattle.whole_commands.specs.Moments.{relayered, store_relayered}
use Rattle.store.specs.Layering.{IsRelayered}
use Rattle.snapshot.specs.Kept.{Kept}
use Rattle.merge.specs.Merging.{Merging}
use Rattle.volume.specs.Volumed.{Volumed}

-- what a device has besides its layers
pub record Measures (B : Type 0) : Type 0 where
  pub contents : B → List ℕ
  pub durable : B → List ℕ
  pub size : B → ℕ
  pub faults : B → ℕ
  pub done : B → ℕ

-- a device after so many seconds
pub record IsLater {B : Type 0} (m : Measures B) (layers : B → List Layer) (seconds : ℕ) (old new : B) : Type 0 where
  pub moved : layers new ≡ layers_ticked seconds (layers old)
  pub rest : IsRelayered m.contents m.durable m.size m.faults m.done old new

-- a snapshot after so many seconds
pub record IsSnapLater {B : Type 0} (m : Measures B) (layers : B → List Layer) (seconds : ℕ) (s t : Kept B) : Type 0 where
  pub store : IsLater m layers seconds s.device t.device
  pub same : t ≡ record s { device = t.device }

-- a merge after so many seconds
abbrev pub IsMergeLater : {B : Type 0} → Measures B → (B → List Layer) → ℕ → Option (Merging B) → Option (Merging B) → Type 0
IsMergeLater m layers seconds None None = Unit {0}
IsMergeLater m layers seconds None (Some y) = ⊥
IsMergeLater m layers seconds (Some x) None = ⊥
IsMergeLater m layers seconds (Some x) (Some y) = IsLater m layers seconds x.device y.device × (y ≡ record x { device = y.device })

-- a volume after so many seconds
pub record IsTicked {B : Type 0} (m : Measures B) (layers : B → List Layer) (seconds : ℕ) (old new : Volumed B) : Type 0 where
  pub origin : IsLater m layers seconds old.origin new.origin
  pub count : length new.snaps ≡ length old.snaps
  pub snaps : (k : ℕ) (d : Kept B) → k < length old.snaps → IsSnapLater m layers seconds (slice_index_or old.snaps k d) (slice_index_or new.snaps k d)
  pub merge : IsMergeLater m layers seconds old.merge new.merge
  pub becomes : new ≡ record old { origin = new.origin; snaps = new.snaps; merge = new.merge }

-- the event machine, with other layers on every device
abbrev pub held_relayered : (List Layer → List Layer) → SnapHeld → SnapHeld
held_relayered f h = record h { snap = store_relayered f h.snap }

abbrev pub merge_relayered : (List Layer → List Layer) → MergeHeld → MergeHeld
merge_relayered f m = on_device m (relayered f m.merge.store)

abbrev pub merging_relayered : (List Layer → List Layer) → Option MergeHeld → Option MergeHeld
merging_relayered f None = None
merging_relayered f (Some m) = Some (merge_relayered f m)

abbrev pub moving_relayered : (List Layer → List Layer) → Moving → Moving
moving_relayered f v = record v { origin = relayered f v.origin; snaps = map (held_relayered f) v.snaps; merge = merging_relayered f v.merge }
