-- A message to a layer of one of a volume's devices: the layers of that device become others, and nothing else changes. What
-- a message does to layers is said where layers are (`layers`); the order of the refusals is this project's own.
use Rattle.std.specs.Prelude.{◌≡◌, ◌≢◌, ◌⊎◌, ◌==◌, ℕ, List, [], ◌∷◌, Option, Some, None, if◌then◌else◌, slice_index_or, slice_set}
use Rattle.sector.specs.declared.refusal.Refusal.{Refusal}
use Rattle.sector.specs.declared.refusal.Refusal.TheVariants.{NoMemory, NoSuchDevice}
use Rattle.device.specs.Layers.{Layer}
use Rattle.layers.specs.declared.message.Answer.{Answer}
use Rattle.layers.specs.declared.message.Message.{Message}
use Rattle.layers.specs.Messages.{Told, Answered, Refused, NeedsRoom, answer_of, told}
use Rattle.plain_machine.specs.declared.request.Dev.{Dev}
use Rattle.plain_machine.specs.declared.request.Dev.TheVariants.{Origin, Snap}
use Rattle.event_machine.specs.Held.{SnapHeld, MergeHeld, Moving}
use Rattle.event_machine.specs.MergeRest.{merged_of}
use Rattle.whole_commands.specs.Moments.{relayered, origin_relayered, snap_relayered}
use Rattle.whole_commands.specs.Snaps.{Snap as SettledSnap, Volume}
use Rattle.whole_commands.specs.Merges.{Merge, Merged}
use Rattle.store.specs.Layering.{IsRelayered}
use Rattle.snapshot.specs.Kept.{Kept}
use Rattle.merge.specs.Merging.{Merging}
use Rattle.volume.specs.Volumed.{Volumed}
use Rattle.volume.specs.Moved.{moving_of}
use Rattle.snapshot_list.specs.Finding.{place_of_snap}
use Rattle.volume.specs.Layering.{Measures, held_relayered, merge_relayered}

-- the layers that a message leaves: where it is refused, those that there were
abbrev pub layers_left : List Layer → Told (List Layer) → List Layer
layers_left before (Refused r) = before
layers_left before (Answered a after) = after

abbrev pub layers_told : ℕ → Message → List Layer → List Layer
layers_told depth message ls = layers_left ls (told ls depth message)

-- the layers of the store of the first snapshot that has a number
abbrev pub store_layers : ℕ → List SettledSnap → Option (List Layer)
store_layers number [] = None
store_layers number (s ∷ snaps) = if s.number == number then Some s.store.layers else store_layers number snaps

-- of the merging store, where its snapshot has the number
abbrev pub merging_layers : ℕ → Option Merge → Option (List Layer)
merging_layers number None = None
merging_layers number (Some m) = if m.number == number then Some m.store.layers else None

abbrev pub layers_or : Option (List Layer) → Option (List Layer) → Option (List Layer)
layers_or None others = others
layers_or (Some ls) others = Some ls

-- the layers of the device under the origin, or of a snapshot's store, also of the one that is being merged
abbrev pub layers_under : Dev → Merged → Option (List Layer)
layers_under Origin v = Some v.volume.origin.layers
layers_under (Snap number) v = layers_or (store_layers number v.volume.snaps) (merging_layers number v.merge)

abbrev pub told_under : Option (List Layer) → ℕ → Message → Told (List Layer)
told_under None depth message = Refused NoSuchDevice
told_under (Some ls) depth message = told ls depth message

-- a message to the layer at a depth of one of a volume's devices
abbrev pub volume_told : Dev → ℕ → Message → Merged → Told (List Layer)
volume_told dev depth message v = told_under (layers_under dev v) depth message

-- a volume's devices and snapshots, with its merge
abbrev pub merged_in : {B : Type 0} → (B → List ℕ) → (B → List Layer) → Volumed B → Merged
merged_in contents layers v = merged_of (moving_of contents layers None v)

-- the event machine, with other layers on the store of the first snapshot that has a number
abbrev pub helds_relayered : ℕ → (List Layer → List Layer) → List SnapHeld → List SnapHeld
helds_relayered number f [] = []
helds_relayered number f (h ∷ snaps) = if h.snap.number == number then held_relayered f h ∷ snaps else h ∷ helds_relayered number f snaps

-- and on the merging store, where its snapshot has the number
abbrev pub numbered_relayered : ℕ → (List Layer → List Layer) → Option MergeHeld → Option MergeHeld
numbered_relayered number f None = None
numbered_relayered number f (Some m) = if m.merge.number == number then Some (merge_relayered f m) else Some m

-- and on one of its devices
abbrev pub dev_relayered : Dev → (List Layer → List Layer) → Moving → Moving
dev_relayered Origin f v = record v { origin = relayered f v.origin }
dev_relayered (Snap number) f v = record v { snaps = helds_relayered number f v.snaps; merge = numbered_relayered number f v.merge }

-- and the settled machine's volume
abbrev pub volume_relayered : Dev → (List Layer → List Layer) → Volume → Volume
volume_relayered Origin f v = origin_relayered f v
volume_relayered (Snap number) f v = record { origin = v.origin; snaps = snap_relayered number f v.snaps }

-- a device whose layers become others, by f
pub record IsRelayeredBy {B : Type 0} (m : Measures B) (layers : B → List Layer) (f : List Layer → List Layer) (old new : B) : Type 0 where
  pub layers_are : layers new ≡ f (layers old)
  pub rest : IsRelayered m.contents m.durable m.size m.faults m.done old new

-- the device under the origin
pub record IsOriginRelayered {B : Type 0} (m : Measures B) (layers : B → List Layer) (f : List Layer → List Layer) (old new : Volumed B) : Type 0 where
  pub device : IsRelayeredBy m layers f old.origin new.origin
  pub becomes : new ≡ record old { origin = new.origin }

-- no snapshot of this number is being merged
abbrev pub IsNotMerging : {B : Type 0} → ℕ → Option (Merging B) → Type 0
IsNotMerging {B} number merge = (g : Merging B) → merge ≡ Some g → g.number ≢ number

-- the store of the first snapshot that has a number
pub record IsSnapRelayered {B : Type 0} (m : Measures B) (layers : B → List Layer) (number : ℕ) (f : List Layer → List Layer) (old new : Volumed B) : Type 0 where
  pub place : ℕ
  pub snap : Kept B
  pub device : B
  pub found : place_of_snap number old.snaps ≡ Some place
  pub is : snap ≡ slice_index_or old.snaps place snap
  pub other : IsNotMerging number old.merge
  pub relayered_is : IsRelayeredBy m layers f snap.device device
  pub becomes : new ≡ record old { snaps = slice_set old.snaps place (record snap { device = device }) }

-- the merging store, whose snapshot has the number
pub record IsMergeRelayered {B : Type 0} (m : Measures B) (layers : B → List Layer) (number : ℕ) (f : List Layer → List Layer) (old new : Volumed B) : Type 0 where
  pub merge : Merging B
  pub device : B
  pub none : place_of_snap number old.snaps ≡ None
  pub is : old.merge ≡ Some merge
  pub mine : merge.number ≡ number
  pub relayered_is : IsRelayeredBy m layers f merge.device device
  pub becomes : new ≡ record old { merge = Some (record merge { device = device }) }

abbrev pub IsRelayeredAt : {B : Type 0} → Measures B → (B → List Layer) → Dev → (List Layer → List Layer) → Volumed B → Volumed B → Type 0
IsRelayeredAt m layers Origin f old new = IsOriginRelayered m layers f old new
IsRelayeredAt m layers (Snap number) f old new = IsSnapRelayered m layers number f old new ⊎ IsMergeRelayered m layers number f old new

-- a message was answered
pub record IsTold {B : Type 0} (m : Measures B) (layers : B → List Layer) (dev : Dev) (depth : ℕ) (message : Message) (answer : Answer) (old new : Volumed B) : Type 0 where
  pub answer_is : answer_of (volume_told dev depth message (merged_in m.contents layers old)) ≡ Some answer
  pub device : IsRelayeredAt m layers dev (layers_told depth message) old new

-- A message was refused, and no layer, no byte, no count and nothing in memory changed.
pub record IsNotTold {B : Type 0} (m : Measures B) (layers : B → List Layer) (dev : Dev) (depth : ℕ) (message : Message) (refusal : Refusal) (old new : Volumed B) : Type 0 where
  pub why : (volume_told dev depth message (merged_in m.contents layers old) ≡ Refused refusal)
      ⊎ ((refusal ≡ NoMemory) × NeedsRoom message (volume_told dev depth message (merged_in m.contents layers old)))
  pub same : (new ≡ old) ⊎ IsRelayeredAt m layers dev (λ ls. ls) old new

-- why a message to these layers is refused
abbrev pub IsRefusal : List Layer → ℕ → Message → Refusal → Type 0
IsRefusal ls depth message refusal = (told ls depth message ≡ Refused refusal) ⊎ ((refusal ≡ NoMemory) × NeedsRoom message (told ls depth message))

-- the store of a merge, whose snapshot has the number, with layers that may be others
pub record IsMergeMet {B : Type 0} (m : Measures B) (number : ℕ) (merge : Merging B) (old new : Option (Merging B)) : Type 0 where
  pub device : B
  pub is : old ≡ Some merge
  pub mine : merge.number ≡ number
  pub rest : IsRelayered m.contents m.durable m.size m.faults m.done merge.device device
  pub becomes : new ≡ Some (record merge { device = device })

-- it was told a message
pub record IsMergeTold {B : Type 0} (m : Measures B) (layers : B → List Layer) (number depth : ℕ) (message : Message) (answer : Answer) (old new : Option (Merging B)) : Type 0 where
  pub merge : Merging B
  pub met : IsMergeMet m number merge old new
  pub told_is : told (layers merge.device) depth message ≡ Answered answer (layers met.device)

pub record IsMergeUntold {B : Type 0} (m : Measures B) (layers : B → List Layer) (number depth : ℕ) (message : Message) (refusal : Refusal) (old new : Option (Merging B)) : Type 0 where
  pub merge : Merging B
  pub met : IsMergeMet m number merge old new
  pub why : IsRefusal (layers merge.device) depth message refusal
  pub same : layers met.device ≡ layers merge.device

-- it was not, or there is none
abbrev pub IsMergeNotTold : {B : Type 0} → Measures B → (B → List Layer) → ℕ → ℕ → Message → Refusal → Option (Merging B) → Option (Merging B) → Type 0
IsMergeNotTold m layers number depth message refusal old new =
    ((refusal ≡ NoSuchDevice) × IsNotMerging number old × (new ≡ old)) ⊎ IsMergeUntold m layers number depth message refusal old new
