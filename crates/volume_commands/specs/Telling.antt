-- A message to a layer of one device of a volume between two commands: that device has other layers, and nothing else
-- changes. What a message does to layers is said where layers are (`layers`).
use Rattle.std.specs.Prelude.{◌≡◌, ◌⊎◌, ℕ, List, Some, None, slice_index_or, slice_set}
use Rattle.sector.specs.declared.refusal.Refusal.{Refusal}
use Rattle.sector.specs.declared.refusal.Refusal.TheVariants.{NoMemory, NoSuchDevice}
use Rattle.device.specs.Layers.{Layer}
use Rattle.layers.specs.declared.message.Answer.{Answer}
use Rattle.layers.specs.declared.message.Message.{Message}
use Rattle.layers.specs.Messages.{Answered, Refused, NeedsRoom, told}
use Rattle.whole_commands.specs.Snaps.{Volume}
use Rattle.whole_commands.specs.Moments.{origin_relayered, store_relayered as snap_store_relayered}
use Rattle.whole_commands.specs.MergedMoments.{store_relayered}
use Rattle.merge.specs.Merging.{Merging}
use Rattle.volume_commands.specs.Rested.{Attached, Rested, snap_of, settled_of, merged_of}

-- other layers on the store of this snapshot, which stands at place k
abbrev pub place_relayered : {B : Type 0} → (B → List ℕ) → (B → List Layer) → ℕ → Attached B → List Layer → Volume → Volume
place_relayered contents layers k snap after v =
    record { origin = v.origin; snaps = slice_set v.snaps k (snap_store_relayered (λ ls. after) (snap_of contents layers snap)) }

-- the device under the origin answered
pub record IsOriginTold {B : Type 0} (contents : B → List ℕ) (layers : B → List Layer) (depth : ℕ) (message : Message) (answer : Answer) (old new : Rested B) : Type 0 where
  pub after : List Layer
  pub told_is : told (layers old.origin) depth message ≡ Answered answer after
  pub moved : settled_of contents layers new ≡ origin_relayered (λ ls. after) (settled_of contents layers old)

-- the store of the snapshot at place k answered
pub record IsStoreTold {B : Type 0} (contents : B → List ℕ) (layers : B → List Layer) (k depth : ℕ) (message : Message) (answer : Answer) (old new : Rested B) : Type 0 where
  pub after : List Layer
  pub told_is : (d : Attached B) → told (layers (slice_index_or old.snaps k d).store) depth message ≡ Answered answer after
  pub moved : (d : Attached B) → settled_of contents layers new ≡ place_relayered contents layers k (slice_index_or old.snaps k d) after (settled_of contents layers old)

-- these layers refuse a message, or room for a block is refused
abbrev pub IsTellRefused : List Layer → ℕ → Message → Refusal → Type 0
IsTellRefused ls depth message refusal = (told ls depth message ≡ Refused refusal) ⊎ ((refusal ≡ NoMemory) × NeedsRoom message (told ls depth message))

-- the merging store answered: it has other layers, and nothing else changes
pub record IsMergingTold {B : Type 0} (contents : B → List ℕ) (layers : B → List Layer) (depth : ℕ) (message : Message) (answer : Answer) (old new : Rested B) : Type 0 where
  pub merge : Merging B
  pub after : List Layer
  pub begun : old.events.merge ≡ Some merge
  pub told_is : told (layers merge.device) depth message ≡ Answered answer after
  pub moved : merged_of contents layers new ≡ record { volume = settled_of contents layers old; merge = store_relayered (λ ls. after) (merged_of contents layers old).merge }

-- or it refused; or no merge is begun
abbrev pub IsMergingUntold : {B : Type 0} → (B → List Layer) → ℕ → Message → Refusal → Rested B → Type 0
IsMergingUntold layers depth message refusal v =
    ((refusal ≡ NoSuchDevice) × (v.events.merge ≡ None)) ⊎ ((m : Merging _) × (v.events.merge ≡ Some m) × IsTellRefused (layers m.device) depth message refusal)
