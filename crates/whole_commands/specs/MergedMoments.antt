-- To be believed: `run`'s output, a volume's steps or its attach are said in these words.
-- Time passes for the layers of a volume that may have a merge begun, or a message changes those of its merging store.
use Rattle.std.specs.Prelude.{List, Option, Some, None}
use Rattle.device.specs.Layers.{Layer}
use Rattle.whole_commands.specs.Merges.{Merge, Merged}
use Rattle.whole_commands.specs.Moments.{relayered, all_relayered}

-- other layers on the merging store
abbrev pub merge_relayered : (List Layer → List Layer) → Merge → Merge
merge_relayered f g = record g { store = relayered f g.store }

abbrev pub store_relayered : (List Layer → List Layer) → Option Merge → Option Merge
store_relayered f None = None
store_relayered f (Some g) = Some (merge_relayered f g)

-- the layers of every device, those of the merging store among them
abbrev pub merged_relayered : (List Layer → List Layer) → Merged → Merged
merged_relayered f m = record { volume = all_relayered f m.volume; merge = store_relayered f m.merge }
