-- To be believed: `run`'s output, a volume's steps or its attach are said in these words.
-- Time passes for the layers of a volume, or a message changes those of one device: nothing but layers changes. What either
-- does to layers is said where layers are (`layers`).
use Rattle.std.specs.Prelude.{◌==◌, ℕ, List, [], ◌∷◌, map, if◌then◌else◌}
use Rattle.device.specs.Layers.{Layer}
use Rattle.whole_commands.specs.Devices.{Device}
use Rattle.whole_commands.specs.Snaps.{Snap, Volume}

-- a device whose layers become others
abbrev pub relayered : (List Layer → List Layer) → Device → Device
relayered f device = record { bytes = device.bytes; layers = f device.layers }

abbrev pub store_relayered : (List Layer → List Layer) → Snap → Snap
store_relayered f s = record s { store = relayered f s.store }

-- the layers of every device
abbrev pub all_relayered : (List Layer → List Layer) → Volume → Volume
all_relayered f v = record { origin = relayered f v.origin; snaps = map (store_relayered f) v.snaps }

-- those of the origin's device
abbrev pub origin_relayered : (List Layer → List Layer) → Volume → Volume
origin_relayered f v = record { origin = relayered f v.origin; snaps = v.snaps }

-- those of one snapshot's store, the first that has the number
abbrev pub snap_relayered : ℕ → (List Layer → List Layer) → List Snap → List Snap
snap_relayered number f [] = []
snap_relayered number f (s ∷ snaps) = if s.number == number then store_relayered f s ∷ snaps else s ∷ snap_relayered number f snaps
