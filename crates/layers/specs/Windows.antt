-- To be believed: `run`'s output, a volume's steps or its attach are said in these words.
-- What lies beside the bytes that a layer shows of the device below it, and so all bytes of the device at the bottom. A
-- layer is followed by its window, then by the layers below.
use Rattle.std.specs.Prelude.{ℕ, ◌+◌, ◌*◌, Bool, true, false, Option, Some, None, List, [], ◌∷◌, ◌++◌, take, drop}
use Rattle.device.specs.Layers.{Layer, Broken, Window, Beside}

-- what lies beside some sectors of a device
abbrev pub beside : List ℕ → ℕ → ℕ → Beside
beside bytes first count = record { before = take (512 * first) bytes; after = drop (512 * (first + count)) bytes }

-- all bytes of a device, of the bytes that a layer shows of it and those beside them
abbrev pub all_of : Beside → List ℕ → List ℕ
all_of aside bytes = aside.before ++ (bytes ++ aside.after)

-- the bytes below one layer, of those that it shows
abbrev pub widened : Layer → List ℕ → List ℕ
widened (Window aside) bytes = all_of aside bytes
widened l bytes = bytes

-- the bytes of the device at the bottom, of the layers above it and the bytes that they show
abbrev pub raw_of : List Layer → List ℕ → List ℕ
raw_of [] bytes = bytes
raw_of (l ∷ ls) bytes = raw_of ls (widened l bytes)

-- whether there is a disk at the bottom
abbrev pub has_disk : List Layer → Bool
has_disk [] = true
has_disk (Broken ∷ ls) = false
has_disk (l ∷ ls) = has_disk ls

-- the layers themselves, without the windows
abbrev pub without_windows : List Layer → List Layer
without_windows [] = []
without_windows (Window aside ∷ ls) = without_windows ls
without_windows (l ∷ ls) = l ∷ without_windows ls

-- the layers that are left when the top layer is taken away; there are none below a disk or an error layer
abbrev pub layers_below : List Layer → Option (List Layer)
layers_below (l ∷ Window aside ∷ ls) = Some ls
layers_below ls = None

-- and the bytes that they show
abbrev pub bytes_below : List Layer → List ℕ → List ℕ
bytes_below (l ∷ Window aside ∷ ls) bytes = all_of aside bytes
bytes_below ls bytes = bytes
