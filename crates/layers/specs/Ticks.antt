-- To be believed: `run`'s output, a volume's steps or its attach are said in these words.
-- What the time does to layers. Source: the kernel's page on dm-flakey.
use Rattle.std.specs.Prelude.{ℕ, ◌+◌, ◌%◌, List, [], ◌∷◌}
use Rattle.device.specs.Layers.{Layer, Flaky}

-- a layer so many seconds later: a flakey layer keeps its moment by the remainder of its period
abbrev pub ticked : ℕ → Layer → Layer
ticked n (Flaky moment up down features offset) = Flaky ((moment + n) % (up + down)) up down features offset
ticked n l = l

-- all of them
abbrev pub layers_ticked : ℕ → List Layer → List Layer
layers_ticked n [] = []
layers_ticked n (l ∷ ls) = ticked n l ∷ layers_ticked n ls
