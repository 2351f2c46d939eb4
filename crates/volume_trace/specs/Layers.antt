-- What a trace says of layers: of a flakey layer that is down at times, and of a dust layer that is enabled or has a bad block. The
-- form is this project's own.
use Rattle.std.specs.Prelude.{ℕ, ◌+◌, ◌==◌, Bool, true, false, ◌||◌, if◌then◌else◌, nat_lt, List, [], ◌∷◌, ◌++◌, length, codes, decimal}
use Rattle.device.specs.Layers.{Layer, Flaky, Dusty, Window}
use Rattle.volume_trace.specs.Trace.{item_of}

-- the line of a layer: its name, and its one item
abbrev pub layer_line : List ℕ → List (List ℕ) → List ℕ
layer_line name words = name ++ item_of words ++ codes "\n"

-- whether a flakey layer passes all, so many seconds after its `up` began
abbrev pub flakey_word : ℕ → ℕ → List ℕ
flakey_word moment up = if nat_lt moment up then codes "up" else codes "down"

abbrev pub flakey_words : ℕ → ℕ → ℕ → List (List ℕ)
flakey_words moment up down = codes "flakey" ∷ flakey_word moment up ∷ decimal moment ∷ codes "of" ∷ decimal (up + down) ∷ []

-- whether a dust layer fails reads of bad blocks
abbrev pub dust_word : Bool → List ℕ
dust_word on = if on then codes "enabled" else codes "disabled"

abbrev pub dust_words : Bool → List ℕ → List (List ℕ)
dust_words on bad = codes "dust" ∷ dust_word on ∷ decimal (length bad) ∷ codes "bad" ∷ []

abbrev pub dust_text : List ℕ → Bool → List ℕ → List ℕ
dust_text name false [] = []
dust_text name false (b ∷ bad) = layer_line name (dust_words false (b ∷ bad))
dust_text name true bad = layer_line name (dust_words true bad)

-- A layer that may fail, by its name: a flakey layer that is down at times, at which second it is of how many; a dust layer that is
-- enabled or has a bad block. Of any other nothing is said.
abbrev pub layer_text : List ℕ → Layer → List ℕ
layer_text name (Flaky moment up down features offset) = if down == 0 then [] else layer_line name (flakey_words moment up down)
layer_text name (Dusty sectors size on bad) = dust_text name on bad
layer_text name layer = []

-- those of a stack, from the top; a window has no name
abbrev pub layers_text : List Layer → List (List ℕ) → List ℕ
layers_text [] names = []
layers_text (Window aside ∷ layers) names = layers_text layers names
layers_text (layer ∷ layers) [] = []
layers_text (layer ∷ layers) (name ∷ names) = layer_text name layer ++ layers_text layers names
