-- What an operation counts, and what it leaves of the layers that do all that they answer, in phrases. This project's own.
use Rattle.std.specs.Prelude.{◌≡◌, ℕ, List}
use Rattle.sector.specs.Bytes.{next_count}
use Rattle.device.specs.Layers.{Layer, is_loud}

-- one more is counted
abbrev pub CountsOne : {B : Type 0} → (B → ℕ) → B → B → Type 0
CountsOne count old new = count new ≡ next_count (count old)

-- the layers do all that they answer where they did so before, and only there
abbrev pub IsAsLoud : {B : Type 0} → (B → List Layer) → B → B → Type 0
IsAsLoud layers old new = is_loud (layers new) ≡ is_loud (layers old)
