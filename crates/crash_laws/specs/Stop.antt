-- What a stop may leave of a device: each sector holds a value that the device may hold there, each by itself.
use Rattle.std.specs.Prelude.{◌≡◌, ◌⊎◌, ℕ, ◌*◌, ◌<◌, List, length}
use Rattle.sector.specs.Bytes.{sector_at}

-- contents each of whose sectors may be left, each by itself
pub record MayLeave (holds : ℕ → List ℕ → Type 0) (size : ℕ) (bytes : List ℕ) : Type 0 where
  pub whole : length bytes ≡ 512 * size
  pub each : (s : ℕ) → s < size → holds s (sector_at bytes s)

-- nothing but what is there: a disk that writes through
abbrev pub HoldsNow : List ℕ → ℕ → List ℕ → Type 0
HoldsNow bytes s v = v ≡ sector_at bytes s

-- before, within or after one operation
abbrev pub Within : (ℕ → List ℕ → Type 0) → (ℕ → List ℕ → Type 0) → ℕ → List ℕ → Type 0
Within old new s v = old s v ⊎ new s v

-- what a stop leaves within a write of a disk that writes through: each sector is old or new
abbrev pub IsTorn : ℕ → List ℕ → List ℕ → List ℕ → Type 0
IsTorn size old new torn = MayLeave (Within (HoldsNow old) (HoldsNow new)) size torn
