-- Disks with caches: what a device may hold after one operation, and that it holds nothing but what is there.
use Rattle.std.specs.Prelude.{◌≡◌, ◌⊎◌, ℕ, ◌<◌, List}
use Rattle.sector.specs.Bytes.{sector_at}

-- a device may hold nothing in a sector but what is there
abbrev pub IsFirmAt : (ℕ → List ℕ → Type 0) → List ℕ → ℕ → Type 0
IsFirmAt holds now s = (v : List ℕ) → holds s v → v ≡ sector_at now s

-- nor in any
abbrev pub IsFirm : (ℕ → List ℕ → Type 0) → List ℕ → ℕ → Type 0
IsFirm holds now size = (s : ℕ) → s < size → IsFirmAt holds now s

-- after an operation a device may hold what it might hold before, or what is there now
abbrev pub AddsNow : (ℕ → List ℕ → Type 0) → (ℕ → List ℕ → Type 0) → List ℕ → Type 0
AddsNow old new now = (s : ℕ) (v : List ℕ) → new s v → old s v ⊎ (v ≡ sector_at now s)
