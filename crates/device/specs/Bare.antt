-- Devices without layers: what a stop may leave in their sectors, and which there are. This project's own.
use Rattle.std.specs.Prelude.{◌≡◌, ◌⊎◌, ℕ, ◌+◌, ◌%◌, ◌^◌, ◌&&◌, Bool, true, false, List, [], ◌∷◌}
use Rattle.sector.specs.Bytes.{sector_at}
use Rattle.device.specs.Layers.{Layer}

-- whether no layer stands above a device
abbrev pub is_bare : List Layer → Bool
is_bare [] = true
is_bare (layer ∷ layers) = false

-- whether a device copies a run of another: their kind does so, and no layer stands above either
abbrev pub can_copy_run : Bool → List Layer → List Layer → Bool
can_copy_run copies_runs to from = copies_runs && (is_bare to && is_bare from)

-- the value of a count of 64 bits after so many more
abbrev pub count_after : ℕ → ℕ → ℕ
count_after count more = (count + more) % 2 ^ 64

-- A stop may leave in a sector what is there or what was there at the last flush, and nothing else.
pub record HoldsTwo (holds : ℕ → List ℕ → Type 0) (now flushed : List ℕ) : Type 0 where
  pub only : (s : ℕ) (v : List ℕ) → holds s v → (v ≡ sector_at now s) ⊎ (v ≡ sector_at flushed s)
  pub holds_now : (s : ℕ) → holds s (sector_at now s)
  pub holds_flushed : (s : ℕ) → holds s (sector_at flushed s)

-- There is a device like this one, with these bytes, which did so many operations.
pub record HasLike {B : Type 0} (size : B → ℕ) (contents durable : B → List ℕ) (layers : B → List Layer) (faults done : B → ℕ) (d : B) (bytes : List ℕ) (count : ℕ) : Type 0 where
  pub like : B
  pub bytes_are : contents like ≡ bytes
  pub flushed : durable like ≡ durable d
  pub bare : layers like ≡ []
  pub sized : size like ≡ size d
  pub faulty : faults like ≡ faults d
  pub counted : done like ≡ count
