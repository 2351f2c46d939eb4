-- To be believed: where a read of what a snapshot shows may fail. It may where a read of the copies there, or of the origin's
-- own bytes, may.
use Rattle.std.specs.Prelude.{ℕ, ◌+◌, ◌*◌, ◌^◌, ◌≤◌, ◌⊎◌, List, Option, Some, None}
use Rattle.sector.specs.declared.pair.Pair.{Pair}
use Rattle.cow_format.specs.Picture.{place_of}

-- a read of an image may fail; it does where it begins behind all bytes that have numbers
abbrev pub ReadFails : (ℕ → ℕ → Type 0) → ℕ → ℕ → Type 0
ReadFails may_fail at count = (2 ^ 64 ≤ at) ⊎ may_fail at count

-- a read of so many bytes from one of a chunk on may fail, where the chunk's copy is in this place, or none is
abbrev pub PlaceFails : (ℕ → ℕ → Type 0) → (ℕ → ℕ → Type 0) → ℕ → ℕ → ℕ → ℕ → Option ℕ → Type 0
PlaceFails origin cow chunk number inside count None = ReadFails origin (512 * chunk * number + inside) count
PlaceFails origin cow chunk number inside count (Some place) = ReadFails cow (512 * chunk * place + inside) count

-- a read of some of so many bytes, from one on, may fail
abbrev pub ShownFails : (ℕ → ℕ → Type 0) → (ℕ → ℕ → Type 0) → ℕ → List Pair → ℕ → ℕ → Type 0
ShownFails origin cow chunk pairs at count =
    (number : ℕ) × (inside : ℕ) × (n : ℕ) × (at ≤ 512 * (chunk * number) + inside) × (512 * (chunk * number) + inside + n ≤ at + count) × PlaceFails origin cow chunk number inside n (place_of pairs number)
