-- A part of an image that was read ahead.
use Rattle.std.specs.Prelude.{◌≡◌, ℕ, ◌+◌, ◌≤◌, List, length, take, drop, Option, Some}

-- these bytes are those of an image from a byte on
pub record StandAt (bytes : List ℕ) (at : ℕ) (window : List ℕ) : Type 0 where
  pub inside : at + length window ≤ length bytes
  pub same : window ≡ take (length window) (drop at bytes)

-- where a window was read, and the image's bytes are known, it has those
abbrev pub IsWindowOf : Option (List ℕ) → Option ℕ → List ℕ → Type 0
IsWindowOf bytes at window = (b : List ℕ) → (a : ℕ) → bytes ≡ Some b → at ≡ Some a → StandAt b a window
