-- A write that a stop tears: each of its sectors is old or new, each by itself, as a list tells.
-- That a write is torn between sectors, and not within one, is this project's choice.
use Rattle.std.specs.Prelude.{◌≡◌, ◌⊎◌, ℕ, ◌+◌, ◌<◌, ◌≤◌, Bool, true, false, List, length, get_or}
use Rattle.sector.specs.Bytes.{sector_at}

-- whether the i-th sector of the write is new: those past the end of the list are old
abbrev pub is_new : List Bool → ℕ → Bool
is_new new i = get_or new i false

-- a disk's bytes before a write of `count` sectors from `first` on, and after it was torn
pub record IsTornBy (new : List Bool) (first count : ℕ) (bytes before after : List ℕ) : Type 0 where
  pub whole : length after ≡ length before
  pub written : (i : ℕ) → i < count → is_new new i ≡ true → sector_at after (first + i) ≡ sector_at bytes i
  pub kept : (i : ℕ) → i < count → is_new new i ≡ false → sector_at after (first + i) ≡ sector_at before (first + i)
  pub rest : (s : ℕ) → (s < first) ⊎ (first + count ≤ s) → sector_at after s ≡ sector_at before s
