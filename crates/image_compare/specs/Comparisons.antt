-- To be believed: what `compare` tells is said in these words.
-- In which byte two lists differ first, and in how many sectors. As cmp of POSIX has it: where one is a front of the other, the end of
-- that is where they differ.
use Rattle.std.specs.Prelude.{◌≡◌, ℕ, ◌+◌, ◌*◌, ◌<◌, Bool, List, take, map, Option, Some, None, if◌then◌else◌}
use Rattle.std.specs.List.{range_with_len, sum_by}
use Rattle.std.specs.Str.{bytes_eq}
use Rattle.sector.specs.Bytes.{sector_at}
use Rattle.image_compare.specs.declared.comparing.Compared.{Compared}
use Rattle.image_compare.specs.declared.piece.Front.{Front}

-- so many bytes at the front of both are the same
abbrev pub AreAlike : List ℕ → List ℕ → ℕ → Type 0
AreAlike a b n = take n a ≡ take n b

-- the first byte in which they differ: up to it they are alike, with it no more
abbrev pub IsFirstDifference : List ℕ → List ℕ → Option ℕ → Type 0
IsFirstDifference a b None = a ≡ b
IsFirstDifference a b (Some i) = AreAlike a b i × (AreAlike a b (i + 1) → ⊥)

-- whether they have the same sector at a place
abbrev pub is_same : List ℕ → List ℕ → ℕ → Bool
is_same a b s = bytes_eq (sector_at a s) (sector_at b s)

-- in how many of so many sectors at the front they differ
abbrev pub differing : List ℕ → List ℕ → ℕ → ℕ
differing a b n = sum_by (λ same. if same then 0 else 1) (map (is_same a b) (range_with_len 0 n))

-- Two lists are compared, which both have so many sectors.
pub record IsComparison (a b : List ℕ) (both : ℕ) (found : Compared) : Type 0 where
  pub first : IsFirstDifference a b found.first
  pub sectors : found.differing ≡ differing a b both

-- what is known of so many sectors at the front of two lists
abbrev pub IsFirstIn : List ℕ → List ℕ → ℕ → Option ℕ → Type 0
IsFirstIn a b n None = AreAlike a b n
IsFirstIn a b n (Some i) = (i < n) × IsFirstDifference a b (Some i)

pub record IsFront (a b : List ℕ) (n : ℕ) (front : Front) : Type 0 where
  pub first : IsFirstIn a b (512 * n) front.first
  pub sectors : front.differing ≡ differing a b n
