-- To be believed: `run`'s output, a volume's steps or its attach are said in these words.
-- The place of a store that is handed out next. The rule gives the kernel's numbers; it is stated without a counter.
use Rattle.std.specs.Prelude.{◌≡◌, ℕ, ◌+◌, ◌*◌, ◌<◌, ◌≤◌, List, false, if◌then◌else◌}
use Rattle.std.specs.List.{All}
use Rattle.cow_format.specs.Places.{is_area_place, area_place}

-- the least chunk from 2 on that is no area's place and is greater than each of these, the new chunks of pairs and copies
pub record IsNextPlace (chunk : ℕ) (taken : List ℕ) (n : ℕ) : Type 0 where
  pub low : 2 ≤ n
  pub free : is_area_place chunk n ≡ false
  pub past : All (λ k. k < n) taken
  pub least : (m : ℕ) → 2 ≤ m → is_area_place chunk m ≡ false → All (λ k. k < m) taken → n ≤ m

-- a store of so many sectors is full where its next place is not wholly inside it
abbrev pub IsFull : ℕ → ℕ → ℕ → Type 0
IsFull chunk store next = store < chunk * (next + 1)

-- it lacks an area where the one that has to be zeroed next is not wholly inside it
abbrev pub LacksArea : ℕ → ℕ → ℕ → Type 0
LacksArea chunk store area = store < chunk * (area_place chunk area + 1)

-- a chunk, or the one after it where it is an area's
abbrev pub stepped : ℕ → ℕ → ℕ
stepped chunk n = if is_area_place chunk n then n + 1 else n
