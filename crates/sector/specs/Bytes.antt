-- To be believed: `run`'s output, a volume's steps or its attach are said in these words.
-- The array of a device: its bytes in order, 512 for each sector. All contents in contracts are such lists.
use Rattle.std.specs.Prelude.{ℕ, ◌+◌, ◌*◌, ◌%◌, ◌^◌, List, ◌++◌, length, take, drop}

-- the bytes of `count` sectors from `first` on
abbrev pub sectors_at : List ℕ → ℕ → ℕ → List ℕ
sectors_at bytes first count = take (512 * count) (drop (512 * first) bytes)

-- the bytes with these in place from an offset on
abbrev pub with_part : List ℕ → ℕ → List ℕ → List ℕ
with_part bytes at part = take at bytes ++ (part ++ drop (at + length part) bytes)

-- the bytes with these written from sector `first` on
abbrev pub with_sectors : List ℕ → ℕ → List ℕ → List ℕ
with_sectors bytes first new = with_part bytes (512 * first) new

-- one sector
abbrev pub sector_at : List ℕ → ℕ → List ℕ
sector_at bytes s = take 512 (drop (512 * s) bytes)

-- the next value of a count of 64 bits
abbrev pub next_count : ℕ → ℕ
next_count n = (n + 1) % 2 ^ 64
