-- To be believed: `run`'s output, a volume's steps or its attach are said in these words.
-- The sizes of chunks. The kernel's snapshots take powers of two; the limit is this project's own.
use Rattle.std.specs.Prelude.{ℕ, Bool, ◌&&◌, nat_le}
use Rattle.std.specs.Int.{is_power_of_two}

-- a power of two from 1 to 1024
abbrev pub is_chunk : ℕ → Bool
is_chunk sectors = is_power_of_two sectors && nat_le sectors 1024
