-- To be believed: `run`'s output, a volume's steps or its attach are said in these words.
-- Chunks of an origin as copies see them. The last may be short: the rule of the kernel's snapshot target.
use Rattle.std.specs.Prelude.{ℕ, ◌*◌, ◌-◌, min}
use Rattle.sector.specs.declared.pair.Pair.{Pair}
use Rattle.in_flight.specs.declared.copies.ChunkCopy.{ChunkCopy}

-- how many sectors chunk c has, in chunks of `chunk` sectors of an origin of so many
abbrev pub count_of : ℕ → ℕ → ℕ → ℕ
count_of chunk origin c = min chunk (origin - chunk * c)

abbrev pub pair_of : ChunkCopy → Pair
pair_of copy = copy.pair
