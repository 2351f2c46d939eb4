-- To be believed: `run`'s output, a volume's steps or its attach are said in these words.
-- The slots of an area, 16 bytes each: the old chunk and the new chunk of a pair, as the format of dm-snap-persistent.c has them.
use Rattle.std.specs.Prelude.{ℕ, ◌+◌, ◌*◌, List, ◌++◌}
use Rattle.sector.specs.Bytes.{with_part}
use Rattle.sector.specs.Number.{number_at, number_bytes}
use Rattle.sector.specs.declared.pair.Pair.{Pair}

-- the pair of a slot
abbrev pub pair_in : List ℕ → ℕ → Pair
pair_in area slot = record { old = number_at area (16 * slot) 8; new = number_at area (16 * slot + 8) 8 }

-- the bytes of a pair
abbrev pub pair_bytes : Pair → List ℕ
pair_bytes pair = number_bytes 8 pair.old ++ number_bytes 8 pair.new

-- an area with a pair in a slot
abbrev pub with_pair : List ℕ → ℕ → Pair → List ℕ
with_pair area slot pair = with_part area (16 * slot) (pair_bytes pair)
