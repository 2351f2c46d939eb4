-- Bytes with zeros behind them, so that their last chunk is whole.
use Rattle.std.specs.Prelude.{ℕ, ◌==◌, List, ◌++◌, length, replicate, Option, Some, None, if◌then◌else◌}

-- as many zeros as the largest chunk has bytes
unfoldable pub padded : List ℕ → List ℕ
padded bytes = bytes ++ replicate 524_288 0

-- the bytes that are known, where they are so many
abbrev pub known_padded : ℕ → Option (List ℕ) → Option (List ℕ)
known_padded end None = None
known_padded end (Some bytes) = if length bytes == end then Some (padded bytes) else None
