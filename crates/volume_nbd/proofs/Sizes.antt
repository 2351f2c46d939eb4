-- A chunk has a sector.
use Rattle.std.proofs.Common.{◌≡◌, ◌<◌, ℕ, true}
use Rattle.chunk.specs.Sizes.{is_chunk}
use Rattle.chunk.proofs.Limits.{is_chunk-some}

pub chunk_some : (n : ℕ) → is_chunk n ≡ true → 0 < n
chunk_some n e = is_chunk-some n e
