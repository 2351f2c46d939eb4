-- What the form of a chunk's size says of its value.
use Rattle.std.proofs.Common.{◌≡◌, ℕ, ◌<◌, ◌≤◌, true, arith}
use Rattle.std.specs.Prelude.{count_ones}
use Rattle.std.proofs.lemmas.Nat.{ones_le_self}
use borrow.Author.Tests.{tests}
use Rattle.chunk.specs.Sizes.{is_chunk}

-- a chunk has a sector at least
pub is_chunk-some : (n : ℕ) → is_chunk n ≡ true → 0 < n
is_chunk-some n h = let few : count_ones n ≤ n = ones_le_self n in grind (arith, tests)

-- and 1024 at most
pub is_chunk-small : (n : ℕ) → is_chunk n ≡ true → n ≤ 1024
is_chunk-small n h = grind (arith, tests)
