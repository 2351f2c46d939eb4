-- Where the pieces of a range lie.
use Rattle.std.proofs.Common.{◌≡◌, ℕ, ◌+◌, ◌*◌, ◌-◌, ◌/◌, ◌<◌, ◌≤◌, List, [], ◌∷◌, arith, ap, ◌∙◌}
use Rattle.std.proofs.Math.Nat.{mul-div-le}
use Rattle.chunk.proofs.Chunks.{chunk_ends}
use Rattle.chunk.specs.Pieces.{Span, Join}

-- where the sectors of a piece lie
pub piece_low : (chunk first : ℕ) → chunk * (first / chunk) ≤ first
piece_low chunk first = mul-div-le first chunk

pub piece_high : (chunk first count : ℕ) → 0 < chunk → 0 < count → (first + count - 1) / chunk ≡ first / chunk → first + count ≤ chunk * (first / chunk) + chunk
piece_high chunk first count pos some one = let h = chunk_ends chunk (first + count - 1) pos in let e : chunk * ((first + count - 1) / chunk + 1) ≡ chunk * (first / chunk) + chunk = ap (λ x. chunk * (x + 1)) one ∙ (grind arith) in omega arith

-- a run of pieces ends behind where it begins
pub join_le : (a b : ℕ) (pieces : List Span) → Join a b pieces → a ≤ b
join_le a b [] join = omega arith
join_le a b (piece ∷ pieces) join = let h = join_le (a + piece.count) b pieces join.1 in omega arith
