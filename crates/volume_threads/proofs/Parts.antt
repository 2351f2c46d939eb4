-- The parts of what is written.
use Rattle.std.proofs.Common.{◌≡◌, ◌≤◌, ℕ, ◌+◌, ◌-◌, ◌*◌, List, ◌++◌, length, take, drop, sym, ap, ◌∙◌, arith, length-take, length-drop}
use Rattle.std.proofs.lemmas.List.{take_all}
use Rattle.std.proofs.Math.Seq.{take-add}

pub part_fits : (from count total : ℕ) (bytes : List ℕ) → length bytes ≡ 512 * total → from + count * 512 ≤ 512 * total → length (take (from + count * 512 - from) (drop from bytes)) ≡ 512 * count
part_fits from count total bytes len le = simp (length-take, length-drop) (omega (arith, len, le))

-- what is written so far, and one part more
pub part_more : (from n : ℕ) (bytes : List ℕ) → take from bytes ++ take (from + n - from) (drop from bytes) ≡ take (from + n) bytes
part_more from n bytes = ap (λ k. take from bytes ++ take k (drop from bytes)) (omega arith) ∙ sym (take-add from n bytes)

-- all of it
pub part_all : (from total : ℕ) (bytes : List ℕ) → length bytes ≡ 512 * total → from ≡ 512 * total → take from bytes ≡ bytes
part_all from total bytes len end = take_all from bytes (omega (arith, len, end))
