use Rattle.std.proofs.Common.{◌≡◌, ℕ, ◌+◌, ◌<◌, ◌≤◌, get_or}
use Rattle.metadata_area.proofs.scan.any_after.Given as goal

abbrev pub invariant-loop-byte : goal.invariant-loop-byte
invariant-loop-byte l = (i : ℕ) → l.at ≤ i → i < l.at + l.byte-index → get_or l.bytes i 0 ≡ 0
