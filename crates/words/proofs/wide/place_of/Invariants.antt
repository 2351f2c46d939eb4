use Rattle.std.proofs.Common.{◌≡◌, ◌+◌, ◌-◌, ◌≤◌, drop, eqb, length}
use Rattle.std.specs.List.{position_or_len}
use Rattle.words.proofs.wide.place_of.Given as goal

abbrev pub invariant-loop-at : goal.invariant-loop-at
invariant-loop-at l = record {
  within : l.at ≤ length l.bytes;
  before : position_or_len (λ b. eqb b l.byte) l.bytes ≡ l.at + position_or_len (λ b. eqb b l.byte) (drop l.at l.bytes);
}

abbrev pub decreases-loop-at : goal.decreases-loop-at
decreases-loop-at l = length l.bytes - l.at
