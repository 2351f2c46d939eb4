use Rattle.std.proofs.Common.{◌≡◌, ◌-◌, ◌≤◌, take, length, replicate}
use Rattle.command_replies.proofs.runs.even_len.Given as goal

abbrev pub invariant-loop-at : goal.invariant-loop-at
invariant-loop-at l = record {
  within : l.at ≤ length l.bytes;
  even : take l.at l.bytes ≡ replicate l.at l.byte;
}

abbrev pub decreases-loop-at : goal.decreases-loop-at
decreases-loop-at l = length l.bytes - l.at
